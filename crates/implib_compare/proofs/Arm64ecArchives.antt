-- The members of the archives of libraries for ARM64EC.
use Rattle.std.proofs.Common.{◌≡◌, ◌∙◌, ℕ, Bool, true, false, List, [], ◌∷◌, Option, None, Some, ap, codes, if◌then◌else◌, map, refl, sym}
use Rattle.std.specs.List.{cons_option, filter_map}
use Rattle.std.specs.Option.{option_and_then, option_map}
use Rattle.std.proofs.lemmas.Slice.Eq.{bytes_eq-Decides}
use Rattle.implib.specs.Members.MemberSpec.{MemberView}
use Rattle.implib_archive.specs.ReadBack.{read_view}
use Rattle.implib_archive.specs.Reader.{Read, Stored, long_names_in, members_among, name_in, number_in, trimmed}
use Rattle.implib_archive.specs.declared.kind.Kind.TheVariants.{Coff}
use Rattle.implib_arm64ec.specs.Archive.{ec_archive, library_refusal}
use Rattle.implib_arm64ec.specs.ArchiveLaws.{EachIsReadBack, ec_parts}
use Rattle.implib_arm64ec.specs.ArchiveReader.{ec_members_in, is_ec_index, without_ec_index}
use Rattle.implib_arm64ec.specs.Library.{LibraryView, members_of}
use Rattle.implib_read.specs.Archives.{Part, SameParts, archive_in, member_as, member_of, parts_in, said, said_by_part}
use Rattle.implib_read.specs.Archives.{archive_of as archive_of_parts}
use Rattle.implib_read.specs.Archives.{long_names_in as names_in_parts}
use Rattle.implib_read.specs.MemberNames.{MemberName, LinkerMember, LongNamesMember, NameAt, Named, Special, member_name}
use Rattle.implib_read.proofs.OwnArchives.{bytes_as, bytes_by, found_by, same_bytes, step}
use Rattle.implib_compare.specs.Meant.{Arm64ecMembersFound}

-- the bytes of a member, by what is said of a part
bytes_of_said : MemberName × List ℕ → Option (List ℕ)
bytes_of_said s = bytes_as s.0 s.1

bytes_of_parts : (names : List ℕ) (parts : List Part) → map (λ m. m.bytes) (filter_map (member_of names) parts) ≡ filter_map bytes_of_said (map said_by_part parts)
unfolding bytes_of_said bytes_as
bytes_of_parts names [] = refl
bytes_of_parts names (p ∷ parts) = by (bytes_of_parts names parts) p.name
  where
    by : map (λ m. m.bytes) (filter_map (member_of names) parts) ≡ filter_map bytes_of_said (map said_by_part parts) → (n : MemberName)
        → map (λ m. m.bytes) (cons_option (member_as names p.offset p.contents n) (filter_map (member_of names) parts))
        ≡ cons_option (bytes_as n p.contents) (filter_map bytes_of_said (map said_by_part parts))
    by same LinkerMember = same
    by same LongNamesMember = same
    by same (NameAt place) = ap (λ bs. p.contents ∷ bs) same
    by same (Named text) = ap (λ bs. p.contents ∷ bs) same
    by same (Special text) = same

-- the EC index is no member
no_member : (s : Stored) → is_ec_index s ≡ true → bytes_as (member_name s.field) s.contents ≡ None
unfolding bytes_as member_name number_in trimmed
no_member s is = ap (λ field. bytes_as (member_name field) s.contents) ((bytes_eq-Decides s.field (codes "/<ECSYMBOLS>/   ")).0 is)

bytes_of_reads : (names : List ℕ) (parts : List Stored) (reads : List Read) → members_among Coff names (without_ec_index parts) ≡ Some reads
    → filter_map bytes_of_said (map said parts) ≡ map (λ r. r.bytes) reads
unfolding members_among without_ec_index bytes_of_said
bytes_of_reads names [] reads is = let none : [] ≡ reads = cc in ap (map (λ r. r.bytes)) none
bytes_of_reads names (s ∷ parts) reads is = by (λ more found. bytes_of_reads names parts more found) (is_ec_index s) refl is
  where
    by : ((more : List Read) → members_among Coff names (without_ec_index parts) ≡ Some more → filter_map bytes_of_said (map said parts) ≡ map (λ r. r.bytes) more)
        → (b : Bool) → is_ec_index s ≡ b → members_among Coff names (if b then without_ec_index parts else s ∷ without_ec_index parts) ≡ Some reads
        → filter_map bytes_of_said (map said (s ∷ parts)) ≡ map (λ r. r.bytes) reads
    by behind true ec found = ap (λ o. cons_option o (filter_map bytes_of_said (map said parts))) (no_member s ec) ∙ behind reads found
    by behind false other found =
        let one = step Coff names (name_in s.field) s.contents (members_among Coff names (without_ec_index parts)) reads found in
        ap (λ o. cons_option o (filter_map bytes_of_said (map said parts))) (same_bytes s.field s.contents one.known)
        ∙ ap (cons_option (bytes_by (name_in s.field) s.contents)) (behind one.later one.rest)
        ∙ sym one.bytes

view_bytes : (members : List MemberView) → map (λ r. r.bytes) (map read_view members) ≡ map (λ m. m.bytes) members
view_bytes [] = refl
view_bytes (m ∷ members) = ap (λ bs. m.bytes ∷ bs) (view_bytes members)

pub arm64ec_members_found : EachIsReadBack → SameParts → Arm64ecMembersFound
unfolding archive_in ec_members_in
arm64ec_members_found each same l accepted =
    let bytes = ec_archive l in
    let parts = ec_parts l in
    let back = each l accepted in
    let both = found_by bytes parts (parts_in bytes) refl (same bytes parts back.parts) in
    let read : members_among Coff (long_names_in parts) (without_ec_index parts) ≡ Some (map read_view (members_of l)) =
    sym (ap (option_and_then (λ ps. members_among Coff (long_names_in ps) (without_ec_index ps))) back.parts) ∙ back.in_order in
    ap (λ o. option_map (λ a. map (λ m. m.bytes) a.members) (option_map archive_of_parts o)) both.is
    ∙ ap Some (bytes_of_parts (names_in_parts both.found) both.found
    ∙ ap (filter_map bytes_of_said) both.same
    ∙ bytes_of_reads (long_names_in parts) parts (map read_view (members_of l)) read
    ∙ view_bytes (members_of l))
