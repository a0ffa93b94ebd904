-- The members of the archives that `implib_archive` makes.
use Rattle.std.proofs.Common.{arith, ◌≡◌, ◌∙◌, ℕ, Bool, true, false, not, List, [], ◌∷◌, ◌++◌, Option, None, Some, ap, bytes_eq, codes, if◌then◌else◌, map, nat_eq, refl, sym, take_while}
use Rattle.std.specs.List.{cons_option, filter_map}
use Rattle.std.specs.Option.{option_map}
use Rattle.std.proofs.lemmas.Bool.{true≢false}
use Rattle.implib.specs.Members.MemberSpec.{MemberView}
use Rattle.implib_archive.specs.Archive.{archive_of}
use Rattle.implib_archive.specs.ReadBack.{MembersReadBack, PartsReadBack, parts_of, read_view}
use Rattle.implib_archive.specs.Reader.{Name, Linker, LongNames, LongAt, Short, Unknown, Read, Stored, before_others, long_name_at, members_among, members_in, name_in, read_as}
use Rattle.implib_archive.specs.Refusal.{refusal_of}
use Rattle.implib_archive.specs.declared.kind.Kind.{Kind}
use Rattle.implib_read.specs.Archives.{Part, SameParts, archive_in, member_of, parts_in, said, said_by_part}
use Rattle.implib_read.specs.MemberNames.{MemberName, LinkerMember, LongNamesMember, NameAt, Named, Special, begins_with_byte, member_name, slash_name, without_slash}
use Rattle.implib_read.specs.OwnLibraries.{member_bytes_in}

-- the bytes of a member, by its name in either reader
unfoldable pub bytes_as : MemberName → List ℕ → Option (List ℕ)
bytes_as LinkerMember contents = None
bytes_as LongNamesMember contents = None
bytes_as (NameAt offset) contents = Some contents
bytes_as (Named text) contents = Some contents
bytes_as (Special text) contents = None

unfoldable pub bytes_by : Name → List ℕ → Option (List ℕ)
bytes_by Linker contents = None
bytes_by LongNames contents = None
bytes_by (LongAt offset) contents = Some contents
bytes_by (Short text) contents = Some contents
bytes_by Unknown contents = None

unfoldable pub is_known : Name → Bool
is_known Linker = true
is_known LongNames = true
is_known (LongAt offset) = true
is_known (Short text) = true
is_known Unknown = false

-- what either reader says of a name, by the tests that it makes
by_tests : (linker long short empty slash : Bool) (text name : List ℕ) (number : Option ℕ) (contents : List ℕ)
    → (linker ≡ false → short ≡ true → slash ≡ false)
    → is_known (if linker then Linker else (if long then LongNames else (if short then Short name else (if empty then long_name_at number else Unknown)))) ≡ true
    → bytes_as (if linker then LinkerMember else if long then LongNamesMember else if slash then slash_name text number else Named (without_slash text)) contents
    ≡ bytes_by (if linker then Linker else (if long then LongNames else (if short then Short name else (if empty then long_name_at number else Unknown)))) contents
unfolding bytes_as bytes_by is_known long_name_at
by_tests linker long short empty slash text name number contents apart known = grind (arith, true≢false)

-- a text that a slash ends, with none before it, begins with no slash unless it is one alone
apart_by : (text : List ℕ) → bytes_eq text (codes "/") ≡ false → bytes_eq text (take_while (λ c. not (nat_eq c 47)) text ++ 47 ∷ []) ≡ true → begins_with_byte 47 text ≡ false
apart_by text other ends = grind arith

pub same_bytes : (field contents : List ℕ) → is_known (name_in field) ≡ true → bytes_as (member_name field) contents ≡ bytes_by (name_in field) contents
unfolding name_in member_name
same_bytes field contents known = grind (arith, by_tests, apart_by)

-- the bytes of the members among parts, by what this reader says of them
bytes_of_said : MemberName × List ℕ → Option (List ℕ)
bytes_of_said s = bytes_as s.0 s.1

bytes_of_parts : (names : List ℕ) (parts : List Part) → map (λ m. m.bytes) (filter_map (member_of names) parts) ≡ filter_map bytes_of_said (map said_by_part parts)
unfolding bytes_of_said bytes_as
bytes_of_parts names [] = refl
bytes_of_parts names (p ∷ parts) = grind (arith, bytes_of_parts names parts)

-- a step over a part, in the reader of `implib_archive`
pub record Step (n : Name) (contents : List ℕ) (others : Option (List Read)) (reads : List Read) : Type 0 where
  pub known : is_known n ≡ true
  pub later : List Read
  pub rest : others ≡ Some later
  pub bytes : map (λ r. r.bytes) reads ≡ cons_option (bytes_by n contents) (map (λ r. r.bytes) later)

with_one : (n : Name) (m : Read) (contents : List ℕ) (others : Option (List Read)) (reads : List Read) → is_known n ≡ true → bytes_by n contents ≡ Some m.bytes
    → option_map (λ more. m ∷ more) others ≡ Some reads → Step n contents others reads
with_one n m contents None reads known has is = cc
with_one n m contents (Some more) reads known has is =
    let whole : m ∷ more ≡ reads = cc in
    record {
      known = known;
      later = more;
      rest = refl;
      bytes = sym (ap (map (λ r. r.bytes)) whole) ∙ sym (ap (λ o. cons_option o (map (λ r. r.bytes) more)) has);
    }

pub step : (kind : Kind) (names : List ℕ) (n : Name) (contents : List ℕ) (others : Option (List Read)) (reads : List Read) → before_others kind names n contents others ≡ Some reads → Step n contents others reads
unfolding before_others read_as is_known bytes_by
step kind names Linker contents others reads is = record { known = refl; later = reads; rest = is; bytes = refl }
step kind names LongNames contents others reads is = record { known = refl; later = reads; rest = is; bytes = refl }
step kind names (LongAt offset) contents others reads is = with_one (LongAt offset) _ contents others reads refl refl is
step kind names (Short text) contents others reads is = with_one (Short text) _ contents others reads refl refl is
step kind names Unknown contents others reads is = cc

-- what both readers have of parts
bytes_of_reads : (kind : Kind) (names : List ℕ) (parts : List Stored) (reads : List Read) → members_among kind names parts ≡ Some reads
    → filter_map bytes_of_said (map said parts) ≡ map (λ r. r.bytes) reads
unfolding members_among bytes_of_said
bytes_of_reads kind names [] reads is = let none : [] ≡ reads = cc in ap (map (λ r. r.bytes)) none
bytes_of_reads kind names (s ∷ parts) reads is =
    let one = step kind names (name_in s.field) s.contents (members_among kind names parts) reads is in
    grind (arith, same_bytes, bytes_of_reads kind names parts one.later one.rest)

view_bytes : (members : List MemberView) → map (λ r. r.bytes) (map read_view members) ≡ map (λ m. m.bytes) members
view_bytes [] = refl
view_bytes (m ∷ members) = ap (λ bs. m.bytes ∷ bs) (view_bytes members)

-- the parts that both have
pub record Found (bytes : List ℕ) (parts : List Stored) : Type 0 where
  pub found : List Part
  pub is : parts_in bytes ≡ Some found
  pub same : map said_by_part found ≡ map said parts

pub found_by : (bytes : List ℕ) (parts : List Stored) (o : Option (List Part)) → parts_in bytes ≡ o → option_map (map said_by_part) o ≡ Some (map said parts) → Found bytes parts
found_by bytes parts None is same = cc
found_by bytes parts (Some found) is same = record { found = found; is = is; same = cc }

pub own_members_found : PartsReadBack → MembersReadBack → SameParts → (kind : Kind) (members : List MemberView) → refusal_of kind members ≡ None
    → member_bytes_in (archive_of kind members) ≡ Some (map (λ m. m.bytes) members)
unfolding archive_in members_in
own_members_found stored back same kind members accepted = grind (arith, bytes_of_parts, bytes_of_reads, view_bytes, same (archive_of kind members) (parts_of kind members) (stored kind members accepted))
