-- What no search in bytes takes, and what does not arrive, by computing.
use Rattle.std.proofs.Common.{List, None, Option, Some, [], ap, arith, codes, false, length, map, refl, suc, subst, sym, true, zero, ℕ, ◌∙◌, ◌∷◌, ◌≡◌, ◌≤◌}
use Rattle.std.specs.Prelude.{Bool, slice_get, unwrap_or}
use Rattle.std.specs.Fmt.{digits}
use Rattle.std.specs.List.{Contains, filter}
use Rattle.std.proofs.lemmas.Bool.{true≢false}
use Rattle.implib.specs.declared.machine.MachineType.TheVariants.{AMD64}
use Rattle.implib.specs.Formats.ShortImport.{ShortImport}
use Rattle.implib.specs.Link.Image.{Range}
use Rattle.implib.specs.Link.Placement.{Placed}
use Rattle.implib.specs.Members.MemberSpec.{MemberView}
use Rattle.implib.specs.Members.Msvc.{short_import_of, short_import_symbols}
use Rattle.implib.specs.Worked.Statements.{plain_export}
use Rattle.implib.proofs.Link.LinkedMembers.{among_contains}
use Rattle.implib_archive.specs.Archive.{archive_of, end_from, entries_from, entries_of, first_linker, first_linker_size, first_place, front, front_of, front_size, is_long, linker_label, linkers, long_names, member_label, member_part, name_end, name_field, names_bytes, names_label, names_part, names_size, offset_of, place_of, places_from, second_linker, second_linker_size, sorted_entries, strings_of, with_first, with_name}
use Rattle.implib_archive.specs.Leads.{headers_among, headers_in, with_header, header_for, numbered, second_header_for}
use Rattle.implib_archive.specs.Parts.{field, header_bytes, padded_part_bytes, padding, part_bytes, signature, u16_le, u32_be, u32_le}
use Rattle.implib_archive.specs.ReadBack.{read_view}
use Rattle.implib_archive.specs.Reader.{Read, data_at, first_in, linker_data, linker_in, long_name, long_name_at, long_names_in, long_names_or, member_at, name_in, number_in, numbers_in, paired, read_as, second_in, stored_at, stored_from, stored_in, texts_in, trimmed}
use Rattle.implib_archive.specs.Worked.{worked_gnu, worked_members, worked_coff}
use Rattle.implib_archive.specs.declared.kind.Kind.TheVariants.{Gnu}
use Rattle.implib_archive.proofs.WorkedBytes.{worked_archives}
use Rattle.implib_link.specs.Archives.Files.{entries_by}
use Rattle.implib_link.specs.Archives.InBytes.{First, TakesAt, header_by, AreHeadersOf}
use Rattle.implib_link.specs.Archives.Ways.{IsBuiltByLld, IsWantedBy, read_by_lld, short_of_export, shorts_in}
use Rattle.implib_link.specs.Flavors.LldImports.{IsLldProgram, imports_of_lld, placed_by_lld, addresses_at, built, hints_at, lookups_at, names_at}
use Rattle.implib_link.proofs.Flavors.LldImports.{built_pieces}
use Rattle.implib_link.specs.Search.CommandLines.{names_left}
use Rattle.implib_link.proofs.Search.Lists.{among_any, any_among, contains_among}
use Rattle.implib_link_instances.proofs.Archives.Files.{opened_files}
use Rattle.implib_link_instances.proofs.Archives.WorkedBothWay.{worked_both_way}
use Rattle.implib_link_instances.proofs.Archives.WorkedLldWay.{worked_lld_way}
use Rattle.implib_link_instances.proofs.Refused.Links.{first_letter, refused_links_closed}
use Rattle.implib_link_instances.proofs.Worked.Calls.{one_of, wide, worked_reading}
use Rattle.implib_link_instances.proofs.Worked.Lemmas.{differ, none_at, none_in}
use Rattle.implib_link_instances.proofs.Worked.Programs.{lld_opened}
use Rattle.implib_link_instances.proofs.Worked.Search.{searched}
use Rattle.implib_link_instances.specs.Refused.Archives.{RefusedAreMembersAt, RefusedCallsArrive, RefusedHasMembersAs, RefusedInBytes, RefusedIsHeaderOf, RefusedIsInDirectory, RefusedIsSearchOf, RefusedIsWantedBy, RefusedLeadsToFirst, RefusedLldArrives, ways_taken, with_header_in}
use Rattle.implib_link_instances.specs.Archives.WorkedWays.{bar_short, lld_taken}
use Rattle.implib_link_instances.specs.Refused.Links.{f_library, listing, own, f_export}
use Rattle.implib_link_instances.specs.Worked.Operands.{given_on}
use Rattle.implib.specs.Formats.Object.{object_in, bytes_at}
use Rattle.implib_link.specs.Search.Search.{claims_of, references_of, undefined_in}
use Rattle.implib.specs.Worked.Digits.{bytes_of_digits}

-- what the computing of archives has to open
unfoldable opened_bytes : Unit {0}
unfolding bytes_of_digits worked_coff worked_gnu header_for header_by numbered second_header_for data_at first_in linker_data linker_in long_name long_name_at long_names_in long_names_or member_at name_in number_in numbers_in paired read_as second_in stored_at stored_from stored_in texts_in trimmed bytes_at object_in claims_of references_of undefined_in
opened_bytes = tt

unfoldable opened_archive : Unit {0}
unfolding opened_bytes headers_among headers_in with_header archive_of end_from entries_from entries_of first_linker first_linker_size first_place front front_of front_size is_long linker_label linkers long_names member_label member_part name_end name_field names_bytes names_label names_part names_size offset_of place_of places_from second_linker second_linker_size sorted_entries strings_of with_first with_name field header_bytes padded_part_bytes padding part_bytes signature u16_le u32_be u32_le digits
opened_archive = tt

pub refused_is_header_of : RefusedIsHeaderOf
refused_is_header_of = record {
  header_is = λ x. none_at x.number 8 x.header_is;
  member_is = λ x. none_at x.number listing x.member_is;
}

these : (xs ys : List ℕ) → Some xs ≡ Some ys → xs ≡ ys
these xs ys is = cc

-- no header is at 68
not_header : (headers : List ℕ) (found : List MemberView) → 8 ∷ [] ≡ headers → AreHeadersOf headers with_header_in (68 ∷ []) found → ⊥
unfolding AreHeadersOf
not_header headers [] is at = at
not_header headers (m ∷ found) is at = other (at.0.number) (subst (λ hs. slice_get hs at.0.number ≡ Some 68) (sym is) at.0.header_is)
  where
    other : (number : ℕ) → slice_get {X = ℕ} (8 ∷ []) number ≡ Some 68 → ⊥
    other zero is = differ 8 68 (ap (λ o. unwrap_or o 0) is) (omega arith)
    other (suc n) is = cc

-- a header of no members
of_none : (headers : List ℕ) (header : ℕ) (found : List MemberView) → AreHeadersOf headers [] (header ∷ []) found → ⊥
unfolding AreHeadersOf
of_none headers header [] at = at
of_none headers header (m ∷ found) at = none_at at.0.number m at.0.member_is

nothing_read : (found : List MemberView) → None ∷ [] ≡ map (λ (m : MemberView). Some (read_view m)) found → ⊥
nothing_read [] is = cc
nothing_read (m ∷ found) is = cc

pub refused_are_members_at : RefusedAreMembersAt
unfolding AreHeadersOf opened_archive
refused_are_members_at = record {
  located = λ x. not_header x.headers x.found (these (8 ∷ []) x.headers x.located) x.at;
  at = λ x. of_none x.headers 8 x.found x.at;
  read = λ x. nothing_read x.found x.read;
  holds = λ x. x.holds;
}

f_found : header_by First worked_gnu (codes "f") ≡ Some 182
unfolding opened_bytes
f_found = refl

not_ended : (headers taken : List ℕ) → AreHeadersOf headers worked_members taken [] → TakesAt Gnu First (archive_of Gnu worked_members) object_in own taken → ⊥
unfolding AreHeadersOf claims_of references_of undefined_in
not_ended headers [] at takes =
    takes.ended (codes "f") 182 (record { left = (0, omega arith, refl); found = ap (λ bytes. header_by First bytes (codes "f")) worked_archives.gnu ∙ f_found; new = λ held. none_in 182 held })
not_ended headers (header ∷ taken) at takes = at

none_of_none : (headers taken : List ℕ) → AreHeadersOf headers [] taken (listing ∷ []) → ⊥
unfolding AreHeadersOf
none_of_none headers [] at = at
none_of_none headers (header ∷ taken) at = none_at at.0.number listing at.0.member_is

pub refused_is_search_of : RefusedIsSearchOf
refused_is_search_of = record {
  at = λ x. none_of_none x.headers x.taken x.at;
  takes = λ x. not_ended x.headers x.taken x.at x.takes;
}

-- whether something is read
abbrev is_read : Option Read → Bool
is_read None = false
is_read (Some r) = true

pub refused_leads_to_first : RefusedLeadsToFirst
unfolding opened_archive
refused_leads_to_first = record {
  somewhere = λ x. true≢false x.somewhere;
  read = λ x. true≢false (sym (ap is_read x.read));
}

pub refused_calls_arrive : RefusedCallsArrive
refused_calls_arrive = record {
  links = λ x. refused_links_closed.closed x.links;
  ends = λ x. let read = worked_reading.amd64_ends in differ 0 2 (sym (x.ends (given_on AMD64) 2 read.0 (wide AMD64) read.1)) (omega arith);
}

f_wanted : IsWantedBy AMD64 (f_library ∷ []) own [] f_library (plain_export (codes "f"))
unfolding searched
f_wanted = record {
  library = (0, omega arith, refl);
  export = (0, omega arith, refl);
  plain = refl;
  name = codes "f";
  listed = among_contains (codes "f") (short_import_symbols (plain_export (codes "f"))) (any_among (codes "f") (short_import_symbols (plain_export (codes "f"))) refl);
  left = (0, omega arith, refl);
  unclaimed = refl;
}

-- short imports of one DLL in two ways
abbrev gee : ShortImport
gee = short_import_of AMD64 (codes "Beta.dll") (plain_export (codes "gee"))

abbrev mid : ShortImport
mid = short_import_of AMD64 (codes "beta.dll") (plain_export (codes "mid"))

ways_are : shorts_in AMD64 ways_taken ≡ gee ∷ mid ∷ []
unfolding searched lld_opened
ways_are = refl

abbrev MakesPrograms : List ShortImport → Type 0
MakesPrograms shorts =
    (is_live : ShortImport → Bool) (descriptors addresses : ℕ) (image : List Range) (linked : List Placed) → IsBuiltByLld AMD64 descriptors addresses (filter is_live shorts) image linked →
    IsLldProgram AMD64 descriptors addresses (filter is_live shorts) image linked

not_alike : MakesPrograms (gee ∷ mid ∷ []) → ⊥
unfolding lld_opened
not_alike makes =
    let both : List ShortImport = gee ∷ mid ∷ [] in
    let tables : Range = built AMD64 0x2000 (imports_of_lld both) in
    let addresses : ℕ = addresses_at AMD64 0x2000 (imports_of_lld both) in
    let is_built : IsBuiltByLld AMD64 0x2000 addresses both (tables ∷ []) (placed_by_lld AMD64 addresses both ∷ []) =
    record {
      before = [];
      behind = [];
      placed = refl;
      none_before = (refl, (refl, tt));
      none_behind = (refl, (refl, tt));
      lookups = lookups_at AMD64 0x2000 (imports_of_lld both);
      hints = hints_at AMD64 0x2000 (imports_of_lld both);
      names = names_at AMD64 0x2000 (imports_of_lld both);
      pieces = built_pieces AMD64 0x2000 (imports_of_lld both) (tables ∷ []) (tt, tt) (0, omega arith, refl);
      starts = (omega arith, tt);
      ends = (omega arith, tt);
    } in
    differ 66 98 (ap first_letter ((makes (λ r. true) 0x2000 addresses (tables ∷ []) (placed_by_lld AMD64 addresses both ∷ []) is_built).agree gee mid (0, omega arith, refl) (1, omega arith, refl) refl)) (omega arith)

none_left : (name : List ℕ) → Contains (names_left (read_by_lld AMD64) [] lld_taken) name → ⊥
unfolding searched lld_opened read_by_lld
none_left name held = none_in name held

pub refused_is_wanted_by : RefusedIsWantedBy
unfolding searched
refused_is_wanted_by = record {
  library = λ x. none_in f_library x.library;
  export = λ x. none_in f_export x.export;
  plain = λ x. true≢false x.plain;
  listed = λ x. true≢false (sym (among_any (codes "g") (short_import_symbols f_export) (contains_among (codes "g") (short_import_symbols f_export)
      (subst (Contains (short_import_symbols f_export)) (one_of x.name (codes "g") (contains_among x.name (codes "g" ∷ []) x.left)) x.listed))));
  left = λ x. none_in x.name x.left;
  unclaimed = λ x. true≢false (sym (among_any x.name (short_import_symbols f_export) (contains_among x.name (short_import_symbols f_export) x.listed)) ∙ x.unclaimed);
}

pub refused_lld_arrives : RefusedLldArrives
refused_lld_arrives = record {
  shorts = λ x. none_in (short_of_export AMD64 f_library (plain_export (codes "f"))) (x.shorts f_library (plain_export (codes "f")) f_wanted);
  wanted = λ x. let found = x.wanted bar_short (subst (λ shorts. Contains shorts bar_short) (sym worked_lld_way.read) (0, omega arith, refl)) in none_left found.2.name found.2.left;
  program = λ x. not_alike (subst MakesPrograms ways_are x.program);
}

pub refused_is_in_directory : RefusedIsInDirectory
refused_is_in_directory = record {
  from = λ x. let from : 0x1000 ≤ 0x0FFF = x.from in omega (arith, from);
  to = λ x. let to : 0x1009 ≤ 0x1008 = x.to in omega (arith, to);
}

no_entries : (headers : List ℕ) → entries_by headers [] ≡ []
unfolding entries_by
no_entries [] = refl
no_entries (header ∷ headers) = refl

pub refused_has_members_as : RefusedHasMembersAs
unfolding opened_files
refused_has_members_as = record {
  located = λ x. let none : None ≡ Some x.headers = x.located in cc;
  read = λ x. differ 0 1 (ap length x.read) (omega arith);
  ordered = λ x. differ 0 1 (sym (ap length (x.ordered ∙ no_entries x.headers))) (omega arith);
}

pub refused_in_bytes : RefusedInBytes
unfolding AreHeadersOf
refused_in_bytes = record {
  are_headers_of = λ x. x;
  takes_just = λ x. (x worked_both_way.takes.taken worked_both_way.takes.takes).holds;
}
