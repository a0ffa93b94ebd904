-- The indexes of a library's archive lead to its members.
use Rattle.std.proofs.Common.{◌≡◌, ℕ, ◌-◌, ◌^◌, ◌<◌, ◌≤◌, Bool, true, false, List, [], ◌∷◌, ◌++◌, Some, bytes_eq, codes, if◌then◌else◌, is_some, length, map, nat_lt, option_and_then, refl, sym, ap, subst, ◌∙◌, append_assoc, arith}
use Rattle.std.specs.Prelude.{slice_get}
use Rattle.std.specs.List.{AllByRecursion}
use Rattle.std.specs.Map.{lookup}
use Rattle.std.specs.Option.{option_map}
use Rattle.implib_archive.specs.Archive.{entries_of, first_linker, names_bytes, place_of, second_linker, sorted_entries}
use Rattle.implib_archive.specs.Leads.{first_lister, header_for, numbered, second_header_for}
use Rattle.implib_archive.specs.Parts.{padding}
use Rattle.implib_archive.specs.ReadBack.{padded, read_view, stored, stored_linkers, stored_member, stored_names}
use Rattle.implib_archive.specs.Reader.{Stored, first_in, member_at, second_in}
use Rattle.implib_archive.specs.declared.kind.Kind.TheVariants.{Coff}
use Rattle.implib_archive.proofs.Distinct.{distinct_of-coff}
use Rattle.implib_archive.proofs.FoundIndex.{AreTexts, entries_read, first_read, linker_there, second_data, second_read}
use Rattle.implib_archive.proofs.Leading.{each_small, entries_texts, map_twice, near_at, numbers_lead, short_places, sorted_texts}
use Rattle.implib_archive.proofs.Lookups.{entries_rise, index_lookup, listed_somewhere, lookup_mapped, sorted_lookup}
use Rattle.implib_archive.proofs.Numbered.{Each, each_entry, each_sorted, each_weaker, sorted_as_many}
use Rattle.implib_archive.proofs.Whole.{length-places}
use Rattle.implib_arm64ec.specs.Archive.{arm64_entries, ec_archive, ec_entries, ec_index, first_member_place, library_names, member_places}
use Rattle.implib_arm64ec.specs.ArchiveLaws.{EachIndexLeads, ec_parts}
use Rattle.implib_arm64ec.specs.ArchiveReader.{ec_data_in, ec_header_for, ec_symbols_in, is_ec_index, numbered_symbols}
use Rattle.implib_arm64ec.specs.Library.{LibraryView, for_arm64, for_arm64ec, members_of}
use Rattle.implib_arm64ec.proofs.Accepted.{Accepted, accepted_library, ec_short, linkers_fit}
use Rattle.implib_arm64ec.proofs.Alike.{none_for_arm64, none_for_arm64ec, same_many, same_many_ec, same_read}
use Rattle.implib_arm64ec.proofs.FoundParts.{each_is_read_back, ec_found, headers_found, headers_of_parts, headers_read, linker_other, members_there, names_other, parts_found}

-- The EC index is found behind the linker members and the long names.

other_data : (s : Stored) (parts : List Stored) → is_ec_index s ≡ false → ec_data_in (s ∷ parts) ≡ ec_data_in parts
unfolding ec_data_in
other_data s parts other = ap (λ b. if b then Some s.contents else ec_data_in parts) other

here_data : (contents : List ℕ) (parts : List Stored) → ec_data_in (stored (codes "/<ECSYMBOLS>/") contents ∷ parts) ≡ Some contents
unfolding ec_data_in
here_data contents parts = ap (λ b. if b then Some contents else ec_data_in parts) (ec_found contents)

past_names : (text : List ℕ) (parts : List Stored) → ec_data_in (stored_names text ++ parts) ≡ ec_data_in parts
unfolding stored_names
past_names text parts = by_test (nat_lt 0 (length text))
  where
    by_test : (b : Bool) → ec_data_in ((if b then stored (codes "//") (padded 10 text) ∷ [] else []) ++ parts) ≡ ec_data_in parts
    by_test true = other_data (stored (codes "//") (padded 10 text)) parts (names_other (padded 10 text))
    by_test false = refl

data_found : (l : LibraryView) → ec_data_in (ec_parts l) ≡ Some (padded 0 (ec_index (ec_entries l)))
unfolding ec_parts stored_linkers
data_found l =
    let names = library_names l in
    let text = names_bytes Coff names in
    let places = member_places l in
    let one = stored (codes "/") (padded 0 (first_linker places (arm64_entries l))) in
    let two = stored (codes "/") (padded 0 (second_linker places (sorted_entries (arm64_entries l)))) in
    let contents = padded 0 (ec_index (ec_entries l)) in
    let members = map (stored_member names) (for_arm64 l) in
    let behind = stored (codes "/<ECSYMBOLS>/") contents ∷ members in
    other_data one (two ∷ (stored_names text ++ behind)) (linker_other one.contents)
    ∙ (other_data two (stored_names text ++ behind) (linker_other two.contents) ∙ (past_names text behind ∙ here_data contents members))

symbols_read : (entries : List (List ℕ × ℕ)) (pad : List ℕ) → length entries < 2 ^ 32 → AllByRecursion (λ (e : List ℕ × ℕ). e.1 < 2 ^ 16) entries → AreTexts entries
    → numbered_symbols (ec_index entries ++ pad) ≡ entries
unfolding numbered_symbols ec_index
symbols_read entries pad few small texts = grind (arith, append_assoc, entries_read, few, texts)

-- numbers of an index that lead to members
within : (places : List ℕ) (n : ℕ) (entries : List (List ℕ × ℕ)) → length places ≡ n → Each (λ k. (0 < k) × (k ≤ n)) entries → Each (λ k. (0 < k) × (k ≤ length places)) entries
within places n entries same each = subst (λ m. Each (λ k. (0 < k) × (k ≤ m)) entries) (sym same) each

small_numbers : (n : ℕ) (entries : List (List ℕ × ℕ)) → n < 65535 → Each (λ k. (0 < k) × (k ≤ n)) entries → AllByRecursion (λ (e : List ℕ × ℕ). e.1 < 2 ^ 16) (sorted_entries entries)
small_numbers n entries few each = grind (arith, each_small, each_sorted, each_weaker, few)

module _ (l : LibraryView) (a : Accepted l) where
  many : length (member_places l) ≡ length (for_arm64 l)
  many = length-places (first_member_place l) (for_arm64 l)

  many_ec : length (member_places l) ≡ length (for_arm64ec l)
  many_ec = many ∙ (same_many l ∙ sym (same_many_ec l))

  few : length (for_arm64 l) < 65535
  few = omega (arith, a.few, same_many l)

  few_ec : length (for_arm64ec l) < 65535
  few_ec = omega (arith, a.few, same_many_ec l)

  places_near : AllByRecursion (λ n. n < 2 ^ 32) (member_places l)
  places_near = short_places (first_member_place l) (for_arm64 l) a.near

  place_near : (n : ℕ) → place_of (member_places l) n < 2 ^ 32
  unfolding place_of
  place_near n = near_at (member_places l) (n - 1) places_near

  first_at : slice_get (ec_parts l) 0 ≡ Some (stored (codes "/") (padded 0 (first_linker (member_places l) (arm64_entries l))))
  unfolding ec_parts stored_linkers
  first_at = refl

  second_at : slice_get (ec_parts l) 1 ≡ Some (stored (codes "/") (padded 0 (second_linker (member_places l) (sorted_entries (arm64_entries l)))))
  unfolding ec_parts stored_linkers
  second_at = refl

  texts : AreTexts (arm64_entries l)
  texts = entries_texts Coff (for_arm64 l) (none_for_arm64 l a.none)

  -- the first linker member
  first_found : (symbol : List ℕ) → header_for (ec_archive l) symbol ≡ lookup (bytes_eq symbol) (map (λ e. (e.0, place_of (member_places l) e.1)) (arm64_entries l))
  unfolding header_for first_in
  first_found symbol = grind (arith, linker_there, parts_found, first_at, option_and_then, first_read, linkers_fit, place_near, texts)

  -- the second linker member
  second_found : second_in (ec_archive l) ≡ Some (member_places l, sorted_entries (arm64_entries l))
  unfolding second_in
  second_found =
      let places = member_places l in
      let entries = arm64_entries l in
      let sorted = sorted_entries entries in
      let data' = second_linker places sorted in
      ap (option_map second_data) (linker_there 1 (ec_archive l) (ec_parts l) (padded 0 data') (parts_found l a) second_at)
      ∙ ap (λ t. Some t) (second_read places sorted (padding 0 (length data')) (omega (arith, many, few)) places_near
      (omega (arith, (sorted_as_many (for_arm64 l)).0, (linkers_fit l a).short)) (small_numbers (length (for_arm64 l)) entries few (each_entry Coff (for_arm64 l))) (sorted_texts entries texts))

  -- the EC index
  symbols_found : ec_symbols_in (ec_archive l) ≡ Some (ec_entries l)
  unfolding ec_symbols_in
  symbols_found =
      let entries = entries_of Coff (for_arm64ec l) in
      let data' = ec_index (ec_entries l) in
      ap (λ t. option_map numbered_symbols (option_and_then ec_data_in t)) (parts_found l a)
      ∙ (ap (option_map numbered_symbols) (data_found l)
      ∙ ap (λ t. Some t) (symbols_read (ec_entries l) (padding 0 (length data')) (omega (arith, ec_short l a)) (small_numbers (length (for_arm64ec l)) entries few_ec (each_entry Coff (for_arm64ec l)))
      (sorted_texts entries (entries_texts Coff (for_arm64ec l) (none_for_arm64ec l a.none)))))

  -- sorted entries lead where those in order do
  by_numbers : (symbol : List ℕ) (entries : List (List ℕ × ℕ)) → lookup (bytes_eq symbol) (sorted_entries entries) ≡ lookup (bytes_eq symbol) entries → Each (λ k. (0 < k) × (k ≤ length (member_places l))) entries
      → option_and_then (numbered (member_places l)) (lookup (bytes_eq symbol) (sorted_entries entries)) ≡ lookup (bytes_eq symbol) (map (λ e. (e.0, place_of (member_places l) e.1)) entries)
  by_numbers symbol entries same each = grind (arith, option_and_then (numbered (member_places l)), numbers_lead (member_places l) symbol entries each, lookup_mapped symbol (place_of (member_places l)) entries)

  second_leads : (symbol : List ℕ) → second_header_for (ec_archive l) symbol ≡ header_for (ec_archive l) symbol
  unfolding second_header_for
  second_leads symbol =
      let entries = arm64_entries l in
      ap (option_and_then (λ second. option_and_then (numbered second.0) (lookup (bytes_eq symbol) second.1))) second_found
      ∙ (by_numbers symbol entries (sorted_lookup entries symbol (distinct_of-coff (for_arm64 l))) (within (member_places l) (length (for_arm64 l)) entries many (each_entry Coff (for_arm64 l)))
      ∙ sym (first_found symbol))

  ec_leads : (symbol : List ℕ) → ec_header_for (ec_archive l) symbol ≡ option_map (λ f. f.0) (first_lister (member_places l) (for_arm64ec l) symbol)
  unfolding ec_header_for
  ec_leads symbol =
      let members = for_arm64ec l in
      let entries = entries_of Coff members in
      ap (option_and_then (λ second. option_and_then (λ entries. option_and_then (numbered second.0) (lookup (bytes_eq symbol) entries)) (ec_symbols_in (ec_archive l)))) second_found
      ∙ (ap (option_and_then (λ entries. option_and_then (numbered (member_places l)) (lookup (bytes_eq symbol) entries))) symbols_found
      ∙ (by_numbers symbol entries (sorted_lookup entries symbol (distinct_of-coff members)) (within (member_places l) (length members) entries many_ec (each_entry Coff members))
      ∙ index_lookup Coff members (member_places l) symbol many_ec))

pub each_index_leads : EachIndexLeads
each_index_leads l accepted =
    let a = accepted_library l accepted in
    let bytes = ec_archive l in
    let back = each_is_read_back l accepted in
    record {
      headers = member_places l;
      found = headers_found l a;
      read = ap (map (member_at Coff bytes)) (sym (headers_of_parts l a))
          ∙ (headers_read bytes (ec_parts l) (parts_found l a) 8 (ec_parts l) (map read_view (for_arm64 l)) back.laid_out (members_there l a)
          ∙ (ap (map (λ r. Some r)) (same_read l) ∙ map_twice (members_of l)));
      arm64 = λ symbol. first_found l a symbol ∙ index_lookup Coff (for_arm64 l) (member_places l) symbol (many l a);
      second = second_leads l a;
      arm64ec = ec_leads l a;
      listed = λ symbol. ap is_some (ec_leads l a symbol) ∙ listed_somewhere (member_places l) (for_arm64ec l) symbol (many_ec l a);
      symbols = ec_entries l;
      symbols_found = symbols_found l a;
      rises = entries_rise (entries_of Coff (for_arm64ec l));
    }
