-- Grouping and sorting lose nothing, double nothing, and put nothing with another DLL.
use Rattle.std.proofs.Common.{◌≡◌, ℕ, suc, ◌+◌, List, [], ◌∷◌, ◌++◌, Some, refl, ap, sym, ◌∙◌, subst, inl, inr, arith, true, ◌*◌, ◌-◌, ◌%◌, ◌^◌, ◌<◌, ◌≤◌, length, zero, map}
use Rattle.std.specs.Prelude.{◌⊎◌, slice_get, bytes_eq}
use Rattle.std.specs.List.{AllByRecursion, flat_map, Contains, filter, filter_map}
use Rattle.std.proofs.lemmas.Bool.{cases_Bool}
use Rattle.std.proofs.lemmas.Slice.Eq.{bytes_eq-Decides}
use Rattle.implib.specs.Formats.ShortImport.{ShortImport, ask_of_short_import}
use Rattle.implib.specs.Import.{imp_symbol, Ask, Name, Ordinal}
use Rattle.implib.proofs.Link.Ranges.{Among, among_first, among_later, located_parts, range_located, all_among, among_back, among_front}
use Rattle.implib_link.specs.Flavors.LldImports.{dll_of_group, grouped, imp_symbols_of, in_small, is_of_group, put_in, put_into, ArePiecesAt, IsAskable, IsImportable, addresses_at, all_hints, all_names, built, built_bytes, descriptor_built, directory_built, directory_end, hint_and_text, hint_built, hints_at, hints_built, lookups_at, names_at, tables_built, thunk_built, thunks_built, thunks_until, IsImportedBy, IsLldProgram, LldLinks, entries_of_groups, group_entries, imported_by, imports_of_lld, placed_by_lld}
use Rattle.implib_link.proofs.Search.ArchiveMembers.{times, times_both, distinct_from, few_from}
use Rattle.std.proofs.Math.Nat.{mul-add}
use Rattle.std.proofs.lemmas.List.{length-append, length-replicate, append-nil, map-append}
use Rattle.implib.specs.declared.machine.MachineType.{MachineType}
use Rattle.implib.specs.Formats.Bytes.{u16_bytes, u32_bytes}
use Rattle.implib.specs.Link.Image.{AllApart, Range, range_end}
use Rattle.implib.specs.Link.Load.{BytesAt}
use Rattle.implib.specs.Members.ImportTables.{thunk_width, zeros}
use Rattle.implib.proofs.Link.Descriptors.{LoadsFrom, descriptor_loads}
use Rattle.implib.proofs.Link.Placement.{at_least, length-thunk_of}
use Rattle.implib.proofs.Link.Thunks.{StrictTableAt, StrictThunkAt, length-address, length-u16, name_located, ordinal_located}
use Rattle.implib_link.proofs.Search.Lists.{contains_among, all_from}
use Rattle.implib_link.specs.Directory.{DirectoryAt, Imported}
use Rattle.implib_link.proofs.Gnu.Stubs.{wide_thunk as some_bytes}
use Rattle.implib_link.proofs.Gnu.Filling.{zero_table, table_with, bounds_of}
use Rattle.implib_link.proofs.Gnu.Loaded.{by_width, times_none as nothing_before, plus_none}
use Rattle.std.proofs.lemmas.List.Elements.{filter_map-append}
use Rattle.implib.specs.Link.Placement.{Addresses, At, Placed}
use Rattle.implib.specs.Link.Resolution.{SymbolDefinition, defined_by_entry, definitions_of}
use Rattle.implib.proofs.Link.Definitions.{only_definition}
use Rattle.implib.proofs.Link.LinkedMembers.{among_contains, among_map, all_at}
use Rattle.implib_link.proofs.Flavors.Block.{table_sum, gets_address}
use Rattle.implib_link.proofs.Gnu.Others.{definitions_parts}
use Rattle.std.proofs.lemmas.Option.{slice_get-map}
use Rattle.std.specs.Option.{option_map}

-- the DLL of a group, by which groups differ
abbrev pub key : List ShortImport → List ℕ
key group = in_small (dll_of_group group)

-- all of a group are of one DLL
abbrev pub OneDll : List ShortImport → Type 0
OneDll group = AllByRecursion (λ r. in_small r.dll ≡ key group) group

-- Putting one in.

pub put_all : (P : ShortImport → Type 0) (r : ShortImport) (group : List ShortImport) → P r → AllByRecursion P group → AllByRecursion P (put_in r group)
unfolding put_in
put_all P r [] own all = (own, tt)
put_all P r (s ∷ group) own all = grind (arith, put_all P r group own all.1)

put_one : (r : ShortImport) (group : List ShortImport) → in_small r.dll ≡ key group → OneDll group → OneDll (put_in r group)
unfolding put_in
put_one r group same one =
    subst (λ k. AllByRecursion (λ (s : ShortImport). in_small s.dll ≡ k) (put_in r group)) (sym (grind arith))
    (put_all (λ (s : ShortImport). in_small s.dll ≡ in_small r.dll) r group refl (subst (λ k. AllByRecursion (λ (s : ShortImport). in_small s.dll ≡ k) group) (sym same) one))

put_holds : (x r : ShortImport) (group : List ShortImport) → Among x (r ∷ group) → Among x (put_in r group)
unfolding put_in Among
put_holds x r [] m = m
put_holds x r (s ∷ group) m = grind (arith, put_holds x r group)

put_times : (name : List ℕ) (r : ShortImport) (group : List ShortImport) → times name (imp_symbols_of (put_in r group)) ≡ times name (imp_symbol r.symbol ∷ imp_symbols_of group)
unfolding put_in times
put_times name r [] = refl
put_times name r (s ∷ group) = grind (arith, put_times name r group)

-- Putting one into groups.

into_all : (P : ShortImport → Type 0) (r : ShortImport) (groups : List (List ShortImport)) → P r → AllByRecursion (AllByRecursion P) groups → AllByRecursion (AllByRecursion P) (put_into r groups)
unfolding put_into
into_all P r [] own all = ((own, tt), tt)
into_all P r (group ∷ groups) own all = grind (arith, into_all P r groups own all.1, group, put_all)

into_one : (r : ShortImport) (groups : List (List ShortImport)) → AllByRecursion OneDll groups → AllByRecursion OneDll (put_into r groups)
unfolding put_into
into_one r [] one = ((refl, tt), tt)
into_one r (group ∷ groups) one = grind (arith, into_one r groups one.1, group, put_one, bytes_eq-Decides)

-- one is in some group
pub InGroups : ShortImport → List (List ShortImport) → Type 0
InGroups x [] = ⊥
InGroups x (group ∷ groups) = Among x group ⊎ InGroups x groups

into_own : (r : ShortImport) (groups : List (List ShortImport)) → InGroups r (put_into r groups)
unfolding put_into InGroups
into_own r [] = inl (among_first r [])
into_own r (group ∷ groups) =
    elim (cases_Bool (is_of_group r group)) [
      | inl is ↦ rw is (inl (put_holds r r group (among_first r group)))
      | inr is ↦ rw is (inr (into_own r groups))
    ]

into_other : (x r : ShortImport) (groups : List (List ShortImport)) → InGroups x groups → InGroups x (put_into r groups)
unfolding put_into InGroups
into_other x r [] m = absurd m
into_other x r (group ∷ groups) m =
    elim (cases_Bool (is_of_group r group)) [
      | inl is ↦ rw is (elim m [ inl own ↦ inl (put_holds x r group (among_later x r group own)) | inr later ↦ inr later ])
      | inr is ↦ rw is (elim m [ inl own ↦ inl own | inr later ↦ inr (into_other x r groups later) ])
    ]

into_times : (name : List ℕ) (r : ShortImport) (groups : List (List ShortImport)) →
    times name (flat_map imp_symbols_of (put_into r groups)) ≡ times name (imp_symbol r.symbol ∷ flat_map imp_symbols_of groups)
unfolding put_into times
into_times name r [] = refl
into_times name r (group ∷ groups) = grind (arith, into_times name r groups, times_both, group, times, put_times)

-- All.

pub grouped_all : (P : ShortImport → Type 0) (taken : List ShortImport) → AllByRecursion P taken → AllByRecursion (AllByRecursion P) (grouped taken)
unfolding grouped
grouped_all P [] all = tt
grouped_all P (r ∷ taken) all = into_all P r (grouped taken) all.0 (grouped_all P taken all.1)

pub grouped_one : (taken : List ShortImport) → AllByRecursion OneDll (grouped taken)
unfolding grouped
grouped_one [] = tt
grouped_one (r ∷ taken) = into_one r (grouped taken) (grouped_one taken)

pub grouped_holds : (x : ShortImport) (taken : List ShortImport) → Among x taken → InGroups x (grouped taken)
unfolding grouped Among
grouped_holds x [] m = absurd m
grouped_holds x (r ∷ taken) (inl e) = subst (λ (y : ShortImport). InGroups y (put_into r (grouped taken))) (sym e) (into_own r (grouped taken))
grouped_holds x (r ∷ taken) (inr m) = into_other x r (grouped taken) (grouped_holds x taken m)

pub grouped_times : (name : List ℕ) (taken : List ShortImport) → times name (flat_map imp_symbols_of (grouped taken)) ≡ times name (imp_symbols_of taken)
unfolding grouped times
grouped_times name [] = refl
grouped_times name (r ∷ taken) = (let later = grouped_times name taken in into_times name r (grouped taken) ∙ omega arith)

-- Where one is.

pub record PlaceIn (x : ShortImport) (group : List ShortImport) : Type 0 where
  pub j : ℕ
  pub is : slice_get group j ≡ Some x

pub record Place (x : ShortImport) (groups : List (List ShortImport)) : Type 0 where
  pub i : ℕ
  pub group : List ShortImport
  pub its_group : slice_get groups i ≡ Some group
  pub j : ℕ
  pub is : slice_get group j ≡ Some x

place_in : (x : ShortImport) (group : List ShortImport) → Among x group → PlaceIn x group
unfolding Among
place_in x [] m = absurd m
place_in x (r ∷ group) (inl e) = record { j = 0; is = ap Some (sym e) }
place_in x (r ∷ group) (inr m) = (let later = place_in x group m in record { j = suc later.j; is = later.is })

pub in_place : (x : ShortImport) (groups : List (List ShortImport)) → InGroups x groups → Place x groups
unfolding InGroups
in_place x [] m = absurd m
in_place x (group ∷ groups) (inl own) = (let at = place_in x group own in record { i = 0; group = group; its_group = refl; j = at.j; is = at.is })
in_place x (group ∷ groups) (inr later) = (let at = in_place x groups later in record { i = suc at.i; group = at.group; its_group = at.its_group; j = at.j; is = at.is })

-- The tables that lld makes are a directory.

-- DLLs from a descriptor on, whose address tables follow one another, and the null descriptor
unfoldable pub StandAt : List Range → ℕ → ℕ → ℕ → List Imported → Type 0
StandAt image width descriptor table [] = BytesAt image descriptor (zeros 20)
StandAt image width descriptor table (i ∷ imports) =
    LoadsFrom image width descriptor table i.dll i.asks × StandAt image width (descriptor + 20) (table + width * (length i.asks + 1)) imports

pub directory_stands : (image : List Range) (width : ℕ) (imports : List Imported) (descriptor table : ℕ) → StandAt image width descriptor table imports → DirectoryAt image width descriptor imports
unfolding StandAt DirectoryAt
directory_stands image width [] descriptor table all = all
directory_stands image width (i ∷ imports) descriptor table all = grind (arith, directory_stands image width imports (descriptor + 20) (table + width * (length i.asks + 1)) all.1)

-- Lengths.

length_thunk : (machine : MachineType) (place : ℕ) (ask : Ask) → length (thunk_built machine place ask) ≡ thunk_width machine
unfolding thunk_built
length_thunk machine place (Ordinal n) = length-thunk_of machine n true
length_thunk machine place (Name text hint) = length-address machine place

length_thunks : (machine : MachineType) (place : ℕ) (asks : List Ask) → length (thunks_built machine place asks) ≡ thunk_width machine * (length asks + 1)
unfolding thunks_built
length_thunks machine place [] = length-replicate {A = ℕ} (thunk_width machine) 0 ∙ (by_width (λ w. w ≡ w * 1) refl refl machine)
length_thunks machine place (ask ∷ asks) = grind (arith, length-append, length_thunk, length_thunks machine (place + length (hint_built ask)) asks)

length_tables : (machine : MachineType) (place : ℕ) (imports : List Imported) → length (tables_built machine place imports) ≡ thunk_width machine * thunks_until (length imports) imports
unfolding tables_built
length_tables machine place [] = by_width (λ w. 0 ≡ w * 0) refl refl machine
length_tables machine place (i ∷ imports) = grind (arith, length-append, length_thunks, mul-add, length_tables machine (place + length (hints_built i.asks)) imports)

length_descriptor : (lookups name addresses : ℕ) → length (descriptor_built lookups name addresses) ≡ 20
unfolding descriptor_built u32_bytes
length_descriptor lookups name addresses = refl

length_directory : (machine : MachineType) (lookups name addresses : ℕ) (imports : List Imported) → length (directory_built machine lookups name addresses imports) ≡ 20 * (length imports + 1)
unfolding directory_built
length_directory machine lookups name addresses [] = refl
length_directory machine lookups name addresses (i ∷ imports) = grind (arith, length_descriptor, length-append, length_directory machine (lookups + thunk_width machine * (length i.asks + 1)) (name + length (i.dll ++ 0 ∷ [])) (addresses + thunk_width machine * (length i.asks + 1)) imports)

-- The pieces stand.

small_number : (n : ℕ) → n < 2 ^ 31 → n ≡ (0 + (n + 0)) % 2 ^ 32
small_number n small = omega arith

module _ (machine : MachineType) (image : List Range) (starts : AllByRecursion (λ r. 0 < r.start) image) (ends : AllByRecursion (λ r. range_end r < 2 ^ 31) image) where
  thunk_stands : (ask : Ask) (place a : ℕ) → IsAskable ask → BytesAt image a (thunk_built machine place ask) → BytesAt image place (hint_built ask) →
      StrictThunkAt image (thunk_width machine) a ask
  unfolding IsAskable thunk_built hint_built
  thunk_stands (Ordinal n) place a askable located hint = ordinal_located machine image n a askable located
  thunk_stands (Name text hint) place a askable located hint_located =
      let own = located_parts image (hint_and_text text hint) (zeros (length (hint_and_text text hint) % 2)) place hint_located in
      let long : 0 < length (hint_and_text text hint) = rw (length-append (u16_bytes hint) (text ++ 0 ∷ []), length-u16 hint) (omega arith) in
      name_located machine image starts ends text hint place a askable.0 askable.1
      (subst (λ n. BytesAt image a (u32_bytes n ++ zeros (thunk_width machine - 4))) (small_number place (bounds_of image starts ends (hint_and_text text hint) place own.0 long).1) located) own.0

  table_stands : (asks : List Ask) (place a : ℕ) → AllByRecursion IsAskable asks → BytesAt image a (thunks_built machine place asks) → BytesAt image place (hints_built asks) →
      StrictTableAt image (thunk_width machine) a asks
  unfolding thunks_built hints_built
  table_stands [] place a askable located hints = zero_table machine image a located
  table_stands (ask ∷ asks) place a askable located hints =
      let later : ℕ = place + length (hint_built ask) in
      let thunks = located_parts image (thunk_built machine place ask) (thunks_built machine later asks) a located in
      let texts = located_parts image (hint_built ask) (hints_built asks) place hints in
      let rest = table_stands asks later (a + thunk_width machine) askable.1
      (subst (λ n. BytesAt image (a + n) (thunks_built machine later asks)) (length_thunk machine place ask) thunks.1) texts.1 in
      table_with image (thunk_width machine) a ask asks (thunk_stands ask place a askable.0 thunks.0 texts.0) rest

  some_thunks : (place : ℕ) (asks : List Ask) → 0 < length (thunks_built machine place asks)
  some_thunks place asks = grind (arith, some_bytes, length_thunks, mul-add)

  descriptor_stands : (i : Imported) (descriptor lookups name addresses place : ℕ) → IsImportable i → BytesAt image descriptor (descriptor_built lookups name addresses) →
      BytesAt image lookups (thunks_built machine place i.asks) → BytesAt image addresses (thunks_built machine place i.asks) → BytesAt image place (hints_built i.asks) →
      BytesAt image name (i.dll ++ 0 ∷ []) → LoadsFrom image (thunk_width machine) descriptor addresses i.dll i.asks
  unfolding descriptor_built
  descriptor_stands i descriptor lookups name addresses place importable located lookup_table address_table hints text =
      descriptor_loads machine image starts ends descriptor lookups addresses name i.dll i.asks
      (subst (λ n. BytesAt image descriptor (u32_bytes n ++ (zeros 4 ++ (zeros 4 ++ (u32_bytes ((0 + (name + 0)) % 2 ^ 32) ++ u32_bytes ((0 + (addresses + 0)) % 2 ^ 32))))))
      (small_number lookups (bounds_of image starts ends (thunks_built machine place i.asks) lookups lookup_table (some_thunks place i.asks)).1)
      (subst (λ n. BytesAt image descriptor (u32_bytes lookups ++ (zeros 4 ++ (zeros 4 ++ (u32_bytes n ++ u32_bytes ((0 + (addresses + 0)) % 2 ^ 32))))))
      (small_number name (bounds_of image starts ends (i.dll ++ 0 ∷ []) name text (rw (length-append i.dll (0 ∷ [])) (omega arith))).1)
      (subst (λ n. BytesAt image descriptor (u32_bytes lookups ++ (zeros 4 ++ (zeros 4 ++ (u32_bytes name ++ u32_bytes n)))))
      (small_number addresses (bounds_of image starts ends (thunks_built machine place i.asks) addresses address_table (some_thunks place i.asks)).1) located)))
      (table_stands i.asks place lookups importable.asks lookup_table hints)
      (table_stands i.asks place addresses importable.asks address_table hints)
      (record { no_nul = importable.name; located = text })

  all_stand : (imports : List Imported) (descriptor lookups name addresses place : ℕ) → AllByRecursion IsImportable imports →
      BytesAt image descriptor (directory_built machine lookups name addresses imports) → BytesAt image lookups (tables_built machine place imports) →
      BytesAt image addresses (tables_built machine place imports) → BytesAt image place (all_hints imports) → BytesAt image name (all_names imports) →
      StandAt image (thunk_width machine) descriptor addresses imports
  unfolding StandAt directory_built tables_built all_hints all_names
  all_stand [] descriptor lookups name addresses place importable directory lookup_tables address_tables hints names = directory
  all_stand (i ∷ imports) descriptor lookups name addresses place importable directory lookup_tables address_tables hints names =
      let next : ℕ = place + length (hints_built i.asks) in
      let span : ℕ = thunk_width machine * (length i.asks + 1) in
      let rows = located_parts image (descriptor_built lookups name addresses) (directory_built machine (lookups + span) (name + length (i.dll ++ 0 ∷ [])) (addresses + span) imports) descriptor directory in
      let first = located_parts image (thunks_built machine place i.asks) (tables_built machine next imports) lookups lookup_tables in
      let second = located_parts image (thunks_built machine place i.asks) (tables_built machine next imports) addresses address_tables in
      let texts = located_parts image (hints_built i.asks) (all_hints imports) place hints in
      let dlls = located_parts image (i.dll ++ 0 ∷ []) (all_names imports) name names in (
        descriptor_stands i descriptor lookups name addresses place importable.0 rows.0 first.0 second.0 texts.0 dlls.0,
        all_stand imports (descriptor + 20) (lookups + span) (name + length (i.dll ++ 0 ∷ [])) (addresses + span) next importable.1
            (subst (λ n. BytesAt image (descriptor + n) (directory_built machine (lookups + span) (name + length (i.dll ++ 0 ∷ [])) (addresses + span) imports)) (length_descriptor lookups name addresses) rows.1)
            (subst (λ n. BytesAt image (lookups + n) (tables_built machine next imports)) (length_thunks machine place i.asks) first.1)
            (subst (λ n. BytesAt image (addresses + n) (tables_built machine next imports)) (length_thunks machine place i.asks) second.1)
            texts.1 dlls.1,
      )

  pub pieces_stand : (descriptors lookups addresses hints names : ℕ) (imports : List Imported) → AllByRecursion IsImportable imports →
      ArePiecesAt machine image descriptors lookups addresses hints names imports → StandAt image (thunk_width machine) descriptors addresses imports
  pieces_stand descriptors lookups addresses hints names imports importable pieces = grind (arith, all_stand)

pub pieces_directory : (machine : MachineType) (image : List Range) (descriptors lookups addresses hints names : ℕ) (imports : List Imported) →
    AllByRecursion (λ r. 0 < r.start) image → AllByRecursion (λ r. range_end r < 2 ^ 31) image → AllByRecursion IsImportable imports →
    ArePiecesAt machine image descriptors lookups addresses hints names imports → DirectoryAt image (thunk_width machine) descriptors imports
pieces_directory machine image descriptors lookups addresses hints names imports starts ends importable pieces =
    grind (arith, directory_stands image (thunk_width machine) imports descriptors addresses (pieces_stand machine image starts ends descriptors lookups addresses hints names imports importable pieces))

-- One piece is five.

step : (a n b : ℕ) → a ≤ b → n ≡ b - a → a + n ≡ b
step a n b le is = omega arith

pub built_pieces : (machine : MachineType) (base : ℕ) (imports : List Imported) (image : List Range) → AllApart image → Contains image (built machine base imports) →
    ArePiecesAt machine image base (lookups_at machine base imports) (addresses_at machine base imports) (hints_at machine base imports) (names_at machine base imports) imports
unfolding built_bytes
built_pieces machine base imports image apart holds =
    let lookups : ℕ = lookups_at machine base imports in
    let addresses : ℕ = addresses_at machine base imports in
    let hints : ℕ = hints_at machine base imports in
    let rows : List ℕ = directory_built machine lookups (names_at machine base imports) addresses imports in
    let gap : List ℕ = zeros (lookups - directory_end base imports) in
    let tables : List ℕ = tables_built machine hints imports in
    let behind_second : List ℕ = all_hints imports ++ all_names imports in
    let behind_first : List ℕ = tables ++ behind_second in
    let behind_gap : List ℕ = tables ++ behind_first in
    let first = located_parts image rows (gap ++ behind_gap) base (range_located (built machine base imports) image (contains_among (built machine base imports) image holds) apart) in
    let second = located_parts image gap behind_gap (directory_end base imports) (grind (arith, length_directory)) in
    let third = located_parts image tables behind_first lookups (grind (arith, step, at_least, length-replicate)) in
    let at_addresses : BytesAt image addresses behind_first = subst (λ n. BytesAt image (lookups + n) behind_first) (length_tables machine hints imports) third.1 in
    grind (arith, subst (λ n. BytesAt image (addresses + n) behind_second) (length_tables machine hints imports) (located_parts image tables behind_second addresses at_addresses).1, located_parts)

-- Short imports that lld took are imported, each at an entry of its own.

pub get_map : {X Y : Type 0} (f : X → Y) (xs : List X) (i : ℕ) (x : X) → slice_get xs i ≡ Some x → slice_get (map f xs) i ≡ Some (f x)
get_map f xs i x is = slice_get-map f xs i ∙ ap (option_map f) is

-- What can be written.

abbrev IsWritable : ShortImport → Type 0
IsWritable r = IsImportable (record { dll = r.dll; asks = ask_of_short_import r ∷ [] })

asks_written : (group : List ShortImport) → AllByRecursion IsWritable group → AllByRecursion IsAskable (map ask_of_short_import group)
asks_written [] all = tt
asks_written (r ∷ group) all = (all.0.asks.0, asks_written group all.1)

groups_written : (groups : List (List ShortImport)) → AllByRecursion (AllByRecursion IsWritable) groups → AllByRecursion IsImportable (map imported_by groups)
groups_written [] all = tt
groups_written (group ∷ groups) all = grind (arith, groups_written groups all.1, group, asks_written)

-- The DLLs of groups.

module _ (taken : List ShortImport) (agree : (r s : ShortImport) → Contains taken r → Contains taken s → in_small r.dll ≡ in_small s.dll → r.dll ≡ s.dll) where
  like_first : (s : ShortImport) (group : List ShortImport) → Contains taken s → AllByRecursion (Contains taken) group → AllByRecursion (λ r. in_small r.dll ≡ in_small s.dll) group →
      AllByRecursion (λ r. Contains taken r × (r.dll ≡ s.dll)) group
  like_first s [] own held one = tt
  like_first s (r ∷ group) own held one = ((held.0, agree r s held.0 own one.0), like_first s group own held.1 one.1)

  of_one_dll : (group : List ShortImport) → AllByRecursion (Contains taken) group → OneDll group → AllByRecursion (λ r. Contains taken r × (r.dll ≡ dll_of_group group)) group
  of_one_dll [] held one = tt
  of_one_dll (s ∷ group) held one = like_first s (s ∷ group) held.0 held one

  all_of_one : (groups : List (List ShortImport)) → AllByRecursion (AllByRecursion (Contains taken)) groups → AllByRecursion OneDll groups →
      AllByRecursion (λ group. AllByRecursion (λ r. Contains taken r × (r.dll ≡ dll_of_group group)) group) groups
  all_of_one [] held one = tt
  all_of_one (group ∷ groups) held one = (of_one_dll group held.0 one.0, all_of_one groups held.1 one.1)

-- Where a DLL's descriptor and table are.

pub nth_stands : (image : List Range) (width : ℕ) (imports : List Imported) (descriptor table i : ℕ) (p : Imported) → StandAt image width descriptor table imports → slice_get imports i ≡ Some p →
    LoadsFrom image width (descriptor + 20 * i) (table + width * thunks_until i imports) p.dll p.asks
unfolding StandAt
nth_stands image width [] descriptor table i p all is = cc
nth_stands image width (q ∷ imports) descriptor table zero p all is =
    subst (λ (x : Imported). LoadsFrom image width (descriptor + 20 * 0) (table + width * 0) x.dll x.asks) (cc)
    (subst (λ n. LoadsFrom image width n (table + width * 0) q.dll q.asks) (omega arith)
    (subst (λ n. LoadsFrom image width descriptor n q.dll q.asks) (nothing_before table width) all.0))
nth_stands image width (q ∷ imports) descriptor table (suc i) p all is = grind (arith, table_sum, nth_stands image width imports (descriptor + 20) (table + width * (length q.asks + 1)) i p all.1 is)

-- What lld defines.

group_definitions : ℕ → ℕ → List ShortImport → List SymbolDefinition
group_definitions width address [] = []
group_definitions width address (r ∷ group) = record { name = imp_symbol r.symbol; address = Some address } ∷ group_definitions width (address + width) group

pub all_definitions : ℕ → ℕ → List (List ShortImport) → List SymbolDefinition
all_definitions width address [] = []
all_definitions width address (group ∷ groups) =
    group_definitions width address group ++ all_definitions width (address + width * (length (map ask_of_short_import group) + 1)) groups

entries_define : (width table offset : ℕ) (group : List ShortImport) →
    filter_map (defined_by_entry (At Addresses table ∷ [])) (group_entries width offset group) ≡ group_definitions width (table + offset) group
unfolding group_entries group_definitions
entries_define width table offset [] = refl
entries_define width table offset (r ∷ group) = grind (arith, entries_define width table (offset + width) group)

groups_define : (width table offset : ℕ) (groups : List (List ShortImport)) →
    filter_map (defined_by_entry (At Addresses table ∷ [])) (entries_of_groups width offset groups) ≡ all_definitions width (table + offset) groups
unfolding entries_of_groups all_definitions
groups_define width table offset [] = refl
groups_define width table offset (group ∷ groups) = grind (arith, filter_map-append, entries_define, groups_define width table (offset + (width * (length (map ask_of_short_import group) + 1))) groups)

group_names : (width address : ℕ) (group : List ShortImport) → map (λ (d : SymbolDefinition). d.name) (group_definitions width address group) ≡ imp_symbols_of group
unfolding group_definitions
group_names width address [] = refl
group_names width address (r ∷ group) = ap (λ names. imp_symbol r.symbol ∷ names) (group_names width (address + width) group)

all_names_of : (width address : ℕ) (groups : List (List ShortImport)) → map (λ (d : SymbolDefinition). d.name) (all_definitions width address groups) ≡ flat_map imp_symbols_of groups
unfolding all_definitions
all_names_of width address [] = refl
all_names_of width address (group ∷ groups) = grind (arith, map-append, group_names, all_names_of width (address + width * (length (map ask_of_short_import group) + 1)) groups)

group_defines : (width address : ℕ) (group : List ShortImport) (j : ℕ) (r : ShortImport) → slice_get group j ≡ Some r →
    Among (record { name = imp_symbol r.symbol; address = Some (address + width * j) }) (group_definitions width address group)
unfolding group_definitions Among
group_defines width address (s ∷ group) (suc j) r is = grind (arith, group_defines width (address + width) group j r is)
group_defines width address group j r is = grind arith

pub all_define : (width address : ℕ) (groups : List (List ShortImport)) (i j : ℕ) (group : List ShortImport) (r : ShortImport) → slice_get groups i ≡ Some group → slice_get group j ≡ Some r →
    Among (record { name = imp_symbol r.symbol; address = Some (address + width * thunks_until i (map imported_by groups) + width * j) }) (all_definitions width address groups)
unfolding all_definitions
all_define width address [] i j group r at is = cc
all_define width address (g ∷ groups) zero j group r at is =
    grind (arith, group_definitions width address g, all_definitions width (address + width * (length (map ask_of_short_import g) + 1)) groups, nothing_before address width, group, among_front, j, group_defines, is)
all_define width address (g ∷ groups) (suc i) j group r at is =
    let count : ℕ = length (map ask_of_short_import g) + 1 in
    let later : ℕ = address + width * count in
    among_back (record { name = imp_symbol r.symbol; address = Some (address + width * (count + thunks_until i (map imported_by groups)) + width * j) }) (group_definitions width address g)
    (all_definitions width later groups)
    (subst (λ n. Among (record { name = imp_symbol r.symbol; address = Some (n + width * j) }) (all_definitions width later groups)) (table_sum address width count (thunks_until i (map imported_by groups)))
    (all_define width later groups i j group r at is))

-- The law.

module _ (machine : MachineType) (descriptors addresses : ℕ) (taken : List ShortImport) (image : List Range) (linked : List Placed)
    (program : IsLldProgram machine descriptors addresses taken image linked) where
  abbrev width : ℕ
  width = thunk_width machine

  abbrev pub own : List SymbolDefinition
  own = all_definitions (thunk_width machine) addresses (grouped taken)

  pub stand : StandAt image (thunk_width machine) descriptors addresses (imports_of_lld taken)
  stand = pieces_stand machine image program.starts program.ends descriptors program.lookups addresses program.hints program.names (imports_of_lld taken)
      (groups_written (grouped taken) (grouped_all IsWritable taken program.writable)) program.pieces

  held : AllByRecursion (AllByRecursion (Contains taken)) (grouped taken)
  held = grouped_all (Contains taken) taken (all_from (Contains taken) taken (λ r m. among_contains r taken m))

  pub only : AllByRecursion (λ group. AllByRecursion (λ r. Contains taken r × (r.dll ≡ dll_of_group group)) group) (grouped taken)
  only = all_of_one taken program.agree (grouped taken) held (grouped_one taken)

  pub defined_once : (r : ShortImport) → Among r taken → (d : SymbolDefinition) → d.name ≡ imp_symbol r.symbol → Among d own → definitions_of (imp_symbol r.symbol) linked ≡ d ∷ []
  defined_once r m d named among =
      let name : List ℕ = imp_symbol r.symbol in
      let listed : Among name (imp_symbols_of taken) = among_map (λ (x : ShortImport). imp_symbol x.symbol) r taken m in
      let lld : Placed = placed_by_lld machine addresses taken in
      ap (definitions_of name) program.placed
      ∙ definitions_parts name program.before (lld ∷ program.behind)
      ∙ ap (λ ds. ds ++ definitions_of name (lld ∷ program.behind)) (all_among (λ n. definitions_of n program.before ≡ []) name (imp_symbols_of taken) listed program.none_before)
      ∙ definitions_parts name (lld ∷ []) program.behind
      ∙ ap (λ ds. definitions_of name (lld ∷ []) ++ ds) (all_among (λ n. definitions_of n program.behind ≡ []) name (imp_symbols_of taken) listed program.none_behind)
      ∙ append-nil (definitions_of name (lld ∷ []))
      ∙ (simp (append-nil, groups_define, plus_none))
      ∙ subst (λ n. filter (λ (other : SymbolDefinition). bytes_eq n other.name) own ≡ d ∷ []) named (only_definition d own among (grind (arith, all_names_of, distinct_from, grouped_times, few_from)))

  is_imported : (r : ShortImport) → Contains taken r → IsImportedBy machine descriptors addresses taken image linked r
  is_imported r holds =
      let m : Among r taken = contains_among r taken holds in
      let at = in_place r (grouped taken) (grouped_holds r taken m) in
      let table : ℕ = addresses + thunk_width machine * thunks_until at.i (imports_of_lld taken) in
      let same : r.dll ≡ dll_of_group at.group =
      (all_at (λ x. Contains taken x × (x.dll ≡ dll_of_group at.group)) at.group at.j r
      (all_at (λ group. AllByRecursion (λ x. Contains taken x × (x.dll ≡ dll_of_group group)) group) (grouped taken) at.i at.group only at.its_group) at.is).1 in
      let from : LoadsFrom image (thunk_width machine) (descriptors + 20 * at.i) table r.dll (map ask_of_short_import at.group) =
      grind (arith, nth_stands image (thunk_width machine) (imports_of_lld taken) descriptors addresses at.i (imported_by at.group) stand (get_map imported_by (grouped taken) at.i at.group at.its_group)) in
      let entry : definitions_of (imp_symbol r.symbol) linked ≡ record { name = imp_symbol r.symbol; address = Some (from.loads.plain.addresses + thunk_width machine * at.j) } ∷ [] = cc (defined_once r m (record { name = imp_symbol r.symbol; address = Some (table + thunk_width machine * at.j) }) refl (all_define (thunk_width machine) addresses (grouped taken) at.i at.j at.group r at.its_group at.is)) in
      record {
        i = at.i;
        j = at.j;
        group = at.group;
        its_group = at.its_group;
        its_place = at.is;
        loads = from.loads;
        its_table = from.table_located;
        once = entry;
        gets = gets_address linked (imp_symbol r.symbol) (from.loads.plain.addresses + thunk_width machine * at.j) entry;
      }

  links : LldLinks machine descriptors addresses taken image linked
  links = grind (arith, directory_stands image (thunk_width machine) (imports_of_lld taken) descriptors addresses stand, is_imported, only)

pub lld_links : (machine : MachineType) (descriptors addresses : ℕ) (taken : List ShortImport) (image : List Range) (linked : List Placed) →
    IsLldProgram machine descriptors addresses taken image linked → LldLinks machine descriptors addresses taken image linked
lld_links machine descriptors addresses taken image linked program = links machine descriptors addresses taken image linked program
