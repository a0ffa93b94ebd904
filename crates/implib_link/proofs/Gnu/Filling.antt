-- A loader that writes as it goes finds what was linked, where what it reads is nowhere that it writes.
use Rattle.std.proofs.Common.{◌≡◌, ℕ, ◌+◌, ◌*◌, ◌-◌, ◌^◌, ◌%◌, ◌<◌, ◌≤◌, false, List, [], ◌∷◌, ◌++◌, length, Some, refl, ap, sym, ◌∙◌, subst, inl, inr, arith, if◌then◌else◌, true, ◌⊎◌, map}
use Rattle.std.specs.Prelude.{slice_index}
use Rattle.std.specs.List.{AllByRecursion, list_any}
use Rattle.std.proofs.Math.Nat.{mul-add}
use Rattle.std.proofs.lemmas.Bool.{cases_Bool, false_from_ne_true}
use Rattle.std.proofs.lemmas.List.{append_assoc, length-append, length-replicate}
use Rattle.implib.specs.Import.{Ask, Name, Ordinal, expected_ask}
use Rattle.implib.specs.Link.Image.{Range, byte_at, is_in, range_end, AllApart, Contribution, IsAdmissible, contributions, filled, image_of, range_of, relocated, with_address}
use Rattle.implib.specs.Link.Load.{BytesAt, NumberAt, TableAt, TextAt, ThunkAsksFor, ThunkAt, WholeTableAt}
use Rattle.implib.specs.Members.ImportTables.{zeros, relocation, thunk_width}
use Rattle.implib.proofs.Link.Linked.{all_append, block_definitions, contribution_located, ends_of_block, same_order}
use Rattle.implib.proofs.Link.Loading.{number_once, text_led_to, text_once}
use Rattle.implib_link.specs.Directory.{DirectoryAt, Imported, StopsAt, WalkFinds}
use Rattle.implib_link.specs.Gnu.Writing.{Writes, entries_written, AreAlike, FillsTable, WritesAsItGoes}
use Rattle.implib_link.proofs.Gnu.Loaded.{directory_walk, same_imports, nonzero, Keeps, number_kept, text_kept, thunk_kept, entries_within, thunks_asked, times_next, within_bounds, kept_outside, holder, not_in_both, byte_first}
use Rattle.implib.specs.declared.machine.MachineType.{MachineType}
use Rattle.implib.specs.Formats.Object.{Object, u32_at}
use Rattle.implib.specs.Link.Placement.{Addresses, Bases, Descriptors, DirectoryEnds, DllNames, Group, HintNames, Lookups, Placed, base_of, placed_from, next_multiple}
use Rattle.implib.proofs.Link.LinkedBlocks.{ends, group_located, starts}
use Rattle.implib.proofs.Link.Ranges.{Among, among_back, among_front, is_in_from, address_bounds, among_first, among_later, located_parts}
use Rattle.implib_link.proofs.Gnu.Places.{apart_back as back_apart}
use Rattle.implib_link.proofs.Search.Lists.{all_parts, among_either, any_of}
use Rattle.implib.specs.Definition.{ExportView}
use Rattle.implib.specs.Formats.Bytes.{u32_bytes}
use Rattle.implib.specs.Formats.Layout.{HasNoNul}
use Rattle.implib.specs.Link.Resolution.{SymbolDefinition, definitions_of, first_address}
use Rattle.implib.specs.Members.Gnu.{export_object, head_object, iname_symbol, tail_object}
use Rattle.implib.proofs.Link.Descriptors.{length-u32}
use Rattle.implib.proofs.Link.Placement.{AreAligned, after_head, aligned_after, aligned_head, at_least, code_definition, defined_after, descriptors_end, ends_of_all, ends_of_export, ends_of_exports, ends_of_head, ends_of_tail, head, placed-export, placed-head, placed-tail, placed_export, placed_head}
use Rattle.implib.proofs.Link.Tables.{CanBeAsked, descriptors_filled, filled_first, hint_bytes, hint_names_end, hint_names_filled, lookups_end, lookups_filled, table_at, thunk_bytes}
use Rattle.implib.proofs.Link.Thunks.{same_number, StrictTableAt, StrictThunkAt, zeros_number}
use Rattle.implib_link.proofs.Gnu.Stubs.{wide_thunk}
use Rattle.implib.specs.LibraryName.{NamesOfDll}

-- no byte of these ranges is from one address to another
unfoldable pub Avoids : List Range → ℕ → ℕ → Type 0
Avoids beside low high = (a byte : ℕ) → byte_at beside a ≡ Some byte → low ≤ a → a < high → ⊥

-- What a descriptor leads to, and where the address table is that it has.
pub record DescriptorBeside (beside : List Range) (width descriptor table : ℕ) (i : Imported) : Type 0 where
  pub lookups : ℕ
  pub lookups_field : NumberAt beside 4 descriptor lookups
  pub lookup_table : TableAt beside width lookups i.asks
  pub name : ℕ
  pub name_field : NumberAt beside 4 (descriptor + 12) name
  pub has_name : 0 < name
  pub name_text : TextAt beside name i.dll
  pub addresses_field : NumberAt beside 4 (descriptor + 16) table
  pub has_addresses : 0 < table

-- descriptors of these imports, whose address tables are one after another
unfoldable pub DirectoryBeside : List Range → ℕ → ℕ → ℕ → List Imported → Type 0
DirectoryBeside beside width descriptor table [] = BytesAt beside descriptor (zeros 20)
DirectoryBeside beside width descriptor table (i ∷ others) =
    DescriptorBeside beside width descriptor table i × DirectoryBeside beside width (descriptor + 20) (table + width * (length i.asks + 1)) others

-- The memory that is left.

unfoldable pub table_filled : ℕ → ℕ → (Ask → List ℕ) → List Ask → List Range → List Range
table_filled width entry gives [] memory = memory
table_filled width entry gives (ask ∷ asks) memory = table_filled width (entry + width) gives asks (record { start = entry; bytes = gives ask } ∷ memory)

unfoldable pub all_filled : ℕ → (List ℕ → Ask → List ℕ) → ℕ → List Imported → List Range → List Range
all_filled width gives table [] memory = memory
all_filled width gives table (i ∷ imports) memory =
    all_filled width gives (table + width * (length i.asks + 1)) imports (table_filled width table (gives i.dll) i.asks memory)

ask_once : (image : List Range) (width thunk : ℕ) (first second : Ask) → ThunkAsksFor image width thunk first → ThunkAsksFor image width thunk second → first ≡ second
unfolding ThunkAsksFor
ask_once image width thunk (Ordinal n) h4 first second = grind arith
ask_once image width thunk (Name text hint) (Ordinal n) first second = let low = first.0 in let high = second.0 in absurd (omega arith)
ask_once image width thunk (Name text hint) (Name other number) first second = cc (text_once image text other (thunk % 2 ^ 31 + 2) first.2.no_nul second.2.no_nul first.2.located second.2.located, number_once image 2 (thunk % 2 ^ 31) hint number first.1 second.1)

-- a thunk asks for one thing
thunk_once : (image : List Range) (width a : ℕ) (first second : Ask) → ThunkAt image width a first → ThunkAt image width a second → first ≡ second
thunk_once image width a first second x y = grind (arith, number_once image width a x.thunk y.thunk x.located y.located, ask_once)

table_next : (a w n m : ℕ) → a + w * (n + 1) + w * m ≡ a + w * (n + 1 + m)
table_next a w n m = let split : w * (n + 1 + m) ≡ w * (n + 1) + w * m = mul-add w (n + 1) m in omega arith

pub before_next : (a w n : ℕ) → a + w * n ≤ a + w * (n + 1)
before_next a w n = let split : w * (n + 1) ≡ w * n + w * 1 = mul-add w n 1 in omega arith

module _ (beside : List Range) (low high width : ℕ) (avoids : Avoids beside low high) where
  -- what is written between the two addresses leaves these ranges as they are
  keeps_behind : (memory : List Range) (r : Range) → Keeps beside memory → low ≤ r.start → range_end r ≤ high → Keeps beside (r ∷ memory)
  unfolding Keeps Avoids
  keeps_behind memory r keeps from to a byte is = grind (arith, cases_Bool, within_bounds)

  module _ (gives : Ask → List ℕ) (wide : (ask : Ask) → length (gives ask) ≡ width) where
    table_keeps : (asks : List Ask) (entry : ℕ) (memory : List Range) → Keeps beside memory → low ≤ entry → entry + width * length asks ≤ high →
        Keeps beside (table_filled width entry gives asks memory)
    unfolding table_filled
    table_keeps [] entry memory keeps from to = keeps
    table_keeps (x ∷ asks) entry memory keeps from to =
        table_keeps asks (entry + width) (record { start = entry; bytes = gives x } ∷ memory)
        (keeps_behind memory (record { start = entry; bytes = gives x }) keeps from (omega arith)) (omega arith) (omega arith)

    fills_once : (asks found : List Ask) (thunk entry : ℕ) (memory after : List Range) → Keeps beside memory → low ≤ entry → entry + width * length asks ≤ high →
        TableAt beside width thunk asks → FillsTable width gives thunk entry memory found after →
        (found ≡ asks) × (after ≡ table_filled width entry gives asks memory)
    unfolding TableAt FillsTable table_filled
    fills_once [] [] thunk entry memory after keeps from to table fills = (refl, fills.1)
    fills_once [] (y ∷ found) thunk entry memory after keeps from to table fills = grind (arith, number_once memory width thunk fills.0.thunk 0 fills.0.located (number_kept beside memory keeps width thunk 0 table))
    fills_once (x ∷ asks) [] thunk entry memory after keeps from to table fills =
        let kept = thunk_kept beside memory keeps width thunk x table.0 in
        absurd (kept.not_zero (number_once memory width thunk kept.thunk 0 kept.located fills.0))
    fills_once (x ∷ asks) (y ∷ found) thunk entry memory after keeps from to table fills =
        grind (arith, fills_once asks found (thunk + width) (entry + width) (record { start = entry; bytes = gives x } ∷ memory) after (keeps_behind memory (record { start = entry; bytes = gives x }) keeps from (omega arith)) (omega arith) (omega arith) table.1, thunk_once memory width thunk y x fills.0 (thunk_kept beside memory keeps width thunk x table.0), thunk_kept beside memory keeps width thunk x table.0, times_next entry width (length asks), keeps_behind memory (record { start = entry; bytes = gives x }) keeps from (omega arith))

    can_fill : (asks : List Ask) (thunk entry : ℕ) (memory : List Range) → Keeps beside memory → low ≤ entry → entry + width * length asks ≤ high →
        TableAt beside width thunk asks → FillsTable width gives thunk entry memory asks (table_filled width entry gives asks memory)
    unfolding TableAt FillsTable table_filled
    can_fill [] thunk entry memory keeps from to table = (number_kept beside memory keeps width thunk 0 table, refl)
    can_fill (x ∷ asks) thunk entry memory keeps from to table =
        let product : entry + width + width * length asks ≡ entry + width * length (x ∷ asks) = times_next entry width (length asks) in (
          thunk_kept beside memory keeps width thunk x table.0,
          can_fill asks (thunk + width) (entry + width) (record { start = entry; bytes = gives x } ∷ memory)
              (keeps_behind memory (record { start = entry; bytes = gives x }) keeps from (omega arith)) (omega arith) (omega arith) table.1,
        )

  -- the null descriptor stops the loader
  null_stops : (descriptor : ℕ) → BytesAt beside descriptor (zeros 20) → StopsAt beside descriptor
  unfolding DirectoryAt WalkFinds
  null_stops descriptor null = directory_walk beside width descriptor [] null

  module _ (gives : List ℕ → Ask → List ℕ) (wide : (dll : List ℕ) (ask : Ask) → length (gives dll ask) ≡ width) where
    pub runs_once : (imports found : List Imported) (descriptor table : ℕ) (memory after : List Range) → Keeps beside memory → low ≤ table →
        table + width * thunks_asked (length imports) imports ≤ high → DirectoryBeside beside width descriptor table imports →
        WritesAsItGoes width gives descriptor memory found after → (found ≡ imports) × (after ≡ all_filled width gives table imports memory)
    unfolding DirectoryBeside WritesAsItGoes all_filled
    runs_once [] [] descriptor table memory after keeps from to directory runs = (refl, runs.1)
    runs_once [] (y ∷ found) descriptor table memory after keeps from to directory (between, (by, later)) =
        elim (null_stops descriptor directory) [
          | inl none ↦ absurd (nonzero by.name by.name refl by.has_name (number_once memory 4 (descriptor + 12) by.name 0 by.name_field (number_kept beside memory keeps 4 (descriptor + 12) 0 none)))
          | inr none ↦ absurd (nonzero by.addresses by.addresses refl by.has_addresses (number_once memory 4 (descriptor + 16) by.addresses 0 by.addresses_field (number_kept beside memory keeps 4 (descriptor + 16) 0 none)))
        ]
    runs_once (i ∷ imports) [] descriptor table memory after keeps from to (own, others) runs =
        elim runs.0 [
          | inl none ↦ absurd (nonzero own.name own.name refl own.has_name (number_once memory 4 (descriptor + 12) own.name 0 (number_kept beside memory keeps 4 (descriptor + 12) own.name own.name_field) none))
          | inr none ↦ absurd (nonzero table table refl own.has_addresses (number_once memory 4 (descriptor + 16) table 0 (number_kept beside memory keeps 4 (descriptor + 16) table own.addresses_field) none))
        ]
    runs_once (i ∷ imports) (y ∷ found) descriptor table memory after keeps from to (own, others) (between, (by, later)) =
        let dll : y.dll ≡ i.dll =
        text_led_to memory (descriptor + 12) by.name own.name y.dll i.dll by.name_field (number_kept beside memory keeps 4 (descriptor + 12) own.name own.name_field) by.name_text
        (text_kept beside memory keeps own.name i.dll own.name_text) in
        let begins : by.addresses ≡ table = cc (number_once memory 4 (descriptor + 16) by.addresses table by.addresses_field (number_kept beside memory keeps 4 (descriptor + 16) table own.addresses_field)) in
        let reads : by.lookups ≡ own.lookups = cc (number_once memory 4 descriptor by.lookups own.lookups by.lookups_field (number_kept beside memory keeps 4 descriptor own.lookups own.lookups_field)) in
        let filled = fills_once (gives i.dll) (wide i.dll) i.asks y.asks own.lookups table memory between keeps from (omega arith) own.lookup_table (grind arith) in
        let rest = runs_once imports found (descriptor + 20) (table + width * (length i.asks + 1)) (table_filled width table (gives i.dll) i.asks memory) after
        (table_keeps (gives i.dll) (wide i.dll) i.asks table memory keeps from (omega arith)) (omega arith) (omega arith) others
        (subst (λ m. WritesAsItGoes width gives (descriptor + 20) m found after) filled.1 later) in
        (same_imports y i found imports dll filled.0 rest.0, rest.1)

    pub can_run : (imports : List Imported) (descriptor table : ℕ) (memory : List Range) → Keeps beside memory → low ≤ table →
        table + width * thunks_asked (length imports) imports ≤ high → DirectoryBeside beside width descriptor table imports →
        WritesAsItGoes width gives descriptor memory imports (all_filled width gives table imports memory)
    unfolding DirectoryBeside WritesAsItGoes all_filled
    can_run [] descriptor table memory keeps from to directory = grind (arith, null_stops, number_kept)
    can_run (i ∷ imports) descriptor table memory keeps from to (own, others) =
        let before = before_next table width (length i.asks) in (
          table_filled width table (gives i.dll) i.asks memory,
          (
            record {
              name = own.name;
              name_field = number_kept beside memory keeps 4 (descriptor + 12) own.name own.name_field;
              has_name = own.has_name;
              name_text = text_kept beside memory keeps own.name i.dll own.name_text;
              addresses = table;
              addresses_field = number_kept beside memory keeps 4 (descriptor + 16) table own.addresses_field;
              has_addresses = own.has_addresses;
              lookups = own.lookups;
              lookups_field = number_kept beside memory keeps 4 descriptor own.lookups own.lookups_field;
              fills = can_fill (gives i.dll) (wide i.dll) i.asks own.lookups table memory keeps from (omega arith) own.lookup_table;
            },
            can_run imports (descriptor + 20) (table + width * (length i.asks + 1)) (table_filled width table (gives i.dll) i.asks memory)
                (table_keeps (gives i.dll) (wide i.dll) i.asks table memory keeps from (omega arith)) (omega arith) (omega arith) others,
          ),
        )

-- What is written in the order of the entries is what is written all at once.

-- a range in front of later ones, or after them
swapped : (low high : ℕ) (xs memory : List Range) (r : Range) (a : ℕ) → range_end r ≤ low → AllByRecursion (λ x. (low ≤ x.start) × (range_end x ≤ high)) xs →
    byte_at (xs ++ (r ∷ memory)) a ≡ byte_at (r ∷ (xs ++ memory)) a
swapped low high [] memory r a before within = refl
swapped low high (x ∷ xs) memory r a before within = grind (arith, swapped low high xs memory r a before within.1)

pub same_behind : (xs first second : List Range) (a : ℕ) → byte_at first a ≡ byte_at second a → byte_at (xs ++ first) a ≡ byte_at (xs ++ second) a
same_behind [] first second a same = same
same_behind (x ∷ xs) first second a same = ap (λ o. if is_in a x then Some (slice_index x.bytes (a - x.start)) else o) (same_behind xs first second a same)

module _ (width : ℕ) (gives : Ask → List ℕ) (wide : (ask : Ask) → length (gives ask) ≡ width) where
  table_alike : (asks : List Ask) (entry : ℕ) (memory : List Range) (a : ℕ) →
      byte_at (table_filled width entry gives asks memory) a ≡ byte_at (entries_written width entry gives asks ++ memory) a
  unfolding table_filled entries_written
  table_alike [] entry memory a = refl
  table_alike (x ∷ asks) entry memory a = grind (arith, table_alike asks (entry + width), swapped, entries_within)

-- tables in front of later ones, or after them
all_swapped : (first middle high : ℕ) (xs ys memory : List Range) (a : ℕ) → AllByRecursion (λ x. (first ≤ x.start) × (range_end x ≤ middle)) xs →
    AllByRecursion (λ x. (middle ≤ x.start) × (range_end x ≤ high)) ys → byte_at (ys ++ (xs ++ memory)) a ≡ byte_at (xs ++ (ys ++ memory)) a
all_swapped first middle high [] ys memory a before behind = refl
all_swapped first middle high (x ∷ xs) ys memory a before behind = grind (arith, all_swapped first middle high xs ys memory a before.1 behind, swapped)

-- what a loader writes all at once that is given the directory's imports: within these tables, and alike
record WrittenAlike (width : ℕ) (gives : List ℕ → Ask → List ℕ) (imports : List Imported) (table : ℕ) (written : List Range) : Type 0 where
  within : AllByRecursion (λ x. (table ≤ x.start) × (range_end x ≤ table + width * thunks_asked (length imports) imports)) written
  alike : (memory : List Range) → AreAlike (all_filled width gives table imports memory) (written ++ memory)

pub within_by : (first low high end : ℕ) (rs : List Range) → first ≤ low → high ≤ end → AllByRecursion (λ r. (low ≤ r.start) × (range_end r ≤ high)) rs → AllByRecursion (λ r. (first ≤ r.start) × (range_end r ≤ end)) rs
within_by first low high end [] above below all = tt
within_by first low high end (r ∷ rs) above below all = grind (arith, within_by first low high end rs above below all.1)

module _ (beside image : List Range) (keeps : Keeps beside image) (width : ℕ) (gives : List ℕ → Ask → List ℕ) (wide : (dll : List ℕ) (ask : Ask) → length (gives dll ask) ≡ width) where
  alike_by : (imports : List Imported) (descriptor table : ℕ) (written : List Range) → DirectoryBeside beside width descriptor table imports → Writes image width gives descriptor imports written →
      WrittenAlike width gives imports table written
  unfolding DirectoryBeside Writes all_filled
  alike_by [] descriptor table written directory writes = grind arith
  alike_by (i ∷ imports) descriptor table written (own, others) (begin, (field, (behind, (is, later)))) =
      let same : begin ≡ table = number_once image 4 (descriptor + 16) begin table field (number_kept beside image keeps 4 (descriptor + 16) table own.addresses_field) in
      let next : ℕ = table + width * (length i.asks + 1) in
      let high : ℕ = table + width * (length i.asks + 1 + thunks_asked (length imports) imports) in
      let sum : next + width * thunks_asked (length imports) imports ≡ high = table_next table width (length i.asks) (thunks_asked (length imports) imports) in
      let entries : List Range = entries_written width table (gives i.dll) i.asks in
      let rest = alike_by imports (descriptor + 20) next behind others later in
      let within : AllByRecursion (λ x. (next ≤ x.start) × (range_end x ≤ high)) behind = subst (λ h. AllByRecursion (λ x. (next ≤ x.start) × (range_end x ≤ h)) behind) sum rest.within in
      subst (WrittenAlike width gives (i ∷ imports) table) (sym (is ∙ ap (λ n. entries_written width n (gives i.dll) i.asks ++ behind) same)) (record {
        within = grind (arith, entries_within width (gives i.dll) (wide i.dll) i.asks table table high (omega arith) (omega arith), within_by table next high high behind (omega arith) (omega arith) within, all_append, within);
        alike = λ memory a. grind (
          arith,
          same_behind behind (table_filled width table (gives i.dll) i.asks memory) (entries ++ memory) a (table_alike width (gives i.dll) (wide i.dll) i.asks table memory a),
          all_swapped table next high entries behind memory a (entries_within width (gives i.dll) (wide i.dll) i.asks table table next (omega arith) (omega arith)) within,
          append_assoc entries behind memory,
        );
      })

  pub left_alike : (imports : List Imported) (descriptor table : ℕ) (written memory : List Range) → DirectoryBeside beside width descriptor table imports → Writes image width gives descriptor imports written →
      AreAlike (all_filled width gives table imports memory) (written ++ memory)
  left_alike imports descriptor table written memory directory writes = (alike_by imports descriptor table written directory writes).alike memory

-- The import tables without the address tables: no byte of them is in these.

-- Ranges between others.

-- of ranges apart, none before or after these ones has an address of theirs
not_between : (xs ys zs : List Range) (r s : Range) (a : ℕ) → AllApart (xs ++ (ys ++ zs)) → Among r xs ⊎ Among r zs → Among s ys → is_in a r ≡ true → is_in a s ≡ true → ⊥
not_between xs ys zs r s a apart (inl m) n first second = not_in_both xs (ys ++ zs) r s a apart m (among_front s ys zs n) first second
not_between xs ys zs r s a apart (inr m) n first second = not_in_both ys zs s r a (back_apart xs (ys ++ zs) apart) n m second first

any_among : (a : ℕ) (rs : List Range) → list_any (is_in a) rs ≡ true → (r : Range) × (Among r rs × (is_in a r ≡ true))
any_among a rs any = let by = any_of (is_in a) rs any in (by.0, (by.1, by.2))

-- where a range before or after these ones is, none of these is
none_between : (xs ys zs : List Range) (r : Range) (a : ℕ) → AllApart (xs ++ (ys ++ zs)) → Among r xs ⊎ Among r zs → is_in a r ≡ true → list_any (is_in a) ys ≡ false
none_between xs ys zs r a apart m within =
    false_from_ne_true (list_any (is_in a) ys) (λ any.
    let found = any_among a ys any in
    not_between xs ys zs r found.0 a apart m found.1.0 within found.1.1)

all_without : (P : Range → Type 0) (xs ys zs : List Range) → AllByRecursion P (xs ++ (ys ++ zs)) → AllByRecursion P (xs ++ zs)
all_without P xs ys zs all = let parts = all_parts P xs (ys ++ zs) all in all_append P xs zs parts.0 (all_parts P ys zs parts.1).1

-- a range of what is filled in, where it has an address
range_around : (base : ℕ) (cs : List Contribution) (a : ℕ) → base ≤ a → a < base + length (filled base cs) → Among (record { start = base; bytes = filled base cs }) (range_of base cs)
unfolding Among
range_around base cs a from below = grind arith

module _ (machine : MachineType) (b : Bases) (objects : List Object) (admissible : IsAdmissible machine b objects) where
  abbrev linked : List Placed
  linked = placed_from b objects

  abbrev filled_in : Group → List ℕ
  filled_in k = filled (base_of k b) (contributions machine linked k linked)

  abbrev ranges : Group → List Range
  ranges k = range_of (base_of k b) (contributions machine linked k linked)

  abbrev front : List Range
  front = ranges Descriptors ++ (ranges DirectoryEnds ++ ranges Lookups)

  abbrev back : List Range
  back = ranges HintNames ++ (ranges DllNames ++ [])

  -- all but the address tables
  unfoldable pub beside_of : List Range
  beside_of =
      (range_of b.descriptors (contributions machine (placed_from b objects) Descriptors (placed_from b objects))
      ++ (range_of b.directory_ends (contributions machine (placed_from b objects) DirectoryEnds (placed_from b objects))
      ++ range_of b.lookups (contributions machine (placed_from b objects) Lookups (placed_from b objects))))
      ++ (range_of b.hint_names (contributions machine (placed_from b objects) HintNames (placed_from b objects))
      ++ (range_of b.dll_names (contributions machine (placed_from b objects) DllNames (placed_from b objects)) ++ []))

  image_is : image_of machine b linked ≡ front ++ (ranges Addresses ++ back)
  image_is = grind arith

  apart : AllApart (front ++ (ranges Addresses ++ back))
  apart = subst AllApart image_is admissible.apart

  pub starts_beside : AllByRecursion (λ r. 0 < r.start) beside_of
  unfolding beside_of
  starts_beside = all_without (λ r. 0 < r.start) front (ranges Addresses) back (subst (AllByRecursion (λ r. 0 < r.start)) image_is (starts machine b objects admissible))

  pub ends_beside : AllByRecursion (λ r. range_end r < 2 ^ 31) beside_of
  unfolding beside_of
  ends_beside = all_without (λ r. range_end r < 2 ^ 31) front (ranges Addresses) back (subst (AllByRecursion (λ r. range_end r < 2 ^ 31)) image_is (ends machine b objects admissible))

  pub keeps_beside : Keeps beside_of (image_of machine b (placed_from b objects))
  unfolding Keeps beside_of
  keeps_beside a byte is =
      let found = holder (front ++ back) a byte is in
      grind (arith, none_between front (ranges Addresses) back found.0 a apart (among_either found.0 front back found.1.0) found.1.1)

  pub avoids_addresses : (high : ℕ) → high ≤ b.addresses + length (filled b.addresses (contributions machine (placed_from b objects) Addresses (placed_from b objects))) → Avoids beside_of b.addresses high
  unfolding Avoids beside_of
  avoids_addresses high most a byte is from below =
      let found = holder (front ++ back) a byte is in
      let table : Range = record { start = b.addresses; bytes = filled_in Addresses } in
      not_between front (ranges Addresses) back found.0 table a apart (among_either found.0 front back found.1.0)
      (range_around b.addresses (contributions machine linked Addresses linked) a from (omega arith)) found.1.1 (is_in_from a table from (omega arith))

  -- bytes of a range before or after
  moves : (r : Range) (bytes : List ℕ) (a : ℕ) → (((x : ℕ) → r.start ≤ x → x < range_end r → Among r front ⊎ Among r back)) → r.start ≤ a → a + length bytes ≤ range_end r →
      BytesAt (image_of machine b linked) a bytes → BytesAt (front ++ back) a bytes
  unfolding BytesAt
  moves r [] a held from below located = tt
  moves r (byte ∷ bytes) a held from below located =
      let none = none_between front (ranges Addresses) back r a apart (held a from (omega arith)) (is_in_from a r from (omega arith)) in (
        sym (same_behind front ((ranges Addresses) ++ back) back a (kept_outside (ranges Addresses) back a none)) ∙ subst (λ rs. byte_at rs a ≡ Some byte) image_is located.0,
        moves r bytes (a + 1) held (omega arith) (omega arith) located.1,
      )

  group_beside : (k : Group) → BytesAt (image_of machine b linked) (base_of k b) (filled_in k) →
      ((r : Range) → Among r (ranges k) → Among r front ⊎ Among r back) → BytesAt (front ++ back) (base_of k b) (filled_in k)
  group_beside k located held =
      let r : Range = record { start = base_of k b; bytes = filled_in k } in
      moves r (filled_in k) (base_of k b) (λ x from below. held r (range_around (base_of k b) (contributions machine linked k linked) x from below)) (omega arith) (omega arith) located

  pub descriptors_beside : BytesAt beside_of b.descriptors (filled b.descriptors (contributions machine (placed_from b objects) Descriptors (placed_from b objects)))
  unfolding Among beside_of
  descriptors_beside =
      group_beside Descriptors (group_located machine b objects admissible Descriptors (inl refl))
      (λ r m. inl (among_front r (ranges Descriptors) (ranges DirectoryEnds ++ ranges Lookups) m))

  pub directory_ends_beside : BytesAt beside_of b.directory_ends (filled b.directory_ends (contributions machine (placed_from b objects) DirectoryEnds (placed_from b objects)))
  unfolding Among beside_of
  directory_ends_beside =
      group_beside DirectoryEnds (group_located machine b objects admissible DirectoryEnds (inr (inl refl)))
      (λ r m. inl (among_back r (ranges Descriptors) (ranges DirectoryEnds ++ ranges Lookups) (among_front r (ranges DirectoryEnds) (ranges Lookups) m)))

  pub lookups_beside : BytesAt beside_of b.lookups (filled b.lookups (contributions machine (placed_from b objects) Lookups (placed_from b objects)))
  unfolding Among beside_of
  lookups_beside =
      group_beside Lookups (group_located machine b objects admissible Lookups (inr (inr (inl refl))))
      (λ r m. inl (among_back r (ranges Descriptors) (ranges DirectoryEnds ++ ranges Lookups) (among_back r (ranges DirectoryEnds) (ranges Lookups) m)))

  pub hint_names_beside : BytesAt beside_of b.hint_names (filled b.hint_names (contributions machine (placed_from b objects) HintNames (placed_from b objects)))
  unfolding Among beside_of
  hint_names_beside =
      group_beside HintNames (group_located machine b objects admissible HintNames (inr (inr (inr (inr (inl refl))))))
      (λ r m. inr (among_front r (ranges HintNames) (ranges DllNames ++ []) m))

  pub dll_names_beside : BytesAt beside_of b.dll_names (filled b.dll_names (contributions machine (placed_from b objects) DllNames (placed_from b objects)))
  unfolding Among beside_of
  dll_names_beside =
      group_beside DllNames (group_located machine b objects admissible DllNames (inr (inr (inr (inr (inr (inl refl)))))))
      (λ r m. inr (among_back r (ranges HintNames) (ranges DllNames ++ []) (among_front r (ranges DllNames) [] m)))

-- The import tables of members for GNU's linker without the address tables: what a loader reads that writes there.

-- What is known of ranges, whatever the flavour.

-- tables of thunks, that of zeros at their end, and others before it
pub zero_table : (machine : MachineType) (image : List Range) (a : ℕ) → BytesAt image a (zeros (thunk_width machine)) → StrictTableAt image (thunk_width machine) a []
unfolding TableAt WholeTableAt
zero_table machine image a located = grind (arith, length-replicate, zeros_number)

pub table_with : (image : List Range) (width a : ℕ) (ask : Ask) (asks : List Ask) → StrictThunkAt image width a ask → StrictTableAt image width (a + width) asks → StrictTableAt image width a (ask ∷ asks)
unfolding TableAt WholeTableAt
table_with image width a ask asks one others = record { plain = (one.plain, others.plain); whole = (one.whole, others.whole) }

field_at : (beside : List Range) (a n : ℕ) → n < 2 ^ 31 → BytesAt beside a (u32_bytes ((0 + (n + 0)) % 2 ^ 32)) → NumberAt beside 4 a n
unfolding u32_bytes
field_at beside a n small located = record {
  bytes = u32_bytes ((0 + (n + 0)) % 2 ^ 32);
  located = located;
  count = length-u32 ((0 + (n + 0)) % 2 ^ 32);
  value = omega arith;
}

-- where bytes are is neither 0 nor far
pub bounds_of : (ranges : List Range) → AllByRecursion (λ r. 0 < r.start) ranges → AllByRecursion (λ r. range_end r < 2 ^ 31) ranges → (bytes : List ℕ) (a : ℕ) →
    BytesAt ranges a bytes → 0 < length bytes → (0 < a) × (a < 2 ^ 31)
bounds_of ranges starts ends bytes a located long = grind (arith, byte_first, address_bounds, starts, ends)

pub table_bounds : (machine : MachineType) (ranges : List Range) → AllByRecursion (λ r. 0 < r.start) ranges → AllByRecursion (λ r. range_end r < 2 ^ 31) ranges → (asks : List Ask) (a : ℕ) →
    TableAt ranges (thunk_width machine) a asks → (0 < a) × (a < 2 ^ 31)
unfolding TableAt
table_bounds machine ranges starts ends [] a table = grind (arith, bounds_of, starts, ends, wide_thunk)
table_bounds machine ranges starts ends (ask ∷ asks) a table = grind (arith, bounds_of, starts, ends, wide_thunk)

-- a descriptor, and what it leads to
pub descriptor_beside : (machine : MachineType) (beside : List Range) → AllByRecursion (λ r. 0 < r.start) beside → AllByRecursion (λ r. range_end r < 2 ^ 31) beside →
    (descriptor lookups name table : ℕ) (text : List ℕ) (asks : List Ask) → HasNoNul text → 0 < table → table < 2 ^ 31 →
    BytesAt beside descriptor (u32_bytes ((0 + (lookups + 0)) % 2 ^ 32)
    ++ (zeros 4 ++ (zeros 4 ++ (u32_bytes ((0 + (name + 0)) % 2 ^ 32) ++ u32_bytes ((0 + (table + 0)) % 2 ^ 32))))) →
    TableAt beside (thunk_width machine) lookups asks → BytesAt beside name (text ++ 0 ∷ []) → DescriptorBeside beside (thunk_width machine) descriptor table (record { dll = text; asks = asks })
descriptor_beside machine beside starts ends descriptor lookups name table text asks no_nul above below whole lookup_table name_located =
    let first : List ℕ = u32_bytes ((0 + (lookups + 0)) % 2 ^ 32) in
    let second : List ℕ = u32_bytes ((0 + (name + 0)) % 2 ^ 32) in
    let third : List ℕ = u32_bytes ((0 + (table + 0)) % 2 ^ 32) in
    let parts = located_parts beside first (zeros 4 ++ (zeros 4 ++ (second ++ third))) descriptor whole in
    let time = located_parts beside (zeros 4) (zeros 4 ++ (second ++ third)) (descriptor + length first) parts.1 in
    let last = located_parts beside second third (descriptor + length first + 4 + 4) (located_parts beside (zeros 4) (second ++ third) (descriptor + length first + 4) time.1).1 in
    let first_long : length first ≡ 4 = length-u32 ((0 + (lookups + 0)) % 2 ^ 32) in
    let name_bounds = bounds_of beside starts ends (text ++ 0 ∷ []) name name_located (rw (length-append text (0 ∷ [])) (omega arith)) in
    record {
      lookups = lookups;
      lookups_field = field_at beside descriptor lookups (table_bounds machine beside starts ends asks lookups lookup_table).1 parts.0;
      lookup_table = lookup_table;
      name = name;
      name_field = field_at beside (descriptor + 12) name name_bounds.1 (subst (λ n. BytesAt beside n second) (rw first_long (omega arith)) last.0);
      has_name = name_bounds.0;
      name_text = record { no_nul = no_nul; located = name_located };
      addresses_field = field_at beside (descriptor + 16) table below (subst (λ n. BytesAt beside n third) (rw (first_long, (length-u32 ((0 + (name + 0)) % 2 ^ 32))) (omega arith)) last.1);
      has_addresses = above;
    }

-- what is filled in from ends on is in these ranges, but for the address tables
pub record LocatedBeside (machine : MachineType) (linked : List Placed) (beside : List Range) (b : Bases) (objects : List Object) : Type 0 where
  pub descriptors : BytesAt beside b.descriptors (filled b.descriptors (contributions machine linked Descriptors (placed_from b objects)))
  pub lookups : BytesAt beside b.lookups (filled b.lookups (contributions machine linked Lookups (placed_from b objects)))
  pub hint_names : BytesAt beside b.hint_names (filled b.hint_names (contributions machine linked HintNames (placed_from b objects)))
  pub dll_names : BytesAt beside b.dll_names (filled b.dll_names (contributions machine linked DllNames (placed_from b objects)))

module _ (machine : MachineType) (dll : NamesOfDll) (linked : List Placed) where
  -- the descriptor, relocated
  descriptor_linked : Bases → List ℕ
  descriptor_linked b = relocated machine linked (placed_head machine dll b) (relocation machine 0 3 ∷ relocation machine 16 2 ∷ relocation machine 12 5 ∷ []) (zeros 20)

  descriptor_is : (b : Bases) (n : ℕ) → first_address (definitions_of (iname_symbol machine dll.linked) linked) ≡ Some (n + 0) →
      descriptor_linked b ≡ u32_bytes ((0 + (b.lookups + 0)) % 2 ^ 32) ++ (zeros 4 ++ (zeros 4 ++ (u32_bytes ((0 + (n + 0)) % 2 ^ 32) ++ u32_bytes ((0 + (b.addresses + 0)) % 2 ^ 32))))
  unfolding descriptor_linked head_object with_address u32_bytes u32_at
  descriptor_is b n is = rw (same_number machine, is) refl

  -- where the DLL's name is, and what is filled in after it
  name_located : (image : List Range) (es : List ExportView) (b : Bases) (rest : List Object) → AreAligned b →
      BytesAt image b.dll_names (filled b.dll_names (contributions machine linked DllNames (placed_from b (after_head machine dll es rest)))) →
      BytesAt image (next_multiple 4 (ends_of_exports machine dll b es).dll_names) (dll.text ++ 0 ∷ [])
      × BytesAt image (ends_of_all machine dll b es).dll_names (filled (ends_of_all machine dll b es).dll_names (contributions machine linked DllNames (placed_from (ends_of_all machine dll b es) rest)))
  unfolding ends_of_exports tail_object export_object with_address u32_bytes u32_at
  name_located image [] b rest even located =
      let others : List Contribution = contributions machine linked DllNames (placed_from (ends_of_tail machine dll b) rest) in
      let own : Contribution = record { address = next_multiple 4 b.dll_names; bytes = dll.text ++ 0 ∷ [] } in
      grind (arith, placed-tail, contribution_located image b.dll_names own others (at_least 4 b.dll_names) (grind (arith, placed-tail)))
  name_located image (e ∷ es) b rest even located =
      let later : Bases = ends_of_export machine dll b e in
      let others : List Contribution = contributions machine linked DllNames (placed_from later (after_head machine dll es rest)) in
      let bytes : List ℕ = relocated machine linked (placed_export machine dll b e) (relocation machine 0 0 ∷ []) (zeros 4) in
      let here : BytesAt image b.dll_names (filled b.dll_names (record { address = next_multiple 4 b.dll_names; bytes = bytes } ∷ others)) =
      subst (λ ps. BytesAt image b.dll_names (filled b.dll_names (contributions machine linked DllNames ps))) (placed-export machine dll b e (after_head machine dll es rest) even) located in
      let after = (contribution_located image b.dll_names (record { address = next_multiple 4 b.dll_names; bytes = bytes }) others (at_least 4 b.dll_names) here).1 in
      name_located image es later rest (aligned_after machine dll b e even)
      (subst (λ n. BytesAt image (next_multiple 4 b.dll_names + n) (filled (next_multiple 4 b.dll_names + n) others)) (rw (same_number machine) refl) after)

  -- the name's definition is the last one
  name_defined : (es : List ExportView) (b : Bases) →
      Among (record { name = iname_symbol machine dll.linked; address = Some (next_multiple 4 (ends_of_exports machine dll b es).dll_names + 0) }) (defined_after machine dll b es)
  unfolding ends_of_exports defined_after
  name_defined [] b = among_first _ _
  name_defined (e ∷ es) b = grind (arith, name_defined es (ends_of_export machine dll b e), among_back, code_definition, among_later, ends_of_export)

-- The objects of one DLL among others.
module _ (machine : MachineType) (dll : NamesOfDll) (es : List ExportView) (b : Bases) (rest : List Object) (linked : List Placed) (beside : List Range)
    (starts : AllByRecursion (λ r. 0 < r.start) beside) (ends : AllByRecursion (λ r. range_end r < 2 ^ 31) beside)
    (dll_text : HasNoNul dll.text) (fit : AllByRecursion (CanBeAsked machine) es) (even : AreAligned b)
    (only : (d : SymbolDefinition) → Among d (block_definitions machine dll b es) → definitions_of d.name linked ≡ d ∷ [])
    (located : LocatedBeside machine linked beside b (head machine dll ∷ after_head machine dll es rest)) where
  abbrev later : Bases
  later = ends_of_head machine dll b

  abbrev last : Bases
  last = ends_of_all machine dll later es

  later_even : AreAligned (ends_of_head machine dll b)
  later_even = aligned_head machine dll b even

  placed_is : placed_from b (head machine dll ∷ after_head machine dll es rest) ≡ placed_head machine dll b ∷ placed_from later (after_head machine dll es rest)
  placed_is = placed-head machine dll b (after_head machine dll es rest) even

  lookups_parts : BytesAt beside b.lookups (thunk_bytes machine dll linked later es)
      × BytesAt beside last.lookups (filled last.lookups (contributions machine linked Lookups (placed_from last rest)))
  unfolding head_object
  lookups_parts =
      let others : List Contribution = contributions machine linked Lookups (placed_from later (after_head machine dll es rest)) in
      let after : List ℕ = filled last.lookups (contributions machine linked Lookups (placed_from last rest)) in
      let parts = located_parts beside (thunk_bytes machine dll linked later es) after b.lookups
      (subst (BytesAt beside b.lookups)
      (ap (λ ps. filled b.lookups (contributions machine linked Lookups ps)) placed_is
      ∙ filled_first b.lookups 0 [] others refl
      ∙ ap (λ n. filled n others) (omega arith)
      ∙ lookups_filled machine dll linked later es rest later_even)
      located.lookups) in
      (parts.0, subst (λ n. BytesAt beside n after) (lookups_end machine dll linked later es) parts.1)

  hints_parts : BytesAt beside b.hint_names (hint_bytes machine dll linked later es)
      × BytesAt beside last.hint_names (filled last.hint_names (contributions machine linked HintNames (placed_from last rest)))
  unfolding head_object
  hints_parts =
      let after : List ℕ = filled last.hint_names (contributions machine linked HintNames (placed_from last rest)) in
      let parts = located_parts beside (hint_bytes machine dll linked later es) after b.hint_names
      (subst (BytesAt beside b.hint_names)
      (ap (λ ps. filled b.hint_names (contributions machine linked HintNames ps)) placed_is
      ∙ hint_names_filled machine dll linked later es rest later_even)
      located.hint_names) in
      (parts.0, subst (λ n. BytesAt beside n after) (hint_names_end machine dll linked later es) parts.1)

  name_place : ℕ
  name_place = next_multiple 4 (ends_of_exports machine dll later es).dll_names

  name_parts : BytesAt beside name_place (dll.text ++ 0 ∷ [])
      × BytesAt beside last.dll_names (filled last.dll_names (contributions machine linked DllNames (placed_from last rest)))
  unfolding head_object name_place
  name_parts =
      name_located machine dll linked beside es later rest later_even
      (subst (BytesAt beside b.dll_names) (ap (λ ps. filled b.dll_names (contributions machine linked DllNames ps)) placed_is) located.dll_names)

  name_address : first_address (definitions_of (iname_symbol machine dll.linked) linked) ≡ Some (name_place + 0)
  unfolding name_place block_definitions
  name_address = ap first_address (only _ (among_later _ _ _ (name_defined machine dll linked es later)))

  length-descriptor : length (descriptor_linked machine dll linked b) ≡ 20
  unfolding u32_bytes
  length-descriptor = ap length (descriptor_is machine dll linked b name_place name_address)

  descriptor_parts : BytesAt beside (b.descriptors) (descriptor_linked machine dll linked b)
      × BytesAt beside last.descriptors (filled last.descriptors (contributions machine linked Descriptors (placed_from last rest)))
  unfolding head_object descriptor_linked
  descriptor_parts =
      let others : List Contribution = contributions machine linked Descriptors (placed_from later (after_head machine dll es rest)) in
      let own : Contribution = record { address = b.descriptors; bytes = descriptor_linked machine dll linked b } in
      let parts = contribution_located beside b.descriptors own others (same_order b.descriptors)
      (subst (BytesAt beside b.descriptors) (ap (λ ps. filled b.descriptors (contributions machine linked Descriptors ps)) placed_is) located.descriptors) in
      grind (arith, length-descriptor, descriptors_end machine dll later es, descriptors_filled machine dll linked later es rest later_even)

  pub rest_beside : LocatedBeside machine linked beside (ends_of_block machine dll b es) rest
  rest_beside = record {
    descriptors = descriptor_parts.1;
    lookups = lookups_parts.1;
    hint_names = hints_parts.1;
    dll_names = name_parts.1;
  }

  -- what the descriptor leads to
  pub block_beside : (0 < b.addresses) → (b.addresses < 2 ^ 31) →
      DescriptorBeside beside (thunk_width machine) b.descriptors b.addresses (record { dll = dll.text; asks = map (expected_ask machine) es })
  block_beside above below =
      descriptor_beside machine beside starts ends b.descriptors b.lookups name_place b.addresses dll.text (map (expected_ask machine) es) dll_text above below
      (subst (BytesAt beside b.descriptors) (descriptor_is machine dll linked b name_place name_address) descriptor_parts.0)
      (table_at machine dll linked beside starts ends es later b.lookups fit lookups_parts.0 hints_parts.0).plain name_parts.0
