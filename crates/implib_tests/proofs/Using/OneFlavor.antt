-- Programs for GNU's linker alone, by the laws of both flavours and of any tables.
use Rattle.std.proofs.Common.{◌≡◌, ℕ, ◌+◌, ◌*◌, ◌≤◌, List, [], ◌∷◌, ◌++◌, length, map, Some, refl, ap, sym, ◌∙◌, subst, arith, inl, inr}
use Rattle.std.specs.Prelude.{slice_get, bytes_eq, not}
use Rattle.std.specs.List.{AllByRecursion, IsDistinct, filter}
use Rattle.std.proofs.lemmas.List.{length-map}
use Rattle.implib.specs.declared.flavor.Flavor.TheVariants.{Gnu}
use Rattle.implib.specs.declared.machine.MachineType.{MachineType}
use Rattle.implib.specs.Definition.{ExportView}
use Rattle.implib.specs.Formats.Object.{Object}
use Rattle.implib.specs.Import.{Ask, expected_ask, imp_symbol}
use Rattle.implib.specs.LibraryName.{names_for}
use Rattle.implib.specs.Link.Image.{Range, image_of, range_end}
use Rattle.implib.specs.Link.Linked.{EntriesAt, IsDefinedOnce}
use Rattle.implib.specs.Link.LinkedMembers.{IsMade, LinkInput, chosen_exports, objects_in}
use Rattle.implib.specs.Link.Placement.{Bases, Placed, placed_from}
use Rattle.implib.specs.Members.ImportTables.{thunk_width}
use Rattle.implib.proofs.Link.LinkedInputs.{gnu_inputs_linked}
use Rattle.implib.proofs.Link.Ranges.{Among}
use Rattle.implib_link.specs.Directory.{DirectoryAt, imported}
use Rattle.implib_link.specs.Flavors.Program.{InputImports, IsProgram, LinksAmong, OfLinker, SymbolsAt, SymbolsGet, all_members, gnu_input, imp_symbols, imported_in, symbols_listed, linked_symbols, thunks_before, null_descriptor, ClaimsNone, has_tables}
use Rattle.implib_link.specs.Gnu.Writing.{HoldsAt, Writes}
use Rattle.implib_link.specs.Tables.{AreTables, AreTablesLoaded, IsInTable, Tables, block_of_flavor, imported_by_table, tables_at, Table, packed_tables, Block}
use Rattle.implib_link.proofs.Flavors.Program.{gnu_made, gnu_members, gnu_objects, gnu_thunks, program_links}
use Rattle.implib_link.proofs.Tables.{packed_imports, entries_until, tables_can_be_written, tables_load, inputs_blocks, program_entry, program_tables, inputs_until}
use Rattle.implib_tests.specs.Using.OneFlavor.{AreImported, EachGets, IsOneFlavor, LinksOneFlavor, LoadsOneFlavor}
use Rattle.implib_link.proofs.Flavors.Block.{table_sum}
use Rattle.implib_link.proofs.Search.Lists.{contains_among}
use Rattle.std.proofs.lemmas.Option.{slice_get-map}
use Rattle.std.specs.Option.{option_map}

entries_at : (linked : List Placed) (width address : ℕ) (exports : List ExportView) → SymbolsAt linked width address (map (λ (e : ExportView). imp_symbol e.name) exports) → EntriesAt linked width address exports
unfolding SymbolsAt EntriesAt
entries_at linked width address [] at = tt
entries_at linked width address (e ∷ exports) at = (at.0, entries_at linked width (address + width) exports at.1)

each_gets : (linked : List Placed) (width address : ℕ) (exports : List ExportView) → SymbolsGet linked width address (map (λ (e : ExportView). imp_symbol e.name) exports) → EachGets linked width address exports
unfolding SymbolsGet EachGets
each_gets linked width address [] gets = tt
each_gets linked width address (e ∷ exports) gets = (gets.0, each_gets linked width (address + width) exports gets.1)

are_imported : (machine : MachineType) (image : List Range) (linked : List Placed) (descriptor table : ℕ) (p : LinkInput) → InputImports machine image linked descriptor table (gnu_input p) →
    AreImported machine image linked descriptor table (names_for Gnu p.definition) (chosen_exports p.definition p.chosen)
are_imported machine image linked descriptor table p x =
    let exports : List ExportView = chosen_exports p.definition p.chosen in
    record {
      strictly = record {
        head = x.top;
        loads = x.loads;
        entries = entries_at linked (thunk_width machine) x.loads.plain.addresses exports (subst (λ a. SymbolsAt linked (thunk_width machine) a (imp_symbols (gnu_input p))) (sym x.table_located) x.entries);
      };
      table_located = x.table_located;
      gets = each_gets linked (thunk_width machine) table exports x.gets;
    }

imported_alike : (machine : MachineType) (inputs : List LinkInput) → map (imported_in machine) (map gnu_input inputs) ≡ map (imported machine) inputs
imported_alike machine [] = refl
imported_alike machine (p ∷ inputs) = ap (λ is. imported machine p ∷ is) (imported_alike machine inputs)

at_most : (a b c : ℕ) → a ≤ b → b ≤ c → a ≤ c
at_most a b c first second = omega arith

-- a table of packed ones lies among them
in_packed : (width address : ℕ) (blocks : List Block) (x : Table) → Among x (packed_tables width address blocks) →
    (address ≤ x.address) × (x.address + width * length x.entries ≤ address + width * entries_until (length blocks) blocks)
unfolding Among
in_packed width address [] x none = absurd none
in_packed width address (b ∷ blocks) x (inl is) =
    let at : x.address ≡ address = ap (λ (y : Table). y.address) is in
    let count : length x.entries ≡ length b.entries = ap (λ (y : Table). length y.entries) is in
    let all : address + width * length b.entries + width * (1 + entries_until (length blocks) blocks) ≡ address + width * (length b.entries + (1 + entries_until (length blocks) blocks)) =
    table_sum address width (length b.entries) (1 + entries_until (length blocks) blocks) in
    let sum : length b.entries + (1 + entries_until (length blocks) blocks) ≡ length b.entries + 1 + entries_until (length blocks) blocks = omega arith in
    let end : x.address + width * length x.entries ≡ address + width * length b.entries = ap (λ n. n + width * length x.entries) at ∙ ap (λ n. address + width * n) count in
    let whole : address + width * (length b.entries + (1 + entries_until (length blocks) blocks)) ≡ address + width * (length b.entries + 1 + entries_until (length blocks) blocks) = ap (λ n. address + width * n) sum in
    (omega arith, omega arith)
in_packed width address (b ∷ blocks) x (inr later) =
    let behind = in_packed width (address + width * (length b.entries + 1)) blocks x later in
    let all : address + width * (length b.entries + 1) + width * entries_until (length blocks) blocks ≡ address + width * (length b.entries + 1 + entries_until (length blocks) blocks) =
    table_sum address width (length b.entries + 1) (entries_until (length blocks) blocks) in
    (omega (arith, behind.0), omega (arith, behind.1, all))

module _ (machine : MachineType) (bases : Bases) (inputs : List LinkInput) (objects : List Object) (made : AllByRecursion (IsMade machine) inputs) (is : IsOneFlavor machine bases inputs objects) where
  abbrev linked : List Placed
  linked = placed_from bases objects

  abbrev image : List Range
  image = image_of machine bases linked

  program : IsProgram machine bases inputs objects
  program = record { held = gnu_objects machine inputs objects is.distinct is.tables is.others; admissible = is.admissible; lookups = tt; addresses = tt; follows = tt }

  among : LinksAmong machine bases inputs objects
  among = program_links machine OfLinker bases (map gnu_input inputs) objects (gnu_made machine inputs made) program

  imports_of : (i : ℕ) (p : LinkInput) → slice_get inputs i ≡ Some p →
      InputImports machine (image_of machine bases (placed_from bases objects)) (placed_from bases objects) (bases.descriptors + 20 * i) (bases.addresses + thunk_width machine * thunks_before i inputs) (gnu_input p)
  imports_of i p at =
      subst (λ n. InputImports machine image linked (bases.descriptors + 20 * i) (bases.addresses + thunk_width machine * n) (gnu_input p)) (gnu_thunks i inputs)
      (among.imports i (gnu_input p) (slice_get-map gnu_input inputs i ∙ ap (option_map gnu_input) at))

  names_are : symbols_listed (all_members machine (map gnu_input inputs)) ≡ linked_symbols machine inputs
  names_are = ap symbols_listed (gnu_members machine inputs)

  pub links_here : LinksOneFlavor machine bases inputs objects
  links_here = record {
    linked = gnu_inputs_linked machine inputs made;
    imports = λ i p at. are_imported machine image linked (bases.descriptors + 20 * i) (bases.addresses + thunk_width machine * thunks_before i inputs) p (imports_of i p at);
    directory = subst (DirectoryAt image (thunk_width machine) bases.descriptors) (imported_alike machine inputs) among.directory;
    targets = among.targets;
    defined = among.defined;
    listed = subst (AllByRecursion (IsDefinedOnce linked)) names_are among.listed;
    claimed = among.claimed ∙ names_are;
  }

  -- The tables.

  abbrev tables : Tables
  tables = tables_at machine bases objects (map (block_of_flavor machine) (map gnu_input inputs))

  are_tables : AreTables machine (tables_at machine bases objects (map (block_of_flavor machine) (map gnu_input inputs)))
  are_tables = program_tables machine OfLinker bases (map gnu_input inputs) objects (gnu_made machine inputs made) program

  imports_alike : map imported_by_table (tables_at machine bases objects (map (block_of_flavor machine) (map gnu_input inputs))).tables ≡ map (imported machine) inputs
  imports_alike = packed_imports (thunk_width machine) (map (block_of_flavor machine) (map gnu_input inputs)) bases.addresses ∙ inputs_blocks machine (map gnu_input inputs) ∙ imported_alike machine inputs

  tables_until : entries_until (length (map (block_of_flavor machine) (map gnu_input inputs))) (map (block_of_flavor machine) (map gnu_input inputs)) ≡ thunks_before (length inputs) inputs
  tables_until =
      let blocks : List Block = map (block_of_flavor machine) (map gnu_input inputs) in
      ap (λ n. entries_until n blocks) (length-map (map gnu_input inputs) (block_of_flavor machine) ∙ length-map inputs gnu_input)
      ∙ inputs_until machine (length inputs) (map gnu_input inputs) ∙ gnu_thunks (length inputs) inputs

  within_tables : (r : Range) → IsInTable (thunk_width machine) (tables_at machine bases objects (map (block_of_flavor machine) (map gnu_input inputs))).tables r →
      (bases.addresses ≤ r.start) × (range_end r ≤ bases.addresses + thunk_width machine * thunks_before (length inputs) inputs)
  within_tables r x =
      let blocks : List Block = map (block_of_flavor machine) (map gnu_input inputs) in
      let bounds = in_packed (thunk_width machine) bases.addresses blocks x.table (contains_among x.table (packed_tables (thunk_width machine) bases.addresses blocks) x.held) in
      let end : x.table.address + thunk_width machine * length x.table.entries ≤ bases.addresses + thunk_width machine * thunks_before (length inputs) inputs =
      subst (λ n. x.table.address + thunk_width machine * length x.table.entries ≤ bases.addresses + thunk_width machine * n) tables_until bounds.1 in
      (at_most bases.addresses x.table.address r.start bounds.0 x.from, at_most (range_end r) (x.table.address + thunk_width machine * length x.table.entries) _ x.to end)

  all_within : (written : List Range) → AllByRecursion (IsInTable (thunk_width machine) (tables_at machine bases objects (map (block_of_flavor machine) (map gnu_input inputs))).tables) written →
      AllByRecursion (λ r. (bases.addresses ≤ r.start) × (range_end r ≤ bases.addresses + thunk_width machine * thunks_before (length inputs) inputs)) written
  all_within [] all = tt
  all_within (r ∷ written) all = (within_tables r all.0, all_within written all.1)

  module _ (gives : List ℕ → Ask → List ℕ) where
    pub loads_here : (written : List Range) → ((dll : List ℕ) (ask : Ask) → length (gives dll ask) ≡ thunk_width machine) →
        Writes (image_of machine bases (placed_from bases objects)) (thunk_width machine) gives bases.descriptors (map (imported machine) inputs) written → LoadsOneFlavor machine bases inputs objects gives written
    loads_here written wide writes =
        let loaded : AreTablesLoaded machine (tables_at machine bases objects (map (block_of_flavor machine) (map gnu_input inputs))) gives written =
        tables_load machine gives wide tables written are_tables (subst (λ is. Writes image (thunk_width machine) gives bases.descriptors is written) (sym imports_alike) writes) in
        record {
          entries = λ i j p e input chosen.
              let h = program_entry machine bases (map gnu_input inputs) objects i j (gnu_input p) e (slice_get-map gnu_input inputs i ∙ ap (option_map gnu_input) input) chosen in
              subst (λ dll. HoldsAt (written ++ image) linked (imp_symbol e.name) (gives dll (expected_ask machine e))) h.of_dll
              (subst (λ ask. HoldsAt (written ++ image) linked (imp_symbol e.name) (gives h.table.dll ask)) h.of_ask (loaded.entries h.i j h.table h.entry (imp_symbol e.name) h.is h.asked h.symbol));
          within = all_within written loaded.within;
        }

    pub writes_here : (written : List Range) × Writes (image_of machine bases (placed_from bases objects)) (thunk_width machine) gives bases.descriptors (map (imported machine) inputs) written
    writes_here =
        let some = tables_can_be_written machine tables gives are_tables in
        (some.0, subst (λ is. Writes image (thunk_width machine) gives bases.descriptors is some.0) imports_alike some.1)

pub is_one_flavor : (machine : MachineType) (bases : Bases) (inputs : List LinkInput) (objects : List Object) → IsProgram machine bases inputs objects → IsOneFlavor machine bases inputs objects
is_one_flavor machine bases inputs objects program = record {
  distinct = subst (λ ms. IsDistinct bytes_eq (symbols_listed ms)) (gnu_members machine inputs) program.held.distinct;
  tables = program.held.ended.tables ∙ ap (λ ms. objects_in ms ++ null_descriptor ∷ []) (gnu_members machine inputs);
  others = subst (λ ms. AllByRecursion (ClaimsNone (symbols_listed ms)) (filter (λ o. not (has_tables o)) objects)) (gnu_members machine inputs) program.held.others;
  admissible = program.admissible;
}

pub links_one_flavor : (machine : MachineType) (bases : Bases) (inputs : List LinkInput) (objects : List Object) → AllByRecursion (IsMade machine) inputs → IsOneFlavor machine bases inputs objects → LinksOneFlavor machine bases inputs objects
links_one_flavor machine bases inputs objects made is = links_here machine bases inputs objects made is

pub loads_one_flavor : (machine : MachineType) (bases : Bases) (inputs : List LinkInput) (objects : List Object) (gives : List ℕ → Ask → List ℕ) (written : List Range) → AllByRecursion (IsMade machine) inputs →
    IsOneFlavor machine bases inputs objects → ((dll : List ℕ) (ask : Ask) → length (gives dll ask) ≡ thunk_width machine) →
    Writes (image_of machine bases (placed_from bases objects)) (thunk_width machine) gives bases.descriptors (map (imported machine) inputs) written → LoadsOneFlavor machine bases inputs objects gives written
loads_one_flavor machine bases inputs objects gives written made is wide writes = loads_here machine bases inputs objects made is gives written wide writes

pub writes_one_flavor : (machine : MachineType) (bases : Bases) (inputs : List LinkInput) (objects : List Object) (gives : List ℕ → Ask → List ℕ) → AllByRecursion (IsMade machine) inputs → IsOneFlavor machine bases inputs objects →
    (written : List Range) × Writes (image_of machine bases (placed_from bases objects)) (thunk_width machine) gives bases.descriptors (map (imported machine) inputs) written
writes_one_flavor machine bases inputs objects gives made is = writes_here machine bases inputs objects made is gives
