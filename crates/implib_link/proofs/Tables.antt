-- Tables that follow one another, each behind the null thunk of the one before it: where each is, and where its entries.
use Rattle.std.proofs.Common.{◌≡◌, ℕ, zero, suc, ◌+◌, ◌*◌, ◌%◌, ◌^◌, ◌<◌, ◌≤◌, List, [], ◌∷◌, length, map, Option, Some, refl, ap, sym, ◌∙◌, subst, arith, ◌++◌, inl}
use Rattle.std.proofs.lemmas.Grind.{common_steps}
use Rattle.std.specs.Prelude.{slice_get, option_map}
use Rattle.std.specs.List.{AllByRecursion, Contains}
use Rattle.implib.specs.declared.machine.MachineType.{MachineType}
use Rattle.implib.specs.Import.{Ask, imp_symbol}
use Rattle.implib.specs.Link.Image.{Range, range_end, image_of}
use Rattle.implib.specs.Link.Load.{NumberAt, BytesAt}
use Rattle.implib.specs.Link.Placement.{Placed, Bases, placed_from, SectionAddress}
use Rattle.implib.specs.Link.Resolution.{definitions_of, first_address}
use Rattle.implib.specs.Members.ImportTables.{thunk_width}
use Rattle.implib_link.specs.Directory.{DirectoryAt, Imported}
use Rattle.implib_link.specs.Tables.{AreTables, Block, CanReadFrom, RiseFrom, Table, TableEntry, Tables, imported_by_table, packed_tables, AreTablesLoaded, IsInTable, AreSteady, DefineEntries, block_of_flavor, block_of_group, entry_of_short, tables_at, tables_of_lld}
use Rattle.implib_link.proofs.Gnu.Filling.{before_next}
use Rattle.implib_link.proofs.Flavors.Block.{table_sum}
use Rattle.implib_link.proofs.Gnu.Loaded.{behind_entries, entries_within, entry_located, directory_can_be_read, directory_read, mapped_at, bytes_kept, keeps_written, memory_can_be_read, memory_read, memory_reads, Covers, byte_first, loaded_below, written_covers}
use Rattle.std.proofs.lemmas.List.{append_assoc, length-map}
use Rattle.std.proofs.lemmas.Option.{slice_get-map}
use Rattle.implib.proofs.Link.Linked.{all_append}
use Rattle.implib.proofs.Link.LinkedMembers.{among_contains, all_at}
use Rattle.implib.proofs.Link.Loading.{number_once}
use Rattle.implib.proofs.Link.Ranges.{among_later, all_among}
use Rattle.implib_link.specs.Gnu.Writing.{Writes, entries_written, ReadsAndWrites}
use Rattle.implib_link.proofs.Search.Lists.{contains_among}
use Rattle.implib.specs.Definition.{ExportView}
use Rattle.implib.specs.Formats.Object.{Object, u32_at, ObjectSymbol, section_numbered}
use Rattle.implib_link.specs.Flavors.Program.{Ending, FlavorInput, SymbolsAt, imp_symbols, exports_chosen, symbol_in, thunks_of, ProgramLinks, IsMadeFor, ask_in, dll_of, imported_in, IsProgramOf}
use Rattle.implib.specs.Formats.ShortImport.{ShortImport, ask_of_short_import}
use Rattle.implib.proofs.Link.LinkedBlocks.{ends, starts}
use Rattle.implib_link.specs.Flavors.LldImports.{IsLldProgram, dll_of_group, grouped, imported_by, imports_of_lld, placed_by_lld, ArePiecesAt, IsImportable, thunks_until, BranchArrivesByThunk, IsThunk, ThunkArrives}
use Rattle.implib_link.specs.Gnu.Fields.{StubArrives, CanBranch, DirectCallArrives, HasDirectCall, StubAt, AreLinkedBeside, DefinesIn, LinkedCode, placed_code, field_at, ranges_of_codes, AllLead, AllLeadTo, AreKept, BranchArrives, HasBranch, BranchStays, Names}
use Rattle.implib_link.specs.Stub.{CanJump}
use Rattle.implib_link.proofs.Flavors.LldImports.{all_define, defined_once, get_map, lld_links, nth_stands, only, stand, pieces_directory, pieces_stand}
use Rattle.implib_link.proofs.Flavors.Program.{program_links}
use Rattle.implib.specs.Formats.Bytes.{u32_bytes}
use Rattle.implib.specs.Formats.Layout.{entries_of, name_text, object_of}
use Rattle.implib.specs.Members.WeakExternal.{weak_object}
use Rattle.implib_link.specs.Gnu.Aliases.{weak_target, ResolvesAliases, StandsFor}
use Rattle.implib.proofs.Link.Definitions.{same_text}
use Rattle.implib_link.specs.Gnu.Moves.{AreInMemory}
use Rattle.implib_link.proofs.Flavors.LldThunks.{bare_symbol, thunk_arrives, thunk_defines, thunk_is}
use Rattle.implib_link.proofs.Gnu.CallReads.{CanReach}
use Rattle.implib_link.proofs.Gnu.FieldsInMemory.{Rests, linked_rests, part_there, rests, settled_linked}
use Rattle.implib_link.proofs.Gnu.Operands.{direct_arrives, all_lead, all_lead_to, branch_reaches, branch_stays, where_defined, stub_arrives}
use Rattle.implib_link.proofs.Gnu.Stubs.{same_address, wide_thunk}

-- what is imported by a block
abbrev pub imported_by_block : Block → Imported
imported_by_block b = record { dll = b.dll; asks = map (λ (e : TableEntry). e.ask) b.entries }

-- asks that are read back from entries
pub asks_again : {X : Type 0} (asks : X → Ask) (symbols : X → Option (List ℕ)) (xs : List X) → map (λ (e : TableEntry). e.ask) (map (λ x. record { ask = asks x; symbol = symbols x }) xs) ≡ map asks xs
asks_again asks symbols [] = refl
asks_again asks symbols (x ∷ xs) = ap (λ others. asks x ∷ others) (asks_again asks symbols xs)

-- the entries, with null thunks, of the first few blocks
abbrev pub entries_until : ℕ → List Block → ℕ
entries_until zero blocks = 0
entries_until (suc i) [] = 0
entries_until (suc i) (b ∷ blocks) = length b.entries + 1 + entries_until i blocks

module _ (width : ℕ) where
  pub packed_imports : (blocks : List Block) (address : ℕ) → map imported_by_table (packed_tables width address blocks) ≡ map imported_by_block blocks
  packed_imports [] address = refl
  packed_imports (b ∷ blocks) address = ap (λ is. imported_by_block b ∷ is) (packed_imports blocks (address + width * (length b.entries + 1)))

  pub packed_rise : (blocks : List Block) (low address : ℕ) → low ≤ address → RiseFrom width low (packed_tables width address blocks)
  unfolding RiseFrom
  packed_rise [] low address above = tt
  packed_rise (b ∷ blocks) low address above =
      (above, packed_rise blocks (address + width * length b.entries) (address + width * (length b.entries + 1)) (before_next address width (length b.entries)))

  -- the table of a block
  pub packed_at : (blocks : List Block) (address i : ℕ) (x : Table) → slice_get (packed_tables width address blocks) i ≡ Some x →
      (b : Block) × ((slice_get blocks i ≡ Some b) × (record { dll = b.dll; address = address + width * entries_until i blocks; entries = b.entries } ≡ x))
  packed_at [] address i x is = cc
  packed_at (b ∷ blocks) address zero x is =
      let none : address + width * 0 ≡ address = omega arith in
      (b, (refl, ap (λ a. record { dll = b.dll; address = a; entries = b.entries }) none ∙ (cc)))
  packed_at (b ∷ blocks) address (suc i) x is = grind (arith, packed_at blocks (address + width * (length b.entries + 1)) i x is)

-- What packed tables have of what is known of their blocks.
pub are_packed : (machine : MachineType) (image : List Range) (linked : List Placed) (directory addresses : ℕ) (blocks : List Block) →
    AllByRecursion (λ r. 0 < r.start) image → AllByRecursion (λ r. range_end r < 2 ^ 31) image → DirectoryAt image (thunk_width machine) directory (map imported_by_block blocks) →
    ((i : ℕ) (b : Block) → slice_get blocks i ≡ Some b → NumberAt image 4 (directory + 20 * i + 16) (addresses + thunk_width machine * entries_until i blocks)) →
    ((i j : ℕ) (b : Block) (e : TableEntry) (name : List ℕ) → slice_get blocks i ≡ Some b → slice_get b.entries j ≡ Some e → e.symbol ≡ Some name →
    definitions_of name linked ≡ record { name = name; address = Some (addresses + thunk_width machine * entries_until i blocks + thunk_width machine * j) } ∷ []) →
    AreTables machine (record { image = image; linked = linked; directory = directory; tables = packed_tables (thunk_width machine) addresses blocks })
are_packed machine image linked directory addresses blocks starts ends is_directory fields symbols = grind (arith, starts, ends, packed_imports, packed_at, packed_rise)

-- Where a table of packed ones is.

pub packed_get : (width : ℕ) (blocks : List Block) (address i : ℕ) (b : Block) → slice_get blocks i ≡ Some b →
    slice_get (packed_tables width address blocks) i ≡ Some (record { dll = b.dll; address = address + width * entries_until i blocks; entries = b.entries })
packed_get width (c ∷ blocks) address (suc i) b is = grind (arith, packed_get width blocks (address + width * (length c.entries + 1)) i b is)
packed_get width blocks address i b is = grind arith

-- a machine that can read from an address on can read each packed table
pub eights : (a n : ℕ) → a % 8 ≡ 0 → (a + 8 * n) % 8 ≡ 0
eights a n even = omega arith

pub reads_further : (machine : MachineType) (image_base addresses n : ℕ) → CanReadFrom machine image_base addresses → CanReadFrom machine image_base (addresses + thunk_width machine * n)
reads_further machine image_base addresses n can = grind (arith, eights)

-- the tables of as many blocks
pub packed_count : (width : ℕ) (blocks : List Block) (address : ℕ) → length (packed_tables width address blocks) ≡ length blocks
packed_count width [] address = refl
packed_count width (b ∷ blocks) address = ap suc (packed_count width blocks (address + width * (length b.entries + 1)))

-- An entry of tables: its symbol, its DLL, what it asks, the address of its table, and its number in it.
pub record HasEntry (t : Tables) (name dll : List ℕ) (ask : Ask) (address j : ℕ) : Type 0 where
  pub i : ℕ
  pub table : Table
  pub entry : TableEntry
  pub is : slice_get t.tables i ≡ Some table
  pub asked : slice_get table.entries j ≡ Some entry
  pub symbol : entry.symbol ≡ Some name
  pub of_dll : table.dll ≡ dll
  pub of_ask : entry.ask ≡ ask
  pub at : table.address ≡ address

module _ (machine : MachineType) (image : List Range) (linked : List Placed) (directory addresses : ℕ) (blocks : List Block) where
  abbrev pub packed : Tables
  packed = record { image = image; linked = linked; directory = directory; tables = packed_tables (thunk_width machine) addresses blocks }

  -- an entry of a block
  pub block_entry : (i j : ℕ) (b : Block) (e : TableEntry) (name : List ℕ) → slice_get blocks i ≡ Some b → slice_get b.entries j ≡ Some e → e.symbol ≡ Some name →
      HasEntry packed name b.dll e.ask (addresses + thunk_width machine * entries_until i blocks) j
  block_entry i j b e name is asked symbol = grind (arith, packed_get (thunk_width machine) blocks addresses i b is)

-- What a loader writes into import tables that follow one another is at their entries, and nowhere else.

-- what is asked by a table
abbrev pub asks_of : Table → List Ask
asks_of x = map (λ (e : TableEntry). e.ask) x.entries

asks_counted : (x : Table) → length (asks_of x) ≡ length x.entries
asks_counted x = length-map x.entries (λ (e : TableEntry). e.ask)

-- each descriptor from one on has the address of its table
abbrev HasFields : List Range → ℕ → List Table → Type 0
HasFields image descriptor tables = (i : ℕ) (x : Table) → slice_get tables i ≡ Some x → NumberAt image 4 (descriptor + 20 * i + 16) x.address

first_field : (image : List Range) (descriptor : ℕ) (x : Table) (tables : List Table) → HasFields image descriptor (x ∷ tables) → NumberAt image 4 (descriptor + 16) x.address
first_field image descriptor x tables fields = let place : descriptor + 20 * 0 + 16 ≡ descriptor + 16 = omega arith in subst (λ a. NumberAt image 4 a x.address) place (fields 0 x refl)

later_fields : (image : List Range) (descriptor : ℕ) (x : Table) (tables : List Table) → HasFields image descriptor (x ∷ tables) → HasFields image (descriptor + 20) tables
later_fields image descriptor x tables fields i y is = grind (arith, fields (suc i) y is)

-- a table is above all that was before it
risen : (width low i : ℕ) (tables : List Table) (x : Table) → RiseFrom width low tables → slice_get tables i ≡ Some x → low ≤ x.address
unfolding RiseFrom
risen width low i [] x rise is = cc
risen width low zero (y ∷ tables) x rise is = (let same : y ≡ x = cc in subst (λ (z : Table). low ≤ z.address) same rise.0)
risen width low (suc i) (y ∷ tables) x rise is = grind (arith, risen width (y.address + width * length y.entries) i tables x rise.1 is)

in_later : (width : ℕ) (y : Table) (tables : List Table) (rs : List Range) → AllByRecursion (IsInTable width tables) rs → AllByRecursion (IsInTable width (y ∷ tables)) rs
in_later width y tables [] all = tt
in_later width y tables (r ∷ rs) all = grind (arith, in_later width y tables rs all.1, among_contains all.0.table (y ∷ tables) (among_later all.0.table y tables (contains_among all.0.table tables all.0.held)))

in_first : (width : ℕ) (x : Table) (tables : List Table) (rs : List Range) → AllByRecursion (λ r. (x.address ≤ r.start) × (range_end r ≤ x.address + width * length x.entries)) rs →
    AllByRecursion (IsInTable width (x ∷ tables)) rs
in_first width x tables [] all = tt
in_first width x tables (r ∷ rs) all = grind (arith, in_first width x tables rs all.1)

module _ (machine : MachineType) (gives : List ℕ → Ask → List ℕ) where
  -- what is written into tables
  unfoldable tables_filled : List Table → List Range
  tables_filled [] = []
  tables_filled (x ∷ tables) = entries_written (thunk_width machine) x.address (gives x.dll) (asks_of x) ++ tables_filled tables

  writes_fill : (image : List Range) (tables : List Table) (descriptor : ℕ) (written : List Range) → HasFields image descriptor tables →
      Writes image (thunk_width machine) gives descriptor (map imported_by_table tables) written → written ≡ tables_filled tables
  unfolding Writes tables_filled
  writes_fill image [] descriptor written fields writes = writes
  writes_fill image (x ∷ tables) descriptor written fields (table, (field, (behind, (is, later)))) = cc (number_once image 4 (descriptor + 16) table x.address field (first_field image descriptor x tables fields), writes_fill image tables (descriptor + 20) behind (later_fields image descriptor x tables fields) later)

  module _ (wide : (dll : List ℕ) (ask : Ask) → length (gives dll ask) ≡ thunk_width machine) where
    filled_at : (tables : List Table) (low : ℕ) (ranges : List Range) (i j : ℕ) (x : Table) (e : TableEntry) → RiseFrom (thunk_width machine) low tables → slice_get tables i ≡ Some x → slice_get x.entries j ≡ Some e →
        BytesAt (tables_filled tables ++ ranges) (x.address + thunk_width machine * j) (gives x.dll e.ask)
    unfolding tables_filled RiseFrom
    filled_at [] low ranges i j x e rise is asked = cc
    filled_at (y ∷ tables) low ranges zero j x e rise is asked =
        let same : y ≡ x = cc in
        subst (λ (z : Table). BytesAt (tables_filled (y ∷ tables) ++ ranges) (z.address + thunk_width machine * j) (gives z.dll e.ask)) same
        (subst (λ rs. BytesAt rs (y.address + thunk_width machine * j) (gives y.dll e.ask))
        (sym (append_assoc (entries_written (thunk_width machine) y.address (gives y.dll) (asks_of y)) (tables_filled tables) ranges))
        (entry_located (thunk_width machine) (gives y.dll) (wide y.dll) (asks_of y) y.address (tables_filled tables ++ ranges) j e.ask
        (slice_get-map (λ (d : TableEntry). d.ask) y.entries j ∙ ap (option_map (λ (d : TableEntry). d.ask)) (subst (λ (z : Table). slice_get z.entries j ≡ Some e) (sym same) asked))))
    filled_at (y ∷ tables) low ranges (suc i) j x e rise is asked =
        let above : y.address + thunk_width machine * length y.entries ≤ x.address = risen (thunk_width machine) (y.address + thunk_width machine * length y.entries) i tables x rise.1 is in
        let count : y.address + thunk_width machine * length (asks_of y) ≡ y.address + thunk_width machine * length y.entries = ap (λ n. y.address + thunk_width machine * n) (asks_counted y) in
        subst (λ rs. BytesAt rs (x.address + thunk_width machine * j) (gives x.dll e.ask))
        (sym (append_assoc (entries_written (thunk_width machine) y.address (gives y.dll) (asks_of y)) (tables_filled tables) ranges))
        (behind_entries (thunk_width machine) (gives y.dll) (wide y.dll) (asks_of y) y.address (tables_filled tables ++ ranges) (x.address + thunk_width machine * j) (gives x.dll e.ask) (omega arith)
        (filled_at tables (y.address + thunk_width machine * length y.entries) ranges i j x e rise.1 is asked))

    filled_within : (tables : List Table) → AllByRecursion (IsInTable (thunk_width machine) tables) (tables_filled tables)
    unfolding tables_filled
    filled_within [] = tt
    filled_within (x ∷ tables) =
        let count : x.address + thunk_width machine * length (asks_of x) ≡ x.address + thunk_width machine * length x.entries = ap (λ n. x.address + thunk_width machine * n) (asks_counted x) in
        all_append (IsInTable (thunk_width machine) (x ∷ tables)) (entries_written (thunk_width machine) x.address (gives x.dll) (asks_of x)) (tables_filled tables)
        (in_first (thunk_width machine) x tables (entries_written (thunk_width machine) x.address (gives x.dll) (asks_of x))
        (entries_within (thunk_width machine) (gives x.dll) (wide x.dll) (asks_of x) x.address x.address (x.address + thunk_width machine * length x.entries) (omega arith) (omega arith)))
        (in_later (thunk_width machine) x tables (tables_filled tables) (filled_within tables))

    pub tables_load : (t : Tables) (written : List Range) → AreTables machine t → Writes t.image (thunk_width machine) gives t.directory (map imported_by_table t.tables) written →
        AreTablesLoaded machine t gives written
    tables_load t written tables writes =
        let is : written ≡ tables_filled t.tables = writes_fill t.image t.tables t.directory written tables.addresses writes in
        record {
          entries = λ i j x e name at asked symbol. record {
            address = x.address + thunk_width machine * j;
            once = tables.symbols i j x e name at asked symbol;
            located = grind (arith, is, filled_at, i, asked);
          };
          within = subst (AllByRecursion (IsInTable (thunk_width machine) t.tables)) (sym is) (filled_within t.tables);
        }

pub tables_read : (machine : MachineType) (t : Tables) (gives : List ℕ → Ask → List ℕ) (n : ℕ) (written : List Range) → AreTables machine t →
    ((dll : List ℕ) (ask : Ask) → length (gives dll ask) ≡ thunk_width machine) → ReadsAndWrites t.image (thunk_width machine) gives n t.directory written →
    (n ≡ length t.tables) × AreTablesLoaded machine t gives written
tables_read machine t gives n written tables wide reads = grind (arith, directory_read, length-map, tables_load)

pub tables_end : (machine : MachineType) (t : Tables) (gives : List ℕ → Ask → List ℕ) → AreTables machine t →
    (written : List Range) × ReadsAndWrites t.image (thunk_width machine) gives (length t.tables) t.directory written
tables_end machine t gives tables =
    grind (arith, length-map t.tables imported_by_table, directory_can_be_read t.image (thunk_width machine) gives t.directory (map imported_by_table t.tables) tables.directory, map imported_by_table t.tables)

-- what a loader can write that is handed the imports
pub tables_can_be_written : (machine : MachineType) (t : Tables) (gives : List ℕ → Ask → List ℕ) → AreTables machine t →
    (written : List Range) × Writes t.image (thunk_width machine) gives t.directory (map imported_by_table t.tables) written
tables_can_be_written machine t gives tables =
    let found = tables_end machine t gives tables in
    (found.0, (directory_read t.image (thunk_width machine) gives (length t.tables) t.directory (map imported_by_table t.tables) found.0 tables.directory found.1).1)

-- What a loader writes is at the entries of both flavours' address tables, and nowhere else.

-- the j-th entry is the only definition of its symbol
pub nth_symbol : (linked : List Placed) (width a : ℕ) (names : List (List ℕ)) (j : ℕ) (name : List ℕ) → SymbolsAt linked width a names → slice_get names j ≡ Some name →
    definitions_of name linked ≡ record { name = name; address = Some (a + width * j) } ∷ []
unfolding SymbolsAt
nth_symbol linked width a (x ∷ names) (suc j) name entries is = grind (arith, nth_symbol linked width (a + width) names j name entries.1 is)
nth_symbol linked width a names j name entries is = grind arith

-- the entry of the j-th chosen export
pub entry_of : (machine : MachineType) (ending : Ending) (bases : Bases) (inputs : List FlavorInput) (objects : List Object) (i j : ℕ) (p : FlavorInput) (e : ExportView) → ProgramLinks machine ending bases inputs objects →
    slice_get inputs i ≡ Some p → slice_get (exports_chosen p) j ≡ Some e →
    definitions_of (imp_symbol (symbol_in p.flavor e)) (placed_from bases objects)
    ≡ record { name = imp_symbol (symbol_in p.flavor e); address = Some (bases.addresses + thunk_width machine * thunks_of i inputs + thunk_width machine * j) } ∷ []
entry_of machine ending bases inputs objects i j p e links input chosen =
    nth_symbol (placed_from bases objects) (thunk_width machine) (bases.addresses + thunk_width machine * thunks_of i inputs) (imp_symbols p) j (imp_symbol (symbol_in p.flavor e))
    (links.imports i p input).entries
    (slice_get-map (λ e. imp_symbol (symbol_in p.flavor e)) (exports_chosen p) j ∙ ap (option_map (λ e. imp_symbol (symbol_in p.flavor e))) chosen)

-- Programs of members, and of lld, have import tables.

-- The blocks of programs.

pub inputs_blocks : (machine : MachineType) (inputs : List FlavorInput) → map imported_by_block (map (block_of_flavor machine) inputs) ≡ map (imported_in machine) inputs
inputs_blocks machine [] = refl
inputs_blocks machine (p ∷ inputs) = simp (inputs_blocks machine inputs, asks_again)

pub inputs_until : (machine : MachineType) (i : ℕ) (inputs : List FlavorInput) → entries_until i (map (block_of_flavor machine) inputs) ≡ thunks_of i inputs
inputs_until machine (suc i) (p ∷ inputs) = grind (arith, length-map, inputs_until machine i inputs)
inputs_until machine i inputs = cc

pub program_tables : (machine : MachineType) (ending : Ending) (bases : Bases) (inputs : List FlavorInput) (objects : List Object) → AllByRecursion (IsMadeFor machine) inputs → IsProgramOf machine ending bases inputs objects →
    AreTables machine (tables_at machine bases objects (map (block_of_flavor machine) inputs))
program_tables machine ending bases inputs objects made program =
    let links = program_links machine ending bases inputs objects made program in
    let image : List Range = image_of machine bases (placed_from bases objects) in
    are_packed machine image (placed_from bases objects) bases.descriptors bases.addresses (map (block_of_flavor machine) inputs)
    (starts machine bases objects program.admissible) (ends machine bases objects program.admissible)
    (subst (DirectoryAt image (thunk_width machine) bases.descriptors) (sym (inputs_blocks machine inputs)) links.directory)
    (λ i b is.
    let at = mapped_at (block_of_flavor machine) inputs i b is in
    let one = links.imports i at.0 at.1.0 in
    subst (NumberAt image 4 (bases.descriptors + 20 * i + 16))
    (one.table_located ∙ ap (λ n. bases.addresses + thunk_width machine * n) (sym (inputs_until machine i inputs))) one.loads.plain.addresses_field)
    (λ i j b e name is asked symbol.
    let at = mapped_at (block_of_flavor machine) inputs i b is in
    let own = mapped_at (λ (x : ExportView). record { ask = ask_in at.0.flavor machine x; symbol = Some (imp_symbol (symbol_in at.0.flavor x)) }) (exports_chosen at.0) j e
    (subst (λ (k : Block). slice_get k.entries j ≡ Some e) (sym at.1.1) asked) in
    let named : Some (imp_symbol (symbol_in at.0.flavor own.0)) ≡ Some name = ap (λ (x : TableEntry). x.symbol) own.1.1 ∙ symbol in
    let same : imp_symbol (symbol_in at.0.flavor own.0) ≡ name = cc in
    subst (λ n. definitions_of n (placed_from bases objects) ≡ record { name = n; address = Some (bases.addresses + thunk_width machine * entries_until i (map (block_of_flavor machine) inputs) + thunk_width machine * j) } ∷ []) same
    (subst (λ k. definitions_of (imp_symbol (symbol_in at.0.flavor own.0)) (placed_from bases objects)
    ≡ record { name = imp_symbol (symbol_in at.0.flavor own.0); address = Some (bases.addresses + thunk_width machine * k + thunk_width machine * j) } ∷ [])
    (sym (inputs_until machine i inputs)) (entry_of machine ending bases inputs objects i j at.0 own.0 links at.1.0 own.1.0)))

-- the entry of an export
pub program_entry : (machine : MachineType) (bases : Bases) (inputs : List FlavorInput) (objects : List Object) (i j : ℕ) (p : FlavorInput) (e : ExportView) → slice_get inputs i ≡ Some p →
    slice_get (exports_chosen p) j ≡ Some e →
    HasEntry (tables_at machine bases objects (map (block_of_flavor machine) inputs)) (imp_symbol (symbol_in p.flavor e)) (dll_of p) (ask_in p.flavor machine e)
    (bases.addresses + thunk_width machine * thunks_of i inputs) j
program_entry machine bases inputs objects i j p e input chosen =
    subst (λ n. HasEntry (tables_at machine bases objects (map (block_of_flavor machine) inputs)) (imp_symbol (symbol_in p.flavor e)) (dll_of p) (ask_in p.flavor machine e) (bases.addresses + thunk_width machine * n) j)
    (inputs_until machine i inputs)
    (block_entry machine (image_of machine bases (placed_from bases objects)) (placed_from bases objects) bases.descriptors bases.addresses (map (block_of_flavor machine) inputs) i j
    (block_of_flavor machine p) (record { ask = ask_in p.flavor machine e; symbol = Some (imp_symbol (symbol_in p.flavor e)) }) (imp_symbol (symbol_in p.flavor e)) (get_map (block_of_flavor machine) inputs i p input)
    (get_map (λ (x : ExportView). record { ask = ask_in p.flavor machine x; symbol = Some (imp_symbol (symbol_in p.flavor x)) }) (exports_chosen p) j e chosen) refl)

-- Tables that lld made, of whatever asks.

packed_until : (width : ℕ) (blocks : List Block) (address i : ℕ) (x : Table) → slice_get (packed_tables width address blocks) i ≡ Some x →
    address + width * thunks_until i (map imported_by_table (packed_tables width address blocks)) ≡ x.address
packed_until width (b ∷ blocks) address (suc i) x is = grind (arith, packed_until width blocks (address + width * (length b.entries + 1)) i x is, i, length-map, table_sum, is)
packed_until width blocks address i x is = grind arith

pub pieces_tables : (machine : MachineType) (image : List Range) (linked : List Placed) (descriptors lookups addresses hints names : ℕ) (blocks : List Block) →
    AllByRecursion (λ r. 0 < r.start) image → AllByRecursion (λ r. range_end r < 2 ^ 31) image → AllByRecursion IsImportable (map imported_by_table (packed_tables (thunk_width machine) addresses blocks)) →
    ArePiecesAt machine image descriptors lookups addresses hints names (map imported_by_table (packed_tables (thunk_width machine) addresses blocks)) →
    DefineEntries machine linked (packed_tables (thunk_width machine) addresses blocks) →
    AreTables machine (record { image = image; linked = linked; directory = descriptors; tables = packed_tables (thunk_width machine) addresses blocks })
pieces_tables machine image linked descriptors lookups addresses hints names blocks starts ends importable pieces symbols =
    let tables : List Table = packed_tables (thunk_width machine) addresses blocks in
    let imports : List Imported = map imported_by_table tables in
    record {
      starts = starts;
      ends = ends;
      directory = pieces_directory machine image descriptors lookups addresses hints names imports starts ends importable pieces;
      addresses = λ i x is.
          let from = nth_stands image (thunk_width machine) imports descriptors addresses i (imported_by_table x)
          (pieces_stand machine image starts ends descriptors lookups addresses hints names imports importable pieces) (get_map imported_by_table tables i x is) in
          subst (NumberAt image 4 (descriptors + 20 * i + 16)) (from.table_located ∙ packed_until (thunk_width machine) blocks addresses i x is) from.loads.plain.addresses_field;
      rise = packed_rise (thunk_width machine) blocks 0 addresses (omega arith);
      symbols = symbols;
    }

-- The blocks of lld's tables.

groups_blocks : (groups : List (List ShortImport)) → map imported_by_block (map block_of_group groups) ≡ map imported_by groups
groups_blocks [] = refl
groups_blocks (group ∷ groups) =
    ap (λ asks. record { dll = dll_of_group group; asks = asks } ∷ map imported_by_block (map block_of_group groups))
    (asks_again ask_of_short_import (λ (r : ShortImport). Some (imp_symbol r.symbol)) group)
    ∙ ap (λ is. imported_by group ∷ is) (groups_blocks groups)

pub groups_until : (i : ℕ) (groups : List (List ShortImport)) → entries_until i (map block_of_group groups) ≡ thunks_until i (map imported_by groups)
groups_until (suc i) (group ∷ groups) = grind (arith, groups_until i groups, i, length-map)
groups_until i groups = cc

module _ (machine : MachineType) (descriptors addresses : ℕ) (taken : List ShortImport) (image : List Range) (linked : List Placed)
    (program : IsLldProgram machine descriptors addresses taken image linked) where
  lld_field : (i : ℕ) (group : List ShortImport) → slice_get (grouped taken) i ≡ Some group →
      NumberAt image 4 (descriptors + 20 * i + 16) (addresses + thunk_width machine * thunks_until i (imports_of_lld taken))
  lld_field i group is =
      let from = nth_stands image (thunk_width machine) (imports_of_lld taken) descriptors addresses i (imported_by group) (stand machine descriptors addresses taken image linked program)
      (get_map imported_by (grouped taken) i group is) in
      subst (NumberAt image 4 (descriptors + 20 * i + 16)) from.table_located from.loads.plain.addresses_field

  lld_symbol : (i j : ℕ) (group : List ShortImport) (r : ShortImport) → slice_get (grouped taken) i ≡ Some group → slice_get group j ≡ Some r →
      definitions_of (imp_symbol r.symbol) linked
      ≡ record { name = imp_symbol r.symbol; address = Some (addresses + thunk_width machine * thunks_until i (imports_of_lld taken) + thunk_width machine * j) } ∷ []
  lld_symbol i j group r at is =
      let here = all_at (λ x. Contains taken x × (x.dll ≡ dll_of_group group)) group j r
      (all_at (λ g. AllByRecursion (λ x. Contains taken x × (x.dll ≡ dll_of_group g)) g) (grouped taken) i group (only machine descriptors addresses taken image linked program) at) is in
      defined_once machine descriptors addresses taken image linked program r (contains_among r taken here.0)
      (record { name = imp_symbol r.symbol; address = Some (addresses + thunk_width machine * thunks_until i (imports_of_lld taken) + thunk_width machine * j) }) refl
      (all_define (thunk_width machine) addresses (grouped taken) i j group r at is)

  pub lld_tables : AreTables machine (tables_of_lld machine descriptors addresses taken image linked)
  lld_tables =
      are_packed machine image linked descriptors addresses (map block_of_group (grouped taken)) program.starts program.ends
      (subst (DirectoryAt image (thunk_width machine) descriptors) (sym (groups_blocks (grouped taken))) (lld_links machine descriptors addresses taken image linked program).directory)
      (λ i b is.
      let at = mapped_at block_of_group (grouped taken) i b is in
      subst (λ n. NumberAt image 4 (descriptors + 20 * i + 16) (addresses + thunk_width machine * n)) (sym (groups_until i (grouped taken))) (lld_field i at.0 at.1.0))
      (λ i j b e name is asked symbol.
      let at = mapped_at block_of_group (grouped taken) i b is in
      let own = mapped_at entry_of_short at.0 j e (subst (λ (k : Block). slice_get k.entries j ≡ Some e) (sym at.1.1) asked) in
      let named : Some (imp_symbol own.0.symbol) ≡ Some name = ap (λ (x : TableEntry). x.symbol) own.1.1 ∙ symbol in
      let same : imp_symbol own.0.symbol ≡ name = cc in
      subst (λ n. definitions_of n linked ≡ record { name = n; address = Some (addresses + thunk_width machine * entries_until i (map block_of_group (grouped taken)) + thunk_width machine * j) } ∷ []) same
      (subst (λ k. definitions_of (imp_symbol own.0.symbol) linked ≡ record { name = imp_symbol own.0.symbol; address = Some (addresses + thunk_width machine * k + thunk_width machine * j) } ∷ [])
      (sym (groups_until i (grouped taken))) (lld_symbol i j at.0 own.0 at.1.0 own.1.0)))

-- lld's own tables store no address whole.
pub lld_steady : (machine : MachineType) (addresses : ℕ) (taken : List ShortImport) (before behind : List Placed) → AreSteady machine before → AreSteady machine behind →
    AreSteady machine (before ++ placed_by_lld machine addresses taken ∷ behind)
lld_steady machine addresses taken before behind none none_behind = grind (arith, common_steps)

-- How many tables there are, and that they can be read where stubs can jump.
pub program_count : (machine : MachineType) (bases : Bases) (inputs : List FlavorInput) (objects : List Object) → length (tables_at machine bases objects (map (block_of_flavor machine) inputs)).tables ≡ length inputs
program_count machine bases inputs objects = packed_count (thunk_width machine) (map (block_of_flavor machine) inputs) bases.addresses ∙ length-map inputs (block_of_flavor machine)

jumps_read : (machine : MachineType) (image_base : ℕ) (bases : Bases) → CanJump machine image_base bases → CanReadFrom machine image_base bases.addresses
jumps_read machine image_base bases can = grind arith

pub can_read : (machine : MachineType) (image_base : ℕ) (bases : Bases) (n : ℕ) → CanJump machine image_base bases → CanReadFrom machine image_base (bases.addresses + thunk_width machine * n)
can_read machine image_base bases n can = reads_further machine image_base bases.addresses n (jumps_read machine image_base bases can)

-- The members that are weak externals are so in a link.

-- the members that are weak externals are so
pub weak_is_weak : (machine : MachineType) (weak target : List ℕ) (section_addresses : List SectionAddress) (linked : List Placed) →
    weak_target weak (record { object = object_of (weak_object machine weak target); section_addresses = section_addresses } ∷ linked) ≡ Some target
unfolding object_of weak_object entries_of name_text u32_bytes u32_at
weak_is_weak machine weak target section_addresses linked = rw (same_text weak) refl

-- Fields against the symbols of import tables lead to their entries, in memory at any base, whoever made the tables.

-- a machine that can read a table from its address on can read each entry
pub entry_reached : (machine : MachineType) (image_base address j : ℕ) → CanReadFrom machine image_base address → CanReach machine image_base (address + thunk_width machine * j)
entry_reached machine image_base address j can = grind (arith, eights)

-- What is known of one entry of loaded tables.
pub record EntryIn (machine : MachineType) (t : Tables) (written memory : List Range) (name given : List ℕ) (entry : ℕ) : Type 0 where
  pub once : definitions_of name t.linked ≡ record { name = name; address = Some entry } ∷ []
  pub small : entry < 2 ^ 31
  pub located : BytesAt (written ++ memory) entry given

module _ (machine : MachineType) (image_base : ℕ) (t : Tables) (codes : List LinkedCode) (targets : LinkedCode → ℕ → ℕ) (memory : List Range) (gives : List ℕ → Ask → List ℕ)
    (tables : AreTables machine t) (steady : AreSteady machine t.linked) (at : AreInMemory machine image_base t.image t.linked codes targets memory) where
  pub resting : Rests machine image_base t.image t.linked codes targets memory
  resting = rests machine image_base t.image t.linked codes targets memory at steady

  pub code_section : (d : LinkedCode) → Contains codes d → section_numbered d.from.object.sections d.number ≡ Some d.code
  code_section d held = all_among (λ (x : LinkedCode). section_numbered x.from.object.sections x.number ≡ Some x.code) d codes (contains_among d codes held) resting.beside.sections

  tables_in_memory_read : (n : ℕ) (written : List Range) → ReadsAndWrites memory (thunk_width machine) gives n t.directory written →
      (n ≡ length (map imported_by_table t.tables)) × Writes t.image (thunk_width machine) gives t.directory (map imported_by_table t.tables) written
  tables_in_memory_read n written reads = grind (arith, memory_read, resting)

  pub tables_load_in_memory : (n : ℕ) (written : List Range) → ((dll : List ℕ) (ask : Ask) → length (gives dll ask) ≡ thunk_width machine) →
      ReadsAndWrites memory (thunk_width machine) gives n t.directory written → (n ≡ length t.tables) × AreTablesLoaded machine t gives written
  tables_load_in_memory n written wide reads = grind (arith, tables_in_memory_read, length-map, tables_load)

  pub tables_end_in_memory : (written : List Range) × ReadsAndWrites memory (thunk_width machine) gives (length t.tables) t.directory written
  tables_end_in_memory =
      grind (arith, length-map t.tables imported_by_table, memory_can_be_read t.image memory resting.image_kept (thunk_width machine) gives t.directory (map imported_by_table t.tables) tables.directory)

  -- a loader that is handed the imports writes what one does that reads them in memory
  pub written_read : (written : List Range) → Writes t.image (thunk_width machine) gives t.directory (map imported_by_table t.tables) written →
      ReadsAndWrites memory (thunk_width machine) gives (length t.tables) t.directory written
  written_read written writes = grind (arith, length-map t.tables imported_by_table, memory_reads t.image memory resting.image_kept (thunk_width machine) gives t.directory (map imported_by_table t.tables) written tables.directory writes)

  module _ (n : ℕ) (written : List Range) (wide : (dll : List ℕ) (ask : Ask) → length (gives dll ask) ≡ thunk_width machine)
      (reads : ReadsAndWrites memory (thunk_width machine) gives n t.directory written) where
    pub covering : AllByRecursion (Covers t.image) written
    covering = written_covers t.image (thunk_width machine) gives wide (map imported_by_table t.tables) t.directory written tables.directory (tables_in_memory_read n written reads).1

    pub entry_in : (i j : ℕ) (x : Table) (e : TableEntry) (name : List ℕ) → slice_get t.tables i ≡ Some x → slice_get x.entries j ≡ Some e → e.symbol ≡ Some name →
        EntryIn machine t written memory name (gives x.dll e.ask) (x.address + thunk_width machine * j)
    entry_in i j x e name is asked symbol =
        let entry : ℕ = x.address + thunk_width machine * j in
        let once : definitions_of name t.linked ≡ record { name = name; address = Some entry } ∷ [] = tables.symbols i j x e name is asked symbol in
        let holds = (tables_load_in_memory n written wide reads).1.entries i j x e name is asked symbol in
        let same : holds.address ≡ entry = same_address name holds.address entry (definitions_of name t.linked) holds.once once in
        let located : BytesAt (written ++ t.image) entry (gives x.dll e.ask) = subst (λ a. BytesAt (written ++ t.image) a (gives x.dll e.ask)) same holds.located in
        let first = byte_first (written ++ t.image) (gives x.dll e.ask) entry located (subst (λ k. 0 < k) (sym (wide x.dll e.ask)) (wide_thunk machine)) in
        record {
          once = once;
          small = loaded_below t.image written entry first.0 tables.starts tables.ends covering first.1;
          located = bytes_kept (written ++ t.image) (written ++ memory) (keeps_written t.image memory resting.image_kept written) (gives x.dll e.ask) entry located;
        }

    pub tables_lead_in_memory : (i j : ℕ) (x : Table) (e : TableEntry) (name : List ℕ) → slice_get t.tables i ≡ Some x → slice_get x.entries j ≡ Some e → e.symbol ≡ Some name →
        CanReadFrom machine image_base x.address → AllLead machine image_base t.linked codes (written ++ memory) name (gives x.dll e.ask)
    tables_lead_in_memory i j x e name is asked symbol can =
        let own = entry_in i j x e name is asked symbol in
        all_lead machine image_base t.image t.linked codes targets memory resting written covering name (gives x.dll e.ask) (x.address + thunk_width machine * j) own.once own.small
        (entry_reached machine image_base x.address j can) own.located

    pub entry_known : (name dll : List ℕ) (ask : Ask) (address j : ℕ) → HasEntry t name dll ask address j → EntryIn machine t written memory name (gives dll ask) (address + thunk_width machine * j)
    entry_known name dll ask address j own = grind (arith, entry_in own.i j own.table own.entry name own.is own.asked own.symbol)

    pub entry_leads : (name dll : List ℕ) (ask : Ask) (address j : ℕ) → HasEntry t name dll ask address j → CanReadFrom machine image_base address →
        AllLead machine image_base t.linked codes (written ++ memory) name (gives dll ask)
    entry_leads name dll ask address j own can =
        let known = entry_known name dll ask address j own in
        all_lead machine image_base t.image t.linked codes targets memory resting written covering name (gives dll ask) (address + thunk_width machine * j) known.once known.small
        (entry_reached machine image_base address j can) known.located

    pub tables_branch_in_memory : (c d : LinkedCode) (offset after : ℕ) (name : List ℕ) (s : ObjectSymbol) → Contains codes c → HasBranch machine c offset after name → Contains codes d → DefinesIn d s → s.name ≡ name →
        d.position + s.value < 2 ^ 31 → CanBranch machine (c.position + offset) (d.position + s.value) →
        BranchArrives machine image_base (written ++ memory) (c.position + offset) after (d.position + s.value)
    tables_branch_in_memory c d offset after name s held has d_held defines named small can =
        branch_reaches machine image_base t.image t.linked codes targets memory resting written covering c offset after (d.position + s.value) name held has
        (where_defined machine image_base t.image t.linked codes targets memory resting written covering c d name s held d_held defines named) small can

    pub tables_stay_in_memory : (c d : LinkedCode) (offset after : ℕ) (name : List ℕ) (s : ObjectSymbol) → Contains codes c → HasBranch machine c offset after name → Contains codes d → DefinesIn d s → s.name ≡ name →
        CanBranch machine (c.position + offset) (d.position + s.value) → BranchStays machine (written ++ memory) (c.position + offset) (field_at c.code.bytes offset 4)
    tables_stay_in_memory = branch_stays machine image_base t.image t.linked codes targets memory resting written covering

    pub tables_keep_in_memory : AreKept machine codes (written ++ memory)
    tables_keep_in_memory c offset count held none = grind (arith, part_there machine image_base t.image t.linked codes targets memory resting written covering c (contains_among c codes held) offset count none)

    -- a stub of the entry
    pub stub_in_memory : (i j : ℕ) (x : Table) (e : TableEntry) (name : List ℕ) → slice_get t.tables i ≡ Some x → slice_get x.entries j ≡ Some e → e.symbol ≡ Some name → CanReadFrom machine image_base x.address →
        (d : LinkedCode) (s : ObjectSymbol) → Contains codes d → StubAt machine t.linked (placed_code d) s (x.address + thunk_width machine * j) →
        StubArrives machine image_base (written ++ memory) d.position (gives x.dll e.ask)
    stub_in_memory i j x e name is asked symbol can d s held stub =
        let known = entry_in i j x e name is asked symbol in
        stub_arrives machine image_base t.image t.linked codes targets memory resting written covering name (gives x.dll e.ask) (x.address + thunk_width machine * j) known.once known.small
        (entry_reached machine image_base x.address j can) known.located d s held stub

    -- where linked code begins with the definition of a name, symbols are that stand for it, be it the name itself or another
    abbrev pub AreAt : LinkedCode → List ℕ → ℕ → Type 0
    AreAt c name address = (index : ℕ) → Names c.from index name → targets c index ≡ address

    -- and a call by a name that stands for it
    pub stub_called_by : (i j : ℕ) (x : Table) (e : TableEntry) (name : List ℕ) → slice_get t.tables i ≡ Some x → slice_get x.entries j ≡ Some e → e.symbol ≡ Some name → CanReadFrom machine image_base x.address →
        (d : LinkedCode) (s : ObjectSymbol) → Contains codes d → StubAt machine t.linked (placed_code d) s (x.address + thunk_width machine * j) → (c : LinkedCode) (offset : ℕ) (called : List ℕ) → Contains codes c →
        AreAt c called d.position → HasDirectCall machine (placed_code c) offset called → CanBranch machine (c.position + offset) d.position →
        DirectCallArrives machine image_base (written ++ memory) (c.position + offset) (gives x.dll e.ask)
    stub_called_by i j x e name is asked symbol can d s d_held stub c offset called held taken has near =
        let below : d.position + 16 ≤ 2 ^ 31 = grind (arith, contains_among d codes d_held, all_among, resting, ends) in
        direct_arrives machine image_base t.image t.linked codes targets memory resting written covering c offset d.position called (gives x.dll e.ask) held has taken (omega arith) near
        (stub_in_memory i j x e name is asked symbol can d s d_held stub)

    pub stub_called_in_memory : (i j : ℕ) (x : Table) (e : TableEntry) (name : List ℕ) → slice_get t.tables i ≡ Some x → slice_get x.entries j ≡ Some e → e.symbol ≡ Some name → CanReadFrom machine image_base x.address →
        (d : LinkedCode) (s : ObjectSymbol) → Contains codes d → StubAt machine t.linked (placed_code d) s (x.address + thunk_width machine * j) → (c : LinkedCode) (offset : ℕ) → Contains codes c → DefinesIn d s →
        HasDirectCall machine (placed_code c) offset s.name → CanBranch machine (c.position + offset) d.position →
        DirectCallArrives machine image_base (written ++ memory) (c.position + offset) (gives x.dll e.ask)
    stub_called_in_memory i j x e name is asked symbol can d s d_held stub c offset held defines =
        stub_called_by i j x e name is asked symbol can d s d_held stub c offset s.name held
        (λ index names. where_defined machine image_base t.image t.linked codes targets memory resting written covering c d s.name s held d_held defines refl index names ∙ (omega (arith, stub.begins)))

    pub stub_called_otherwise : (i j : ℕ) (x : Table) (e : TableEntry) (name : List ℕ) → slice_get t.tables i ≡ Some x → slice_get x.entries j ≡ Some e → e.symbol ≡ Some name → CanReadFrom machine image_base x.address →
        (d : LinkedCode) (s : ObjectSymbol) → Contains codes d → StubAt machine t.linked (placed_code d) s (x.address + thunk_width machine * j) → (c : LinkedCode) (offset : ℕ) (alias : List ℕ) → Contains codes c → DefinesIn d s →
        StandsFor t.linked codes targets alias s.name → HasDirectCall machine (placed_code c) offset alias → CanBranch machine (c.position + offset) d.position →
        DirectCallArrives machine image_base (written ++ memory) (c.position + offset) (gives x.dll e.ask)
    stub_called_otherwise i j x e name is asked symbol can d s d_held stub c offset alias held defines stands =
        stub_called_by i j x e name is asked symbol can d s d_held stub c offset alias held
        (λ index names. stands.code c d index s held d_held names defines refl ∙ (omega (arith, stub.begins)))

    -- lld's thunk of a short import, whose symbol the entry has
    pub thunk_in_memory : (i j : ℕ) (x : Table) (e : TableEntry) → slice_get t.tables i ≡ Some x → slice_get x.entries j ≡ Some e → CanReadFrom machine image_base x.address →
        (r : ShortImport) (d : LinkedCode) → e.symbol ≡ Some (imp_symbol r.symbol) → Contains codes d → IsThunk machine d r →
        ThunkArrives machine image_base (written ++ memory) d.position (gives x.dll e.ask)
    thunk_in_memory i j x e is asked can r d symbol held thunk =
        thunk_arrives image_base t.linked codes (written ++ memory) r (gives x.dll e.ask) d held machine x.address can thunk
        (thunk_is machine d r thunk (code_section d held)) (tables_lead_in_memory i j x e (imp_symbol r.symbol) is asked symbol can) tables_keep_in_memory

    -- and a branch to its bare name, or to one that stands for it
    thunk_called_by : (i j : ℕ) (x : Table) (e : TableEntry) → slice_get t.tables i ≡ Some x → slice_get x.entries j ≡ Some e → CanReadFrom machine image_base x.address →
        (r : ShortImport) (d : LinkedCode) → e.symbol ≡ Some (imp_symbol r.symbol) → Contains codes d → IsThunk machine d r → (c : LinkedCode) (offset after : ℕ) (called : List ℕ) → Contains codes c →
        AreAt c called (d.position + 0) → HasBranch machine c offset after called → CanBranch machine (c.position + offset) d.position →
        BranchArrivesByThunk machine image_base (written ++ memory) (c.position + offset) after (gives x.dll e.ask)
    thunk_called_by i j x e is asked can r d symbol d_held thunk c offset after called held taken has near =
        let below : d.position + 16 ≤ 2 ^ 31 = grind (arith, contains_among d codes d_held, all_among, resting, ends) in
        let plain : d.position + 0 ≡ d.position = omega arith in
        record {
          thunk = d.position;
          leads = branch_reaches machine image_base t.image t.linked codes targets memory resting written covering c offset after d.position called held has (λ index names. taken index names ∙ plain) (omega arith) near;
          jumps = thunk_in_memory i j x e is asked can r d symbol d_held thunk;
        }

    pub thunk_called_in_memory : (i j : ℕ) (x : Table) (e : TableEntry) → slice_get t.tables i ≡ Some x → slice_get x.entries j ≡ Some e → CanReadFrom machine image_base x.address →
        (r : ShortImport) (d : LinkedCode) → e.symbol ≡ Some (imp_symbol r.symbol) → Contains codes d → IsThunk machine d r → (c : LinkedCode) (offset after : ℕ) → Contains codes c →
        HasBranch machine c offset after r.symbol → CanBranch machine (c.position + offset) d.position →
        BranchArrivesByThunk machine image_base (written ++ memory) (c.position + offset) after (gives x.dll e.ask)
    thunk_called_in_memory i j x e is asked can r d symbol d_held thunk c offset after held =
        thunk_called_by i j x e is asked can r d symbol d_held thunk c offset after r.symbol held
        (where_defined machine image_base t.image t.linked codes targets memory resting written covering c d r.symbol (bare_symbol r) held d_held (thunk_defines machine d r thunk) refl)

    pub thunk_called_otherwise : (i j : ℕ) (x : Table) (e : TableEntry) → slice_get t.tables i ≡ Some x → slice_get x.entries j ≡ Some e → CanReadFrom machine image_base x.address →
        (r : ShortImport) (d : LinkedCode) → e.symbol ≡ Some (imp_symbol r.symbol) → Contains codes d → IsThunk machine d r → (c : LinkedCode) (offset after : ℕ) (alias : List ℕ) → Contains codes c →
        StandsFor t.linked codes targets alias r.symbol → HasBranch machine c offset after alias → CanBranch machine (c.position + offset) d.position →
        BranchArrivesByThunk machine image_base (written ++ memory) (c.position + offset) after (gives x.dll e.ask)
    thunk_called_otherwise i j x e is asked can r d symbol d_held thunk c offset after alias held stands =
        thunk_called_by i j x e is asked can r d symbol d_held thunk c offset after alias held
        (λ index names. stands.code c d index (bare_symbol r) held d_held names (thunk_defines machine d r thunk) refl)

-- Linked at a base, by names.
module _ (machine : MachineType) (image_base : ℕ) (t : Tables) (codes : List LinkedCode) (targets : LinkedCode → ℕ → ℕ) (gives : List ℕ → Ask → List ℕ)
    (tables : AreTables machine t) (steady : AreSteady machine t.linked) (beside : AreLinkedBeside machine image_base t.image t.linked codes targets) where
  -- fields against a name that has the address of an entry's symbol lead to the entry
  called_leads : (n : ℕ) (written : List Range) → ((dll : List ℕ) (ask : Ask) → length (gives dll ask) ≡ thunk_width machine) →
      ReadsAndWrites (t.image ++ ranges_of_codes codes) (thunk_width machine) gives n t.directory written → (i j : ℕ) (x : Table) (e : TableEntry) (name called : List ℕ) → slice_get t.tables i ≡ Some x →
      slice_get x.entries j ≡ Some e → e.symbol ≡ Some name → CanReadFrom machine image_base x.address →
      ((c : LinkedCode) (index address : ℕ) → Contains codes c → Names c.from index called → first_address (definitions_of name t.linked) ≡ Some address → targets c index ≡ address) →
      AllLeadTo machine image_base t.linked codes (written ++ (t.image ++ ranges_of_codes codes)) called name (gives x.dll e.ask)
  called_leads n written wide reads i j x e name called is asked symbol can taken =
      let memory : List Range = t.image ++ ranges_of_codes codes in
      let entry : ℕ = x.address + thunk_width machine * j in
      let known = entry_in machine image_base t codes targets memory gives tables steady (inl (beside, refl)) n written wide reads i j x e name is asked symbol in
      all_lead_to machine image_base t.image t.linked codes targets memory (linked_rests machine image_base t.image t.linked codes targets beside) written
      (covering machine image_base t codes targets memory gives tables steady (inl (beside, refl)) n written wide reads) name (gives x.dll e.ask) entry known.once known.small (entry_reached machine image_base x.address j can) known.located called
      (λ c index held names. settled_linked machine image_base t.image t.linked codes targets beside c index entry (taken c index entry held names (ap first_address known.once)))

  -- an alias of the symbol does, and any that stands for it
  pub alias_leads : ResolvesAliases t.linked codes targets → (n : ℕ) (written : List Range) → ((dll : List ℕ) (ask : Ask) → length (gives dll ask) ≡ thunk_width machine) →
      ReadsAndWrites (t.image ++ ranges_of_codes codes) (thunk_width machine) gives n t.directory written → (i j : ℕ) (x : Table) (e : TableEntry) (name alias : List ℕ) → slice_get t.tables i ≡ Some x →
      slice_get x.entries j ≡ Some e → e.symbol ≡ Some name → CanReadFrom machine image_base x.address → definitions_of alias t.linked ≡ [] → weak_target alias t.linked ≡ Some name →
      AllLeadTo machine image_base t.linked codes (written ++ (t.image ++ ranges_of_codes codes)) alias name (gives x.dll e.ask)
  alias_leads resolves n written wide reads i j x e name alias is asked symbol can none weak =
      called_leads n written wide reads i j x e name alias is asked symbol can
      (λ c index address held names found.
      resolves c index address names.symbol name held names.target names.undefined (subst (λ k. definitions_of k t.linked ≡ []) (sym names.named) none)
      (subst (λ k. weak_target k t.linked ≡ Some name) (sym names.named) weak) found)

  pub other_leads : (n : ℕ) (written : List Range) → ((dll : List ℕ) (ask : Ask) → length (gives dll ask) ≡ thunk_width machine) →
      ReadsAndWrites (t.image ++ ranges_of_codes codes) (thunk_width machine) gives n t.directory written → (i j : ℕ) (x : Table) (e : TableEntry) (name alias : List ℕ) → slice_get t.tables i ≡ Some x →
      slice_get x.entries j ≡ Some e → e.symbol ≡ Some name → CanReadFrom machine image_base x.address → StandsFor t.linked codes targets alias name →
      AllLeadTo machine image_base t.linked codes (written ++ (t.image ++ ranges_of_codes codes)) alias name (gives x.dll e.ask)
  other_leads n written wide reads i j x e name alias is asked symbol can stands = called_leads n written wide reads i j x e name alias is asked symbol can stands.tables

  -- a loader that reads the image alone, and knows nothing of code, leaves fields that lead
  pub leads_beside : (n : ℕ) (written : List Range) → ((dll : List ℕ) (ask : Ask) → length (gives dll ask) ≡ thunk_width machine) → ReadsAndWrites t.image (thunk_width machine) gives n t.directory written →
      (name dll : List ℕ) (ask : Ask) (address j : ℕ) → HasEntry t name dll ask address j → CanReadFrom machine image_base address →
      AllLead machine image_base t.linked codes (written ++ (t.image ++ ranges_of_codes codes)) name (gives dll ask)
  leads_beside n written wide reads name dll ask address j own can =
      let memory : List Range = t.image ++ ranges_of_codes codes in
      entry_leads machine image_base t codes targets memory gives tables steady (inl (beside, refl)) (length t.tables) written wide
      (written_read machine image_base t codes targets memory gives tables steady (inl (beside, refl)) written
      (directory_read t.image (thunk_width machine) gives n t.directory (map imported_by_table t.tables) written tables.directory reads).1) name dll ask address j own can
