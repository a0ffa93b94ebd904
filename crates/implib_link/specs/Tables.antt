-- Linked import tables, whichever linker made them and of whatever members: the DLLs, what is asked
-- of each, and where its entries and their symbols are. Addresses count from the image's base.
use Rattle.std.specs.Prelude.{◌≡◌, ℕ, ◌+◌, ◌*◌, ◌%◌, ◌^◌, ◌<◌, ◌≤◌, List, [], ◌∷◌, ◌++◌, length}
use Rattle.std.specs.Prelude.{map, slice_get, Option, Some}
use Rattle.std.specs.List.{AllByRecursion, Contains}
use Rattle.implib.specs.declared.machine.MachineType.{MachineType}
use Rattle.implib.specs.declared.machine.MachineType.TheVariants.{I386, ARMNT, AMD64, ARM64}
use Rattle.implib.specs.Definition.{ExportView}
use Rattle.implib.specs.Formats.Object.{Object}
use Rattle.implib.specs.Formats.ShortImport.{ShortImport, ask_of_short_import}
use Rattle.implib.specs.Import.{Ask, imp_symbol}
use Rattle.implib.specs.Link.Image.{Range, image_of, range_end}
use Rattle.implib.specs.Link.Load.{NumberAt}
use Rattle.implib.specs.Link.Placement.{Bases, Placed, placed_from}
use Rattle.implib.specs.Link.Resolution.{definitions_of}
use Rattle.implib.specs.Members.ImportTables.{thunk_width}
use Rattle.implib_link.specs.Directory.{DirectoryAt, Imported}
use Rattle.implib_link.specs.Flavors.LldImports.{dll_of_group, grouped}
use Rattle.implib_link.specs.Flavors.Program.{FlavorInput, ask_in, dll_of, exports_chosen}
use Rattle.implib_link.specs.Flavors.Program.{symbol_in}
use Rattle.implib_link.specs.Gnu.Writing.{HoldsAt}
use Rattle.implib_link.specs.Gnu.Fields.{table_places}

-- one entry of an address table: what it asks for, and its symbol, if it has one
pub record TableEntry : Type 0 where
  pub ask : Ask
  pub symbol : Option (List ℕ)

-- the address table of a DLL, from its address on
pub record Table : Type 0 where
  pub dll : List ℕ
  pub address : ℕ
  pub entries : List TableEntry

-- an image with import tables, the objects that it was linked of, the address of its import
-- directory, and the address tables in the order of the descriptors
pub record Tables : Type 0 where
  pub image : List Range
  pub linked : List Placed
  pub directory : ℕ
  pub tables : List Table

-- what is imported by a table
abbrev pub imported_by_table : Table → Imported
imported_by_table x = record { dll = x.dll; asks = map (λ (e : TableEntry). e.ask) x.entries }

-- tables come one after another, from an address on; anything may be between them
unfoldable pub RiseFrom : ℕ → ℕ → List Table → Type 0
RiseFrom width low [] = Unit {0}
RiseFrom width low (x ∷ tables) =
    (low ≤ x.address) × RiseFrom width (x.address + width * length x.entries) tables

-- an entry's symbol has one definition, which is the entry
abbrev pub DefineEntries : MachineType → List Placed → List Table → Type 0
DefineEntries machine linked tables =
    (i j : ℕ) (x : Table) (e : TableEntry) (name : List ℕ) → slice_get tables i ≡ Some x →
    slice_get x.entries j ≡ Some e → e.symbol ≡ Some name →
    definitions_of name linked
    ≡ record { name = name; address = Some (x.address + thunk_width machine * j) } ∷ []

-- What import tables are:
-- `starts`, `ends`: the image is above 0 and ends below 2^31;
-- `directory`: at the directory's address a strict loader finds exactly these DLLs, and in both
-- tables of each exactly what its entries ask for;
-- `addresses`: each descriptor has the address of its DLL's table;
-- `rise`: the tables follow one another;
-- `symbols`: an entry's symbol has one definition, which is the entry.
pub record AreTables (machine : MachineType) (t : Tables) : Type 0 where
  pub starts : AllByRecursion (λ r. 0 < r.start) t.image
  pub ends : AllByRecursion (λ r. range_end r < 2 ^ 31) t.image
  pub directory : DirectoryAt t.image (thunk_width machine) t.directory
      (map imported_by_table t.tables)
  pub addresses : (i : ℕ) (x : Table) → slice_get t.tables i ≡ Some x →
      NumberAt t.image 4 (t.directory + 20 * i + 16) x.address
  pub rise : RiseFrom (thunk_width machine) 0 t.tables
  pub symbols : DefineEntries machine t.linked t.tables

-- the import tables of linked objects store no address whole, so that no base relocation changes
-- them
abbrev pub AreSteady : MachineType → List Placed → Type 0
AreSteady machine linked = table_places machine linked ≡ []

-- a range is within the entries of one of the tables
pub record IsInTable (width : ℕ) (tables : List Table) (r : Range) : Type 0 where
  pub table : Table
  pub held : Contains tables table
  pub from : table.address ≤ r.start
  pub to : range_end r ≤ table.address + width * length table.entries

-- The tables with what a loader wrote in front of their image, so that it counts first:
-- `entries`: at each entry's symbol is what its DLL gives for what it asks;
-- `within`: what was written is in entries of the tables.
pub record AreTablesLoaded (machine : MachineType) (t : Tables) (gives : List ℕ → Ask → List ℕ)
    (written : List Range) : Type 0 where
  pub entries : (i j : ℕ) (x : Table) (e : TableEntry) (name : List ℕ) →
      slice_get t.tables i ≡ Some x →
      slice_get x.entries j ≡ Some e → e.symbol ≡ Some name →
      HoldsAt (written ++ t.image) t.linked name (gives x.dll e.ask)
  pub within : AllByRecursion (IsInTable (thunk_width machine) t.tables) written

-- What a machine asks so that its instructions can read the entries from an address on: I386, that
-- all of the image is below 2^32; ARM64, that the bases of the image and of the table are multiples
-- of 8. Of ARMNT nothing is claimed.
abbrev pub CanReadFrom : MachineType → ℕ → ℕ → Type 0
CanReadFrom I386 image_base address = image_base + 2 ^ 31 ≤ 2 ^ 32
CanReadFrom ARMNT image_base address = ⊥
CanReadFrom AMD64 image_base address = Unit {0}
CanReadFrom ARM64 image_base address = (image_base % 8 ≡ 0) × (address % 8 ≡ 0)

-- Tables of which each begins after the null thunk of the one before it, as all the linkers here
-- place them.

-- a DLL and its entries, before they have an address
pub record Block : Type 0 where
  pub dll : List ℕ
  pub entries : List TableEntry

-- the tables of blocks, from an address on
abbrev pub packed_tables : ℕ → ℕ → List Block → List Table
packed_tables width address [] = []
packed_tables width address (b ∷ blocks) =
    record { dll = b.dll; address = address; entries = b.entries }
    ∷ packed_tables width (address + width * (length b.entries + 1)) blocks

-- those of a program of members, and of lld
abbrev pub block_of_flavor : MachineType → FlavorInput → Block
block_of_flavor machine p = record {
  dll = dll_of p;
  entries = map
      (λ (e : ExportView). record {
        ask = ask_in p.flavor machine e;
        symbol = Some (imp_symbol (symbol_in p.flavor e));
      })
      (exports_chosen p);
}

abbrev pub entry_of_short : ShortImport → TableEntry
entry_of_short r = record { ask = ask_of_short_import r; symbol = Some (imp_symbol r.symbol) }

abbrev pub block_of_group : List ShortImport → Block
block_of_group group = record { dll = dll_of_group group; entries = map entry_of_short group }

-- the tables of linked objects at bases, and of the short imports that lld took
abbrev pub tables_at : MachineType → Bases → List Object → List Block → Tables
tables_at machine bases objects blocks = record {
  image = image_of machine bases (placed_from bases objects);
  linked = placed_from bases objects;
  directory = bases.descriptors;
  tables = packed_tables (thunk_width machine) bases.addresses blocks;
}

abbrev pub tables_of_lld : MachineType → ℕ → ℕ → List ShortImport → List Range → List Placed →
    Tables
tables_of_lld machine descriptors addresses taken image linked = record {
  image = image;
  linked = linked;
  directory = descriptors;
  tables = packed_tables (thunk_width machine) addresses (map block_of_group (grouped taken));
}
