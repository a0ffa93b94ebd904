-- What holds of the files of linked programs.
use Rattle.std.specs.Prelude.{◌≡◌, ℕ, ◌+◌, ◌*◌, ◌^◌, ◌<◌, ◌≤◌, List, [], ◌∷◌, ◌++◌, Some, Ok}
use Rattle.std.specs.Prelude.{length, map, slice_get}
use Rattle.std.specs.List.{AllByRecursion, Contains}
use Rattle.implib.specs.Formats.Object.{ObjectSymbol}
use Rattle.implib.specs.Import.{Ask}
use Rattle.implib.specs.Link.Image.{Range, range_end}
use Rattle.implib.specs.Link.Load.{BytesAt}
use Rattle.implib.specs.Machine.{machine_number}
use Rattle.implib.specs.Members.ImportTables.{thunk_width}
use Rattle.implib.specs.declared.machine.MachineType.{MachineType}
use Rattle.implib_link.specs.Image.Files.{DataDirectory, LoadsFile, MappedFile, address_in}
use Rattle.implib_link.specs.Image.Files.{mapped_file}
use Rattle.implib_link.specs.Gnu.Fields.{AreLinkedBeside, DefinesIn, LinkedCode, ranges_of_codes}
use Rattle.implib_link.specs.Gnu.Fields.{AllLead, AreKept}
use Rattle.implib_link.specs.Gnu.Writing.{Writes}
use Rattle.implib_link.specs.Gnu.Stored.{AreFurtherHeld, HoldAddress}
use Rattle.implib_link.specs.Tables.{AreSteady, AreTables, AreTablesLoaded, Block, CanReadFrom}
use Rattle.implib_link.specs.Tables.{Table, TableEntry, Tables, imported_by_table, packed_tables}

-- A file is that of what was linked:
-- `mapped`: its headers are read, and its sections are in it;
-- `made_for`, `width`: it is one of the machine, with thunks as wide as the machine's;
-- `directory`: its data directory 1 has the address of the import directory;
-- `holds`: its sections have these bytes in memory.
pub record IsFileOf (machine : MachineType) (descriptors : ℕ) (ranges : List Range) (bytes : List ℕ)
    (file : MappedFile) : Type 0 where
  pub mapped : mapped_file bytes ≡ Ok file
  pub made_for : file.machine ≡ machine_number machine
  pub width : file.width ≡ thunk_width machine
  pub directory : address_in file.imports ≡ Some descriptors
  pub holds : AllByRecursion (λ (r : Range). BytesAt file.image r.start r.bytes) ranges

-- A loader that begins with the file of import tables loads just what they import, and such a
-- loader ends: it stops after as many descriptors as there are tables, and writes what one does
-- that is handed the imports; there is such a loader.
abbrev pub FilesLoad : Type 0
FilesLoad = (machine : MachineType) (t : Tables) (bytes : List ℕ) (file : MappedFile)
    (gives : List ℕ → Ask → List ℕ)
    → AreTables machine t → IsFileOf machine t.directory t.image bytes file
    → ((dll : List ℕ) (ask : Ask) → length (gives dll ask) ≡ thunk_width machine)
    → ((n : ℕ) (written : List Range) → LoadsFile file gives n written
    → (n ≡ length t.tables) × (AreTablesLoaded machine t gives written
    × Writes t.image (thunk_width machine) gives t.directory (map imported_by_table t.tables)
    written))
    × ((written : List Range) × LoadsFile file gives (length t.tables) written)

-- In a file with code beside its tables, mapped at the base that its header has, every field of
-- code against the symbol of an entry leads to the entry, where such a loader wrote what the DLL
-- gives; bytes that no relocation meets are as they were in the object.
abbrev pub FieldsLeadInFiles : Type 0
FieldsLeadInFiles = (machine : MachineType) (t : Tables) (codes : List LinkedCode)
    (targets : LinkedCode → ℕ → ℕ) (bytes : List ℕ) (file : MappedFile)
    (gives : List ℕ → Ask → List ℕ) (n : ℕ) (written : List Range)
    → AreTables machine t → AreSteady machine t.linked
    → AreLinkedBeside machine file.base t.image t.linked codes targets
    → IsFileOf machine t.directory (t.image ++ ranges_of_codes codes) bytes file
    → ((dll : List ℕ) (ask : Ask) → length (gives dll ask) ≡ thunk_width machine)
    → LoadsFile file gives n written
    → ((i j : ℕ) (x : Table) (e : TableEntry) (name : List ℕ) → slice_get t.tables i ≡ Some x
    → slice_get x.entries j ≡ Some e → e.symbol ≡ Some name
    → CanReadFrom machine file.base x.address
    → AllLead machine file.base t.linked codes (written ++ file.image) name (gives x.dll e.ask))
    × AreKept machine codes (written ++ file.image)

-- And every field for the address of a name that linked code defines holds it there: stored whole,
-- from the base, and by ARM64's `adrp` and `add`.
abbrev pub FilesHoldAddresses : Type 0
FilesHoldAddresses = (machine : MachineType) (t : Tables) (codes : List LinkedCode)
    (targets : LinkedCode → ℕ → ℕ) (bytes : List ℕ) (file : MappedFile)
    (gives : List ℕ → Ask → List ℕ) (n : ℕ) (written : List Range)
    → AreTables machine t → AreSteady machine t.linked
    → AreLinkedBeside machine file.base t.image t.linked codes targets
    → AreFurtherHeld machine file.base codes targets
    → IsFileOf machine t.directory (t.image ++ ranges_of_codes codes) bytes file
    → ((dll : List ℕ) (ask : Ask) → length (gives dll ask) ≡ thunk_width machine)
    → LoadsFile file gives n written
    → (d : LinkedCode) (s : ObjectSymbol) → Contains codes d → DefinesIn d s
    → d.position + s.value < 2 ^ 31
    → HoldAddress machine file.base codes (written ++ file.image) s.name (d.position + s.value)

-- a range is in a data directory
pub record IsInDirectory (d : DataDirectory) (r : Range) : Type 0 where
  pub from : d.address ≤ r.start
  pub to : range_end r ≤ d.address + d.size

-- a data directory has the entries of a table
abbrev pub HasTable : ℕ → DataDirectory → Table → Type 0
HasTable width d x =
    (d.address ≤ x.address) × (x.address + width * length x.entries ≤ d.address + d.size)

-- Where data directory 12 has the address tables, such a loader writes nothing outside it.
abbrev pub WritesAreInDirectory : Type 0
WritesAreInDirectory = (machine : MachineType) (t : Tables) (bytes : List ℕ) (file : MappedFile)
    (gives : List ℕ → Ask → List ℕ) (n : ℕ) (written : List Range) (d : DataDirectory)
    → AreTables machine t → IsFileOf machine t.directory t.image bytes file
    → ((dll : List ℕ) (ask : Ask) → length (gives dll ask) ≡ thunk_width machine)
    → LoadsFile file gives n written → file.addresses ≡ Some d
    → AllByRecursion (HasTable (thunk_width machine) d) t.tables
    → AllByRecursion (IsInDirectory d) written

-- how many thunks the tables of blocks have, with the null thunk of each
abbrev pub thunks_with_nulls : List Block → ℕ
thunks_with_nulls [] = 0
thunks_with_nulls (b ∷ blocks) = length b.entries + 1 + thunks_with_nulls blocks

-- Tables that follow one another, each behind the null thunk of the one before it, are in a
-- directory that begins where they do, or before, and has room for these thunks.
abbrev pub PackedTablesAreInDirectory : Type 0
PackedTablesAreInDirectory = (width address : ℕ) (blocks : List Block) (d : DataDirectory)
    → d.address ≤ address → address + width * thunks_with_nulls blocks ≤ d.address + d.size
    → AllByRecursion (HasTable width d) (packed_tables width address blocks)
