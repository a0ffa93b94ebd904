-- Import tables in memory, as laws of fields, calls and stubs begin: each of these says that
-- something holds of all such tables, of each entry of theirs, or of each stub or thunk of one.
use Rattle.std.specs.Prelude.{◌≡◌, ℕ, ◌+◌, ◌*◌, List, Some, length, slice_get}
use Rattle.std.specs.List.{Contains}
use Rattle.implib.specs.declared.machine.MachineType.{MachineType}
use Rattle.implib.specs.Formats.Object.{ObjectSymbol}
use Rattle.implib.specs.Formats.ShortImport.{ShortImport}
use Rattle.implib.specs.Import.{Ask, imp_symbol}
use Rattle.implib.specs.Link.Image.{Range}
use Rattle.implib.specs.Link.Placement.{Placed}
use Rattle.implib.specs.Members.ImportTables.{thunk_width}
use Rattle.implib_link.specs.Flavors.LldImports.{IsThunk}
use Rattle.implib_link.specs.Gnu.Fields.{StubAt, LinkedCode, placed_code}
use Rattle.implib_link.specs.Gnu.Writing.{ReadsAndWrites}
use Rattle.implib_link.specs.Tables.{AreSteady, AreTables, CanReadFrom, Table, TableEntry, Tables}

-- what each DLL gives has as many bytes as an entry
abbrev pub AreAsWide : MachineType → (List ℕ → Ask → List ℕ) → Type 0
AreAsWide machine gives = (dll : List ℕ) (ask : Ask) → length (gives dll ask) ≡ thunk_width machine

-- What holds where a loader has read any import tables in memory and has written what the DLLs
-- give: the tables store no address whole, and are there beside linked code in a way (`AreThere`),
-- as they were linked or moved to another base. It holds of the memory, of what was written, and of
-- the number of descriptors that were read (`n`).
abbrev pub WhereLoaded : (MachineType → ℕ → List Range → List Placed → List LinkedCode →
    (LinkedCode → ℕ → ℕ) → List Range → Type 0) →
    (MachineType → ℕ → Tables → List LinkedCode → (LinkedCode → ℕ → ℕ) → List Range →
    (List ℕ → Ask → List ℕ) → ℕ → List Range → Type 0) → Type 0
WhereLoaded AreThere Holds =
    (machine : MachineType) (image_base : ℕ) (t : Tables) (codes : List LinkedCode)
    (targets : LinkedCode → ℕ → ℕ) (memory : List Range) (gives : List ℕ → Ask → List ℕ) →
    AreTables machine t →
    AreSteady machine t.linked →
    AreThere machine image_base t.image t.linked codes targets memory →
    (n : ℕ) (written : List Range) →
    AreAsWide machine gives →
    ReadsAndWrites memory (thunk_width machine) gives n t.directory written →
    Holds machine image_base t codes targets memory gives n written

-- What holds of each entry with a symbol in a table that the machine can read: of the symbol's
-- name, the entry's address, and the bytes that the DLL gives for it.
abbrev pub OfEntries : MachineType → ℕ → Tables → (List ℕ → Ask → List ℕ) →
    (List ℕ → ℕ → List ℕ → Type 0) → Type 0
OfEntries machine image_base t gives Holds =
    (i j : ℕ) (x : Table) (e : TableEntry) (name : List ℕ) →
    slice_get t.tables i ≡ Some x →
    slice_get x.entries j ≡ Some e →
    e.symbol ≡ Some name →
    CanReadFrom machine image_base x.address →
    Holds name (x.address + thunk_width machine * j) (gives x.dll e.ask)

-- what holds of each stub of such an entry: of its code, the symbol there, and the bytes
abbrev pub OfStubs : MachineType → ℕ → Tables → List LinkedCode → (List ℕ → Ask → List ℕ) →
    (LinkedCode → ObjectSymbol → List ℕ → Type 0) → Type 0
OfStubs machine image_base t codes gives Holds =
    OfEntries machine image_base t gives (λ name entry given.
    (d : LinkedCode) (s : ObjectSymbol) → Contains codes d →
    StubAt machine t.linked (placed_code d) s entry → Holds d s given)

-- what holds of each thunk that lld makes of a short import whose symbol is an entry's
abbrev pub OfThunks : MachineType → ℕ → Tables → List LinkedCode → (List ℕ → Ask → List ℕ) →
    (LinkedCode → ShortImport → List ℕ → Type 0) → Type 0
OfThunks machine image_base t codes gives Holds =
    (i j : ℕ) (x : Table) (e : TableEntry) →
    slice_get t.tables i ≡ Some x →
    slice_get x.entries j ≡ Some e →
    CanReadFrom machine image_base x.address →
    (r : ShortImport) (d : LinkedCode) →
    e.symbol ≡ Some (imp_symbol r.symbol) →
    Contains codes d →
    IsThunk machine d r →
    Holds d r (gives x.dll e.ask)
