-- What a linked and loaded program reaches in the DLLs that are in memory with it.
use Rattle.std.specs.Prelude.{◌≡◌, ℕ, ◌+◌, ◌*◌, ◌^◌, ◌<◌, Bool, false, List, ◌++◌, Option, Some}
use Rattle.std.specs.Prelude.{map, slice_get}
use Rattle.std.specs.List.{Contains}
use Rattle.std.specs.Option.{option_map}
use Rattle.implib.specs.Formats.Object.{ObjectSymbol}
use Rattle.implib.specs.Link.Image.{Range}
use Rattle.implib.specs.Link.Load.{number_in}
use Rattle.implib.specs.Members.ImportTables.{thunk_width}
use Rattle.implib.specs.declared.machine.MachineType.{MachineType}
use Rattle.implib_dll.specs.Exports.{Address, Exports, Forwarder, Target}
use Rattle.implib_dll.specs.declared.section.AddressKind.{AddressKind}
use Rattle.implib_compare.specs.DllCheck.DllName.{loader_name}
use Rattle.implib_compare.specs.DllCheck.Forwarding.{Arrives, Beside, Content, Holds, end_by, end_of}
use Rattle.implib_compare.specs.DllCheck.Forwarding.{is_stop, is_unknown, known_by, most_forwarders}
use Rattle.implib_compare.specs.DllCheck.Imports.{is_lost, judged}
use Rattle.implib_libraries.specs.FromDll.Laws.{found}
use Rattle.implib_link.specs.Gnu.Fields.{CanBranch, DirectCallArrives, HasDirectCall, StubAt}
use Rattle.implib_link.specs.Gnu.Fields.{DefinesIn, LinkedCode, placed_code}
use Rattle.implib_link.specs.Gnu.Writing.{HoldsAt, Writes}
use Rattle.implib_link.specs.Gnu.Moves.{AreInMemory}
use Rattle.implib_link.specs.Gnu.Fields.{AllLead}
use Rattle.implib_link.specs.Gnu.Writing.{ReadsAndWrites}
use Rattle.implib_link.specs.Tables.{AreSteady, AreTables, CanReadFrom, Table, TableEntry, Tables}
use Rattle.implib_link.specs.Tables.{imported_by_table}
use Rattle.implib_read.specs.Classes.{Imported}
use Rattle.implib_system.specs.System.{DllInMemory, address_by, address_of, asked_of, bytes_of}
use Rattle.implib_system.specs.System.{called, given}

-- However many forwarders are followed, a target leads to one address at most.
abbrev pub OneAddress : Type 0
OneAddress =
    (m n : ℕ) (dlls : List DllInMemory) (d : DllInMemory) (target : Target) (place other : ℕ)
    → address_by m dlls d target ≡ Some place → address_by n dlls d target ≡ Some other →
    place ≡ other

-- The bytes of a number are that number, where they are enough.
abbrev pub BytesAreNumbers : Type 0
BytesAreNumbers =
    (width number : ℕ) → number < 256 ^ width → number_in (bytes_of width number) ≡ number

-- A program's import tables, with the symbol of an entry, and the address that its ask reaches in
-- the DLLs.
pub record Reaches (t : Tables) (n : ℕ) (dlls : List DllInMemory) (name : List ℕ)
    (place : ℕ) : Type 0 where
  pub i : ℕ
  pub j : ℕ
  pub table : Table
  pub entry : TableEntry
  pub at : slice_get t.tables i ≡ Some table
  pub of : slice_get table.entries j ≡ Some entry
  pub named : entry.symbol ≡ Some name
  pub reached : address_of n dlls table.dll entry.ask ≡ Some place

-- A loader walks the directory of a program, and writes what DLLs in memory give. Then the symbol
-- of each entry is where the address of the export is that its ask reaches.
abbrev pub EntriesHoldExports : Type 0
EntriesHoldExports =
    (machine : MachineType) (t : Tables) (n : ℕ) (dlls : List DllInMemory) (written : List Range)
    → AreTables machine t
    → Writes t.image (thunk_width machine) (given n (thunk_width machine) dlls) t.directory
    (map imported_by_table t.tables) written
    → (name : List ℕ) (place : ℕ) → Reaches t n dlls name place
    → HoldsAt (written ++ t.image) t.linked name (bytes_of (thunk_width machine) place)

-- The same of a program in memory at any base with its code: each field against the symbol of an
-- entry leads, by the processor's rule, to the address of the export.
abbrev pub FieldsLeadToExports : Type 0
FieldsLeadToExports =
    (machine : MachineType) (image_base : ℕ) (t : Tables) (codes : List LinkedCode)
    (targets : LinkedCode → ℕ → ℕ) (memory : List Range) (n : ℕ) (dlls : List DllInMemory)
    (count : ℕ) (written : List Range)
    → AreTables machine t → AreSteady machine t.linked
    → AreInMemory machine image_base t.image t.linked codes targets memory
    → ReadsAndWrites memory (thunk_width machine) (given n (thunk_width machine) dlls) count
    t.directory written
    → (name : List ℕ) (place : ℕ) (r : Reaches t n dlls name place) →
    CanReadFrom machine image_base r.table.address
    → AllLead machine image_base t.linked codes (written ++ memory) name
    (bytes_of (thunk_width machine) place)

-- The same of calls: a direct call of a function that is an entry's stub arrives at the address of
-- the export.
abbrev pub CallsReachExports : Type 0
CallsReachExports = (machine : MachineType) (image_base : ℕ) (t : Tables) (codes : List LinkedCode)
    (targets : LinkedCode → ℕ → ℕ) (memory : List Range) (n : ℕ) (dlls : List DllInMemory)
    (count : ℕ) (written : List Range)
    → AreTables machine t → AreSteady machine t.linked
    → AreInMemory machine image_base t.image t.linked codes targets memory
    → ReadsAndWrites memory (thunk_width machine) (given n (thunk_width machine) dlls) count
    t.directory written
    → (name : List ℕ) (place : ℕ) (r : Reaches t n dlls name place) →
    CanReadFrom machine image_base r.table.address
    → (d : LinkedCode) (s : ObjectSymbol) → Contains codes d
    → StubAt machine t.linked (placed_code d) s (r.table.address + thunk_width machine * r.j)
    → (c : LinkedCode) (offset : ℕ) → Contains codes c → DefinesIn d s
    → HasDirectCall machine (placed_code c) offset s.name →
    CanBranch machine (c.position + offset) d.position
    → DirectCallArrives machine image_base (written ++ memory) (c.position + offset)
    (bytes_of (thunk_width machine) place)

-- What is known of DLLs is of those in memory: a DLL that is known to export something is in memory
-- by its name, with these exports.
pub record AreOfMemory (dlls : List DllInMemory) (known : List ℕ → Option Content) : Type 0 where
  pub held : (name : List ℕ) (e : Exports) → known (loader_name name) ≡ Some (Holds e)
      → option_map (λ (d : DllInMemory). d.exports) (called dlls name) ≡ Some e

-- A forwarder that leads to an address, by what is known of DLLs, leads to one in memory.
abbrev pub ForwardersAreFollowed : Type 0
ForwardersAreFollowed = (n : ℕ) (dlls : List DllInMemory) (known : List ℕ → Option Content)
    (machine : ℕ) (is_data : Bool)
    (d : DllInMemory) (text : List ℕ) → AreOfMemory dlls known →
    end_by n known machine is_data text ≡ Arrives
    → (place : ℕ) × (address_by n dlls d (Forwarder text) ≡ Some place)

-- an import has a target in a DLL
pub record IsFoundIn (dlls : List DllInMemory) (d : DllInMemory) (i : Imported) : Type 0 where
  pub target : Target
  pub asked : asked_of dlls i.imports.dll i.imports.ask ≡ Some (d, target)
  pub found : found d.exports i.imports.ask ≡ Some target

-- An import that is not lost in a DLL, nor forwarded to nothing or to what is not known, reaches an
-- address in memory.
abbrev pub FollowedImportsAreReached : Type 0
FollowedImportsAreReached = (dlls : List DllInMemory) (d : DllInMemory) (b : Beside) (i : Imported)
    → called dlls i.imports.dll ≡ Some d → b.exports ≡ d.exports → AreOfMemory dlls (known_by b)
    → is_lost (judged b.exports b.names i) ≡ false → is_stop (end_of b i) ≡ false →
    is_unknown (end_of b i) ≡ false
    → (place : ℕ) × (address_of most_forwarders dlls i.imports.dll i.imports.ask ≡ Some place)

-- An import that is not lost in a DLL has a target there, in memory too, where the DLL is the one
-- of its name; and where the target is no forwarder, the import reaches the address of the export.
abbrev pub FoundImportsAreReached : Type 0
FoundImportsAreReached =
    (dlls : List DllInMemory) (d : DllInMemory) (names : List (List ℕ)) (i : Imported)
    → called dlls i.imports.dll ≡ Some d → is_lost (judged d.exports names i) ≡ false
    → IsFoundIn dlls d i
    × ((n address : ℕ) (kind : AddressKind) →
    found d.exports i.imports.ask ≡ Some (Address address kind)
    → address_of n dlls i.imports.dll i.imports.ask ≡ Some (d.base + address))
