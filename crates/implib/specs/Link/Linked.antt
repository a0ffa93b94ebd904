-- What linking the members of a definition for GNU's linker gives: a loader finds in the image the
-- DLL and what the chosen exports ask for, and no more.
use Rattle.std.specs.Prelude.{◌≡◌, ℕ, ◌+◌, List, [], ◌∷◌, map, slice_get, Option, Some, None}
use Rattle.std.specs.Prelude.{if◌then◌else◌}
use Rattle.std.specs.List.{AllByRecursion, Contains, filter_map, flat_map}
use Rattle.std.specs.Option.{option_and_then}
use Rattle.implib.specs.declared.coff.object.Relocation.{Relocation}
use Rattle.implib.specs.declared.machine.MachineType.{MachineType}
use Rattle.implib.specs.Definition.{ExportView}
use Rattle.implib.specs.Members.Gnu.{head_symbol}
use Rattle.implib.specs.Link.Image.{Range, image_of}
use Rattle.implib.specs.Import.{imp_symbol, expected_ask}
use Rattle.implib.specs.LibraryName.{NamesOfDll, names_for}
use Rattle.implib.specs.declared.flavor.Flavor.TheVariants.{Gnu}
use Rattle.implib.specs.Link.LinkedMembers.{LinkInput, chosen_exports, linked_members, objects_in}
use Rattle.implib.specs.Link.Load.{Loads, LoadsStrictly}
use Rattle.implib.specs.Members.ImportTables.{thunk_width}
use Rattle.implib.specs.Formats.Object.{ASymbol, Auxiliary, Entry, Object, object_in}
use Rattle.implib.specs.Link.Placement.{Bases, Placed, placed_from}
use Rattle.implib.specs.Link.Resolution.{SymbolDefinition, definitions_of, is_undefined_external}
use Rattle.implib.specs.Link.Resolution.{symbol_address}

-- the symbols of each export's address are at entries of `width` bytes, one after another from an
-- address on, and nowhere else
unfoldable pub EntriesAt : List Placed → ℕ → ℕ → List ExportView → Type 0
EntriesAt linked width address [] = Unit {0}
EntriesAt linked width address (e ∷ exports) =
    (definitions_of (imp_symbol e.name) linked
    ≡ record { name = imp_symbol e.name; address = Some address } ∷ [])
    × EntriesAt linked width (address + width) exports

-- the name of a symbol that is to be found in another object
abbrev pub undefined_name : Entry → Option (List ℕ)
undefined_name (Auxiliary bytes) = None
undefined_name (ASymbol s) = if is_undefined_external s then Some s.name else None

-- the names of all such symbols
abbrev pub undefined_names : List Placed → List (List ℕ)
undefined_names linked = flat_map (λ p. filter_map undefined_name p.object.entries) linked

-- exactly one object defines a name, once
abbrev pub IsDefinedOnce : List Placed → List ℕ → Type 0
IsDefinedOnce linked name = (d : SymbolDefinition) × (definitions_of name linked ≡ d ∷ [])

-- exactly one object defines a name, once, at an address
abbrev pub IsDefinedAt : List Placed → List ℕ → Type 0
IsDefinedAt linked name =
    (address : ℕ)
    × (definitions_of name linked ≡ record { name = name; address = Some address } ∷ [])

-- the symbol that a relocation of a placed object leads to has an address
abbrev pub FindsTarget : List Placed → Placed → Relocation → Type 0
FindsTarget linked p r =
    (address : ℕ) × (option_and_then (symbol_address linked p) (slice_get p.object.entries r.symbol)
    ≡ Some address)

-- so has that of each relocation of its sections
abbrev pub AllFind : List Placed → Placed → Type 0
AllFind linked p =
    AllByRecursion (λ s. AllByRecursion (FindsTarget linked p) s.relocations) p.object.sections

-- Objects of a DLL among those that are linked import these exports from it: at the address of the
-- head's symbol is a descriptor, by which a loader finds the DLL's name and, in both tables, what
-- the exports ask for, in their order; each export's `__imp_` symbol is its own entry of the
-- address table. For example, with the address table of foo.dll at 0x1040 on AMD64, `__imp_bar` is
-- 0x1040 and `__imp_baz` 0x1048 (Worked/Links).
pub record LinksAt (machine : MachineType) (image : List Range) (linked : List Placed)
    (dll : NamesOfDll) (exports : List ExportView) : Type 0 where
  pub descriptor : ℕ
  pub head : definitions_of (head_symbol machine dll.linked) linked
      ≡ record { name = head_symbol machine dll.linked; address = Some descriptor } ∷ []
  pub loads : Loads image (thunk_width machine) descriptor dll.text
      (map (expected_ask machine) exports)
  pub entries : EntriesAt linked (thunk_width machine) loads.addresses exports

-- The same at this address, for a strict loader.
pub record LinksStrictlyAt (machine : MachineType) (image : List Range) (linked : List Placed)
    (descriptor : ℕ) (dll : NamesOfDll) (exports : List ExportView) : Type 0 where
  pub head : definitions_of (head_symbol machine dll.linked) linked
      ≡ record { name = head_symbol machine dll.linked; address = Some descriptor } ∷ []
  pub loads : LoadsStrictly image (thunk_width machine) descriptor dll.text
      (map (expected_ask machine) exports)
  pub entries : EntriesAt linked (thunk_width machine) loads.plain.addresses exports

-- Objects that are placed at bases link to an import of these exports from the DLL, and no symbol
-- stays undefined or is ambiguous.
pub record Links (machine : MachineType) (bases : Bases) (dll : NamesOfDll)
    (exports : List ExportView) (objects : List Object) : Type 0 where
  pub imports : LinksAt machine (image_of machine bases (placed_from bases objects))
      (placed_from bases objects) dll exports
  pub defined : AllByRecursion (IsDefinedOnce (placed_from bases objects))
      (undefined_names (placed_from bases objects))

-- what is linked of an input are members of it, and each reads as an object
pub record IsLinked (machine : MachineType) (p : LinkInput) : Type 0 where
  pub from_members : AllByRecursion (Contains p.members)
      (linked_members p.definition machine p.chosen)
  pub read : map (λ m. object_in m.bytes) (linked_members p.definition machine p.chosen)
      ≡ map Some (objects_in (linked_members p.definition machine p.chosen))

-- each input links among the others, and no symbol stays undefined or is ambiguous
pub record AllLink (machine : MachineType) (bases : Bases) (inputs : List LinkInput)
    (objects : List Object) : Type 0 where
  pub linked : AllByRecursion (IsLinked machine) inputs
  pub imports : AllByRecursion
      (λ p. LinksAt machine (image_of machine bases (placed_from bases objects))
      (placed_from bases objects)
      (names_for Gnu p.definition) (chosen_exports p.definition p.chosen))
      inputs
  pub defined : AllByRecursion (IsDefinedOnce (placed_from bases objects))
      (undefined_names (placed_from bases objects))
