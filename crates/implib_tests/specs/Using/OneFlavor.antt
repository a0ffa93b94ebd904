-- Programs of several DLLs whose members are all for GNU's linker, in words that know no flavours:
-- what may be linked, what the link gives, and what a loader leaves.
use Rattle.std.specs.Prelude.{◌≡◌, ℕ, ◌+◌, ◌*◌, ◌≤◌, List, [], ◌∷◌, ◌++◌, Some, bytes_eq, length}
use Rattle.std.specs.Prelude.{map, not, slice_get}
use Rattle.std.specs.List.{AllByRecursion, IsDistinct, filter}
use Rattle.implib.specs.declared.flavor.Flavor.TheVariants.{Gnu}
use Rattle.implib.specs.declared.machine.MachineType.{MachineType}
use Rattle.implib.specs.Definition.{ExportView}
use Rattle.implib.specs.Formats.Object.{Object}
use Rattle.implib.specs.Import.{Ask, expected_ask, imp_symbol}
use Rattle.implib.specs.LibraryName.{NamesOfDll, names_for}
use Rattle.implib.specs.Link.Image.{IsAdmissible, Range, image_of, range_end}
use Rattle.implib.specs.Link.Linked.{AllFind, IsDefinedAt, IsDefinedOnce, IsLinked, LinksStrictlyAt}
use Rattle.implib.specs.Link.Linked.{undefined_names}
use Rattle.implib.specs.Link.LinkedMembers.{LinkInput, all_linked, chosen_exports, objects_in}
use Rattle.implib.specs.Link.Placement.{Bases, Placed, placed_from}
use Rattle.implib.specs.Members.ImportTables.{thunk_width}
use Rattle.implib_link.specs.Directory.{DirectoryAt, imported}
use Rattle.implib_link.specs.Gnu.Writing.{HoldsAt}
use Rattle.implib_link.specs.Flavors.Program.{ClaimsNone, GetsAddress, has_tables, linked_symbols}
use Rattle.implib_link.specs.Flavors.Program.{names_claimed_in, null_descriptor, thunks_before}
use Rattle.implib_link.specs.Flavors.Program.{with_tables}

-- The chosen members of the DLLs and the linker's null descriptor are the objects with import
-- tables; other objects are anywhere among them, and claim none of their symbols; no symbol is
-- listed for two members; and the bases are admissible.
pub record IsOneFlavor (machine : MachineType) (bases : Bases) (inputs : List LinkInput)
    (objects : List Object) : Type 0 where
  pub distinct : IsDistinct bytes_eq (linked_symbols machine inputs)
  pub tables : filter has_tables objects
      ≡ objects_in (all_linked machine inputs) ++ null_descriptor ∷ []
  pub others : AllByRecursion (ClaimsNone (linked_symbols machine inputs))
      (filter (λ o. not (has_tables o)) objects)
  pub admissible : IsAdmissible machine bases objects

-- the undefined `__imp_` symbol of each export has the address of its own entry; the entries are
-- one after another
unfoldable pub EachGets : List Placed → ℕ → ℕ → List ExportView → Type 0
EachGets linked width address [] = Unit {0}
EachGets linked width address (e ∷ exports) =
    GetsAddress linked (imp_symbol e.name) address × EachGets linked width (address + width) exports

-- A strict loader finds the DLL by the descriptor at an address, and what the exports ask for; its
-- address table is at this address, and `__imp_` symbols are its entries.
pub record AreImported (machine : MachineType) (image : List Range) (linked : List Placed)
    (descriptor table : ℕ) (dll : NamesOfDll) (exports : List ExportView) : Type 0 where
  pub strictly : LinksStrictlyAt machine image linked descriptor dll exports
  pub table_located : strictly.loads.plain.addresses ≡ table
  pub gets : EachGets linked (thunk_width machine) table exports

-- What is linked of each definition are its members; each DLL has its own descriptor and table, in
-- their order; the directory lists just these imports; every relocation of a member finds its
-- target, every symbol that one leaves to others is defined once, at an address, and every symbol
-- that one is listed for is defined once; and the members claim no other names.
pub record LinksOneFlavor (machine : MachineType) (bases : Bases) (inputs : List LinkInput)
    (objects : List Object) : Type 0 where
  pub linked : AllByRecursion (IsLinked machine) inputs
  pub imports : (i : ℕ) (p : LinkInput) → slice_get inputs i ≡ Some p →
      AreImported machine (image_of machine bases (placed_from bases objects))
      (placed_from bases objects)
      (bases.descriptors + 20 * i) (bases.addresses + thunk_width machine * thunks_before i inputs)
      (names_for Gnu p.definition) (chosen_exports p.definition p.chosen)
  pub directory : DirectoryAt (image_of machine bases (placed_from bases objects))
      (thunk_width machine) bases.descriptors (map (imported machine) inputs)
  pub targets : AllByRecursion (AllFind (placed_from bases objects))
      (with_tables (placed_from bases objects))
  pub defined : AllByRecursion (IsDefinedAt (placed_from bases objects))
      (undefined_names (with_tables (placed_from bases objects)))
  pub listed : AllByRecursion (IsDefinedOnce (placed_from bases objects))
      (linked_symbols machine inputs)
  pub claimed : names_claimed_in (with_tables (placed_from bases objects))
      ≡ linked_symbols machine inputs

-- At each chosen export's `__imp_` symbol is what its DLL gives for what it asks, and what was
-- written is in the address tables.
pub record LoadsOneFlavor (machine : MachineType) (bases : Bases) (inputs : List LinkInput)
    (objects : List Object) (gives : List ℕ → Ask → List ℕ) (written : List Range) : Type 0 where
  pub entries : (i j : ℕ) (p : LinkInput) (e : ExportView) → slice_get inputs i ≡ Some p →
      slice_get (chosen_exports p.definition p.chosen) j ≡ Some e →
      HoldsAt (written ++ image_of machine bases (placed_from bases objects))
      (placed_from bases objects)
      (imp_symbol e.name) (gives p.definition.import_name (expected_ask machine e))
  pub within : AllByRecursion
      (λ r. (bases.addresses ≤ r.start)
      × (range_end r
      ≤ bases.addresses + thunk_width machine * thunks_before (length inputs) inputs))
      written
