-- What is read of the library of a definition, where short imports may have a third text
-- (`--export-as`), in the definition's own words.
use Rattle.std.specs.Prelude.{◌≡◌, ℕ, ◌&&◌, Bool, false, not, List, ◌++◌, Some, if◌then◌else◌}
use Rattle.std.specs.Prelude.{is_some, map}
use Rattle.std.specs.List.{filter, filter_map}
use Rattle.implib.specs.declared.flavor.Flavor.{Flavor}
use Rattle.implib.specs.declared.flavor.Flavor.TheVariants.{Gnu, Msvc}
use Rattle.implib.specs.declared.machine.MachineType.{MachineType}
use Rattle.implib.specs.Definition.{DefinitionView, ExportView}
use Rattle.implib.specs.Import.{Import, expected_import, imports_of, public_exports}
use Rattle.implib.specs.Members.MemberLists.{is_weak}
use Rattle.implib.specs.Members.ReadBack.{alias_among, import_among}
use Rattle.implib.specs.Renaming.{renamed}
use Rattle.implib_read.specs.Classes.{MemberRead, library_in}
use Rattle.implib_rules.specs.ExportAs.{exported_name}
use Rattle.implib_rules.specs.Library.{DefinitionFor, IsLibrary, definition_text}
use Rattle.implib_rules.specs.Linked.{NamingView}
use Rattle.implib_rules.specs.Options.{LibraryOptionsView}
use Rattle.implib_rules.specs.Order.{own_imports}
use Rattle.implib_compare.specs.declared.compare.Verdict.{Verdict}
use Rattle.implib_compare.specs.declared.compare.Verdict.TheVariants.{Same}
use Rattle.implib_compare.specs.Comparison.{AreTheSame, has_other, has_unread}
use Rattle.implib_compare.specs.Meant.{IsVerdictOn}
use Rattle.implib_check_driver.specs.OwnLibraries.{aliases_meant, by_export, meanings_read}

-- whether on a machine the short import of an export, as it is linked, has a third text
abbrev pub has_third_text : MachineType → ExportView → Bool
has_third_text machine e = is_some (exported_name machine e)

-- The imports of a definition whose short imports may have a third text: those of the exports that
-- are no aliases, as each export means its import. First come those without a third text, then
-- those with one, each in the order of the exports. For example, of `a == b` and bar: bar, and a,
-- which asks for b.
abbrev pub imports_by_texts : MachineType → DefinitionView → List Import
imports_by_texts machine d =
    map (expected_import machine d.import_name)
    (filter (λ e. not (has_third_text machine e) && not (is_weak e)) (public_exports d))
    ++ map (expected_import machine d.import_name)
    (filter (has_third_text machine) (public_exports d))

-- the imports that a definition means by these rules for names
abbrev pub imports_made : NamingView → Flavor → MachineType → DefinitionView → List Import
imports_made naming Msvc machine d =
    if naming.exports_as then imports_by_texts machine d else own_imports machine d
imports_made naming Gnu machine d = imports_of machine d

-- What is read of the library of a definition: the imports and the aliases that the definition
-- means, in the order of its exports but for those with a third text, and nothing else but parts of
-- import tables.
pub record SaysWhatIsMade (naming : NamingView) (d : DefinitionView) (machine : MachineType)
    (flavor : Flavor) (meant : List MemberRead) : Type 0 where
  pub imports : filter_map import_among (by_export flavor (meanings_read meant))
      ≡ imports_made naming flavor machine d
  pub aliases : filter_map alias_among (by_export flavor (meanings_read meant))
      ≡ aliases_meant flavor d
  pub read : has_unread meant ≡ false
  pub alone : has_other meant ≡ false

-- the definition of bytes for these options says what is read
pub record IsMadeBy (definition : List ℕ) (options : LibraryOptionsView)
    (meant : List MemberRead) : Type 0 where
  pub d : DefinitionView
  pub of_text : DefinitionFor (definition_text definition) options d
  pub says : SaysWhatIsMade options.naming (renamed d) options.machine options.flavor meant

-- What is read of the library of a definition is what the definition says.
abbrev pub MeantIsMade : Type 0
MeantIsMade =
    (definition : List ℕ) (options : LibraryOptionsView) (file : List ℕ) (meant : List MemberRead)
    → IsLibrary definition options file → library_in file ≡ Some meant →
    IsMadeBy definition options meant

-- The library that a definition has is told to be the same as the definition.
abbrev pub MadeLibrariesAreTheSame : Type 0
MadeLibrariesAreTheSame =
    (definition : List ℕ) (options : LibraryOptionsView) (file : List ℕ) (members : List MemberRead)
    (v : Verdict)
    → IsLibrary definition options file → library_in file ≡ Some members →
    IsVerdictOn false definition options members v → v ≡ Same

-- a library has the imports and aliases that a definition means: those of members that say what is
-- made, in any order
pub record SaysTheMade (definition : List ℕ) (options : LibraryOptionsView)
    (members : List MemberRead) : Type 0 where
  pub meant : List MemberRead
  pub made : IsMadeBy definition options meant
  pub same : AreTheSame members meant

-- A library is told to be the same as a definition only where it has the imports and aliases that
-- the definition means.
abbrev pub SameSaysTheMade : Type 0
SameSaysTheMade = (definition : List ℕ) (options : LibraryOptionsView) (members : List MemberRead)
    → IsVerdictOn false definition options members Same → SaysTheMade definition options members
