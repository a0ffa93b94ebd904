-- What is read of the library of a definition, in the definition's own words.
use Rattle.std.specs.Prelude.{◌≡◌, ℕ, false, List, Some, reverse}
use Rattle.std.specs.List.{filter_map}
use Rattle.implib.specs.declared.flavor.Flavor.{Flavor}
use Rattle.implib.specs.declared.flavor.Flavor.TheVariants.{Gnu, Msvc}
use Rattle.implib.specs.declared.machine.MachineType.{MachineType}
use Rattle.implib.specs.Definition.{DefinitionView}
use Rattle.implib.specs.Formats.File.{Meaning}
use Rattle.implib.specs.Import.{Alias, Import, aliases_of, imports_of}
use Rattle.implib.specs.Members.ReadBack.{alias_among, import_among}
use Rattle.implib.specs.Renaming.{renamed}
use Rattle.implib_read.specs.Classes.{MemberRead, library_in}
use Rattle.implib_read.specs.OwnLibraries.{meaning_of_class}
use Rattle.implib_rules.specs.Library.{DefinitionFor, IsLibrary, definition_text}
use Rattle.implib_rules.specs.Options.{LibraryOptionsView}
use Rattle.implib_rules.specs.Order.{own_aliases, own_imports}
use Rattle.implib_compare.specs.declared.compare.Verdict.{Verdict}
use Rattle.implib_compare.specs.declared.compare.Verdict.TheVariants.{Same}
use Rattle.implib_compare.specs.Comparison.{AreTheSame, has_other, has_unread}
use Rattle.implib_compare.specs.Meant.{IsVerdictOn}

-- the imports and aliases of members, in order
abbrev pub meanings_read : List MemberRead → List Meaning
meanings_read members = filter_map (λ m. meaning_of_class m.class) members

-- members in the order of the exports: those for GNU's linker are from the last export to the first
abbrev pub by_export : {X : Type 0} → Flavor → List X → List X
by_export Msvc members = members
by_export Gnu members = reverse members

-- the imports that a definition means: for Microsoft's linker an alias is none
abbrev pub imports_meant : Flavor → MachineType → DefinitionView → List Import
imports_meant Msvc machine d = own_imports machine d
imports_meant Gnu machine d = imports_of machine d

-- the aliases that a definition means
abbrev pub aliases_meant : Flavor → DefinitionView → List Alias
aliases_meant Msvc d = own_aliases d
aliases_meant Gnu d = aliases_of d

-- What is read of the library of a definition: the imports and the aliases that the definition
-- means, in the order of its exports, and nothing else but parts of import tables.
pub record SaysWhatIsDefined (d : DefinitionView) (machine : MachineType) (flavor : Flavor)
    (meant : List MemberRead) : Type 0 where
  pub imports : filter_map import_among (by_export flavor (meanings_read meant))
      ≡ imports_meant flavor machine d
  pub aliases : filter_map alias_among (by_export flavor (meanings_read meant))
      ≡ aliases_meant flavor d
  pub read : has_unread meant ≡ false
  pub alone : has_other meant ≡ false

-- the definition of bytes for these options says what is read
pub record IsDefinedBy (definition : List ℕ) (options : LibraryOptionsView)
    (meant : List MemberRead) : Type 0 where
  pub d : DefinitionView
  pub of_text : DefinitionFor (definition_text definition) options d
  pub says : SaysWhatIsDefined (renamed d) options.machine options.flavor meant

-- What is read of the library of a definition is what the definition says, where no short import
-- has a third text.
abbrev pub MeantIsDefined : Type 0
MeantIsDefined =
    (definition : List ℕ) (options : LibraryOptionsView) (file : List ℕ) (meant : List MemberRead)
    → options.naming.exports_as ≡ false → IsLibrary definition options file →
    library_in file ≡ Some meant → IsDefinedBy definition options meant

-- The library that a definition has is told to be the same as the definition, where no short import
-- has a third text.
abbrev pub OwnLibrariesAreTheSame : Type 0
OwnLibrariesAreTheSame =
    (definition : List ℕ) (options : LibraryOptionsView) (file : List ℕ) (members : List MemberRead)
    (v : Verdict)
    → options.naming.exports_as ≡ false → IsLibrary definition options file →
    library_in file ≡ Some members → IsVerdictOn false definition options members v
    → v ≡ Same

-- a library has the imports and aliases that a definition means: those of members that say what is
-- defined, in any order
pub record SaysTheDefined (definition : List ℕ) (options : LibraryOptionsView)
    (members : List MemberRead) : Type 0 where
  pub meant : List MemberRead
  pub defined : IsDefinedBy definition options meant
  pub same : AreTheSame members meant

-- A library is told to be the same as a definition only where it has the imports and aliases that
-- the definition means, and no short import of the definition's library has a third text.
abbrev pub SameSaysTheDefined : Type 0
SameSaysTheDefined = (definition : List ℕ) (options : LibraryOptionsView)
    (members : List MemberRead) → options.naming.exports_as ≡ false
    → IsVerdictOn false definition options members Same → SaysTheDefined definition options members
