-- What the names of libraries are for: a linker finds a library, and keeps it apart from others of
-- its DLL. And the library of a text is that of its exports.
use Rattle.std.specs.Prelude.{◌≡◌, ◌≢◌, ℕ, true, false, List, ◌++◌, codes}
use Rattle.implib.specs.declared.flavor.Flavor.TheVariants.{Msvc, Gnu}
use Rattle.implib.specs.declared.machine.MachineType.{MachineType}
use Rattle.implib.specs.declared.machine.MachineType.TheVariants.{AMD64}
use Rattle.implib.specs.Definition.{DefinitionView}
use Rattle.implib.specs.Import.{is_empty_text}
use Rattle.implib.specs.LibraryName.{linked_dll}
use Rattle.implib.specs.Link.LinkedMembers.{IsPrefixOf, member_prefix}
use Rattle.implib.specs.Members.MsvcObjects.{descriptor_symbol}
use Rattle.implib.specs.Text.Parses.{Parses}
use Rattle.implib_rules.specs.Exports.{IsLibraryOfExports}
use Rattle.implib_rules.specs.Library.{DefinitionFor, IsLibrary, definition_text}
use Rattle.implib_rules.specs.LibraryName.{gnu_library_name, has_gnu_linker, with_library_name}
use Rattle.implib_rules.specs.LibraryName.{without_ending}
use Rattle.implib_rules.specs.Nameless.{with_ordinals}
use Rattle.implib_rules.specs.Options.{LibraryOptionsView}

-- GNU `ld` finds a library of Microsoft's: its members are named `B.dll` and its import descriptor
-- `__IMPORT_DESCRIPTOR_B`, where B is the DLL's name without its ending.
pub record IsFoundByGnu (d : DefinitionView) : Type 0 where
  pub members : linked_dll d ≡ without_ending d.import_name ++ codes ".dll"
  pub descriptor : descriptor_symbol (linked_dll d)
      ≡ codes "__IMPORT_DESCRIPTOR_" ++ without_ending d.import_name

-- The library for Microsoft's linker of each text is one that GNU `ld` finds, where it links for
-- the machine, but for a DLL whose name has nothing before its last full stop.
abbrev pub MsvcLibrariesAreFound : Type 0
MsvcLibrariesAreFound =
    (text : List ℕ) (options : LibraryOptionsView) (d : DefinitionView) →
    DefinitionFor text options d → options.flavor ≡ Msvc → has_gnu_linker options.machine ≡ true →
    is_empty_text (without_ending d.import_name) ≡ false → IsFoundByGnu d

-- Of two libraries of one DLL for GNU's linker that have different names, the names of the members
-- of neither begin with what those of the other do.
abbrev pub GnuLibrariesAreApart : Type 0
GnuLibrariesAreApart =
    (machine : MachineType) (first second : DefinitionView) →
    first.import_name ≡ second.import_name →
    gnu_library_name first ≢ gnu_library_name second →
    IsPrefixOf (member_prefix (with_library_name machine Gnu first))
    (member_prefix (with_library_name machine Gnu second)) → ⊥

-- Where a text has a library, and the exports of the definition that it means have one for the same
-- options, once aliases of exports without names are by ordinal, the two are the same bytes. Exports
-- have one only where the name of the DLL is given.
abbrev pub LibrariesAreOfExports : Type 0
LibrariesAreOfExports =
    (text : List ℕ) (options : LibraryOptionsView) (parsed : DefinitionView) (file other : List ℕ) →
    Parses (definition_text text) AMD64 parsed →
    IsLibrary text options file →
    IsLibraryOfExports (with_ordinals parsed).exports options other → file ≡ other
