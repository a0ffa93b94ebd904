-- The names of an import library: the one by which a linker holds its members together, and the
-- DLL's, which the loader reads (docs/FORMATS.md, "The name of a library").
use Rattle.std.specs.Prelude.{ℕ, List, ◌++◌, codes, unwrap_or}
use Rattle.std.specs.Option.{option_map}
use Rattle.implib.specs.declared.flavor.Flavor.{Flavor}
use Rattle.implib.specs.declared.flavor.Flavor.TheVariants.{Msvc, Gnu}
use Rattle.implib.specs.Definition.{DefinitionView}

-- What the members for GNU's linker and their symbols are named after: the library's name where
-- there is one, else the DLL's.
abbrev pub linked_name : DefinitionView → List ℕ
linked_name d = unwrap_or d.library_name d.import_name

-- What the members for Microsoft's linker are named, and their symbols after: the library's name
-- with `.dll` where there is one, else the DLL's name.
abbrev pub linked_dll : DefinitionView → List ℕ
linked_dll d = unwrap_or (option_map (λ name. name ++ codes ".dll") d.library_name) d.import_name

-- the name for the linker of a flavour
abbrev pub linked_in : Flavor → DefinitionView → List ℕ
linked_in Msvc d = linked_dll d
linked_in Gnu d = linked_name d

-- the names of a library's DLL: for the linker, and as the text that the loader reads
pub record NamesOfDll : Type 0 where
  pub linked : List ℕ
  pub text : List ℕ

-- the names in a flavour
abbrev pub names_for : Flavor → DefinitionView → NamesOfDll
names_for flavor d = record { linked = linked_in flavor d; text = d.import_name }

-- the names where the library has none of its own: the DLL's for both
abbrev pub own_names : List ℕ → NamesOfDll
own_names dll = record { linked = dll; text = dll }
