-- Which DLLs a library imports from.
use Rattle.std.specs.Prelude.{ℕ, List, [], ◌∷◌, ◌++◌, Option, Some, None, bytes_eq, fold}
use Rattle.std.specs.Prelude.{if◌then◌else◌}
use Rattle.std.specs.List.{list_any}
use Rattle.std.specs.Option.{option_map_or}
use Rattle.implib_read.specs.Classes.{Class, AnImport, AnAlias, Descriptor, NullDescriptor}
use Rattle.implib_read.specs.Classes.{NullThunk, Head, Tail, DelayImport, Other, NotUnderstood}
use Rattle.implib_read.specs.Classes.{MemberRead}

-- the DLL of a member, if it is an import
abbrev pub dll_of : Class → Option (List ℕ)
dll_of (AnImport i) = Some i.imports.dll
dll_of (AnAlias a) = None
dll_of Descriptor = None
dll_of NullDescriptor = None
dll_of NullThunk = None
dll_of Head = None
dll_of Tail = None
dll_of DelayImport = None
dll_of Other = None
dll_of NotUnderstood = None

-- names, with one more unless it is among them
abbrev pub with_name : List (List ℕ) → List ℕ → List (List ℕ)
with_name names name = if list_any (bytes_eq name) names then names else names ++ name ∷ []

-- names of DLLs, with that of a member unless it is among them
abbrev pub with_dll_of : List (List ℕ) → MemberRead → List (List ℕ)
with_dll_of names m = option_map_or (with_name names) (dll_of m.class) names

-- the DLLs of the imports of a library, each once, in the order of their first imports
abbrev pub dlls_of : List MemberRead → List (List ℕ)
dlls_of members = fold with_dll_of [] members
