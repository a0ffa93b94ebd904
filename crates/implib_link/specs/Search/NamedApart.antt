-- Libraries for GNU's linker whose names are apart, by the texts of their definitions: what a
-- reader can check.
use Rattle.std.specs.Prelude.{◌≡◌, ℕ, Bool, true, false, ◌==◌, List, [], ◌∷◌, ◌++◌, bytes_eq, map}
use Rattle.std.specs.Prelude.{not}
use Rattle.std.specs.List.{AllByRecursion, IsDistinct, flat_map, list_any}
use Rattle.implib.specs.declared.machine.MachineType.{MachineType}
use Rattle.implib.specs.Import.{imp_symbol, underscore}
use Rattle.implib.specs.Members.Gnu.{mangled_name}
use Rattle.implib_link.specs.Search.Search.{Library, exports_of}
use Rattle.implib_link.specs.Search.Libraries.{heads_of, tails_of}
use Rattle.implib.specs.LibraryName.{linked_name}

-- A DLL's name as symbols have it. For example, `foo_dll` of foo.dll.
abbrev pub stem : Library → List ℕ
stem l = mangled_name (linked_name l.definition)

-- whether a text begins with something else than an underscore
abbrev pub begins_plain : List ℕ → Bool
begins_plain [] = false
begins_plain (byte ∷ rest) = not (byte == underscore)

-- the names of the exports of all libraries
abbrev pub names_in : List Library → List (List ℕ)
names_in libraries = flat_map (λ l. map (λ e. e.name) (exports_of l)) libraries

-- no name is one of these
abbrev pub AreNone : List (List ℕ) → List (List ℕ) → Type 0
AreNone names others = AllByRecursion (λ name. list_any (bytes_eq name) others ≡ false) names

-- Libraries that are named apart:
-- `stems`: the DLLs' names differ, as symbols have them: those of a.b.dll and a_b.dll do not;
-- `begin`: and begin with no underscore or full stop;
-- `exports`: the exports' names differ, in all libraries together;
-- `plain`: and none is a symbol that is made of a name: a tail's, a head's, or `__imp_` and an
-- export's.
pub record AreNamedApart (machine : MachineType) (libraries : List Library) : Type 0 where
  pub stems : IsDistinct bytes_eq (map stem libraries)
  pub begin : AllByRecursion (λ l. begins_plain (stem l) ≡ true) libraries
  pub exports : IsDistinct bytes_eq (names_in libraries)
  pub plain : AreNone (names_in libraries)
      (tails_of machine libraries
      ++ (heads_of machine libraries ++ map imp_symbol (names_in libraries)))
