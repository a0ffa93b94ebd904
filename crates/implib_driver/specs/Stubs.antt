-- Stubs that no machine runs: on ARM those of libraries for GNU's linker, whose instructions
-- Windows does not have there (docs/LINKERS.md, `arm-stub`).
use Rattle.std.specs.Prelude.{◌≡◌, ℕ, Bool, true, false, ◌&&◌, List, [], ◌∷◌, codes, map}
use Rattle.std.specs.List.{list_any}
use Rattle.std.specs.Str.{bytes_eq}
use Rattle.implib.specs.declared.flavor.Flavor.{Flavor}
use Rattle.implib.specs.declared.flavor.Flavor.TheVariants.{Msvc, Gnu}
use Rattle.implib.specs.declared.machine.MachineType.{MachineType}
use Rattle.implib.specs.declared.machine.MachineType.TheVariants.{I386, ARMNT, AMD64, ARM64}
use Rattle.implib.specs.Import.{imp_symbol}
use Rattle.implib.specs.Members.MemberSpec.{MemberView}
use Rattle.implib_rules.specs.Options.{LibraryOptionsView}

-- whether symbols that an archive lists begin with a function's and that of its address
abbrev pub begin_with_function : List (List ℕ) → Bool
begin_with_function [] = false
begin_with_function (symbol ∷ []) = false
begin_with_function (symbol ∷ address ∷ others) = bytes_eq address (imp_symbol symbol)

-- whether a member of a library for GNU's linker has the stub of a function
abbrev pub has_stub : MemberView → Bool
has_stub m = begin_with_function m.symbols

-- whether no machine runs the stubs of a flavour
abbrev pub stubs_fail : Flavor → MachineType → Bool
stubs_fail Msvc machine = false
stubs_fail Gnu I386 = false
stubs_fail Gnu ARMNT = true
stubs_fail Gnu AMD64 = false
stubs_fail Gnu ARM64 = false

-- whether members for this have a stub that cannot run
abbrev pub has_failing_stub : LibraryOptionsView → List MemberView → Bool
has_failing_stub options members =
    stubs_fail options.flavor options.machine && list_any has_stub members

-- Worked by hand: a function, a function with an older symbol, data, data with one, a head, a
-- member without symbols, and a function whose name begins as that of an address; and the machines.
pub record StubsTold : Type 0 where
  pub members : map begin_with_function
      ((codes "bar" ∷ codes "__imp_bar" ∷ [])
      ∷ (codes "_bar" ∷ codes "__imp__bar" ∷ codes "___imp_bar" ∷ [])
      ∷ (codes "__imp_bar" ∷ [])
      ∷ (codes "__imp_bar" ∷ codes "___impbar" ∷ [])
      ∷ (codes "_head_foo_dll" ∷ [])
      ∷ []
      ∷ (codes "__imp_a" ∷ codes "__imp___imp_a" ∷ [])
      ∷ (codes "bar" ∷ codes "__imp_ba" ∷ [])
      ∷ (codes "bar" ∷ codes "__imp_bars" ∷ [])
      ∷ (codes "bar" ∷ codes "___impbar" ∷ [])
      ∷ [])
      ≡ true ∷ true ∷ false ∷ false ∷ false ∷ false ∷ true ∷ false ∷ false ∷ false ∷ []
  pub machines : map (stubs_fail Gnu) (I386 ∷ ARMNT ∷ AMD64 ∷ ARM64 ∷ [])
      ≡ false ∷ true ∷ false ∷ false ∷ []
  pub microsofts : map (stubs_fail Msvc) (I386 ∷ ARMNT ∷ AMD64 ∷ ARM64 ∷ [])
      ≡ false ∷ false ∷ false ∷ false ∷ []
