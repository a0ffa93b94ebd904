-- The names of an import library for the linker.
use Rattle.std.proofs.Common.{◌≡◌, ℕ, ◌-◌, true, List, ◌++◌, Option, Some, None, ap, codes, length, length-append, refl, take, arith, ◌∙◌}
use Rattle.std.specs.Prelude.{nat_eq, unwrap_or}
use Rattle.std.specs.List.{ends_with}
use Rattle.std.specs.Option.{option_map}
use Rattle.std.proofs.Math.Seq.{take-append_seam}
use Rattle.implib.specs.declared.flavor.Flavor.{Flavor}
use Rattle.implib.specs.declared.flavor.Flavor.TheVariants.{Msvc, Gnu}
use Rattle.implib.specs.declared.machine.MachineType.{MachineType}
use Rattle.implib.specs.Definition.{DefinitionView}
use Rattle.implib.specs.LibraryName.{linked_dll, names_for, own_names}
use Rattle.implib.specs.Members.MsvcObjects.{base_name}
use Rattle.implib.specs.Members.NameRules.{definition_names_refusal, first_of_both, import_name_refusal, names_refusal}
use Rattle.std.proofs.lemmas.Slice.Eq.{ends_is}
use Rattle.std.proofs.lemmas.Bool.Decides.{Decides-eqb}

-- without a name of its own a library is named by the DLL alone
pub nameless : (flavor : Flavor) (d : DefinitionView) → d.library_name ≡ None → names_for flavor d ≡ own_names d.import_name
nameless Msvc d none = ap (λ (given : Option (List ℕ)). record { linked = unwrap_or (option_map (λ name. name ++ codes ".dll") given) d.import_name; text = d.import_name }) none
nameless Gnu d none = ap (λ (given : Option (List ℕ)). record { linked = unwrap_or given d.import_name; text = d.import_name }) none

-- and is refused by the rules on the DLL's name and on the exports alone
pub nameless_refusal : (flavor : Flavor) (machine : MachineType) (d : DefinitionView) → d.library_name ≡ None →
    definition_names_refusal d machine flavor ≡ first_of_both (import_name_refusal d.import_name) (names_refusal flavor machine 0 d.exports)
nameless_refusal flavor machine d none = grind arith

-- a name with `.dll` after it, without its ending
base_of_dll : (name : List ℕ) → base_name (name ++ codes ".dll") ≡ name
unfolding base_name
base_of_dll name =
    let dll : List ℕ = name ++ codes ".dll" in
    let count : length dll - 4 ≡ length name = omega (arith, length-append name (codes ".dll")) in
    let front : take (length dll - 4) dll ≡ name = ap (λ n. take n dll) count ∙ take-append_seam name (codes ".dll") in
    let ends : ends_with nat_eq dll (codes ".dll") ≡ true = (ends_is Decides-eqb dll (codes ".dll") _ refl).1 name refl in
    rw ends front

-- the symbols for Microsoft's linker are named after the library's name
pub base_of_named : (d : DefinitionView) (name : List ℕ) → d.library_name ≡ Some name → base_name (linked_dll d) ≡ name
base_of_named d name named = grind (arith, base_of_dll)
