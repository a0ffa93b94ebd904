-- Exports that are linked as for GNU's linker are no aliases.
use Rattle.std.specs.Prelude.{◌≡◌, refl, List, [], ◌∷◌, ◌++◌, map}
use Rattle.std.specs.List.{AllByRecursion}
use Rattle.std.proofs.Common.{arith}
use Rattle.implib.specs.Definition.{ExportView}
use Rattle.implib.specs.declared.flavor.Flavor.TheVariants.{Gnu}
use Rattle.implib.specs.declared.machine.MachineType.TheVariants.{ARM64}
use Rattle.implib_libraries.specs.Arm64ec.{NoneIsWeak}
use Rattle.implib_rules.specs.Linked.{NamingView, linked_export}

-- each of these exports, linked among all
each_asks : (naming : NamingView) (all exports : List ExportView)
    → AllByRecursion (λ (e : ExportView). e.alias_target ≡ []) (map (linked_export ARM64 naming Gnu all) exports ++ [])
each_asks naming all [] = tt
each_asks naming all (e ∷ rest) = (refl, each_asks naming all rest)

pub none_is_weak : NoneIsWeak
none_is_weak text options d reads = grind (arith, each_asks)
