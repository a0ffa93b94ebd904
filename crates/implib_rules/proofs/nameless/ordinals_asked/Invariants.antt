use Rattle.std.proofs.Common.{◌≡◌, ◌++◌, drop, map}
use Rattle.implib.specs.Definition.{export_view}
use Rattle.implib_rules.specs.Nameless.{ordinal_asked}
use Rattle.implib_rules.proofs.nameless.ordinals_asked.Given as goal

-- the ordinals so far, and those of the exports that are left, are all
abbrev pub invariant-loop-export : goal.invariant-loop-export
invariant-loop-export l =
    l.ordinals.items ++ map (ordinal_asked (map export_view l.exports)) (map export_view (drop l.export-index l.exports))
    ≡ map (ordinal_asked (map export_view l.exports)) (map export_view l.exports)
