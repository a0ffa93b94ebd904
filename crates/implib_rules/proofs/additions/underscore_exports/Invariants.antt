use Rattle.std.proofs.Common.{map, ◌≡◌, ◌++◌, take, drop}
use Rattle.implib.specs.Definition.{export_view}
use Rattle.implib_rules.specs.Additions.{additions_view, underscored}
use Rattle.implib_rules.specs.Linked.{naming_view}
use Rattle.implib_rules.proofs.additions.underscore_exports.Given as goal

-- the exports passed, and then those left with what is added to them, are all with that
abbrev pub invariant-loop-export : goal.invariant-loop-export
invariant-loop-export l =
    map export_view (take l.export-index l.export-items)
    ++ map (underscored l.fn.machine (naming_view l.fn.naming) (additions_view l.fn.additions)) (map export_view (drop l.export-index l.export-items))
    ≡ map (underscored l.fn.machine (naming_view l.fn.naming) (additions_view l.fn.additions)) (map export_view l.fn.exports.items)
