use Rattle.std.proofs.Common.{map, ◌≡◌, ◌++◌, take, drop}
use Rattle.implib.specs.Definition.{export_view}
use Rattle.implib_rules.specs.Nameless.{asking_by}
use Rattle.implib_rules.proofs.nameless.ask_all.Given as goal

-- the exports passed, and then those left by the ordinals that are left
abbrev pub invariant-loop-export : goal.invariant-loop-export
invariant-loop-export l =
    map export_view (take l.export-index l.export-items) ++ asking_by l.left.rest.now (map export_view (drop l.export-index l.export-items))
    ≡ asking_by l.fn.ordinals (map export_view l.fn.exports.items)
