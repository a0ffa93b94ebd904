use Rattle.std.proofs.Common.{◌≡◌, ◌++◌, drop, map, take}
use Rattle.implib.specs.Definition.{export_view}
use Rattle.implib_rules.specs.Repeats.{left_out}
use Rattle.implib_rules.proofs.repeats.leave_out.Given as goal

-- the exports passed, and then those left by the flags that are left
abbrev pub invariant-loop-export : goal.invariant-loop-export
invariant-loop-export l =
    map export_view (take l.export-index l.export-items) ++ left_out l.left.rest.now (map export_view (drop l.export-index l.export-items))
    ≡ left_out l.fn.flags (map export_view l.fn.exports.items)
