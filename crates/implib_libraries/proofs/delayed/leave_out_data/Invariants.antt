use Rattle.std.proofs.Common.{map, ◌≡◌, ◌++◌, take, drop}
use Rattle.implib.specs.Definition.{export_view}
use Rattle.implib_libraries.specs.Delayed.{leaving_out}
use Rattle.implib_libraries.proofs.delayed.leave_out_data.Given as goal

-- the exports passed, and then those left as they leave it, are all
abbrev pub invariant-loop-export : goal.invariant-loop-export
invariant-loop-export l =
    map export_view (take l.export-index l.export-items) ++ map leaving_out (map export_view (drop l.export-index l.export-items))
    ≡ map leaving_out (map export_view l.fn.exports.items)
