use Rattle.std.proofs.Common.{map, ◌≡◌, ◌++◌, take, drop}
use Rattle.implib.specs.Definition.{export_view}
use Rattle.implib_rules.specs.ExportAs.{kept}
use Rattle.implib_rules.proofs.export_as.keep_exports.Given as goal

-- the exports passed, and then those left as they are kept, are all as they are kept
abbrev pub invariant-loop-export : goal.invariant-loop-export
invariant-loop-export l =
    map export_view (take l.export-index l.export-items) ++ map (kept l.fn.machine) (map export_view (drop l.export-index l.export-items))
    ≡ map (kept l.fn.machine) (map export_view l.fn.exports.items)
