use Rattle.std.proofs.Common.{◌≡◌, ◌++◌, drop, map, take}
use Rattle.implib.specs.Definition.{export_view}
use Rattle.implib_libraries.specs.Arm64ec.{asking}
use Rattle.implib_libraries.proofs.arm64ec.ask_as_written.Given as goal

-- the exports passed, and then those left asking by the written ones that are left
abbrev pub invariant-loop-export : goal.invariant-loop-export
invariant-loop-export l =
    map export_view (take l.export-index l.export-items)
    ++ asking (map export_view l.left.rest.now) (map export_view (drop l.export-index l.export-items))
    ≡ asking (map export_view l.fn.written) (map export_view l.fn.exports.items)
