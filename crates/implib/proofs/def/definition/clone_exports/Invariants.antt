use Rattle.std.proofs.Common.{map, ◌≡◌, take}
use Rattle.implib.specs.Definition.{export_view}
use Rattle.implib.proofs.def.definition.clone_exports.Given as goal

-- the copies so far are those of the exports passed
abbrev pub invariant-loop-export : goal.invariant-loop-export
invariant-loop-export l = map export_view l.copies.items ≡ map export_view (take l.export-index l.exports.items)
