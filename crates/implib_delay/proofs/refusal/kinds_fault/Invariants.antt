use Rattle.std.proofs.Common.{map, ◌≡◌, drop}
use Rattle.implib.specs.Definition.{definition_view, export_view}
use Rattle.implib_delay.specs.Refusal.{kinds_refusal}
use Rattle.implib_delay.proofs.refusal.kinds_fault.Given as goal

-- the first export that is left and cannot be delayed is the first of all
abbrev pub invariant-loop-index : goal.invariant-loop-index
invariant-loop-index l =
    kinds_refusal l.index (map export_view (drop l.index l.def.exports.items))
    ≡ kinds_refusal 0 (definition_view l.def).exports
