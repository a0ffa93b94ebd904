use Rattle.std.proofs.Common.{map}
use Rattle.implib_dll.specs.Exports.{target_step}
use Rattle.implib_dll.specs.Outcome.{each_from}
use Rattle.implib_dll.specs.Views.{part_view, section_view, target_view}
use Rattle.implib_dll.proofs.Steps.{Reads}
use Rattle.implib_dll.proofs.target.targets_in.Given as goal

abbrev pub invariant-loop-index : goal.invariant-loop-index
invariant-loop-index l =
    let step = target_step (map section_view l.sections) l.entry (part_view l.table) in
    Reads step (each_from step 0 l.count l.fn.room) (map target_view l.targets.items) l.index l.count l.left
