use Rattle.std.proofs.Common.{map}
use Rattle.implib_dll.specs.Exports.{name_step}
use Rattle.implib_dll.specs.Outcome.{each_from}
use Rattle.implib_dll.specs.Views.{name_view, part_view, section_view}
use Rattle.implib_dll.proofs.Steps.{Reads}
use Rattle.implib_dll.proofs.name.names_in.Given as goal

abbrev pub invariant-loop-number : goal.invariant-loop-number
invariant-loop-number l =
    let step = name_step (map section_view l.sections) (part_view l.pointers) l.ordinals in
    Reads step (each_from step 0 l.count l.fn.room) (map name_view l.names.items) l.number l.count l.left
