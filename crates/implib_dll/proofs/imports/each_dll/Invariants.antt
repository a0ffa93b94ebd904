use Rattle.std.proofs.Common.{map}
use Rattle.implib_dll.specs.Imports.{dll_step}
use Rattle.implib_dll.specs.Outcome.{each_from}
use Rattle.implib_dll.specs.Views.{imported_view, part_view, section_view}
use Rattle.implib_dll.proofs.Steps.{Reads}
use Rattle.implib_dll.proofs.imports.each_dll.Given as goal

abbrev pub invariant-loop-number : goal.invariant-loop-number
invariant-loop-number l =
    let step = dll_step (map section_view l.sections) l.is_pe32_plus (part_view l.table) in
    Reads step (each_from step 0 l.count l.fn.room) (map imported_view l.dlls.items) l.number l.count l.left
