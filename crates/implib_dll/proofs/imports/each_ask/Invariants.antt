use Rattle.std.proofs.Common.{map}
use Rattle.implib_dll.specs.Imports.{ask_step}
use Rattle.implib_dll.specs.Outcome.{each_from}
use Rattle.implib_dll.specs.Views.{ask_view, part_view, section_view}
use Rattle.implib_dll.proofs.Steps.{Reads}
use Rattle.implib_dll.proofs.imports.each_ask.Given as goal

abbrev pub invariant-loop-number : goal.invariant-loop-number
invariant-loop-number l =
    let step = ask_step (map section_view l.sections) l.is_pe32_plus (part_view l.table) in
    Reads step (each_from step 0 l.count l.fn.room) (map ask_view l.asks.items) l.number l.count l.left
