use Rattle.std.proofs.Common.{map}
use Rattle.implib_dll.specs.Sections.{section_step, sections_in}
use Rattle.implib_dll.specs.Views.{section_view}
use Rattle.implib_dll.proofs.Steps.{Reads}
use Rattle.implib_dll.proofs.section.sections_in.Given as goal

abbrev pub invariant-loop-number : goal.invariant-loop-number
invariant-loop-number l =
    Reads (section_step l.layout l.bytes l.place) (sections_in l.layout l.bytes l.place l.count) (map section_view l.sections.items) l.number l.count l.end
