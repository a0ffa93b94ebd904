use Rattle.std.proofs.Common.{◌≡◌, drop, map}
use Rattle.implib_dll.specs.Sections.{located}
use Rattle.implib_dll.specs.Views.{section_view}
use Rattle.implib_dll.proofs.section.located.Given as goal

abbrev pub invariant-loop-section : goal.invariant-loop-section
invariant-loop-section l = located (map section_view (drop l.section-index l.sections)) l.rva ≡ located (map section_view l.sections) l.rva
