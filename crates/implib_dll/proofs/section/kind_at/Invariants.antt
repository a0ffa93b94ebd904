use Rattle.std.proofs.Common.{◌≡◌, drop, map}
use Rattle.implib_dll.specs.Sections.{kind_at}
use Rattle.implib_dll.specs.Views.{section_view}
use Rattle.implib_dll.proofs.section.kind_at.Given as goal

abbrev pub invariant-loop-section : goal.invariant-loop-section
invariant-loop-section l = kind_at (map section_view (drop l.section-index l.sections)) l.rva ≡ kind_at (map section_view l.sections) l.rva
