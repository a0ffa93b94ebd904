use Rattle.std.proofs.Common.{flat_map, take}
use Rattle.implib.specs.Formats.Pass.{Puts}
use Rattle.implib.specs.Formats.Layout.{contents}
use Rattle.implib.specs.Formats.Writer.{section_view}
use Rattle.implib.proofs.coff.layout.put_contents.Given as goal

abbrev pub invariant-loop-section : goal.invariant-loop-section
invariant-loop-section l = Puts l.initial.pass l.pass (flat_map (λ s. contents (section_view s)) (take l.section-index l.sections))
