use Rattle.std.proofs.Common.{◌≡◌, ◌-◌, ◌^◌, map, min, sum_by, take}
use Rattle.implib.specs.Formats.Layout.{contents_size}
use Rattle.implib.specs.Formats.Writer.{section_view}
use Rattle.implib.proofs.coff.layout.contents_length.Given as goal

abbrev pub invariant-loop-section : goal.invariant-loop-section
invariant-loop-section l = l.total ≡ min (sum_by contents_size (map section_view (take l.section-index l.sections))) (2 ^ 64 - 1)
