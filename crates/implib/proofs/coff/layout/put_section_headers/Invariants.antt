use Rattle.std.proofs.Common.{◌≡◌, ◌+◌, ◌*◌, length, map, sum_by, take}
use Rattle.implib.specs.Formats.Pass.{Puts}
use Rattle.implib.specs.Formats.Layout.{contents_size, section_headers}
use Rattle.implib.specs.Formats.Writer.{section_view}
use Rattle.implib.proofs.coff.layout.put_section_headers.Given as goal

abbrev pub invariant-loop-section : goal.invariant-loop-section
invariant-loop-section l = record {
  offset : l.offset ≡ 20 + 40 * length l.sections + sum_by contents_size (map section_view (take l.section-index l.sections));
  put : Puts l.initial.pass l.pass (section_headers (20 + 40 * length l.sections) (map section_view (take l.section-index l.sections)));
  left : l.pass.left + 40 * l.section-index ≡ l.initial.pass.left;
}
