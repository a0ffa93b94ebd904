use Rattle.std.proofs.Common.{arith}
use Rattle.implib.specs.Formats.Layout.{contents_size}
use Rattle.implib.specs.Formats.Writer.{section_view}
use Rattle.implib.proofs.Formats.Sums.{sum_more}
use Rattle.implib.proofs.coff.layout.contents_length.Goals as goal

pub loop-section-preserved : goal.loop-section-preserved
unfolding contents_size
loop-section-preserved c =
    let more = rw (← c.section-item.is) at (sum_more contents_size section_view c.args.sections.now c.loop-section.section-index c.section-item.result c.loop-section-test.true) in
    omega (arith, more, c.section-item.result.bytes.ok.0, c.section-item.result.relocations.ok.0)
