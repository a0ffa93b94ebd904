use Rattle.std.proofs.Common.{arith, take}
use Rattle.implib.specs.Formats.Layout.{contents, contents_size}
use Rattle.implib.specs.Formats.Writer.{section_view}
use Rattle.implib.proofs.Formats.Lengths.{length-viewed_contents}
use Rattle.implib.proofs.Formats.Pass.{puts_more}
use Rattle.implib.proofs.Formats.Sums.{sum_room}
use Rattle.implib.proofs.coff.layout.put_contents.Goals as goal

pub put_section_contents-requires : goal.put_section_contents-requires
put_section_contents-requires c =
    let room = rw (← c.section-item.is) at (sum_room contents_size section_view c.args.sections.now c.loop-section.section-index c.section-item.result c.loop-section-test.true) in
    omega (arith, room, length-viewed_contents (take c.loop-section.section-index c.args.sections.now))

pub loop-section-preserved : goal.loop-section-preserved
loop-section-preserved c =
    let chunk = rw c.section-item.is at c.put_section_contents.ensures in
    puts_more (λ s. contents (section_view s)) c.args.sections.now c.loop-section.section-index c.section-item.result c.loop-section-test.true c.loop-section.invariant chunk
