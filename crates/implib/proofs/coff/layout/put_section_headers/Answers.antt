use Rattle.std.proofs.Common.{add-zero, arith, sym}
use Rattle.implib.specs.Formats.Layout.{contents_size, section_headers}
use Rattle.implib.specs.Formats.Writer.{section_view}
use Rattle.implib.proofs.Formats.Lengths.{headers_more}
use Rattle.implib.proofs.Formats.Pass.{puts_nothing}
use Rattle.implib.proofs.Formats.Sums.{sum_more, sum_room}
use Rattle.implib.proofs.coff.layout.put_section_headers.Goals as goal

pub loop-section-init : goal.loop-section-init
unfolding section_headers
loop-section-init c = record { offset = sym (add-zero _); put = puts_nothing _; left = add-zero _ }

pub put_section_header-requires-clause-short : goal.put_section_header-requires-clause-short
put_section_header-requires-clause-short c =
    let room = rw (← c.section-item.is) at (sum_room contents_size section_view c.args.sections.now c.loop-section.section-index c.section-item.result c.loop-section-test.true) in
    omega (arith, room)

pub overflow_cast-offset-in-loop-section : goal.overflow_cast-offset-in-loop-section
unfolding contents_size
overflow_cast-offset-in-loop-section c =
    let room = rw (← c.section-item.is) at (sum_room contents_size section_view c.args.sections.now c.loop-section.section-index c.section-item.result c.loop-section-test.true) in
    omega (arith, room, c.section-item.result.bytes.ok.0)

pub overflow_add-offset-in-loop-section : goal.overflow_add-offset-in-loop-section
unfolding contents_size
overflow_add-offset-in-loop-section c =
    let room = rw (← c.section-item.is) at (sum_room contents_size section_view c.args.sections.now c.loop-section.section-index c.section-item.result c.loop-section-test.true) in
    omega (arith, room, c.section-item.result.bytes.ok.0, c.section-item.result.relocations.ok.0)

pub overflow_add-offset-in-loop-section-2 : goal.overflow_add-offset-in-loop-section-2
unfolding contents_size
overflow_add-offset-in-loop-section-2 c =
    let room = rw (← c.section-item.is) at (sum_room contents_size section_view c.args.sections.now c.loop-section.section-index c.section-item.result c.loop-section-test.true) in
    omega (arith, room, c.section-item.result.bytes.ok.0, c.section-item.result.relocations.ok.0)

pub loop-section-preserved : goal.loop-section-preserved
unfolding contents_size
loop-section-preserved c =
    let more = rw (← c.section-item.is) at (sum_more contents_size section_view c.args.sections.now c.loop-section.section-index c.section-item.result c.loop-section-test.true) in
    let chunk = rw (c.loop-section.invariant.offset, c.section-item.is) at c.put_section_header.ensures.puts in
    record {
      offset = omega (arith, more, c.section-item.result.bytes.ok.0, c.section-item.result.relocations.ok.0);
      put = headers_more _ c.args.sections.now c.loop-section.section-index c.section-item.result c.loop-section-test.true c.loop-section.invariant.put chunk;
      left = omega arith;
    }
