use Rattle.std.proofs.Common.{arith}
use Rattle.std.proofs.lemmas.Slice.{between_from_start}
use Rattle.std.proofs.lemmas.Str.{IsCharBoundary-start}
use Rattle.implib_tool_driver.proofs.Dividing.{start_first, start_next, divides_here, next_boundary}
use Rattle.implib_tool_driver.proofs.documents.divide.Goals as goal

pub loop-start-init : goal.loop-start-init
loop-start-init c = grind (arith, start_first, IsCharBoundary-start, c.utf8.text)

pub range_from-requires : goal.range_from-requires
range_from-requires c = grind (arith, next_boundary c.args.text.now c.loop-start.start c.line_at-end.result.0 c.line_at-end.result.1 c.utf8.text, c.as_bytes-bytes.ensures.value, c.line_at-end.ensures, c.utf8.text)

pub returns-then-is_separator : goal.returns-then-is_separator
returns-then-is_separator c =
    let here = divides_here c.args.text.now c.loop-start.start c.line_at-end.result.0 c.line_at-end.result.1 c.loop-start.invariant.place in
    let front = between_from_start c.args.text.now c.loop-start.start in
    grind (arith, here, front, c.as_bytes-bytes.ensures.value, c.line_at-end.ensures, c.is_separator.ensures, c.range.ensures.value, c.range_from.ensures.value)

pub loop-start-preserved : goal.loop-start-preserved
loop-start-preserved c =
    let place = start_next c.args.text.now c.loop-start.start c.line_at-end.result.0 c.line_at-end.result.1 c.loop-start.invariant.place in
    let boundary = next_boundary c.args.text.now c.loop-start.start c.line_at-end.result.0 c.line_at-end.result.1 c.utf8.text in
    grind (arith, place, boundary, c.as_bytes-bytes.ensures.value, c.line_at-end.ensures, c.is_separator.ensures)
