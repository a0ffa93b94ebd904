use Rattle.std.proofs.Common.{arith}
use Rattle.std.proofs.lemmas.List.{take_all}
use Rattle.implib_archive.proofs.Puts.{appends_nothing, appends_part, begins_part, writes_err}
use Rattle.implib_archive.proofs.writer.write_members.Goals as goal

pub loop-index-init : goal.loop-index-init
loop-index-init g c = record { written = appends_nothing _; headed = λ some. absurd (omega (arith, some)) }

pub returns-in_err-write_member : goal.returns-in_err-write_member
returns-in_err-write_member g c = grind (arith, writes_err, begins_part, c.loop-index-test.true, c.count-index-end.ensures, c.from_residual.ensures.0, c.loop-index.invariant.written, c.in_err-write_member.ensures.written)

pub loop-index-preserved : goal.loop-index-preserved
loop-index-preserved g c = grind (arith, appends_part, c.loop-index-test.true, c.count-index-end.ensures, c.loop-index.invariant.written, c.in_ok-write_member.ensures.written, c.in_ok-write_member.ensures.header)

pub returns : goal.returns
returns g c = grind (arith, take_all, c.loop-index-test.false, c.count-index-end.ensures, c.loop-index.invariant.written)
