use Rattle.std.proofs.Common.{arith}
use Rattle.std.proofs.lemmas.Grind.{common_steps}
use Rattle.std.proofs.lemmas.List.{nil_from_length}
use Rattle.implib_read.proofs.Gathering.{gathers-end, gathers-none}
use Rattle.implib_read.proofs.ArchiveParts.{parts_from-nothing, parts_from-stop, parts-read}
use Rattle.implib_read.proofs.archive.parts_behind.Goals as goal

pub returns-in_default : goal.returns-in_default
returns-in_default c = grind (arith, gathers-none, parts_from-stop, c.loop-rest.invariant.0, c.loop-rest-test.true)

pub loop-rest-preserved : goal.loop-rest-preserved
loop-rest-preserved c = grind (arith, parts-read, common_steps, c.loop-rest-test.true, c.in_ok-push.ensures.items, c.loop-rest.invariant.1, c.loop-rest.invariant.0, c.behind-rest-in-loop-rest.ensures)

pub returns : goal.returns
returns c = grind (arith, nil_from_length, gathers-end, parts_from-nothing, c.loop-rest.invariant.0)
