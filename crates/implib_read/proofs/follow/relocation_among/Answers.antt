use Rattle.std.proofs.Common.{◌∙◌, sym, rules}
use Rattle.implib_read.proofs.Records.{relocation-first, relocation-later, relocation-none}
use Rattle.implib_read.proofs.follow.relocation_among.Goals as goal

pub returns-then-relocation-offset : goal.returns-then-relocation-offset
returns-then-relocation-offset c = rw (← (relocation-first c.args.offset c.loop-rest.rest.now c.relocation_of-relocation.result c.loop-rest-test.true c.relocation_of-relocation.ensures (search rules)), c.loop-rest.invariant)

pub loop-rest-preserved : goal.loop-rest-preserved
loop-rest-preserved c = rw (c.behind-rest.ensures, ← (relocation-later c.args.offset c.loop-rest.rest.now c.relocation_of-relocation.result c.loop-rest-test.true c.relocation_of-relocation.ensures (search rules)), c.loop-rest.invariant)

pub returns : goal.returns
returns c = sym (relocation-none c.args.offset c.loop-rest.rest.now c.loop-rest-test.false) ∙ c.loop-rest.invariant
