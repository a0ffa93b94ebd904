use Rattle.implib_archive.proofs.Puts.{up_to_more}
use Rattle.implib_archive.proofs.output.put.Goals as goal

pub loop-rest-preserved : goal.loop-rest-preserved
loop-rest-preserved g c = up_to_more _ _ _ c.args.bytes.now c.loop-rest.rest.now c.in_ok-count.count c.loop-rest.invariant c.in_ok-count.ensures.bytes
