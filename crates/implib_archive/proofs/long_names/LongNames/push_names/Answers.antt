use Rattle.std.proofs.Common.{arith, append-nil, append_assoc}
use Rattle.implib_archive.specs.Archive.{names_bytes}
use Rattle.implib_archive.proofs.long_names.LongNames.push_names.Goals as goal

pub loop-name-init : goal.loop-name-init
loop-name-init c = grind (arith, c.into_iter-name-iterator.ensures.into_iter_gives, c.iter-name-items.ensures.rest)

pub loop-name-preserved : goal.loop-name-preserved
unfolding names_bytes
loop-name-preserved c = grind (arith, append_assoc, c.in_ok-push_ended.ensures.whole, c.name_end.ensures.value, c.in-Some.ensures.steps, c.loop-name.invariant)

pub returns : goal.returns
unfolding names_bytes
returns c = grind (arith, append-nil, c.in-None.ensures.steps.0, c.loop-name.invariant)
