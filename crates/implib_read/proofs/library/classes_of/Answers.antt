use Rattle.std.proofs.Common.{arith}
use Rattle.implib_read.proofs.MemberClasses.{class-read}
use Rattle.implib_read.proofs.library.classes_of.Goals as goal

pub loop-i-preserved : goal.loop-i-preserved
loop-i-preserved c = grind (arith, class-read, c.requires, c.index-files-i.is, c.in_ok-class.ensures, c.in_ok-push.ensures.items, c.loop-i.invariant)
