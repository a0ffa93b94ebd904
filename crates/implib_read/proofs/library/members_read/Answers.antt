use Rattle.std.proofs.Common.{arith}
use Rattle.std.proofs.Math.Path.{fun_ext}
use Rattle.implib_read.specs.Classes.{members_read}
use Rattle.implib_read.proofs.library.members_read.Goals as goal

pub returns : goal.returns
unfolding members_read
returns c = grind (arith, fun_ext, c.deref.ensures.value, c.in_ok-files.ensures, c.in_ok-definers.ensures, c.classes_of.ensures)
