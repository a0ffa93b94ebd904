use Rattle.std.proofs.Common.{arith}
use Rattle.std.proofs.Math.Path.{fun_ext}
use Rattle.implib_read.proofs.leads.wrong_entries.Goals as goal

pub returns : goal.returns
returns c = grind (arith, fun_ext, c.in_ok-declarers.ensures, c.wrong_among.ensures)
