use Rattle.std.proofs.Common.{rules}
use Rattle.implib_check_driver.proofs.differences.same_read.Goals as goal

pub returns : goal.returns
returns c = record { differences = c.in_ok-out.out.items; status = search rules; out = search rules; err = search rules }
