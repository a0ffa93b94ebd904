use Rattle.std.proofs.Common.{arith}
use Rattle.implib_delay.proofs.Kept.{length_kept}
use Rattle.implib_delay.proofs.exports.DelayedExports.size.Goals as goal

pub returns : goal.returns
returns c = grind (arith, length_kept, c.kept.ensures.library_text, c.kept.ensures.sound, c.kept.ensures.shows)
