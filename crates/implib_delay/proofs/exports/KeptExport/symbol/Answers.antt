use Rattle.implib_delay.proofs.Kept.{boundary}
use Rattle.implib_delay.proofs.exports.KeptExport.symbol.Goals as goal

pub range_from-requires : goal.range_from-requires
range_from-requires c = λ _. rw c.deref.ensures (boundary c.args.self.now c.requires)
