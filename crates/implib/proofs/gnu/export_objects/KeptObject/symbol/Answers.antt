use Rattle.implib.proofs.Members.KeptObjects.{boundary}
use Rattle.implib.proofs.gnu.export_objects.KeptObject.symbol.Goals as goal

pub range_from-requires : goal.range_from-requires
range_from-requires c = λ _. rw c.deref.ensures (boundary c.args.self.now c.requires)
