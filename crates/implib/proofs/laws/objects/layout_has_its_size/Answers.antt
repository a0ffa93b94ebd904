use Rattle.implib.proofs.Formats.ObjectReading.{length-encoded}
use Rattle.implib.proofs.laws.objects.layout_has_its_size.Goals as goal

pub returns : goal.returns
returns c = λ p fits short. length-encoded p fits short
