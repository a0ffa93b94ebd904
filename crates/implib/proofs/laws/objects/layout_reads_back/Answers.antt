use Rattle.implib.proofs.Formats.ObjectReading.{object_in-encoded}
use Rattle.implib.proofs.laws.objects.layout_reads_back.Goals as goal

pub returns : goal.returns
returns c = λ p fits short. object_in-encoded p fits short
