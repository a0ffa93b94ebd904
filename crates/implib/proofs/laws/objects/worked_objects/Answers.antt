use Rattle.implib.proofs.Worked.Records.{worked_fields_of_records}
use Rattle.implib.proofs.Worked.Layouts.{worked_layouts}
use Rattle.implib.proofs.Worked.Objects.{worked_objects}
use Rattle.implib.proofs.laws.objects.worked_objects.Goals as goal

pub returns : goal.returns
returns c = record { sizes = worked_objects; bytes = worked_layouts; fields = worked_fields_of_records }
