use Rattle.implib.proofs.Worked.Tables.{worked_asked_names, worked_name_types, worked_records}
use Rattle.implib.proofs.laws.objects.worked_records.Goals as goal

pub returns : goal.returns
returns c = record { bytes = worked_records; name_types = worked_name_types; asked = worked_asked_names }
