use Rattle.implib.proofs.Worked.Tables.{worked_gnu_names, worked_gnu_tables, worked_msvc_tables, worked_names}
use Rattle.implib.proofs.laws.objects.worked_tables.Goals as goal

pub returns : goal.returns
returns c = record { for_microsoft = worked_msvc_tables; for_gnu = worked_gnu_tables; asked_of_gnu = worked_gnu_names; names = worked_names }
