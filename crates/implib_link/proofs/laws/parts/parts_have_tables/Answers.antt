use Rattle.implib_link.proofs.Parts.Members.{parts_steady}
use Rattle.implib_link.proofs.Parts.Programs.{parts_tables}
use Rattle.implib_link.proofs.laws.parts.parts_have_tables.Goals as goal

pub returns : goal.returns
returns c = record { tables = parts_tables; steady = parts_steady }
