use Rattle.implib_rules.proofs.ExportAsRead.{export_as_reads}
use Rattle.implib_rules.proofs.laws.export_as_reads.Goals as goal

pub returns : goal.returns
returns c = export_as_reads
