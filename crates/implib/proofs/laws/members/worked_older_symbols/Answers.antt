use Rattle.implib.proofs.Worked.OlderSymbols.{worked_older_bytes, worked_older_outlines}
use Rattle.implib.proofs.laws.members.worked_older_symbols.Goals as goal

pub returns : goal.returns
returns c = record { outlines = worked_older_outlines; bytes = worked_older_bytes }
