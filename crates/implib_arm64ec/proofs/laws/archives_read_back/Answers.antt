use Rattle.implib_arm64ec.proofs.FoundIndexes.{each_index_leads}
use Rattle.implib_arm64ec.proofs.FoundParts.{each_is_read_back}
use Rattle.implib_arm64ec.proofs.laws.archives_read_back.Goals as goal

pub returns : goal.returns
returns c = record { read = λ l accepted. each_is_read_back l accepted; leads = λ l accepted. each_index_leads l accepted }
