use Rattle.implib_archive.proofs.Leading.{each_index_leads, each_second_leads}
use Rattle.implib_archive.proofs.laws.index_leads.Goals as goal

pub returns : goal.returns
returns c = record { first = each_index_leads; second = each_second_leads }
