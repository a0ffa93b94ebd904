use Rattle.implib_link.proofs.Tables.{weak_is_weak, alias_leads, other_leads, stub_called_otherwise, thunk_called_otherwise}
use Rattle.implib_link.proofs.laws.other_names.other_names_lead.Goals as goal

pub returns : goal.returns
returns c = record { aliases = alias_leads; members = weak_is_weak; leads = other_leads; calls = stub_called_otherwise; thunks = thunk_called_otherwise }
