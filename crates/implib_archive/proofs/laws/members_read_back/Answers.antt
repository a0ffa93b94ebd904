use Rattle.implib_archive.proofs.FoundMembers.{members_read_back}
use Rattle.implib_archive.proofs.laws.members_read_back.Goals as goal

pub returns : goal.returns
returns c = members_read_back
