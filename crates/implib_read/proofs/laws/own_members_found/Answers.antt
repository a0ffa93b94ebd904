use Rattle.implib_archive.proofs.FoundMembers.{members_read_back}
use Rattle.implib_archive.proofs.Readings.{parts_read_back}
use Rattle.implib_read.proofs.OwnArchives.{own_members_found}
use Rattle.implib_read.proofs.laws.own_members_found.Goals as goal

pub returns : goal.returns
returns c = own_members_found parts_read_back members_read_back c.same_parts.ensures
