use Rattle.implib_compare.proofs.Arm64ecArchives.{arm64ec_members_found}
use Rattle.implib_compare.proofs.laws.arm64ec_members_found.Goals as goal

pub returns : goal.returns
returns c = arm64ec_members_found c.archives_read_back.ensures.read c.same_parts.ensures
