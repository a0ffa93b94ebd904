use Rattle.std.proofs.Common.{rules}
use Rattle.implib.proofs.Members.MemberLists.{kept_data}
use Rattle.implib.proofs.msvc.members.push_kept.Goals as goal

pub returns-else-has_code : goal.returns-else-has_code
returns-else-has_code c = kept_data _ _ _ _ _ _ c.requires.alias (search rules) c.push_weak_address.ensures
