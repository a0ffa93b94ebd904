use Rattle.std.proofs.Common.{rules}
use Rattle.implib.proofs.Members.MemberLists.{listed_alias, listed_import}
use Rattle.implib.proofs.msvc.members.push_listed.Goals as goal

pub returns-then-has_aliases-clause-pushed : goal.returns-then-has_aliases-clause-pushed
returns-then-has_aliases-clause-pushed c = listed_alias _ _ _ _ _ (search rules) (rw (c.machine.ensures, c.library.ensures, c.dll.ensures) at c.push_alias.ensures.pushed)

pub returns-else-has_aliases-clause-pushed : goal.returns-else-has_aliases-clause-pushed
returns-else-has_aliases-clause-pushed c = listed_import _ _ _ _ _ (search rules) c.push.ensures.pushed
