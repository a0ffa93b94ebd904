use Rattle.implib_read.proofs.OwnMsvc.{own_msvc}
use Rattle.implib_read.proofs.laws.own_msvc_libraries.Goals as goal

pub returns : goal.returns
returns c = own_msvc c.own_members_found.ensures c.same_short_imports.ensures c.same_objects.ensures
