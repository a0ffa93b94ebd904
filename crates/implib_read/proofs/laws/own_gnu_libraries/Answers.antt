use Rattle.implib_read.proofs.OwnGnuLibrary.{own_gnu}
use Rattle.implib_read.proofs.laws.own_gnu_libraries.Goals as goal

pub returns : goal.returns
returns c = own_gnu c.own_members_found.ensures c.same_short_imports.ensures c.same_objects.ensures
