use Rattle.implib_check_driver.proofs.MadeLibraries.{meant_is_made}
use Rattle.implib_check_driver.proofs.laws.meant_is_made.Goals as goal

pub returns : goal.returns
returns c = meant_is_made c.own_members_found.ensures c.same_short_imports.ensures c.same_objects.ensures c.own_gnu_libraries.ensures c.meant_is_defined.ensures
