use Rattle.implib_check_driver.proofs.OwnLibraries.{meant_is_defined}
use Rattle.implib_check_driver.proofs.laws.meant_is_defined.Goals as goal

pub returns : goal.returns
returns c = meant_is_defined c.own_members_found.ensures c.same_short_imports.ensures c.same_objects.ensures c.own_gnu_libraries.ensures
