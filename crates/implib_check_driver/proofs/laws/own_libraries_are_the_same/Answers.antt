use Rattle.implib_check_driver.proofs.SameLibraries.{own_libraries_are_the_same}
use Rattle.implib_check_driver.proofs.laws.own_libraries_are_the_same.Goals as goal

pub returns : goal.returns
returns c = own_libraries_are_the_same c.meant_is_defined.ensures
