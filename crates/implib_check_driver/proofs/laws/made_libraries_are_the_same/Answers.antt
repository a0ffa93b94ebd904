use Rattle.implib_check_driver.proofs.MadeLibraries.{made_libraries_are_the_same}
use Rattle.implib_check_driver.proofs.laws.made_libraries_are_the_same.Goals as goal

pub returns : goal.returns
returns c = made_libraries_are_the_same c.meant_is_made.ensures
