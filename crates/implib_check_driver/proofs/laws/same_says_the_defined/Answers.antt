use Rattle.implib_check_driver.proofs.SameLibraries.{same_says_the_defined}
use Rattle.implib_check_driver.proofs.laws.same_says_the_defined.Goals as goal

pub returns : goal.returns
returns c = same_says_the_defined c.meant_is_defined.ensures
