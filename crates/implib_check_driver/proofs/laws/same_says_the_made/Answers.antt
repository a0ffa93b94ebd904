use Rattle.implib_check_driver.proofs.MadeLibraries.{same_says_the_made}
use Rattle.implib_check_driver.proofs.laws.same_says_the_made.Goals as goal

pub returns : goal.returns
returns c = same_says_the_made c.meant_is_made.ensures
