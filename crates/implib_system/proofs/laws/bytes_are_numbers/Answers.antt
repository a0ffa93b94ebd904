use Rattle.implib_system.proofs.System.{numbers}
use Rattle.implib_system.proofs.laws.bytes_are_numbers.Goals as goal

pub returns : goal.returns
returns c = numbers
