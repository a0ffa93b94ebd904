use Rattle.std.proofs.Common.{arith}
use Rattle.std.proofs.lemmas.List.{length-map}
use Rattle.implib_arm64ec.proofs.Accepted.{length-ec_index}
use Rattle.implib_arm64ec.proofs.ec_index.index_size.Goals as goal

pub returns : goal.returns
returns c = grind (arith, length-map, length-ec_index, c.strings_size.ensures)
