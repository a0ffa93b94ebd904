use Rattle.std.proofs.Common.{arith, map}
use Rattle.implib_c_calls.proofs.ImportsRead.{encodes_library}
use Rattle.implib_c_calls.proofs.imports.read_imports.Goals as goal

pub returns-in-Ok-encoding_of-clause-ok : goal.returns-in-Ok-encoding_of-clause-ok
returns-in-Ok-encoding_of-clause-ok c = grind (arith, encodes_library, map, c.in-Some.is, c.in-Ok.ensures.members, c.as_slice.ensures.value, c.in-Ok-encoding_of.ensures)
