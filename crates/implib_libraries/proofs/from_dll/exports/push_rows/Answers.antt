use Rattle.std.proofs.Common.{arith}
use Rattle.implib_libraries.proofs.FromDll.Parts.{refuses_row}
use Rattle.implib_libraries.proofs.from_dll.exports.push_rows.Goals as goal

pub returns-in-Err-clause-refused : goal.returns-in-Err-clause-refused
returns-in-Err-clause-refused c = grind (arith, refuses_row, c.loop-row-test.true, c.row-item.is, c.in-Err.ensures.refused)
