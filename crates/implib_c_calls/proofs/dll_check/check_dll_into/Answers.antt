use Rattle.std.proofs.Common.{arith}
use Rattle.implib_c_calls.proofs.Answer.{leaves_encoded, leaves_lacking}
use Rattle.implib_c_calls.proofs.DllCheckBack.{dll_told_back}
use Rattle.implib_c_calls.proofs.dll_check.check_dll_into.Goals as goal

pub returns : goal.returns
returns c = grind (arith, leaves_encoded, dll_told_back, c.in-Ok.ensures.ok, c.as_slice.ensures.value, c.put_encoding.ensures)

pub returns-in-Err : goal.returns-in-Err
returns-in-Err c = leaves_lacking c.in-Err.failure c.in-Err.ensures.lacks
