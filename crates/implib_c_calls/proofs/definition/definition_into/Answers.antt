use Rattle.std.proofs.Common.{rules, arith}
use Rattle.implib_c_calls.proofs.Answer.{leaves_encoded, leaves_lacking}
use Rattle.implib_c_calls.proofs.DefinitionBack.{definition_back}
use Rattle.implib_c_calls.proofs.definition.definition_into.Goals as goal

pub returns : goal.returns
returns c = grind (arith, leaves_encoded, definition_back, c.in-Ok.ensures.ok, c.in-Ok-encoding_of.ensures, c.as_slice.ensures.value, c.put_encoding.ensures)

pub returns-in-Err : goal.returns-in-Err
returns-in-Err c = leaves_lacking c.in-Err.failure c.in-Err.ensures.fault

pub returns-in_default : goal.returns-in_default
returns-in_default c = search (rules, leaves_lacking, c.in-Ok.ensures.ok)
