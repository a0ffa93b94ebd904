use Rattle.std.proofs.Common.{◌++◌, flat_map, length, map, take}
use Rattle.implib_archive.specs.Pushed.{Pushes}
use Rattle.implib_c_calls.specs.DllCheck.{judgement_number}
use Rattle.implib_c_calls.specs.Encoding.{encoded_number}
use Rattle.implib_c_calls.proofs.dll_check.push_judgements.Given as goal

-- the numbers of what members come to are appended up to here
abbrev pub invariant-loop-judgement : goal.invariant-loop-judgement
invariant-loop-judgement l = Pushes l.fn.bytes.items l.bytes.items (encoded_number (length l.found) ++ flat_map encoded_number (map judgement_number (take l.judgement-index l.found)))
