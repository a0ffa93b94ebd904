use Rattle.std.proofs.Common.{◌++◌, flat_map, length, map, take}
use Rattle.implib_archive.specs.Pushed.{Pushes}
use Rattle.implib_c_calls.specs.Encoding.{encoded_number, encoded_text}
use Rattle.implib_c_calls.proofs.dll_exports.push_names.Given as goal

-- the names are appended up to here
abbrev pub invariant-loop-name : goal.invariant-loop-name
invariant-loop-name l = Pushes l.fn.bytes.items l.bytes.items (encoded_number (length l.names) ++ flat_map encoded_text (map (λ name. name.now) (take l.name-index l.names)))
