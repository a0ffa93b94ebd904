use Rattle.std.proofs.Common.{◌<◌, ◌^◌, ◌++◌, All, flat_map, length, take}
use Rattle.implib_archive.specs.Pushed.{Pushes}
use Rattle.implib_c_calls.specs.Encoding.{encoded_number}
use Rattle.implib_c_calls.proofs.dll_check.push_indexes.Given as goal

-- the indexes are appended up to here, and fit
abbrev pub invariant-loop-index : goal.invariant-loop-index
invariant-loop-index l = Pushes l.fn.bytes.items l.bytes.items (encoded_number (length l.indexes) ++ flat_map encoded_number (take l.index-index l.indexes))
    × All (λ n. n < 2 ^ 64) (take l.index-index l.indexes)
