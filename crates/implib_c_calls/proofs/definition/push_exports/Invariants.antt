use Rattle.std.proofs.Common.{◌++◌, ◌<◌, ◌^◌, All, flat_map, length, map, take}
use Rattle.implib_archive.specs.Pushed.{Pushes}
use Rattle.implib_c_calls.specs.Definition.{encoded_export, stated_of}
use Rattle.implib_c_calls.specs.Encoding.{encoded_number}
use Rattle.implib_c_calls.proofs.definition.push_exports.Given as goal

-- the exports are appended up to here, and their ordinals fit
abbrev pub invariant-loop-export : goal.invariant-loop-export
invariant-loop-export l = Pushes l.fn.bytes.items l.bytes.items (encoded_number (length l.exports) ++ flat_map encoded_export (map stated_of (take l.export-index l.exports)))
    × All (λ e. e.ordinal < 2 ^ 64) (take l.export-index l.exports)
