use Rattle.std.proofs.Common.{◌≡◌, ◌++◌, map, take}
use Rattle.std.specs.Char.{to_ascii_lowercase}
use Rattle.implib_compare.specs.Facts.{bytes_key}
use Rattle.implib_compare.proofs.keys.push_lowered.Given as goal

abbrev pub invariant-loop-byte : goal.invariant-loop-byte
invariant-loop-byte l = l.key.items ≡ l.fn.key.items ++ bytes_key (map to_ascii_lowercase (take l.byte-index l.text))
