use Rattle.std.proofs.Common.{◌≡◌, ◌++◌, take}
use Rattle.implib_compare.specs.Facts.{bytes_key}
use Rattle.implib_compare.proofs.keys.push_bytes.Given as goal

abbrev pub invariant-loop-byte : goal.invariant-loop-byte
invariant-loop-byte l = l.key.items ≡ l.fn.key.items ++ bytes_key (take l.byte-index l.text)
