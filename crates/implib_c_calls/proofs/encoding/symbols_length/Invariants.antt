use Rattle.std.proofs.Common.{◌≡◌, ◌+◌, flat_map, length, map, take}
use Rattle.std.specs.String.{string_bytes}
use Rattle.implib_c_calls.specs.Encoding.{encoded_text}
use Rattle.implib_c_calls.proofs.encoding.symbols_length.Given as goal

-- the length of the encoding so far
abbrev pub invariant-loop-symbol : goal.invariant-loop-symbol
invariant-loop-symbol l = l.sum ≡ 8 + length (flat_map encoded_text (map string_bytes (take l.symbol-index l.symbols)))
