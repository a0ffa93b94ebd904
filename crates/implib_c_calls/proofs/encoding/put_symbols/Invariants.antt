use Rattle.std.proofs.Common.{◌++◌, flat_map, length, map, take}
use Rattle.std.specs.String.{string_bytes}
use Rattle.implib_c_calls.specs.Encoding.{encoded_number, encoded_text}
use Rattle.implib_c_calls.specs.Fill.{Fills}
use Rattle.implib_c_calls.proofs.encoding.put_symbols.Given as goal

-- the symbols are in the buffer up to here
abbrev pub invariant-loop-symbol : goal.invariant-loop-symbol
invariant-loop-symbol l = Fills l.fn.buffer l.buffer l.fn.start l.at
    (encoded_number (length l.symbols) ++ flat_map encoded_text (map string_bytes (take l.symbol-index l.symbols)))
