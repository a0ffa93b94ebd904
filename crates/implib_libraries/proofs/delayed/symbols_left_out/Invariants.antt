use Rattle.std.proofs.Common.{◌≡◌, ◌++◌, drop, map}
use Rattle.std.specs.List.{flat_map}
use Rattle.std.specs.String.{string_bytes}
use Rattle.implib.specs.Definition.{export_view}
use Rattle.implib_libraries.specs.Delayed.{symbol_left_out}
use Rattle.implib_libraries.proofs.delayed.symbols_left_out.Given as goal

-- the symbols so far, and those of the exports that are left, are all
abbrev pub invariant-loop-export : goal.invariant-loop-export
invariant-loop-export l =
    map string_bytes l.symbols.items ++ flat_map symbol_left_out (map export_view (drop l.export-index l.exports))
    ≡ flat_map symbol_left_out (map export_view l.exports)
