use Rattle.std.proofs.Common.{◌≡◌, map, take}
use Rattle.std.specs.String.{string_bytes}
use Rattle.implib_archive.specs.Sources.{member_at}
use Rattle.implib_libraries.proofs.arm64ec.held.symbols_at.Given as goal

-- the symbols so far
abbrev pub invariant-loop-number : goal.invariant-loop-number
invariant-loop-number g l = map string_bytes l.symbols.items ≡ take l.number (member_at (g.S.Members.members l.source) l.index).symbols
