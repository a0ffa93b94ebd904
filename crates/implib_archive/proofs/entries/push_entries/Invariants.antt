use Rattle.std.proofs.Common.{◌≡◌, ◌++◌, map, take}
use Rattle.implib_archive.specs.Pushed.{shown}
use Rattle.implib_archive.specs.Sources.{member_at}
use Rattle.implib_archive.proofs.entries.push_entries.Given as goal

-- the entries of the symbols so far
abbrev pub invariant-loop-symbol : goal.invariant-loop-symbol
invariant-loop-symbol g l = shown l.entries.items
    ≡ shown l.fn.entries.items ++ map (λ symbol. (symbol, l.number)) (take l.symbol (member_at (g.S.Members.members l.source) l.index).symbols)
