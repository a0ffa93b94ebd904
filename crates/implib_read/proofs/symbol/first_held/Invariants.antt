use Rattle.std.proofs.Common.{◌≡◌, drop, map}
use Rattle.std.specs.List.{find}
use Rattle.implib_read.specs.Symbols.{begins_imp}
use Rattle.implib_read.proofs.symbol.first_held.Given as goal

-- the first among those that are left is the first of all
abbrev pub invariant-loop-symbol : goal.invariant-loop-symbol
invariant-loop-symbol l =
    find begins_imp (map (λ s. s.items) (drop l.symbol-index l.symbols)) ≡ find begins_imp (map (λ s. s.items) l.symbols)
