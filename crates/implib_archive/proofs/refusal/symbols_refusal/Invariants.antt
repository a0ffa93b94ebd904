use Rattle.std.proofs.Common.{◌≡◌, drop}
use Rattle.implib_archive.specs.Refusal.{symbols_refusal}
use Rattle.implib_archive.specs.Sources.{member_at}
use Rattle.implib_archive.proofs.refusal.symbols_refusal.Given as goal

-- no symbol so far is refused
abbrev pub invariant-loop-number : goal.invariant-loop-number
invariant-loop-number g l =
    symbols_refusal (member_at (g.S.Members.members l.source) l.index).symbols
    ≡ symbols_refusal (drop l.number (member_at (g.S.Members.members l.source) l.index).symbols)
