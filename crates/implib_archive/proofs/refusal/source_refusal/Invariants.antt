use Rattle.std.proofs.Common.{◌≡◌, drop}
use Rattle.implib_archive.specs.Refusal.{members_refusal}
use Rattle.implib_archive.proofs.refusal.source_refusal.Given as goal

-- no member so far is refused
abbrev pub invariant-loop-index : goal.invariant-loop-index
invariant-loop-index g l = members_refusal l.kind (g.S.Members.members l.source) ≡ members_refusal l.kind (drop l.index (g.S.Members.members l.source))
