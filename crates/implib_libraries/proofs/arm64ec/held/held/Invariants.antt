use Rattle.std.proofs.Common.{◌≡◌, ◌≤◌, drop, map, max, take}
use Rattle.implib.specs.Library.{member_view}
use Rattle.implib_libraries.proofs.arm64ec.held.held.Given as goal

-- the members so far
abbrev pub invariant-loop-index : goal.invariant-loop-index
invariant-loop-index g l =
    (map member_view l.members.items ≡ drop l.start (take l.index (g.S.Members.members l.source))) × (l.start ≤ l.index) × (l.index ≤ max l.start l.last)
