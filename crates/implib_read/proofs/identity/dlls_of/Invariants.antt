use Rattle.std.proofs.Common.{◌≡◌, map, take}
use Rattle.implib_read.specs.Identity.{dlls_of}
use Rattle.implib_read.specs.ClassViews.{member_read_view}
use Rattle.implib_read.proofs.identity.dlls_of.Given as goal

abbrev pub invariant-loop-member : goal.invariant-loop-member
invariant-loop-member l = map (λ k. k.now) l.names.keys ≡ dlls_of (map member_read_view (take l.member-index l.members))
