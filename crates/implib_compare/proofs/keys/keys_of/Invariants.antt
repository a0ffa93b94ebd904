use Rattle.std.proofs.Common.{◌≡◌, map, take}
use Rattle.implib_compare.specs.Facts.{keys_of}
use Rattle.implib_read.specs.ClassViews.{member_read_view}
use Rattle.implib_compare.proofs.keys.keys_of.Given as goal

abbrev pub invariant-loop-member : goal.invariant-loop-member
invariant-loop-member l = map (λ key. key.items) l.keys.items ≡ keys_of l.told (map member_read_view (take l.member-index l.members))
