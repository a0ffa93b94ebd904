use Rattle.std.proofs.Common.{◌≡◌, ◌+◌, flat_map, length, map, take}
use Rattle.implib.specs.Library.{member_view}
use Rattle.implib_c_calls.specs.Encoding.{encoded_member}
use Rattle.implib_c_calls.proofs.encoding.members_length.Given as goal

-- the length of the encoding so far
abbrev pub invariant-loop-member : goal.invariant-loop-member
invariant-loop-member l = l.sum ≡ 8 + length (flat_map encoded_member (map member_view (take l.member-index l.members)))
