use Rattle.std.proofs.Common.{◌++◌, flat_map, length, map, take}
use Rattle.implib.specs.Library.{member_view}
use Rattle.implib_c_calls.specs.Encoding.{encoded_member, encoded_number}
use Rattle.implib_c_calls.specs.Fill.{Fills}
use Rattle.implib_c_calls.proofs.encoding.put_members.Given as goal

-- the members are in the buffer up to here
abbrev pub invariant-loop-member : goal.invariant-loop-member
invariant-loop-member l = Fills l.fn.buffer l.buffer 0 l.at
    (encoded_number (length l.members) ++ flat_map encoded_member (map member_view (take l.member-index l.members)))
