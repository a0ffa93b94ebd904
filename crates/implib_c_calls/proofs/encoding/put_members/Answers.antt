use Rattle.std.proofs.Common.{rules, arith, flat_map, length, map}
use Rattle.std.proofs.lemmas.List.{length-map}
use Rattle.implib.specs.Library.{member_view}
use Rattle.implib_c_calls.specs.Encoding.{encoded_member, encoded_members, encoded_number}
use Rattle.implib_c_calls.proofs.Fill.{fills_all, fills_as, fills_more, fills_room}
use Rattle.implib_c_calls.proofs.Lengths.{members_size, number_size}
use Rattle.implib_c_calls.proofs.encoding.put_members.Goals as goal

pub put_number-at-requires : goal.put_number-at-requires
put_number-at-requires c = omega (arith, members_size (map member_view c.args.members.now))

pub put_member-at-requires : goal.put_member-at-requires
put_member-at-requires c =
    let room = fills_room encoded_member member_view c.args.members.now c.loop-member.member-index (encoded_number (length c.args.members.now)) c.loop-member.invariant
    c.member-item.result c.loop-member-test.true c.member-item.is
    (omega (arith, members_size (map member_view c.args.members.now), number_size (length c.args.members.now))) in
    omega (arith, room)

pub loop-member-preserved : goal.loop-member-preserved
loop-member-preserved c =
    let room = fills_room encoded_member member_view c.args.members.now c.loop-member.member-index (encoded_number (length c.args.members.now)) c.loop-member.invariant
    c.member-item.result c.loop-member-test.true c.member-item.is
    (omega (arith, members_size (map member_view c.args.members.now), number_size (length c.args.members.now))) in
    fills_more encoded_member member_view c.args.members.now c.loop-member.member-index (encoded_number (length c.args.members.now)) c.loop-member.invariant
    c.member-item.result c.loop-member-test.true c.member-item.is (omega (arith, room)) c.put_member-at.ensures

pub returns : goal.returns
unfolding encoded_members
returns c = search (rules, fills_as, map, flat_map, length-map, fills_all, length, c.loop-member.invariant, c.loop-member-test.false)
