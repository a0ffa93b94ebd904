use Rattle.std.proofs.Common.{◌≡◌, ◌<◌, None, Some, ap, length, map, sym, rules, arith}
use Rattle.std.specs.Option.{option_and_then}
use Rattle.implib_read.specs.Objects.{entry_at, room_after, within_room}
use Rattle.implib_read.specs.ObjectViews.{entry_view}
use Rattle.implib_read.proofs.Gathering.{gathers-end, gathers-none}
use Rattle.implib_read.proofs.Room.{room-end, room-lacks, room-read}
use Rattle.implib_read.proofs.Entries.{entries_at-end, entries_at-lacks, entries_at-more, entries_at-stop, entries-read}
use Rattle.implib_read.proofs.object.entries_at.Goals as goal

pub returns-in_default : goal.returns-in_default
returns-in_default c =
    let l = c.loop-left in
    let none : entry_at c.args.bytes.now c.args.strings.now l.place l.auxiliary ≡ None = search rules in
    sym (ap (option_and_then (within_room (length c.args.bytes.now))) (gathers-none _ _ _ l.invariant.0 (entries_at-stop c.args.bytes.now c.args.strings.now l.place l.auxiliary l.left c.loop-left-test.true none)))

pub loop-left-preserved : goal.loop-left-preserved
loop-left-preserved c =
    let l = c.loop-left in
    let some : 0 < l.left = c.loop-left-test.true in
    let found : entry_at c.args.bytes.now c.args.strings.now l.place l.auxiliary ≡ Some (entry_view c.in-Some.entry, c.in-Some.behind) = search rules in
    let room : room_after l.room (length l.entries.items) (entry_view c.in-Some.entry) ≡ Some c.in-Some-room_after.left_room = search rules in (
      entries-read entry_view c.args.bytes.now c.args.strings.now _ l.place l.auxiliary l.left c.in-Some.behind l.entries.items _ c.in-Some.entry c.in_ok-push.ensures.items some found l.invariant.0,
      omega (arith, some, l.invariant.1),
      room-read entry_view _ l.room _ l.entries.items _ c.in-Some.entry c.in_ok-push.ensures.items room l.invariant.2,
    )

pub returns-then-auxiliary-gt0 : goal.returns-then-auxiliary-gt0
returns-then-auxiliary-gt0 c =
    let l = c.loop-left in
    let none = c.loop-left-test.false in
    sym (ap (option_and_then (within_room (length c.args.bytes.now))) (gathers-none _ _ _ l.invariant.0 (entries_at-lacks c.args.bytes.now c.args.strings.now l.place l.auxiliary l.left (omega (arith, none)) c.if-auxiliary-gt0.true)))

pub returns : goal.returns
returns c =
    let l = c.loop-left in
    let none = c.loop-left-test.false in
    let no_more = c.if-auxiliary-gt0.false in
    sym (room-end (length c.args.bytes.now) l.room (length l.entries.items) (map entry_view l.entries.items) _ (gathers-end _ _ _ l.invariant.0 (entries_at-end c.args.bytes.now c.args.strings.now l.place l.auxiliary l.left (omega (arith, none)) (omega (arith, no_more)))) l.invariant.2)

pub returns-in_default-room_after : goal.returns-in_default-room_after
returns-in_default-room_after c =
    let l = c.loop-left in
    let some : 0 < l.left = c.loop-left-test.true in
    let found : entry_at c.args.bytes.now c.args.strings.now l.place l.auxiliary ≡ Some (entry_view c.in-Some.entry, c.in-Some.behind) = search rules in
    let lacks : room_after l.room (length l.entries.items) (entry_view c.in-Some.entry) ≡ None = search rules in
    sym (room-lacks (length c.args.bytes.now) l.room (length l.entries.items) (map entry_view l.entries.items) (entry_view c.in-Some.entry) _ _ _ l.invariant.0
    (entries_at-more c.args.bytes.now c.args.strings.now l.place l.auxiliary l.left (entry_view c.in-Some.entry) c.in-Some.behind some found) lacks l.invariant.2)
