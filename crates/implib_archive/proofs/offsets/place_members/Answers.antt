use Rattle.std.proofs.Common.{◌+◌, ◌<◌, ◌∙◌, ap, append_assoc, append-nil, arith, length, drop, refl, sym}
use Rattle.implib_archive.specs.Archive.{places_from}
use Rattle.implib_archive.specs.Parts.{part_size}
use Rattle.implib_archive.specs.Sources.{no_member}
use Rattle.implib_archive.proofs.Placed.{end_all, end_more, first_too_far, long_here, none_too_far, places_all, places_more, short_more, some_too_far}
use Rattle.implib_archive.proofs.offsets.place_members.Goals as goal

pub returns-then-first-ge-TOO_LONG-clause-refused : goal.returns-then-first-ge-TOO_LONG-clause-refused
returns-then-first-ge-TOO_LONG-clause-refused g c = first_too_far c.args.first (g.S.Members.members c.args.source.now) c.if-first-ge-TOO_LONG.true

pub returns-then-place-ge-TOO_LONG-clause-refused : goal.returns-then-place-ge-TOO_LONG-clause-refused
returns-then-place-ge-TOO_LONG-clause-refused g c =
    let l = c.loop-index in
    let members = g.S.Members.members c.args.source.now in
    let within : l.index < length members = omega (arith, c.loop-index-test.true, c.count-index-end.ensures) in
    let long = long_here members l.index no_member within l.place _ refl c.if-place-ge-TOO_LONG.true in
    some_too_far c.args.first members l.invariant.begins (sym l.invariant.short ∙ long)

pub part_size-place-requires : goal.part_size-place-requires
part_size-place-requires g c = grind (arith, c.loop-index-test.true, c.count-index-end.ensures, c.requires, c.size.ensures)

pub loop-index-preserved : goal.loop-index-preserved
loop-index-preserved g c =
    let l = c.loop-index in
    let members = g.S.Members.members c.args.source.now in
    let within : l.index < length members = omega (arith, c.loop-index-test.true, c.count-index-end.ensures) in
    let next = l.place + c.part_size-place.result in
    let step = ap (λ n. l.place + n) (c.part_size-place.ensures ∙ ap part_size c.size.ensures) in
    let rest = places_from next (drop (l.index + 1) members) in
    record {
      begins = l.invariant.begins;
      offsets = grind (arith, append_assoc, places_more, c.in_ok-push.ensures.items);
      ends = sym (end_more members l.index no_member within l.place next step) ∙ l.invariant.ends;
      short = sym (short_more members l.index no_member within l.place next step c.if-place-ge-TOO_LONG.false) ∙ l.invariant.short;
    }

pub returns-clause-accepted : goal.returns-clause-accepted
returns-clause-accepted g c = grind (arith, none_too_far, places_all, c.loop-index-test.false, c.count-index-end.ensures, c.loop-index.invariant.begins, c.loop-index.invariant.short)

pub returns-clause-offsets : goal.returns-clause-offsets
returns-clause-offsets g c = grind (arith, places_all, append-nil, c.loop-index-test.false, c.count-index-end.ensures, c.loop-index.invariant.offsets)

pub returns-clause-end : goal.returns-clause-end
returns-clause-end g c = grind (arith, end_all, c.loop-index-test.false, c.count-index-end.ensures, c.loop-index.invariant.ends)
