use Rattle.std.proofs.Common.{◌≡◌, ◌∙◌, ◌<◌, None, Some, ap, drop, refl, sym, rules, arith}
use Rattle.implib.specs.Formats.ShortImport.{text_in}
use Rattle.implib_read.specs.IndexViews.{index_entry_view}
use Rattle.implib_read.proofs.Gathering.{gathers-end, gathers-none}
use Rattle.implib_read.proofs.IndexEntries.{enough_places, entries_from-end, entries_from-stop, entry-read, places_left}
use Rattle.implib_read.proofs.index.entries_from.Goals as goal

pub returns-in_default : goal.returns-in_default
returns-in_default c =
    let l = c.loop-left in
    let none : text_in l.symbols.now ≡ None = search rules in
    sym (gathers-none _ _ _ l.invariant.0 (entries_from-stop c.args.second l.left l.places.now l.symbols.now c.loop-left-test.true none))

pub place_in-place-requires : goal.place_in-place-requires
place_in-place-requires c = enough_places c.args.second c.loop-left.left c.loop-left.places.now c.loop-left-test.true c.loop-left.invariant.1

pub loop-left-preserved : goal.loop-left-preserved
loop-left-preserved c =
    let l = c.loop-left in
    let some : 0 < l.left = c.loop-left-test.true in
    let found : text_in l.symbols.now ≡ Some (c.in-Some.symbol.now, c.in-Some.rest.now) = search rules in
    let later = c.behind-places.ensures ∙ ap (λ k. drop k l.places.now) c.place_size-size.ensures.size in (
      entry-read index_entry_view _ c.args.second l.left l.places.now c.behind-places.result.now l.symbols.now c.in-Some.symbol.now c.in-Some.rest.now c.place_in-place.result l.entries.items _ _
          c.in_ok-push.ensures.items refl c.place_in-place.ensures later some found l.invariant.0,
      places_left c.args.second l.left l.places.now c.behind-places.result.now some l.invariant.1 later,
    )

pub returns : goal.returns
returns c =
    let l = c.loop-left in
    let none = c.loop-left-test.false in
    sym (gathers-end _ _ _ l.invariant.0 (entries_from-end c.args.second l.left l.places.now l.symbols.now (omega (arith, none))))
