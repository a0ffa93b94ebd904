use Rattle.std.proofs.Common.{arith, get_or, map, refl}
use Rattle.implib.specs.Definition.{export_view}
use Rattle.implib_rules.specs.declared.places.Place.{Place}
use Rattle.implib_rules.specs.declared.places.Site.TheVariants as site
use Rattle.implib_rules.specs.Options.{library_options_view}
use Rattle.implib_rules.specs.Warnings.{warning_view}
use Rattle.implib_rules.proofs.Warned.{index_below, place_passed, places_passed}
use Rattle.implib_rules.proofs.warnings.warnings_of.Goals as goal

abbrev no_place : Place
no_place = record { site = site.Export; position = record { offset = 0; line = 0; column = 0 } }

pub loop-place-preserved : goal.loop-place-preserved
loop-place-preserved c =
    let place = get_or c.args.places.now c.loop-place.place-index no_place in
    let below = index_below place.site c.loop-place.index in
    let within = c.loop-place.invariant.below in
    let counted = c.index_after-index.ensures in
    record {
      said = place_passed (library_options_view c.args.options.now) (map export_view c.args.exports.now) _ (map warning_view c.loop-place.warnings.items)
          (map warning_view c.push_place.new.warnings.items) c.loop-place.index c.index_after-index.result c.args.places.now c.loop-place.place-index
          no_place place c.loop-place-test.true refl c.loop-place.invariant.said c.in_ok-push_place.ensures counted;
      below = omega (arith, below, within, counted);
    }

pub returns : goal.returns
returns c =
    places_passed (library_options_view c.args.options.now) (map export_view c.args.exports.now) _ (map warning_view c.loop-place.warnings.items)
    c.loop-place.index c.args.places.now c.loop-place.place-index c.loop-place-test.false c.loop-place.invariant.said
