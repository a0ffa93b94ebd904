-- What a caller sees of places and spots.
use Rattle.implib_read.specs.Following.{Place, Spot}
use Rattle.implib_read.specs.ObjectViews.{object_view, section_view, symbol_view}
use Rattle.implib_read.specs.declared.follow.PlaceFound.{PlaceFound}
use Rattle.implib_read.specs.declared.follow.SpotFound.{SpotFound}
use Rattle.std.specs.Prelude.{List, ℕ, Option, bytes_eq}
use Rattle.std.specs.HashMap.{HashMap, get_by}
use Rattle.std.specs.Option.{option_map}
use Rattle.std.specs.declared.hash.FoldHasher.{FoldHasher}
use Rattle.std.specs.declared.hash.BuildHasherDefault.{BuildHasherDefault}
use Rattle.std.proofs.Common.{Bor}

abbrev pub place_view : PlaceFound → Place
place_view p = record { object = object_view p.object.now; symbol = symbol_view p.symbol }

abbrev pub spot_view : SpotFound → Spot
spot_view s = record {
  object = object_view s.object.now;
  section = section_view s.section;
  offset = s.offset;
}

-- where a map has the external of a name
abbrev pub places_of : HashMap (Bor (List ℕ)) PlaceFound (BuildHasherDefault FoldHasher) → List ℕ →
    Option Place
places_of places name = option_map place_view (get_by (λ k. bytes_eq name k.now) places)
