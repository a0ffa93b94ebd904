use Rattle.std.proofs.Common.{List, ap, false, refl, sym}
use Rattle.implib_rules.specs.declared.places.Place.{Place}
use Rattle.implib_rules.specs.Places.{Walked, walked}
use Rattle.implib_rules.proofs.places.read_with_places.Goals as goal

pub returns-in-None-clause-places : goal.returns-in-None-clause-places
unfolding walked
returns-in-None-clause-places c =
    let begun : (places : List Place) → Walked = λ places. record { is_headed = false; line = 1; places = places } in
    let heard = c.in_ok-def.ensures.heard (record { text = refl; walked = λ none. ap begun (sym c.new.ensures.items) }) in
    (heard.0, heard.1, sym (ap (λ (w : Walked). w.places) (heard.2.walked c.in-None.is)))
