use Rattle.std.proofs.Common.{◌∙◌, ℕ, ◌++◌, Bool, List, Option, ap, sym}
use Rattle.implib.specs.Text.Position.{position_at}
use Rattle.implib.specs.Text.Token.{token_view}
use Rattle.implib_rules.specs.declared.places.Place.{Place}
use Rattle.implib_rules.specs.declared.places.Site.{Site}
use Rattle.implib_rules.specs.Places.{Walked, placed, site_at}
use Rattle.implib_rules.proofs.PlacesHeard.{place_heard}
use Rattle.implib_rules.proofs.places.PlacesListener.hear.Goals as goal

pub returns : goal.returns
returns c = λ start heard h. record {
  text = h.text;
  walked = λ none.
      let self = c.args.self.now in
      let here = c.advanced-here.result in
      let noted = c.note_place.ensures none in
      let behind : Bool → List Place → Walked = λ is_headed places. record { is_headed = is_headed; line = here.line; places = places } in
      place_heard start.text.now heard (record { role = c.args.role; token = token_view c.args.token }) self.is_headed self.here.line self.places.items here
      (h.walked noted.0) (c.advanced-here.ensures ∙ ap (λ (text : List ℕ). position_at text c.args.token.at) (c.as_bytes.ensures.value ∙ h.text))
      ∙ ap (λ (is_headed : Bool). behind is_headed (self.places.items ++ placed (site_at self.is_headed self.here.line here.line c.args.role c.args.token.kind) here)) (sym c.is_headed_after-self.ensures)
      ∙ ap (λ (site : Option Site). behind c.is_headed_after-self.result (self.places.items ++ placed site here)) (sym c.site_at-site.ensures)
      ∙ ap (behind c.is_headed_after-self.result) (sym noted.1);
}
