-- The places of exports are at the names that are heard, which are the words of the exports.
use Rattle.std.proofs.Common.{◌≡◌, ◌∙◌, ℕ, Bool, false, List, [], ◌∷◌, ◌++◌, Option, None, Some, ◌||◌, ap, append-nil, arith, get_or, map, refl, subst, suc, sym}
use Rattle.std.specs.Prelude.{is_none}
use Rattle.std.specs.Str.{IsUtf8}
use Rattle.std.proofs.lemmas.List.{get_or_append_left, get_or_push, length-append, length-map, map-append}
use Rattle.std.proofs.lemmas.List.Sums.{fold_push}
use Rattle.implib.specs.declared.def.listener.Role.{Role}
use Rattle.implib.specs.declared.def.listener.Role.TheVariants.{Name, Other}
use Rattle.implib.specs.declared.def.position.Position.{Position}
use Rattle.implib.specs.declared.machine.MachineType.TheVariants.{AMD64}
use Rattle.implib.specs.Definition.{DefinitionView}
use Rattle.implib.specs.Text.Heard.{Heard, IsHeard, name_first, names_of}
use Rattle.implib.specs.Text.Parses.{Parses}
use Rattle.implib.specs.Text.Position.{position_at}
use Rattle.implib.specs.Text.Token.{TokenView}
use Rattle.implib.proofs.Text.HeardNames.{names_are_words, names_of-append}
use Rattle.implib_rules.specs.declared.places.Place.{Place}
use Rattle.implib_rules.specs.Places.{ExportsStandAtWords, export_positions, is_heading, placed, site_at, started, walked, walked_on}
use Rattle.implib_rules.specs.Heard.{IsOffsetOf}
use Rattle.implib_rules.proofs.InOrder.{places_after, walked_places}

-- the positions of names
abbrev positions : List ℕ → List TokenView → List Position
positions text names = map (λ (t : TokenView). position_at text t.at) names

first_position : (text : List ℕ) (is_headed : Bool) (line : ℕ) (role : Role) (token : TokenView) (names : List TokenView) (places : List Place) → export_positions places ≡ positions text names
    → export_positions (placed (site_at is_headed line (position_at text token.at).line role token.kind) (position_at text token.at) ++ places) ≡ positions text (name_first role token names)
first_position text is_headed line Name token names places rest = ap (λ (ps : List Position). position_at text token.at ∷ ps) rest
first_position text is_headed line Other token names places rest = grind arith

positions_named : (text : List ℕ) (is_headed : Bool) (line : ℕ) (heard : List Heard) → export_positions (places_after text is_headed line heard) ≡ positions text (names_of heard)
positions_named text is_headed line [] = refl
positions_named text is_headed line (h ∷ heard) =
    cc (first_position text is_headed line h.role h.token (names_of heard) _ (positions_named text (is_headed || is_heading h.token.kind) (position_at text h.token.at).line heard))

pub at_words : (text : List ℕ) (definition : DefinitionView) (heard : List Heard) → IsUtf8 text → Parses text AMD64 definition → IsHeard text heard → ExportsStandAtWords text definition heard
unfolding walked
at_words text definition heard utf8 parses is = grind (arith, names_are_words text AMD64 definition heard utf8 parses is, walked_places text started heard, positions_named text false 1 heard)

-- ---- what listeners hear

-- one token more has one place more, if it is one
pub place_heard : (text : List ℕ) (heard : List Heard) (h : Heard) (is_headed : Bool) (line : ℕ) (places : List Place) (position : Position)
    → walked text heard ≡ record { is_headed = is_headed; line = line; places = places } → position ≡ position_at text h.token.at
    → walked text (heard ++ h ∷ []) ≡ record {
      is_headed = is_headed || is_heading h.token.kind;
      line = position.line;
      places = places ++ placed (site_at is_headed line position.line h.role h.token.kind) position;
    }
unfolding walked
place_heard text heard h is_headed line places position e at = cc (fold_push (walked_on text) started heard h)

-- another part is no name
pub other_passed : (heard : List Heard) (token : TokenView) → names_of (heard ++ (record { role = Other; token = token }) ∷ []) ≡ names_of heard
other_passed heard token = names_of-append heard ((record { role = Other; token = token }) ∷ []) ∙ append-nil (names_of heard)

name_added : (heard : List Heard) (token : TokenView) → names_of (heard ++ (record { role = Name; token = token }) ∷ []) ≡ names_of heard ++ token ∷ []
name_added heard token = names_of-append heard ((record { role = Name; token = token }) ∷ [])

abbrev offsets : List TokenView → List ℕ
offsets names = map (λ (t : TokenView). t.at) names

offsets-push : (names : List TokenView) (token : TokenView) → offsets (names ++ token ∷ []) ≡ offsets names ++ token.at ∷ []
offsets-push names token = map-append (λ (t : TokenView). t.at) names (token ∷ [])

-- the name at the index is not lost
kept : (index offset : ℕ) (names : List TokenView) (token : TokenView) → IsOffsetOf index 0 (Some offset) names → IsOffsetOf index 0 (Some offset) (names ++ token ∷ [])
kept index offset names token h =
    let long = length-append names (token ∷ []) in
    let same = length-map names (λ (t : TokenView). t.at) in (
      omega (arith, long, h.0),
      ap (λ (l : List ℕ). get_or l index 0) (offsets-push names token) ∙ get_or_append_left (offsets names) (token.at ∷ []) 0 index (omega (arith, same, h.0)) ∙ h.1,
    )

pub name_kept : (index left : ℕ) (found : Option ℕ) (heard : List Heard) (token : TokenView) → is_none found ≡ false → IsOffsetOf index left found (names_of heard)
    → IsOffsetOf index left found (names_of (heard ++ (record { role = Name; token = token }) ∷ []))
name_kept index left None heard token some h = absurd cc
name_kept index left (Some offset) heard token some h = grind (arith, name_added heard token, kept index offset (names_of heard) token h)

-- the name at the index is found
pub name_found : (index : ℕ) (heard : List Heard) (token : TokenView) (left : ℕ) → left ≡ 0 → IsOffsetOf index left None (names_of heard)
    → IsOffsetOf index left (Some token.at) (names_of (heard ++ (record { role = Name; token = token }) ∷ []))
name_found index heard token left none h =
    let names = names_of heard in
    let long = length-append names (token ∷ []) in
    let same = length-map names (λ (t : TokenView). t.at) in
    subst (IsOffsetOf index left (Some token.at)) (sym (name_added heard token)) (
      omega (arith, long, none, h),
      ap (λ (l : List ℕ). get_or l index 0) (offsets-push names token) ∙ get_or_push (offsets names) token.at 0 index (omega (arith, same, none, h)),
    )

-- one name fewer is to come
pub name_passed : (index : ℕ) (heard : List Heard) (token : TokenView) (left fewer : ℕ) → left ≡ suc fewer → IsOffsetOf index left None (names_of heard)
    → IsOffsetOf index fewer None (names_of (heard ++ (record { role = Name; token = token }) ∷ []))
name_passed index heard token left fewer one h = grind (arith, length-append, name_added)
