-- Views of what listeners know once tokens were heard. No promise cites them.
use Rattle.std.specs.Prelude.{◌≡◌, ℕ, ◌+◌, ◌<◌, List, Option, None, Some, get_or, length, map}
use Rattle.implib.specs.Text.Heard.{Heard, names_of}
use Rattle.implib.specs.Text.Token.{TokenView}
use Rattle.std.specs.Option.{option_map}
use Rattle.std.specs.String.{string_bytes}
use Rattle.implib_rules.specs.declared.name.FirstHeading.{FirstHeading}
use Rattle.implib_rules.specs.declared.form.FirstMisplaced.{FirstMisplaced}
use Rattle.implib_rules.specs.declared.form.Misplaced.{Misplaced as Kept}
use Rattle.implib_rules.specs.declared.form.DefinitionHeard.{DefinitionHeard}
use Rattle.implib_rules.specs.declared.places.NameOffset.{NameOffset}
use Rattle.implib_rules.specs.Forms.{Formed, Misplaced, formed_by_all}
use Rattle.implib_rules.specs.Names.{Headed, headed_by_all}
use Rattle.implib_rules.specs.declared.places.Places.{Places}
use Rattle.implib_rules.specs.Places.{walked}

-- the text is the one of the start, and the places are those of the tokens, unless an allocation
-- failed
pub record HasPlacesOf (start places : Places) (heard : List Heard) : Type 0 where
  pub text : places.text.now ≡ start.text.now
  pub walked : places.failure ≡ None → walked start.text.now heard
      ≡ record {
        is_headed = places.is_headed;
        line = places.here.line;
        places = places.places.items;
      }

-- the name at the index is among these, or so many are to come before it
abbrev pub IsOffsetOf : ℕ → ℕ → Option ℕ → List TokenView → Type 0
IsOffsetOf index left None names = length names + left ≡ index
IsOffsetOf index left (Some offset) names =
    (index < length names) × (get_or (map (λ t. t.at) names) index 0 ≡ offset)

-- the index is the number of names that were to come at the start
abbrev pub HasOffsetOf : NameOffset → NameOffset → List Heard → Type 0
HasOffsetOf start name heard = IsOffsetOf start.left name.left name.offset (names_of heard)

-- the view of a listener of headings
abbrev pub headed_view : FirstHeading → Headed
headed_view h = record { opened = h.opened; name = string_bytes h.name; is_program = h.is_program }

-- unless an allocation failed, this is known of the headings among the tokens
abbrev pub HasHeading : FirstHeading → FirstHeading → List Heard → Type 0
HasHeading start heading heard = heading.failure ≡ None → headed_view heading ≡ headed_by_all heard

-- the views of a wrong word, and of a listener for the first
abbrev pub misplaced_view : Kept → Misplaced
misplaced_view m = record { problem = m.problem; word = string_bytes m.word; at = m.at }

abbrev pub formed_view : FirstMisplaced → Formed
formed_view f = record { point = f.point; misplaced = option_map misplaced_view f.misplaced }

-- the text is the one of the start and, unless an allocation failed, this is known of its tokens
pub record HasForm (start form : FirstMisplaced) (heard : List Heard) : Type 0 where
  pub text : form.text.now ≡ start.text.now
  pub formed : form.failure ≡ None → formed_view form ≡ formed_by_all start.text.now heard

-- both is known of a definition's tokens
pub record HasDefinition (start both : DefinitionHeard) (heard : List Heard) : Type 0 where
  pub heading : HasHeading start.heading both.heading heard
  pub form : HasForm start.form both.form heard
