-- The places of a text that a warning can be at, by its tokens and their roles (this project's
-- choice). A text is read from the left.
use Rattle.std.specs.Prelude.{◌≡◌, ℕ, Bool, true, false, ◌&&◌, ◌||◌, List, [], ◌∷◌, ◌++◌, Option}
use Rattle.std.specs.Prelude.{None, Some, filter, get_or, if◌then◌else◌, map, nat_lt}
use Rattle.std.specs.List.{fold}
use Rattle.std.specs.Str.{IsUtf8}
use Rattle.implib.specs.declared.def.lexer.TokenKind.{TokenKind}
use Rattle.implib.specs.declared.def.lexer.TokenKind.TheVariants as kind
use Rattle.implib.specs.declared.def.listener.Role.{Role}
use Rattle.implib.specs.declared.def.listener.Role.TheVariants.{Name, Other}
use Rattle.implib.specs.declared.def.position.Position.{Position}
use Rattle.implib.specs.declared.machine.MachineType.TheVariants.{AMD64}
use Rattle.implib.specs.Definition.{DefinitionView}
use Rattle.implib.specs.Fault.{Cause, export_index}
use Rattle.implib.specs.Text.Heard.{Heard, IsHeard, names_of}
use Rattle.implib.specs.Text.Parses.{Parses}
use Rattle.implib.specs.Text.Position.{position_at}
use Rattle.implib_rules.specs.declared.places.Place.{Place}
use Rattle.implib_rules.specs.declared.places.Site.{Site}
use Rattle.implib_rules.specs.declared.places.Site.TheVariants as site
use Rattle.implib_rules.specs.declared.warnings.words.Attribute.{Attribute}
use Rattle.implib_rules.specs.declared.warnings.words.Attribute.TheVariants.{Data, Constant}
use Rattle.implib_rules.specs.declared.warnings.words.Attribute.TheVariants.{Private, NoName}
use Rattle.implib_rules.specs.Linked.{word_of}

-- the attribute of a keyword
abbrev pub attribute_of : TokenKind → Option Attribute
attribute_of kind.KwData = Some Data
attribute_of kind.KwConstant = Some Constant
attribute_of kind.KwPrivate = Some Private
attribute_of kind.KwNoname = Some NoName
attribute_of _ = None

-- whether a keyword begins a statement that names the DLL
abbrev pub is_heading : TokenKind → Bool
is_heading kind.KwLibrary = true
is_heading kind.KwName = true
is_heading _ = false

-- an attribute that begins a line: the token before it begins in an earlier one
abbrev pub opening : Bool → Option Attribute → Option Site
opening true (Some attribute) = Some (site.Attribute attribute)
opening _ _ = None

-- what stands at another part of a statement than a name
abbrev pub site_of_other : Bool → ℕ → ℕ → TokenKind → Option Site
site_of_other is_headed before line kind =
    if is_heading kind && is_headed then Some site.Heading
    else opening (nat_lt before line) (attribute_of kind)

-- what stands at a token in its role and in this line, after a heading or not, and after a token in
-- the line `before`
abbrev pub site_at : Bool → ℕ → ℕ → Role → TokenKind → Option Site
site_at is_headed before line Name kind = Some site.Export
site_at is_headed before line Other kind = site_of_other is_headed before line kind

-- the place of what stands at a position
abbrev pub placed : Option Site → Position → List Place
placed None position = []
placed (Some site) position = record { site = site; position = position } ∷ []

-- what is known after some tokens: whether a heading is among them, the line of the last one, and
-- their places
pub record Walked : Type 0 where
  pub is_headed : Bool
  pub line : ℕ
  pub places : List Place

-- at the beginning of a text
abbrev pub started : Walked
started = record { is_headed = false; line = 1; places = [] }

-- after one more token, which is at this position
abbrev pub walked_at : Walked → Heard → Position → Walked
walked_at walked heard position = record {
  is_headed = walked.is_headed || is_heading heard.token.kind;
  line = position.line;
  places = walked.places ++ placed
      (site_at walked.is_headed walked.line position.line heard.role heard.token.kind) position;
}

-- after one more token of a text
abbrev pub walked_on : List ℕ → Walked → Heard → Walked
walked_on text walked heard = walked_at walked heard (position_at text heard.token.at)

-- after tokens of a text
unfoldable pub walked : List ℕ → List Heard → Walked
walked text heard = fold (walked_on text) started heard

-- the places of a text of which these tokens are heard, in their order
abbrev pub places_in : List ℕ → List Heard → List Place
places_in text heard = (walked text heard).places

-- these are the places of a text
abbrev pub ArePlacesOf : List ℕ → List Place → Type 0
ArePlacesOf text places =
    (heard : List Heard) × IsHeard text heard × (places ≡ places_in text heard)

-- the offset of the name of the export at an index, by the tokens that are heard; 0 where there is
-- none
abbrev pub name_offset : List Heard → ℕ → ℕ
name_offset heard index = get_or (map (λ t. t.at) (names_of heard)) index 0

-- the position is that of the name of the export at an index
pub record IsAtName (text : List ℕ) (index : ℕ) (position : Position) : Type 0 where
  pub heard : List Heard
  pub is_heard : IsHeard text heard
  pub is : position ≡ position_at text (name_offset heard index)

-- the position is that of the export at an index, if there is one, and else the beginning of the
-- text
abbrev pub IsAtExport : List ℕ → Option ℕ → Position → Type 0
IsAtExport text None position = position ≡ position_at text 0
IsAtExport text (Some index) position = IsAtName text index position

-- the position is that of a fault in a text
abbrev pub IsAtFault : List ℕ → Cause → Position → Type 0
IsAtFault text cause position = IsAtExport text (export_index cause) position

-- whether the name of an export is there
abbrev pub is_export : Site → Bool
is_export site.Export = true
is_export _ = false

-- the lines of the exports of a text, by its places
abbrev pub export_lines : List Place → List ℕ
export_lines places = map (λ p. p.position.line) (filter (λ p. is_export p.site) places)

-- the positions of exports among places
abbrev pub position_first : Site → Position → List Position → List Position
position_first site.Export position positions = position ∷ positions
position_first _ position positions = positions

abbrev pub export_positions : List Place → List Position
export_positions [] = []
export_positions (place ∷ places) =
    position_first place.site place.position (export_positions places)

-- The names that are heard of a text are the words of the definition's exports, one for one, and
-- the places of exports are where they stand.
pub record ExportsStandAtWords (text : List ℕ) (definition : DefinitionView)
    (heard : List Heard) : Type 0 where
  pub words : map (λ t. t.value) (names_of heard) ≡ map word_of definition.exports
  pub positions : export_positions (places_in text heard)
      ≡ map (λ t. position_at text t.at) (names_of heard)

-- so of each text that means a definition with its words as they are written
abbrev pub AreAtWords : Type 0
AreAtWords =
    (text : List ℕ) (definition : DefinitionView) (heard : List Heard) → IsUtf8 text →
    Parses text AMD64 definition → IsHeard text heard →
    ExportsStandAtWords text definition heard
