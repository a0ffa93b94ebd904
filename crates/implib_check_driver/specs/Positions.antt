-- Where the exports of a definition are in its text (this project's choice; docs/CHECK.md,
-- "Beside a definition").
use Rattle.std.specs.Prelude.{◌≡◌, ◌⊎◌, ℕ, ◌+◌, ◌&&◌, not, List, [], ◌∷◌, Option, None, Some}
use Rattle.std.specs.Prelude.{bytes_eq, codes, drop, if◌then◌else◌, nat_eq, slice_get}
use Rattle.std.specs.List.{starts_with}
use Rattle.std.specs.Option.{option_and_then, option_or}
use Rattle.std.specs.Str.{IsUtf8}
use Rattle.implib.specs.Definition.{DefinitionView, ExportView}
use Rattle.implib.specs.Text.RefusedAt.{IsRefusedAt}
use Rattle.implib.specs.declared.error.ParseError.{ParseError}
use Rattle.implib.specs.declared.error.ParseError.TheVariants.{OutOfMemory}
use Rattle.implib.specs.declared.def.position.Position.{Position}
use Rattle.implib_rules.specs.Library.{DefinitionFor, IsRefusalOfText, definition_text}
use Rattle.implib_rules.specs.Options.{LibraryOptionsView}
use Rattle.implib_rules.specs.Places.{ArePlacesOf, export_positions}
use Rattle.implib_rules.specs.declared.library.Refusal.{Refusal}
use Rattle.implib_rules.specs.declared.library.Refusal.TheVariants as refusal
use Rattle.implib_rules.specs.declared.places.Place.{Place}

-- the position of an export, if it declares this symbol
abbrev pub position_if : ExportView → List ℕ → Position → Option Position
position_if e symbol position =
    if not e.private && bytes_eq e.name symbol then Some position else None

-- The position of the first export that declares a symbol, where exports count from a number. A
-- private one declares none.
abbrev pub position_from : ℕ → List ExportView → List Position → List ℕ → Option Position
position_from number [] positions symbol = None
position_from number (e ∷ exports) positions symbol =
    option_or (option_and_then (position_if e symbol) (slice_get positions number))
    (position_from (number + 1) exports positions symbol)

-- The positions of a definition's exports, as it is linked, by their symbols.
pub record ArePositionsOf (definition : List ℕ) (options : LibraryOptionsView)
    (at : List ℕ → Option Position) : Type 0 where
  pub meant : DefinitionView
  pub places : List Place
  pub of_text : DefinitionFor (definition_text definition) options meant
  pub in_text : ArePlacesOf (definition_text definition) places
  pub are : (symbol : List ℕ) →
      at symbol ≡ position_from 0 meant.exports (export_positions places) symbol

-- what refuses a text, but for want of memory
abbrev pub IsTextCause : Refusal → Type 0
IsTextCause refusal.OutOfMemory = ⊥
IsTextCause _ = Unit {0}

abbrev pub IsPlaceCause : ParseError → Type 0
IsPlaceCause (OutOfMemory refused) = ⊥
IsPlaceCause _ = Unit {0}

-- A text that is no definition, and one whose places are not read.
pub record IsMeaningless (text : List ℕ) (options : LibraryOptionsView) : Type 0 where
  pub why : Refusal
  pub is_refusal : IsRefusalOfText text options why
  pub is_cause : IsTextCause why

pub record IsPlaceless (text : List ℕ) : Type 0 where
  pub why : ParseError
  pub is_refusal : IsRefusedAt text why
  pub is_cause : IsPlaceCause why

-- a definition without positions: it is no text, or refused
abbrev pub HasNoPositions : List ℕ → LibraryOptionsView → Type 0
HasNoPositions text options = (¬ (IsUtf8 text)) ⊎ IsMeaningless text options ⊎ IsPlaceless text

-- the symbol of which another may be the address
abbrev pub symbol_behind : List ℕ → List ℕ
symbol_behind symbol = if starts_with nat_eq symbol (codes "__imp_") then drop 6 symbol else symbol
