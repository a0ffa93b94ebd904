-- What `implib_warnings` answers: the warnings that the program `implib_dlltool` has of the text
-- under these options (`implib_rules`).
use Rattle.std.specs.Prelude.{◌≡◌, ℕ, All, List, [], ◌∷◌, ◌++◌}
use Rattle.std.specs.List.{flat_map}
use Rattle.implib.specs.declared.def.position.Position.{Position}
use Rattle.implib.specs.declared.error.Fault.{Fault}
use Rattle.implib.specs.Fault.{cause_of}
use Rattle.implib.specs.Text.Position.{position_at}
use Rattle.std.specs.Str.{IsUtf8}
use Rattle.implib.specs.declared.machine.MachineType.TheVariants.{AMD64}
use Rattle.implib.specs.Definition.{DefinitionView}
use Rattle.implib.specs.Text.Parses.{Parses, RefusesAt}
use Rattle.implib_archive.specs.Pushed.{Pushes}
use Rattle.implib_c_calls.specs.Encoding.{encoded_number}
use Rattle.implib_c_calls.specs.Given.{Encodes, EncodesSome, IsBecause, Leaves}
use Rattle.implib_c_calls.specs.LibraryWith.{GivenOptions, LacksWith, WithOptions, failure_at}
use Rattle.implib_c_calls.specs.LibraryWith.{mark_length}
use Rattle.implib_c_calls.specs.Warnings.{AreSaid, Fits, Said, encoded_said, encoded_warnings}
use Rattle.implib_c_calls.specs.Warnings.{warnings_in}
use Rattle.implib_rules.specs.declared.library.Refusal.{Refusal}
use Rattle.implib_rules.specs.declared.library.Refusal.TheVariants as refusal
use Rattle.implib_rules.specs.declared.places.Place.{Place}
use Rattle.implib_rules.specs.Library.{CountsMembers, IsRefusalOfMembers, definition_text}
use Rattle.implib_rules.specs.Options.{LibraryOptionsView}
use Rattle.implib_rules.specs.Places.{ArePlacesOf}
use Rattle.implib_rules.specs.TextWarnings.{text_warnings}
use Rattle.implib_rules.specs.Warnings.{WarningView, warnings_of}

-- these are the warnings of the text, with its words as they are written: those of its form, and
-- then the others
pub record HasWarnings (text : List ℕ) (options : LibraryOptionsView)
    (said : List Said) : Type 0 where
  pub utf8 : IsUtf8 (definition_text text)
  pub definition : DefinitionView
  pub parses : Parses (definition_text text) AMD64 definition
  pub places : List Place
  pub are_places : ArePlacesOf (definition_text text) places
  pub count : ℕ
  pub counts : CountsMembers text options options.flavor count
  pub are : AreSaid (mark_length text)
      (text_warnings text ++ warnings_of options definition.exports places count) said

-- the grammar refuses the text, at this token. An open quote or a wrong ordinal, which the program
-- refuses beside, is none of its refusals: the library's call tells them.
pub record IsUngrammatical (text : List ℕ) (fault : Fault) (position : Position) : Type 0 where
  pub utf8 : IsUtf8 (definition_text text)
  pub refused : RefusesAt (definition_text text) (cause_of fault) position.offset
      × (position ≡ position_at (definition_text text) position.offset)

-- the text is no definition, or memory was refused
abbrev pub HasNoWarnings : List ℕ → LibraryOptionsView → Refusal → Type 0
HasNoWarnings text options (refusal.NotUtf8 position) =
    IsRefusalOfMembers text options (refusal.NotUtf8 position)
HasNoWarnings text options (refusal.Syntax fault position) = IsUngrammatical text fault position
HasNoWarnings text options refusal.OutOfMemory = Unit {0}
HasNoWarnings text options _ = ⊥

-- what a call leaves: the encoding of the warnings, or why there is none
abbrev pub WarningsAnswers : List ℕ → GivenOptions → List ℕ → List ℕ → ℕ → ℕ → ℕ → Type 0
WarningsAnswers text given =
    Leaves
    (Encodes encoded_warnings warnings_in
    (λ said. WithOptions given (λ options. HasWarnings text options said)))
    (LacksWith given (λ options. IsBecause (failure_at text) (HasNoWarnings text options)))

-- Views: what the functions below `implib_warnings` give each other. No promise cites them.

-- these warnings are appended, in some words, after a number
pub record PushesWarnings (mark count : ℕ) (warnings : List WarningView)
    (old new : List ℕ) : Type 0 where
  pub said : List Said
  pub are : AreSaid mark warnings said
  pub fit : All Fits said
  pub pushes : Pushes old new (encoded_number count ++ flat_map encoded_said said)

-- one warning is appended, in some words
pub record PushesWarning (mark : ℕ) (warning : WarningView) (old new : List ℕ) : Type 0 where
  pub said : Said
  pub is : AreSaid mark (warning ∷ []) (said ∷ [])
  pub fit : Fits said
  pub pushes : Pushes old new (encoded_said said)

-- the bytes are the encoding of these warnings, in some words
abbrev pub IsEncodingOf : ℕ → List WarningView → List ℕ → Type 0
IsEncodingOf mark warnings = EncodesSome encoded_warnings (All Fits) (AreSaid mark warnings)

-- the bytes are the encoding of the text's warnings
abbrev pub EncodesWarnings : List ℕ → LibraryOptionsView → List ℕ → Type 0
EncodesWarnings text options = EncodesSome encoded_warnings (All Fits) (HasWarnings text options)
