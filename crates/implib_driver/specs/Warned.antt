-- Which warnings of a definition are said, and what is said where it is in UTF-16 (this project's
-- own).
use Rattle.std.specs.Prelude.{◌≡◌, ◌⊎◌, ℕ, Bool, true, false, List, [], ◌∷◌, ◌++◌, Option}
use Rattle.std.specs.Prelude.{map, nat_eq, nat_lt, ◌||◌, if◌then◌else◌}
use Rattle.std.specs.List.{starts_with}
use Rattle.std.specs.Str.{IsUtf8}
use Rattle.implib.specs.declared.machine.MachineType.TheVariants.{AMD64}
use Rattle.implib.specs.Definition.{DefinitionView, ExportView}
use Rattle.implib.specs.Fault.{Cause}
use Rattle.implib.specs.Text.Parses.{Parses, RefusesAt}
use Rattle.implib_driver.specs.Disk.{DiskView}
use Rattle.implib_driver.specs.Reports.{Complains, Line, OfUtf16, Refuses, Says, Warns}
use Rattle.implib_driver.specs.Request.{RequestView}
use Rattle.implib_rules.specs.declared.library.Refusal.TheVariants.{OutOfMemory}
use Rattle.implib_rules.specs.declared.places.Place.{Place}
use Rattle.implib_rules.specs.Library.{definition_text}
use Rattle.implib_rules.specs.Places.{ArePlacesOf, export_lines}
use Rattle.implib_rules.specs.TextWarnings.{none_warnings, text_warnings}
use Rattle.implib_rules.specs.Warnings.{WarningView, warnings_of}

-- warnings of the definition of a path, as they are said
abbrev pub warning_lines : List ℕ → List ℕ → List WarningView → List Line
warning_lines path lines warnings = map (λ w. Warns path w lines) warnings

-- the warnings of a definition of these exports and places and this number of members, where they
-- are asked for
abbrev pub warnings_for : RequestView → List ExportView → List Place → ℕ → List WarningView
warnings_for request exports places count =
    if request.is_verbose then warnings_of request.library exports places count else []

-- the warnings of a definition with these places and this number of members were said
pub record SaysWarnings (count : ℕ) (bytes : List ℕ) (definition : DefinitionView)
    (places : List Place) (request : RequestView) (before after : Option (List Line)) : Type 0 where
  pub says : Says before after
      (warning_lines request.definition (export_lines places)
      (text_warnings bytes ++ warnings_for request definition.exports places count))

-- the bytes are a definition, and its warnings were said
pub record WarnsOf (count : ℕ) (bytes : List ℕ) (request : RequestView)
    (before after : Option (List Line)) : Type 0 where
  pub utf8 : IsUtf8 (definition_text bytes)
  pub definition : DefinitionView
  pub parses : Parses (definition_text bytes) AMD64 definition
  pub places : List Place
  pub are_places : ArePlacesOf (definition_text bytes) places
  pub warns : SaysWarnings count bytes definition places request before after

-- the text is no definition
pub record HasSyntaxError (text : List ℕ) : Type 0 where
  pub cause : Cause
  pub offset : ℕ
  pub refused : RefusesAt text cause offset

-- the bytes are no definition, and nothing was said
pub record IsNoDefinition (bytes : List ℕ) (before after : Option (List Line)) : Type 0 where
  pub refused : (¬ (IsUtf8 (definition_text bytes))) ⊎ HasSyntaxError (definition_text bytes)
  pub silent : after ≡ before

-- the bytes are a definition, and it was said if it has no export though something follows EXPORTS
pub record WarnsOfNone (bytes : List ℕ) (request : RequestView)
    (before after : Option (List Line)) : Type 0 where
  pub utf8 : IsUtf8 (definition_text bytes)
  pub definition : DefinitionView
  pub parses : Parses (definition_text bytes) AMD64 definition
  pub says : Says before after
      (warning_lines request.definition []
      (none_warnings (definition_text bytes) definition.exports))

-- the warnings of bytes, with this number of members, were said, if they are asked for; of a
-- library that has the members of its DLL alone, that its definition has no export is said without
-- that
abbrev pub Warned : Bool → Bool → ℕ → List ℕ → RequestView → Option (List Line) →
    Option (List Line) → Type 0
Warned false false count bytes request before after = after ≡ before
Warned false true count bytes request before after =
    WarnsOfNone bytes request before after ⊎ IsNoDefinition bytes before after
Warned true bare count bytes request before after =
    WarnsOf count bytes request before after ⊎ IsNoDefinition bytes before after

-- whether a library of this many members has no more than those of its DLL, of which each flavour
-- has at most three
abbrev pub is_bare : ℕ → Bool
is_bare count = nat_lt count 4

-- whether bytes begin as a text in UTF-16 with a byte order mark (the Unicode Standard, "Byte Order
-- Mark")
abbrev pub begins_utf16 : List ℕ → Bool
begins_utf16 bytes =
    starts_with nat_eq bytes (0xFF ∷ 0xFE ∷ []) || starts_with nat_eq bytes (0xFE ∷ 0xFF ∷ [])

-- that the definition is in UTF-16 was said, and nothing else was done
pub record IsInUtf16 (bytes : List ℕ) (request : RequestView) (disk put : DiskView)
    (before after : Option (List Line)) (status : ℕ) : Type 0 where
  pub begins : begins_utf16 bytes ≡ true
  pub same_disk : put ≡ disk
  pub says : Says before after (Complains request.definition OfUtf16 ∷ [])
  pub is_status : status ≡ 1

-- memory was refused before a warning was said
pub record IsUnwarned (request : RequestView) (disk put : DiskView)
    (before after : Option (List Line)) (status : ℕ) : Type 0 where
  pub same_disk : put ≡ disk
  pub says : Says before after (Refuses request.definition OutOfMemory ∷ [])
  pub is_status : status ≡ 3
