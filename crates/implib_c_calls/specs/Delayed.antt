-- What `implib_library_with` answers where delayed imports are asked for: the library of them that
-- the program `implib_dlltool` makes of the text under these options, by `-y`
-- (`implib_libraries`).
use Rattle.std.specs.Prelude.{◌≡◌, ℕ, ◌+◌, ◌≤◌, ◌⊎◌, List, length, IfSome}
use Rattle.implib.specs.declared.flavor.Flavor.TheVariants.{Msvc, Gnu}
use Rattle.implib_libraries.specs.declared.delayed.DelayRefusal.{DelayRefusal}
use Rattle.implib_libraries.specs.declared.delayed.DelayRefusal.TheVariants.{Refused as RefusedBefore}
use Rattle.implib_libraries.specs.declared.delayed.DelayRefusal.TheVariants.{Undelayed as CannotDelay}
use Rattle.implib_libraries.specs.declared.delayed.Undelayed.TheVariants as undelayed
use Rattle.implib_libraries.specs.Delayed.{IsDelayedLibrary, IsRefusalOfDelayed}
use Rattle.implib_libraries.specs.Delayed.{position_of_undelayed}
use Rattle.implib_rules.specs.Library.{definition_text}
use Rattle.implib_rules.specs.Options.{LibraryOptionsView}
use Rattle.implib_c_calls.specs.declared.outcome.Failure.{Failure}
use Rattle.implib_c_calls.specs.declared.outcome.Failure.TheVariants.{NotDelayed}
use Rattle.implib_c_calls.specs.declared.outcome.NoDelay.TheVariants.{Alias, Data, Flavor, Machine}
use Rattle.implib_c_calls.specs.Given.{IsBecause, Leaves}
use Rattle.implib_c_calls.specs.LibraryWith.{GivenOptions, IsWithin, LacksWith, WithOptions}
use Rattle.implib_c_calls.specs.LibraryWith.{failure_at, mark_length}

-- what a refused text becomes: the offset of an export that is not delayed is in the text, whose
-- byte order mark counts
abbrev pub failure_delayed : List ℕ → DelayRefusal → Failure
failure_delayed text (RefusedBefore refusal) = failure_at text refusal
failure_delayed text (CannotDelay (undelayed.Data position)) =
    NotDelayed Data (mark_length text + position.offset)
failure_delayed text (CannotDelay (undelayed.Alias position)) =
    NotDelayed Alias (mark_length text + position.offset)
failure_delayed text (CannotDelay undelayed.Machine) = NotDelayed Machine 0

-- there is no library with these options: they are for Microsoft's linkers, or the rules of the
-- program refuse the text
abbrev pub LacksDelayed : List ℕ → LibraryOptionsView → Failure → Type 0
LacksDelayed text options why =
    ((options.flavor ≡ Msvc) × (why ≡ NotDelayed Flavor 0))
    ⊎ ((options.flavor ≡ Gnu)
    × IsBecause (failure_delayed text) (IsRefusalOfDelayed text options) why)

-- what a call leaves: the library, or why there is none
abbrev pub DelayedAnswers : List ℕ → GivenOptions → List ℕ → List ℕ → ℕ → ℕ → ℕ → Type 0
DelayedAnswers text given =
    Leaves
    (λ file. WithOptions given
    (λ options. (options.flavor ≡ Gnu) × IsDelayedLibrary text options file))
    (LacksWith given (LacksDelayed text))

-- View: the offset of a refusal is one of the text without its byte order mark, or of its end.
abbrev pub IsDelayedWithin : List ℕ → DelayRefusal → Type 0
IsDelayedWithin text (RefusedBefore refusal) = IsWithin text refusal
IsDelayedWithin text (CannotDelay why) =
    IfSome (position_of_undelayed why) (λ position. position.offset ≤ length (definition_text text))
