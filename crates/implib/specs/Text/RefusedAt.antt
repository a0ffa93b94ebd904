-- What an error with a position says of a text.
use Rattle.std.specs.Prelude.{◌≡◌, ℕ, List}
use Rattle.implib.specs.declared.error.Error.{Error}
use Rattle.implib.specs.declared.error.Error.TheVariants as error
use Rattle.implib.specs.declared.error.ParseError.{ParseError}
use Rattle.implib.specs.declared.error.ParseError.TheVariants.{Invalid, OutOfMemory}
use Rattle.implib.specs.Fault.{cause_of}
use Rattle.implib.specs.Text.Parses.{RefusesAt}
use Rattle.implib.specs.Text.Position.{position_at}

-- A fault is the cause for which the text is refused, and its position is that of the token that
-- the refusal names. Nothing is said where an allocation failed.
abbrev pub IsRefusedAt : List ℕ → ParseError → Type 0
IsRefusedAt text (Invalid fault position) =
    RefusesAt text (cause_of fault) position.offset × (position ≡ position_at text position.offset)
IsRefusedAt text (OutOfMemory refused) = Unit {0}

-- the error without its position
abbrev pub without_position : ParseError → Error
without_position (Invalid fault position) = error.Invalid fault
without_position (OutOfMemory refused) = error.OutOfMemory refused
