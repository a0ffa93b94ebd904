-- The worked positions, by computing.
use Rattle.std.proofs.Common.{arith, ◌≡◌, ℕ, List, true, Err}
use Rattle.std.proofs.lemmas.Str.{IsUtf8-from_is_utf8}
use Rattle.std.specs.Str.{is_utf8}
use Rattle.implib.specs.declared.machine.MachineType.TheVariants.{AMD64}
use Rattle.implib.specs.Fault.{Cause}
use Rattle.implib.specs.Text.Parses.{RefusesAt}
use Rattle.implib.specs.Views.Scanner.{lexemes_in}
use Rattle.implib.specs.Text.Token.{tokens_of}
use Rattle.implib.specs.Views.TokenReader.{Refusal, read}
use Rattle.implib.specs.Worked.Positions.{WorkedLines, WorkedPositions}
use Rattle.implib.proofs.Text.Token.{Lexed-exists}
use Rattle.implib.proofs.Text.TokenReader.{RefusesAt-from_read}
use Rattle.implib.proofs.Worked.Statements.{opened}

pub worked_lines : WorkedLines
worked_lines = grind arith

abbrev refusal_in : Cause → ℕ → Refusal
refusal_in cause at = record { cause = cause; at = at }

refuses_at : (text : List ℕ) (cause : Cause) (offset : ℕ) → is_utf8 text ≡ true → read AMD64 (tokens_of 0 (lexemes_in text)) ≡ Err (refusal_in cause offset) → RefusesAt text cause offset
refuses_at text cause offset utf8 e =
    RefusesAt-from_read text (tokens_of 0 (lexemes_in text)) AMD64 (refusal_in cause offset) (Lexed-exists text (IsUtf8-from_is_utf8 text utf8)) e

pub worked_positions : WorkedPositions
unfolding opened
worked_positions = grind (arith, refuses_at)
