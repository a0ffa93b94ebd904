-- What a text means, and why a text is refused (docs/GRAMMAR.md).
use Rattle.std.specs.Prelude.{◌≡◌, ℕ, List}
use Rattle.implib.specs.declared.machine.MachineType.{MachineType}
use Rattle.implib.specs.Definition.{DefinitionView}
use Rattle.implib.specs.Fault.{Cause}
use Rattle.implib.specs.Text.Grammar.{Sentence, Statement}
use Rattle.implib.specs.Text.Meaning.{meaning}
use Rattle.implib.specs.Text.SyntaxError.{IsSyntaxError, IsSyntaxErrorAt}
use Rattle.implib.specs.Text.Token.{Lexed, TokenView}

-- The text's tokens are statements, which mean this definition on this machine. For example,
-- `HEAPSIZE 1,2` means a definition with 1 byte of heap to reserve and 2 to commit, and nothing
-- else (Worked/Statements).
pub record Parses (text : List ℕ) (machine : MachineType)
    (definition : DefinitionView) : Type 0 where
  pub tokens : List TokenView
  pub statements : List Statement
  pub lexed : Lexed text tokens
  pub sentence : Sentence tokens statements
  pub means : meaning machine statements ≡ definition

-- The text's tokens are no statements, for this cause. For example, `HEAPSIZE 1,` is refused for
-- ExpectedIdentifier with Eof.
pub record Refuses (text : List ℕ) (cause : Cause) : Type 0 where
  pub tokens : List TokenView
  pub lexed : Lexed text tokens
  pub broken : IsSyntaxError tokens cause

-- The same, and this is the offset of the token that the refusal names. For example, `HEAPSIZE 1,`
-- is refused at 11, which is its length.
pub record RefusesAt (text : List ℕ) (cause : Cause) (offset : ℕ) : Type 0 where
  pub tokens : List TokenView
  pub lexed : Lexed text tokens
  pub broken : IsSyntaxErrorAt tokens cause offset

-- on each machine the text means a definition
abbrev pub InGrammar : List ℕ → Type 0
InGrammar text =
    (machine : MachineType) → (definition : DefinitionView) × Parses text machine definition

-- the text is refused, for some cause
abbrev pub IsIllFormed : List ℕ → Type 0
IsIllFormed text = (cause : Cause) × Refuses text cause
