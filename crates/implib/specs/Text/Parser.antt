-- What a parser is for its callers, and what it promises of its text.
use Rattle.std.specs.Prelude.{ℕ, List}
use Rattle.implib.specs.declared.machine.MachineType.{MachineType}
use Rattle.implib.specs.Definition.{DefinitionView}
use Rattle.implib.specs.Fault.{Cause}
use Rattle.implib.specs.Text.Heard.{HasHeardText, Heard}
use Rattle.implib.specs.Text.Parses.{Parses, Refuses}
use Rattle.implib.specs.Text.Token.{Lexed, TokenView}

-- the tokens of a text, and the machine that they are read for
pub record Source : Type 0 where
  pub tokens : List TokenView
  pub machine : MachineType

-- the text with these tokens means this definition on this machine
abbrev pub ParsesFrom : Source → DefinitionView → Type 0
ParsesFrom source definition =
    (text : List ℕ) → Lexed text source.tokens → Parses text source.machine definition

-- the text with these tokens is refused, for this cause
abbrev pub RefusesFrom : Source → Cause → Type 0
RefusesFrom source cause = (text : List ℕ) → Lexed text source.tokens → Refuses text cause

-- a listener, of whom this holds, has heard the text with these tokens
abbrev pub HasHeardFrom : Source → (List Heard → Type 0) → Type 0
HasHeardFrom source has_heard =
    (text : List ℕ) → Lexed text source.tokens → HasHeardText text has_heard
