-- What `implib_definition` answers.
use Rattle.std.specs.Prelude.{◌≡◌, ℕ, List, None, Some}
use Rattle.std.specs.Option.{IsSome}
use Rattle.std.specs.Str.{IsUtf8}
use Rattle.std.specs.Str.Lossy.{utf8_valid_len}
use Rattle.implib.specs.declared.machine.MachineType.{MachineType}
use Rattle.implib.specs.Conversions.{machine_numbered}
use Rattle.implib.specs.Definition.{DefinitionView}
use Rattle.implib.specs.Fault.{cause_of}
use Rattle.implib.specs.Text.Parses.{Parses, RefusesAt}
use Rattle.implib_c_calls.specs.declared.outcome.Failure.{Failure}
use Rattle.implib_c_calls.specs.declared.outcome.Failure.TheVariants.{NotUtf8, OutOfMemory}
use Rattle.implib_c_calls.specs.declared.outcome.Failure.TheVariants.{SyntaxError}
use Rattle.implib_c_calls.specs.declared.outcome.Failure.TheVariants.{UnknownMachine}
use Rattle.implib_c_calls.specs.Definition.{StatedDefinition, definition_in, encoded_definition}
use Rattle.implib_c_calls.specs.Definition.{stated}
use Rattle.implib_c_calls.specs.Given.{Encodes, Leaves}

-- the number is that of a machine, the text is UTF-8, and with the machine this holds
pub record WithMachine (text : List ℕ) (machine : ℕ) (P : MachineType → Type 0) : Type 0 where
  pub found : MachineType
  pub machine_is : machine_numbered machine ≡ Some found
  pub utf8 : IsUtf8 text
  pub holds : P found

-- the text states this on a machine
pub record States (text : List ℕ) (machine : MachineType) (said : StatedDefinition) : Type 0 where
  pub definition : DefinitionView
  pub parses : Parses text machine definition
  pub is : said ≡ stated definition

-- there is no definition: the first of these, or memory was refused. A text that is not UTF-8 is
-- that up to an offset, and a syntax error is at the offset of a token.
abbrev pub LacksDefinition : List ℕ → ℕ → Failure → Type 0
LacksDefinition text machine UnknownMachine = machine_numbered machine ≡ None
LacksDefinition text machine (NotUtf8 offset) =
    IsSome (machine_numbered machine) × ¬ (IsUtf8 text) × (offset ≡ utf8_valid_len text)
LacksDefinition text machine (SyntaxError fault offset) =
    WithMachine text machine (λ m. RefusesAt text (cause_of fault) offset)
LacksDefinition text machine OutOfMemory = WithMachine text machine (λ m. Unit {0})
LacksDefinition text machine _ = ⊥

-- what a call leaves: the encoding of what the text states, or why there is none
abbrev pub DefinitionAnswers : List ℕ → ℕ → List ℕ → List ℕ → ℕ → ℕ → ℕ → Type 0
DefinitionAnswers text machine =
    Leaves
    (Encodes encoded_definition definition_in
    (λ said. WithMachine text machine (λ m. States text m said)))
    (LacksDefinition text machine)

-- View: the text means this definition on the machine of the number.
abbrev pub HasDefinition : List ℕ → ℕ → DefinitionView → Type 0
HasDefinition text machine definition = WithMachine text machine (λ m. Parses text m definition)
