-- What the parser answers is what the tokens mean, or why they are refused.
use Rattle.std.proofs.Common.{arith, ◌≡◌, ℕ, List, [], Ok}
use Rattle.implib.specs.declared.def.parser.read_error.ReadError.{ReadError}
use Rattle.implib.specs.declared.def.parser.read_error.ReadError.TheVariants.{Refused, OutOfMemory}
use Rattle.implib.specs.declared.machine.MachineType.{MachineType}
use Rattle.implib.specs.Definition.{DefinitionView, empty_definition}
use Rattle.implib.specs.Fault.{OfCause, cause_of}
use Rattle.implib.specs.Text.Parser.{HasHeardFrom, ParsesFrom, RefusesFrom, Source}
use Rattle.implib.specs.Text.Heard.{Heard, IsHeard}
use Rattle.implib.specs.Views.Hearing.{HearsMore, statements_heard}
use Rattle.implib.specs.Views.Parser.{Fails, OfRefusal, RefusesFromAt, all_put, error_of, refusal_at}
use Rattle.implib.specs.Views.TokenReader.{read, statements_read, with_statement}
use Rattle.implib.specs.Text.Token.{Lexed, TokenView}
use Rattle.implib.proofs.Text.ParserSteps.{definition_read, definition_refused}
use Rattle.implib.proofs.Text.Heard.{statements_heard-is}
use Rattle.implib.proofs.Text.TerminalsOfStatements.{sentence-read}
use Rattle.implib.proofs.Text.Token.{EndsInEof-from_Lexed}
use Rattle.implib.proofs.Text.TokenReader.{Parses-from_read, Refuses-from_At, RefusesAt-from_read, read-derived}

pub answer_parses : (machine : MachineType) (tokens rest : List TokenView) (d : DefinitionView) → all_put (with_statement machine) empty_definition (statements_read tokens) ≡ Ok (d, rest)
    → ParsesFrom (record { tokens = tokens; machine = machine }) d
answer_parses machine tokens rest d h text lexed = Parses-from_read text tokens machine d lexed (definition_read machine tokens d rest h)

pub answer_refused : (machine : MachineType) (tokens : List TokenView) (error : ReadError) → Fails error (all_put (with_statement machine) empty_definition (statements_read tokens))
    → OfRefusal (RefusesFromAt (record { tokens = tokens; machine = machine })) error
answer_refused machine tokens (Refused fault at) h = λ text lexed. RefusesAt-from_read text tokens machine (refusal_at fault at) lexed (definition_refused machine tokens (refusal_at fault at) h)
answer_refused machine tokens (OutOfMemory refused) h = tt

-- a parser's error without its offset
pub answer_invalid : (source : Source) (error : ReadError) → OfRefusal (RefusesFromAt source) error → OfCause (RefusesFrom source) (error_of error)
answer_invalid source (Refused fault at) h = λ text lexed. Refuses-from_At text (cause_of fault) at (h text lexed)
answer_invalid source (OutOfMemory refused) h = tt

-- what is heard of the statements of tokens is heard of each text with these
pub heard-from_read : (text : List ℕ) (tokens : List TokenView) (machine : MachineType) (d : DefinitionView) → Lexed text tokens → read machine tokens ≡ Ok d → IsHeard text (statements_heard tokens)
heard-from_read text tokens machine d lexed e =
    let s = read-derived machine tokens d (EndsInEof-from_Lexed text tokens lexed) e in
    let read = sentence-read tokens s.statements s.sentence in
    record { tokens = tokens; statements = s.statements; lexed = lexed; sentence = s.sentence; is = statements_heard-is tokens s.statements read.0 read.1 }

pub answer_heard : (machine : MachineType) (tokens rest : List TokenView) (d : DefinitionView) (before after : List Heard → Type 0) → all_put (with_statement machine) empty_definition (statements_read tokens) ≡ Ok (d, rest)
    → HearsMore before after (statements_heard tokens) → before [] → HasHeardFrom (record { tokens = tokens; machine = machine }) after
answer_heard machine tokens rest d before after h hears nothing text lexed = grind (arith, heard-from_read, definition_read)
