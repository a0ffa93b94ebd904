-- Views of the parser's state and of what its functions answer. No promise cites them.
use Rattle.std.specs.Prelude.{◌≡◌, ℕ, ◌++◌, Bool, true, false, List, [], ◌∷◌, Option, Some, None}
use Rattle.std.specs.Prelude.{MatchOption, Result, Ok, Err}
use Rattle.std.specs.List.{fold}
use Rattle.std.specs.Borrow.{Bor}
use Rattle.implib.specs.declared.def.lexer.Token.{Token}
use Rattle.implib.specs.declared.def.parser.numbers.AtWord.{AtWord}
use Rattle.implib.specs.declared.def.parser.numbers.AtWord.TheVariants.{Lone, WithOrdinal, Plain}
use Rattle.implib.specs.declared.def.parser.read_error.ReadError.{ReadError}
use Rattle.implib.specs.declared.def.parser.read_error.ReadError.TheVariants.{Refused, OutOfMemory}
use Rattle.implib.specs.declared.error.Error.{Error}
use Rattle.implib.specs.declared.error.Error.TheVariants as error
use Rattle.implib.specs.declared.error.Fault.{Fault}
use Rattle.implib.specs.declared.machine.MachineType.{MachineType}
use Rattle.implib.specs.Definition.{DefinitionView, ExportView}
use Rattle.implib.specs.Fault.{cause_of}
use Rattle.implib.specs.Text.Grammar.{Export, Statement, Nameless, Named}
use Rattle.implib.specs.Text.Parser.{Source}
use Rattle.implib.specs.Text.Parses.{RefusesAt}
use Rattle.implib.specs.Views.TokenReader as reading
use Rattle.implib.specs.Views.TokenReader.{◌>>=◌, Reader, Refusal, made_export, with_settings}
use Rattle.implib.specs.Text.Token.{Lexed, TokenView, token_view}

-- the tokens to come: the one that was looked at, if any, and those of the lexer
abbrev pub ahead : Option Token → List TokenView → List TokenView
ahead None tokens = tokens
ahead (Some token) tokens = token_view token ∷ tokens

-- the first token is the one that was given, and the others are left
abbrev pub TakesFirst : List TokenView → Option Token → List TokenView → Type 0
TakesFirst before given after =
    MatchOption given ((before ≡ []) × (after ≡ [])) (λ token. before ≡ token_view token ∷ after)

-- the first token is the one that was given
abbrev pub ShowsFirst : List TokenView → Option Token → Type 0
ShowsFirst tokens given =
    MatchOption given (tokens ≡ [])
    (λ token. (rest : List TokenView) × (tokens ≡ token_view token ∷ rest))

-- the refusal of a fault and the offset of its token
abbrev pub refusal_at : Fault → ℕ → Refusal
refusal_at fault at = record { cause = cause_of fault; at = at }

-- an error is the refusal that a reader gives, unless memory ran out
abbrev pub Fails : {Y : Type 0} → ReadError → Result Y Refusal → Type 0
Fails (Refused fault at) read = read ≡ Err (refusal_at fault at)
Fails (OutOfMemory refused) read = Unit {0}

-- an answer, seen by view, is what a reader gives, unless memory ran out
abbrev pub Gives : {X Y : Type 0} → (X → Y) → Result X ReadError → Result Y Refusal → Type 0
Gives view (Ok x) read = read ≡ Ok (view x)
Gives view (Err e) read = Fails e read

-- an item that was read is put to what is there, and reported; or there was none
abbrev pub put : {A S : Type 0} → (S → A → S) → S → Option A × List TokenView →
    Result (Bool × S × List TokenView) Refusal
put apply state (None, rest) = Ok (false, state, rest)
put apply state (Some item, rest) = Ok (true, apply state item, rest)

-- all items that were read are put to what is there
abbrev pub put_all : {A S : Type 0} → (S → A → S) → S → List A × List TokenView →
    Result (S × List TokenView) Refusal
put_all apply state items = Ok (fold apply state items.0, items.1)

-- the same, of what a reader of one item gives
abbrev pub one_put : {A S : Type 0} → (S → A → S) → S → Reader (Option A) →
    Result (Bool × S × List TokenView) Refusal
one_put apply state read = read >>= put apply state

-- the same, of what a reader of all items gives
abbrev pub all_put : {A S : Type 0} → (S → A → S) → S → Reader (List A) →
    Result (S × List TokenView) Refusal
all_put apply state read = read >>= put_all apply state

-- a statement that was read sets what it sets
abbrev pub put_settings : DefinitionView → Statement × List TokenView →
    Result (DefinitionView × List TokenView) Refusal
put_settings d s = Ok (with_settings d s.0, s.1)

-- the same, of what a reader of a statement gives
abbrev pub settings_put : DefinitionView → Reader Statement →
    Result (DefinitionView × List TokenView) Refusal
settings_put d read = read >>= put_settings d

-- one more export of the machine
abbrev pub with_export : MachineType → List ExportView → Export → List ExportView
with_export machine exports e = exports ++ made_export machine e ∷ []

-- what a word is
abbrev pub at_word_view : AtWord → reading.AtWord
at_word_view Lone = reading.Lone
at_word_view (WithOrdinal n) = reading.WithOrdinal n
at_word_view Plain = reading.Plain

-- the value of a word, if there is one
abbrev pub value_of : Option (Bor (List ℕ)) → Option (List ℕ)
value_of None = None
value_of (Some word) = Some word.now

-- the statement that a name and its base make
abbrev pub named : Option (Bor (List ℕ) × Option ℕ) → Statement
named None = Nameless
named (Some name) = Named (name.0).now name.1

-- the error without its offset
abbrev pub error_of : ReadError → Error
error_of (Refused fault at) = error.Invalid fault
error_of (OutOfMemory refused) = error.OutOfMemory refused

-- where the error is a refusal, this holds of it
abbrev pub OfRefusal : (Refusal → Type 0) → ReadError → Type 0
OfRefusal P (Refused fault at) = P (refusal_at fault at)
OfRefusal P (OutOfMemory refused) = Unit {0}

-- the text with these tokens is refused for this cause, at a token with this offset
abbrev pub RefusesFromAt : Source → Refusal → Type 0
RefusesFromAt source refusal =
    (text : List ℕ) → Lexed text source.tokens → RefusesAt text refusal.cause refusal.at
