-- What a text is, statements or broken, it is in one way.
use Rattle.std.proofs.Common.{arith, ◌≡◌, ◌⊎◌, inl, inr, ℕ, List, Result, Ok, Err, refl, sym, ap, subst, ◌∙◌}
use Rattle.std.specs.Str.{IsUtf8}
use Rattle.implib.specs.declared.machine.MachineType.{MachineType}
use Rattle.implib.specs.declared.machine.MachineType.TheVariants.{AMD64}
use Rattle.implib.specs.Definition.{DefinitionView, empty_definition}
use Rattle.implib.specs.Fault.{Cause}
use Rattle.implib.specs.Text.Grammar.{Statement, Sentence, IsSentence}
use Rattle.implib.specs.Text.Meaning.{meaning}
use Rattle.implib.specs.Text.Parses.{Parses, Refuses, RefusesAt, InGrammar, IsIllFormed}
use Rattle.implib.specs.Views.TokenReader.{◌>>=◌, Refusal, refusal_of, statements_read, with_statements, definition_from, read}
use Rattle.implib.specs.Text.SyntaxError.{IsSyntaxError, IsSyntaxErrorAt, HasSyntaxError, unexpected_token}
use Rattle.implib.specs.Text.Token.{EndsInEof, Lexed, TokenView}
use Rattle.implib.proofs.Text.TokenReader.{Parses-from_read, Refuses-from_read, read-derived, read-refused}
use Rattle.implib.proofs.Text.TerminalsOfStatements.{sentence-read, broken-refused}
use Rattle.implib.proofs.Text.Token.{LexedOnce-of_text, Lexed-unique}

-- ---- of tokens

abbrev given : List Statement × List TokenView → Result (List Statement × List TokenView) Refusal
given p = Ok p

same_list : (r : Result (List Statement × List TokenView) Refusal) (a b : List Statement) (x y : List TokenView) → r ≡ Ok (a, x) → r ≡ Ok (b, y) → a ≡ b
same_list r a b x y e f = grind arith

same_refusal : (r : Result (List Statement × List TokenView) Refusal) (a b : Refusal) → r ≡ Err a → r ≡ Err b → a ≡ b
same_refusal r a b e f = cc

not_both : (r : Result (List Statement × List TokenView) Refusal) (p : List Statement × List TokenView) (refusal : Refusal) → r ≡ Ok p → r ≡ Err refusal → ⊥
not_both r p refusal e f = cc

pub one_list : (tokens : List TokenView) (statements others : List Statement) → Sentence tokens statements → Sentence tokens others → statements ≡ others
one_list tokens statements others first second = grind (arith, sentence-read, same_list)

pub never_both_of : (tokens others : List TokenView) (statements : List Statement) (cause : Cause) → tokens ≡ others → Sentence tokens statements → IsSyntaxError others cause → ⊥
never_both_of tokens others statements cause same sentence broken =
    let a = sentence-read tokens statements sentence in
    not_both (statements_read others) (statements, a.0) (refusal_of cause (unexpected_token broken)) (ap statements_read (sym same) ∙ a.1) (broken-refused others cause broken)

-- two syntax errors of the same tokens are the same refusal
one_refusal_of : (tokens others : List TokenView) (cause other : Cause) → tokens ≡ others → (first : IsSyntaxError tokens cause) (second : IsSyntaxError others other) → refusal_of cause (unexpected_token first) ≡ refusal_of other (unexpected_token second)
one_refusal_of tokens others cause other same first second = grind (arith, same_refusal, broken-refused)

pub one_cause_of : (tokens : List TokenView) (cause other : Cause) → IsSyntaxError tokens cause → IsSyntaxError tokens other → cause ≡ other
one_cause_of tokens cause other first second =
    ap (λ (r : Refusal). r.cause) (one_refusal_of tokens tokens cause other refl first second)

either_read : (tokens : List TokenView) → EndsInEof tokens → (r : Result DefinitionView Refusal) → read AMD64 tokens ≡ r → IsSentence tokens ⊎ HasSyntaxError tokens
either_read tokens ends (Ok d) e = let s = read-derived AMD64 tokens d ends e in inl (s.statements, s.sentence)
either_read tokens ends (Err refusal) e = inr (refusal.cause, (read-refused AMD64 tokens refusal ends e).error)

pub either_of : (tokens : List TokenView) → EndsInEof tokens → IsSentence tokens ⊎ HasSyntaxError tokens
either_of tokens ends = either_read tokens ends (read AMD64 tokens) refl

-- ---- of texts

either_by : (text : List ℕ) (tokens : List TokenView) (r : Result (List Statement × List TokenView) Refusal) → Lexed text tokens → statements_read tokens ≡ r → InGrammar text ⊎ IsIllFormed text
unfolding read
either_by text tokens (Ok found) lexed e =
    inl (λ machine. (
      with_statements machine empty_definition found.0,
      Parses-from_read text tokens machine (with_statements machine empty_definition found.0) lexed
          (ap (λ (r : Result (List Statement × List TokenView) Refusal). r >>= definition_from machine) e),
    ))
either_by text tokens (Err refusal) lexed e =
    inr (refusal.cause, Refuses-from_read text tokens AMD64 refusal lexed (ap (λ (r : Result (List Statement × List TokenView) Refusal). r >>= definition_from AMD64) e))

pub either : (text : List ℕ) → IsUtf8 text → InGrammar text ⊎ IsIllFormed text
either text utf8 =
    let once = LexedOnce-of_text text utf8 in either_by text once.tokens (statements_read once.tokens) once.lexed refl

pub never_both : (text : List ℕ) → IsUtf8 text → (machine : MachineType) (definition : DefinitionView) (cause : Cause) → Parses text machine definition → ¬ (Refuses text cause)
never_both text utf8 machine definition cause parses refuses =
    never_both_of parses.tokens refuses.tokens parses.statements cause (Lexed-unique text parses.tokens refuses.tokens utf8 parses.lexed refuses.lexed) parses.sentence refuses.broken

pub one_definition : (text : List ℕ) → IsUtf8 text → (machine : MachineType) (definition other : DefinitionView) → Parses text machine definition → Parses text machine other → definition ≡ other
one_definition text utf8 machine definition other first second =
    let same = Lexed-unique text second.tokens first.tokens utf8 second.lexed first.lexed in
    let sentence : Sentence first.tokens second.statements = subst (λ (s : List TokenView). Sentence s second.statements) same second.sentence in
    let statements = one_list first.tokens first.statements second.statements first.sentence sentence in
    sym first.means ∙ ap (meaning machine) statements ∙ second.means

pub one_cause : (text : List ℕ) → IsUtf8 text → (cause other : Cause) → Refuses text cause → Refuses text other → cause ≡ other
one_cause text utf8 cause other first second =
    let same = Lexed-unique text first.tokens second.tokens utf8 first.lexed second.lexed in
    ap (λ (r : Refusal). r.cause) (one_refusal_of first.tokens second.tokens cause other same first.broken second.broken)

-- ---- the token of a refusal

pub one_offset_of : (tokens others : List TokenView) (cause other : Cause) (offset at : ℕ) → tokens ≡ others → IsSyntaxErrorAt tokens cause offset → IsSyntaxErrorAt others other at → offset ≡ at
one_offset_of tokens others cause other offset at same first second = grind (arith, one_refusal_of)

pub one_offset : (text : List ℕ) → IsUtf8 text → (cause other : Cause) (offset at : ℕ) → RefusesAt text cause offset → RefusesAt text other at → offset ≡ at
one_offset text utf8 cause other offset at first second =
    let same = Lexed-unique text first.tokens second.tokens utf8 first.lexed second.lexed in
    one_offset_of first.tokens second.tokens cause other offset at same first.broken second.broken

-- a refused text is refused at a token
pub refused_somewhere : (text : List ℕ) (cause : Cause) → Refuses text cause → (offset : ℕ) × RefusesAt text cause offset
refused_somewhere text cause h =
    ((unexpected_token h.broken).at, record { tokens = h.tokens; lexed = h.lexed; broken = record { error = h.broken; token_is_at = refl } })
