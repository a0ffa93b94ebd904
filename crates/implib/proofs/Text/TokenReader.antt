-- What the readers give is what the grammar says.
use Rattle.std.proofs.Common.{arith, ◌≡◌, inl, inr, List, [], ◌∷◌, ℕ, Result, Ok, Err, subst, sym}
use Rattle.std.specs.Result.{MatchResult}
use Rattle.implib.specs.declared.def.lexer.TokenKind.TheVariants.{Eof}
use Rattle.implib.specs.declared.machine.MachineType.{MachineType}
use Rattle.implib.specs.Definition.{DefinitionView}
use Rattle.implib.specs.Fault.{Cause}
use Rattle.implib.specs.Text.Grammar.{Statement, Of, Sentence, StartsWith, terminals}
use Rattle.implib.specs.Text.Meaning.{meaning}
use Rattle.implib.specs.Text.Parses.{Parses, Refuses, RefusesAt}
use Rattle.implib.specs.Views.TokenReader.{◌>>=◌, Refusal, statements_read, definition_from, read}
use Rattle.implib.specs.Text.SyntaxError.{IsSyntaxErrorAt, partial_terminals, IsUnexpectedAfter}
use Rattle.implib.specs.Text.Token.{Lexed, TokenView, EndsInEof}
use Rattle.implib.proofs.Text.StartsWith.{StartsWith-append, StartsWith-ends, EndsInEof-last, EndsInEof-some, AtFront}
use Rattle.implib.proofs.Text.Many.{Chain}
use Rattle.implib.proofs.Text.Meaning.{with_statements-meaning}
use Rattle.implib.proofs.Text.ReadStatements.{StatementLocated, NoStatement, BeginsNone, StartedCut, StatementCut, StatementsRead, StatementsCut, statements_outcome, statements_begin, statements_end}
use Rattle.implib.proofs.Text.Token.{EndsInEof-from_Lexed}
use Rattle.implib.proofs.Text.Statements.{statements_want_no_end, started_wants_no_end}

-- the statements of a token list, and what they mean
pub record Derived (machine : MachineType) (tokens : List TokenView) (d : DefinitionView) : Type 0 where
  pub statements : List Statement
  pub sentence : Sentence tokens statements
  pub means : meaning machine statements ≡ d

-- the end of the text is all that is left
only_eof : (rest : List TokenView) → EndsInEof rest → NoStatement rest → StartsWith rest (Of Eof ∷ []) []
only_eof [] ends none = grind (arith, EndsInEof-some)
only_eof (t ∷ rest) ends none = (none, EndsInEof-last t rest none ends)

ends_after : (tokens rest : List TokenView) (statements : List Statement) → EndsInEof tokens → StartsWith tokens (terminals statements) rest → EndsInEof rest
ends_after tokens rest statements ends h = StartsWith-ends tokens (terminals statements) rest (statements_want_no_end statements) h ends

derived_from : (machine : MachineType) (tokens : List TokenView) (d : DefinitionView) → EndsInEof tokens → (r : Result (List Statement × List TokenView) Refusal) → MatchResult r (StatementsRead tokens) (StatementsCut tokens)
    → (r >>= definition_from machine) ≡ Ok d → Derived machine tokens d
derived_from machine tokens d ends (Ok found) h e =
    let begins = statements_begin found.0 tokens found.1 h.0 in
    let gathered = with_statements-meaning machine found.0 in
    record {
      statements = found.0;
      sentence = StartsWith-append tokens (terminals found.0) (Of Eof ∷ []) found.1 [] begins (only_eof found.1 (ends_after tokens found.1 found.0 ends begins) h.1);
      means = cc;
    }
derived_from machine tokens d ends (Err refusal) h e = absurd cc

-- what is read is derived so
pub read-derived : (machine : MachineType) (tokens : List TokenView) (d : DefinitionView) → EndsInEof tokens → read machine tokens ≡ Ok d → Derived machine tokens d
unfolding read
read-derived machine tokens d ends e = derived_from machine tokens d ends (statements_read tokens) (statements_outcome tokens) e

broken_started : (tokens mid : List TokenView) (refusal : Refusal) (statements : List Statement) → EndsInEof tokens → StartsWith tokens (terminals statements) mid → StartedCut mid refusal → IsSyntaxErrorAt tokens refusal.cause refusal.at
broken_started tokens mid refusal statements ends begins c =
    let last = StartsWith-ends mid (partial_terminals c.partial) c.mid (started_wants_no_end c.partial) c.begins (ends_after tokens mid statements ends begins) in
    let some = EndsInEof-some c.mid last in
    let front : AtFront (IsUnexpectedAfter c.partial) (some.0 ∷ some.1) refusal = subst (λ (s : List TokenView). AtFront (IsUnexpectedAfter c.partial) s refusal) some.2 c.refused in
    record {
      error = inr (record {
        statements = statements;
        partial = c.partial;
        token = some.0;
        rest = some.1;
        begins = StartsWith-append tokens (terminals statements) (partial_terminals c.partial) mid (some.0 ∷ some.1) begins (subst (StartsWith mid (partial_terminals c.partial)) some.2 c.begins);
        refused = front.0;
      });
      token_is_at = sym front.1;
    }

broken_unknown : (tokens mid : List TokenView) (refusal : Refusal) (statements : List Statement) → EndsInEof tokens → Chain StatementLocated NoStatement statements tokens mid → AtFront BeginsNone mid refusal → IsSyntaxErrorAt tokens refusal.cause refusal.at
broken_unknown tokens [] refusal statements ends chain h =
    let some = EndsInEof-some [] (ends_after tokens [] statements ends (statements_begin statements tokens [] chain)) in absurd cc
broken_unknown tokens (t ∷ rest) refusal statements ends chain h = record {
  error = inl (record {
    statements = statements;
    token = t;
    rest = rest;
    begins = statements_begin statements tokens (t ∷ rest) chain;
    not_end = h.0.not_end;
    no_directive = h.0.no_directive;
    not_in_follow = statements_end statements tokens (t ∷ rest) chain;
    reported = h.0.reported;
  });
  token_is_at = sym h.1;
}

broken_from : (tokens mid : List TokenView) (refusal : Refusal) (statements : List Statement) → EndsInEof tokens → Chain StatementLocated NoStatement statements tokens mid → StatementCut mid refusal → IsSyntaxErrorAt tokens refusal.cause refusal.at
broken_from tokens mid refusal statements ends chain (inl h) = broken_unknown tokens mid refusal statements ends chain h
broken_from tokens mid refusal statements ends chain (inr c) = broken_started tokens mid refusal statements ends (statements_begin statements tokens mid chain) c

refused_from : (machine : MachineType) (tokens : List TokenView) (refusal : Refusal) → EndsInEof tokens → (r : Result (List Statement × List TokenView) Refusal) → MatchResult r (StatementsRead tokens) (StatementsCut tokens)
    → (r >>= definition_from machine) ≡ Err refusal → IsSyntaxErrorAt tokens refusal.cause refusal.at
refused_from machine tokens refusal ends (Ok found) h e = absurd cc
refused_from machine tokens refusal ends (Err other) h e =
    let same : other ≡ refusal = cc in
    subst (λ (r : Refusal). IsSyntaxErrorAt tokens r.cause r.at) same (broken_from tokens h.mid other h.items ends h.chain h.refused)

-- what the readers refuse the grammar refuses for that cause, at that token
pub read-refused : (machine : MachineType) (tokens : List TokenView) (refusal : Refusal) → EndsInEof tokens → read machine tokens ≡ Err refusal → IsSyntaxErrorAt tokens refusal.cause refusal.at
unfolding read
read-refused machine tokens refusal ends e = refused_from machine tokens refusal ends (statements_read tokens) (statements_outcome tokens) e

pub Parses-from_read : (text : List ℕ) (tokens : List TokenView) (machine : MachineType) (d : DefinitionView) → Lexed text tokens → read machine tokens ≡ Ok d → Parses text machine d
Parses-from_read text tokens machine d lexed e = grind (arith, read-derived machine tokens d (EndsInEof-from_Lexed text tokens lexed) e, EndsInEof-from_Lexed text tokens lexed)

pub RefusesAt-from_read : (text : List ℕ) (tokens : List TokenView) (machine : MachineType) (refusal : Refusal) → Lexed text tokens → read machine tokens ≡ Err refusal → RefusesAt text refusal.cause refusal.at
RefusesAt-from_read text tokens machine refusal lexed e =
    record { tokens = tokens; lexed = lexed; broken = read-refused machine tokens refusal (EndsInEof-from_Lexed text tokens lexed) e }

pub Refuses-from_At : (text : List ℕ) (cause : Cause) (offset : ℕ) → RefusesAt text cause offset → Refuses text cause
Refuses-from_At text cause offset h = record { tokens = h.tokens; lexed = h.lexed; broken = h.broken.error }

pub Refuses-from_read : (text : List ℕ) (tokens : List TokenView) (machine : MachineType) (refusal : Refusal) → Lexed text tokens → read machine tokens ≡ Err refusal → Refuses text refusal.cause
Refuses-from_read text tokens machine refusal lexed e =
    Refuses-from_At text refusal.cause refusal.at (RefusesAt-from_read text tokens machine refusal lexed e)
