-- A refused token begins within its text.
use Rattle.std.proofs.Common.{ℕ, ◌+◌, ◌-◌, ◌≤◌, ◌==◌, Bool, true, false, inl, inr, List, [], ◌∷◌, ◌++◌, length, subst, sym, arith, if◌then◌else◌, length-append, ap}
use Rattle.std.specs.List.{AllByRecursion}
use Rattle.std.specs.Str.{trim, trim_start}
use Rattle.implib.specs.Fault.{Cause}
use Rattle.implib.specs.Text.Grammar.{Terminal, StartsWith, terminals}
use Rattle.implib.specs.Text.Parses.{RefusesAt}
use Rattle.implib.specs.Text.SyntaxError.{IsSyntaxError, partial_terminals, unexpected_token}
use Rattle.implib.specs.Text.Token.{TokenView, Lexed, Lexeme, Blank, Comment, LastComment, EqualSign, EqualSigns, CommaSign, Quoted, Unclosed, Word, lexeme_text, text_of, tokens_of_lexeme, tokens_of, value_start}
use Rattle.implib.proofs.Text.Trivia.{AllByRecursion-append}

-- the token begins at the latest there
abbrev pub BeginsBy : ℕ → TokenView → Type 0
BeginsBy end token = token.at ≤ end

cut_short : (b : Bool) (n m : ℕ) → (if b then 0 else n - m) ≤ n
cut_short true n m = omega arith
cut_short false n m = omega arith

start_within : (inside : List ℕ) → value_start inside ≤ length inside
start_within inside = cut_short (length (trim inside) == 0) (length inside) (length (trim_start inside))

lexeme_begins : (end offset : ℕ) (lexeme : Lexeme) → offset + length (lexeme_text lexeme) ≤ end → AllByRecursion (BeginsBy end) (tokens_of_lexeme offset lexeme)
lexeme_begins end offset (Blank character) le = tt
lexeme_begins end offset (Comment line) le = tt
lexeme_begins end offset (LastComment line) le = tt
lexeme_begins end offset EqualSign le = (omega (arith, le), tt)
lexeme_begins end offset EqualSigns le = (omega (arith, le), tt)
lexeme_begins end offset CommaSign le = (omega (arith, le), tt)
lexeme_begins end offset (Quoted inside) le = (omega (arith, le, start_within inside, length-append inside (34 ∷ [])), tt)
lexeme_begins end offset (Unclosed inside) le = (omega (arith, le), tt)
lexeme_begins end offset (Word run) le = (omega (arith, le), tt)

lexemes_begin : (end offset : ℕ) (lexemes : List Lexeme) (rest : List ℕ) → offset + length (text_of lexemes rest) ≤ end → AllByRecursion (BeginsBy end) (tokens_of offset lexemes)
lexemes_begin end offset [] rest le = (omega (arith, le), tt)
lexemes_begin end offset (lexeme ∷ lexemes) rest le =
    let sum = length-append (lexeme_text lexeme) (text_of lexemes rest) in
    AllByRecursion-append (BeginsBy end) (tokens_of_lexeme offset lexeme) (tokens_of (offset + length (lexeme_text lexeme)) lexemes)
    (lexeme_begins end offset lexeme (omega (arith, le, sum)))
    (lexemes_begin end (offset + length (lexeme_text lexeme)) lexemes rest (omega (arith, le, sum)))

pub tokens_begin : (text : List ℕ) (tokens : List TokenView) → Lexed text tokens → AllByRecursion (BeginsBy (length text)) tokens
tokens_begin text tokens lexed =
    let same = ap length lexed.divides.text_is in
    subst (AllByRecursion (BeginsBy (length text))) (sym lexed.given) (lexemes_begin (length text) 0 lexed.lexemes lexed.end (omega (arith, same)))

-- what holds of all tokens holds of those that are left
left_all : (P : TokenView → Type 0) (tokens : List TokenView) (front : List Terminal) (rest : List TokenView) → StartsWith tokens front rest → AllByRecursion P tokens → AllByRecursion P rest
left_all P tokens [] rest h all = subst (AllByRecursion P) h all
left_all P [] (first ∷ front) rest h all = absurd h
left_all P (token ∷ tokens) (first ∷ front) rest h all = left_all P tokens front rest h.1 all.1

error_begins : (end : ℕ) (tokens : List TokenView) (cause : Cause) (error : IsSyntaxError tokens cause) → AllByRecursion (BeginsBy end) tokens → (unexpected_token error).at ≤ end
error_begins end tokens cause (inl error) all = (left_all (BeginsBy end) tokens (terminals error.statements) (error.token ∷ error.rest) error.begins all).0
error_begins end tokens cause (inr error) all =
    (left_all (BeginsBy end) tokens (terminals error.statements ++ partial_terminals error.partial) (error.token ∷ error.rest) error.begins all).0

pub refused_within : (text : List ℕ) (cause : Cause) (offset : ℕ) → RefusesAt text cause offset → offset ≤ length text
refused_within text cause offset h =
    subst (λ (n : ℕ). n ≤ length text) h.broken.token_is_at (error_begins (length text) h.tokens cause h.broken.error (tokens_begin text h.tokens h.lexed))
