-- A text has one list of tokens.
use Rattle.std.proofs.Common.{◌≡◌, ◌≢◌, ℕ, ◌+◌, ◌-◌, if◌then◌else◌, List, [], ◌∷◌, ◌++◌, true, false, length, refl, sym, ap, subst, ◌∙◌, arith}
use Rattle.std.proofs.lemmas.List.{append_cancel_left}
use Rattle.std.specs.List.{AllByRecursion}
use Rattle.std.specs.Str.{IsUtf8, bytes_eq, trim, trim_end}
use Rattle.implib.specs.declared.def.lexer.TokenKind.{TokenKind}
use Rattle.implib.specs.declared.def.lexer.TokenKind.TheVariants as kind
use Rattle.implib.specs.Text.Token.{IsKnown, DividesOnce, LexedOnce, text_of, TokenView, Lexed, EndsInEof, Lexeme, Blank, Comment, LastComment, EqualSign, EqualSigns, CommaSign, Quoted, Unclosed, Word, lexeme_text, kind_in, kind_of_word, tokens_of_lexeme, tokens_of, value_start}
use Rattle.implib.specs.Views.Scanner.{lexemes_in, tokens_left}
use Rattle.implib.proofs.Text.Trivia.{AllByRecursion-append}
use Rattle.implib.proofs.Text.Scanner.{division, Divides-lexemes_in}

-- no row of the table has this kind
LacksKind : TokenKind → List (List ℕ × TokenKind) → Type 0
LacksKind k [] = Unit {0}
LacksKind k (row ∷ rows) = (row.1 ≢ k) × LacksKind k rows

kind_in_differs : (k : TokenKind) (rows : List (List ℕ × TokenKind)) (word : List ℕ) → kind.Identifier ≢ k → LacksKind k rows → kind_in rows word ≢ k
unfolding LacksKind
kind_in_differs k [] word none lacks = none
kind_in_differs k (row ∷ rows) word none lacks =
    elim (bytes_eq word row.0) as (λ t. (if t then row.1 else kind_in rows word) ≢ k) [
      | true ↦ lacks.0
      | false ↦ kind_in_differs k rows word none lacks.1
    ]

-- no word is Eof
pub kind_of_word_not_eof : (word : List ℕ) → kind_of_word word ≢ kind.Eof
unfolding kind_of_word LacksKind
kind_of_word_not_eof word = grind (arith, kind_in_differs)

-- nor Unknown
kind_of_word_known : (word : List ℕ) → kind_of_word word ≢ kind.Unknown
unfolding kind_of_word LacksKind
kind_of_word_known word = grind (arith, kind_in_differs)

-- one more token in front
EndsInEof-cons : (k : TokenKind) (value : List ℕ) (at : ℕ) (rest : List TokenView) → k ≢ kind.Eof → EndsInEof rest → EndsInEof (record { kind = k; value = value; at = at } ∷ rest)
EndsInEof-cons k value at [] differs ends = absurd ends
EndsInEof-cons k value at (next ∷ rest) differs ends = (differs, ends)

EndsInEof-lexeme : (position : ℕ) (lexeme : Lexeme) (rest : List TokenView) → EndsInEof rest → EndsInEof (tokens_of_lexeme position lexeme ++ rest)
EndsInEof-lexeme position (Blank c) rest ends = ends
EndsInEof-lexeme position (Comment line) rest ends = ends
EndsInEof-lexeme position (LastComment line) rest ends = ends
EndsInEof-lexeme position EqualSign rest ends = EndsInEof-cons kind.Equal (61 ∷ []) position rest (λ e. cc) ends
EndsInEof-lexeme position EqualSigns rest ends = EndsInEof-cons kind.EqualEqual (61 ∷ 61 ∷ []) position rest (λ e. cc) ends
EndsInEof-lexeme position CommaSign rest ends = EndsInEof-cons kind.Comma (44 ∷ []) position rest (λ e. cc) ends
EndsInEof-lexeme position (Quoted inside) rest ends = EndsInEof-cons kind.Identifier (trim inside) (position + 1 + value_start inside) rest (λ e. cc) ends
EndsInEof-lexeme position (Unclosed inside) rest ends = EndsInEof-cons kind.Identifier [] (position + 1) rest (λ e. cc) ends
EndsInEof-lexeme position (Word run) rest ends = EndsInEof-cons (kind_of_word (trim_end run)) (trim_end run) position rest (kind_of_word_not_eof (trim_end run)) ends

EndsInEof-tokens_of : (position : ℕ) (lexemes : List Lexeme) → EndsInEof (tokens_of position lexemes)
EndsInEof-tokens_of position [] = refl
EndsInEof-tokens_of position (lexeme ∷ lexemes) = grind (arith, EndsInEof-tokens_of (position + length (lexeme_text lexeme)) lexemes, EndsInEof-lexeme)

-- Eof comes once, last
pub EndsInEof-from_Lexed : (text : List ℕ) (tokens : List TokenView) → Lexed text tokens → EndsInEof tokens
EndsInEof-from_Lexed text tokens lexed = subst EndsInEof (sym lexed.given) (EndsInEof-tokens_of 0 lexed.lexemes)

-- the tokens of a text are those of the lexemes that the witness finds
Lexed-tokens : (text : List ℕ) (tokens : List TokenView) → IsUtf8 text → Lexed text tokens → tokens ≡ tokens_of 0 (lexemes_in text)
Lexed-tokens text tokens utf8 lexed = grind (arith, Divides-lexemes_in)

-- a text has at most one list of tokens
pub Lexed-unique : (text : List ℕ) (a b : List TokenView) → IsUtf8 text → Lexed text a → Lexed text b → a ≡ b
Lexed-unique text a b utf8 first second = Lexed-tokens text a utf8 first ∙ sym (Lexed-tokens text b utf8 second)

-- a text has a list of tokens
pub Lexed-exists : (text : List ℕ) → IsUtf8 text → Lexed text (tokens_of 0 (lexemes_in text))
Lexed-exists text utf8 =
    let d = division text utf8 in
    record {
      lexemes = d.lexemes;
      end = d.end;
      divides = d.divides;
      given = ap (tokens_of 0) (Divides-lexemes_in text d.lexemes d.end utf8 d.divides);
    }

-- a new lexer has all of them to give
pub Lexed-tokens_left : (text : List ℕ) → IsUtf8 text → Lexed text (tokens_left text text false)
unfolding tokens_left
Lexed-tokens_left text utf8 =
    let none : length text - length text ≡ 0 = omega arith in
    subst (λ n. Lexed text (tokens_of n (lexemes_in text))) (sym none) (Lexed-exists text utf8)

-- lexemes determine the end after them
same_end : (lexemes : List Lexeme) (a b : List ℕ) → text_of lexemes a ≡ text_of lexemes b → a ≡ b
same_end [] a b e = e
same_end (lexeme ∷ lexemes) a b e = same_end lexemes a b (append_cancel_left (lexeme_text lexeme) (text_of lexemes a) (text_of lexemes b) e)

-- a text divides in one way
pub DividesOnce-of_text : (text : List ℕ) → IsUtf8 text → DividesOnce text
DividesOnce-of_text text utf8 =
    let d = division text utf8 in
    record {
      lexemes = d.lexemes;
      end = d.end;
      divides = d.divides;
      only = λ others rest other.
          let same : others ≡ d.lexemes = sym (Divides-lexemes_in text others rest utf8 other) ∙ Divides-lexemes_in text d.lexemes d.end utf8 d.divides in
          (same, same_end d.lexemes rest d.end (ap (λ l. text_of l rest) (sym same) ∙ sym other.text_is ∙ d.divides.text_is));
    }

-- a text has one list of tokens
pub LexedOnce-of_text : (text : List ℕ) → IsUtf8 text → LexedOnce text
LexedOnce-of_text text utf8 = record {
  tokens = tokens_of 0 (lexemes_in text);
  lexed = Lexed-exists text utf8;
  only = λ others lexed. Lexed-unique text others (tokens_of 0 (lexemes_in text)) utf8 lexed (Lexed-exists text utf8);
}

lexeme_known : (position : ℕ) (lexeme : Lexeme) → AllByRecursion IsKnown (tokens_of_lexeme position lexeme)
lexeme_known position (Blank c) = tt
lexeme_known position (Comment line) = tt
lexeme_known position (LastComment line) = tt
lexeme_known position EqualSign = (λ e. cc, tt)
lexeme_known position EqualSigns = (λ e. cc, tt)
lexeme_known position CommaSign = (λ e. cc, tt)
lexeme_known position (Quoted inside) = (λ e. cc, tt)
lexeme_known position (Unclosed inside) = (λ e. cc, tt)
lexeme_known position (Word run) = (kind_of_word_known (trim_end run), tt)

lexemes_known : (position : ℕ) (lexemes : List Lexeme) → AllByRecursion IsKnown (tokens_of position lexemes)
lexemes_known position [] = (λ e. cc, tt)
lexemes_known position (lexeme ∷ lexemes) = grind (arith, lexemes_known (position + length (lexeme_text lexeme)) lexemes, AllByRecursion-append, lexeme_known)

-- no token is Unknown
pub Lexed-known : (text : List ℕ) (tokens : List TokenView) → Lexed text tokens → AllByRecursion IsKnown tokens
Lexed-known text tokens lexed = subst (AllByRecursion IsKnown) (sym lexed.given) (lexemes_known 0 lexed.lexemes)
