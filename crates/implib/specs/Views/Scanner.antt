-- A view of the lexer's state, and witnesses for proofs; no promise cites this file.
use Rattle.std.specs.Prelude.{◌≡◌, ◌≢◌, ℕ, suc, zero, ◌-◌, ◌<◌, Bool, false, ◌==◌, ◌⊎◌, Option}
use Rattle.std.specs.Prelude.{Some, None, List, [], ◌∷◌, ◌++◌, length, drop, if◌then◌else◌}
use Rattle.std.specs.Prelude.{slice_index}
use Rattle.std.specs.Char.{is_whitespace, is_not_whitespace}
use Rattle.std.specs.List.{AllByRecursion}
use Rattle.std.specs.Str.{chars, EmptyOrStartsWithPassing}
use Rattle.implib.specs.Text.Token.{TokenView, eof, Lexeme, Blank, Comment, LastComment, EqualSign}
use Rattle.implib.specs.Text.Token.{EqualSigns, CommaSign, Quoted, Unclosed, Word, lexeme_text}
use Rattle.implib.specs.Text.Token.{IsLexemeBefore, EachIsLexeme, IsEnd, text_of, tokens_of_lexeme}
use Rattle.implib.specs.Text.Token.{tokens_of, is_line_feed, is_quote, is_delimiter, is_equal_sign}
use Rattle.implib.specs.Ascii.{begins}

-- the byte is `;`
abbrev pub is_semicolon : ℕ → Bool
is_semicolon b = b == 59

-- the longest front without a byte that passes the test, and what follows it
abbrev pub cut_before : (ℕ → Bool) → List ℕ → List ℕ × List ℕ
cut_before test [] = ([], [])
cut_before test (b ∷ rest) =
    if test b then ([], b ∷ rest) else (b ∷ (cut_before test rest).0, (cut_before test rest).1)

-- the comment after its `;`, by what its first line feed cuts
abbrev pub comment_lexeme : List ℕ × List ℕ → Lexeme
comment_lexeme (line, []) = LastComment line
comment_lexeme (line, b ∷ after) = Comment line

-- the quoted name after its first `"`, by what the next one cuts
abbrev pub quoted_lexeme : List ℕ × List ℕ → Lexeme
quoted_lexeme (inside, []) = Unclosed inside
quoted_lexeme (inside, b ∷ after) = Quoted inside

-- one `=` or two
abbrev pub equal_lexeme : List ℕ → Lexeme
equal_lexeme rest = if begins is_equal_sign rest then EqualSigns else EqualSign

-- white space or a word, by the first character of the text
abbrev pub other_lexeme : List ℕ → Lexeme
other_lexeme text =
    let first = slice_index (chars text) 0 in
    if is_whitespace first then Blank first else Word (cut_before is_delimiter text).0

-- the lexeme at the front of a text, unless the text is at its end
abbrev pub first_lexeme : List ℕ → Option Lexeme
first_lexeme [] = None
first_lexeme (b ∷ rest) =
    if b == 0 then None
    else (if b == 59 then Some (comment_lexeme (cut_before is_line_feed rest))
    else (if b == 61 then Some (equal_lexeme rest)
    else (if b == 44 then Some CommaSign
    else (if b == 34 then Some (quoted_lexeme (cut_before is_quote rest))
    else Some (other_lexeme (b ∷ rest))))))

-- the lexemes of a text, at most n
unfoldable pub lexemes_within : ℕ → List ℕ → List Lexeme
lexemes_within zero text = []
lexemes_within (suc n) text =
    elim (first_lexeme text) as (λ _. List Lexeme) [
      | None ↦ []
      | Some lexeme ↦ lexeme ∷ lexemes_within n (drop (length (lexeme_text lexeme)) text)
    ]

-- the lexemes of a text
abbrev pub lexemes_in : List ℕ → List Lexeme
lexemes_in text = lexemes_within (length text) text

-- the tokens that a lexer has still to give, where `rest` is left of the text
unfoldable pub tokens_left : List ℕ → List ℕ → Bool → List TokenView
tokens_left text rest is_done =
    if is_done then [] else tokens_of (length text - length rest) (lexemes_in rest)

-- a lexeme without a token
abbrev pub IsTrivia : Lexeme → Type 0
IsTrivia lexeme = (offset : ℕ) → tokens_of_lexeme offset lexeme ≡ []

-- the text begins with neither white space nor a comment
pub record BeginsNoTrivia (text : List ℕ) : Type 0 where
  pub tail : List ℕ
  pub no_space : EmptyOrStartsWithPassing is_not_whitespace text tail
  pub no_comment : begins is_semicolon text ≡ false

-- the text begins with a word, as nothing else begins so
pub record StartsWord (text : List ℕ) : Type 0 where
  pub nonempty : 0 < length text
  pub no_trivia : BeginsNoTrivia text
  pub not_nul : slice_index text 0 ≢ 0
  pub not_equal : slice_index text 0 ≢ 61
  pub not_comma : slice_index text 0 ≢ 44
  pub not_quote : slice_index text 0 ≢ 34

-- the text is trivia, and then `rest`
pub record PassesTrivia (text rest : List ℕ) : Type 0 where
  pub trivia : List Lexeme
  pub text_is : text ≡ text_of trivia rest
  pub each_is_lexeme : EachIsLexeme trivia rest
  pub each_trivia : AllByRecursion IsTrivia trivia

-- the same, and no further trivia follows
pub record SkipsTrivia (text rest : List ℕ) : Type 0 where
  pub passes : PassesTrivia text rest
  pub all : BeginsNoTrivia rest

-- the text is a lexeme with this token, and then `after`
pub record TakesLexeme (text : List ℕ) (offset : ℕ) (token : TokenView)
    (after : List ℕ) : Type 0 where
  pub lexeme : Lexeme
  pub text_is : text ≡ lexeme_text lexeme ++ after
  pub located : IsLexemeBefore lexeme after
  pub given : tokens_of_lexeme offset lexeme ≡ token ∷ []

-- this, or the text is at its end
abbrev pub TakesToken : List ℕ → ℕ → TokenView → List ℕ → Type 0
TakesToken text offset token after =
    TakesLexeme text offset token after ⊎ (IsEnd text × (token ≡ eof offset) × (after ≡ text))
