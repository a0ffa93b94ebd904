-- The worked texts, by computing.
use Rattle.std.proofs.Common.{◌≡◌, ℕ, List, true, refl, subst}
use Rattle.std.proofs.lemmas.Str.{IsUtf8-from_is_utf8}
use Rattle.std.specs.Char.{encode_utf8}
use Rattle.std.specs.Str.{chars, is_utf8, trim_end, trim_start}
use Rattle.implib.specs.Text.Token.{kind_of_word, tokens_of, Lexed, TokenView}
use Rattle.implib.specs.Views.Scanner.{lexemes_in, lexemes_within}
use Rattle.implib.specs.Worked.Tokens.{WorkedTokens}
use Rattle.implib.proofs.Text.Token.{Lexed-exists}

-- what the witness computes are the tokens
Lexed-by_computing : (text : List ℕ) (tokens : List TokenView) → is_utf8 text ≡ true → tokens_of 0 (lexemes_in text) ≡ tokens → Lexed text tokens
Lexed-by_computing text tokens utf8 given = subst (Lexed text) given (Lexed-exists text (IsUtf8-from_is_utf8 text utf8))

pub worked : WorkedTokens
unfolding chars is_utf8 encode_utf8 trim_end trim_start kind_of_word lexemes_within
worked = record {
  signs = Lexed-by_computing _ _ refl refl;
  three_equal_signs = Lexed-by_computing _ _ refl refl;
  keyword_and_name = Lexed-by_computing _ _ refl refl;
  empty = Lexed-by_computing _ _ refl refl;
  nul = Lexed-by_computing _ _ refl refl;
  ignored_after_nul = Lexed-by_computing _ _ refl refl;
  words = Lexed-by_computing _ _ refl refl;
  nul_in_comment = Lexed-by_computing _ _ refl refl;
  nul_in_word = Lexed-by_computing _ _ refl refl;
  nul_in_name = Lexed-by_computing _ _ refl refl;
  blank_name = Lexed-by_computing _ _ refl refl;
  trimmed_name = Lexed-by_computing _ _ refl refl;
  quotes_in_word = Lexed-by_computing _ _ refl refl;
  unclosed_quote = Lexed-by_computing _ _ refl refl;
  form_feeds = Lexed-by_computing _ _ refl refl;
  other_spaces = Lexed-by_computing _ _ refl refl;
  keywords = Lexed-by_computing _ _ refl refl;
  no_keywords = Lexed-by_computing _ _ refl refl;
  longer_and_shorter_words = Lexed-by_computing _ _ refl refl;
  delimiters = Lexed-by_computing _ _ refl refl;
}
