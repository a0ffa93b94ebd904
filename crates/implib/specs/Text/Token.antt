-- The tokens of a text, by its bytes: the text is a list of lexemes (trivia included), then its end
-- (docs/GRAMMAR.md, "Tokens").
--   text = { lexeme } end
--   lexeme = white-space | comment | "=" | "==" | "," | quoted-name | word
use Rattle.std.specs.Prelude.{◌≡◌, ◌≢◌, ℕ, ◌+◌, ◌-◌, ◌<◌, ◌≤◌, Bool, true, false, ◌||◌, ◌==◌, ◌⊎◌}
use Rattle.std.specs.Prelude.{List, [], ◌∷◌, ◌++◌, drop, length, take, codes, if◌then◌else◌}
use Rattle.std.specs.Prelude.{slice_index}
use Rattle.std.specs.Char.{encode_utf8, is_whitespace, IsScalar}
use Rattle.std.specs.Str.{NonePass, bytes_eq, trim, trim_end, trim_start}
use Rattle.implib.specs.Ascii.{begins}
use Rattle.implib.specs.declared.def.lexer.Token.{Token}
use Rattle.implib.specs.declared.def.lexer.TokenKind.{TokenKind}
use Rattle.implib.specs.declared.def.lexer.TokenKind.TheVariants as kind

-- the view of a token in clauses: its kind, the bytes of its value, and the offset of its value in
-- the text
pub record TokenView : Type 0 where
  pub kind : TokenKind
  pub value : List ℕ
  pub at : ℕ

-- the view of a token of the program
abbrev pub token_view : Token → TokenView
token_view t = record { kind = t.kind; value = t.value.now; at = t.at }

-- the byte ends a line
abbrev pub is_line_feed : ℕ → Bool
is_line_feed b = b == 10

-- the byte is `"`
abbrev pub is_quote : ℕ → Bool
is_quote b = b == 34

-- the byte is `=`
abbrev pub is_equal_sign : ℕ → Bool
is_equal_sign b = b == 61

-- the byte ends a word: it is `=`, `,`, `;`, carriage return, line feed, space, tab or vertical tab
abbrev pub is_delimiter : ℕ → Bool
is_delimiter b = b == 61 || b == 44 || b == 59 || b == 13 || b == 10 || b == 32 || b == 9 || b == 11

-- From `from` on, the first offset with a delimiter of a word is `end`, or there is none and `end`
-- is the length. For example, the word of `a=b` that goes on at 0 ends at 1, and that at 2 ends at
-- 3.
pub record IsWordEnd (bytes : List ℕ) (from end : ℕ) : Type 0 where
  pub from_on : from ≤ end
  pub within : end ≤ length bytes
  pub none_before : (k : ℕ) → from ≤ k → k < end → is_delimiter (slice_index bytes k) ≡ false
  pub stops : end < length bytes → is_delimiter (slice_index bytes end) ≡ true

-- a lexeme, with its contents; blanks and comments are trivia
pub data Lexeme : Type 0 where
  -- one character of white space
  Blank : ℕ → Lexeme
  -- `;`, the rest of its line, and the line feed
  Comment : List ℕ → Lexeme
  -- `;` and the rest of the text
  LastComment : List ℕ → Lexeme
  -- `=`
  EqualSign : Lexeme
  -- `==`
  EqualSigns : Lexeme
  -- `,`
  CommaSign : Lexeme
  -- a name between two `"`
  Quoted : List ℕ → Lexeme
  -- `"` and the rest of the text
  Unclosed : List ℕ → Lexeme
  -- a word, up to its delimiter
  Word : List ℕ → Lexeme

-- the bytes of a lexeme
abbrev pub lexeme_text : Lexeme → List ℕ
lexeme_text (Blank character) = encode_utf8 character
lexeme_text (Comment line) = 59 ∷ (line ++ 10 ∷ [])
lexeme_text (LastComment line) = 59 ∷ line
lexeme_text EqualSign = 61 ∷ []
lexeme_text EqualSigns = 61 ∷ 61 ∷ []
lexeme_text CommaSign = 44 ∷ []
lexeme_text (Quoted inside) = 34 ∷ (inside ++ 34 ∷ [])
lexeme_text (Unclosed inside) = 34 ∷ inside
lexeme_text (Word run) = run

-- a word begins with a character that is neither white space, nor NUL, nor `"`, nor a delimiter
pub record BeginsWord (run : List ℕ) : Type 0 where
  pub character : ℕ
  pub tail : List ℕ
  pub text_is : run ≡ encode_utf8 character ++ tail
  pub scalar : IsScalar character
  pub not_white : is_whitespace character ≡ false
  pub not_nul : character ≢ 0
  pub not_quote : character ≢ 34

-- The contents of a lexeme, and what may follow it in the text: the longest match. For example,
-- `===` is `==` and then `=`.
abbrev pub IsLexemeBefore : Lexeme → List ℕ → Type 0
-- white-space: a character for which `char::is_whitespace` holds
IsLexemeBefore (Blank character) after = is_whitespace character ≡ true
-- comment = ";" { any byte but a line feed } line-feed
IsLexemeBefore (Comment line) after = NonePass is_line_feed line
-- comment = ";" { any byte but a line feed }, at the end of the text
IsLexemeBefore (LastComment line) after = NonePass is_line_feed line × (after ≡ [])
-- "=", where no other "=" follows
IsLexemeBefore EqualSign after = begins is_equal_sign after ≡ false
-- "=="
IsLexemeBefore EqualSigns after = Unit {0}
-- ","
IsLexemeBefore CommaSign after = Unit {0}
-- quoted-name = quote { any byte but a quote } quote
IsLexemeBefore (Quoted inside) after = NonePass is_quote inside
-- quoted-name = quote { any byte but a quote }, at the end of the text
IsLexemeBefore (Unclosed inside) after = NonePass is_quote inside × (after ≡ [])
-- word = { any byte but a delimiter }, up to a delimiter or the end of the text
IsLexemeBefore (Word run) after =
    BeginsWord run × NonePass is_delimiter run × ((after ≡ []) ⊎ (begins is_delimiter after ≡ true))

-- end = nothing | NUL { any byte }: the text ends here, or a NUL ends it and what follows is
-- ignored
abbrev pub IsEnd : List ℕ → Type 0
IsEnd [] = Unit {0}
IsEnd (b ∷ ignored) = b ≡ 0

-- the lexemes one after another, and then the end
abbrev pub text_of : List Lexeme → List ℕ → List ℕ
text_of [] end = end
text_of (lexeme ∷ lexemes) end = lexeme_text lexeme ++ text_of lexemes end

-- each lexeme is the longest match before what follows it
abbrev pub EachIsLexeme : List Lexeme → List ℕ → Type 0
EachIsLexeme [] end = Unit {0}
EachIsLexeme (lexeme ∷ lexemes) end =
    IsLexemeBefore lexeme (text_of lexemes end) × EachIsLexeme lexemes end

-- the text is these lexemes, and then this end
pub record Divides (text : List ℕ) (lexemes : List Lexeme) (end : List ℕ) : Type 0 where
  pub text_is : text ≡ text_of lexemes end
  pub each_is_lexeme : EachIsLexeme lexemes end
  pub ends : IsEnd end

-- The words that are keywords, in this case alone. For example, `Base` and `DATA1` are none.
abbrev pub keywords : List (List ℕ × TokenKind)
keywords =
    (codes "BASE", kind.KwBase)
    ∷ (codes "CONSTANT", kind.KwConstant)
    ∷ (codes "DATA", kind.KwData)
    ∷ (codes "EXPORTS", kind.KwExports)
    ∷ (codes "HEAPSIZE", kind.KwHeapsize)
    ∷ (codes "LIBRARY", kind.KwLibrary)
    ∷ (codes "NAME", kind.KwName)
    ∷ (codes "NONAME", kind.KwNoname)
    ∷ (codes "PRIVATE", kind.KwPrivate)
    ∷ (codes "STACKSIZE", kind.KwStacksize)
    ∷ (codes "VERSION", kind.KwVersion)
    ∷ []

-- the kind that a table gives a word, and Identifier for a word that the table lacks
abbrev pub kind_in : List (List ℕ × TokenKind) → List ℕ → TokenKind
kind_in [] word = kind.Identifier
kind_in (row ∷ rows) word = if bytes_eq word row.0 then row.1 else kind_in rows word

-- the kind of a word
unfoldable pub kind_of_word : List ℕ → TokenKind
kind_of_word word = kind_in keywords word

-- where in a quoted name its value begins: after the white space, or at the front where nothing
-- else is there
abbrev pub value_start : List ℕ → ℕ
value_start inside =
    if length (trim inside) == 0 then 0 else length inside - length (trim_start inside)

-- The token of a lexeme at an offset; trivia has none. For example, the quoted name `" a b "` at 0
-- has the value `a b`, at 2.
abbrev pub tokens_of_lexeme : ℕ → Lexeme → List TokenView
tokens_of_lexeme offset (Blank character) = []
tokens_of_lexeme offset (Comment line) = []
tokens_of_lexeme offset (LastComment line) = []
tokens_of_lexeme offset EqualSign = record { kind = kind.Equal; value = 61 ∷ []; at = offset } ∷ []
tokens_of_lexeme offset EqualSigns =
    record { kind = kind.EqualEqual; value = 61 ∷ 61 ∷ []; at = offset } ∷ []
tokens_of_lexeme offset CommaSign = record { kind = kind.Comma; value = 44 ∷ []; at = offset } ∷ []
tokens_of_lexeme offset (Quoted inside) =
    record { kind = kind.Identifier; value = trim inside; at = offset + 1 + value_start inside }
    ∷ []
tokens_of_lexeme offset (Unclosed inside) =
    record { kind = kind.Identifier; value = []; at = offset + 1 } ∷ []
tokens_of_lexeme offset (Word run) =
    record { kind = kind_of_word (trim_end run); value = trim_end run; at = offset } ∷ []

-- the token at the end
abbrev pub eof : ℕ → TokenView
eof offset = record { kind = kind.Eof; value = []; at = offset }

-- the tokens of lexemes from an offset on, and then Eof
abbrev pub tokens_of : ℕ → List Lexeme → List TokenView
tokens_of offset [] = eof offset ∷ []
tokens_of offset (lexeme ∷ lexemes) =
    tokens_of_lexeme offset lexeme ++ tokens_of (offset + length (lexeme_text lexeme)) lexemes

-- The tokens of a text. For example, `NAME foo.dll` has KwName at 0, the identifier `foo.dll` at 5
-- and Eof at 12 (Worked/Tokens).
pub record Lexed (text : List ℕ) (tokens : List TokenView) : Type 0 where
  pub lexemes : List Lexeme
  pub end : List ℕ
  pub divides : Divides text lexemes end
  pub given : tokens ≡ tokens_of 0 lexemes

-- Eof is the last token, and only the last
abbrev pub EndsInEof : List TokenView → Type 0
EndsInEof [] = ⊥
EndsInEof (token ∷ []) = token.kind ≡ kind.Eof
EndsInEof (token ∷ next ∷ rest) = (token.kind ≢ kind.Eof) × EndsInEof (next ∷ rest)

-- a text divides into lexemes in one way
pub record DividesOnce (text : List ℕ) : Type 0 where
  pub lexemes : List Lexeme
  pub end : List ℕ
  pub divides : Divides text lexemes end
  pub only : (others : List Lexeme) (rest : List ℕ) → Divides text others rest →
      (others ≡ lexemes) × (rest ≡ end)

-- a text has one list of tokens
pub record LexedOnce (text : List ℕ) : Type 0 where
  pub tokens : List TokenView
  pub lexed : Lexed text tokens
  pub only : (others : List TokenView) → Lexed text others → others ≡ tokens

-- the kind is not the default one, which no token has
abbrev pub IsKnown : TokenView → Type 0
IsKnown token = token.kind ≢ kind.Unknown

-- the value of the token is cut from the text at the token's offset
abbrev pub IsSliceOf : List ℕ → TokenView → Type 0
IsSliceOf text token = take (length token.value) (drop token.at text) ≡ token.value
