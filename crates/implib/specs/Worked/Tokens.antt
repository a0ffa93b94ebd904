-- Texts and their tokens, worked by hand.
use Rattle.std.specs.Prelude.{ℕ, List, [], ◌∷◌, ◌++◌, codes}
use Rattle.implib.specs.declared.def.lexer.TokenKind.{TokenKind}
use Rattle.implib.specs.declared.def.lexer.TokenKind.TheVariants as kind
use Rattle.implib.specs.Text.Token.{eof, Lexed, TokenView}

-- a token of this kind, with this value, at this offset
abbrev pub token : TokenKind → List ℕ → ℕ → TokenView
token k value at = record { kind = k; value = value; at = at }

-- an identifier with this value, at this offset
abbrev pub identifier : List ℕ → ℕ → TokenView
identifier value at = token kind.Identifier value at

-- the bytes of a no-break space, an em space and an ideographic space
abbrev pub no_break_space : List ℕ
no_break_space = 0xC2 ∷ 0xA0 ∷ []

abbrev pub em_space : List ℕ
em_space = 0xE2 ∷ 0x80 ∷ 0x83 ∷ []

abbrev pub ideographic_space : List ℕ
ideographic_space = 0xE3 ∷ 0x80 ∷ 0x80 ∷ []

-- each text has these tokens
pub record WorkedTokens : Type 0 where
  -- a sign is a token of its own, two `=` are one, and a quoted keyword is a name
  pub signs : Lexed (codes "=,==\"CODE\"BASE;")
      (token kind.Equal (codes "=") 0 ∷ token kind.Comma (codes ",") 1
      ∷ token kind.EqualEqual (codes "==") 2
      ∷ identifier (codes "CODE") 5 ∷ token kind.KwBase (codes "BASE") 10 ∷ eof 15 ∷ [])
  pub three_equal_signs : Lexed (codes "===")
      (token kind.EqualEqual (codes "==") 0 ∷ token kind.Equal (codes "=") 2 ∷ eof 3 ∷ [])
  pub keyword_and_name : Lexed (codes "NAME foo.dll")
      (token kind.KwName (codes "NAME") 0 ∷ identifier (codes "foo.dll") 5 ∷ eof 12 ∷ [])
  -- the end of the text, and a NUL that ends it
  pub empty : Lexed [] (eof 0 ∷ [])
  pub nul : Lexed (codes "\0") (eof 0 ∷ [])
  pub ignored_after_nul : Lexed (codes "a.dll \0EXPORTS x")
      (identifier (codes "a.dll") 0 ∷ eof 6 ∷ [])
  -- words of one character, a comment and a quoted name
  pub words : Lexed (codes "a=b;c\n\"d e\" f")
      (identifier (codes "a") 0
      ∷ token kind.Equal (codes "=") 1
      ∷ identifier (codes "b") 2
      ∷ identifier (codes "d e") 7
      ∷ identifier (codes "f") 12
      ∷ eof 13
      ∷ [])
  -- a NUL in a comment, a word or a quoted name ends nothing
  pub nul_in_comment : Lexed (codes "; a\0b\nDATA")
      (token kind.KwData (codes "DATA") 6 ∷ eof 10 ∷ [])
  pub nul_in_word : Lexed (codes "LIBRARY a\0b")
      (token kind.KwLibrary (codes "LIBRARY") 0 ∷ identifier (codes "a\0b") 8 ∷ eof 11 ∷ [])
  pub nul_in_name : Lexed (codes "\"a\0b\"") (identifier (codes "a\0b") 1 ∷ eof 5 ∷ [])
  -- a quoted name is trimmed, and is right after its quote where nothing is left; unclosed, it is
  -- empty
  pub blank_name : Lexed (codes "\" \"") (identifier [] 1 ∷ eof 3 ∷ [])
  pub trimmed_name : Lexed (codes "\" a b \"") (identifier (codes "a b") 2 ∷ eof 7 ∷ [])
  pub quotes_in_word : Lexed (codes "x\"y\"") (identifier (codes "x\"y\"") 0 ∷ eof 4 ∷ [])
  pub unclosed_quote : Lexed (codes "LIBRARY \"a.dll")
      (token kind.KwLibrary (codes "LIBRARY") 0 ∷ identifier [] 9 ∷ eof 14 ∷ [])
  -- white space that is no delimiter, as a form feed, divides no word, but is skipped before one
  -- and trimmed after it
  pub form_feeds : Lexed (codes "a\u{c}b\nc\u{c}\n")
      (identifier (codes "a\u{c}b") 0 ∷ identifier (codes "c") 4 ∷ eof 7 ∷ [])
  pub other_spaces : Lexed
      (no_break_space ++ codes "NAME" ++ em_space ++ codes "x" ++ ideographic_space)
      (identifier (codes "NAME" ++ em_space ++ codes "x") 2 ∷ eof 13 ∷ [])
  -- each keyword, words that are none, and each delimiter
  pub keywords : Lexed
      (codes "BASE CONSTANT DATA EXPORTS HEAPSIZE LIBRARY NAME NONAME PRIVATE STACKSIZE VERSION")
      (token kind.KwBase (codes "BASE") 0
      ∷ token kind.KwConstant (codes "CONSTANT") 5
      ∷ token kind.KwData (codes "DATA") 14
      ∷ token kind.KwExports (codes "EXPORTS") 19
      ∷ token kind.KwHeapsize (codes "HEAPSIZE") 27
      ∷ token kind.KwLibrary (codes "LIBRARY") 36
      ∷ token kind.KwName (codes "NAME") 44
      ∷ token kind.KwNoname (codes "NONAME") 49
      ∷ token kind.KwPrivate (codes "PRIVATE") 56
      ∷ token kind.KwStacksize (codes "STACKSIZE") 64
      ∷ token kind.KwVersion (codes "VERSION") 74
      ∷ eof 81
      ∷ [])
  pub no_keywords : Lexed (codes "Base CODE DATA1")
      (identifier (codes "Base") 0
      ∷ identifier (codes "CODE") 5
      ∷ identifier (codes "DATA1") 10
      ∷ eof 15
      ∷ [])
  pub longer_and_shorter_words : Lexed (codes "CONST SECTIONS DESCRIPTION BASED NONAMES EXPORT")
      (identifier (codes "CONST") 0
      ∷ identifier (codes "SECTIONS") 6
      ∷ identifier (codes "DESCRIPTION") 15
      ∷ identifier (codes "BASED") 27
      ∷ identifier (codes "NONAMES") 33
      ∷ identifier (codes "EXPORT") 41
      ∷ eof 47
      ∷ [])
  pub delimiters : Lexed (codes "a=b,c;\nd\re f\tg\u{b}h")
      (identifier (codes "a") 0
      ∷ token kind.Equal (codes "=") 1
      ∷ identifier (codes "b") 2
      ∷ token kind.Comma (codes ",") 3
      ∷ identifier (codes "c") 4
      ∷ identifier (codes "d") 7
      ∷ identifier (codes "e") 9
      ∷ identifier (codes "f") 11
      ∷ identifier (codes "g") 13
      ∷ identifier (codes "h") 15
      ∷ eof 16
      ∷ [])
