-- The statement grammar of a module definition: statements, and the terminals that each derives
-- (docs/GRAMMAR.md, "Statements"). `[ x ]` is x or nothing, `{ x }` any number of x, and `|` a
-- choice; a word, a number and a version are one token each.
--   definition = { statement } Eof
--   statement  = "EXPORTS" { export }
--              | ( "HEAPSIZE" | "STACKSIZE" ) number [ "," number ]
--              | ( "NAME" | "LIBRARY" ) [ word [ "BASE" "=" number ] ]
--              | "VERSION" version
--   export     = name [ "=" target ] { attribute }
--   attribute  = ordinal [ "NONAME" ] | "DATA" | "CONSTANT" | "PRIVATE" | "==" word
--   ordinal    = "@" number, in one token or in two
use Rattle.std.specs.Prelude.{◌≡◌, ◌≢◌, ℕ, ◌⊎◌, Bool, true, false, List, [], ◌∷◌, ◌++◌, Option}
use Rattle.std.specs.Prelude.{Some, None}
use Rattle.std.specs.List.{flat_map}
use Rattle.implib.specs.declared.def.lexer.TokenKind.{TokenKind}
use Rattle.implib.specs.declared.def.lexer.TokenKind.TheVariants.{Eof, Identifier, Comma, Equal}
use Rattle.implib.specs.declared.def.lexer.TokenKind.TheVariants.{EqualEqual, KwBase, KwConstant}
use Rattle.implib.specs.declared.def.lexer.TokenKind.TheVariants.{KwData, KwExports, KwHeapsize}
use Rattle.implib.specs.declared.def.lexer.TokenKind.TheVariants.{KwLibrary, KwName, KwNoname}
use Rattle.implib.specs.declared.def.lexer.TokenKind.TheVariants.{KwPrivate, KwStacksize, KwVersion}
pub use Rattle.implib.specs.Ascii.{at_sign, full_stop}
use Rattle.implib.specs.Text.Number.{IsNumber, u16_limit, u32_limit, u64_limit}
use Rattle.implib.specs.Text.Token.{TokenView}

-- the value is "@" alone
abbrev pub IsLoneAt : List ℕ → Type 0
IsLoneAt value = value ≡ at_sign ∷ []

-- ordinal = "@" number, in one token: the number has 16 bits. For example, `@5` and `@+5` are 5,
-- and `@70000` is none.
pub record IsAtNumber (value : List ℕ) (n : ℕ) : Type 0 where
  pub number : List ℕ
  pub text_is : value ≡ at_sign ∷ number
  pub is_number : IsNumber number u16_limit n

-- version = number: the major number alone, of 32 bits; the minor is 0
pub record IsMajorAlone (value : List ℕ) (major minor : ℕ) : Type 0 where
  pub is_number : IsNumber value u32_limit major
  pub minor_is : minor ≡ 0

-- version = number "." number: two numbers of 32 bits; a number has no `.`, so this is the first
-- one
pub record IsMajorMinor (value : List ℕ) (major minor : ℕ) : Type 0 where
  pub front : List ℕ
  pub back : List ℕ
  pub text_is : value ≡ front ++ full_stop ∷ back
  pub front_number : IsNumber front u32_limit major
  pub back_number : IsNumber back u32_limit minor

-- version = number [ "." number ]. For example, `1.2` is one, and `1.`, `.1` and `1.2.3` are none.
abbrev pub IsVersion : List ℕ → ℕ → ℕ → Type 0
IsVersion value major minor = IsMajorAlone value major minor ⊎ IsMajorMinor value major minor

-- a terminal: what one token of a statement has to be
pub data Terminal : Type 0 where
  -- of this kind
  Of : TokenKind → Terminal
  -- `NAME` or `LIBRARY`
  NameOrLibrary : Terminal
  -- this word
  Word : List ℕ → Terminal
  -- a word that is this number of 64 bits
  Number : ℕ → Terminal
  -- a word that is a version with this major and this minor number
  Numbers : ℕ → ℕ → Terminal
  -- this word after the `=` of an export: any but `@`
  Target : List ℕ → Terminal
  -- this word as the name of an export that follows another: any that begins no attribute
  Later : List ℕ → Terminal
  -- `@` and this number of 16 bits, in one token
  At : ℕ → Terminal
  -- this number of 16 bits after the word `@`: a token of any kind but the end
  Ordinal : ℕ → Terminal

-- the token is an identifier with this value
pub record IsWord (token : TokenView) (value : List ℕ) : Type 0 where
  pub kind : token.kind ≡ Identifier
  pub value_is : token.value ≡ value

-- the name of an export that follows another: a word that begins no attribute
pub record IsLaterName (token : TokenView) (value : List ℕ) : Type 0 where
  pub word : IsWord token value
  pub not_lone : ¬ (IsLoneAt value)
  pub not_ordinal : (n : ℕ) → ¬ (IsAtNumber value n)

-- the token matches the terminal
abbrev pub Matches : Terminal → TokenView → Type 0
Matches (Of kind) token = token.kind ≡ kind
Matches NameOrLibrary token = (token.kind ≡ KwName) ⊎ (token.kind ≡ KwLibrary)
Matches (Word value) token = IsWord token value
Matches (Number n) token = (token.kind ≡ Identifier) × IsNumber token.value u64_limit n
Matches (Numbers major minor) token = (token.kind ≡ Identifier) × IsVersion token.value major minor
Matches (Target value) token = IsWord token value × (¬ (IsLoneAt value))
Matches (Later value) token = IsLaterName token value
Matches (At n) token = (token.kind ≡ Identifier) × IsAtNumber token.value n
Matches (Ordinal n) token = (token.kind ≢ Eof) × IsNumber token.value u16_limit n

-- the tokens start with matches of the terminals, one for one, and the rest follows
abbrev pub StartsWith : List TokenView → List Terminal → List TokenView → Type 0
StartsWith tokens [] rest = tokens ≡ rest
StartsWith [] (first ∷ wanted) rest = ⊥
StartsWith (token ∷ tokens) (first ∷ wanted) rest =
    Matches first token × StartsWith tokens wanted rest

-- what follows the name of an export and its target
pub data Attribute : Type 0 where
  -- an ordinal in one word with its `@`, with `NONAME` or without
  Joined : ℕ → Bool → Attribute
  -- an ordinal apart from its `@`, with `NONAME` or without
  Apart : ℕ → Bool → Attribute
  -- `DATA`
  Data : Attribute
  -- `CONSTANT`
  Constant : Attribute
  -- `PRIVATE`
  Private : Attribute
  -- `==` and a word
  Alias : List ℕ → Attribute

-- one export: its first word, the word after `=` where there is one, and its attributes
pub record Export : Type 0 where
  pub word : List ℕ
  pub target : Option (List ℕ)
  pub attributes : List Attribute

-- the two regions of memory that have a size
pub data Region : Type 0 where
  Heap : Region
  Stack : Region

-- one statement
pub data Statement : Type 0 where
  -- `EXPORTS` and the exports
  Exports : List Export → Statement
  -- `HEAPSIZE` or `STACKSIZE`, the size to reserve and, if given, the size to commit
  Sizes : Region → ℕ → Option ℕ → Statement
  -- `NAME` or `LIBRARY` alone
  Nameless : Statement
  -- `NAME` or `LIBRARY`, a name and, if given, the base
  Named : List ℕ → Option ℕ → Statement
  -- `VERSION`, the major and the minor number
  Version : ℕ → ℕ → Statement

-- [ "NONAME" ]
abbrev pub no_name_terminals : Bool → List Terminal
no_name_terminals true = Of KwNoname ∷ []
no_name_terminals false = []

-- attribute = ordinal [ "NONAME" ] | "DATA" | "CONSTANT" | "PRIVATE" | "==" word
abbrev pub attribute_terminals : Attribute → List Terminal
-- ordinal = "@" number, in one token, as in `@10 NONAME`
attribute_terminals (Joined n no_name) = At n ∷ no_name_terminals no_name
-- ordinal = "@" number, in two tokens, as in `@ 1 NONAME`; the number may be quoted
attribute_terminals (Apart n no_name) = Word (at_sign ∷ []) ∷ Ordinal n ∷ no_name_terminals no_name
-- "DATA"
attribute_terminals Data = Of KwData ∷ []
-- "CONSTANT"
attribute_terminals Constant = Of KwConstant ∷ []
-- "PRIVATE"
attribute_terminals Private = Of KwPrivate ∷ []
-- "==" word
attribute_terminals (Alias value) = Of EqualEqual ∷ Word value ∷ []

-- [ "=" target ]: the target is a word other than "@"
abbrev pub target_terminals : Option (List ℕ) → List Terminal
target_terminals None = []
target_terminals (Some value) = Of Equal ∷ Target value ∷ []

-- export = name [ "=" target ] { attribute }: the name is a word or a later name. For example,
-- `foo = bar == baz` has the name foo, the target bar and the alias target baz.
abbrev pub export_terminals : (List ℕ → Terminal) → Export → List Terminal
export_terminals name e =
    name e.word ∷ (target_terminals e.target ++ flat_map attribute_terminals e.attributes)

-- { export }: those that follow another have a later name
abbrev pub exports_terminals : (List ℕ → Terminal) → List Export → List Terminal
exports_terminals name [] = []
exports_terminals name (e ∷ exports) = export_terminals name e ++ exports_terminals Later exports

-- the keyword of a region
abbrev pub region_kind : Region → TokenKind
region_kind Heap = KwHeapsize
region_kind Stack = KwStacksize

-- [ "," number ]
abbrev pub commit_terminals : Option ℕ → List Terminal
commit_terminals None = []
commit_terminals (Some n) = Of Comma ∷ Number n ∷ []

-- [ "BASE" "=" number ]
abbrev pub base_terminals : Option ℕ → List Terminal
base_terminals None = []
base_terminals (Some n) = Of KwBase ∷ Of Equal ∷ Number n ∷ []

-- the terminals of a statement
abbrev pub statement_terminals : Statement → List Terminal
-- EXPORTS-statement = "EXPORTS" { export }
statement_terminals (Exports exports) = Of KwExports ∷ exports_terminals Word exports
-- HEAPSIZE-statement = "HEAPSIZE" number [ "," number ], STACKSIZE-statement = "STACKSIZE" ..
statement_terminals (Sizes region reserve commit) =
    Of (region_kind region) ∷ Number reserve ∷ commit_terminals commit
-- NAME-statement = "NAME", LIBRARY-statement = "LIBRARY"
statement_terminals Nameless = NameOrLibrary ∷ []
-- NAME-statement = "NAME" word [ "BASE" "=" number ], LIBRARY-statement = "LIBRARY" ..
statement_terminals (Named name base) = NameOrLibrary ∷ Word name ∷ base_terminals base
-- VERSION-statement = "VERSION" version
statement_terminals (Version major minor) = Of KwVersion ∷ Numbers major minor ∷ []

-- { statement }
abbrev pub terminals : List Statement → List Terminal
terminals statements = flat_map statement_terminals statements

-- definition = { statement } Eof: the tokens are exactly those that the statements derive. For
-- example, the tokens of `NAME a.exe BASE=4096` are those of one statement, with the name a.exe and
-- the base 4096.
abbrev pub Sentence : List TokenView → List Statement → Type 0
Sentence tokens statements = StartsWith tokens (terminals statements ++ Of Eof ∷ []) []

-- the tokens are statements
abbrev pub IsSentence : List TokenView → Type 0
IsSentence tokens = (statements : List Statement) × Sentence tokens statements
