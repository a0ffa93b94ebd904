-- Syntax errors: the first token that no derivation allows, and the cause that is reported
-- (docs/GRAMMAR.md, "Syntax errors"). A row `position | token | cause` says what is reported for a
-- token at a position.
use Rattle.std.specs.Prelude.{◌≡◌, ◌≢◌, ℕ, ◌⊎◌, Bool, true, false, List, [], ◌∷◌, ◌++◌, Option}
use Rattle.std.specs.Prelude.{Some, None}
use mathlib.Core.Logic.{inl, inr}
use Rattle.implib.specs.declared.def.lexer.TokenKind.{TokenKind}
use Rattle.implib.specs.declared.def.lexer.TokenKind.TheVariants.{Eof, Identifier, Comma, Equal}
use Rattle.implib.specs.declared.def.lexer.TokenKind.TheVariants.{EqualEqual, KwBase, KwConstant}
use Rattle.implib.specs.declared.def.lexer.TokenKind.TheVariants.{KwData, KwExports, KwHeapsize}
use Rattle.implib.specs.declared.def.lexer.TokenKind.TheVariants.{KwLibrary, KwName, KwNoname}
use Rattle.implib.specs.declared.def.lexer.TokenKind.TheVariants.{KwPrivate, KwStacksize, KwVersion}
use Rattle.implib.specs.Fault.{Cause, UnknownDirective, ExpectedIdentifier, ExpectedEqual}
use Rattle.implib.specs.Fault.{ExpectedInteger, InvalidOrdinal, LoneAt}
use Rattle.implib.specs.Text.Grammar.{Attribute, Joined, Apart, Export, Region, Statement, Exports}
use Rattle.implib.specs.Text.Grammar.{Sizes, Nameless, Named, Version, Of, NameOrLibrary, Word}
use Rattle.implib.specs.Text.Grammar.{Number, Terminal, StartsWith, IsLoneAt, IsVersion}
use Rattle.implib.specs.Text.Grammar.{exports_terminals, region_kind, terminals, at_sign}
use Rattle.implib.specs.Text.Number.{IsNumber, u16_limit, u64_limit}
use Rattle.implib.specs.Text.Token.{TokenView}

-- a partial statement, up to a position where one more token is expected
pub data PartialStatement : Type 0 where
  -- `HEAPSIZE` or `STACKSIZE`
  ToSize : Region → PartialStatement
  -- the same with a size and a comma
  ToSecondSize : Region → ℕ → PartialStatement
  -- `NAME` or `LIBRARY`, a name and `BASE`
  ToBaseSign : List ℕ → PartialStatement
  -- the same with `=`
  ToBase : List ℕ → PartialStatement
  -- `VERSION`
  ToVersion : PartialStatement
  -- `EXPORTS`, whole exports, the first word of one more, and `=`
  ToTarget : List Export → List ℕ → PartialStatement
  -- `EXPORTS`, whole exports, one more of them, and `==`
  ToAlias : List Export → Export → PartialStatement
  -- `EXPORTS`, whole exports, one more of them, and the word `@`
  ToOrdinal : List Export → Export → PartialStatement

-- an export of which only the first word is read
abbrev pub bare : List ℕ → Export
bare word = record { word = word; target = None; attributes = [] }

-- `EXPORTS`, the exports, one more of them, and what of it has begun
abbrev pub partial_exports : List Export → Export → Terminal → List Terminal
partial_exports exports last begun =
    Of KwExports ∷ (exports_terminals Word (exports ++ last ∷ []) ++ begun ∷ [])

-- the terminals of a partial statement
abbrev pub partial_terminals : PartialStatement → List Terminal
partial_terminals (ToSize region) = Of (region_kind region) ∷ []
partial_terminals (ToSecondSize region n) = Of (region_kind region) ∷ Number n ∷ Of Comma ∷ []
partial_terminals (ToBaseSign name) = NameOrLibrary ∷ Word name ∷ Of KwBase ∷ []
partial_terminals (ToBase name) = NameOrLibrary ∷ Word name ∷ Of KwBase ∷ Of Equal ∷ []
partial_terminals ToVersion = Of KwVersion ∷ []
partial_terminals (ToTarget exports word) = partial_exports exports (bare word) (Of Equal)
partial_terminals (ToAlias exports last) = partial_exports exports last (Of EqualEqual)
partial_terminals (ToOrdinal exports last) = partial_exports exports last (Word (at_sign ∷ []))

-- expected an identifier, found another kind: ExpectedIdentifier with the kind
pub record IsNotIdentifier (token : TokenView) (cause : Cause) : Type 0 where
  pub other : token.kind ≢ Identifier
  pub reported : cause ≡ ExpectedIdentifier token.kind

-- expected a number of 64 bits, found an identifier that is none: ExpectedInteger
pub record IsNotNumber (token : TokenView) (cause : Cause) : Type 0 where
  pub kind : token.kind ≡ Identifier
  pub none : (n : ℕ) → ¬ (IsNumber token.value u64_limit n)
  pub reported : cause ≡ ExpectedInteger

-- expected a version, found an identifier that is none: ExpectedInteger
pub record IsNotVersion (token : TokenView) (cause : Cause) : Type 0 where
  pub kind : token.kind ≡ Identifier
  pub none : (major minor : ℕ) → ¬ (IsVersion token.value major minor)
  pub reported : cause ≡ ExpectedInteger

-- expected the `=` of a base, found another kind: ExpectedEqual with the kind
pub record IsNotEqualSign (token : TokenView) (cause : Cause) : Type 0 where
  pub other : token.kind ≢ Equal
  pub reported : cause ≡ ExpectedEqual token.kind

-- found the identifier `@` as the target of an export: LoneAt
pub record IsLoneTarget (token : TokenView) (cause : Cause) : Type 0 where
  pub kind : token.kind ≡ Identifier
  pub lone : IsLoneAt token.value
  pub reported : cause ≡ LoneAt

-- found the end after the attribute `@` alone: ExpectedIdentifier with Eof
pub record IsEndForOrdinal (token : TokenView) (cause : Cause) : Type 0 where
  pub end : token.kind ≡ Eof
  pub reported : cause ≡ ExpectedIdentifier Eof

-- found another token there whose value is no number of 16 bits: InvalidOrdinal with the value
pub record IsNotOrdinal (token : TokenView) (cause : Cause) : Type 0 where
  pub not_end : token.kind ≢ Eof
  pub none : (n : ℕ) → ¬ (IsNumber token.value u16_limit n)
  pub reported : cause ≡ InvalidOrdinal token.value

-- The token is unexpected after the partial statement, and the cause is reported. For example,
-- after `HEAPSIZE` the identifier `-1` is reported as ExpectedInteger.
abbrev pub IsUnexpectedAfter : PartialStatement → TokenView → Cause → Type 0
-- after "HEAPSIZE" or "STACKSIZE" | no identifier | ExpectedIdentifier with its kind
-- the same | an identifier that is no number of 64 bits | ExpectedInteger
IsUnexpectedAfter (ToSize _) token cause = IsNotIdentifier token cause ⊎ IsNotNumber token cause
-- after the comma of sizes | no identifier | ExpectedIdentifier with its kind
-- the same | an identifier that is no number of 64 bits | ExpectedInteger
IsUnexpectedAfter (ToSecondSize _ _) token cause =
    IsNotIdentifier token cause ⊎ IsNotNumber token cause
-- after "BASE" | no `=` | ExpectedEqual with its kind
IsUnexpectedAfter (ToBaseSign _) token cause = IsNotEqualSign token cause
-- after "BASE" "=" | no identifier | ExpectedIdentifier with its kind
-- the same | an identifier that is no number of 64 bits | ExpectedInteger
IsUnexpectedAfter (ToBase _) token cause = IsNotIdentifier token cause ⊎ IsNotNumber token cause
-- after "VERSION" | no identifier | ExpectedIdentifier with its kind
-- the same | an identifier that is no version | ExpectedInteger
IsUnexpectedAfter ToVersion token cause = IsNotIdentifier token cause ⊎ IsNotVersion token cause
-- an export's target | no identifier | ExpectedIdentifier with its kind
-- the same | the identifier `@` | LoneAt
IsUnexpectedAfter (ToTarget _ _) token cause =
    IsNotIdentifier token cause ⊎ IsLoneTarget token cause
-- an export's alias target | no identifier | ExpectedIdentifier with its kind
IsUnexpectedAfter (ToAlias _ _) token cause = IsNotIdentifier token cause
-- after the attribute "@" alone | Eof | ExpectedIdentifier with Eof
-- the same | another token whose value is no number of 16 bits | InvalidOrdinal with its value
IsUnexpectedAfter (ToOrdinal _ _) token cause =
    IsEndForOrdinal token cause ⊎ IsNotOrdinal token cause

-- the kind is none of these
abbrev pub IsNoneOf : TokenKind → List TokenKind → Type 0
IsNoneOf kind [] = Unit {0}
IsNoneOf kind (first ∷ kinds) = (kind ≢ first) × IsNoneOf kind kinds

-- the kinds of the tokens that begin a statement
abbrev pub directives : List TokenKind
directives = KwExports ∷ KwHeapsize ∷ KwStacksize ∷ KwName ∷ KwLibrary ∷ KwVersion ∷ []

-- FOLLOW of an ordinal: `NONAME`, if it has none
abbrev pub follow_ordinal : Bool → List TokenKind
follow_ordinal false = KwNoname ∷ []
follow_ordinal true = []

-- FOLLOW of an attribute: only an ordinal can go on
abbrev pub follow_attribute : Attribute → List TokenKind
follow_attribute (Joined n no_name) = follow_ordinal no_name
follow_attribute (Apart n no_name) = follow_ordinal no_name
follow_attribute _ = []

-- FOLLOW of the last attribute
abbrev pub follow_attributes : List Attribute → List TokenKind
follow_attributes [] = []
follow_attributes (last ∷ []) = follow_attribute last
follow_attributes (first ∷ second ∷ rest) = follow_attributes (second ∷ rest)

-- FOLLOW of a bare name: `=`
abbrev pub follow_target : Option (List ℕ) → List Attribute → List TokenKind
follow_target None [] = Equal ∷ []
follow_target _ _ = []

-- the kinds that begin an attribute other than an ordinal
abbrev pub attribute_kinds : List TokenKind
attribute_kinds = EqualEqual ∷ KwData ∷ KwConstant ∷ KwPrivate ∷ []

-- FOLLOW of an export: more attributes, a target, `NONAME`
abbrev pub follow_export : Export → List TokenKind
follow_export e =
    attribute_kinds ++ (follow_target e.target e.attributes ++ follow_attributes e.attributes)

-- FOLLOW of the last export
abbrev pub follow_exports : List Export → List TokenKind
follow_exports [] = []
follow_exports (last ∷ []) = follow_export last
follow_exports (first ∷ second ∷ rest) = follow_exports (second ∷ rest)

-- FOLLOW of a single size: `,`
abbrev pub follow_size : Option ℕ → List TokenKind
follow_size None = Comma ∷ []
follow_size (Some commit) = []

-- FOLLOW of a name without a base: `BASE`
abbrev pub follow_name : Option ℕ → List TokenKind
follow_name None = KwBase ∷ []
follow_name (Some base) = []

-- FOLLOW of a whole statement, as kinds of tokens
abbrev pub follow : Statement → List TokenKind
-- "EXPORTS" { export }: any identifier goes on, as an export or an ordinal
follow (Exports exports) = Identifier ∷ follow_exports exports
-- ( "HEAPSIZE" | "STACKSIZE" ) number [ "," number ]
follow (Sizes region reserve commit) = follow_size commit
-- ( "NAME" | "LIBRARY" ): a name goes on
follow Nameless = Identifier ∷ []
-- ( "NAME" | "LIBRARY" ) word [ "BASE" "=" number ]
follow (Named name base) = follow_name base
-- "VERSION" version
follow (Version major minor) = []

-- FOLLOW of the last statement
abbrev pub follow_last : List Statement → List TokenKind
follow_last [] = []
follow_last (last ∷ []) = follow last
follow_last (first ∷ second ∷ rest) = follow_last (second ∷ rest)

-- the start of a statement, where no export goes on | neither Eof nor a statement's keyword |
--     UnknownDirective with its value
-- That is: whole statements, then a token that neither ends the text, nor begins a statement, nor
-- is in the last one's FOLLOW set. For example, `foo` alone, and the `NONAME` of `EXPORTS foo
-- NONAME`.
pub record IsUnknownDirective (tokens : List TokenView) (cause : Cause) : Type 0 where
  pub statements : List Statement
  pub token : TokenView
  pub rest : List TokenView
  pub begins : StartsWith tokens (terminals statements) (token ∷ rest)
  pub not_end : token.kind ≢ Eof
  pub no_directive : IsNoneOf token.kind directives
  pub not_in_follow : IsNoneOf token.kind (follow_last statements)
  pub reported : cause ≡ UnknownDirective token.value

-- Whole statements, a partial one, and then a token that is unexpected there. For example, the `5`
-- of `NAME x BASE 5`, where `=` is expected.
pub record IsUnexpectedToken (tokens : List TokenView) (cause : Cause) : Type 0 where
  pub statements : List Statement
  pub partial : PartialStatement
  pub token : TokenView
  pub rest : List TokenView
  pub begins : StartsWith tokens (terminals statements ++ partial_terminals partial) (token ∷ rest)
  pub refused : IsUnexpectedAfter partial token cause

-- The tokens have a syntax error, with this cause. For example, those of `VERSION 1.2.3` have
-- ExpectedInteger.
abbrev pub IsSyntaxError : List TokenView → Cause → Type 0
IsSyntaxError tokens cause = IsUnknownDirective tokens cause ⊎ IsUnexpectedToken tokens cause

-- the tokens have a syntax error
abbrev pub HasSyntaxError : List TokenView → Type 0
HasSyntaxError tokens = (cause : Cause) × IsSyntaxError tokens cause

-- the token that a syntax error is about: the first one that no derivation allows
abbrev pub unexpected_token : {tokens : List TokenView} {cause : Cause} →
    IsSyntaxError tokens cause →
    TokenView
unexpected_token (inl error) = error.token
unexpected_token (inr error) = error.token

-- The tokens have a syntax error with this cause, and this is the offset of its token. For example,
-- those of `VERSION 1.2.3` have ExpectedInteger at 8.
pub record IsSyntaxErrorAt (tokens : List TokenView) (cause : Cause) (offset : ℕ) : Type 0 where
  pub error : IsSyntaxError tokens cause
  pub token_is_at : (unexpected_token error).at ≡ offset
