-- A view of the parser, not a promise: readers of token lists, each the answer of one of its
-- functions. A reader gives a value and the tokens after it, or the first refusal.
use Rattle.std.specs.Prelude.{ℕ, zero, suc, ◌==◌, ◌&&◌, ◌++◌, Bool, true, false, List, [], ◌∷◌, map}
use Rattle.std.specs.Prelude.{length, Option, Some, None, unwrap_or, option_map, Result, Ok, Err}
use Rattle.std.specs.Prelude.{if◌then◌else◌, nat_lt, nat_le}
use Rattle.std.specs.List.{fold}
use Rattle.std.specs.Str.{all_ascii_digits}
use Rattle.std.specs.Str.Parse.{digits_value, without_leading_plus}
use Rattle.implib.specs.declared.def.lexer.TokenKind.{TokenKind}
use Rattle.implib.specs.declared.def.lexer.TokenKind.TheVariants.{Eof, Identifier, Comma, Equal}
use Rattle.implib.specs.declared.def.lexer.TokenKind.TheVariants.{EqualEqual, KwBase, KwConstant}
use Rattle.implib.specs.declared.def.lexer.TokenKind.TheVariants.{KwData, KwExports, KwHeapsize}
use Rattle.implib.specs.declared.def.lexer.TokenKind.TheVariants.{KwLibrary, KwName, KwNoname}
use Rattle.implib.specs.declared.def.lexer.TokenKind.TheVariants.{KwPrivate, KwStacksize, KwVersion}
use Rattle.implib.specs.declared.machine.MachineType.{MachineType}
use Rattle.implib.specs.Definition.{DefinitionView, ExportView, empty_definition}
use Rattle.implib.specs.Fault.{Cause, UnknownDirective, ExpectedIdentifier, ExpectedEqual}
use Rattle.implib.specs.Fault.{ExpectedInteger, InvalidOrdinal, LoneAt}
use Rattle.implib.specs.Text.Grammar.{Attribute, Joined, Apart, Data, Constant, Private, Alias}
use Rattle.implib.specs.Text.Grammar.{Export, Region, Heap, Stack, Statement, Exports, Sizes}
use Rattle.implib.specs.Text.Grammar.{Nameless, Named, Version, at_sign, full_stop}
use Rattle.implib.specs.Text.Meaning.{ordinal_in, no_name_in, is_data_in, constant_in, private_in}
use Rattle.implib.specs.Underscore.{decorated}
use Rattle.implib.specs.Text.Meaning.{alias_in, exports_in, import_name_in, image_base_in}
use Rattle.implib.specs.Text.Meaning.{stack_reserve_in, stack_commit_in, heap_reserve_in}
use Rattle.implib.specs.Text.Meaning.{heap_commit_in, major_in, minor_in}
use Rattle.implib.specs.Text.Number.{u16_limit, u32_limit, u64_limit}
use Rattle.implib.specs.Text.Token.{TokenView}

-- why a token is refused, and where the token is
pub record Refusal : Type 0 where
  pub cause : Cause
  pub at : ℕ

-- the token is refused, for this cause
abbrev pub refusal_of : Cause → TokenView → Refusal
refusal_of cause token = record { cause = cause; at = token.at }

-- a token is missing: no text has such tokens, as Eof is the last one and is never passed
abbrev pub missing : Cause → Refusal
missing cause = record { cause = cause; at = 0 }

-- what a reader gives
abbrev pub Reader : Type 0 → Type 0
Reader A = Result (A × List TokenView) Refusal

-- go on where a reader gave a value
infixl 10 ◌>>=◌
abbrev pub ◌>>=◌ : {A B : Type 0} → Result A Refusal → (A → Result B Refusal) → Result B Refusal
(Ok x) >>= f = f x
(Err e) >>= f = Err e

-- the number that digits write, where they are some and it is at most the limit
abbrev pub number_by : List ℕ → ℕ → Option ℕ
number_by digits limit =
    if all_ascii_digits digits
    && (nat_lt 0 (length digits) && nat_le (digits_value 10 digits) limit)
    then Some (digits_value 10 digits) else None

-- the number that a value is, at most the limit
unfoldable pub number_of : List ℕ → ℕ → Option ℕ
number_of value limit = number_by (without_leading_plus value) limit

-- what comes before and after the first `.`
abbrev pub cons_first : ℕ → Option (List ℕ × List ℕ) → Option (List ℕ × List ℕ)
cons_first byte None = None
cons_first byte (Some parts) = Some (byte ∷ parts.0, parts.1)

abbrev pub at_stop : List ℕ → Option (List ℕ × List ℕ)
at_stop [] = None
at_stop (byte ∷ rest) =
    if byte == full_stop then Some ([], rest) else cons_first byte (at_stop rest)

-- two numbers, where both are there
abbrev pub both : Option ℕ → Option ℕ → Option (ℕ × ℕ)
both (Some major) (Some minor) = Some (major, minor)
both _ _ = None

-- the numbers of a version, cut at the first `.` if there is one
abbrev pub version_by : List ℕ → Option (List ℕ × List ℕ) → Option (ℕ × ℕ)
version_by value None = both (number_of value u32_limit) (Some 0)
version_by value (Some parts) = both (number_of parts.0 u32_limit) (number_of parts.1 u32_limit)

unfoldable pub version_of : List ℕ → Option (ℕ × ℕ)
version_of value = version_by value (at_stop value)

-- what a word is among attributes: `@` alone, `@` with a number of 16 bits, or anything else
pub data AtWord : Type 0 where
  Lone : AtWord
  WithOrdinal : ℕ → AtWord
  Plain : AtWord

abbrev pub at_number : Option ℕ → AtWord
at_number (Some n) = WithOrdinal n
at_number None = Plain

abbrev pub after_at : List ℕ → AtWord
after_at [] = Lone
after_at (byte ∷ rest) = at_number (number_of (byte ∷ rest) u16_limit)

unfoldable pub at_word : List ℕ → AtWord
at_word [] = Plain
at_word (byte ∷ rest) = if byte == at_sign then after_at rest else Plain

-- an identifier
abbrev pub word_by : TokenKind → TokenView → List TokenView → Reader TokenView
word_by Identifier token rest = Ok (token, rest)
word_by kind token rest = Err (refusal_of (ExpectedIdentifier kind) token)

unfoldable pub word_read : List TokenView → Reader TokenView
word_read [] = Err (missing (ExpectedIdentifier Eof))
word_read (token ∷ rest) = word_by token.kind token rest

-- a value that a word gives, or else the word is refused
abbrev pub integer_or : {A : Type 0} → Option A → TokenView → List TokenView → Reader A
integer_or (Some n) word rest = Ok (n, rest)
integer_or None word rest = Err (refusal_of ExpectedInteger word)

abbrev pub number_from : TokenView × List TokenView → Reader ℕ
number_from word = integer_or (number_of word.0.value u64_limit) word.0 word.1

-- a number of 64 bits
unfoldable pub number_read : List TokenView → Reader ℕ
number_read tokens = word_read tokens >>= number_from

abbrev pub version_from : TokenView × List TokenView → Reader (ℕ × ℕ)
version_from word = integer_or (version_of word.0.value) word.0 word.1

-- a version
unfoldable pub version_read : List TokenView → Reader (ℕ × ℕ)
version_read tokens = word_read tokens >>= version_from

abbrev pub some_number : ℕ × List TokenView → Reader (Option ℕ)
some_number n = Ok (Some n.0, n.1)

-- a comma and a number, or nothing
abbrev pub commit_by : TokenKind → TokenView → List TokenView → Reader (Option ℕ)
commit_by Comma token rest = number_read rest >>= some_number
commit_by kind token rest = Ok (None, token ∷ rest)

unfoldable pub commit_read : List TokenView → Reader (Option ℕ)
commit_read [] = Ok (None, [])
commit_read (token ∷ rest) = commit_by token.kind token rest

abbrev pub sizes_of : ℕ → Option ℕ × List TokenView → Reader (ℕ × Option ℕ)
sizes_of reserve commit = Ok ((reserve, commit.0), commit.1)

abbrev pub sizes_from : ℕ × List TokenView → Reader (ℕ × Option ℕ)
sizes_from reserve = commit_read reserve.1 >>= sizes_of reserve.0

-- one size or two
unfoldable pub sizes_read : List TokenView → Reader (ℕ × Option ℕ)
sizes_read tokens = number_read tokens >>= sizes_from

-- the tokens after `=`
abbrev pub sign_by : TokenKind → TokenView → List TokenView → Result (List TokenView) Refusal
sign_by Equal token rest = Ok rest
sign_by kind token rest = Err (refusal_of (ExpectedEqual kind) token)

unfoldable pub sign_read : List TokenView → Result (List TokenView) Refusal
sign_read [] = Err (missing (ExpectedEqual Eof))
sign_read (token ∷ rest) = sign_by token.kind token rest

-- `BASE`, `=` and a number, or nothing
abbrev pub base_by : TokenKind → TokenView → List TokenView → Reader (Option ℕ)
base_by KwBase token rest = sign_read rest >>= number_read >>= some_number
base_by kind token rest = Ok (None, token ∷ rest)

unfoldable pub base_read : List TokenView → Reader (Option ℕ)
base_read [] = Ok (None, [])
base_read (token ∷ rest) = base_by token.kind token rest

abbrev pub named_from : List ℕ → Option ℕ × List TokenView → Reader Statement
named_from name base = Ok (Named name base.0, base.1)

-- a name with its base, or nothing
abbrev pub name_by : TokenKind → TokenView → List TokenView → Reader Statement
name_by Identifier token rest = base_read rest >>= named_from token.value
name_by kind token rest = Ok (Nameless, token ∷ rest)

unfoldable pub name_read : List TokenView → Reader Statement
name_read [] = Ok (Nameless, [])
name_read (token ∷ rest) = name_by token.kind token rest

-- `NONAME`, or nothing
abbrev pub no_name_by : TokenKind → TokenView → List TokenView → Bool × List TokenView
no_name_by KwNoname token rest = (true, rest)
no_name_by kind token rest = (false, token ∷ rest)

unfoldable pub no_name_read : List TokenView → Bool × List TokenView
no_name_read [] = (false, [])
no_name_read (token ∷ rest) = no_name_by token.kind token rest

-- the ordinal after a lone `@`
abbrev pub ordinal_or : Option ℕ → TokenView → List TokenView → Reader ℕ
ordinal_or (Some n) token rest = Ok (n, rest)
ordinal_or None token rest = Err (refusal_of (InvalidOrdinal token.value) token)

abbrev pub ordinal_by : TokenKind → TokenView → List TokenView → Reader ℕ
ordinal_by Eof token rest = Err (refusal_of (ExpectedIdentifier Eof) token)
ordinal_by kind token rest = ordinal_or (number_of token.value u16_limit) token rest

unfoldable pub ordinal_read : List TokenView → Reader ℕ
ordinal_read [] = Err (missing (ExpectedIdentifier Eof))
ordinal_read (token ∷ rest) = ordinal_by token.kind token rest

-- an attribute and the tokens after it
abbrev pub joined_from : ℕ → Bool × List TokenView → Reader (Option Attribute)
joined_from n no_name = Ok (Some (Joined n no_name.0), no_name.1)

abbrev pub apart_of : ℕ → Bool × List TokenView → Reader (Option Attribute)
apart_of n no_name = Ok (Some (Apart n no_name.0), no_name.1)

abbrev pub apart_from : ℕ × List TokenView → Reader (Option Attribute)
apart_from n = apart_of n.0 (no_name_read n.1)

abbrev pub alias_from : TokenView × List TokenView → Reader (Option Attribute)
alias_from word = Ok (Some (Alias word.0.value), word.1)

-- an ordinal, or nothing
abbrev pub at_attribute : AtWord → TokenView → List TokenView → Reader (Option Attribute)
at_attribute Lone token rest = ordinal_read rest >>= apart_from
at_attribute (WithOrdinal n) token rest = joined_from n (no_name_read rest)
at_attribute Plain token rest = Ok (None, token ∷ rest)

abbrev pub attribute_by : TokenKind → TokenView → List TokenView → Reader (Option Attribute)
attribute_by Identifier token rest = at_attribute (at_word token.value) token rest
attribute_by EqualEqual token rest = word_read rest >>= alias_from
attribute_by KwData token rest = Ok (Some Data, rest)
attribute_by KwConstant token rest = Ok (Some Constant, rest)
attribute_by KwPrivate token rest = Ok (Some Private, rest)
attribute_by kind token rest = Ok (None, token ∷ rest)

-- an attribute, or nothing
unfoldable pub attribute_read : List TokenView → Reader (Option Attribute)
attribute_read [] = Ok (None, [])
attribute_read (token ∷ rest) = attribute_by token.kind token rest

-- one item more, or the end
abbrev pub cons_item : {A : Type 0} → A → List A × List TokenView → Reader (List A)
cons_item first others = Ok (first ∷ others.0, others.1)

abbrev pub many_from : {A : Type 0} → (List TokenView → Reader (List A)) →
    Option A × List TokenView →
    Reader (List A)
many_from others (None, rest) = Ok ([], rest)
many_from others (Some first, rest) = others rest >>= cons_item first

-- at most n items, one after another, until there is none
unfoldable pub many : {A : Type 0} → (List TokenView → Reader (Option A)) → ℕ → List TokenView →
    Reader (List A)
many item zero tokens = Ok ([], tokens)
many item (suc n) tokens = item tokens >>= many_from (many item n)

-- all items, as each takes a token
abbrev pub all : {A : Type 0} → (List TokenView → Reader (Option A)) → List TokenView →
    Reader (List A)
all item tokens = many item (length tokens) tokens

-- the word after the `=` of an export
abbrev pub target_of : AtWord → TokenView × List TokenView → Reader (Option (List ℕ))
target_of Lone word = Err (refusal_of LoneAt word.0)
target_of _ word = Ok (Some word.0.value, word.1)

abbrev pub target_from : TokenView × List TokenView → Reader (Option (List ℕ))
target_from word = target_of (at_word word.0.value) word

-- `=` and a word other than `@`, or nothing
abbrev pub target_by : TokenKind → TokenView → List TokenView → Reader (Option (List ℕ))
target_by Equal token rest = word_read rest >>= target_from
target_by kind token rest = Ok (None, token ∷ rest)

unfoldable pub target_read : List TokenView → Reader (Option (List ℕ))
target_read [] = Ok (None, [])
target_read (token ∷ rest) = target_by token.kind token rest

-- all attributes at the front of the tokens
unfoldable pub attributes_read : List TokenView → Reader (List Attribute)
attributes_read tokens = all attribute_read tokens

abbrev pub export_of : List ℕ → Option (List ℕ) → List Attribute × List TokenView →
    Reader (Option Export)
export_of word target attributes =
    Ok (Some (record { word = word; target = target; attributes = attributes.0 }), attributes.1)

abbrev pub export_from : List ℕ → Option (List ℕ) × List TokenView → Reader (Option Export)
export_from word target = attributes_read target.1 >>= export_of word target.0

-- an export, or nothing
abbrev pub export_by : TokenKind → TokenView → List TokenView → Reader (Option Export)
export_by Identifier token rest = target_read rest >>= export_from token.value
export_by kind token rest = Ok (None, token ∷ rest)

unfoldable pub export_read : List TokenView → Reader (Option Export)
export_read [] = Ok (None, [])
export_read (token ∷ rest) = export_by token.kind token rest

-- all exports at the front of the tokens
unfoldable pub exports_read : List TokenView → Reader (List Export)
exports_read tokens = all export_read tokens

-- a statement and the tokens after it
abbrev pub exports_from : List Export × List TokenView → Reader (Option Statement)
exports_from exports = Ok (Some (Exports exports.0), exports.1)

abbrev pub region_from : Region → (ℕ × Option ℕ) × List TokenView → Reader (Option Statement)
region_from region sizes = Ok (Some (Sizes region sizes.0.0 sizes.0.1), sizes.1)

abbrev pub some_statement : Statement × List TokenView → Reader (Option Statement)
some_statement statement = Ok (Some statement.0, statement.1)

abbrev pub versions_from : (ℕ × ℕ) × List TokenView → Reader (Option Statement)
versions_from version = Ok (Some (Version version.0.0 version.0.1), version.1)

abbrev pub statement_by : TokenKind → TokenView → List TokenView → Reader (Option Statement)
statement_by Eof token rest = Ok (None, token ∷ rest)
statement_by KwExports token rest = exports_read rest >>= exports_from
statement_by KwHeapsize token rest = sizes_read rest >>= region_from Heap
statement_by KwStacksize token rest = sizes_read rest >>= region_from Stack
statement_by KwName token rest = name_read rest >>= some_statement
statement_by KwLibrary token rest = name_read rest >>= some_statement
statement_by KwVersion token rest = version_read rest >>= versions_from
statement_by kind token rest = Err (refusal_of (UnknownDirective token.value) token)

-- a statement, or nothing at the end
unfoldable pub statement_read : List TokenView → Reader (Option Statement)
statement_read [] = Ok (None, [])
statement_read (token ∷ rest) = statement_by token.kind token rest

-- all statements
unfoldable pub statements_read : List TokenView → Reader (List Statement)
statements_read tokens = all statement_read tokens

-- an export after one more attribute
abbrev pub with_attribute : ExportView → Attribute → ExportView
with_attribute e a = record {
  name = e.name;
  ext_name = e.ext_name;
  symbol_name = e.symbol_name;
  asked_name = e.asked_name;
  alias_target = unwrap_or (alias_in a) e.alias_target;
  ordinal = unwrap_or (ordinal_in a) e.ordinal;
  no_name = unwrap_or (no_name_in a) e.no_name;
  is_data = unwrap_or (is_data_in a) e.is_data;
  private = unwrap_or (private_in a) e.private;
  constant = unwrap_or (constant_in a) e.constant;
}

-- an export with its word and its target alone
abbrev pub named_export : MachineType → List ℕ → Option (List ℕ) → ExportView
named_export machine word target = record {
  name = decorated machine (unwrap_or target word);
  ext_name = option_map (λ other. decorated machine word) target;
  symbol_name = [];
  asked_name = None;
  alias_target = [];
  ordinal = 0;
  no_name = false;
  is_data = false;
  private = false;
  constant = false;
}

-- an export after all of its attributes
unfoldable pub made_export : MachineType → Export → ExportView
made_export machine e = fold with_attribute (named_export machine e.word e.target) e.attributes

-- a definition after a statement without exports
abbrev pub with_settings : DefinitionView → Statement → DefinitionView
with_settings d s = record {
  exports = d.exports;
  import_name = unwrap_or (import_name_in s) d.import_name;
  library_name = d.library_name;
  image_base = unwrap_or (image_base_in s) d.image_base;
  stack_reserve = unwrap_or (stack_reserve_in s) d.stack_reserve;
  stack_commit = unwrap_or (stack_commit_in s) d.stack_commit;
  heap_reserve = unwrap_or (heap_reserve_in s) d.heap_reserve;
  heap_commit = unwrap_or (heap_commit_in s) d.heap_commit;
  major_image_version = unwrap_or (major_in s) d.major_image_version;
  minor_image_version = unwrap_or (minor_in s) d.minor_image_version;
  major_os_version = d.major_os_version;
  minor_os_version = d.minor_os_version;
}

-- a definition after one more statement
abbrev pub with_statement : MachineType → DefinitionView → Statement → DefinitionView
with_statement machine d s = record (with_settings d s) {
  exports = d.exports ++ map (made_export machine) (exports_in s);
}

-- a definition after all statements
unfoldable pub with_statements : MachineType → DefinitionView → List Statement → DefinitionView
with_statements machine d statements = fold (with_statement machine) d statements

abbrev pub definition_from : MachineType → List Statement × List TokenView →
    Result DefinitionView Refusal
definition_from machine statements = Ok (with_statements machine empty_definition statements.0)

-- the definition that the tokens give
unfoldable pub read : MachineType → List TokenView → Result DefinitionView Refusal
read machine tokens = statements_read tokens >>= definition_from machine
