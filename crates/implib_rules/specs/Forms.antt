-- What is refused of a definition that its grammar takes: a quoted name that its line does not
-- close, and in the line of an export an ordinal that is none, or a second one (this project's
-- choice; docs/DLLTOOL.md, "What a definition may hold"). Each would make a name that nobody means.
use Rattle.std.specs.Prelude.{◌≡◌, ℕ, ◌+◌, ◌==◌, Bool, true, false, not, ◌&&◌, ◌||◌, List, []}
use Rattle.std.specs.Prelude.{◌∷◌, Option, None, Some, drop, if◌then◌else◌, is_some, take}
use Rattle.std.specs.List.{fold, list_any}
use Rattle.implib.specs.declared.def.lexer.TokenKind.{TokenKind}
use Rattle.implib.specs.declared.def.lexer.TokenKind.TheVariants as kind
use Rattle.implib.specs.declared.def.listener.Role.{Role}
use Rattle.implib.specs.declared.def.listener.Role.TheVariants.{Name, Other}
use Rattle.implib.specs.declared.def.position.Position.{Position}
use Rattle.implib.specs.Ascii.{at_sign, begins, begins_with}
use Rattle.implib.specs.Fault.{Cause, ExpectedIdentifier, InvalidOrdinal, UnknownDirective}
use Rattle.implib.specs.Text.Heard.{Heard, IsHeard}
use Rattle.implib.specs.Text.Position.{position_at}
use Rattle.implib.specs.Text.Token.{TokenView}
use Rattle.implib_rules.specs.declared.form.Point.{Point}
use Rattle.implib_rules.specs.declared.form.Problem.{Problem}
use Rattle.implib_rules.specs.declared.form.Problem.TheVariants.{NoOrdinal, SecondOrdinal}
use Rattle.implib_rules.specs.declared.plain.Part.{Part}
use Rattle.implib_rules.specs.declared.plain.Part.TheVariants.{Between}
use Rattle.implib_rules.specs.declared.plain.Reading.{Reading}
use Rattle.implib_rules.specs.Linked.{is_at_sign}
use Rattle.implib_rules.specs.Names.{is_identifier}
use Rattle.implib_rules.specs.Plain.{after_all, beginning, step_of}
use Rattle.implib_rules.specs.Warnings.{is_ordinal_like}

-- ---- quotes

-- a byte of a quoted name in its line
abbrev pub is_in_quotes : ℕ → Bool
is_in_quotes b = not (b == 34) && not (b == 10)

-- after a `"`: another one ends the name in its line
abbrev pub is_quote_closed : List ℕ → Bool
is_quote_closed text = begins (λ b. b == 34) (after_all is_in_quotes text)

-- a lexeme may begin here
abbrev pub is_between : Part → Bool
is_between Between = true
is_between _ = false

-- the byte is a `"` that begins a name which its line does not close
abbrev pub is_open : Reading → ℕ → List ℕ → Bool
is_open reading b rest = b == 34 && (is_between reading.part && not (is_quote_closed rest))

-- the offset of the first such quote in what is left of a text, from an offset on
unfoldable pub open_quote_from : Reading → ℕ → List ℕ → Option ℕ
open_quote_from reading at [] = None
open_quote_from reading at (b ∷ rest) =
    if is_open reading b rest then Some at
    else open_quote_from (step_of reading b (b ∷ rest) rest).reading (at + 1) rest

-- The offset of the first quote that its line does not close. For example, that of `LIBRARY "a`, a
-- line end and `EXPORTS b` is 8.
abbrev pub open_quote : List ℕ → Option ℕ
open_quote text = open_quote_from beginning 0 text

-- ---- ordinals

-- the keyword begins a statement
abbrev pub begins_statement : TokenKind → Bool
begins_statement kind.KwExports = true
begins_statement kind.KwHeapsize = true
begins_statement kind.KwLibrary = true
begins_statement kind.KwName = true
begins_statement kind.KwStacksize = true
begins_statement kind.KwVersion = true
begins_statement _ = false

-- the token is `=` or `==`, which a name follows
abbrev pub is_sign : TokenKind → Bool
is_sign kind.Equal = true
is_sign kind.EqualEqual = true
is_sign _ = false

-- before any token
abbrev pub at_beginning : Point
at_beginning = record { in_export = false; after_sign = false; has_ordinal = false; at = 0 }

-- from one offset of a text to another no line ends
abbrev pub is_same_line : List ℕ → ℕ → ℕ → Bool
is_same_line text from to = not (list_any (λ b. b == 10) (drop from (take to text)))

-- a token that is no name of an export begins an ordinal: an `@` is in front of it, and no sign
-- before it
abbrev pub is_ordinal : Point → TokenView → Bool
is_ordinal p t = is_identifier t.kind && (not p.after_sign && begins_with at_sign t.value)

-- Whether a word behind an export in its line can be meant as an ordinal alone: it begins as one
-- does, or with an `@` and has no other, so that it is no name of fastcall, as `@seven`.
abbrev pub is_meant_as_ordinal : List ℕ → Bool
is_meant_as_ordinal word =
    is_ordinal_like word
    || (begins_with at_sign word && not (list_any is_at_sign (drop 1 word)))

-- What is wrong with a token, where the one before it is of an export: it is the name of another
-- one in the same line, which can be meant as an ordinal alone, or a second ordinal.
abbrev pub problem_at : List ℕ → Point → Role → TokenView → Option Problem
problem_at text p Name t =
    if p.in_export && (is_meant_as_ordinal t.value && is_same_line text p.at t.at)
    then Some NoOrdinal else None
problem_at text p Other t =
    if p.in_export && (p.has_ordinal && is_ordinal p t) then Some SecondOrdinal else None

-- after one more token
abbrev pub point_after : Point → Role → TokenView → Point
point_after p Name t =
    record { in_export = true; after_sign = false; has_ordinal = false; at = t.at }
point_after p Other t = record {
  in_export = p.in_export && not (begins_statement t.kind);
  after_sign = is_sign t.kind;
  has_ordinal = p.has_ordinal || is_ordinal p t;
  at = t.at;
}

-- a word that is wrong, and its offset
pub record Misplaced : Type 0 where
  pub problem : Problem
  pub word : List ℕ
  pub at : ℕ

-- what is known after some tokens: where they end, and the first of them that is wrong
pub record Formed : Type 0 where
  pub point : Point
  pub misplaced : Option Misplaced

abbrev pub formed_by : Formed → Role → TokenView → Option Problem → Formed
formed_by f role t None = record { point = point_after f.point role t; misplaced = None }
formed_by f role t (Some problem) = record {
  point = f.point;
  misplaced = Some (record { problem = problem; word = t.value; at = t.at });
}

-- after one more token of a text; what follows the first that is wrong does not count
abbrev pub formed_on : List ℕ → Formed → Heard → Formed
formed_on text f h = if is_some f.misplaced then f
    else formed_by f h.role h.token (problem_at text f.point h.role h.token)

abbrev pub unformed : Formed
unformed = record { point = at_beginning; misplaced = None }

abbrev pub formed_by_all : List ℕ → List Heard → Formed
formed_by_all text heard = fold (formed_on text) unformed heard

-- The first word of a text, of which these tokens are heard, that is wrong. For example, of `f
-- @65536` and of `f @1 @2` it is the last one.
abbrev pub misplaced_in : List ℕ → List Heard → Option Misplaced
misplaced_in text heard = (formed_by_all text heard).misplaced

-- what is said of a wrong word
abbrev pub cause_of_problem : Problem → List ℕ → Cause
cause_of_problem NoOrdinal word = InvalidOrdinal word
cause_of_problem SecondOrdinal word = UnknownDirective word

-- ---- both

-- the definition of a text has neither
pub record IsFormed (text : List ℕ) (heard : List Heard) : Type 0 where
  pub quotes : open_quote text ≡ None
  pub ordinals : misplaced_in text heard ≡ None

-- the text has a quote that its line does not close: its first one is here
pub record IsOpenAt (text : List ℕ) (cause : Cause) (position : Position) : Type 0 where
  pub is : cause ≡ ExpectedIdentifier kind.Unknown
  pub found : open_quote text ≡ Some position.offset
  pub there : position ≡ position_at text position.offset

-- the text has no such quote, and its first wrong word is here
pub record IsMisplacedAt (text : List ℕ) (cause : Cause) (position : Position) : Type 0 where
  pub quotes : open_quote text ≡ None
  pub heard : List Heard
  pub is_heard : IsHeard text heard
  pub misplaced : Misplaced
  pub found : misplaced_in text heard ≡ Some misplaced
  pub is : cause ≡ cause_of_problem misplaced.problem misplaced.word
  pub there : position ≡ position_at text misplaced.at
