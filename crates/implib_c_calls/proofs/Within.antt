-- The offset of a refusal is within its text.
use Rattle.std.proofs.Common.{◌≡◌, ℕ, zero, suc, ◌+◌, ◌<◌, ◌≤◌, ◌^◌, Bool, true, false, List, [], ◌∷◌, Option, None, Some, length, drop, get_or, map, nat_eq, subst, sym, arith, if◌then◌else◌, ap, inl, inr}
use Rattle.std.specs.List.{AllByRecursion, fold}
use Rattle.std.proofs.lemmas.List.{length-drop}
use Rattle.std.proofs.lemmas.Option.{none-some, same_Some}
use Rattle.implib.specs.declared.def.listener.Role.{Role}
use Rattle.implib.specs.declared.def.listener.Role.TheVariants.{Name, Other}
use Rattle.implib.specs.declared.def.position.Position.{Position}
use Rattle.implib.specs.Fault.{Cause, cause_of, export_index}
use Rattle.implib.specs.Text.Heard.{Heard, heard_of, names_of, roles_of}
use Rattle.implib.specs.Text.Token.{TokenView}
use Rattle.implib.proofs.Text.RefusedWithin.{BeginsBy, refused_within, tokens_begin}
use Rattle.implib_rules.specs.declared.library.Refusal.{Refusal}
use Rattle.implib_rules.specs.declared.library.Refusal.TheVariants as refusal
use Rattle.implib_rules.proofs.PlainPlaces.{places_kept}
use Rattle.implib_rules.specs.declared.plain.Reading.{Reading}
use Rattle.implib_rules.specs.Forms.{Formed, IsMisplacedAt, Misplaced, formed_on, is_open, open_quote_from, unformed}
use Rattle.implib_rules.specs.Library.{IsRefusalOfMembers, IsSyntaxErrorAt, definition_text}
use Rattle.implib_rules.specs.Options.{LibraryOptionsView}
use Rattle.implib_rules.specs.Plain.{beginning, step_of}
use Rattle.implib_rules.specs.Places.{IsAtExport}
use Rattle.implib_libraries.specs.NullDescriptor.Libraries.{IsRefusalOfNamed}
use Rattle.implib_c_calls.specs.LibraryWith.{IsWithin, mark_length}

-- what holds of all tokens holds of those that are heard as names
names_all : (P : TokenView → Type 0) (roles : List Role) (tokens : List TokenView) → AllByRecursion P tokens → AllByRecursion P (names_of (heard_of roles tokens))
names_all P [] tokens all = tt
names_all P (role ∷ roles) [] all = tt
names_all P (Name ∷ roles) (token ∷ tokens) all = (all.0, names_all P roles tokens all.1)
names_all P (Other ∷ roles) (token ∷ tokens) all = names_all P roles tokens all.1

-- the offset of the name at an index, or 0
name_begins : (end : ℕ) (names : List TokenView) (index : ℕ) → AllByRecursion (BeginsBy end) names → get_or (map (λ t. t.at) names) index 0 ≤ end
name_begins end [] zero all = omega arith
name_begins end [] (suc index) all = omega arith
name_begins end (name ∷ names) zero all = all.0
name_begins end (name ∷ names) (suc index) all = name_begins end names index all.1

-- the position of an export, or of the beginning
pub export_within : (text : List ℕ) (index : Option ℕ) (position : Position) → IsAtExport text index position → position.offset ≤ length text
export_within text None position at = let same = ap (λ (p : Position). p.offset) at in omega (arith, same)
export_within text (Some index) position at = grind (arith, length text, tokens_begin text at.is_heard.tokens at.is_heard.lexed, names_all, name_begins)

-- a quote that its line does not close is in the text
open_within : (text : List ℕ) (reading : Reading) (at found : ℕ) → open_quote_from reading at text ≡ Some found → found ≤ at + length text
unfolding open_quote_from
open_within [] reading at found is = absurd (none-some found is)
open_within (b ∷ rest) reading at found is = by (is_open reading b rest) (open_within rest (step_of reading b (b ∷ rest) rest).reading (at + 1) found) is
  where
    by : (opens : Bool)
        → (open_quote_from (step_of reading b (b ∷ rest) rest).reading (at + 1) rest ≡ Some found → found ≤ at + 1 + length rest)
        → (if opens then Some at else open_quote_from (step_of reading b (b ∷ rest) rest).reading (at + 1) rest) ≡ Some found
        → found ≤ at + length (b ∷ rest)
    by true later is = let same = same_Some at found is in omega (arith, same)
    by false later is = let within = later is in omega (arith, within)

module _ (end : ℕ) (text : List ℕ) where
  -- a wrong word is one of the tokens
  one_within : (f : Formed) (h : Heard) → ((m : Misplaced) → f.misplaced ≡ Some m → m.at ≤ end) → h.token.at ≤ end
      → (m : Misplaced) → (formed_on text f h).misplaced ≡ Some m → m.at ≤ end
  one_within f h before here m is = grind (arith, true, false, none-some, same_Some)

  all_within : (heard : List Heard) (f : Formed) → ((m : Misplaced) → f.misplaced ≡ Some m → m.at ≤ end)
      → AllByRecursion (λ (h : Heard). h.token.at ≤ end) heard → (m : Misplaced) → (fold (formed_on text) f heard).misplaced ≡ Some m → m.at ≤ end
  all_within [] f before all m is = before m is
  all_within (h ∷ heard) f before all m is = all_within heard (formed_on text f h) (one_within f h before all.0) all.1 m is

all_heard : (end : ℕ) (roles : List Role) (tokens : List TokenView) → AllByRecursion (BeginsBy end) tokens → AllByRecursion (λ (h : Heard). h.token.at ≤ end) (heard_of roles tokens)
all_heard end [] tokens all = tt
all_heard end (role ∷ roles) [] all = tt
all_heard end (role ∷ roles) (token ∷ tokens) all = (all.0, all_heard end roles tokens all.1)

misplaced_within : (text : List ℕ) (cause : Cause) (position : Position) → IsMisplacedAt text cause position → position.offset ≤ length text
misplaced_within text cause position at =
    let same = ap (λ (p : Position). p.offset) at.there in
    let tokens = all_heard (length text) (roles_of at.is_heard.statements) at.is_heard.tokens (tokens_begin text at.is_heard.tokens at.is_heard.lexed) in
    let heard = subst (AllByRecursion (λ (h : Heard). h.token.at ≤ length text)) (sym at.is_heard.is) tokens in
    let within = all_within (length text) text at.heard unformed (λ m none. absurd (none-some m none)) heard at.misplaced at.found in
    omega (arith, same, within)

-- a syntax error is within its text
pub syntax_within : (text : List ℕ) (cause : Cause) (position : Position) → IsSyntaxErrorAt text cause position → position.offset ≤ length text
syntax_within text cause position (inl unclosed) = let within = open_within text beginning 0 position.offset unclosed.found in omega (arith, within)
syntax_within text cause position (inr (inl parsed)) = refused_within text cause position.offset parsed.1.0
syntax_within text cause position (inr (inr misplaced)) = misplaced_within text cause position misplaced

-- a refusal of members is within its text
pub refusal_within : (text : List ℕ) (options : LibraryOptionsView) (why : Refusal) → IsRefusalOfMembers text options why → IsWithin text why
refusal_within text options (refusal.NotUtf8 position) is = let short = is.longest.short in omega (arith, short)
refusal_within text options (refusal.Syntax fault position) is = syntax_within (definition_text text) (cause_of fault) position is.refused
refusal_within text options (refusal.Members fault position) is = export_within (definition_text text) (export_index (cause_of fault)) position is.1
refusal_within text options _ is = tt

-- and so is one of members with a named null descriptor
pub named_within : (text : List ℕ) (options : LibraryOptionsView) (why : Refusal) → IsRefusalOfNamed text options why → IsWithin text why
named_within text options why is = grind (arith, inl, refusal_within, inr, export_within)

-- an offset in the text has 64 bits, where the text's length has
mark_fits : (text : List ℕ) (offset : ℕ) (marked : Bool) → length text < 2 ^ 64 → offset ≤ length (if marked then drop 3 text else text) → (if marked then 3 else 0) + offset < 2 ^ 64
mark_fits text offset true short within = let rest = length-drop 3 text in omega (arith, rest, short, within)
mark_fits text offset false short within = omega (arith, short, within)

pub offset_fits : (text : List ℕ) (offset : ℕ) → length text < 2 ^ 64 → offset ≤ length (definition_text text) → mark_length text + offset < 2 ^ 64
offset_fits text offset short within = grind (arith, mark_fits, nat_eq, places_kept)
