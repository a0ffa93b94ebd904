-- The places that C has of refused texts are those of the refusals.
use Rattle.std.proofs.Common.{◌≡◌, ◌∙◌, ℕ, ◌+◌, ◌-◌, List, Option, None, Some, ap, arith, inl, inr, sym, take}
use Rattle.std.proofs.lemmas.Option.{none-some, same_Some}
use Rattle.implib.specs.declared.def.position.Position.{Position}
use Rattle.implib.specs.Fault.{Cause, cause_of, export_index}
use Rattle.implib.specs.Text.Position.{line_and_column, position_at}
use Rattle.implib_rules.specs.declared.library.Refusal.TheVariants as refusal
use Rattle.implib_rules.proofs.PlainPlaces.{places_kept}
use Rattle.implib_rules.specs.Library.{IsSyntaxErrorAt, definition_text, position_of_export, without_mark}
use Rattle.implib_rules.specs.Places.{IsAtExport}
use Rattle.implib_c_calls.specs.LibraryWith.{mark_length, place_of_export}
use Rattle.implib_c_calls.specs.Place.{PlacesAreOfRefusals, text_before}

-- the position of some offset is that of its own
own_offset : (text : List ℕ) (offset : ℕ) (position : Position) → position ≡ position_at text offset → position ≡ position_at text position.offset
own_offset text offset position is = is ∙ ap (position_at text) (sym (ap (λ (p : Position). p.offset) is))

-- line and column of a position in the text of a definition, by its offset in the bytes
in_bytes : (text : List ℕ) (position : Position) → position ≡ position_at (definition_text text) position.offset
    → line_and_column (text_before text (mark_length text + position.offset)) ≡ (position.line, position.column)
in_bytes text position is =
    let after_mark : mark_length text + position.offset - mark_length text ≡ position.offset = omega arith in
    ap (λ n. line_and_column (take n (without_mark text))) after_mark
    ∙ ap (λ (p : Position). (p.line, p.column)) (sym ((places_kept (without_mark text)).positions position.offset) ∙ sym is)

of_export : (text : List ℕ) (index : Option ℕ) (at position : Position) → IsAtExport (definition_text text) index at → position_of_export at index ≡ Some position
    → line_and_column (text_before text (place_of_export (mark_length text + at.offset) index)) ≡ (position.line, position.column)
of_export text None at position is some = absurd (none-some position some)
of_export text (Some index) at position is some = grind (arith, in_bytes, own_offset, same_Some)

-- a syntax error is at the position of its offset
syntax_there : (text : List ℕ) (cause : Cause) (position : Position) → IsSyntaxErrorAt text cause position → position ≡ position_at text position.offset
syntax_there text cause position (inl unclosed) = unclosed.there
syntax_there text cause position (inr (inl parsed)) = parsed.1.1
syntax_there text cause position (inr (inr misplaced)) = own_offset text misplaced.misplaced.at position misplaced.there

pub places_are_of_refusals : PlacesAreOfRefusals
places_are_of_refusals text options (refusal.NotUtf8 at) position is some = grind (arith, in_bytes, same_Some)
places_are_of_refusals text options (refusal.Syntax fault at) position is some = grind (arith, in_bytes, syntax_there, same_Some)
places_are_of_refusals text options (refusal.Members fault at) position is some = of_export text (export_index (cause_of fault)) at position is.1 some
places_are_of_refusals text options _ position is some = absurd (none-some position some)
