-- A trimmed text is a slice of the text.
use Rattle.std.proofs.Common.{◌≡◌, ℕ, ◌+◌, ◌-◌, ◌≤◌, true, false, cond, eqb, List, [], ◌∷◌, ◌++◌, length, take, drop, refl, sym, ap, subst, ◌∙◌, arith, append_assoc, length-append}
use Rattle.std.proofs.lemmas.Bool.{and_parts, cases_Bool, eqb-true}
use Rattle.std.proofs.lemmas.List.{drop_at, nil_from_length, take_at}
use Rattle.std.proofs.lemmas.Str.{encodes-chars, scalars-chars}
use Rattle.std.proofs.Math.Utf8.{scalar}
use Rattle.std.specs.Char.{encode_utf8, is_whitespace}
use Rattle.std.specs.Prelude.{◌&&◌}
use Rattle.std.specs.Str.{all_scalars, chars, drop_trailing_whitespace, encode_utf8_all, skip_leading_whitespace, trim, trim_end, trim_start, IsUtf8}
use Rattle.implib.specs.Text.Token.{value_start}

-- `part` is what follows some front of the text
record IsTail (text part : List ℕ) : Type 0 where
  front : List ℕ
  text_is : text ≡ front ++ part

-- `part` is a front of the text
record IsHead (text part : List ℕ) : Type 0 where
  back : List ℕ
  text_is : text ≡ part ++ back

IsTail-drop : (text part : List ℕ) → IsTail text part → drop (length text - length part) text ≡ part
IsTail-drop text part tail = grind (arith, length-append, drop_at)

IsHead-take : (text part : List ℕ) → IsHead text part → take (length part) text ≡ part
IsHead-take text part head = ap (take (length part)) head.text_is ∙ take_at part head.back (length part) refl

skip_tail : (cs : List ℕ) → IsTail (encode_utf8_all cs) (encode_utf8_all (skip_leading_whitespace cs))
skip_tail [] = record { front = []; text_is = refl }
skip_tail (c ∷ cs) =
    elim (is_whitespace c) as (λ t. IsTail (encode_utf8_all (c ∷ cs)) (encode_utf8_all (cond t (skip_leading_whitespace cs) (c ∷ cs)))) [
      | true ↦
          let rest = skip_tail cs in
          record {
            front = encode_utf8 c ++ rest.front;
            text_is = ap (λ l. encode_utf8 c ++ l) rest.text_is ∙ sym (append_assoc (encode_utf8 c) rest.front (encode_utf8_all (skip_leading_whitespace cs)));
          }
      | false ↦ record { front = []; text_is = refl }
    ]

skip_scalars : (cs : List ℕ) → all_scalars cs ≡ true → all_scalars (skip_leading_whitespace cs) ≡ true
skip_scalars [] all = refl
skip_scalars (c ∷ cs) all =
    elim (is_whitespace c) as (λ t. all_scalars (cond t (skip_leading_whitespace cs) (c ∷ cs)) ≡ true) [
      | true ↦ skip_scalars cs (and_parts (scalar c) (all_scalars cs) all).1
      | false ↦ all
    ]

drop_trailing_head : (cs : List ℕ) → IsHead (encode_utf8_all cs) (encode_utf8_all (drop_trailing_whitespace cs))
drop_trailing_head [] = record { back = []; text_is = refl }
drop_trailing_head (c ∷ cs) =
    elim (is_whitespace c && eqb (length (drop_trailing_whitespace cs)) 0) as (λ t. IsHead (encode_utf8_all (c ∷ cs)) (encode_utf8_all (cond t [] (c ∷ drop_trailing_whitespace cs)))) [
      | true ↦ record { back = encode_utf8_all (c ∷ cs); text_is = refl }
      | false ↦
          let rest = drop_trailing_head cs in
          record {
            back = rest.back;
            text_is = ap (λ l. encode_utf8 c ++ l) rest.text_is ∙ sym (append_assoc (encode_utf8 c) (encode_utf8_all (drop_trailing_whitespace cs)) rest.back);
          }
    ]

trim_start_tail : (text : List ℕ) → IsUtf8 text → IsTail text (trim_start text)
unfolding trim_start
trim_start_tail text utf8 = subst (λ l. IsTail l (encode_utf8_all (skip_leading_whitespace (chars text)))) (encodes-chars text utf8) (skip_tail (chars text))

trim_start_utf8 : (text : List ℕ) → IsUtf8 text → IsUtf8 (trim_start text)
unfolding trim_start
trim_start_utf8 text utf8 = (skip_leading_whitespace (chars text), (skip_scalars (chars text) (scalars-chars text utf8), refl))

trim_end_head : (text : List ℕ) → IsUtf8 text → IsHead text (trim_end text)
unfolding trim_end
trim_end_head text utf8 = subst (λ l. IsHead l (encode_utf8_all (drop_trailing_whitespace (chars text)))) (encodes-chars text utf8) (drop_trailing_head (chars text))

-- without the white space at its end a text is a front of it
pub take-trim_end : (text : List ℕ) → IsUtf8 text → take (length (trim_end text)) text ≡ trim_end text
take-trim_end text utf8 = IsHead-take text (trim_end text) (trim_end_head text utf8)

pub trim_end_shorter : (text : List ℕ) → IsUtf8 text → length (trim_end text) ≤ length text
trim_end_shorter text utf8 = let head = trim_end_head text utf8 in omega (arith, ap length head.text_is, length-append (trim_end text) head.back)

-- a trimmed text is at the first of its bytes
pub take-trim : (text : List ℕ) → IsUtf8 text → take (length (trim text)) (drop (length text - length (trim_start text)) text) ≡ trim text
take-trim text utf8 = ap (take (length (trim text))) (IsTail-drop text (trim_start text) (trim_start_tail text utf8)) ∙ take-trim_end (trim_start text) (trim_start_utf8 text utf8)

trim_shorter : (text : List ℕ) → IsUtf8 text → length (trim text) + (length text - length (trim_start text)) ≤ length text
trim_shorter text utf8 =
    let tail = trim_start_tail text utf8 in
    omega (arith, trim_end_shorter (trim_start text) (trim_start_utf8 text utf8), ap length tail.text_is, length-append tail.front (trim_start text))

-- the value of a quoted name is where it is said to start
pub take-value : (inside : List ℕ) → IsUtf8 inside → take (length (trim inside)) (drop (value_start inside) inside) ≡ trim inside
take-value inside utf8 = grind (arith, cases_Bool, eqb-true, nil_from_length, take-trim)

pub value_within : (inside : List ℕ) → IsUtf8 inside → length (trim inside) + value_start inside ≤ length inside
value_within inside utf8 = grind (arith, cases_Bool, eqb-true, trim_shorter)
