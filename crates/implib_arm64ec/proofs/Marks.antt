-- Where the mark of a name is, and what is beside it.
use Rattle.std.proofs.Common.{◌≡◌, ℕ, suc, ◌+◌, ◌≤◌, ◌<◌, List, [], ◌∷◌, ◌++◌, length, get_or, refl, sym, subst, Some, None, Option, Bool, true, false, eqb, arith}
use Rattle.std.specs.Prelude.{option_map, if◌then◌else◌}
use Rattle.std.specs.List.{starts_with}
use Rattle.std.proofs.lemmas.Bool.Decides.{Decides-eqb, nat_tests}
use Rattle.std.proofs.lemmas.Slice.Eq.{starts_is}
use Rattle.implib.specs.Ascii.{begins_with, without_first}
use Rattle.implib_arm64ec.specs.Marks.{inner_mark, mark_position}
use Rattle.implib_arm64ec.proofs.Read.{BehindAt}

-- the first byte of a name that begins with one
pub record FirstIs (b : ℕ) (name : List ℕ) : Type 0 where
  pub within : 0 < length name
  pub first : get_or name 0 0 ≡ b

pub begins_first : (b : ℕ) (name : List ℕ) → begins_with b name ≡ true → FirstIs b name
begins_first b [] e = absurd (cc)
begins_first b (first ∷ rest) e = record { within = omega arith; first = grind (arith, nat_tests, e) }

-- a mark has three bytes
pub record MarkAt (text : List ℕ) (place : ℕ) : Type 0 where
  pub within : place + 3 ≤ length text
  pub dollar : get_or text place 0 ≡ 0x24
  pub letter : get_or text (place + 2) 0 ≡ 0x68

at_beginning : (text rest : List ℕ) → text ≡ inner_mark ++ rest → MarkAt text 0
at_beginning text rest e = subst (λ (t : List ℕ). MarkAt t 0) (sym e) (record { within = omega arith; dollar = refl; letter = refl })

one_further : (b : ℕ) (text : List ℕ) (place : ℕ) → MarkAt text place → MarkAt (b ∷ text) (suc place)
one_further b text place m = grind arith

in_rest : (b : ℕ) (text : List ℕ) (place : ℕ) (found : Option ℕ)
    → ((p : ℕ) → found ≡ Some p → MarkAt text p) → option_map suc found ≡ Some place → MarkAt (b ∷ text) place
in_rest b text place None rest e = absurd (cc)
in_rest b text place (Some p) rest e =
    let same : suc p ≡ place = cc in
    subst (λ (q : ℕ). MarkAt (b ∷ text) q) same (one_further b text p (rest p refl))

decided : (b : ℕ) (text : List ℕ) (place : ℕ) (here : Bool) → here ≡ starts_with eqb (b ∷ text) inner_mark
    → ((p : ℕ) → mark_position text ≡ Some p → MarkAt text p)
    → (if here then Some 0 else option_map suc (mark_position text)) ≡ Some place → MarkAt (b ∷ text) place
decided b text place true s rest e = grind (arith, at_beginning, starts_is, Decides-eqb)
decided b text place false s rest e = in_rest b text place (mark_position text) rest e

pub mark_is_at : (text : List ℕ) (place : ℕ) → mark_position text ≡ Some place → MarkAt text place
mark_is_at [] place e = absurd (cc)
mark_is_at (b ∷ text) place e = grind (arith, mark_is_at text, decided b text place (starts_with eqb (b ∷ text) inner_mark) refl (mark_is_at text) e)

-- a reading of what is behind the first byte ends, within the name, behind an `@`
pub record EndsInside (name : List ℕ) (length_read : ℕ) : Type 0 where
  pub within : length_read + 1 ≤ length name
  pub sign : get_or name length_read 0 ≡ 0x40

pub behind_first : (name : List ℕ) (place : ℕ) → BehindAt (without_first name) place → EndsInside name place
behind_first [] place h = absurd (omega (arith, h.within, h.positive))
behind_first (b ∷ name) place h = grind arith

pub length_behind : (name : List ℕ) → length (without_first name) + 1 ≤ length name + 1
length_behind [] = omega arith
length_behind (b ∷ name) = omega arith
