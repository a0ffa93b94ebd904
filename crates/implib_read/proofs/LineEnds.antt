-- Where lines end: the first end from an offset on.
use Rattle.std.proofs.Common.{◌≡◌, ◌∙◌, ℕ, zero, suc, ◌+◌, ◌<◌, ◌≤◌, true, false, List, [], ◌∷◌, ◌++◌, ap, arith, drop, get_or, if◌then◌else◌, length, nat_lt, refl, take}
use Rattle.std.specs.List.{prefix_len}
use Rattle.std.specs.List.Sorted.{IsNonDecreasingBy, IsPartitionPoint}
use Rattle.std.proofs.lemmas.Bool.{le-ltb, lt-ltb}
use Rattle.std.proofs.lemmas.List.{length-take, take_more}
use Rattle.std.proofs.lemmas.List.Sums.{prefix_len-drop_all, prefix_len-le-length}
use Rattle.implib_read.specs.MemberNames.{ends_from, goes_on}

-- the first of these numbers that is not below one, or another number
abbrev pub first_from : ℕ → List ℕ → ℕ → ℕ
first_from low [] other = other
first_from low (e ∷ ends) other = if nat_lt e low then first_from low ends other else e

-- no end is in front of the text
lower : (place : ℕ) (text : List ℕ) (j d : ℕ) → j < length (ends_from place text) → place ≤ get_or (ends_from place text) j d
unfolding ends_from
lower place [] j d within = absurd (omega (arith, within))
lower place (c ∷ text) j d within = grind (arith, lower (suc place) text)

pub ends_rise : (place : ℕ) (text : List ℕ) → IsNonDecreasingBy (λ (x : ℕ). x) (ends_from place text)
unfolding ends_from
ends_rise place [] i j d le within = absurd (omega (arith, within))
ends_rise place (c ∷ text) i j d le within = grind (arith, lower, ends_rise (suc place) text)

-- numbers that are not above the places of ends come to the same end
skips : (low high place : ℕ) (text : List ℕ) (other : ℕ) → low ≤ high → high ≤ place
    → first_from low (ends_from place text) other ≡ first_from high (ends_from place text) other
unfolding ends_from
skips low high place [] other le within = refl
skips low high place (c ∷ text) other le within = grind (arith, le-ltb, skips low high (suc place) text other le (omega (arith, within)))

-- the first end from an offset on, or the end of the text
line_from : (d place : ℕ) (text : List ℕ) → d ≤ length text
    → first_from (place + d) (ends_from place text) (place + length text) ≡ place + d + prefix_len goes_on (drop d text)
unfolding ends_from
line_from zero place [] within = omega arith
line_from (suc d) place [] within = absurd (omega (arith, within))
line_from zero place (c ∷ text) within = grind (arith, skips, le-ltb, line_from zero (suc place) text (omega arith))
line_from (suc d) place (c ∷ text) within = grind (arith, lt-ltb, line_from d (suc place) text (omega (arith, within)))

-- of a text from its beginning on
pub line_at : (d : ℕ) (text : List ℕ) → d ≤ length text → first_from d (ends_from 0 text) (length text) ≡ d + prefix_len goes_on (drop d text)
line_at d text within = grind (arith, line_from d 0 text within)

-- an end more
pub ends_from-append : (place : ℕ) (text : List ℕ) (c : ℕ)
    → ends_from place (text ++ c ∷ []) ≡ ends_from place text ++ (if goes_on c then [] else (place + length text) ∷ [])
unfolding ends_from
ends_from-append place [] c = grind arith
ends_from-append place (d ∷ text) c = grind (arith, ends_from-append (suc place) text c)

-- where the partition by a number is, there is the first that is not below it
pub at_point : (ends : List ℕ) (low k other : ℕ) → k ≤ length ends → IsPartitionPoint (λ e. nat_lt e low ≡ true) (λ e. nat_lt e low ≡ false) ends k
    → first_from low ends other ≡ get_or ends k other
at_point [] low k other within point = refl
at_point (e ∷ ends) low zero other within point = ap (λ b. if b then first_from low ends other else e) (point.1 0 other (omega arith) (omega arith))
at_point (e ∷ ends) low (suc k) other within point =
    ap (λ b. if b then first_from low ends other else e) (point.0 0 e (omega arith) (omega arith))
    ∙ at_point ends low k other (omega (arith, within)) ((λ j d a b. point.0 (suc j) d (omega arith) (omega (arith, b))), (λ j d a b. point.1 (suc j) d (omega (arith, a)) (omega (arith, b))))

pub ends_none : ends_from 0 [] ≡ []
unfolding ends_from
ends_none = refl

pub ends_from-more : (text : List ℕ) (place : ℕ) → place < length text
    → ends_from 0 (take (place + 1) text) ≡ ends_from 0 (take place text) ++ (if goes_on (get_or text place 0) then [] else place ∷ [])
ends_from-more text place within = grind (arith, take_more text place 0 within, ends_from-append 0 (take place text) (get_or text place 0), length-take)

-- behind the end of a text there is no line, and a line is no longer than its text
pub none_behind : (text : List ℕ) (d : ℕ) → length text ≤ d → prefix_len goes_on (drop d text) ≡ 0
none_behind text d past = prefix_len-drop_all goes_on text d past

pub line_fits : (text : List ℕ) → prefix_len goes_on text ≤ length text
line_fits text = prefix_len-le-length goes_on text
