-- Words are read as one thing: two rules that fit say the same.
use Rattle.std.proofs.Common.{◌≡◌, ◌∙◌, List, [], ◌∷◌, Option, None, Some, ap, refl, sym, inl, inr}
use Rattle.implib_options.specs.declared.table.Meaning.{Meaning}
use Rattle.implib_options.specs.declared.table.Words.{Words}
use Rattle.implib_options.specs.Given.{GivenView}
use Rattle.implib_options.specs.Saying.{Saying, Text}
use Rattle.implib_options.specs.Table.{Kind}
use Rattle.implib_options.specs.Words.{IsLettered, IsRead, IsSaid, Reading, apart, ends, file, is_switch_letter, lacking, last, letters, lib, long, nothing, past_end, stop, switch, whole, wrong}

-- the meaning of an option, if there is one
abbrev meaning_in : Meaning → Option Kind → Meaning
meaning_in other None = other
meaning_in other (Some kind) = kind.1

-- what letters say
one_lettering : (of : Words) (word letters : Text) (f g : List GivenView) (s t : Saying) → IsLettered of word letters f s → IsLettered of word letters g t → (f ≡ g) × (s ≡ t)
one_lettering of word _ _ _ _ _ (switch l1 b1 t1 m1 f1 s1 k1 r1) (switch l2 b2 t2 m2 f2 s2 k2 r2) =
    let rest = one_lettering of word _ _ _ _ _ r1 r2 in
    (ap (λ m. (m, []) ∷ f1) (ap (meaning_in m1) (sym k1 ∙ k2)) ∙ ap (λ f. (m2, []) ∷ f) rest.0, rest.1)
one_lettering of word _ _ _ _ _ (switch l1 b1 t1 m1 f1 s1 k1 r1) (last l2 t2 (inl none)) = let is = ap is_switch_letter k1 in cc
one_lettering of word _ _ _ _ _ (switch l1 b1 t1 m1 f1 s1 k1 r1) (last l2 t2 (inr none)) = cc
one_lettering of word _ _ _ _ _ (last l1 t1 (inl none)) (switch l2 b2 t2 m2 f2 s2 k2 r2) = let is = ap is_switch_letter k2 in cc
one_lettering of word _ _ _ _ _ (last l1 t1 (inr none)) (switch l2 b2 t2 m2 f2 s2 k2 r2) = cc
one_lettering of word _ _ _ _ _ (last l1 t1 e1) (last l2 t2 e2) = (refl, refl)

-- what a word says
one_saying : (of : Words) (word : Text) (f g : List GivenView) (s t : Saying) → IsSaid of word f s → IsSaid of word g t → (f ≡ g) × (s ≡ t)
one_saying of _ _ _ _ _ (stop o1) (stop o2) = (refl, refl)
one_saying of _ _ _ _ _ (stop o1) (letters b2 t2 f2 m2 o2 n2 s2) = absurd (n2 refl)
one_saying of _ _ _ _ _ (stop o1) (file w2 o2 n2) = cc
one_saying of _ _ _ _ _ (stop o1) (lib w2 o2) = cc
one_saying of _ _ _ _ _ (long b1 t1 o1) (long b2 t2 o2) = (refl, refl)
one_saying of _ _ _ _ _ (long b1 t1 o1) (letters b2 t2 f2 m2 o2 n2 s2) = absurd (n2 refl)
one_saying of _ _ _ _ _ (long b1 t1 o1) (file w2 o2 n2) = cc
one_saying of _ _ _ _ _ (long b1 t1 o1) (lib w2 o2) = cc
one_saying of _ _ _ _ _ (letters b1 t1 f1 m1 o1 n1 s1) (stop o2) = absurd (n1 refl)
one_saying of _ _ _ _ _ (letters b1 t1 f1 m1 o1 n1 s1) (long b2 t2 o2) = absurd (n1 refl)
one_saying of _ _ _ _ _ (letters b1 t1 f1 m1 o1 n1 s1) (letters b2 t2 f2 m2 o2 n2 s2) = one_lettering of _ _ _ _ _ _ s1 s2
one_saying of _ _ _ _ _ (letters b1 t1 f1 m1 o1 n1 s1) (file w2 o2 n2) = cc
one_saying of _ _ _ _ _ (letters b1 t1 f1 m1 o1 n1 s1) (lib w2 o2) = cc
one_saying of _ _ _ _ _ (file w1 o1 n1) (stop o2) = cc
one_saying of _ _ _ _ _ (file w1 o1 n1) (long b2 t2 o2) = cc
one_saying of _ _ _ _ _ (file w1 o1 n1) (letters b2 t2 f2 m2 o2 n2 s2) = cc
one_saying of _ _ _ _ _ (file w1 o1 n1) (file w2 o2 n2) = (refl, refl)
one_saying of _ _ _ _ _ (file w1 o1 n1) (lib w2 o2) = cc
one_saying of _ _ _ _ _ (lib w1 o1) (stop o2) = cc
one_saying of _ _ _ _ _ (lib w1 o1) (long b2 t2 o2) = cc
one_saying of _ _ _ _ _ (lib w1 o1) (letters b2 t2 f2 m2 o2 n2 s2) = cc
one_saying of _ _ _ _ _ (lib w1 o1) (file w2 o2 n2) = cc
one_saying of _ _ _ _ _ (lib w1 o1) (lib w2 o2) = (refl, refl)

-- what words say
pub one_reading : (of : Words) (words : List Text) (one other : Reading) → IsRead of words one → IsRead of words other → one ≡ other
one_reading of _ _ _ nothing nothing = refl
one_reading of _ _ _ (whole word words f1 g1 m1 p1 r1) (whole word' words' f2 g2 m2 p2 r2) = let same = one_saying of _ _ _ _ _ p1 p2 in let rest = one_reading of _ _ _ r1 r2 in cc
one_reading of _ _ _ (whole word words f1 g1 m1 p1 r1) (apart word' value' words' f2 g2 m2 p2 r2) = let same = one_saying of _ _ _ _ _ p1 p2 in cc
one_reading of _ _ _ (whole word words f1 g1 m1 p1 r1) (lacking word' f2 g2 p2) = let same = one_saying of _ _ _ _ _ p1 p2 in cc
one_reading of _ _ _ (whole word words f1 g1 m1 p1 r1) (ends word' f2 m2 p2 r2) = let same = one_saying of _ _ _ _ _ p1 p2 in cc
one_reading of _ _ _ (whole word words f1 g1 m1 p1 r1) (past_end word' next' words' f2 p2) = let same = one_saying of _ _ _ _ _ p1 p2 in cc
one_reading of _ _ _ (whole word words f1 g1 m1 p1 r1) (wrong word' words' f2 g2 p2) = let same = one_saying of _ _ _ _ _ p1 p2 in cc
one_reading of _ _ _ (apart word value words f1 g1 m1 p1 r1) (whole word' words' f2 g2 m2 p2 r2) = let same = one_saying of _ _ _ _ _ p1 p2 in cc
one_reading of _ _ _ (apart word value words f1 g1 m1 p1 r1) (apart word' value' words' f2 g2 m2 p2 r2) = let same = one_saying of _ _ _ _ _ p1 p2 in let rest = one_reading of _ _ _ r1 r2 in cc
one_reading of _ _ _ (apart word value words f1 g1 m1 p1 r1) (past_end word' next' words' f2 p2) = let same = one_saying of _ _ _ _ _ p1 p2 in cc
one_reading of _ _ _ (apart word value words f1 g1 m1 p1 r1) (wrong word' words' f2 g2 p2) = let same = one_saying of _ _ _ _ _ p1 p2 in cc
one_reading of _ _ _ (lacking word f1 g1 p1) (whole word' words' f2 g2 m2 p2 r2) = let same = one_saying of _ _ _ _ _ p1 p2 in cc
one_reading of _ _ _ (lacking word f1 g1 p1) (lacking word' f2 g2 p2) = let same = one_saying of _ _ _ _ _ p1 p2 in cc
one_reading of _ _ _ (lacking word f1 g1 p1) (ends word' f2 m2 p2 r2) = let same = one_saying of _ _ _ _ _ p1 p2 in cc
one_reading of _ _ _ (lacking word f1 g1 p1) (wrong word' words' f2 g2 p2) = let same = one_saying of _ _ _ _ _ p1 p2 in cc
one_reading of _ _ _ (ends word f1 m1 p1 r1) (whole word' words' f2 g2 m2 p2 r2) = let same = one_saying of _ _ _ _ _ p1 p2 in cc
one_reading of _ _ _ (ends word f1 m1 p1 r1) (lacking word' f2 g2 p2) = let same = one_saying of _ _ _ _ _ p1 p2 in cc
one_reading of _ _ _ (ends word f1 m1 p1 r1) (ends word' f2 m2 p2 r2) = let same = one_saying of _ _ _ _ _ p1 p2 in let rest = one_reading of _ _ _ r1 r2 in cc
one_reading of _ _ _ (ends word f1 m1 p1 r1) (wrong word' words' f2 g2 p2) = let same = one_saying of _ _ _ _ _ p1 p2 in cc
one_reading of _ _ _ (past_end word next words f1 p1) (whole word' words' f2 g2 m2 p2 r2) = let same = one_saying of _ _ _ _ _ p1 p2 in cc
one_reading of _ _ _ (past_end word next words f1 p1) (apart word' value' words' f2 g2 m2 p2 r2) = let same = one_saying of _ _ _ _ _ p1 p2 in cc
one_reading of _ _ _ (past_end word next words f1 p1) (past_end word' next' words' f2 p2) = refl
one_reading of _ _ _ (past_end word next words f1 p1) (wrong word' words' f2 g2 p2) = let same = one_saying of _ _ _ _ _ p1 p2 in cc
one_reading of _ _ _ (wrong word words f1 g1 p1) (whole word' words' f2 g2 m2 p2 r2) = let same = one_saying of _ _ _ _ _ p1 p2 in cc
one_reading of _ _ _ (wrong word words f1 g1 p1) (apart word' value' words' f2 g2 m2 p2 r2) = let same = one_saying of _ _ _ _ _ p1 p2 in cc
one_reading of _ _ _ (wrong word words f1 g1 p1) (lacking word' f2 g2 p2) = let same = one_saying of _ _ _ _ _ p1 p2 in cc
one_reading of _ _ _ (wrong word words f1 g1 p1) (ends word' f2 m2 p2 r2) = let same = one_saying of _ _ _ _ _ p1 p2 in cc
one_reading of _ _ _ (wrong word words f1 g1 p1) (past_end word' next' words' f2 p2) = let same = one_saying of _ _ _ _ _ p1 p2 in cc
one_reading of _ _ _ (wrong word words f1 g1 p1) (wrong word' words' f2 g2 p2) = let same = one_saying of _ _ _ _ _ p1 p2 in cc
