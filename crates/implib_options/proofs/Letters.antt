-- Reading the letters of a word, from a place on.
use Rattle.std.proofs.Common.{◌≡◌, ◌⊎◌, ◌∙◌, ◌<◌, ◌++◌, true, false, List, [], ◌∷◌, Option, Some, ap, get_or, length, drop, append_assoc, append-nil, arith, refl, subst, sym}
use Rattle.std.proofs.lemmas.Bool.{eqb-true}
use Rattle.std.specs.Prelude.{Bool, ◌==◌}
use Rattle.implib_options.specs.declared.table.Meaning.{Meaning}
use Rattle.implib_options.specs.declared.table.Takes.{Takes}
use Rattle.implib_options.specs.declared.table.Takes.TheVariants.{Nothing, Refused, Value}
use Rattle.implib_options.specs.declared.table.Words.{Words}
use Rattle.implib_options.specs.Given.{GivenView}
use Rattle.implib_options.specs.Table.{Kind, lettered}
use Rattle.implib_options.specs.Saying.{Saying, Text, saying}
use Rattle.implib_options.specs.Words.{AddsLetters, IsLettered, is_switch, is_switch_letter, last, switch, unless_empty}

-- a text that is empty, and one that is not
pub empty : (text : Text) (is : Bool) → is ≡ (length text == 0) → is ≡ true → text ≡ []
empty [] is same holds = refl
empty (b ∷ text) is same holds = absurd (omega (arith, eqb-true (length (b ∷ text)) 0 (sym same ∙ holds)))

pub some : (text : Text) (is : Bool) → is ≡ (length text == 0) → is ≡ false → 0 < length text
some [] is same fails = cc
some (b ∷ text) is same fails = omega arith

module _ (of : Words) (word letters : Text) (before given : List GivenView) where
  -- what was read up to a place, with what the letters from there say
  abbrev pub Led : Text → Type 0
  Led text = (front : List GivenView) (more : Saying) → IsLettered of word text front more → AddsLetters of word letters before (given ++ front) more

  -- the last option
  pub at_last : (text bytes rest : Text) (kind : Option Kind) (value : Option Text) (more : Saying) → Led text → bytes ≡ text → 0 < length text → kind ≡ lettered of (get_or bytes 0 0)
      → rest ≡ drop 1 text → (is_switch_letter kind ≡ false) ⊎ (rest ≡ []) → value ≡ unless_empty rest → more ≡ saying word kind value → AddsLetters of word letters before given more
  at_last [] bytes rest kind value more led same some is left ends has says = absurd (omega (arith, some))
  at_last (letter ∷ text) bytes rest kind value more led same some is left ends has says =
      let known : lettered of letter ≡ kind = sym (is ∙ ap (λ b. lettered of (get_or b 0 0)) same) in
      let is_last : (is_switch_letter (lettered of letter) ≡ false) ⊎ (text ≡ []) = subst (λ (k : Option Kind × Text). (is_switch_letter k.0 ≡ false) ⊎ (k.1 ≡ [])) (cc) ends in
      let said : saying word (lettered of letter) (unless_empty text) ≡ more = cc in
      subst (AddsLetters of word letters before given) said
      (subst (λ g. AddsLetters of word letters before g (saying word (lettered of letter) (unless_empty text))) (append-nil given) (led [] _ (last letter text is_last)))

-- an option without a value, and more letters
pub at_switch : (of : Words) (word letters : Text) (before given after : List GivenView) (text bytes : Text) (takes : Takes) (meaning : Meaning)
    → Led of word letters before given text → bytes ≡ text → 0 < length text → 0 < length (drop 1 text) → Some (takes, meaning) ≡ lettered of (get_or bytes 0 0) → is_switch takes ≡ true
    → after ≡ given ++ (meaning, []) ∷ [] → Led of word letters before after (drop 1 text)
at_switch of word letters before given after [] bytes takes meaning led same some more is switches added = absurd (omega (arith, some))
at_switch of word letters before given after (letter ∷ []) bytes takes meaning led same some more is switches added = absurd (omega (arith, more))
at_switch of word letters before given after (letter ∷ b ∷ text) bytes Value meaning led same some more is switches added = cc
at_switch of word letters before given after (letter ∷ b ∷ text) bytes Refused meaning led same some more is switches added = cc
at_switch of word letters before given after (letter ∷ b ∷ text) bytes Nothing meaning led same some more is switches added =
    λ front next says.
    let known : lettered of letter ≡ Some (Nothing, meaning) = sym (is ∙ ap (λ b. lettered of (get_or b 0 0)) same) in
    subst (λ g. AddsLetters of word letters before g next) (sym (ap (λ g. g ++ front) added ∙ append_assoc given ((meaning, []) ∷ []) front))
    (led ((meaning, []) ∷ front) next (switch letter b text meaning front next known says))
