-- Words that stay as they are.
use Rattle.std.proofs.Common.{◌≡◌, ℕ, Bool, List, [], ◌∷◌, arith, false, refl, true}
use Rattle.implib.specs.Text.Token.{is_delimiter}
use Rattle.implib_rules.specs.declared.plain.Before.{Before}
use Rattle.implib_rules.specs.declared.plain.Part.TheVariants.{Word}
use Rattle.implib_rules.specs.declared.plain.Reading.{Reading}
use Rattle.implib_rules.specs.Plain.{after_all, is_of_word, plain_from}

-- a word that stays is being read
abbrev in_word : Before → Reading
in_word before = record { part = Word; before = before }

-- a word in front of a text and what follows it stay, where what follows it does, and the reverse
pub record Keeps (reading : Reading) (text : List ℕ) : Type 0 where
  pub stays : plain_from reading (after_all is_of_word text) ≡ after_all is_of_word text → plain_from reading text ≡ text
  pub stayed : plain_from reading text ≡ text → plain_from reading (after_all is_of_word text) ≡ after_all is_of_word text

module _ (before : Before) (b : ℕ) (rest : List ℕ) where
  after_on : is_delimiter b ≡ false → after_all is_of_word (b ∷ rest) ≡ after_all is_of_word rest
  after_on inside = grind arith

  after_end : is_delimiter b ≡ true → after_all is_of_word (b ∷ rest) ≡ b ∷ rest
  after_end ended = rw ended refl

  keeps_more : (test : Bool) → is_delimiter b ≡ test → Keeps (in_word before) rest → Keeps (in_word before) (b ∷ rest)
  unfolding plain_from
  keeps_more test ended others = grind (arith, after_end, after_on)

keeps : (before : Before) (text : List ℕ) → Keeps (in_word before) text
keeps before [] = record { stays = λ s. s; stayed = λ s. s }
keeps before (b ∷ rest) = keeps_more before b rest (is_delimiter b) refl (keeps before rest)

-- by the part that is read
pub word_keeps : (reading : Reading) (text : List ℕ) → reading.part ≡ Word → Keeps reading text
word_keeps reading text is = grind (arith, keeps reading.before text)
