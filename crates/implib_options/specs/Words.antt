-- What words of a command line spell, over the table of options.
use Rattle.std.specs.Prelude.{◌≡◌, ◌≢◌, ℕ, Bool, true, false, ◌⊎◌, ◌==◌, List, [], ◌∷◌, ◌++◌}
use Rattle.std.specs.Prelude.{length, Option, None, Some, Result, Ok, Err, if◌then◌else◌, nat_lt}
use Rattle.std.specs.List.{after_first, before_first, position_or_len}
use Rattle.implib_options.specs.declared.table.Meaning.{Meaning}
use Rattle.implib_options.specs.declared.table.Meaning.TheVariants.{Input}
use Rattle.implib_options.specs.declared.table.Takes.{Takes}
use Rattle.implib_options.specs.declared.table.Takes.TheVariants.{Nothing, Refused, Value}
use Rattle.implib_options.specs.declared.table.Words.{Words}
use Rattle.implib_options.specs.declared.table.Words.TheVariants.{Check, Dlltool, Lib}
use Rattle.implib_options.specs.declared.words.ReadError.{ReadError}
use Rattle.implib_options.specs.declared.words.ReadError.TheVariants as error
use Rattle.implib_options.specs.Given.{GivenView}
use Rattle.implib_options.specs.LibWords.{lib_saying}
use Rattle.implib_options.specs.Saying.{Begun, Ends, FaultView, IsFile, LacksValue, Saying, Text}
use Rattle.implib_options.specs.Saying.{Whole, Wrong, fault_view, file_saying, saying}
use Rattle.implib_options.specs.Table.{Kind, lettered, named}

-- the byte is `=`
abbrev pub is_equal_sign : ℕ → Bool
is_equal_sign b = b == 61

-- NAME and NAME=VALUE, up to the first `=`, behind the `--` of a word
abbrev pub long_saying : Words → Text → Text → Saying
long_saying of word text =
    if nat_lt (position_or_len is_equal_sign text) (length text)
    then saying word (named of (before_first is_equal_sign text))
    (Some (after_first is_equal_sign text))
    else saying word (named of text) None

abbrev pub unless_empty : Text → Option Text
unless_empty [] = None
unless_empty (b ∷ text) = Some (b ∷ text)

-- whether an option that takes this takes no value
abbrev pub is_switch : Takes → Bool
is_switch Nothing = true
is_switch Value = false
is_switch Refused = false

-- whether the letter is an option without a value
abbrev pub is_switch_letter : Option Kind → Bool
is_switch_letter None = false
is_switch_letter (Some kind) = is_switch kind.0

-- What letters say behind the `-` of a word: options without a value may come before the last
-- option, as in `-kd`, and the value of the last may follow it, as in `-kdFILE`.
pub data IsLettered (of : Words) (word : Text) : Text → List GivenView → Saying → Type 0 where
  switch : (letter b : ℕ) (text : Text) (meaning : Meaning) (front : List GivenView) (more : Saying)
      → lettered of letter ≡ Some (Nothing, meaning) → IsLettered of word (b ∷ text) front more
      → IsLettered of word (letter ∷ b ∷ text) ((meaning, []) ∷ front) more
  last : (letter : ℕ) (text : Text)
      → is_switch_letter (lettered of letter) ≡ false ⊎ text ≡ []
      → IsLettered of word (letter ∷ text) []
      (saying word (lettered of letter) (unless_empty text))

-- whether a word is an option: `-` (45), and more
abbrev pub is_option : Text → Bool
is_option [] = false
is_option (b ∷ []) = false
is_option (b ∷ next ∷ text) = b == 45

-- whether the words are LIB's
abbrev pub is_lib : Words → Bool
is_lib Lib = true
is_lib Dlltool = false
is_lib Check = false

-- what a word says: options of letters without a value in front, and its last option
pub data IsSaid (of : Words) : Text → List GivenView → Saying → Type 0 where
  -- `--`
  stop : is_lib of ≡ false → IsSaid of (45 ∷ 45 ∷ []) [] Ends
  -- `--NAME` and `--NAME=VALUE`
  long : (b : ℕ) (text : Text) → is_lib of ≡ false
      → IsSaid of (45 ∷ 45 ∷ b ∷ text) [] (long_saying of (45 ∷ 45 ∷ b ∷ text) (b ∷ text))
  -- `-kdFILE`
  letters : (b : ℕ) (text : Text) (front : List GivenView) (more : Saying) → is_lib of ≡ false
      → b ≢ 45 → IsLettered of (45 ∷ b ∷ text) (b ∷ text) front more
      → IsSaid of (45 ∷ b ∷ text) front more
  -- `FILE`
  file : (word : Text) → is_lib of ≡ false → is_option word ≡ false
      → IsSaid of word [] (file_saying Input word)
  -- `/NAME`, `/NAME:VALUE` and `FILE` to LIB
  lib : (word : Text) → is_lib of ≡ true → IsSaid of word [] (lib_saying word)

-- what words are read as: the options that they spell, in order, or what is wrong first
abbrev pub Reading : Type 0
Reading = Result (List GivenView) FaultView

-- with more options in front
abbrev pub with_front : List GivenView → Reading → Reading
with_front front (Ok given) = Ok (front ++ given)
with_front front (Err fault) = Err fault

-- What words are read as. Where a word is wrong, those before it spell options.
pub data IsRead (of : Words) : List Text → Reading → Type 0 where
  nothing : IsRead of [] (Ok [])
  whole : (word : Text) (words : List Text) (front : List GivenView) (given : GivenView)
      (more : Reading) → IsSaid of word front (Whole given) → IsRead of words more
      → IsRead of (word ∷ words) (with_front (front ++ given ∷ []) more)
  apart : (word value : Text) (words : List Text) (front : List GivenView) (meaning : Meaning)
      (more : Reading) → IsSaid of word front (Begun meaning) → IsRead of words more
      → IsRead of (word ∷ value ∷ words) (with_front (front ++ (meaning, value) ∷ []) more)
  lacking : (word : Text) (front : List GivenView) (meaning : Meaning)
      → IsSaid of word front (Begun meaning) → IsRead of (word ∷ []) (Err (LacksValue meaning))
  ends : (word : Text) (front : List GivenView) (more : Reading) → IsSaid of word front Ends
      → IsRead of [] more → IsRead of (word ∷ []) (with_front front more)
  past_end : (word next : Text) (words : List Text) (front : List GivenView)
      → IsSaid of word front Ends → IsRead of (word ∷ next ∷ words) (Err (IsFile next))
  wrong : (word : Text) (words : List Text) (front : List GivenView) (fault : FaultView)
      → IsSaid of word front (Wrong fault) → IsRead of (word ∷ words) (Err fault)

-- words that are read so are refused for this, or memory was
abbrev pub IsRefusal : (Reading → Type 0) → ReadError → Type 0
IsRefusal reads (error.Refused fault) = reads (Err (fault_view fault))
IsRefusal reads error.OutOfMemory = Unit {0}

-- the options of a word were added: those in front, and what else it says
pub record Adds (of : Words) (word : Text) (before after : List GivenView) (more : Saying) :
    Type 0 where
  pub front : List GivenView
  pub added : after ≡ before ++ front
  pub is : IsSaid of word front more

-- the same of letters
pub record AddsLetters (of : Words) (word letters : Text) (before after : List GivenView)
    (more : Saying) : Type 0 where
  pub front : List GivenView
  pub added : after ≡ before ++ front
  pub is : IsLettered of word letters front more

-- words are read as these options and then as the rest is
abbrev pub Leads : Words → List Text → List GivenView → List Text → Type 0
Leads of words given rest =
    (more : Reading) → IsRead of rest more → IsRead of words (with_front given more)

-- where words led to these options and this rest, they lead to more options and less
abbrev pub LeadsOn : Words → List GivenView → List Text → List GivenView → List Text → Type 0
LeadsOn of before rest after less =
    (words : List Text) → Leads of words before rest → Leads of words after less
