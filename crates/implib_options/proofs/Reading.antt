-- Reading words, one option after another.
use Rattle.std.proofs.Common.{◌≡◌, ◌≢◌, ◌∙◌, ◌<◌, ◌≤◌, ◌++◌, true, false, List, [], ◌∷◌, ℕ, Ok, Err, ap, get_or, length, map, take, ◌-◌, drop, append_assoc, append-nil, arith, refl, subst, sym}
use Rattle.std.proofs.lemmas.Bool.{eqb-true}
use Rattle.std.proofs.lemmas.List.{take_all}
use Rattle.std.specs.Str.{IsCharBoundary, IsUtf8}
use Rattle.std.proofs.lemmas.Str.{IsCharBoundary-after_ascii}
use Rattle.implib_options.specs.declared.table.Meaning.{Meaning}
use Rattle.implib_options.specs.declared.table.Words.{Words}
use Rattle.implib_options.specs.declared.words.ReadError.{ReadError}
use Rattle.implib_options.specs.declared.words.ReadError.TheVariants.{OutOfMemory, Refused}
use Rattle.implib_options.specs.Given.{GivenView}
use Rattle.implib_options.specs.Saying.{Begun, Ends, IsFile, fault_view, LacksValue, Saying, Text, Whole}
use Rattle.implib_options.specs.Words.{Adds, AddsLetters, IsLettered, IsRefusal, nothing, lacking, past_end, IsRead, IsSaid, Leads, LeadsOn, Reading, apart, ends, is_lib, is_option, letters, long, long_saying, stop, whole, with_front}

-- options in front of options in front
with_front-twice : (first second : List GivenView) (more : Reading) → with_front first (with_front second more) ≡ with_front (first ++ second) more
with_front-twice first second (Ok more) = ap Ok (sym (append_assoc first second more))
with_front-twice first second (Err fault) = refl

-- options were added, and then one
with_one : (before front middle after : List GivenView) (given : GivenView) (more : Reading) → middle ≡ before ++ front → after ≡ middle ++ given ∷ [] → with_front before (with_front (front ++ given ∷ []) more) ≡ with_front after more
with_one before front middle after given more is added =
    with_front-twice before (front ++ given ∷ []) more
    ∙ ap (λ g. with_front g more) (sym (append_assoc before front (given ∷ [])) ∙ sym (added ∙ ap (λ g. g ++ given ∷ []) is))

module _ (of : Words) (word : Text) (before middle after : List GivenView) where
  -- a whole option
  pub on_whole : (given : GivenView) (next : List Text) → Adds of word before middle (Whole given) → after ≡ middle ++ given ∷ [] → LeadsOn of before (word ∷ next) after next
  on_whole given next adds added words led more is =
      subst (IsRead of words) (with_one before adds.front middle after given more adds.added added) (led _ (whole word next adds.front given more adds.is is))

  -- an option, and its value
  pub on_apart : (meaning : Meaning) (value : Text) (next : List Text) → Adds of word before middle (Begun meaning) → after ≡ middle ++ (meaning, value) ∷ []
      → LeadsOn of before (word ∷ value ∷ next) after next
  on_apart meaning value next adds added words led more is =
      subst (IsRead of words) (with_one before adds.front middle after (meaning, value) more adds.added added) (led _ (apart word value next adds.front meaning more adds.is is))

  -- `--`
  pub on_end : Adds of word before after Ends → LeadsOn of before (word ∷ []) after []
  on_end adds words led more is =
      subst (IsRead of words) (with_front-twice before adds.front more ∙ ap (λ g. with_front g more) (sym adds.added)) (led _ (ends word adds.front more adds.is is))

-- the first byte of an option
first : (b next : ℕ) (text : Text) → is_option (b ∷ next ∷ text) ≡ true → 45 ≡ b
first b next text is = sym (eqb-true b 45 is)

-- an option can be cut after each of its first two bytes that is `-`
pub cut_one : (word : Text) → IsUtf8 word → is_option word ≡ true → IsCharBoundary word 1
cut_one [] utf8 is = cc
cut_one (b ∷ []) utf8 is = cc
cut_one (b ∷ next ∷ text) utf8 is = IsCharBoundary-after_ascii (b ∷ next ∷ text) 0 utf8 (omega arith) (omega (arith, first b next text is))

pub cut_two : (word bytes : Text) → bytes ≡ word → IsUtf8 word → is_option word ≡ true → get_or bytes 1 0 ≡ 45 → IsCharBoundary word 2
cut_two [] bytes same utf8 is second = cc
cut_two (b ∷ []) bytes same utf8 is second = cc
cut_two (b ∷ next ∷ text) bytes same utf8 is second =
    let second : next ≡ 45 = subst (λ w. get_or w 1 0 ≡ 45) same second in
    IsCharBoundary-after_ascii (b ∷ next ∷ text) 1 utf8 (omega arith) (omega (arith, second))

module _ (of : Words) (given : List GivenView) (own : is_lib of ≡ false) where
  -- letters behind `-`
  pub at_letters : (after : List GivenView) (more : Saying) (word bytes text : Text) → bytes ≡ word → is_option word ≡ true → get_or bytes 1 0 ≢ 45 → text ≡ drop 1 word
      → AddsLetters of word text given after more → Adds of word given after more
  at_letters after more [] bytes text same is other rest adds = cc
  at_letters after more (b ∷ []) bytes text same is other rest adds = cc
  at_letters after more (b ∷ next ∷ rest) bytes text same is other cut adds =
      let other : next ≢ 45 = subst (λ w. get_or w 1 0 ≢ 45) same other in
      let said = subst (λ w. IsLettered of (w ∷ next ∷ rest) text adds.front more) (sym (first b next rest is)) adds.is in
      let said : IsLettered of (45 ∷ next ∷ rest) (next ∷ rest) adds.front more = subst (λ t. IsLettered of (45 ∷ next ∷ rest) t adds.front more) cut said in
      record { front = adds.front; added = adds.added; is = subst (λ w. IsSaid of (w ∷ next ∷ rest) adds.front more) (first b next rest is) (letters next rest adds.front more own other said) }

  -- `--`
  pub at_end : (word bytes : Text) → bytes ≡ word → is_option word ≡ true → get_or bytes 1 0 ≡ 45 → length bytes ≡ 2 → Adds of word given given Ends
  at_end [] bytes same is second short = cc
  at_end (b ∷ []) bytes same is second short = cc
  at_end (b ∷ next ∷ []) bytes same is second short =
      let second : 45 ≡ next = sym (subst (λ w. get_or w 1 0 ≡ 45) same second) in
      record { front = []; added = sym (append-nil given); is = subst (λ w. IsSaid of w [] Ends) (ap (λ n. 45 ∷ n ∷ []) second ∙ ap (λ n. n ∷ next ∷ []) (first b next [] is)) (stop own) }
  at_end (b ∷ next ∷ letter ∷ text) bytes same is second short = absurd (omega (arith, subst (λ w. length w ≡ 2) same short))

  -- a name behind `--`
  pub at_long : (word bytes text : Text) (more : Saying) → bytes ≡ word → is_option word ≡ true → get_or bytes 1 0 ≡ 45 → length bytes ≢ 2 → text ≡ drop 2 word
      → more ≡ long_saying of word text → Adds of word given given more
  at_long [] bytes text more same is second other rest says = cc
  at_long (b ∷ []) bytes text more same is second other rest says = cc
  at_long (b ∷ next ∷ []) bytes text more same is second other rest says = absurd (subst (λ w. length w ≢ 2) same other (omega arith))
  at_long (b ∷ next ∷ letter ∷ rest) bytes text more same is second other cut says =
      let second : 45 ≡ next = sym (subst (λ w. get_or w 1 0 ≡ 45) same second) in
      let begins : 45 ∷ 45 ∷ letter ∷ rest ≡ b ∷ next ∷ letter ∷ rest = ap (λ n. 45 ∷ n ∷ letter ∷ rest) second ∙ ap (λ n. n ∷ next ∷ letter ∷ rest) (first b next (letter ∷ rest) is) in
      let said : IsSaid of (b ∷ next ∷ letter ∷ rest) [] (long_saying of (b ∷ next ∷ letter ∷ rest) (letter ∷ rest)) = subst (λ w. IsSaid of w [] (long_saying of w (letter ∷ rest))) begins (long letter rest own) in
      record { front = []; added = sym (append-nil given); is = subst (IsSaid of (b ∷ next ∷ letter ∷ rest) []) (sym (says ∙ ap (long_saying of (b ∷ next ∷ letter ∷ rest)) cut)) said }

-- the first of some words, and those after it
pub words_split : {A : Type 0} (text : A → Text) (items : List A) (item : A) (word : Text) → 1 ≤ length items → item ≡ get_or items 0 item → word ≡ text item
    → map text items ≡ word ∷ map text (take (length items - 1) (drop 1 items))
words_split text [] item word some is same = absurd (omega (arith, some))
words_split {A = A} text (x ∷ items) item word some is same =
    ap (λ w. w ∷ map text items) (sym (same ∙ ap text is)) ∙ ap (λ (l : List A). word ∷ map text l) (sym (take_all _ items (omega arith)))

-- no words
pub words_none : {A : Type 0} (text : A → Text) (items : List A) → length items < 1 → map text items ≡ []
words_none text [] none = refl
words_none text (x ∷ items) none = absurd (omega (arith, none))

module _ (of : Words) (word : Text) (before middle after : List GivenView) (words rest : List Text) where
  -- an option, and its value
  pub on_apart_at : (meaning : Meaning) (value : Text) → words ≡ value ∷ rest → Adds of word before middle (Begun meaning) → after ≡ middle ++ (meaning, value) ∷ []
      → LeadsOn of before (word ∷ words) after rest
  on_apart_at meaning value are adds added = subst (λ w. LeadsOn of before (word ∷ w) after rest) (sym are) (on_apart of word before middle after meaning value rest adds added)

  -- `--`, and nothing behind it
  pub on_end_at : words ≡ [] → Adds of word before after Ends → LeadsOn of before (word ∷ words) after words
  on_end_at none adds = subst (λ w. LeadsOn of before (word ∷ w) after w) (sym none) (on_end of word before middle after adds)

  -- `--`, and a file behind it
  pub on_past_end : (next : Text) → words ≡ next ∷ rest → Adds of word before after Ends → IsRead of (word ∷ words) (Err (IsFile next))
  on_past_end next are adds = subst (λ w. IsRead of (word ∷ w) (Err (IsFile next))) (sym are) (past_end word next rest adds.front adds.is)

  -- an option that lacks its value
  pub on_lacking : (meaning : Meaning) → words ≡ [] → Adds of word before after (Begun meaning) → IsRead of (word ∷ words) (Err (LacksValue meaning))
  on_lacking meaning none adds = subst (λ w. IsRead of (word ∷ w) (Err (LacksValue meaning))) (sym none) (lacking word adds.front meaning adds.is)

-- an error in words that others led to is one in those
pub refused_on : (of : Words) (words rest : List Text) (given : List GivenView) (error : ReadError) → Leads of words given rest → IsRefusal (IsRead of rest) error → IsRefusal (IsRead of words) error
refused_on of words rest given (Refused fault) led refused = led (Err (fault_view fault)) refused
refused_on of words rest given OutOfMemory led refused = tt

-- no word is left
pub all_read : (of : Words) (words rest : List Text) (given : List GivenView) → Leads of words given rest → rest ≡ [] → IsRead of words (Ok given)
all_read of words rest given led none =
    subst (λ g. IsRead of words (Ok g)) (append-nil given) (led (Ok []) (subst (λ w. IsRead of w (Ok [])) (sym none) nothing))
