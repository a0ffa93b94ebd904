-- Reading goes on from any place as it began.
use Rattle.std.proofs.Common.{◌≡◌, ℕ, suc, ◌+◌, ◌-◌, ◌<◌, ◌≤◌, List, [], ◌∷◌, ◌++◌, length, get_or, refl, sym, ap, subst, Some, None, Option, arith, append_assoc, append-nil, drop, add-one, reverse, Bool, true, false, ◌==◌, ◌∙◌}
use Rattle.std.proofs.lemmas.List.{length-reverse, reverse-append, reverse-reverse}
use Rattle.std.proofs.Math.Seq.{drop-cons}
use Rattle.std.proofs.lemmas.Grind.{common_steps}
use Rattle.std.proofs.lemmas.Bool.Decides.{nat_tests}
use Rattle.implib_arm64ec.specs.Grammar.{next, followed, scope}
use Rattle.implib_arm64ec.specs.Reading.{one_more, qualified_name, read}
use Rattle.implib_arm64ec.specs.declared.nonterminal.Nonterminal.{Nonterminal}
use Rattle.implib_arm64ec.specs.declared.nonterminal.Nonterminal.TheVariants.{Leaf, Scopes}
use Rattle.implib_arm64ec.specs.declared.reading.Reading.{Reading}
use Rattle.implib_arm64ec.specs.declared.reading.Reading.TheVariants.{Ends, Stops}

-- a reading from a later place on
abbrev pub shifted : ℕ → Reading → Reading
shifted by (Ends place) = Ends (by + place)
shifted by (Stops place) = Stops (by + place)

pub shifted_one_more : (by : ℕ) (r : Reading) → shifted by (one_more r) ≡ shifted (by + 1) r
shifted_one_more by (Ends place) = ap Ends (omega arith)
shifted_one_more by (Stops place) = ap Stops (omega arith)

-- a byte that begins the first part
pub read_byte : (part : Nonterminal) (parts begun : List Nonterminal) (b : ℕ) (text : List ℕ)
    → next part b ≡ Some begun → read (part ∷ parts) (b ∷ text) ≡ one_more (read (begun ++ parts) text)
unfolding read
read_byte part parts begun b text begins = rw (begins, read) refl

-- a byte that does not
pub read_other : (part : Nonterminal) (parts : List Nonterminal) (b : ℕ) (text : List ℕ)
    → next part b ≡ None → read (part ∷ parts) (b ∷ text) ≡ Stops 0
unfolding read
read_other part parts b text stops = rw (stops, read) refl

pub read_none : (text : List ℕ) → read [] text ≡ Ends 0
unfolding read
read_none text = refl

pub read_past : (part : Nonterminal) (parts : List Nonterminal) → read (part ∷ parts) [] ≡ Stops 0
unfolding read
read_past part parts = refl

-- a reading that ends does so behind an `@`
pub record BehindAt (text : List ℕ) (place : ℕ) : Type 0 where
  pub positive : 0 < place
  pub within : place ≤ length text
  pub sign : get_or text (place - 1) 0 ≡ 0x40

behind_later : (b : ℕ) (text : List ℕ) (place : ℕ) → BehindAt text place → BehindAt (b ∷ text) (suc place)
behind_later b text place h = grind arith

ends_later : (b : ℕ) (text : List ℕ) (r : Reading) (place : ℕ)
    → ((p : ℕ) → r ≡ Ends p → BehindAt text p) → one_more r ≡ Ends place → BehindAt (b ∷ text) place
ends_later b text (Ends p) place rest e =
    let same : suc p ≡ place = cc in
    subst (λ (q : ℕ). BehindAt (b ∷ text) q) same (behind_later b text p (rest p refl))
ends_later b text (Stops p) place rest e = absurd (cc)

-- what a byte begins of the first of some parts with the scopes at the bottom
begun_end : (part : Nonterminal) (parts : List Nonterminal) (b : ℕ) (text : List ℕ) (place : ℕ) (begun : Option (List Nonterminal))
    → next part b ≡ begun
    → ((all : List Nonterminal) → begun ≡ Some all → (p : ℕ) → read (all ++ parts) text ≡ Ends p → BehindAt text p)
    → read (part ∷ parts) (b ∷ text) ≡ Ends place → BehindAt (b ∷ text) place
begun_end part parts b text place None n rest e = grind (arith, read_other)
begun_end part parts b text place (Some all) n rest e = grind (arith, ends_later b text (read (all ++ parts) text) place (rest all refl) (sym (read_byte part parts all b text n) ∙ e), read_byte part parts all b text n)

-- scopes behind a scope
scopes_begun : (text : List ℕ) (begun : Option (List Nonterminal))
    → ((parts : List Nonterminal) (p : ℕ) → read (parts ++ (Scopes ∷ [])) text ≡ Ends p → BehindAt text p)
    → (all : List Nonterminal) → followed begun (Scopes ∷ []) ≡ Some all → (p : ℕ) → read (all ++ []) text ≡ Ends p → BehindAt text p
scopes_begun text None rest all e p ends = absurd (cc)
scopes_begun text (Some parts) rest all e p ends =
    let same : parts ++ (Scopes ∷ []) ≡ all = cc in
    rest parts p (subst (λ (q : List Nonterminal). read q text ≡ Ends p) (append-nil all ∙ sym same) ends)

-- the scopes themselves
bottom_end : (b : ℕ) (text : List ℕ) (place : ℕ) (last : Bool) → (b == 0x40) ≡ last
    → ((parts : List Nonterminal) (p : ℕ) → read (parts ++ (Scopes ∷ [])) text ≡ Ends p → BehindAt text p)
    → read (Scopes ∷ []) (b ∷ text) ≡ Ends place → BehindAt (b ∷ text) place
bottom_end b text place true last rest e =
    let begins : next Scopes b ≡ Some [] = rw last refl in
    let one : Ends 1 ≡ Ends place = sym (ap one_more (read_none text)) ∙ (sym (read_byte Scopes [] [] b text begins) ∙ e) in
    let same : 1 ≡ place = cc in
    subst (λ (q : ℕ). BehindAt (b ∷ text) q) same
    (record { positive = omega arith; within = omega arith; sign = grind (arith, nat_tests, last) })
bottom_end b text place false last rest e = grind (arith, begun_end Scopes [] b text place (followed (scope b) (Scopes ∷ [])) (rw last refl) (scopes_begun text (scope b) rest) e, scopes_begun text (scope b) rest)

scopes_end_by : (text : List ℕ) (parts : List Nonterminal) (place : ℕ) → read (parts ++ (Scopes ∷ [])) text ≡ Ends place → BehindAt text place
scopes_end_by [] [] place e = absurd (let stops : Stops 0 ≡ Ends place = sym (read_past Scopes []) ∙ e in cc)
scopes_end_by [] (part ∷ parts) place e = absurd (let stops : Stops 0 ≡ Ends place = sym (read_past part (parts ++ (Scopes ∷ []))) ∙ e in cc)
scopes_end_by (b ∷ text) [] place e = bottom_end b text place (b == 0x40) refl (scopes_end_by text) e
scopes_end_by (b ∷ text) (part ∷ parts) place e =
    begun_end part (parts ++ (Scopes ∷ [])) b text place (next part b) refl
    (λ all begins p ends. scopes_end_by text (all ++ parts) p
    (subst (λ (q : List Nonterminal). read q text ≡ Ends p) (sym (append_assoc all parts (Scopes ∷ []))) ends)) e

-- a qualified name ends behind an `@`
pub qualified_name_end : (text : List ℕ) (place : ℕ) → read qualified_name text ≡ Ends place → BehindAt text place
qualified_name_end text place e = scopes_end_by text (Leaf ∷ []) place e

-- The stack has the next part on top, so it is the parts in reverse.
pub stack_empty : (items : List Nonterminal) (text : List ℕ) (place : ℕ) → length items ≡ 0
    → shifted place (read (reverse items) text) ≡ Ends place
stack_empty [] text place e = rw (read_none text) (ap Ends (omega arith))
stack_empty (part ∷ items) text place e = absurd (omega arith)

pub stack_stops : (items before : List Nonterminal) (part : Nonterminal) (b : ℕ) (text : List ℕ) (place : ℕ)
    → items ≡ before ++ (part ∷ []) → next part b ≡ None
    → shifted place (read (reverse items) (b ∷ text)) ≡ Stops place
stack_stops items before part b text place e n = grind (arith, reverse-append, read_other)

pub stack_goes_on : (items before after parts then_parts : List Nonterminal) (part : Nonterminal) (b : ℕ) (text : List ℕ) (place : ℕ)
    → items ≡ before ++ (part ∷ []) → next part b ≡ Some (parts ++ then_parts)
    → after ≡ (before ++ reverse then_parts) ++ reverse parts
    → shifted (place + 1) (read (reverse after) text) ≡ shifted place (read (reverse items) (b ∷ text))
stack_goes_on items before after parts then_parts part b text place e n a =
    let popped : reverse items ≡ part ∷ reverse before = rw (e, reverse-append) refl in
    let pushed : reverse after ≡ (parts ++ then_parts) ++ reverse before = rw a (simp (reverse-append, reverse-reverse, append_assoc)) in
    rw (popped, pushed, read_byte part (reverse before) (parts ++ then_parts) b text n)
    (sym (shifted_one_more place (read ((parts ++ then_parts) ++ reverse before) text)))

past_end : (parts : List Nonterminal) (place : ℕ) → (length parts ≡ 0 → ⊥) → shifted place (read parts []) ≡ Stops place
past_end [] place e = absurd (e refl)
past_end (part ∷ parts) place e = rw (read_past part parts) (ap Stops (omega arith))

pub stack_left : (items : List Nonterminal) (place : ℕ) → (length items ≡ 0 → ⊥) → shifted place (read (reverse items) []) ≡ Stops place
stack_left items place e = past_end (reverse items) place (λ z. e (sym (length-reverse items) ∙ z))

-- the rest of a text from a place on, and behind its end
pub rest_at : (text : List ℕ) (place : ℕ) → place < length text → drop place text ≡ get_or text place 0 ∷ drop (place + 1) text
rest_at text place within = rw add-one (drop-cons text place 0 within)

pub rest_past : (text : List ℕ) (place : ℕ) → length text ≤ place → drop place text ≡ []
rest_past text place past = grind (arith, common_steps)

-- a reading that stops does so within the text or at its end
stops_later : (b : ℕ) (text : List ℕ) (r : Reading) (place : ℕ)
    → ((p : ℕ) → r ≡ Stops p → p ≤ length text) → one_more r ≡ Stops place → place ≤ length (b ∷ text)
stops_later b text (Ends p) place rest e = absurd (cc)
stops_later b text (Stops p) place rest e = let same : suc p ≡ place = cc in omega (arith, rest p refl)

stops_begun : (part : Nonterminal) (parts : List Nonterminal) (b : ℕ) (text : List ℕ) (place : ℕ) (begun : Option (List Nonterminal))
    → next part b ≡ begun → ((all : List Nonterminal) (p : ℕ) → read all text ≡ Stops p → p ≤ length text)
    → read (part ∷ parts) (b ∷ text) ≡ Stops place → place ≤ length (b ∷ text)
stops_begun part parts b text place None n rest e = grind (arith, read_other)
stops_begun part parts b text place (Some all) n rest e = grind (arith, stops_later b text (read (all ++ parts) text) place (rest (all ++ parts)) (sym (read_byte part parts all b text n) ∙ e), read_byte part parts all b text n)

pub stops_within : (text : List ℕ) (parts : List Nonterminal) (place : ℕ) → read parts text ≡ Stops place → place ≤ length text
stops_within text [] place e = absurd (let ends : Ends 0 ≡ Stops place = sym (read_none text) ∙ e in cc)
stops_within [] (part ∷ parts) place e = grind (arith, read_past)
stops_within (b ∷ text) (part ∷ parts) place e = stops_begun part parts b text place (next part b) refl (stops_within text) e
