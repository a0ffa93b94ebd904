-- The first call on I386.
use Rattle.std.proofs.Common.{◌≡◌, ◌≢◌, ℕ, ◌+◌, ◌-◌, ◌%◌, ◌<◌, ◌≤◌, Bool, true, [], ◌∷◌, refl, arith, ap, ◌∙◌, Some}
use Rattle.std.specs.Prelude.{nat_le}
use Rattle.implib_delay.specs.Processor.{Bits32, State, set_register, checked, push_word, pop_word, is_aligned, with_value}
use Rattle.implib_delay.specs.Decoding.{run, run_bytes}
use Rattle.implib_delay.specs.Code.{tail_code, linked_stub, linked_tail}
use Rattle.implib_delay.specs.Calls.{Placement, FieldsLead, ByStub, ByTail, Then, Begins, FirstCall, LaterCalls, SameAt}
use Rattle.std.proofs.lemmas.Bool.{eq-eqb, le-leb}
use Rattle.std.proofs.Math.Bool.{and-true}
use Rattle.implib_delay.proofs.Words.{value_elsewhere, value_here}

-- the state behind the stub's jump through the entry, and at the tail
jumped : Placement → State → State
jumped p s = checked (is_aligned 4 p.entry) s

at_tail : Placement → State → State
at_tail p s = push_word Bits32 p.descriptor (set_register 0 p.entry s)

-- the three pushes, the descriptor's, and the call
pushed : State → State
pushed s =
    push_word Bits32 (s.registers 0) (push_word Bits32 (s.registers 2) (push_word Bits32 (s.registers 1) s))

at_helper : Placement → State → State
at_helper p s =
    let c : State = pushed s in
    let address : ℕ = c.registers 4 + 12 in
    push_word Bits32 (p.tail + 12)
    (checked (is_aligned 4 address) (push_word Bits32 (c.words address) c))

-- the state at the function, of that where the helper returned
at_function : State → State
at_function s =
    let c : State = pop_word Bits32 1 (pop_word Bits32 2 s) in set_register 4 (c.registers 4 + 4) c

-- the four legs

leg_jump : (p : Placement) (s : State) → FieldsLead Bits32 p → s.words p.entry ≡ p.stub + 6 →
    run Bits32 p.stub (linked_stub Bits32 p.fields) 0 s ≡ Some (record { to = p.stub + 6; state = jumped p s })
unfolding run_bytes jumped
leg_jump p s lead unbound = rw (lead.jump, unbound) refl

leg_stub : (p : Placement) (s : State) → FieldsLead Bits32 p →
    run Bits32 p.stub (linked_stub Bits32 p.fields) 6 s ≡ Some (record { to = p.tail; state = at_tail p s })
unfolding run_bytes at_tail
leg_stub p s lead = rw (lead.entry, lead.descriptor, lead.tail) refl

leg_tail : (p : Placement) (s : State) → FieldsLead Bits32 p →
    run Bits32 p.tail (linked_tail Bits32 p.helper_field) 0 s ≡ Some (record { to = p.helper; state = at_helper p s })
unfolding run_bytes tail_code at_helper pushed
leg_tail p s lead = rw (lead.helper) refl

leg_back : (p : Placement) (s : State) (address : ℕ) → s.registers 0 ≡ address →
    run Bits32 p.tail (linked_tail Bits32 p.helper_field) 12 s ≡ Some (record { to = address; state = at_function s })
unfolding run_bytes tail_code at_function
leg_back p s address answer = rw answer refl

-- five words below an address
five : (ℕ → ℕ) → ℕ → ℕ → ℕ → ℕ → ℕ → ℕ → ℕ → ℕ
five f top a b c d e =
    with_value (with_value (with_value (with_value (with_value f (top - 4) a) (top - 4 - 4) b) (top - 4 - 4 - 4) c) (top - 4 - 4 - 4 - 4) d) (top - 4 - 4 - 4 - 4 - 4) e

elsewhere : (f : ℕ → ℕ) (key value q : ℕ) (x : ℕ) → q ≢ key → f q ≡ x → with_value f key value q ≡ x
elsewhere f key value q x other here = value_elsewhere f key value q other ∙ here

here_at : (f : ℕ → ℕ) (key value q : ℕ) → q ≡ key → with_value f key value q ≡ value
here_at f key value q same = rw same (value_here f key value)

-- what is at each of them, and above
record Five (f : ℕ → ℕ) (top a b c d e : ℕ) (words : ℕ → ℕ) : Type 0 where
  first : (q : ℕ) → q ≡ top - 4 → words q ≡ a
  second : (q : ℕ) → q ≡ top - 8 → words q ≡ b
  third : (q : ℕ) → q ≡ top - 12 → words q ≡ c
  fourth : (q : ℕ) → q ≡ top - 16 → words q ≡ d
  fifth : (q : ℕ) → q ≡ top - 20 → words q ≡ e
  above : (q : ℕ) → top ≤ q → words q ≡ f q

five_are : (f : ℕ → ℕ) (top a b c d e : ℕ) → 20 ≤ top → Five f top a b c d e (five f top a b c d e)
unfolding five
five_are f top a b c d e room =
    let k1 : ℕ = top - 4 in
    let k2 : ℕ = top - 4 - 4 in
    let k3 : ℕ = top - 4 - 4 - 4 in
    let k4 : ℕ = top - 4 - 4 - 4 - 4 in
    let k5 : ℕ = top - 4 - 4 - 4 - 4 - 4 in
    let f1 : ℕ → ℕ = with_value f k1 a in
    let f2 : ℕ → ℕ = with_value f1 k2 b in
    let f3 : ℕ → ℕ = with_value f2 k3 c in
    let f4 : ℕ → ℕ = with_value f3 k4 d in
    record {
      first = λ q is. elsewhere f4 k5 e q a (λ s. omega arith) (elsewhere f3 k4 d q a (λ s. omega arith) (elsewhere f2 k3 c q a (λ s. omega arith) (elsewhere f1 k2 b q a (λ s. omega arith) (here_at f k1 a q is))));
      second = λ q is. elsewhere f4 k5 e q b (λ s. omega arith) (elsewhere f3 k4 d q b (λ s. omega arith) (elsewhere f2 k3 c q b (λ s. omega arith) (here_at f1 k2 b q (omega arith))));
      third = λ q is. elsewhere f4 k5 e q c (λ s. omega arith) (elsewhere f3 k4 d q c (λ s. omega arith) (here_at f2 k3 c q (omega arith)));
      fourth = λ q is. elsewhere f4 k5 e q d (λ s. omega arith) (here_at f3 k4 d q (omega arith));
      fifth = λ q is. here_at f4 k5 e q (omega arith);
      above = λ q above. elsewhere f4 k5 e q (f q) (λ s. omega arith) (elsewhere f3 k4 d q (f q) (λ s. omega arith) (elsewhere f2 k3 c q (f q) (λ s. omega arith) (elsewhere f1 k2 b q (f q) (λ s. omega arith) (value_elsewhere f k1 a q (λ s. omega arith)))));
    }

-- the words at the helper, where the tail began with the descriptor on the stack
words_at_helper : (p : Placement) (t : State) → 20 ≤ t.registers 4 → t.words (t.registers 4) ≡ p.descriptor →
    Five t.words (t.registers 4) (t.registers 1) (t.registers 2) (t.registers 0) p.descriptor (p.tail + 12) (at_helper p t).words
unfolding at_helper pushed five
words_at_helper p t room here = grind (arith, elsewhere, five_are)

-- all accesses are aligned
at_tail-sound : (p : Placement) (s : State) → s.registers 4 % 4 ≡ 0 → 4 ≤ s.registers 4 → s.is_sound ≡ true → (at_tail p s).is_sound ≡ true
unfolding at_tail
at_tail-sound p s whole room sound = grind (arith, le-leb)

at_helper-sound : (p : Placement) (s : State) → s.registers 4 % 4 ≡ 0 → 20 ≤ s.registers 4 → s.is_sound ≡ true → (at_helper p s).is_sound ≡ true
unfolding at_helper pushed
at_helper-sound p s whole room sound =
    let top : ℕ = s.registers 4 in
    let a1 : (top - 4) % 4 ≡ 0 = omega arith in
    let a2 : (top - 4 - 4) % 4 ≡ 0 = omega arith in
    let a3 : (top - 4 - 4 - 4) % 4 ≡ 0 = omega arith in
    let a4 : (top - 4 - 4 - 4 - 4) % 4 ≡ 0 = omega arith in
    let a5 : (top - 4 - 4 - 4 - 4 - 4) % 4 ≡ 0 = omega arith in
    let a6 : (top - 4 - 4 - 4 + 12) % 4 ≡ 0 = omega arith in
    let b1 : nat_le 4 top ≡ true = le-leb _ _ (omega arith) in
    let b2 : nat_le 4 (top - 4) ≡ true = le-leb _ _ (omega arith) in
    let b3 : nat_le 4 (top - 4 - 4) ≡ true = le-leb _ _ (omega arith) in
    let b4 : nat_le 4 (top - 4 - 4 - 4) ≡ true = le-leb _ _ (omega arith) in
    let b5 : nat_le 4 (top - 4 - 4 - 4 - 4) ≡ true = le-leb _ _ (omega arith) in
    simp (sound, a1, a2, a3, a4, a5, a6, b1, b2, b3, b4, b5)

at_function-sound : (s : State) → s.registers 4 % 4 ≡ 0 → s.is_sound ≡ true → (at_function s).is_sound ≡ true
unfolding at_function
at_function-sound s whole sound =
    let next : (s.registers 4 + 4) % 4 ≡ 0 = omega arith in
    simp (sound, whole, next)

-- the registers at the helper
at_helper-pointer : (p : Placement) (s : State) → (at_helper p s).registers 4 ≡ s.registers 4 - 4 - 4 - 4 - 4 - 4
unfolding at_helper pushed
at_helper-pointer p s = refl

at_helper-kept : (p : Placement) (s : State) → SameAt (3 ∷ 5 ∷ 6 ∷ 7 ∷ []) (at_helper p s).registers s.registers
unfolding at_helper pushed
at_helper-kept p s = (refl, (refl, (refl, (refl, tt))))

-- the first call
pub first_call32 : (p : Placement) (end : ℕ) (s : State) → FieldsLead Bits32 p → Begins Bits32 p end s → FirstCall Bits32 p end s
unfolding at_tail jumped at_function
first_call32 p end s lead begins =
    let aligned : is_aligned 4 p.entry ≡ true = eq-eqb _ _ begins.aligned in
    let j : State = jumped p s in
    let t : State = at_tail p j in
    let room : 24 ≤ s.registers 4 = begins.room in
    let within : s.registers 4 + 4 ≤ end = begins.within in
    let sound : t.is_sound ≡ true = at_tail-sound p j begins.pointer (omega arith) (rw (begins.sound, aligned) refl) in
    let top : t.registers 4 ≡ s.registers 4 - 4 = refl in
    let whole : t.registers 4 % 4 ≡ 0 = omega (arith, begins.pointer) in
    let helped : (at_helper p t).is_sound ≡ true = at_helper-sound p t whole (omega arith) sound in
    let here : t.words (t.registers 4) ≡ p.descriptor = value_here s.words (s.registers 4 - 4) p.descriptor in
    let words = words_at_helper p t (omega arith) here in
    let pointer : (at_helper p t).registers 4 ≡ t.registers 4 - 4 - 4 - 4 - 4 - 4 = at_helper-pointer p t in
    let kept = at_helper-kept p t in
    let own : (q : ℕ) → s.registers 4 ≤ q → t.words q ≡ s.words q = λ q above. value_elsewhere s.words (s.registers 4 - 4) p.descriptor q (λ same. omega arith) in
    record {
      called = at_helper p t;
      calls = record {
        goes = Then p.stub s (p.stub + 6) (jumped p s) p.helper (at_helper p t)
            (ByStub 0 p.stub s (p.stub + 6) (jumped p s) (omega arith) (leg_jump p s lead begins.unbound))
            (Then (p.stub + 6) (jumped p s) p.tail t p.helper (at_helper p t)
            (ByStub 6 (p.stub + 6) (jumped p s) p.tail t refl (leg_stub p (jumped p s) lead))
            (ByTail 0 p.tail t p.helper (at_helper p t) (omega arith) (leg_tail p t lead)));
        descriptor = words.fourth _ (omega arith);
        entry = words.third _ (omega arith);
        returns_to = words.fifth _ (omega arith);
        pointer = omega (arith, begins.pointer);
        sound = helped;
      };
      arrives = λ address returned answers.
          let back : returned.registers 4 ≡ t.registers 4 - 4 - 4 = omega (arith, answers.pointer) in
          let again : (q : ℕ) → t.registers 4 - 4 - 4 ≤ q → q < end → returned.words q ≡ (at_helper p t).words q = λ q above below. answers.stack q (omega arith) below in
          record {
            arrived = at_function returned;
            goes = ByTail 12 (p.tail + 12) returned address (at_function returned) refl (leg_back p returned address answers.answer);
            arrives_as = grind (arith, at_function-sound);
          };
    }

-- a later call
pub later_calls32 : (p : Placement) → FieldsLead Bits32 p → p.entry % 4 ≡ 0 → LaterCalls Bits32 p
unfolding run_bytes
later_calls32 p lead whole address s entry sound =
    let aligned : is_aligned 4 p.entry ≡ true = eq-eqb _ _ whole in
    let same : checked (is_aligned 4 p.entry) s ≡ s = rw aligned (ap (λ (b : Bool). record s { is_sound = b }) (and-true s.is_sound)) in
    ByStub 0 p.stub s address s (omega arith) (rw (lead.jump, entry, same) refl)
