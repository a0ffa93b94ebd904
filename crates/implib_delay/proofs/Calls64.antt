-- The first call on AMD64.
use Rattle.std.proofs.Common.{◌≡◌, ◌≢◌, ℕ, ◌+◌, ◌-◌, ◌%◌, ◌<◌, ◌≤◌, Bool, true, false, refl, arith, ap, sym, ◌∙◌, Some, add_assoc}
use Rattle.std.specs.Prelude.{◌==◌, nat_le}
use Rattle.implib_delay.specs.Processor.{Bits64, State, Vector, set_register, checked, push_word, store_word, store_vector, load_word, load_vector, is_aligned, with_value}
use Rattle.implib_delay.specs.Decoding.{run, run_bytes}
use Rattle.implib_delay.specs.Code.{tail_code, linked_stub, linked_tail}
use Rattle.implib_delay.specs.Calls.{Placement, FieldsLead, ByStub, ByTail, Then, Begins, Answers, ArrivesAs, FirstCall, LaterCalls}
use Rattle.std.proofs.lemmas.Bool.{eq-eqb, le-leb, ne_eqb}
use Rattle.std.proofs.Math.Bool.{and-true}
use Rattle.implib_delay.proofs.Words.{shift_eq, value_elsewhere, value_here, mod16_shift, mod8_shift}

-- the state behind the stub's jump through the entry, and at the tail
jumped : Placement → State → State
jumped p s = checked (is_aligned 8 p.entry) s

at_tail : Placement → State → State
at_tail p s = set_register 11 p.descriptor (set_register 0 p.entry s)

-- the state at the helper, of that at the tail
at_helper : Placement → State → State
at_helper p s =
    let frame : ℕ = s.registers 4 - 136 in
    push_word Bits64 (p.tail + 0x50)
    (set_register 1 (s.registers 11)
    (set_register 2 (s.registers 0)
    (store_vector (frame + 112) (s.vectors 5)
    (store_vector (frame + 96) (s.vectors 4)
    (store_vector (frame + 80) (s.vectors 3)
    (store_vector (frame + 64) (s.vectors 2)
    (store_vector (frame + 48) (s.vectors 1)
    (store_vector (frame + 32) (s.vectors 0)
    (store_word Bits64 (frame + 168) (s.registers 9)
    (store_word Bits64 (frame + 160) (s.registers 8)
    (store_word Bits64 (frame + 152) (s.registers 2)
    (store_word Bits64 (frame + 144) (s.registers 1)
    (checked (nat_le 136 (s.registers 4)) (set_register 4 frame s))))))))))))))

-- the state at the function, of that where the helper returned
at_function : State → State
at_function s =
    let frame : ℕ = s.registers 4 in
    set_register 4 (frame + 136)
    (load_vector 5 (frame + 112)
    (load_vector 4 (frame + 96)
    (load_vector 3 (frame + 80)
    (load_vector 2 (frame + 64)
    (load_vector 1 (frame + 48)
    (load_vector 0 (frame + 32)
    (load_word Bits64 9 (frame + 168)
    (load_word Bits64 8 (frame + 160)
    (load_word Bits64 2 (frame + 152)
    (load_word Bits64 1 (frame + 144) s))))))))))

-- the four legs

leg_jump : (p : Placement) (s : State) → FieldsLead Bits64 p → s.words p.entry ≡ p.stub + 6 →
    run Bits64 p.stub (linked_stub Bits64 p.fields) 0 s ≡ Some (record { to = p.stub + 6; state = jumped p s })
unfolding run_bytes jumped
leg_jump p s lead unbound = rw (lead.jump, unbound) refl

leg_stub : (p : Placement) (s : State) → FieldsLead Bits64 p →
    run Bits64 p.stub (linked_stub Bits64 p.fields) 6 s ≡ Some (record { to = p.tail; state = at_tail p s })
unfolding run_bytes at_tail
leg_stub p s lead = rw (lead.entry, lead.descriptor, lead.tail) refl

leg_tail : (p : Placement) (s : State) → FieldsLead Bits64 p →
    run Bits64 p.tail (linked_tail Bits64 p.helper_field) 0 s ≡ Some (record { to = p.helper; state = at_helper p s })
unfolding run_bytes tail_code at_helper
leg_tail p s lead = rw (lead.helper) refl

leg_back : (p : Placement) (s : State) (address : ℕ) → s.registers 0 ≡ address →
    run Bits64 p.tail (linked_tail Bits64 p.helper_field) 0x50 s ≡ Some (record { to = address; state = at_function s })
unfolding run_bytes tail_code at_function
leg_back p s address answer = rw answer refl

-- the words that the tail keeps, in a frame
kept_words : ℕ → State → ℕ → ℕ
kept_words frame s =
    (store_vector (frame + 112) (s.vectors 5)
    (store_vector (frame + 96) (s.vectors 4)
    (store_vector (frame + 80) (s.vectors 3)
    (store_vector (frame + 64) (s.vectors 2)
    (store_vector (frame + 48) (s.vectors 1)
    (store_vector (frame + 32) (s.vectors 0)
    (store_word Bits64 (frame + 168) (s.registers 9)
    (store_word Bits64 (frame + 160) (s.registers 8)
    (store_word Bits64 (frame + 152) (s.registers 2)
    (store_word Bits64 (frame + 144) (s.registers 1) s)))))))))).words

-- what is in the frame
record InFrame (frame : ℕ) (s : State) (words : ℕ → ℕ) : Type 0 where
  rcx : words (frame + 144) ≡ s.registers 1
  rdx : words (frame + 152) ≡ s.registers 2
  r8 : words (frame + 160) ≡ s.registers 8
  r9 : words (frame + 168) ≡ s.registers 9
  low0 : words (frame + 32) ≡ (s.vectors 0).low
  high0 : words (frame + 32 + 8) ≡ (s.vectors 0).high
  low1 : words (frame + 48) ≡ (s.vectors 1).low
  high1 : words (frame + 48 + 8) ≡ (s.vectors 1).high
  low2 : words (frame + 64) ≡ (s.vectors 2).low
  high2 : words (frame + 64 + 8) ≡ (s.vectors 2).high
  low3 : words (frame + 80) ≡ (s.vectors 3).low
  high3 : words (frame + 80 + 8) ≡ (s.vectors 3).high
  low4 : words (frame + 96) ≡ (s.vectors 4).low
  high4 : words (frame + 96 + 8) ≡ (s.vectors 4).high
  low5 : words (frame + 112) ≡ (s.vectors 5).low
  high5 : words (frame + 112 + 8) ≡ (s.vectors 5).high

kept_words_are : (frame : ℕ) (s : State) → InFrame frame s (kept_words frame s)
unfolding kept_words
kept_words_are frame s = record {
  rcx = simp (shift_eq, add_assoc);
  rdx = simp (shift_eq, add_assoc);
  r8 = simp (shift_eq, add_assoc);
  r9 = simp (shift_eq, add_assoc);
  low0 = simp (shift_eq, add_assoc);
  high0 = simp (shift_eq, add_assoc);
  low1 = simp (shift_eq, add_assoc);
  high1 = simp (shift_eq, add_assoc);
  low2 = simp (shift_eq, add_assoc);
  high2 = simp (shift_eq, add_assoc);
  low3 = simp (shift_eq, add_assoc);
  high3 = simp (shift_eq, add_assoc);
  low4 = simp (shift_eq, add_assoc);
  high4 = simp (shift_eq, add_assoc);
  low5 = simp (shift_eq, add_assoc);
  high5 = simp (shift_eq, add_assoc);
}

-- above the frame and the home space nothing is written
kept_words_above : (frame : ℕ) (s : State) (q : ℕ) → frame + 176 ≤ q → kept_words frame s q ≡ s.words q
unfolding kept_words
kept_words_above frame s q above =
    let e0 : (q == (frame + 144)) ≡ false = ne_eqb q (frame + 144) (λ same. omega arith) in
    let e1 : (q == (frame + 152)) ≡ false = ne_eqb q (frame + 152) (λ same. omega arith) in
    let e2 : (q == (frame + 160)) ≡ false = ne_eqb q (frame + 160) (λ same. omega arith) in
    let e3 : (q == (frame + 168)) ≡ false = ne_eqb q (frame + 168) (λ same. omega arith) in
    let e4 : (q == (frame + 32)) ≡ false = ne_eqb q (frame + 32) (λ same. omega arith) in
    let e5 : (q == (frame + 32 + 8)) ≡ false = ne_eqb q (frame + 32 + 8) (λ same. omega arith) in
    let e6 : (q == (frame + 48)) ≡ false = ne_eqb q (frame + 48) (λ same. omega arith) in
    let e7 : (q == (frame + 48 + 8)) ≡ false = ne_eqb q (frame + 48 + 8) (λ same. omega arith) in
    let e8 : (q == (frame + 64)) ≡ false = ne_eqb q (frame + 64) (λ same. omega arith) in
    let e9 : (q == (frame + 64 + 8)) ≡ false = ne_eqb q (frame + 64 + 8) (λ same. omega arith) in
    let e10 : (q == (frame + 80)) ≡ false = ne_eqb q (frame + 80) (λ same. omega arith) in
    let e11 : (q == (frame + 80 + 8)) ≡ false = ne_eqb q (frame + 80 + 8) (λ same. omega arith) in
    let e12 : (q == (frame + 96)) ≡ false = ne_eqb q (frame + 96) (λ same. omega arith) in
    let e13 : (q == (frame + 96 + 8)) ≡ false = ne_eqb q (frame + 96 + 8) (λ same. omega arith) in
    let e14 : (q == (frame + 112)) ≡ false = ne_eqb q (frame + 112) (λ same. omega arith) in
    let e15 : (q == (frame + 112 + 8)) ≡ false = ne_eqb q (frame + 112 + 8) (λ same. omega arith) in
    simp (e0, e1, e2, e3, e4, e5, e6, e7, e8, e9, e10, e11, e12, e13, e14, e15)

-- the return address stays
kept_words_between : (frame : ℕ) (s : State) → kept_words frame s (frame + 136) ≡ s.words (frame + 136)
unfolding kept_words
kept_words_between frame s = simp (shift_eq, add_assoc)

-- the words at the helper: the same, below the frame the address behind the call
at_helper-words : (p : Placement) (s : State) (q : ℕ) → s.registers 4 - 136 ≤ q → 0x90 ≤ s.registers 4 →
    (at_helper p s).words q ≡ kept_words (s.registers 4 - 136) s q
unfolding at_helper kept_words
at_helper-words p s q above room = value_elsewhere (kept_words (s.registers 4 - 136) s) (s.registers 4 - 136 - 8) (p.tail + 0x50) q (λ same. omega arith)

-- all accesses are aligned
at_helper-sound : (p : Placement) (s : State) → s.registers 4 % 16 ≡ 8 → 0x90 ≤ s.registers 4 → s.is_sound ≡ true → (at_helper p s).is_sound ≡ true
unfolding at_helper
at_helper-sound p s pointer room sound =
    let frame : ℕ = s.registers 4 - 136 in
    let whole : frame % 16 ≡ 0 = omega arith in
    let below : (frame - 8) % 8 ≡ 0 = omega arith in
    let first : nat_le 136 (s.registers 4) ≡ true = le-leb _ _ (omega arith) in
    let second : nat_le 8 frame ≡ true = le-leb _ _ (omega arith) in
    simp (sound, first, second, below, mod16_shift frame whole, mod8_shift frame whole)

at_function-sound : (s : State) → s.registers 4 % 16 ≡ 0 → s.is_sound ≡ true → (at_function s).is_sound ≡ true
unfolding at_function
at_function-sound s whole sound = simp (sound, mod16_shift (s.registers 4) whole, mod8_shift (s.registers 4) whole)

-- where the helper returned
record Back (p : Placement) (end address : ℕ) (s t returned : State) : Type 0 where
  begins : Begins Bits64 p end s
  answers : Answers Bits64 p end address (at_helper p t) returned
  registers : (r : ℕ) → r < 16 → r ≢ 0 → r ≢ 11 → t.registers r ≡ s.registers r
  vectors : (v : ℕ) → t.vectors v ≡ s.vectors v
  words : (q : ℕ) → t.words q ≡ s.words q
  sound : t.is_sound ≡ true

-- the stack's pointer is at the frame again
frame_again : (p : Placement) (end address : ℕ) (s t returned : State) → Back p end address s t returned → returned.registers 4 ≡ t.registers 4 - 136
unfolding at_helper
frame_again p end address s t returned b =
    let same : t.registers 4 ≡ s.registers 4 = b.registers 4 (omega arith) (λ e. omega arith) (λ e. omega arith) in
    omega (arith, b.answers.pointer, b.begins.room)

-- the words above the helper's home space are what they were
words_again : (p : Placement) (end address : ℕ) (s t returned : State) → Back p end address s t returned → (q : ℕ) →
    t.registers 4 - 136 + 32 ≤ q → q < end → returned.words q ≡ kept_words (t.registers 4 - 136) t q
unfolding at_helper
words_again p end address s t returned b q above below = grind (arith, at_helper-words)

-- so each word of the frame is what was kept
frame_words : (p : Placement) (end address : ℕ) (s t returned : State) → Back p end address s t returned →
    InFrame (returned.registers 4) s returned.words
frame_words p end address s t returned b =
    let same : t.registers 4 ≡ s.registers 4 = b.registers 4 (omega arith) (λ e. omega arith) (λ e. omega arith) in
    let frame : returned.registers 4 ≡ t.registers 4 - 136 = frame_again p end address s t returned b in
    let held = kept_words_are (t.registers 4 - 136) t in
    let again = words_again p end address s t returned b in
    let within : s.registers 4 + 40 ≤ end = b.begins.within in
    let room : 144 ≤ s.registers 4 = b.begins.room in
    rw frame (record {
      rcx = again _ (omega arith) (omega arith) ∙ held.rcx ∙ b.registers 1 (omega arith) (λ e. omega arith) (λ e. omega arith);
      rdx = again _ (omega arith) (omega arith) ∙ held.rdx ∙ b.registers 2 (omega arith) (λ e. omega arith) (λ e. omega arith);
      r8 = again _ (omega arith) (omega arith) ∙ held.r8 ∙ b.registers 8 (omega arith) (λ e. omega arith) (λ e. omega arith);
      r9 = again _ (omega arith) (omega arith) ∙ held.r9 ∙ b.registers 9 (omega arith) (λ e. omega arith) (λ e. omega arith);
      low0 = again _ (omega arith) (omega arith) ∙ held.low0 ∙ ap (λ v. v.low) (b.vectors 0);
      high0 = again _ (omega arith) (omega arith) ∙ held.high0 ∙ ap (λ v. v.high) (b.vectors 0);
      low1 = again _ (omega arith) (omega arith) ∙ held.low1 ∙ ap (λ v. v.low) (b.vectors 1);
      high1 = again _ (omega arith) (omega arith) ∙ held.high1 ∙ ap (λ v. v.high) (b.vectors 1);
      low2 = again _ (omega arith) (omega arith) ∙ held.low2 ∙ ap (λ v. v.low) (b.vectors 2);
      high2 = again _ (omega arith) (omega arith) ∙ held.high2 ∙ ap (λ v. v.high) (b.vectors 2);
      low3 = again _ (omega arith) (omega arith) ∙ held.low3 ∙ ap (λ v. v.low) (b.vectors 3);
      high3 = again _ (omega arith) (omega arith) ∙ held.high3 ∙ ap (λ v. v.high) (b.vectors 3);
      low4 = again _ (omega arith) (omega arith) ∙ held.low4 ∙ ap (λ v. v.low) (b.vectors 4);
      high4 = again _ (omega arith) (omega arith) ∙ held.high4 ∙ ap (λ v. v.high) (b.vectors 4);
      low5 = again _ (omega arith) (omega arith) ∙ held.low5 ∙ ap (λ v. v.low) (b.vectors 5);
      high5 = again _ (omega arith) (omega arith) ∙ held.high5 ∙ ap (λ v. v.high) (b.vectors 5);
    })

-- the same numbers
vector_is : (a b : Vector) → a.low ≡ b.low → a.high ≡ b.high → a ≡ b
vector_is a b low high = ap (λ (x : ℕ). record { low = x; high = a.high }) low ∙ ap (λ (x : ℕ). record { low = b.low; high = x }) high

-- control is at the function as at the call
arrives_as : (p : Placement) (end address : ℕ) (s t returned : State) → Back p end address s t returned → ArrivesAs Bits64 p end address s (at_function returned)
unfolding at_function at_helper
arrives_as p end address s t returned b =
    let same : t.registers 4 ≡ s.registers 4 = b.registers 4 (omega arith) (λ e. omega arith) (λ e. omega arith) in
    let frame : returned.registers 4 ≡ t.registers 4 - 136 = frame_again p end address s t returned b in
    let held = frame_words p end address s t returned b in
    let within : s.registers 4 + 40 ≤ end = b.begins.within in
    let room : 144 ≤ s.registers 4 = b.begins.room in
    let kept = b.answers.registers in
    let vectors = b.answers.vectors in
    let own : (r : ℕ) → r < 16 → r ≢ 0 → r ≢ 11 → t.registers r ≡ s.registers r = b.registers in
    record {
      arguments = (held.rcx, (held.rdx, (held.r8, (held.r9, tt))));
      argument_vectors = grind (arith, vector_is);
      pointer = omega arith;
      registers = grind arith;
      vectors = grind arith;
      returns_to =
          let at : s.registers 4 ≡ t.registers 4 - 136 + 136 = omega arith in
          words_again p end address s t returned b (s.registers 4) (omega arith) (omega arith)
          ∙ (ap (kept_words (t.registers 4 - 136) t) at ∙ (kept_words_between (t.registers 4 - 136) t ∙ (ap t.words (sym at) ∙ b.words (s.registers 4))));
      stack = λ q above below. words_again p end address s t returned b q (omega arith) below ∙ (kept_words_above (t.registers 4 - 136) t q (omega arith) ∙ b.words q);
      entry = b.answers.written;
      sound =
          at_function-sound returned (omega (arith, b.begins.pointer))
          (b.answers.sound ∙ at_helper-sound p t (omega (arith, b.begins.pointer)) (omega arith) b.sound);
    }

-- the first call
pub first_call64 : (p : Placement) (end : ℕ) (s : State) → FieldsLead Bits64 p → Begins Bits64 p end s → FirstCall Bits64 p end s
unfolding at_helper at_tail jumped kept_words
first_call64 p end s lead begins =
    let aligned : is_aligned 8 p.entry ≡ true = eq-eqb _ _ begins.aligned in
    let t : State = at_tail p (jumped p s) in
    let sound : t.is_sound ≡ true = rw (begins.sound, aligned) refl in
    let helped : (at_helper p t).is_sound ≡ true = at_helper-sound p t begins.pointer begins.room sound in
    record {
      called = at_helper p t;
      calls = record {
        goes = Then p.stub s (p.stub + 6) (jumped p s) p.helper (at_helper p t)
            (ByStub 0 p.stub s (p.stub + 6) (jumped p s) (omega arith) (leg_jump p s lead begins.unbound))
            (Then (p.stub + 6) (jumped p s) p.tail t p.helper (at_helper p t)
            (ByStub 6 (p.stub + 6) (jumped p s) p.tail t refl (leg_stub p (jumped p s) lead))
            (ByTail 0 p.tail t p.helper (at_helper p t) (omega arith) (leg_tail p t lead)));
        descriptor = refl;
        entry = refl;
        returns_to = value_here (kept_words (s.registers 4 - 136) t) (s.registers 4 - 136 - 8) (p.tail + 80);
        pointer = omega (arith, begins.pointer, begins.room);
        sound = helped;
      };
      arrives = λ address returned answers. record {
        arrived = at_function returned;
        goes = ByTail 0x50 (p.tail + 80) returned address (at_function returned) refl (leg_back p returned address answers.answer);
        arrives_as = arrives_as p end address s t returned (record {
          begins = begins;
          answers = answers;
          registers = λ r low not0 not11. value_elsewhere (with_value s.registers 0 p.entry) 11 p.descriptor r not11 ∙ value_elsewhere s.registers 0 p.entry r not0;
          vectors = λ v. refl;
          words = λ q. refl;
          sound = sound;
        });
      };
    }

-- a later call
pub later_calls64 : (p : Placement) → FieldsLead Bits64 p → p.entry % 8 ≡ 0 → LaterCalls Bits64 p
unfolding run_bytes
later_calls64 p lead whole address s entry sound =
    let aligned : is_aligned 8 p.entry ≡ true = eq-eqb _ _ whole in
    let same : checked (is_aligned 8 p.entry) s ≡ s = rw aligned (ap (λ (b : Bool). record s { is_sound = b }) (and-true s.is_sound)) in
    ByStub 0 p.stub s address s (omega arith) (rw (lead.jump, entry, same) refl)
