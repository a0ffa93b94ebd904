-- Delayed calls worked by hand: premises hold of places and states; and what comes of code that is
-- wrong.
use Rattle.std.specs.Prelude.{◌≡◌, ℕ, ◌+◌, ◌==◌, nat_le, ◌||◌, true, false, List, [], ◌∷◌, Option}
use Rattle.std.specs.Prelude.{Some, if◌then◌else◌}
use Rattle.std.specs.Option.{option_and_then, option_map}
use Rattle.implib.specs.Worked.Digits.{hex}
use Rattle.implib_delay.specs.Processor.{Mode, Bits64, Bits32, State, Vector, with_value}
use Rattle.implib_delay.specs.Decoding.{Left, run}
use Rattle.implib_delay.specs.Code.{linked_stub, linked_tail}
use Rattle.implib_delay.specs.Calls.{Placement, FieldsLead, Begins, Answers, dropped_size}
use Rattle.implib_delay.specs.Calls.{first_argument, second_argument}
use Rattle.implib_delay.specs.WorkedCode.{program64, program32}

-- an xmm register of two numbers
abbrev pub vector : ℕ → ℕ → Vector
vector low high = record { low = low; high = high }

-- The state of a call: the stack's pointer, and in each register another number above a first one.
-- Memory has at each address the address, and in the entry the place behind the stub's jump.
abbrev pub at_call : Placement → ℕ → ℕ → State
at_call p pointer first = record {
  registers = λ r. if r == 4 then pointer else first + r;
  vectors = λ v. vector (first + 16 + v) (first + 32 + v);
  words = λ q. if q == p.entry then p.stub + 6 else q;
  is_sound = true;
}

-- The state where a helper returns that keeps as little as it may: other registers are 0, and so is
-- the word above its return address.
abbrev pub helped : Mode → Placement → ℕ → State → State
helped mode p address s = record {
  registers = λ r.
      if r == 0 then address
      else if r == 4 then s.registers 4 + dropped_size mode
      else if r == 3 || r == 5 || r == 6 || r == 7 || nat_le 12 r then s.registers r
      else 0;
  vectors = λ v. if nat_le 6 v then s.vectors v else vector 0 0;
  words = with_value (with_value s.words (s.registers 4 + 8) 0) p.entry address;
  is_sound = s.is_sound;
}

-- The first call by any code: the stub from its begin and behind its jump, the tail to the helper,
-- and from an offset on.
abbrev pub to_helper : Mode → Placement → List ℕ → List ℕ → State → Option Left
to_helper mode p stub tail s =
    let behind : Option Left =
    option_and_then (λ a. run mode p.stub stub 6 a.state) (run mode p.stub stub 0 s) in
    option_and_then (λ b. run mode p.tail tail 0 b.state) behind

abbrev pub whole_call : Mode → Placement → List ℕ → List ℕ → ℕ → ℕ → State → Option Left
whole_call mode p stub tail back address s = option_and_then
    (λ c. run mode p.tail tail back (helped mode p address c.state))
    (to_helper mode p stub tail s)

-- what is to be seen where control left: the address, rcx, rdx, r8, r9 and rsp, and xmm0 to xmm5
abbrev pub seen : Left → List ℕ
seen left =
    let r : ℕ → ℕ = left.state.registers in left.to ∷ r 1 ∷ r 2 ∷ r 8 ∷ r 9 ∷ r 4 ∷ []

abbrev pub vectors_seen : Left → List ℕ
vectors_seen left =
    let v : ℕ → Vector = left.state.vectors in
    (v 0).low ∷ (v 0).high ∷ (v 1).low ∷ (v 1).high ∷ (v 2).low ∷ (v 2).high
    ∷ (v 3).low ∷ (v 3).high ∷ (v 4).low ∷ (v 4).high ∷ (v 5).low ∷ (v 5).high
    ∷ []

-- the same on I386: the address, ecx, edx and esp, and the word at the stack's pointer
abbrev pub seen32 : Left → List ℕ
seen32 left =
    let r : ℕ → ℕ = left.state.registers in left.to ∷ r 1 ∷ r 2 ∷ r 4 ∷ left.state.words (r 4) ∷ []

-- the arguments that the helper is called with
abbrev pub arguments_seen : Mode → Left → List ℕ
arguments_seen mode left =
    left.to ∷ first_argument mode left.state ∷ second_argument mode left.state ∷ []

-- The tail of GNU dlltool 2.40 on AMD64, in the place of `program64`'s: it keeps no xmm register.
abbrev pub older_tail : List ℕ
older_tail = hex "48 83 ec 48 48 89 4c 24 40 48 89 54 24 38 4c 89 44 24 30 4c 89 4c 24 28 48 89 c2 48 8d 0d 4e 88 00 00 e8 e9 11 00 00 4c 8b 4c 24 28 4c 8b 44 24 30 48 8b 54 24 38 48 8b 4c 24 40 48 83 c4 48 ff e0"

-- `program64`'s tail with `mov rcx, rbx` for `mov rcx, r11`
abbrev pub tail_of_rbx : List ℕ
tail_of_rbx = hex "48 81 ec 88 00 00 00 48 89 8c 24 90 00 00 00 48 89 94 24 98 00 00 00 4c 89 84 24 a0 00 00 00 4c 89 8c 24 a8 00 00 00 0f 29 44 24 20 0f 29 4c 24 30 0f 29 54 24 40 0f 29 5c 24 50 0f 29 64 24 60 0f 29 6c 24 70 48 89 c2 48 89 d9 e8 c0 11 00 00 ff e0"

-- `program32`'s tail without `push [esp+12]`, and without `push edx` and `pop edx`
abbrev pub tail_without_descriptor : List ℕ
tail_without_descriptor = hex "51 52 50 e8 18 10 00 00 5a 59 83 c4 04 ff e0"

abbrev pub tail_without_edx : List ℕ
tail_without_edx = hex "51 50 ff 74 24 08 e8 15 10 00 00 59 83 c4 04 ff e0"

-- what comes of the code and of code that is wrong
pub record WorkedCalls : Type 0 where
  -- the helper is called with the descriptor and the entry
  pub helper64 : option_map (arguments_seen Bits64)
      (to_helper Bits64 program64 (linked_stub Bits64 program64.fields)
      (linked_tail Bits64 program64.helper_field) (at_call program64 0x7FF008 0x1000))
      ≡ Some (0x1400029A0 ∷ 0x14000A000 ∷ 0x14000A100 ∷ [])
  pub helper32 : option_map (arguments_seen Bits32)
      (to_helper Bits32 program32 (linked_stub Bits32 program32.fields)
      (linked_tail Bits32 program32.helper_field) (at_call program32 0x19FF70 0x1000))
      ≡ Some (0x402820 ∷ 0x40A000 ∷ 0x40A0E0 ∷ [])
  -- the function is reached with all arguments
  pub function64 : option_map seen
      (whole_call Bits64 program64 (linked_stub Bits64 program64.fields)
      (linked_tail Bits64 program64.helper_field) 0x50 0x7FFE0000
      (at_call program64 0x7FF008 0x1000))
      ≡ Some (0x7FFE0000 ∷ 0x1001 ∷ 0x1002 ∷ 0x1008 ∷ 0x1009 ∷ 0x7FF008 ∷ [])
  pub vectors64 : option_map vectors_seen
      (whole_call Bits64 program64 (linked_stub Bits64 program64.fields)
      (linked_tail Bits64 program64.helper_field) 0x50 0x7FFE0000
      (at_call program64 0x7FF008 0x1000))
      ≡ Some (0x1010 ∷ 0x1020 ∷ 0x1011 ∷ 0x1021 ∷ 0x1012 ∷ 0x1022
      ∷ 0x1013 ∷ 0x1023 ∷ 0x1014 ∷ 0x1024 ∷ 0x1015 ∷ 0x1025 ∷ [])
  pub function32 : option_map seen32
      (whole_call Bits32 program32 (linked_stub Bits32 program32.fields)
      (linked_tail Bits32 program32.helper_field) 12 0x6B001234 (at_call program32 0x19FF70 0x1000))
      ≡ Some (0x6B001234 ∷ 0x1001 ∷ 0x1002 ∷ 0x19FF70 ∷ 0x19FF70 ∷ [])
  -- by the older tail the registers come back, and the xmm registers are the helper's
  pub older_function : option_map seen
      (whole_call Bits64 program64 (linked_stub Bits64 program64.fields) older_tail 0x27 0x7FFE0000
      (at_call program64 0x7FF008 0x1000))
      ≡ Some (0x7FFE0000 ∷ 0x1001 ∷ 0x1002 ∷ 0x1008 ∷ 0x1009 ∷ 0x7FF008 ∷ [])
  pub older_vectors : option_map vectors_seen
      (whole_call Bits64 program64 (linked_stub Bits64 program64.fields) older_tail 0x27 0x7FFE0000
      (at_call program64 0x7FF008 0x1000))
      ≡ Some (0 ∷ 0 ∷ 0 ∷ 0 ∷ 0 ∷ 0 ∷ 0 ∷ 0 ∷ 0 ∷ 0 ∷ 0 ∷ 0 ∷ [])
  -- by the wrong register the helper gets what happens to be there for its descriptor
  pub of_rbx : option_map (arguments_seen Bits64)
      (to_helper Bits64 program64 (linked_stub Bits64 program64.fields) tail_of_rbx
      (at_call program64 0x7FF008 0x1000))
      ≡ Some (0x1400029A0 ∷ 0x1003 ∷ 0x14000A100 ∷ [])
  -- with a push too few the helper gets the entry for its descriptor, or the function another edx
  pub without_descriptor : option_map (arguments_seen Bits32)
      (to_helper Bits32 program32 (linked_stub Bits32 program32.fields) tail_without_descriptor
      (at_call program32 0x19FF70 0x1000))
      ≡ Some (0x402820 ∷ 0x40A0E0 ∷ 0x1002 ∷ [])
  pub without_edx : option_map seen32
      (whole_call Bits32 program32 (linked_stub Bits32 program32.fields) tail_without_edx 11
      0x6B001234
      (at_call program32 0x19FF70 0x1000))
      ≡ Some (0x6B001234 ∷ 0x1001 ∷ 0 ∷ 0x19FF70 ∷ 0x19FF70 ∷ [])
  -- where the stack is not aligned as the convention has it, an access is not either
  pub unaligned : option_map (λ left. left.state.is_sound)
      (to_helper Bits64 program64 (linked_stub Bits64 program64.fields)
      (linked_tail Bits64 program64.helper_field) (at_call program64 0x7FF000 0x1000))
      ≡ Some false

-- places and states of which the premises hold
pub record WorkedPremises : Type 0 where
  pub program64_leads : FieldsLead Bits64 program64
  pub program32_leads : FieldsLead Bits32 program32
  pub program64_begins : Begins Bits64 program64 0x7FF100 (at_call program64 0x7FF008 0x1000)
  pub program32_begins : Begins Bits32 program32 0x1A0000 (at_call program32 0x19FF70 0x1000)

-- what a helper that keeps as little as it may answers, from any state that the stack's pointer of
-- these has
pub record WorkedAnswers : Type 0 where
  pub program64_answers : (s : State) → s.registers 4 ≡ 0x7FEF78 →
      Answers Bits64 program64 0x7FF100 0x7FFE0000 s (helped Bits64 program64 0x7FFE0000 s)
  pub program32_answers : (s : State) → s.registers 4 ≡ 0x19FF58 →
      Answers Bits32 program32 0x1A0000 0x6B001234 s (helped Bits32 program32 0x6B001234 s)
