-- Delayed calls: the first call of a delayed function goes to the helper and from there to the
-- function, a later one to the function (Microsoft's x64 calling convention, and stdcall and
-- fastcall on I386).
use Rattle.std.specs.Prelude.{◌≡◌, ℕ, ◌+◌, ◌%◌, ◌≤◌, ◌<◌, true, List, [], ◌∷◌, Some}
use Rattle.implib_delay.specs.Processor.{Mode, Bits64, Bits32, State, word_size, rax, rcx, rdx, rbx}
use Rattle.implib_delay.specs.Processor.{rsp, rbp, rsi, rdi}
use Rattle.implib_delay.specs.Decoding.{fixed_address, relative, run}
use Rattle.implib_delay.specs.Code.{Field, StubFields, field_number, linked_stub, linked_tail}
use Rattle.implib_delay.specs.Code.{jump_field, entry_field, descriptor_field, tail_field}
use Rattle.implib_delay.specs.Code.{helper_field}

-- Where the code of a delayed function and what it speaks of lie in memory, and what is in the
-- code's fields.
pub record Placement : Type 0 where
  pub stub : ℕ
  pub tail : ℕ
  pub entry : ℕ
  pub descriptor : ℕ
  pub helper : ℕ
  pub fields : StubFields
  pub helper_field : Field

-- the address that a field in the text at an address leads to: relative to the byte behind it, or
-- on I386 the number in it
abbrev pub address_in : Mode → ℕ → ℕ → Field → ℕ
address_in mode at offset f = fixed_address mode (at + (offset + 4)) (field_number f)

-- the address that the field of a jump or of a call leads to
abbrev pub target_in : Mode → ℕ → ℕ → Field → ℕ
target_in mode at offset f = relative mode (at + (offset + 4)) (field_number f)

-- the fields lead where the relocations of the members say
pub record FieldsLead (mode : Mode) (p : Placement) : Type 0 where
  pub jump : address_in mode p.stub (jump_field mode) p.fields.jump ≡ p.entry
  pub entry : address_in mode p.stub (entry_field mode) p.fields.entry ≡ p.entry
  pub descriptor : address_in mode p.stub (descriptor_field mode) p.fields.descriptor ≡ p.descriptor
  pub tail : target_in mode p.stub (tail_field mode) p.fields.tail ≡ p.tail
  pub helper : target_in mode p.tail (helper_field mode) p.helper_field ≡ p.helper

-- Control goes from an address and a state to others, by the code of the function alone.
pub data Goes (mode : Mode) (p : Placement) : ℕ → State → ℕ → State → Type 0 where
  -- by the stub, or by the tail, from an offset on
  ByStub : (offset from : ℕ) (s : State) (to : ℕ) (t : State) → from ≡ p.stub + offset →
      run mode p.stub (linked_stub mode p.fields) offset s ≡ Some (record { to = to; state = t }) →
      Goes mode p from s to t
  ByTail : (offset from : ℕ) (s : State) (to : ℕ) (t : State) → from ≡ p.tail + offset →
      run mode p.tail (linked_tail mode p.helper_field) offset s
      ≡ Some (record { to = to; state = t }) →
      Goes mode p from s to t
  -- one after the other
  Then : (a : ℕ) (s : State) (b : ℕ) (t : State) (c : ℕ) (u : State) →
      Goes mode p a s b t → Goes mode p b t c u → Goes mode p a s c u

-- two functions have the same values at these numbers
abbrev pub SameAt : {X : Type 0} → List ℕ → (ℕ → X) → (ℕ → X) → Type 0
SameAt [] f g = Unit {0}
SameAt (n ∷ rest) f g = (f n ≡ g n) × SameAt rest f g

-- the registers that hold arguments: rcx, rdx, r8 and r9; on I386 ecx and edx, of fastcall
abbrev pub argument_registers : Mode → List ℕ
argument_registers Bits64 = rcx ∷ rdx ∷ 8 ∷ 9 ∷ []
argument_registers Bits32 = rcx ∷ rdx ∷ []

-- the xmm registers that may: xmm0 to xmm3, and xmm4 and xmm5 of vectorcall
abbrev pub argument_vectors : Mode → List ℕ
argument_vectors Bits64 = 0 ∷ 1 ∷ 2 ∷ 3 ∷ 4 ∷ 5 ∷ []
argument_vectors Bits32 = []

-- the registers that a function keeps: rbx, rbp, rsi, rdi and r12 to r15; xmm6 to xmm15
abbrev pub kept_registers : Mode → List ℕ
kept_registers Bits64 = rbx ∷ rbp ∷ rsi ∷ rdi ∷ 12 ∷ 13 ∷ 14 ∷ 15 ∷ []
kept_registers Bits32 = rbx ∷ rbp ∷ rsi ∷ rdi ∷ []

abbrev pub kept_vectors : Mode → List ℕ
kept_vectors Bits64 = 6 ∷ 7 ∷ 8 ∷ 9 ∷ 10 ∷ 11 ∷ 12 ∷ 13 ∷ 14 ∷ 15 ∷ []
kept_vectors Bits32 = []

-- the bytes above the return address that a function may write: the home space of AMD64's four
-- registers
abbrev pub home_size : Mode → ℕ
home_size Bits64 = 0x20
home_size Bits32 = 0

-- the bytes that the helper drops when it returns: the return address, and on I386 its two
-- arguments
abbrev pub dropped_size : Mode → ℕ
dropped_size Bits64 = 8
dropped_size Bits32 = 12

-- the bytes of the stack that the code takes below the caller's
abbrev pub used_size : Mode → ℕ
used_size Bits64 = 0x90
used_size Bits32 = 24

-- the stack's pointer behind a call, as the convention has it: 8 from a multiple of 16, or a
-- multiple of 4
abbrev pub IsCallPointer : Mode → ℕ → Type 0
IsCallPointer Bits64 pointer = pointer % 16 ≡ 8
IsCallPointer Bits32 pointer = pointer % 4 ≡ 0

-- A call of the function begins in this state, whose stack ends at an address: it has room, and the
-- entry still leads behind the stub's jump.
pub record Begins (mode : Mode) (p : Placement) (end : ℕ) (s : State) : Type 0 where
  pub pointer : IsCallPointer mode (s.registers rsp)
  pub room : used_size mode ≤ s.registers rsp
  pub within : s.registers rsp + (word_size mode + home_size mode) ≤ end
  pub aligned : p.entry % word_size mode ≡ 0
  pub unbound : s.words p.entry ≡ p.stub + 6
  pub sound : s.is_sound ≡ true

-- the arguments of the helper: rcx and rdx, or the words above the return address
abbrev pub first_argument : Mode → State → ℕ
first_argument Bits64 s = s.registers rcx
first_argument Bits32 s = s.words (s.registers rsp + 4)

abbrev pub second_argument : Mode → State → ℕ
second_argument Bits64 s = s.registers rdx
second_argument Bits32 s = s.words (s.registers rsp + 8)

-- where the helper returns to: behind the call
abbrev pub return_point : Mode → Placement → ℕ
return_point mode p = p.tail + (helper_field mode + 4)

-- From the begin the helper is called, with the descriptor and the entry's address.
pub record CallsHelper (mode : Mode) (p : Placement) (s called : State) : Type 0 where
  pub goes : Goes mode p p.stub s p.helper called
  pub descriptor : first_argument mode called ≡ p.descriptor
  pub entry : second_argument mode called ≡ p.entry
  pub returns_to : called.words (called.registers rsp) ≡ return_point mode p
  pub pointer : IsCallPointer mode (called.registers rsp)
  pub sound : called.is_sound ≡ true

-- What is taken for granted of the helper: it answers an address, has written it into the entry,
-- and has kept what the convention says is kept, registers and the stack above its own arguments
-- and home space.
pub record Answers (mode : Mode) (p : Placement) (end address : ℕ)
    (called returned : State) : Type 0 where
  pub answer : returned.registers rax ≡ address
  pub written : returned.words p.entry ≡ address
  pub pointer : returned.registers rsp ≡ called.registers rsp + dropped_size mode
  pub registers : SameAt (kept_registers mode) returned.registers called.registers
  pub vectors : SameAt (kept_vectors mode) returned.vectors called.vectors
  pub stack : (q : ℕ) → called.registers rsp + (dropped_size mode + home_size mode) ≤ q → q < end →
      returned.words q ≡ called.words q
  pub sound : returned.is_sound ≡ called.is_sound

-- Control is at the function as it was at the call: arguments, registers that are kept, the stack's
-- pointer, the return address and the stack above the home space. The entry leads to the function.
pub record ArrivesAs (mode : Mode) (p : Placement) (end address : ℕ)
    (s arrived : State) : Type 0 where
  pub arguments : SameAt (argument_registers mode) arrived.registers s.registers
  pub argument_vectors : SameAt (argument_vectors mode) arrived.vectors s.vectors
  pub pointer : arrived.registers rsp ≡ s.registers rsp
  pub registers : SameAt (kept_registers mode) arrived.registers s.registers
  pub vectors : SameAt (kept_vectors mode) arrived.vectors s.vectors
  pub returns_to : arrived.words (s.registers rsp) ≡ s.words (s.registers rsp)
  pub stack : (q : ℕ) → s.registers rsp + (word_size mode + home_size mode) ≤ q → q < end →
      arrived.words q ≡ s.words q
  pub entry : arrived.words p.entry ≡ address
  pub sound : arrived.is_sound ≡ true

-- from where the helper returned, the function is reached
pub record Arrives (mode : Mode) (p : Placement) (end address : ℕ)
    (s returned : State) : Type 0 where
  pub arrived : State
  pub goes : Goes mode p (return_point mode p) returned address arrived
  pub arrives_as : ArrivesAs mode p end address s arrived

-- The first call: the helper is called and, whatever state it returns in that the convention
-- allows, the function is reached as if it had been called itself.
pub record FirstCall (mode : Mode) (p : Placement) (end : ℕ) (s : State) : Type 0 where
  pub called : State
  pub calls : CallsHelper mode p s called
  pub arrives : (address : ℕ) (returned : State) → Answers mode p end address called returned →
      Arrives mode p end address s returned

-- A later call: while the entry has the function's address, control goes there, and nothing else
-- changes.
abbrev pub LaterCalls : Mode → Placement → Type 0
LaterCalls mode p = (address : ℕ) (s : State) → s.words p.entry ≡ address → s.is_sound ≡ true →
    Goes mode p p.stub s address s
