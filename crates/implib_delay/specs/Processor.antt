-- The steps of an x86 processor for the few instructions of delayed imports (AMD64 Architecture
-- Programmer's Manual, volume 3; Intel 64 and IA-32 Architectures Software Developer's Manual,
-- volume 2): moves, pushes and pops, lea, add and sub, call and jmp. Flags are left out, since none
-- of these reads one.
use Rattle.std.specs.Prelude.{ℕ, ◌+◌, ◌-◌, ◌%◌, ◌==◌, nat_le, Bool, ◌&&◌, if◌then◌else◌}

-- the mode: 64 bits on AMD64, 32 bits on I386
pub data Mode : Type 0 where
  Bits64 : Mode
  Bits32 : Mode

-- the bytes of a word: what a push takes, and what an address has
abbrev pub word_size : Mode → ℕ
word_size Bits64 = 8
word_size Bits32 = 4

-- the numbers of registers in instructions ("ModRM and SIB Bytes")
abbrev pub rax : ℕ
rax = 0

abbrev pub rcx : ℕ
rcx = 1

abbrev pub rdx : ℕ
rdx = 2

abbrev pub rbx : ℕ
rbx = 3

abbrev pub rsp : ℕ
rsp = 4

abbrev pub rbp : ℕ
rbp = 5

abbrev pub rsi : ℕ
rsi = 6

abbrev pub rdi : ℕ
rdi = 7

-- an xmm register: its low and its high word of 64 bits
pub record Vector : Type 0 where
  pub low : ℕ
  pub high : ℕ

-- The state: registers and xmm registers by their numbers, and the words of memory by their
-- addresses. Words do not overlap, since each access is to be aligned; `is_sound` says that each
-- one was, and that the stack pointer did not pass 0.
pub record State : Type 0 where
  pub registers : ℕ → ℕ
  pub vectors : ℕ → Vector
  pub words : ℕ → ℕ
  pub is_sound : Bool

-- an instruction; a register is its number, an address in memory is a register and a displacement
pub data Instruction : Type 0 where
  -- a register gets another's value
  Move : ℕ → ℕ → Instruction
  -- a register gets a number, or an address that the instruction computes
  Set : ℕ → ℕ → Instruction
  -- a register goes into memory, and comes from it
  Store : ℕ → ℕ → ℕ → Instruction
  Load : ℕ → ℕ → ℕ → Instruction
  -- an xmm register goes into memory of 16 bytes that is aligned so, and comes from it
  StoreVector : ℕ → ℕ → ℕ → Instruction
  LoadVector : ℕ → ℕ → ℕ → Instruction
  -- a number is added to a register, or taken off
  Add : ℕ → ℕ → Instruction
  Subtract : ℕ → ℕ → Instruction
  -- pushes of a register, of a number and of a word of memory, and a pop into a register
  Push : ℕ → Instruction
  PushNumber : ℕ → Instruction
  PushWord : ℕ → ℕ → Instruction
  Pop : ℕ → Instruction
  -- control goes to an address; a call pushes the address of the next instruction
  Call : ℕ → Instruction
  Jump : ℕ → Instruction
  -- control goes to the address in a register, or in the word of memory at an address
  JumpRegister : ℕ → Instruction
  JumpWord : ℕ → Instruction

-- a function that has another value at one number
abbrev pub with_value : {X : Type 0} → (ℕ → X) → ℕ → X → ℕ → X
with_value f key value q = if q == key then value else f q

-- the state with another value of a register
abbrev pub set_register : ℕ → ℕ → State → State
set_register r value s = record s { registers = with_value s.registers r value }

-- the state, sound if it was and this holds
abbrev pub checked : Bool → State → State
checked holds s = record s { is_sound = s.is_sound && holds }

-- whether an address is a multiple of a size
abbrev pub is_aligned : ℕ → ℕ → Bool
is_aligned size address = address % size == 0

-- a word goes into memory
abbrev pub store_word : Mode → ℕ → ℕ → State → State
store_word mode address value s =
    checked (is_aligned (word_size mode) address)
    (record s { words = with_value s.words address value })

-- a word comes from memory into a register
abbrev pub load_word : Mode → ℕ → ℕ → State → State
load_word mode r address s =
    checked (is_aligned (word_size mode) address) (set_register r (s.words address) s)

-- the two words of an xmm register go into memory
abbrev pub store_vector : ℕ → Vector → State → State
store_vector address value s = checked (is_aligned 16 address) (record s {
  words = with_value (with_value s.words address value.low) (address + 8) value.high;
})

-- and come from it
abbrev pub load_vector : ℕ → ℕ → State → State
load_vector v address s = checked (is_aligned 16 address) (record s {
  vectors = with_value s.vectors v (record { low = s.words address; high = s.words (address + 8) });
})

-- a word is pushed on the stack
abbrev pub push_word : Mode → ℕ → State → State
push_word mode value s =
    let top : ℕ = s.registers rsp - word_size mode in
    store_word mode top value
    (checked (nat_le (word_size mode) (s.registers rsp)) (set_register rsp top s))

-- a word is popped off the stack into a register, which is not the stack's pointer
abbrev pub pop_word : Mode → ℕ → State → State
pop_word mode r s =
    let top : ℕ =
    s.registers rsp in load_word mode r top (set_register rsp (top + word_size mode) s)

-- what a step gives: the next instruction's state, or control leaves for an address
pub data Step : Type 0 where
  Next : State → Step
  Leave : ℕ → State → Step

-- the step of an instruction, before the instruction at an address
abbrev pub step : Mode → ℕ → Instruction → State → Step
step mode next (Move to from) s = Next (set_register to (s.registers from) s)
step mode next (Set to value) s = Next (set_register to value s)
step mode next (Store from base offset) s =
    Next (store_word mode (s.registers base + offset) (s.registers from) s)
step mode next (Load to base offset) s = Next (load_word mode to (s.registers base + offset) s)
step mode next (StoreVector from base offset) s =
    Next (store_vector (s.registers base + offset) (s.vectors from) s)
step mode next (LoadVector to base offset) s = Next (load_vector to (s.registers base + offset) s)
step mode next (Add r number) s = Next (set_register r (s.registers r + number) s)
step mode next (Subtract r number) s =
    Next (checked (nat_le number (s.registers r)) (set_register r (s.registers r - number) s))
step mode next (Push r) s = Next (push_word mode (s.registers r) s)
step mode next (PushNumber number) s = Next (push_word mode number s)
step mode next (PushWord base offset) s =
    let address : ℕ = s.registers base + offset in
    Next (checked (is_aligned (word_size mode) address) (push_word mode (s.words address) s))
step mode next (Pop r) s = Next (pop_word mode r s)
step mode next (Call target) s = Leave target (push_word mode next s)
step mode next (Jump target) s = Leave target s
step mode next (JumpRegister r) s = Leave (s.registers r) s
step mode next (JumpWord address) s =
    Leave (s.words address) (checked (is_aligned (word_size mode) address) s)
