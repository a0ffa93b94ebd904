-- How the instructions of `Processor` are decoded from bytes (AMD64 Architecture Programmer's
-- Manual, volume 3, "Instruction Encoding"): a REX prefix, the opcode, the ModRM byte with its
-- displacement, and numbers. Bytes that are none of these instructions are not decoded.
use Rattle.std.specs.Prelude.{ℕ, zero, suc, ◌+◌, ◌*◌, ◌/◌, ◌%◌, ◌^◌, ◌==◌, nat_lt, ◌&&◌, List, []}
use Rattle.std.specs.Prelude.{◌∷◌}
use Rattle.std.specs.Prelude.{Option, None, Some, drop, length, if◌then◌else◌, ◌-◌}
use Rattle.std.specs.Option.{option_and_then, option_map}
use Rattle.implib_delay.specs.Processor.{Mode, Bits64, Bits32, Instruction, Move, Set, Store, Load}
use Rattle.implib_delay.specs.Processor.{StoreVector, LoadVector}
use Rattle.implib_delay.specs.Processor.{Add, Subtract, Push, PushNumber, PushWord, Pop, Call, Jump}
use Rattle.implib_delay.specs.Processor.{JumpRegister, JumpWord}
use Rattle.implib_delay.specs.Processor.{State, Next, Leave, step, rsp}

-- an instruction, and the number of its bytes
pub record Decoded : Type 0 where
  pub instruction : Instruction
  pub size : ℕ

-- the number in four bytes, the low one first
abbrev pub number_of : List ℕ → Option ℕ
number_of (a ∷ b ∷ c ∷ d ∷ rest) = Some (a + 2 ^ 8 * b + 2 ^ 16 * c + 2 ^ 24 * d)
number_of _ = None

-- the address that a signed distance of 32 bits leads to, from the address of the next instruction
abbrev pub relative : Mode → ℕ → ℕ → ℕ
relative Bits64 next distance =
    (next + (if nat_lt distance (2 ^ 31) then distance else distance + (2 ^ 64 - 2 ^ 32))) % 2 ^ 64
relative Bits32 next distance = (next + distance) % 2 ^ 32

-- an operand of a ModRM byte: a register, an address relative to a register, or an address
pub data Operand : Type 0 where
  Register : ℕ → Operand
  Based : ℕ → ℕ → Operand
  Fixed : ℕ → Operand

-- the operand of a ModRM byte, the number in the byte's middle, and the bytes that all take
pub record Operands : Type 0 where
  pub operand : Operand
  pub middle : ℕ
  pub size : ℕ

-- A displacement of a byte behind the stack pointer's SIB byte, which is not negative; and one of
-- 32 bits. For example, `24 0c` is 12 from rsp on.
abbrev pub short_displacement : List ℕ → Option ℕ
short_displacement (sib ∷ displacement ∷ rest) =
    if sib == 0x24 && nat_lt displacement 0x80 then Some displacement else None
short_displacement _ = None

abbrev pub long_displacement : List ℕ → Option ℕ
long_displacement (sib ∷ rest) = elim (number_of rest) [
  | None ↦ None
  | Some displacement ↦ if sib == 0x24 && nat_lt displacement (2 ^ 31) then Some displacement
      else None
]
long_displacement _ = None

-- the address in a ModRM byte's displacement of 32 bits: on AMD64 it is relative to the next
-- instruction
abbrev pub fixed_address : Mode → ℕ → ℕ → ℕ
fixed_address Bits64 next field = relative Bits64 next field
fixed_address Bits32 next field = field

-- the operands of an operand, of the middle of its ModRM byte and of a size
abbrev pub sized : Operand → ℕ → ℕ → Operands
sized operand middle size = record { operand = operand; middle = middle; size = size }

-- The operands at an offset in a text whose first byte is at an address: a register (the top bits
-- 3), an address (0, and 5 at the end), or one relative to rsp (1 or 2, and 4 at the end).
abbrev pub operands : Mode → ℕ → ℕ → List ℕ → Option Operands
operands mode at offset [] = None
operands mode at offset (byte ∷ rest) =
    let kind : ℕ = byte / 64 in
    let middle : ℕ = byte / 8 % 8 in
    let last : ℕ = byte % 8 in
    if kind == 3 then Some (sized (Register last) middle 1)
    else if kind == 0 && last == 5 then option_map
    (λ field. sized (Fixed (fixed_address mode (at + (offset + 5)) field)) middle 5)
    (number_of rest)
    else if kind == 1 && last == 4 then option_map
    (λ displacement. sized (Based rsp displacement) middle 3)
    (short_displacement rest)
    else if kind == 2 && last == 4 then option_map
    (λ displacement. sized (Based rsp displacement) middle 6)
    (long_displacement rest)
    else None

-- an instruction of a size
abbrev pub decoded_as : ℕ → Instruction → Decoded
decoded_as size instruction = record { instruction = instruction; size = size }

-- a number of one byte, which is not negative, and one of four
abbrev pub short_number : List ℕ → Option ℕ
short_number (number ∷ rest) = if nat_lt number 0x80 then Some number else None
short_number _ = None

abbrev pub long_number : List ℕ → Option ℕ
long_number bytes = elim (number_of bytes) [
  | None ↦ None
  | Some number ↦ if nat_lt number (2 ^ 31) then Some number else None
]

-- the sum or the difference of a register and a number, by the middle of the ModRM byte: 0 adds, 5
-- takes off
abbrev pub sum_of : ℕ → ℕ → ℕ → Option Instruction
sum_of middle r number =
    if middle == 0 then Some (Add r number) else if middle == 5 then Some (Subtract r number)
    else None

-- the sum of an operand that is a register, whose number may be extended by 8
abbrev pub sum_with : ℕ → ℕ → Operand → ℕ → Option Instruction
sum_with extension middle (Register r) number = sum_of middle (r + extension) number
sum_with extension middle _ number = None

-- a register's move to an operand, and the other way; the operand's register may be extended by 8
abbrev pub move_to : ℕ → ℕ → Operand → Option Instruction
move_to extension from (Register r) = Some (Move (r + extension) from)
move_to extension from (Based base offset) =
    if extension == 0 then Some (Store from base offset) else None
move_to extension from _ = None

abbrev pub move_from : ℕ → ℕ → Operand → Option Instruction
move_from extension to (Register r) = Some (Move to (r + extension))
move_from extension to (Based base offset) =
    if extension == 0 then Some (Load to base offset) else None
move_from extension to _ = None

-- the address of an operand goes into a register
abbrev pub address_of : ℕ → Operand → Option Instruction
address_of to (Fixed address) = Some (Set to address)
address_of to _ = None

-- an xmm register's move to an operand in memory, and the other way
abbrev pub vector_to : ℕ → Operand → Option Instruction
vector_to from (Based base offset) = Some (StoreVector from base offset)
vector_to from _ = None

abbrev pub vector_from : ℕ → Operand → Option Instruction
vector_from to (Based base offset) = Some (LoadVector to base offset)
vector_from to _ = None

-- what the opcode FF does to an operand: 4 jumps to it, 6 pushes it
abbrev pub jump_or_push : ℕ → Operand → Option Instruction
jump_or_push middle (Register r) = if middle == 4 then Some (JumpRegister r) else None
jump_or_push middle (Fixed address) = if middle == 4 then Some (JumpWord address) else None
jump_or_push middle (Based base offset) = if middle == 6 then Some (PushWord base offset) else None

-- an instruction with operands, which follow so many bytes
abbrev pub with_operands : ℕ → (ℕ → Operand → Option Instruction) → Option Operands → Option Decoded
with_operands before instruction found = option_and_then
    (λ o. option_map (decoded_as (before + o.size)) (instruction o.middle o.operand))
    found

-- a sum with a number of `width` bytes behind the operands, which follow so many bytes
abbrev pub sum_behind : ℕ → ℕ → ℕ → (List ℕ → Option ℕ) → List ℕ → Option Operands → Option Decoded
sum_behind before width extension number rest found = option_and_then
    (λ o. option_and_then
    (λ n. option_map (decoded_as (before + o.size + width))
    (sum_with extension o.middle o.operand n))
    (number (drop o.size rest)))
    found

-- an instruction of a number that follows its one byte
abbrev pub with_number : (ℕ → Instruction) → List ℕ → Option Decoded
with_number instruction rest = option_map (λ n. decoded_as 5 (instruction n)) (number_of rest)

-- The instruction of an opcode without a prefix, at an offset in a text, and of the bytes behind
-- it.
abbrev pub plain : Mode → ℕ → ℕ → ℕ → List ℕ → Option Decoded
plain mode at offset opcode rest =
    let found : Option Operands = operands mode at (offset + 1) rest in
    let next : ℕ = at + (offset + 5) in
    if opcode / 8 == 10 then Some (decoded_as 1 (Push (opcode % 8)))  -- 50
    else if opcode / 8 == 11 then Some (decoded_as 1 (Pop (opcode % 8)))  -- 58
    else if opcode == 0xE8 then with_number (λ n. Call (relative mode next n)) rest
    else if opcode == 0xE9 then with_number (λ n. Jump (relative mode next n)) rest
    else if opcode == 0xFF then with_operands 1 jump_or_push found
    else None

-- those of 32 bits alone, which have another meaning or width on AMD64
abbrev pub plain_of_32_bits : ℕ → ℕ → ℕ → List ℕ → Option Decoded
plain_of_32_bits at offset opcode rest =
    let found : Option Operands = operands Bits32 at (offset + 1) rest in
    if opcode / 8 == 23 then with_number (Set (opcode % 8)) rest  -- B8
    else if opcode == 0x68 then with_number PushNumber rest
    else if opcode == 0x83 then sum_behind 1 1 0 short_number rest found
    else plain Bits32 at offset opcode rest

-- The instruction of an opcode behind the prefix REX.W, whose R and B extend the numbers of
-- registers by 8.
abbrev pub wide : ℕ → ℕ → ℕ → ℕ → ℕ → List ℕ → Option Decoded
wide at offset r b opcode rest =
    let found : Option Operands = operands Bits64 at (offset + 2) rest in
    if opcode == 0x89 then with_operands 2 (λ middle o. move_to b (middle + r) o) found
    else if opcode == 0x8B then with_operands 2 (λ middle o. move_from b (middle + r) o) found
    else if opcode == 0x8D then with_operands 2 (λ middle o. address_of (middle + r) o) found
    else if opcode == 0x81 then sum_behind 2 4 b long_number rest found
    else if opcode == 0x83 then sum_behind 2 1 b short_number rest found
    else None

-- The moves of xmm registers, behind the byte 0F.
abbrev pub of_vectors : ℕ → ℕ → ℕ → List ℕ → Option Decoded
of_vectors at offset opcode rest =
    let found : Option Operands = operands Bits64 at (offset + 2) rest in
    if opcode == 0x28 then with_operands 2 vector_from found
    else if opcode == 0x29 then with_operands 2 vector_to found
    else None

-- The instruction at an offset in a text whose first byte is at an address: `bytes` are those from
-- there on. A REX prefix is 40 and its bits: W is 8, R 4, X 2, which no instruction here has, and B
-- 1.
abbrev pub decoded : Mode → ℕ → ℕ → List ℕ → Option Decoded
decoded Bits32 at offset [] = None
decoded Bits32 at offset (opcode ∷ rest) = plain_of_32_bits at offset opcode rest
decoded Bits64 at offset [] = None
decoded Bits64 at offset (opcode ∷ []) = plain Bits64 at offset opcode []
decoded Bits64 at offset (first ∷ second ∷ rest) =
    let bits : ℕ = first % 8 in
    if first / 8 == 9 then (if bits / 2 % 2 == 0
    then wide at offset (bits / 4 * 8) (bits % 2 * 8) second rest else None)
    else if first == 0x0F then of_vectors at offset second rest
    else plain Bits64 at offset first (second ∷ rest)

-- where control leaves a text, and the state in which it does
pub record Left : Type 0 where
  pub to : ℕ
  pub state : State

-- Instructions are run one after the other until control leaves for an address: of a text whose
-- first byte is at an address, from an offset on, where `bytes` are its bytes from there on.
unfoldable pub run_bytes : ℕ → Mode → ℕ → ℕ → List ℕ → State → Option Left
run_bytes zero mode at offset bytes s = None
run_bytes (suc steps) mode at offset bytes s =
    elim (decoded mode at offset bytes) [
      | None ↦ None
      | Some d ↦ elim (step mode (at + (offset + d.size)) d.instruction s) [
        | Next state ↦ run_bytes steps mode at (offset + d.size) (drop d.size bytes) state
        | Leave to state ↦ Some (record { to = to; state = state })
      ]
    ]

-- A text is run from an offset on until control leaves it.
abbrev pub run : Mode → ℕ → List ℕ → ℕ → State → Option Left
run mode at bytes offset s = run_bytes (length bytes) mode at offset (drop offset bytes) s
