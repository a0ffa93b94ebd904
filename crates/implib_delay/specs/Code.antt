-- The code of delayed imports, as it is in the members (fields are 0) and as a linker leaves it
-- (fields are filled). GNU's `libdelayimp` has the helper, `__delayLoadHelper2`, that the code
-- calls.
use Rattle.std.specs.Prelude.{ℕ, ◌+◌, ◌*◌, ◌^◌, List, [], ◌∷◌, ◌++◌, take, drop}
use Rattle.implib_delay.specs.Processor.{Mode, Bits64, Bits32}

-- The code of a delayed function. It jumps to the address in the function's entry; the entry first
-- leads to the instruction behind the jump. There the address of the entry and that of the
-- function's descriptor go where `tail_code` takes them, and control goes there. On AMD64 `jmp
-- [rip+E]; lea rax, [rip+E]; lea r11, [rip+D]; jmp T`, where r11 is no argument and need not be
-- kept; on I386 `jmp [E]; mov eax, E; push D; jmp T`.
abbrev pub stub_code : Mode → List ℕ
stub_code Bits64 =
    0xFF ∷ 0x25 ∷ 0 ∷ 0 ∷ 0 ∷ 0
    ∷ 0x48 ∷ 0x8D ∷ 0x05 ∷ 0 ∷ 0 ∷ 0 ∷ 0
    ∷ 0x4C ∷ 0x8D ∷ 0x1D ∷ 0 ∷ 0 ∷ 0 ∷ 0
    ∷ 0xE9 ∷ 0 ∷ 0 ∷ 0 ∷ 0
    ∷ []
stub_code Bits32 =
    0xFF ∷ 0x25 ∷ 0 ∷ 0 ∷ 0 ∷ 0
    ∷ 0xB8 ∷ 0 ∷ 0 ∷ 0 ∷ 0
    ∷ 0x68 ∷ 0 ∷ 0 ∷ 0 ∷ 0
    ∷ 0xE9 ∷ 0 ∷ 0 ∷ 0 ∷ 0
    ∷ []

-- the offsets of its fields: the entry's for the jump, the entry's address, the descriptor's, and
-- the tail's
abbrev pub jump_field : Mode → ℕ
jump_field mode = 2

abbrev pub entry_field : Mode → ℕ
entry_field Bits64 = 9
entry_field Bits32 = 7

abbrev pub descriptor_field : Mode → ℕ
descriptor_field Bits64 = 16
descriptor_field Bits32 = 12

abbrev pub tail_field : Mode → ℕ
tail_field Bits64 = 21
tail_field Bits32 = 17

-- The code that all stubs of a DLL share. On AMD64 it keeps rcx, rdx, r8 and r9 in their home
-- space, and xmm0 to xmm5 in its own frame of 0x88 bytes, above the home space of the helper; it
-- calls the helper with the descriptor in rcx and the entry's address in rdx, loads what it kept,
-- and jumps to the answer. On I386 it pushes ecx and edx, and for the helper, which drops them, the
-- entry's address and the descriptor, again.
unfoldable pub tail_code : Mode → List ℕ
tail_code Bits64 =
    0x48 ∷ 0x81 ∷ 0xEC ∷ 0x88 ∷ 0 ∷ 0 ∷ 0  -- sub rsp, 0x88
    ∷ 0x48 ∷ 0x89 ∷ 0x8C ∷ 0x24 ∷ 0x90 ∷ 0 ∷ 0 ∷ 0  -- mov [rsp+0x90], rcx
    ∷ 0x48 ∷ 0x89 ∷ 0x94 ∷ 0x24 ∷ 0x98 ∷ 0 ∷ 0 ∷ 0  -- mov [rsp+0x98], rdx
    ∷ 0x4C ∷ 0x89 ∷ 0x84 ∷ 0x24 ∷ 0xA0 ∷ 0 ∷ 0 ∷ 0  -- mov [rsp+0xA0], r8
    ∷ 0x4C ∷ 0x89 ∷ 0x8C ∷ 0x24 ∷ 0xA8 ∷ 0 ∷ 0 ∷ 0  -- mov [rsp+0xA8], r9
    ∷ 0x0F ∷ 0x29 ∷ 0x44 ∷ 0x24 ∷ 0x20  -- movaps [rsp+0x20], xmm0
    ∷ 0x0F ∷ 0x29 ∷ 0x4C ∷ 0x24 ∷ 0x30  -- movaps [rsp+0x30], xmm1
    ∷ 0x0F ∷ 0x29 ∷ 0x54 ∷ 0x24 ∷ 0x40  -- movaps [rsp+0x40], xmm2
    ∷ 0x0F ∷ 0x29 ∷ 0x5C ∷ 0x24 ∷ 0x50  -- movaps [rsp+0x50], xmm3
    ∷ 0x0F ∷ 0x29 ∷ 0x64 ∷ 0x24 ∷ 0x60  -- movaps [rsp+0x60], xmm4
    ∷ 0x0F ∷ 0x29 ∷ 0x6C ∷ 0x24 ∷ 0x70  -- movaps [rsp+0x70], xmm5
    ∷ 0x48 ∷ 0x89 ∷ 0xC2  -- mov rdx, rax
    ∷ 0x4C ∷ 0x89 ∷ 0xD9  -- mov rcx, r11
    ∷ 0xE8 ∷ 0 ∷ 0 ∷ 0 ∷ 0  -- call the helper
    ∷ 0x48 ∷ 0x8B ∷ 0x8C ∷ 0x24 ∷ 0x90 ∷ 0 ∷ 0 ∷ 0  -- mov rcx, [rsp+0x90]
    ∷ 0x48 ∷ 0x8B ∷ 0x94 ∷ 0x24 ∷ 0x98 ∷ 0 ∷ 0 ∷ 0  -- mov rdx, [rsp+0x98]
    ∷ 0x4C ∷ 0x8B ∷ 0x84 ∷ 0x24 ∷ 0xA0 ∷ 0 ∷ 0 ∷ 0  -- mov r8, [rsp+0xA0]
    ∷ 0x4C ∷ 0x8B ∷ 0x8C ∷ 0x24 ∷ 0xA8 ∷ 0 ∷ 0 ∷ 0  -- mov r9, [rsp+0xA8]
    ∷ 0x0F ∷ 0x28 ∷ 0x44 ∷ 0x24 ∷ 0x20  -- movaps xmm0, [rsp+0x20]
    ∷ 0x0F ∷ 0x28 ∷ 0x4C ∷ 0x24 ∷ 0x30  -- movaps xmm1, [rsp+0x30]
    ∷ 0x0F ∷ 0x28 ∷ 0x54 ∷ 0x24 ∷ 0x40  -- movaps xmm2, [rsp+0x40]
    ∷ 0x0F ∷ 0x28 ∷ 0x5C ∷ 0x24 ∷ 0x50  -- movaps xmm3, [rsp+0x50]
    ∷ 0x0F ∷ 0x28 ∷ 0x64 ∷ 0x24 ∷ 0x60  -- movaps xmm4, [rsp+0x60]
    ∷ 0x0F ∷ 0x28 ∷ 0x6C ∷ 0x24 ∷ 0x70  -- movaps xmm5, [rsp+0x70]
    ∷ 0x48 ∷ 0x81 ∷ 0xC4 ∷ 0x88 ∷ 0 ∷ 0 ∷ 0  -- add rsp, 0x88
    ∷ 0xFF ∷ 0xE0  -- jmp rax
    ∷ []
tail_code Bits32 =
    0x51  -- push ecx
    ∷ 0x52  -- push edx
    ∷ 0x50  -- push eax
    ∷ 0xFF ∷ 0x74 ∷ 0x24 ∷ 0x0C  -- push [esp+12]
    ∷ 0xE8 ∷ 0 ∷ 0 ∷ 0 ∷ 0  -- call the helper
    ∷ 0x5A  -- pop edx
    ∷ 0x59  -- pop ecx
    ∷ 0x83 ∷ 0xC4 ∷ 0x04  -- add esp, 4
    ∷ 0xFF ∷ 0xE0  -- jmp eax
    ∷ []

-- the offset of its field, which leads to the helper
abbrev pub helper_field : Mode → ℕ
helper_field Bits64 = 0x4C
helper_field Bits32 = 8

-- a field of 32 bits: its bytes, the low one first
pub record Field : Type 0 where
  pub first : ℕ
  pub second : ℕ
  pub third : ℕ
  pub fourth : ℕ

-- the number in a field
abbrev pub field_number : Field → ℕ
field_number f = f.first + 2 ^ 8 * f.second + 2 ^ 16 * f.third + 2 ^ 24 * f.fourth

-- the bytes of a text with a field at an offset filled
abbrev pub with_field : ℕ → Field → List ℕ → List ℕ
with_field offset f bytes =
    take offset bytes ++ (f.first ∷ f.second ∷ f.third ∷ f.fourth ∷ drop (offset + 4) bytes)

-- the fields of a stub: for the jump, the entry's address, the descriptor's address and the tail
pub record StubFields : Type 0 where
  pub jump : Field
  pub entry : Field
  pub descriptor : Field
  pub tail : Field

-- a stub with its fields
abbrev pub linked_stub : Mode → StubFields → List ℕ
linked_stub mode f =
    with_field (tail_field mode) f.tail
    (with_field (descriptor_field mode) f.descriptor
    (with_field (entry_field mode) f.entry (with_field (jump_field mode) f.jump (stub_code mode))))

-- the tail's code with its field
abbrev pub linked_tail : Mode → Field → List ℕ
linked_tail mode helper = with_field (helper_field mode) helper (tail_code mode)
