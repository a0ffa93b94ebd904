-- The stubs, by which a call of an export goes through its entry of the address table: how their
-- code is relocated (PE/COFF specification, "Type Indicators") and what their jump reads, by the
-- processors' rules.
-- Addresses of code and of its targets count from the image's base.
use Rattle.std.specs.Prelude.{◌≡◌, ℕ, ◌+◌, ◌-◌, ◌*◌, ◌/◌, ◌%◌, ◌^◌, ◌≤◌, ◌&&◌, ◌==◌, nat_lt, List}
use Rattle.std.specs.Prelude.{[], ◌∷◌, ◌++◌, bytes_eq, drop, take, Option, Some, None}
use Rattle.std.specs.Prelude.{if◌then◌else◌}
use Rattle.implib.specs.declared.machine.MachineType.{MachineType}
use Rattle.implib.specs.declared.machine.MachineType.TheVariants.{I386, ARMNT, AMD64, ARM64}
use Rattle.implib.specs.Formats.Bytes.{u32_bytes}
use Rattle.implib.specs.Formats.Constants.{amd64_rel32, arm64_pagebase_rel21, arm64_pageoffset_12l}
use Rattle.implib.specs.Formats.Constants.{i386_dir32}
use Rattle.implib.specs.Link.Load.{number_in}
use Rattle.implib.specs.Link.Placement.{Bases}

-- the four bytes at an offset, as a number, and with another number in their place
abbrev pub word_at : List ℕ → ℕ → ℕ
word_at bytes offset = number_in (take 4 (drop offset bytes))

abbrev pub with_word : List ℕ → ℕ → ℕ → List ℕ
with_word bytes offset word = take offset bytes ++ (u32_bytes word ++ drop (offset + 4) bytes)

-- the field of so many bits from a bit of a word on, and the word with another number in it
abbrev pub bits_of : ℕ → ℕ → ℕ → ℕ
bits_of low width word = word / 2 ^ low % 2 ^ width

abbrev pub with_bits : ℕ → ℕ → ℕ → ℕ → ℕ
with_bits low width n word = word - bits_of low width word * 2 ^ low + n % 2 ^ width * 2 ^ low

-- the page of an address, on ARM64
abbrev pub page : ℕ → ℕ
page address = address / 4096

-- the 21 bits of an `adrp`: the low two from bit 29, the others from bit 5
abbrev pub adrp_immediate : ℕ → ℕ
adrp_immediate word = bits_of 5 19 word * 4 + bits_of 29 2 word

abbrev pub with_adrp : ℕ → ℕ → ℕ
with_adrp n word = with_bits 29 2 n (with_bits 5 19 (n / 4) word)

-- the 12 bits of an `ldr` from bit 10 on, which count in what it loads: 8 bytes where its top bits
-- are 3
abbrev pub ldr_immediate : ℕ → ℕ
ldr_immediate word = bits_of 10 12 word * 2 ^ bits_of 30 2 word

abbrev pub with_ldr : ℕ → ℕ → ℕ
with_ldr n word = with_bits 10 12 (n / 2 ^ bits_of 30 2 word) word

-- A word of code that a relocation of this type changes, at an address, for a target:
-- I386 type 6, the target's address; AMD64 type 4, the target relative to the byte after the field;
-- ARM64 type 4, the target's page relative to its own, and type 7, the target's offset in its page.
abbrev pub code_word : MachineType → ℕ → ℕ → ℕ → ℕ → ℕ → ℕ
code_word I386 type image_base position target word =
    if type == i386_dir32 then (word + (image_base + target)) % 2 ^ 32 else word
code_word ARMNT type image_base position target word = word
code_word AMD64 type image_base position target word =
    if type == amd64_rel32 then (word + target + (2 ^ 32 - (position + 4) % 2 ^ 32)) % 2 ^ 32
    else word
code_word ARM64 type image_base position target word =
    if type == arm64_pagebase_rel21 then
    with_adrp
    (page (image_base + target + adrp_immediate word)
    + (2 ^ 21 - page (image_base + position) % 2 ^ 21))
    word
    else if type == arm64_pageoffset_12l then
    with_ldr ((image_base + target + ldr_immediate word) % 4096) word
    else word

-- a number of so many bits and steps, as a signed one, added to an address
abbrev pub plus_signed : ℕ → ℕ → ℕ → ℕ → ℕ
plus_signed width step n address =
    if nat_lt n (2 ^ (width - 1)) then address + n * step else address + n * step - 2 ^ width * step

-- Where the jump that code at an address begins with reads its target, by the rule of its
-- instructions:
-- I386 `jmp [disp32]`, at the displacement; AMD64 `jmp [rip + disp32]`, that far after the jump;
-- ARM64 `adrp x16, page`, `ldr x16, [x16, offset]`, `br x16`.
abbrev pub jump_reads : MachineType → ℕ → List ℕ → Option ℕ
jump_reads I386 address bytes =
    if bytes_eq (take 2 bytes) (0xFF ∷ 0x25 ∷ []) then Some (word_at bytes 2) else None
jump_reads ARMNT address bytes = None
jump_reads AMD64 address bytes =
    if bytes_eq (take 2 bytes) (0xFF ∷ 0x25 ∷ [])
    then Some (plus_signed 32 1 (word_at bytes 2) (address + 6))
    else None
jump_reads ARM64 address bytes =
    if (with_adrp 0 (word_at bytes 0) == 0x9000_0010)
    && (with_bits 10 12 0 (word_at bytes 4) == 0xF940_0210)
    && (word_at bytes 8 == 0xD61F_0200) then
    Some (plus_signed 21 4096 (adrp_immediate (word_at bytes 0)) (page address * 4096)
    + ldr_immediate (word_at bytes 4))
    else None

-- What a machine asks so that its stubs can jump: I386, that the image's base is at most 2^31, so
-- that all of it is below 2^32; ARM64, that the image's base and the address tables' are multiples
-- of 8, as thunks are.
-- ARMNT's stubs cannot: they are A32 code with a relative field where they load an address, so they
-- jump elsewhere.
abbrev pub CanJump : MachineType → ℕ → Bases → Type 0
CanJump I386 image_base bases = image_base + 2 ^ 31 ≤ 2 ^ 32
CanJump ARMNT image_base bases = ⊥
CanJump AMD64 image_base bases = Unit {0}
CanJump ARM64 image_base bases = (image_base % 8 ≡ 0) × (bases.addresses % 8 ≡ 0)
