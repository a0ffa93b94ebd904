-- The code of any object that is linked, and its fields: calls of imports, by the import's entry of
-- the address table or by its stub, and what operands lead to. Addresses of code count from the
-- image's base.
use Rattle.std.specs.Prelude.{◌≡◌, ℕ, ◌+◌, ◌%◌, ◌^◌, ◌<◌, ◌≤◌, ◌⊎◌, ◌==◌, true, List, [], ◌∷◌, ◌++◌}
use Rattle.std.specs.Prelude.{bytes_eq, length, map, slice_get, take, Option, Some, None}
use Rattle.std.specs.Prelude.{if◌then◌else◌, ◌-◌, ◌/◌, Bool, ◌&&◌, nat_lt, false, drop, ◌*◌, nat_le}
use Rattle.std.specs.List.{AllByRecursion, Contains, filter, list_any, filter_map, flat_map}
use Rattle.implib.specs.declared.coff.object.Relocation.{Relocation}
use Rattle.implib.specs.declared.machine.MachineType.{MachineType}
use Rattle.implib.specs.declared.machine.MachineType.TheVariants.{I386, ARMNT, AMD64, ARM64}
use Rattle.implib.specs.Formats.Constants.{amd64_rel32, arm64_pagebase_rel21, arm64_pageoffset_12l}
use Rattle.implib.specs.Formats.Constants.{i386_dir32}
use Rattle.implib.specs.Formats.File.{is_defined_external}
use Rattle.implib.specs.Formats.Object.{ASymbol, Entry, ObjectSection, ObjectSymbol, Object}
use Rattle.implib.specs.Formats.Object.{section_numbered}
use Rattle.implib.specs.Members.Gnu.{stub_bytes, stub_relocations}
use Rattle.implib.specs.Link.Image.{Range, AllApart, image_of, byte_at}
use Rattle.implib.specs.Link.Load.{BytesAt, number_in, NumberAt}
use Rattle.implib.specs.Link.Placement.{Placed, Bases, placed_from, At, SectionAddress, Unplaced}
use Rattle.implib.specs.Link.Resolution.{is_undefined_external, symbol_address, definitions_of}
use Rattle.implib_link.specs.Stub.{bits_of, jump_reads, plus_signed, word_at, adrp_immediate}
use Rattle.implib_link.specs.Stub.{ldr_immediate, page, with_adrp, with_bits}
use Rattle.implib.specs.Members.ImportTables.{thunk_width}
use Rattle.std.specs.Option.{option_map}

-- a section of a placed object, by its number, which counts from 1, with the address of its code
pub record PlacedCode : Type 0 where
  pub from : Placed
  pub number : ℕ
  pub code : ObjectSection
  pub position : ℕ

-- I386's relocation by 32 bits relative to the byte after the field (PE/COFF specification, "Type
-- Indicators":
-- IMAGE_REL_I386_REL32)
abbrev pub i386_rel32 : ℕ
i386_rel32 = 0x14

-- ARM64's relocation of a branch by 26 bits, which count in words from the branch itself
-- (IMAGE_REL_ARM64_BRANCH26)
abbrev pub arm64_branch26 : ℕ
arm64_branch26 = 3

-- code defines a symbol: it is an external of its object, in this section
pub record Defines (c : PlacedCode) (t : ObjectSymbol) : Type 0 where
  pub held : Contains c.from.object.entries (ASymbol t)
  pub external : is_defined_external t ≡ true
  pub here : t.section ≡ c.number

-- What a linker takes symbols' addresses to be in code:
-- `tables`: where a symbol has an address in the import tables, it is that;
-- `code`: an undefined symbol that placed code defines has its address there.
-- Of other symbols nothing is asked.
pub record Resolves (linked : List Placed) (codes : List PlacedCode) (targets : PlacedCode → ℕ → ℕ)
    : Type 0 where
  pub tables : (c : PlacedCode) (index address : ℕ) (entry : Entry) → Contains codes c →
      slice_get c.from.object.entries index ≡ Some entry →
      symbol_address linked c.from entry ≡ Some address → targets c index ≡ address
  pub code : (c d : PlacedCode) (index : ℕ) (s t : ObjectSymbol) → Contains codes c →
      Contains codes d →
      slice_get c.from.object.entries index ≡ Some (ASymbol s) → is_undefined_external s ≡ true →
      Defines d t → t.name ≡ s.name → targets c index ≡ d.position + t.value

-- a relocation so much further on
abbrev pub moved_by : ℕ → Relocation → Relocation
moved_by offset r = record { offset = offset + r.offset; symbol = r.symbol; kind = r.kind }

-- AMD64's and ARM64's relocations by 64 bits, which store an address whole ("Type Indicators")
abbrev pub amd64_addr64 : ℕ
amd64_addr64 = 1

abbrev pub arm64_addr64 : ℕ
arm64_addr64 = 0xE

-- How many bytes a relocation of a type changes at most: 8 if it is by 64 bits, or else 4 ("Type
-- Indicators"). Of ARMNT's, some of which have fields in two instructions, nothing less than 8 is
-- claimed.
abbrev pub field_width : MachineType → ℕ → ℕ
field_width I386 type = 4
field_width ARMNT type = 8
field_width AMD64 type = if type == amd64_addr64 then 8 else 4
field_width ARM64 type = if type == arm64_addr64 then 8 else 4

-- a relocation changes nothing in so many bytes from an offset on: its field is before or after
-- them
abbrev pub IsAside : MachineType → ℕ → ℕ → Relocation → Type 0
IsAside machine offset count r =
    (r.offset + field_width machine r.kind ≤ offset) ⊎ (offset + count ≤ r.offset)

-- Code has instructions at an offset, with these relocations against the symbol of an index: the
-- symbol is an undefined one of this name, and no other relocation changes the instructions.
pub record HasInstructions (machine : MachineType) (c : PlacedCode) (offset : ℕ)
    (name bytes : List ℕ) (relocations : ℕ → List Relocation) : Type 0 where
  pub front : List ℕ
  pub back : List ℕ
  pub instructions : c.code.bytes ≡ front ++ (bytes ++ back)
  pub here : length front ≡ offset
  pub index : ℕ
  pub before : List Relocation
  pub behind : List Relocation
  pub relocated : c.code.relocations
      ≡ before ++ (map (moved_by offset) (relocations index) ++ behind)
  pub aside_before : AllByRecursion (IsAside machine offset (length bytes)) before
  pub aside_behind : AllByRecursion (IsAside machine offset (length bytes)) behind
  pub symbol : ObjectSymbol
  pub target : slice_get c.from.object.entries index ≡ Some (ASymbol symbol)
  pub undefined : is_undefined_external symbol ≡ true
  pub named : symbol.name ≡ name

-- Code is the stub of the entry at an address: its bytes and relocations are a stub's, its symbol 2
-- has the entry's address, and the name that it stands for is at its beginning.
pub record StubAt (machine : MachineType) (linked : List Placed) (d : PlacedCode) (t : ObjectSymbol)
    (entry : ℕ) : Type 0 where
  pub bytes : d.code.bytes ≡ stub_bytes machine
  pub relocations : d.code.relocations ≡ stub_relocations machine 2
  pub begins : t.value ≡ 0
  pub symbol : Entry
  pub held : slice_get d.from.object.entries 2 ≡ Some symbol
  pub placed : symbol_address linked d.from symbol ≡ Some entry

-- A call by a name, with an empty field: I386 and AMD64 `call rel32`; ARM64 `bl`.
abbrev pub direct_bytes : MachineType → List ℕ
direct_bytes I386 = 0xE8 ∷ 0 ∷ 0 ∷ 0 ∷ 0 ∷ []
direct_bytes ARMNT = []
direct_bytes AMD64 = 0xE8 ∷ 0 ∷ 0 ∷ 0 ∷ 0 ∷ []
direct_bytes ARM64 = 0 ∷ 0 ∷ 0 ∷ 0x94 ∷ []

-- its relocation against the symbol of an index
abbrev pub direct_relocations : MachineType → ℕ → List Relocation
direct_relocations I386 index = record { offset = 1; symbol = index; kind = i386_rel32 } ∷ []
direct_relocations ARMNT index = []
direct_relocations AMD64 index = record { offset = 1; symbol = index; kind = amd64_rel32 } ∷ []
direct_relocations ARM64 index = record { offset = 0; symbol = index; kind = arm64_branch26 } ∷ []

-- code has such a call of a name at an offset
abbrev pub HasDirectCall : MachineType → PlacedCode → ℕ → List ℕ → Type 0
HasDirectCall machine c offset name =
    HasInstructions machine c offset name (direct_bytes machine) (direct_relocations machine)

-- A call at an address can reach code at another: on ARM64, both are at multiples of 4, and at most
-- 2^27 bytes apart, as the branch's field has room for. Of ARMNT nothing is claimed.
abbrev pub CanBranch : MachineType → ℕ → ℕ → Type 0
CanBranch I386 from to = Unit {0}
CanBranch ARMNT from to = ⊥
CanBranch AMD64 from to = Unit {0}
CanBranch ARM64 from to =
    (from % 4 ≡ 0) × (to % 4 ≡ 0) × (from ≤ to + 2 ^ 27) × (to < from + 2 ^ 27)

-- where `call rel32` at an address leads: so far after it
abbrev pub rel32_leads : ℕ → List ℕ → Option ℕ
rel32_leads address bytes =
    if bytes_eq (take 1 bytes) (0xE8 ∷ [])
    then Some (plus_signed 32 1 (word_at bytes 1) (address + 5)) else None

-- where a direct call leads: ARM64's `bl`, so many words from itself
abbrev pub direct_leads : MachineType → ℕ → List ℕ → Option ℕ
direct_leads I386 address bytes = rel32_leads address bytes
direct_leads ARMNT address bytes = None
direct_leads AMD64 address bytes = rel32_leads address bytes
direct_leads ARM64 address bytes =
    if bits_of 26 6 (word_at bytes 0) == 0x25
    then Some (plus_signed 26 4 (bits_of 0 26 (word_at bytes 0)) address)
    else None

-- At an address of memory is code that jumps, so many bytes of it, by the bytes that are there, and
-- where its jump reads its target are these bytes: say, the address of a DLL's function.
pub record JumpArrives (machine : MachineType) (size image_base : ℕ) (memory : List Range)
    (address : ℕ) (bytes : List ℕ) : Type 0 where
  pub code : List ℕ
  pub there : BytesAt memory address code
  pub whole : length code ≡ size
  pub entry : ℕ
  pub reads : jump_reads machine (image_base + address) code ≡ Some (image_base + entry)
  pub located : BytesAt memory entry bytes

-- so does a stub
abbrev pub StubArrives : MachineType → ℕ → List Range → ℕ → List ℕ → Type 0
StubArrives machine = JumpArrives machine (length (stub_bytes machine))

-- At an address of memory is a direct call, by the bytes that are there, and it leads to a stub,
-- which arrives at these bytes.
pub record DirectCallArrives (machine : MachineType) (image_base : ℕ) (memory : List Range)
    (address : ℕ) (bytes : List ℕ) : Type 0 where
  pub instruction : List ℕ
  pub here : BytesAt memory address instruction
  pub whole : length instruction ≡ length (direct_bytes machine)
  pub stub : ℕ
  pub leads : direct_leads machine (image_base + address) instruction ≡ Some (image_base + stub)
  pub jumps : StubArrives machine image_base memory stub bytes

-- What a linker makes of code, as a relation: a byte in no relocation's field is as it was, and a
-- field that no other relocation meets holds what its type asks (PE/COFF specification, "COFF
-- Relocations", "Type Indicators"). Of types that are not named here nothing is said: their fields
-- may hold any bytes. Addresses of code and of its targets count from the image's base.

-- whether the field of a relocation meets so many bytes from an offset on
abbrev pub meets : MachineType → ℕ → ℕ → Relocation → Bool
meets machine offset count r =
    nat_lt r.offset (offset + count) && nat_lt offset (r.offset + field_width machine r.kind)

-- of all relocations this one alone, once, meets so many bytes from an offset on
abbrev pub MeetsAlone : MachineType → List Relocation → ℕ → ℕ → Relocation → Type 0
MeetsAlone machine relocations offset count r =
    filter (meets machine offset count) relocations ≡ r ∷ []

-- the number in so many bytes from an offset on
abbrev pub field_at : List ℕ → ℕ → ℕ → ℕ
field_at bytes offset width = number_in (take width (drop offset bytes))

-- What a field at an address holds for a target, by its type. `old` and `new` are the numbers in so
-- many bytes of it, in the object and after the link.
-- I386: DIR32 adds the target's address; REL32 the target relative to the byte after the field.
pub record I386Holds (type image_base position target : ℕ) (old new : ℕ → ℕ) : Type 0 where
  pub dir32 : type ≡ i386_dir32 → new 4 ≡ (old 4 + (image_base + target)) % 2 ^ 32
  pub rel32 : type ≡ i386_rel32 →
      new 4 ≡ (old 4 + target + (2 ^ 32 - (position + 4) % 2 ^ 32)) % 2 ^ 32

-- AMD64: ADDR64 adds the target's address; REL32 and REL32_1 to REL32_5 the target relative to the
-- byte so many bytes after the field.
pub record Amd64Holds (type image_base position target : ℕ) (old new : ℕ → ℕ) : Type 0 where
  pub addr64 : type ≡ amd64_addr64 → new 8 ≡ (old 8 + (image_base + target)) % 2 ^ 64
  pub rel32 : (further : ℕ) → further ≤ 5 → type ≡ amd64_rel32 + further →
      new 4 ≡ (old 4 + target + (2 ^ 32 - (position + 4 + further) % 2 ^ 32)) % 2 ^ 32

-- ARM64: ADDR64 adds the target's address; BRANCH26, empty and within the branch's reach, has the
-- words from the branch to the target; PAGEBASE_REL21 the target's page relative to its own;
-- PAGEOFFSET_12L, of a load of 8 bytes, the target's offset in its page. All other bits of an
-- instruction are as they were. A linker may send a branch that does not reach its target by other
-- code: of such a field nothing is said.
pub record Arm64Holds (type image_base position target : ℕ) (old new : ℕ → ℕ) : Type 0 where
  pub addr64 : type ≡ arm64_addr64 → new 8 ≡ (old 8 + (image_base + target)) % 2 ^ 64
  pub branch : type ≡ arm64_branch26 → bits_of 0 26 (old 4) ≡ 0 → position ≤ target + 2 ^ 27 →
      target < position + 2 ^ 27 →
      (with_bits 0 26 0 (new 4) ≡ with_bits 0 26 0 (old 4))
      × (bits_of 0 26 (new 4) ≡ (target + (2 ^ 28 - position % 2 ^ 28)) / 4 % 2 ^ 26)
  pub page_of : type ≡ arm64_pagebase_rel21 →
      (with_adrp 0 (new 4) ≡ with_adrp 0 (old 4))
      × (adrp_immediate (new 4)
      ≡ (page (image_base + target + adrp_immediate (old 4))
      + (2 ^ 21 - page (image_base + position) % 2 ^ 21))
      % 2 ^ 21)
  pub offset_of : type ≡ arm64_pageoffset_12l → bits_of 30 2 (old 4) ≡ 3 →
      (with_bits 10 12 0 (new 4) ≡ with_bits 10 12 0 (old 4))
      × (bits_of 10 12 (new 4) ≡ (image_base + target + ldr_immediate (old 4)) % 4096 / 8)

-- of ARMNT's fields nothing is said
abbrev pub FieldHolds : MachineType → ℕ → ℕ → ℕ → ℕ → (ℕ → ℕ) → (ℕ → ℕ) → Type 0
FieldHolds I386 type image_base position target old new =
    I386Holds type image_base position target old new
FieldHolds ARMNT type image_base position target old new = Unit {0}
FieldHolds AMD64 type image_base position target old new =
    Amd64Holds type image_base position target old new
FieldHolds ARM64 type image_base position target old new =
    Arm64Holds type image_base position target old new

-- What a linker makes of a section of code at an address, with the addresses that it takes for the
-- symbols of its object, by their indices:
-- `size`: as many bytes;
-- `kept`: a byte in no relocation's field is as it was;
-- `fields`: a field within the section that no other relocation meets holds what its type asks.
pub record IsRelocated (machine : MachineType) (image_base : ℕ) (targets : ℕ → ℕ) (position : ℕ)
    (code : ObjectSection) (bytes : List ℕ) : Type 0 where
  pub size : length bytes ≡ length code.bytes
  pub kept : (offset : ℕ) → list_any (meets machine offset 1) code.relocations ≡ false →
      slice_get bytes offset ≡ slice_get code.bytes offset
  pub fields : (r : Relocation) →
      MeetsAlone machine code.relocations r.offset (field_width machine r.kind) r →
      r.offset + field_width machine r.kind ≤ length code.bytes →
      FieldHolds machine r.kind image_base (position + r.offset) (targets r.symbol)
      (field_at code.bytes r.offset) (field_at bytes r.offset)

-- a section of a placed object, by its number, which counts from 1, with the address of its code
-- and with its bytes after the link
pub record LinkedCode : Type 0 where
  pub from : Placed
  pub number : ℕ
  pub code : ObjectSection
  pub position : ℕ
  pub bytes : List ℕ

-- the ranges of linked codes
abbrev pub range_of_code : LinkedCode → Range
range_of_code c = record { start = c.position; bytes = c.bytes }

abbrev pub ranges_of_codes : List LinkedCode → List Range
ranges_of_codes codes = map range_of_code codes

-- code defines a symbol: it is an external of its object, in this section
pub record DefinesIn (c : LinkedCode) (t : ObjectSymbol) : Type 0 where
  pub held : Contains c.from.object.entries (ASymbol t)
  pub external : is_defined_external t ≡ true
  pub here : t.section ≡ c.number

-- What a linker takes symbols' addresses to be in code:
-- `tables`: where a symbol has an address in the import tables, it is that;
-- `code`: an undefined symbol that linked code defines has its address there.
-- Of other symbols nothing is asked.
pub record TakesSymbols (linked : List Placed) (codes : List LinkedCode)
    (targets : LinkedCode → ℕ → ℕ) : Type 0 where
  pub tables : (c : LinkedCode) (index address : ℕ) (entry : Entry) → Contains codes c →
      slice_get c.from.object.entries index ≡ Some entry →
      symbol_address linked c.from entry ≡ Some address → targets c index ≡ address
  pub code : (c d : LinkedCode) (index : ℕ) (s t : ObjectSymbol) → Contains codes c →
      Contains codes d →
      slice_get c.from.object.entries index ≡ Some (ASymbol s) → is_undefined_external s ≡ true →
      DefinesIn d t → t.name ≡ s.name → targets c index ≡ d.position + t.value

-- Code that is linked beside the import tables: sections of objects that are linked, each ending 16
-- bytes below 2^31 at least, relocated by what a linker takes for their symbols; no address is in
-- two ranges.
pub record AreLinkedBeside (machine : MachineType) (image_base : ℕ) (image : List Range)
    (linked : List Placed) (codes : List LinkedCode) (targets : LinkedCode → ℕ → ℕ) : Type 0 where
  pub held : AllByRecursion (λ c. Contains linked c.from) codes
  pub sections : AllByRecursion
      (λ c. section_numbered c.from.object.sections c.number ≡ Some c.code) codes
  pub ends : AllByRecursion (λ c. c.position + length c.code.bytes + 16 ≤ 2 ^ 31) codes
  pub apart : AllApart (image ++ ranges_of_codes codes)
  pub relocated : AllByRecursion
      (λ c. IsRelocated machine image_base (targets c) c.position c.code c.bytes) codes
  pub resolved : TakesSymbols linked codes targets

-- code that is linked beside the import tables of a program
abbrev pub AreBeside : MachineType → ℕ → Bases → List Object → List LinkedCode →
    (LinkedCode → ℕ → ℕ) → Type 0
AreBeside machine image_base bases objects codes targets =
    AreLinkedBeside machine image_base (image_of machine bases (placed_from bases objects))
    (placed_from bases objects)
    codes targets

-- linked code without its linked bytes
abbrev pub placed_code : LinkedCode → PlacedCode
placed_code c = record { from = c.from; number = c.number; code = c.code; position = c.position }

-- Fields of code against a name, whatever instruction holds them: where they lead by the
-- processor's rule, and what is there. Addresses of code count from the image's base.

-- the symbol of an index is an undefined one of this name
pub record Names (from : Placed) (index : ℕ) (name : List ℕ) : Type 0 where
  pub symbol : ObjectSymbol
  pub target : slice_get from.object.entries index ≡ Some (ASymbol symbol)
  pub undefined : is_undefined_external symbol ≡ true
  pub named : symbol.name ≡ name

-- code has, at an offset, a field of a type against a name, within the section, that no other
-- relocation meets
pub record HasField (machine : MachineType) (c : LinkedCode) (offset type : ℕ)
    (name : List ℕ) : Type 0 where
  pub symbol : ℕ
  pub alone : MeetsAlone machine c.code.relocations offset (field_width machine type)
      (record { offset = offset; symbol = symbol; kind = type })
  pub inside : offset + field_width machine type ≤ length c.code.bytes
  pub names : Names c.from symbol name

-- A field of a type, with a number in the object, is the operand of an instruction that ends so
-- many bytes after the field: I386's DIR32 with 0; AMD64's REL32 and REL32_1 to REL32_5, where the
-- number and the type count up to the instruction's end. So it is REL32 with 0 where nothing
-- follows, and REL32_1 with 0 or REL32 with -1 before an immediate byte.
abbrev pub IsOperand : MachineType → ℕ → ℕ → ℕ → Type 0
IsOperand I386 type after number = (type ≡ i386_dir32) × (number ≡ 0)
IsOperand ARMNT type after number = ⊥
IsOperand AMD64 type after number =
    (further : ℕ)
    × ((further ≤ 5) × ((type ≡ amd64_rel32 + further) × ((number + after) % 2 ^ 32 ≡ further)))
IsOperand ARM64 type after number = ⊥

-- code has, at an offset, such an operand against a name
pub record HasOperand (machine : MachineType) (c : LinkedCode) (offset after : ℕ)
    (name : List ℕ) : Type 0 where
  pub type : ℕ
  pub field : HasField machine c offset type name
  pub counts : IsOperand machine type after (field_at c.code.bytes offset 4)
  pub within : offset + (4 + after) ≤ length c.code.bytes

-- Where an operand at an address leads, by the processor's rule, if the instruction ends so many
-- bytes after it: I386, `[disp32]`, to the number; AMD64, `[rip + disp32]`, so far from the
-- instruction's end.
abbrev pub operand_leads : MachineType → ℕ → ℕ → ℕ → Option ℕ
operand_leads I386 address after number = Some number
operand_leads ARMNT address after number = None
operand_leads AMD64 address after number = Some (plus_signed 32 1 number (address + 4 + after))
operand_leads ARM64 address after number = None

-- At an address of memory is an operand that leads to the only definition of a name, and there are
-- these bytes: say, the address of a DLL's function.
pub record OperandArrives (machine : MachineType) (image_base : ℕ) (linked : List Placed)
    (memory : List Range) (address after : ℕ) (name bytes : List ℕ) : Type 0 where
  pub number : ℕ
  pub there : NumberAt memory 4 address number
  pub entry : ℕ
  pub own : definitions_of name linked ≡ record { name = name; address = Some entry } ∷ []
  pub leads : operand_leads machine (image_base + address) after number ≡ Some (image_base + entry)
  pub located : BytesAt memory entry bytes

-- code has, at an offset, an instruction of which no relocation but the operand's changes a byte:
-- bytes, the operand against a name, and further bytes
pub record HasInstruction (machine : MachineType) (c : LinkedCode) (offset : ℕ)
    (head tail name : List ℕ) : Type 0 where
  pub type : ℕ
  pub symbol : ℕ
  pub alone : MeetsAlone machine c.code.relocations offset (length head + (4 + length tail))
      (record { offset = offset + length head; symbol = symbol; kind = type })
  pub names : Names c.from symbol name
  pub field : List ℕ
  pub four : length field ≡ 4
  pub code : take (length head + (4 + length tail)) (drop offset c.code.bytes)
      ≡ head ++ (field ++ tail)
  pub counts : IsOperand machine type (length tail) (number_in field)

-- At an address of memory is the instruction, its bytes before and after the operand as they were;
-- the operand leads to the only definition of a name, and there are these bytes.
pub record InstructionArrives (machine : MachineType) (image_base : ℕ) (linked : List Placed)
    (memory : List Range) (address : ℕ) (head tail name bytes : List ℕ) : Type 0 where
  pub field : List ℕ
  pub four : length field ≡ 4
  pub there : BytesAt memory address (head ++ (field ++ tail))
  pub entry : ℕ
  pub own : definitions_of name linked ≡ record { name = name; address = Some entry } ∷ []
  pub leads : operand_leads machine (image_base + (address + length head)) (length tail)
      (number_in field)
      ≡ Some (image_base + entry)
  pub located : BytesAt memory entry bytes

-- ARM64: code has, at an offset, an `adrp` of the page of a name, into any register
pub record HasPageField (c : LinkedCode) (offset : ℕ) (name : List ℕ) : Type 0 where
  pub field : HasField ARM64 c offset arm64_pagebase_rel21 name
  pub empty : adrp_immediate (field_at c.code.bytes offset 4) ≡ 0

-- and a load of 8 bytes by the offset of a name in its page, by and into any registers
pub record HasOffsetField (c : LinkedCode) (offset : ℕ) (name : List ℕ) : Type 0 where
  pub field : HasField ARM64 c offset arm64_pageoffset_12l name
  pub eight : bits_of 30 2 (field_at c.code.bytes offset 4) ≡ 3
  pub empty : ldr_immediate (field_at c.code.bytes offset 4) ≡ 0

-- At two addresses of memory are an `adrp` and a load that are as they were but for their fields;
-- the page of the one and the offset of the other lead to the only definition of a name, and there
-- are these bytes.
pub record PairArrives (image_base : ℕ) (linked : List Placed) (memory : List Range)
    (first second old_adrp old_load : ℕ) (name bytes : List ℕ) : Type 0 where
  pub adrp : ℕ
  pub adrp_there : NumberAt memory 4 first adrp
  pub is_adrp : with_adrp 0 adrp ≡ with_adrp 0 old_adrp
  pub load : ℕ
  pub load_there : NumberAt memory 4 second load
  pub is_load : with_bits 10 12 0 load ≡ with_bits 10 12 0 old_load
  pub entry : ℕ
  pub own : definitions_of name linked ≡ record { name = name; address = Some entry } ∷ []
  pub leads : plus_signed 21 4096 (adrp_immediate adrp) (page (image_base + first) * 4096)
      + ldr_immediate load
      ≡ image_base + entry
  pub located : BytesAt memory entry bytes

-- the types of fields that store an address whole, as wide as a thunk
abbrev pub IsPointer : MachineType → ℕ → Type 0
IsPointer I386 type = type ≡ i386_dir32
IsPointer ARMNT type = ⊥
IsPointer AMD64 type = type ≡ amd64_addr64
IsPointer ARM64 type = type ≡ arm64_addr64

-- code has, at an offset, an empty field for the address of a name
pub record HasPointer (machine : MachineType) (c : LinkedCode) (offset : ℕ)
    (name : List ℕ) : Type 0 where
  pub type : ℕ
  pub field : HasField machine c offset type name
  pub stores : IsPointer machine type
  pub empty : field_at c.code.bytes offset (thunk_width machine) ≡ 0

-- at an address of memory is the address of the only definition of a name, and there are these
-- bytes
pub record PointerArrives (machine : MachineType) (image_base : ℕ) (linked : List Placed)
    (memory : List Range) (address : ℕ) (name bytes : List ℕ) : Type 0 where
  pub entry : ℕ
  pub own : definitions_of name linked ≡ record { name = name; address = Some entry } ∷ []
  pub there : NumberAt memory (thunk_width machine) address (image_base + entry)
  pub located : BytesAt memory entry bytes

-- Every field of linked code against a name leads to the only definition of another, and there are
-- these bytes:
-- `operands`, `instructions`: by I386's and AMD64's operands, alone and in their instructions;
-- `pairs`: by the page and the offset of ARM64's two instructions;
-- `pointers`: by addresses stored whole, where the image is below 2^64.
pub record AllLeadTo (machine : MachineType) (image_base : ℕ) (linked : List Placed)
    (codes : List LinkedCode) (memory : List Range) (called name bytes : List ℕ) : Type 0 where
  pub operands : (c : LinkedCode) (offset after : ℕ) → Contains codes c →
      HasOperand machine c offset after called →
      OperandArrives machine image_base linked memory (c.position + offset) after name bytes
  pub instructions : (c : LinkedCode) (offset : ℕ) (head tail : List ℕ) → Contains codes c →
      HasInstruction machine c offset head tail called →
      InstructionArrives machine image_base linked memory (c.position + offset) head tail name bytes
  pub pairs : (c d : LinkedCode) (first second : ℕ) → machine ≡ ARM64 → Contains codes c →
      Contains codes d →
      HasPageField c first called → HasOffsetField d second called →
      PairArrives image_base linked memory (c.position + first) (d.position + second)
      (field_at c.code.bytes first 4) (field_at d.code.bytes second 4) name bytes
  pub pointers : (c : LinkedCode) (offset : ℕ) → image_base + 2 ^ 31 ≤ 2 ^ 64 → Contains codes c →
      HasPointer machine c offset called →
      PointerArrives machine image_base linked memory (c.position + offset) name bytes

-- every field of linked code against a name leads to its only definition, and there are these bytes
abbrev pub AllLead : MachineType → ℕ → List Placed → List LinkedCode → List Range → List ℕ →
    List ℕ → Type 0
AllLead machine image_base linked codes memory name bytes =
    AllLeadTo machine image_base linked codes memory name name bytes

-- bytes of linked code that no relocation meets are in memory as they were in the object
abbrev pub AreKept : MachineType → List LinkedCode → List Range → Type 0
AreKept machine codes memory =
    (c : LinkedCode) (offset count : ℕ) → Contains codes c →
    list_any (meets machine offset count) c.code.relocations ≡ false →
    BytesAt memory (c.position + offset) (take count (drop offset c.code.bytes))

-- A field of a type, with a number in the object, is that of a branch that ends so many bytes after
-- it: I386's and AMD64's `call` and `jmp` relative to their end, whose number and type count up to
-- it; ARM64's `bl` and `b`, empty.
abbrev pub IsBranch : MachineType → ℕ → ℕ → ℕ → Type 0
IsBranch I386 type after number = (type ≡ i386_rel32) × ((number + after) % 2 ^ 32 ≡ 0)
IsBranch ARMNT type after number = ⊥
IsBranch AMD64 type after number = IsOperand AMD64 type after number
IsBranch ARM64 type after number = (type ≡ arm64_branch26) × (bits_of 0 26 number ≡ 0)

-- code has, at an offset, the field of such a branch to a name
pub record HasBranch (machine : MachineType) (c : LinkedCode) (offset after : ℕ)
    (name : List ℕ) : Type 0 where
  pub type : ℕ
  pub field : HasField machine c offset type name
  pub counts : IsBranch machine type after (field_at c.code.bytes offset 4)
  pub within : offset + (4 + after) ≤ length c.code.bytes

-- where a branch leads, by the processor's rule: so far from its end, or on ARM64 so many words
-- from itself
abbrev pub branch_leads : MachineType → ℕ → ℕ → ℕ → Option ℕ
branch_leads I386 address after number = Some (plus_signed 32 1 number (address + 4 + after))
branch_leads ARMNT address after number = None
branch_leads AMD64 address after number = Some (plus_signed 32 1 number (address + 4 + after))
branch_leads ARM64 address after number = Some (plus_signed 26 4 (bits_of 0 26 number) address)

-- at an address of memory is the field of a branch that leads to a target
pub record BranchArrives (machine : MachineType) (image_base : ℕ) (memory : List Range)
    (address after target : ℕ) : Type 0 where
  pub number : ℕ
  pub there : NumberAt memory 4 address number
  pub leads : branch_leads machine (image_base + address) after number ≡ Some (image_base + target)

-- what of a branch's four bytes is not its distance: of ARM64's `bl` and `b` the bits above it
abbrev pub branch_rest : MachineType → ℕ → ℕ
branch_rest I386 number = 0
branch_rest ARMNT number = 0
branch_rest AMD64 number = 0
branch_rest ARM64 number = with_bits 0 26 0 number

-- at an address of memory is the field of a branch that is, but for its distance, as this number
pub record BranchStays (machine : MachineType) (memory : List Range)
    (address old : ℕ) : Type 0 where
  pub number : ℕ
  pub there : NumberAt memory 4 address number
  pub same : branch_rest machine number ≡ branch_rest machine old

-- A program at another base than the one that it was linked for: its base relocations, and what a
-- loader makes of them (PE/COFF specification, "The .reloc Section"). Addresses count from the
-- image's base.

-- AMD64's and ARM64's relocations by 32 bits that store an address whole ("Type Indicators")
abbrev pub amd64_addr32 : ℕ
amd64_addr32 = 2

abbrev pub arm64_addr32 : ℕ
arm64_addr32 = 1

-- The width of the field of a relocation that stores an address whole, with the image's base in it,
-- so that the field needs a base relocation; none, if the relocation is relative to the image, its
-- own place or its page.
-- ARMNT has such fields, too: of it nothing is claimed.
abbrev pub absolute_width : MachineType → ℕ → Option ℕ
absolute_width I386 type = if type == i386_dir32 then Some 4 else None
absolute_width ARMNT type = None
absolute_width AMD64 type =
    if type == amd64_addr64 then Some 8 else if type == amd64_addr32 then Some 4 else None
absolute_width ARM64 type =
    if type == arm64_addr64 then Some 8 else if type == arm64_addr32 then Some 4 else None

-- where a base relocation applies: so many bytes from an address on
pub record Place : Type 0 where
  pub address : ℕ
  pub width : ℕ

-- the base relocation that a relocation of a section at an address needs, if any
abbrev pub place_of : MachineType → ℕ → Relocation → Option Place
place_of machine address r =
    option_map (λ width. record { address = address + r.offset; width = width })
    (absolute_width machine r.kind)

-- those of the relocations of a section at an address
abbrev pub places_at : MachineType → ℕ → List Relocation → List Place
places_at machine address relocations = filter_map (place_of machine address) relocations

-- those of an object's sections that are in the import tables
abbrev pub table_places_in : MachineType → List SectionAddress → List ObjectSection → List Place
table_places_in machine [] sections = []
table_places_in machine (address ∷ addresses) [] = []
table_places_in machine (Unplaced ∷ addresses) (s ∷ sections) =
    table_places_in machine addresses sections
table_places_in machine (At group address ∷ addresses) (s ∷ sections) =
    places_at machine address s.relocations ++ table_places_in machine addresses sections

-- those of all objects
abbrev pub table_places : MachineType → List Placed → List Place
table_places machine linked =
    flat_map (λ p. table_places_in machine p.section_addresses p.object.sections) linked

-- whether an address is in a place
abbrev pub covers : ℕ → Place → Bool
covers address p = nat_le p.address address && nat_lt address (p.address + p.width)

-- A number of so many bytes with the difference of two bases added, from the first to the second,
-- modulo its size. For example, of 4 bytes, 0x400060 from 0x400000 to 0x10000000 is 0x10000060.
abbrev pub moved_number : ℕ → ℕ → ℕ → ℕ → ℕ
moved_number width from to n =
    (n + to + (2 ^ (8 * width) - from % 2 ^ (8 * width))) % 2 ^ (8 * width)

-- What a loader makes of an image that was linked for one base and that it loads at another: at the
-- place of each base relocation the difference is added (`moved`), and every other byte is as it
-- was (`kept`).
pub record IsRebased (from to : ℕ) (places : List Place)
    (memory rebased : List Range) : Type 0 where
  pub moved : (p : Place) (n : ℕ) → Contains places p → NumberAt memory p.width p.address n →
      NumberAt rebased p.width p.address (moved_number p.width from to n)
  pub kept : (address byte : ℕ) → list_any (covers address) places ≡ false →
      byte_at memory address ≡ Some byte → byte_at rebased address ≡ Some byte
