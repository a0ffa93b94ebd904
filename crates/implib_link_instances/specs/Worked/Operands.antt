-- Calls, pointers and placed code, by hand: programs as in Worked/Programs, whose own code calls
-- `open` of foo.dll or reads the address of its data `stat` through an entry; the bytes that the
-- fields of such code get; and a loader that reads the program's image.
use Rattle.std.specs.Prelude.{List, None, Option, Some, [], codes, if◌then◌else◌, length, map}
use Rattle.std.specs.Prelude.{slice_get, ℕ, ◌%◌, ◌*◌, ◌++◌, ◌+◌, ◌-◌, ◌/◌, ◌==◌, ◌^◌, ◌∷◌, ◌≡◌}
use Rattle.std.specs.Prelude.{bytes_eq}
use Rattle.implib.specs.declared.coff.object.Relocation.{Relocation}
use Rattle.implib.specs.declared.machine.MachineType.{MachineType}
use Rattle.implib.specs.declared.machine.MachineType.TheVariants.{AMD64, ARM64, ARMNT, I386}
use Rattle.implib.specs.Formats.Object.{ASymbol, Object, ObjectSection, Auxiliary, Entry}
use Rattle.implib.specs.Link.Image.{Range, image_of}
use Rattle.implib.specs.Link.Placement.{Bases, Placed, Unplaced, placed_from, SectionAddress}
use Rattle.implib_link.specs.Gnu.Fields.{PlacedCode, arm64_branch26, direct_bytes}
use Rattle.implib_link.specs.Gnu.Fields.{direct_relocations, i386_rel32, moved_by, AreBeside}
use Rattle.implib_link.specs.Gnu.Fields.{LinkedCode, placed_code}
use Rattle.implib_link.specs.Gnu.Fields.{amd64_addr64, arm64_addr64, StubAt, ranges_of_codes}
use Rattle.implib_link.specs.Gnu.Fields.{HasBranch, HasInstruction, HasOffsetField, HasOperand}
use Rattle.implib_link.specs.Gnu.Fields.{HasPageField, HasPointer, branch_leads, operand_leads}
use Rattle.implib_link.specs.Gnu.Fields.{Place}
use Rattle.implib_link.specs.Stub.{bits_of, code_word, with_bits, with_word, word_at}
use Rattle.implib.specs.Formats.Bytes.{u32_bytes}
use Rattle.implib.specs.Formats.Constants.{align_16bytes, align_4bytes, class_external, cnt_code}
use Rattle.implib.specs.Formats.Constants.{mem_execute_read, amd64_rel32, arm64_pagebase_rel21}
use Rattle.implib.specs.Formats.Constants.{arm64_pageoffset_12l, i386_dir32}
use Rattle.implib.specs.Import.{Ask, Name, Ordinal, imp_symbol}
use Rattle.implib.specs.Link.Load.{BytesAt}
use Rattle.implib.specs.Members.Gnu.{section, stub_bytes, stub_relocations, text_name}
use Rattle.implib.specs.Members.ImportTables.{zeros}
use Rattle.implib_link.specs.Flavors.Program.{null_descriptor, IsProgram}
use Rattle.implib_link.specs.Gnu.Writing.{ReadsAndWrites}
use Rattle.implib_link_instances.specs.Worked.Programs.{foo_input, input_objects, program_image}
use Rattle.implib_link_instances.specs.Worked.Programs.{object_with, symbol_of_class, symbol_on}
use Rattle.implib_link_instances.specs.Worked.Programs.{touching_4, touching_8, zed_input, another}
use Rattle.implib_link_instances.specs.Worked.Programs.{both_inputs}
use Rattle.implib.specs.Link.Resolution.{target_address}
use Rattle.implib_link.specs.Gnu.Moves.{AreInMemory}
use Rattle.implib.specs.Machine.{is_32bit}

-- A call through a pointer, with empty fields: I386 `call [disp32]`; AMD64 `call [rip + disp32]`;
-- ARM64 `adrp x16, page`, `ldr x16, [x16, offset]`, `blr x16`.
abbrev pub call_bytes : MachineType → List ℕ
call_bytes I386 = 0xFF ∷ 0x15 ∷ 0 ∷ 0 ∷ 0 ∷ 0 ∷ []
call_bytes ARMNT = []
call_bytes AMD64 = 0xFF ∷ 0x15 ∷ 0 ∷ 0 ∷ 0 ∷ 0 ∷ []
call_bytes ARM64 = 0x10 ∷ 0 ∷ 0 ∷ 0x90 ∷ 0x10 ∷ 2 ∷ 0x40 ∷ 0xF9 ∷ 0 ∷ 2 ∷ 0x3F ∷ 0xD6 ∷ []

-- instructions that read a pointer: `mov eax, [disp32]`; `mov rax, [rip + disp32]`; `adrp x8, page`,
-- `ldr x8, [x8, offset]`
abbrev pub load_bytes : MachineType → List ℕ
load_bytes I386 = 0xA1 ∷ 0 ∷ 0 ∷ 0 ∷ 0 ∷ []
load_bytes ARMNT = []
load_bytes AMD64 = 0x48 ∷ 0x8B ∷ 5 ∷ 0 ∷ 0 ∷ 0 ∷ 0 ∷ []
load_bytes ARM64 = 8 ∷ 0 ∷ 0 ∷ 0x90 ∷ 8 ∷ 1 ∷ 0x40 ∷ 0xF9 ∷ []

-- the relocations of either against the symbol of an index, by where x86's field is
abbrev pub pointer_relocations : ℕ → MachineType → ℕ → List Relocation
pointer_relocations field I386 index =
    record { offset = field; symbol = index; kind = i386_dir32 } ∷ []
pointer_relocations field ARMNT index = []
pointer_relocations field AMD64 index =
    record { offset = field; symbol = index; kind = amd64_rel32 } ∷ []
pointer_relocations field ARM64 index =
    record { offset = 0; symbol = index; kind = arm64_pagebase_rel21 }
    ∷ record { offset = 4; symbol = index; kind = arm64_pageoffset_12l }
    ∷ []

-- a word that a relocation changes in code: as in a stub's, on I386 relative to the byte after the
-- field too, and on ARM64 in a branch
abbrev pub word_in_code : MachineType → ℕ → ℕ → ℕ → ℕ → ℕ → ℕ
word_in_code I386 type image_base position target word =
    if type == i386_rel32 then (word + target + (2 ^ 32 - (position + 4) % 2 ^ 32)) % 2 ^ 32
    else code_word I386 type image_base position target word
word_in_code ARMNT type image_base position target word =
    code_word ARMNT type image_base position target word
word_in_code AMD64 type image_base position target word =
    code_word AMD64 type image_base position target word
word_in_code ARM64 type image_base position target word =
    if type == arm64_branch26
    then with_bits 0 26 (bits_of 0 26 word + (target + (2 ^ 28 - position % 2 ^ 28)) / 4) word
    else code_word ARM64 type image_base position target word

-- The bytes of code at an address, relocated by the addresses that a linker takes for the symbols
-- of its object, by their indices (PE/COFF specification, "COFF Relocations").
abbrev pub code_relocated_by : MachineType → ℕ → (ℕ → ℕ) → ℕ → List Relocation → List ℕ → List ℕ
code_relocated_by machine image_base targets position [] bytes = bytes
code_relocated_by machine image_base targets position (r ∷ relocations) bytes =
    code_relocated_by machine image_base targets position relocations
    (with_word bytes r.offset
    (word_in_code machine r.kind image_base (position + r.offset) (targets r.symbol)
    (word_at bytes r.offset)))

-- the range of the code, relocated
abbrev pub code_range : MachineType → ℕ → (PlacedCode → ℕ → ℕ) → PlacedCode → Range
code_range machine image_base targets c = record {
  start = c.position;
  bytes = code_relocated_by machine image_base (targets c) c.position c.code.relocations
      c.code.bytes;
}

-- the ranges of several codes
abbrev pub code_ranges : MachineType → ℕ → (PlacedCode → ℕ → ℕ) → List PlacedCode → List Range
code_ranges machine image_base targets codes = map (code_range machine image_base targets) codes

-- placed code with its linked bytes
abbrev pub linked_by : MachineType → ℕ → (PlacedCode → ℕ → ℕ) → PlacedCode → LinkedCode
linked_by machine image_base targets c = record {
  from = c.from;
  number = c.number;
  code = c.code;
  position = c.position;
  bytes = code_relocated_by machine image_base (targets c) c.position c.code.relocations
      c.code.bytes;
}

abbrev pub linked_codes : MachineType → ℕ → (PlacedCode → ℕ → ℕ) → List PlacedCode → List LinkedCode
linked_codes machine image_base targets codes = map (linked_by machine image_base targets) codes

-- addresses of symbols, which do not depend on linked bytes
abbrev pub as_placed : (PlacedCode → ℕ → ℕ) → LinkedCode → ℕ → ℕ
as_placed targets c index = targets (placed_code c) index

-- the code is linked beside the import tables
abbrev pub CodesBeside : MachineType → ℕ → Bases → List Object → List PlacedCode →
    (PlacedCode → ℕ → ℕ) → Type 0
CodesBeside machine image_base bases objects codes targets =
    AreBeside machine image_base bases objects (linked_codes machine image_base targets codes)
    (as_placed targets)

-- what a function of a machine begins with, 4 bytes: I386 four `nop`; AMD64 `sub rsp, 40`; ARM64
-- `stp x29, x30, [sp, -16]!`
abbrev pub first_bytes : MachineType → List ℕ
first_bytes I386 = 0x90 ∷ 0x90 ∷ 0x90 ∷ 0x90 ∷ []
first_bytes ARMNT = []
first_bytes AMD64 = 0x48 ∷ 0x83 ∷ 0xEC ∷ 0x28 ∷ []
first_bytes ARM64 = 0xFD ∷ 0x7B ∷ 0xBF ∷ 0xA9 ∷ []

-- what it ends with: I386 `ret`; AMD64 `add rsp, 40`, `ret`; ARM64 `ldp x29, x30, [sp], 16`, `ret`
abbrev pub last_bytes : MachineType → List ℕ
last_bytes I386 = 0xC3 ∷ []
last_bytes ARMNT = []
last_bytes AMD64 = 0x48 ∷ 0x83 ∷ 0xC4 ∷ 0x28 ∷ 0xC3 ∷ []
last_bytes ARM64 = 0xFD ∷ 0x7B ∷ 0xC1 ∷ 0xA8 ∷ 0xC0 ∷ 3 ∷ 0x5F ∷ 0xD6 ∷ []

-- code that calls the symbol of index 1, at offset 4
abbrev pub calling_code : MachineType → ObjectSection
calling_code machine = section text_name (cnt_code + align_16bytes + mem_execute_read)
    (first_bytes machine ++ (call_bytes machine ++ last_bytes machine))
    (map (moved_by 4) (pointer_relocations 2 machine 1))

-- an object with this code, whose symbol 1 is `__imp_open`
abbrev pub calling : MachineType → Object
calling machine = object_with 0 (calling_code machine ∷ []) (
    symbol_of_class (codes "main") 1 class_external
    ∷ symbol_of_class (imp_symbol (symbol_on machine (codes "open"))) 0 class_external
    ∷ [])

-- What DLLs give, by hand: for an ordinal 0x1000_0000, for a name 16 more for each of its
-- characters.
abbrev pub given : ℕ → List ℕ → Ask → List ℕ
given width dll (Ordinal n) = u32_bytes 0x1000_0000 ++ zeros width
given width dll (Name text hint) = u32_bytes (0x1000_0000 + 16 * length text) ++ zeros width

-- on a machine, in as many bytes as an entry has
abbrev pub given_on : MachineType → List ℕ → Ask → List ℕ
given_on I386 = given 0
given_on ARMNT = given 0
given_on AMD64 = given 4
given_on ARM64 = given 4

-- code that calls `open` by its name, at offset 4: `sub rsp, 40`, `call open`, `add rsp, 40`, `ret`
abbrev pub direct_code : ObjectSection
direct_code = section text_name (cnt_code + align_16bytes + mem_execute_read)
    (first_bytes AMD64 ++ (direct_bytes AMD64 ++ last_bytes AMD64))
    (map (moved_by 4) (direct_relocations AMD64 1))

-- an object with this code, whose symbol 1 is `open`
abbrev pub direct_calling : Object
direct_calling = record (calling AMD64) {
  sections = direct_code ∷ [];
  entries = ASymbol (symbol_of_class (codes "main") 1 class_external)
      ∷ ASymbol (symbol_of_class (codes "open") 0 class_external)
      ∷ [];
}

-- what is placed at an index
abbrev pub placed_or_empty : Option Placed → Placed
placed_or_empty None = record { object = direct_calling; section_addresses = [] }
placed_or_empty (Some p) = p

-- A loader that reads the worked program's image from 4 on goes on at two descriptors, and writes
-- what foo.dll gives for `open` to 0x80, and to 0x60 on I386. There is a loader that goes on at two
-- descriptors.
pub record WorkedReading : Type 0 where
  pub amd64 : (n : ℕ) (written : List Range) →
      ReadsAndWrites (program_image AMD64 touching_8) 8 (given_on AMD64) n 4 written →
      (n ≡ 2) × BytesAt (written ++ program_image AMD64 touching_8) 0x80 (0x40 ∷ 0 ∷ 0 ∷ 0x10 ∷ 0 ∷ 0 ∷ 0 ∷ 0 ∷ [])
  pub i386 : (n : ℕ) (written : List Range) →
      ReadsAndWrites (program_image I386 touching_4) 4 (given_on I386) n 4 written →
      (n ≡ 2) × BytesAt (written ++ program_image I386 touching_4) 0x60 (0x40 ∷ 0 ∷ 0 ∷ 0x10 ∷ [])
  pub amd64_ends : (written : List Range)
      × ReadsAndWrites (program_image AMD64 touching_8) 8 (given_on AMD64) 2 4 written

-- code that reads a pointer under the symbol of index 1, at offset 4
abbrev pub loading_code : MachineType → ObjectSection
loading_code machine = section text_name (cnt_code + align_16bytes + mem_execute_read)
    (first_bytes machine ++ (load_bytes machine ++ last_bytes machine))
    (map (moved_by 4) (pointer_relocations (if is_32bit machine then 1 else 3) machine 1))

-- an object with this code, whose symbol 1 is `__imp_stat`
abbrev pub loading : MachineType → Object
loading machine = record (calling machine) {
  sections = loading_code machine ∷ [];
  entries = ASymbol (symbol_of_class (codes "main") 1 class_external)
      ∷ ASymbol (symbol_of_class (imp_symbol (symbol_on machine (codes "stat"))) 0 class_external)
      ∷ [];
}

-- Code as compilers write it, by hand, on three machines: fields that follow one another without a
-- gap, among them some that no law reads; what it is linked to, and where it is in memory, at two
-- bases.

-- The relocations relative to a section ("Type Indicators": SECREL), of which no law says what
-- their fields hold, and ARM64's by an offset in a page in an `add`.
abbrev pub amd64_rel32_1 : ℕ
amd64_rel32_1 = 5

abbrev pub x86_secrel : ℕ
x86_secrel = 0xB

abbrev pub arm64_secrel : ℕ
arm64_secrel = 8

abbrev pub arm64_pageoffset_12a : ℕ
arm64_pageoffset_12a = 6

-- Code that passes a text to `open`, in the object. I386:
-- four `nop`; `push offset hello`; `call [__imp__open]`; `cmp dword [__imp__open], 1`; `mov ecx,
-- [__imp__open]`; the address of `__imp__open`; a field relative to a section; `jmp _open`, which
-- ends the section.
-- AMD64: `sub rsp, 40`; `lea rcx, [rip + hello]`; `call [rip + __imp_open]`; `cmp dword [rip +
-- __imp_open], 1` by REL32_1, and again by REL32 with -1 in the field; `mov r11, [rip +
-- __imp_open]`; `call open`; a field relative to a section; `add rsp, 40`; `ret`; the address of
-- `__imp_open`, which ends the section.
-- ARM64: `stp x29, x30, [sp, -16]!`; `adrp x0`, `add x0, x0` for `hello`; `adrp x8`, `ldr x8,
-- [x8]`, `blr x8` for `__imp_open`; `ldr q0, [x0]` for `hello`, of 16 bytes; `bl open`; the address
-- of `__imp_open`; a field relative to a section; `ldp x29, x30, [sp], 16`; `ret`.
abbrev pub passing_bytes : MachineType → List ℕ
passing_bytes I386 =
    0x90 ∷ 0x90 ∷ 0x90 ∷ 0x90 ∷ 0x68 ∷ 0 ∷ 0 ∷ 0 ∷ 0 ∷ 0xFF ∷ 0x15 ∷ 0 ∷ 0 ∷ 0 ∷ 0 ∷ 0x83 ∷ 0x3D ∷ 0 ∷ 0 ∷ 0 ∷ 0 ∷ 1
    ∷ 0x8B ∷ 0x0D ∷ 0 ∷ 0 ∷ 0 ∷ 0 ∷ 0 ∷ 0 ∷ 0 ∷ 0 ∷ 0 ∷ 0 ∷ 0 ∷ 0 ∷ 0xE9 ∷ 0 ∷ 0 ∷ 0 ∷ 0 ∷ []
passing_bytes ARMNT = []
passing_bytes AMD64 =
    0x48 ∷ 0x83 ∷ 0xEC ∷ 0x28 ∷ 0x48 ∷ 0x8D ∷ 0x0D ∷ 0 ∷ 0 ∷ 0 ∷ 0 ∷ 0xFF ∷ 0x15 ∷ 0 ∷ 0 ∷ 0 ∷ 0
    ∷ 0x83 ∷ 0x3D ∷ 0 ∷ 0 ∷ 0 ∷ 0 ∷ 1 ∷ 0x83 ∷ 0x3D ∷ 0xFF ∷ 0xFF ∷ 0xFF ∷ 0xFF ∷ 1 ∷ 0x4C ∷ 0x8B ∷ 0x1D ∷ 0 ∷ 0 ∷ 0 ∷ 0
    ∷ 0xE8 ∷ 0 ∷ 0 ∷ 0 ∷ 0 ∷ 0 ∷ 0 ∷ 0 ∷ 0 ∷ 0x48 ∷ 0x83 ∷ 0xC4 ∷ 0x28 ∷ 0xC3 ∷ 0 ∷ 0 ∷ 0 ∷ 0 ∷ 0 ∷ 0 ∷ 0 ∷ 0 ∷ []
passing_bytes ARM64 =
    0xFD ∷ 0x7B ∷ 0xBF ∷ 0xA9 ∷ 0 ∷ 0 ∷ 0 ∷ 0x90 ∷ 0 ∷ 0 ∷ 0 ∷ 0x91 ∷ 8 ∷ 0 ∷ 0 ∷ 0x90 ∷ 8 ∷ 1 ∷ 0x40 ∷ 0xF9
    ∷ 0 ∷ 1 ∷ 0x3F ∷ 0xD6 ∷ 0 ∷ 0 ∷ 0xC0 ∷ 0x3D ∷ 0 ∷ 0 ∷ 0 ∷ 0x94 ∷ 0 ∷ 0 ∷ 0 ∷ 0 ∷ 0 ∷ 0 ∷ 0 ∷ 0 ∷ 0 ∷ 0 ∷ 0 ∷ 0
    ∷ 0xFD ∷ 0x7B ∷ 0xC1 ∷ 0xA8 ∷ 0xC0 ∷ 3 ∷ 0x5F ∷ 0xD6 ∷ []

-- its relocations: symbol 1 is `__imp_open`, 2 is `hello`, 3 is `open`
abbrev pub field : ℕ → ℕ → ℕ → Relocation
field offset symbol type = record { offset = offset; symbol = symbol; kind = type }

abbrev pub passing_relocations : MachineType → List Relocation
passing_relocations I386 =
    field 5 2 i386_dir32 ∷ field 11 1 i386_dir32 ∷ field 17 1 i386_dir32 ∷ field 24 1 i386_dir32
    ∷ field 28 1 i386_dir32 ∷ field 32 2 x86_secrel ∷ field 37 3 i386_rel32 ∷ []
passing_relocations ARMNT = []
passing_relocations AMD64 =
    field 7 2 amd64_rel32 ∷ field 13 1 amd64_rel32 ∷ field 19 1 amd64_rel32_1
    ∷ field 26 1 amd64_rel32
    ∷ field 34 1 amd64_rel32 ∷ field 39 3 amd64_rel32 ∷ field 43 2 x86_secrel
    ∷ field 52 1 amd64_addr64 ∷ []
passing_relocations ARM64 =
    field 4 2 arm64_pagebase_rel21 ∷ field 8 2 arm64_pageoffset_12a
    ∷ field 12 1 arm64_pagebase_rel21
    ∷ field 16 1 arm64_pageoffset_12l ∷ field 24 2 arm64_pageoffset_12l ∷ field 28 3 arm64_branch26
    ∷ field 32 1 arm64_addr64 ∷ field 40 2 arm64_secrel ∷ []

-- What it is linked to at 0x1000, `__imp_open` being at 0x60 on I386 and at 0x80, `open` at 0x1040
-- and `hello` at 0x2010, of images at 0x400000 and 0x140000000. The bytes 11 22 33 44 relative to a
-- section are none that any sum has.
abbrev pub passing_linked : MachineType → List ℕ
passing_linked I386 =
    0x90 ∷ 0x90 ∷ 0x90 ∷ 0x90 ∷ 0x68 ∷ 0x10 ∷ 0x20 ∷ 0x40 ∷ 0 ∷ 0xFF ∷ 0x15 ∷ 0x60 ∷ 0 ∷ 0x40 ∷ 0
    ∷ 0x83 ∷ 0x3D ∷ 0x60 ∷ 0 ∷ 0x40 ∷ 0 ∷ 1 ∷ 0x8B ∷ 0x0D ∷ 0x60 ∷ 0 ∷ 0x40 ∷ 0 ∷ 0x60 ∷ 0 ∷ 0x40 ∷ 0
    ∷ 0x11 ∷ 0x22 ∷ 0x33 ∷ 0x44 ∷ 0xE9 ∷ 0x17 ∷ 0 ∷ 0 ∷ 0 ∷ []
passing_linked ARMNT = []
passing_linked AMD64 =
    0x48 ∷ 0x83 ∷ 0xEC ∷ 0x28 ∷ 0x48 ∷ 0x8D ∷ 0x0D ∷ 5 ∷ 0x10 ∷ 0 ∷ 0 ∷ 0xFF ∷ 0x15 ∷ 0x6F ∷ 0xF0 ∷ 0xFF ∷ 0xFF
    ∷ 0x83 ∷ 0x3D ∷ 0x68 ∷ 0xF0 ∷ 0xFF ∷ 0xFF ∷ 1 ∷ 0x83 ∷ 0x3D ∷ 0x61 ∷ 0xF0 ∷ 0xFF ∷ 0xFF ∷ 1
    ∷ 0x4C ∷ 0x8B ∷ 0x1D ∷ 0x5A ∷ 0xF0 ∷ 0xFF ∷ 0xFF ∷ 0xE8 ∷ 0x15 ∷ 0 ∷ 0 ∷ 0 ∷ 0x11 ∷ 0x22 ∷ 0x33 ∷ 0x44
    ∷ 0x48 ∷ 0x83 ∷ 0xC4 ∷ 0x28 ∷ 0xC3 ∷ 0x80 ∷ 0 ∷ 0 ∷ 0x40 ∷ 1 ∷ 0 ∷ 0 ∷ 0 ∷ []
passing_linked ARM64 =
    0xFD ∷ 0x7B ∷ 0xBF ∷ 0xA9 ∷ 0 ∷ 0 ∷ 0 ∷ 0xB0 ∷ 0 ∷ 0x40 ∷ 0 ∷ 0x91 ∷ 0xE8 ∷ 0xFF ∷ 0xFF ∷ 0xF0 ∷ 8 ∷ 0x41 ∷ 0x40 ∷ 0xF9
    ∷ 0 ∷ 1 ∷ 0x3F ∷ 0xD6 ∷ 0 ∷ 4 ∷ 0xC0 ∷ 0x3D ∷ 9 ∷ 0 ∷ 0 ∷ 0x94 ∷ 0x80 ∷ 0 ∷ 0 ∷ 0x40 ∷ 1 ∷ 0 ∷ 0 ∷ 0
    ∷ 0x11 ∷ 0x22 ∷ 0x33 ∷ 0x44 ∷ 0xFD ∷ 0x7B ∷ 0xC1 ∷ 0xA8 ∷ 0xC0 ∷ 3 ∷ 0x5F ∷ 0xD6 ∷ []

-- and the stub of `open` at 0x1040
abbrev pub stub_linked : MachineType → List ℕ
stub_linked I386 = 0xFF ∷ 0x25 ∷ 0x60 ∷ 0 ∷ 0x40 ∷ 0 ∷ 0x90 ∷ 0x90 ∷ []
stub_linked ARMNT = []
stub_linked AMD64 = 0xFF ∷ 0x25 ∷ 0x3A ∷ 0xF0 ∷ 0xFF ∷ 0xFF ∷ 0x90 ∷ 0x90 ∷ []
stub_linked ARM64 = 0xF0 ∷ 0xFF ∷ 0xFF ∷ 0xF0 ∷ 0x10 ∷ 0x42 ∷ 0x40 ∷ 0xF9 ∷ 0 ∷ 2 ∷ 0x1F ∷ 0xD6 ∷ []

abbrev pub passing_code : MachineType → ObjectSection
passing_code machine =
    section text_name (cnt_code + align_16bytes + mem_execute_read) (passing_bytes machine)
    (passing_relocations machine)

-- the sections of the object: on ARM64 a section without bytes comes first
abbrev pub passing_sections : MachineType → List ObjectSection
passing_sections I386 = passing_code I386 ∷ []
passing_sections ARMNT = []
passing_sections AMD64 = passing_code AMD64 ∷ []
passing_sections ARM64 = section (codes ".drectve") 0xA00 [] [] ∷ passing_code ARM64 ∷ []

-- the code's number among them, and their addresses in the tables
abbrev pub passing_number : MachineType → ℕ
passing_number machine = length (passing_sections machine)

abbrev pub passing_addresses : MachineType → List SectionAddress
passing_addresses machine = map (λ s. Unplaced) (passing_sections machine)

abbrev pub open_on : MachineType → List ℕ
open_on machine = symbol_on machine (codes "open")

abbrev pub passing : MachineType → Object
passing machine = object_with 0 (passing_sections machine) (
    symbol_of_class (codes "main") (passing_number machine) class_external
    ∷ symbol_of_class (imp_symbol (open_on machine)) 0 class_external
    ∷ symbol_of_class (codes "hello") 0 class_external
    ∷ symbol_of_class (open_on machine) 0 class_external
    ∷ [])

-- what is linked: this object, foo.dll's members, another object, zed.dll's members, the null
-- descriptor
abbrev pub passing_objects : MachineType → List Object
passing_objects machine =
    passing machine
    ∷ (input_objects machine (foo_input machine)
    ++ (another machine
    ∷ (input_objects machine (zed_input machine)
    ++ null_descriptor ∷ [])))

abbrev pub passing_placed : MachineType → Bases → List Placed
passing_placed machine bases = placed_from bases (passing_objects machine)

-- the code at 0x1000, and the stub of `open`, which is the fourth object's, at 0x1040
abbrev pub passing_at : MachineType → LinkedCode
passing_at machine = record {
  from = record { object = passing machine; section_addresses = passing_addresses machine };
  number = passing_number machine;
  code = passing_code machine;
  position = 0x1000;
  bytes = passing_linked machine;
}

abbrev pub placed_or_passing : MachineType → Option Placed → Placed
placed_or_passing machine None = record { object = passing machine; section_addresses = [] }
placed_or_passing machine (Some p) = p

abbrev pub stub_section : MachineType → ObjectSection
stub_section machine =
    section text_name (cnt_code + align_4bytes + mem_execute_read) (stub_bytes machine)
    (stub_relocations machine 2)

abbrev pub stub_of_open : MachineType → Bases → LinkedCode
stub_of_open machine bases = record {
  from = placed_or_passing machine (slice_get (passing_placed machine bases) 3);
  number = 1;
  code = stub_section machine;
  position = 0x1040;
  bytes = stub_linked machine;
}

abbrev pub passing_codes : MachineType → Bases → List LinkedCode
passing_codes machine bases = passing_at machine ∷ stub_of_open machine bases ∷ []

-- what the symbols of code are taken to be: `open` its stub, `hello` 0x2010, others their addresses
-- in the tables
abbrev pub in_code : MachineType → List ℕ → Option ℕ
in_code machine name =
    if bytes_eq name (open_on machine) then Some 0x1040
    else if bytes_eq name (codes "hello") then Some 0x2010
    else None

abbrev pub or_else : Option ℕ → ℕ → ℕ
or_else None n = n
or_else (Some m) n = m

abbrev pub named_or : MachineType → Option Entry → ℕ → ℕ
named_or machine None address = address
named_or machine (Some (Auxiliary bytes)) address = address
named_or machine (Some (ASymbol s)) address = or_else (in_code machine s.name) address

abbrev pub passing_targets : MachineType → Bases → LinkedCode → ℕ → ℕ
passing_targets machine bases c index =
    named_or machine (slice_get c.from.object.entries index)
    (target_address (passing_placed machine bases) c.from index)

-- the image and the code beside it
abbrev pub passing_image : MachineType → Bases → List Range
passing_image machine bases = image_of machine bases (passing_placed machine bases)

abbrev pub passing_memory : MachineType → Bases → List Range
passing_memory machine bases =
    passing_image machine bases ++ ranges_of_codes (passing_codes machine bases)

-- with its base relocations applied, for 0x10000000 on I386, 0x7FF612340000 on AMD64 and 0x40000000
-- on ARM64
abbrev pub moved_memory : MachineType → Bases → List Range
moved_memory I386 bases =
    record { start = 0x1005; bytes = 0x10 ∷ 0x20 ∷ 0 ∷ 0x10 ∷ [] }
    ∷ record { start = 0x100B; bytes = 0x60 ∷ 0 ∷ 0 ∷ 0x10 ∷ [] }
    ∷ record { start = 0x1011; bytes = 0x60 ∷ 0 ∷ 0 ∷ 0x10 ∷ [] }
    ∷ record { start = 0x1018; bytes = 0x60 ∷ 0 ∷ 0 ∷ 0x10 ∷ [] }
    ∷ record { start = 0x101C; bytes = 0x60 ∷ 0 ∷ 0 ∷ 0x10 ∷ [] }
    ∷ record { start = 0x1042; bytes = 0x60 ∷ 0 ∷ 0 ∷ 0x10 ∷ [] }
    ∷ passing_memory I386 bases
moved_memory ARMNT bases = []
moved_memory AMD64 bases =
    record { start = 0x1034; bytes = 0x80 ∷ 0 ∷ 0x34 ∷ 0x12 ∷ 0xF6 ∷ 0x7F ∷ 0 ∷ 0 ∷ [] } ∷ passing_memory AMD64 bases
moved_memory ARM64 bases =
    record { start = 0x1020; bytes = 0x80 ∷ 0 ∷ 0 ∷ 0x40 ∷ 0 ∷ 0 ∷ 0 ∷ 0 ∷ [] } ∷ passing_memory ARM64 bases

abbrev pub passing_places : MachineType → List Place
passing_places I386 =
    record { address = 0x1005; width = 4 }
    ∷ record { address = 0x100B; width = 4 }
    ∷ record { address = 0x1011; width = 4 }
    ∷ record { address = 0x1018; width = 4 }
    ∷ record { address = 0x101C; width = 4 }
    ∷ record { address = 0x1042; width = 4 }
    ∷ []
passing_places ARMNT = []
passing_places AMD64 = record { address = 0x1034; width = 8 } ∷ []
passing_places ARM64 = record { address = 0x1020; width = 8 } ∷ []

-- the name against which its fields are
abbrev pub imp_open : MachineType → List ℕ
imp_open machine = imp_symbol (open_on machine)

-- its fields
pub record PassingFields : Type 0 where
  pub amd64_call : HasInstruction AMD64 (passing_at AMD64) 11 (0xFF ∷ 0x15 ∷ []) [] (imp_open AMD64)
  pub amd64_operand : HasOperand AMD64 (passing_at AMD64) 19 1 (imp_open AMD64)
  pub amd64_branch : HasBranch AMD64 (passing_at AMD64) 39 0 (open_on AMD64)
  pub amd64_pointer : HasPointer AMD64 (passing_at AMD64) 52 (imp_open AMD64)
  pub i386_call : HasInstruction I386 (passing_at I386) 9 (0xFF ∷ 0x15 ∷ []) [] (imp_open I386)
  pub i386_operand : HasOperand I386 (passing_at I386) 17 1 (imp_open I386)
  pub i386_pointer : HasPointer I386 (passing_at I386) 28 (imp_open I386)
  pub i386_branch : HasBranch I386 (passing_at I386) 37 0 (open_on I386)
  pub arm64_page : HasPageField (passing_at ARM64) 12 (imp_open ARM64)
  pub arm64_offset : HasOffsetField (passing_at ARM64) 16 (imp_open ARM64)
  pub arm64_branch : HasBranch ARM64 (passing_at ARM64) 28 0 (open_on ARM64)
  pub arm64_pointer : HasPointer ARM64 (passing_at ARM64) 32 (imp_open ARM64)

-- The program is in memory at a base, by these numbers of relocated fields; its second code is the
-- stub of this entry.
pub record WorkedFields (machine : MachineType) (image_base : ℕ) (bases : Bases)
    (memory : List Range) (entry : ℕ) : Type 0 where
  pub program : IsProgram machine bases (both_inputs machine) (passing_objects machine)
  pub at : AreInMemory machine image_base (passing_image machine bases)
      (passing_placed machine bases)
      (passing_codes machine bases) (passing_targets machine bases) memory
  pub stub : StubAt machine (passing_placed machine bases)
      (placed_code (stub_of_open machine bases))
      (symbol_of_class (open_on machine) 1 class_external) entry

-- the three programs, as they were linked and moved
pub record WorkedOperands : Type 0 where
  pub amd64 : WorkedFields AMD64 0x1_4000_0000 touching_8 (passing_memory AMD64 touching_8) 0x80
  pub i386 : WorkedFields I386 0x40_0000 touching_4 (passing_memory I386 touching_4) 0x60
  pub i386_moved : WorkedFields I386 0x1000_0000 touching_4 (moved_memory I386 touching_4) 0x60
  pub arm64 : WorkedFields ARM64 0x1_4000_0000 touching_8 (passing_memory ARM64 touching_8) 0x80
  pub arm64_moved : WorkedFields ARM64 0x4000_0000 touching_8 (moved_memory ARM64 touching_8) 0x80
  -- where the linked numbers lead: the call, the comparisons and the move, of AMD64 and of I386
  pub amd64_call : operand_leads AMD64 0x1_4000_100D 0 0xFFFF_F06F ≡ Some 0x1_4000_0080
  pub i386_call : operand_leads I386 0x40_100B 0 0x40_0060 ≡ Some 0x40_0060
  -- and the calls of `open`, at their ends and at the `bl`
  pub amd64_branch : branch_leads AMD64 0x1_4000_1027 0 0x15 ≡ Some 0x1_4000_1040
  pub i386_branch : branch_leads I386 0x40_1025 0 0x17 ≡ Some 0x40_1040
  pub arm64_branch : branch_leads ARM64 0x1_4000_101C 0 0x9400_0009 ≡ Some 0x1_4000_1040
