-- Data and code that name `open` by its bare name, by hand, on two machines, in the program of
-- Worked/Operands with this object in the place of the passing one: at other places, in images at
-- other bases, and moved to others. Here the name is that of a stub for GNU's linker.
use Rattle.std.specs.Prelude.{ℕ, List, [], ◌∷◌, ◌++◌, codes, slice_get, ◌+◌}
use Rattle.implib.specs.declared.coff.object.Relocation.{Relocation}
use Rattle.implib.specs.declared.machine.MachineType.{MachineType}
use Rattle.implib.specs.declared.machine.MachineType.TheVariants.{I386, ARMNT, AMD64, ARM64}
use Rattle.implib.specs.Formats.Constants.{arm64_pagebase_rel21, class_external, i386_dir32}
use Rattle.implib.specs.Formats.Constants.{mem_execute_read, align_16bytes, amd64_rel32}
use Rattle.implib.specs.Formats.Constants.{arm64_pageoffset_12l, cnt_code, cnt_initialized_data}
use Rattle.implib.specs.Formats.Constants.{mem_read_write}
use Rattle.implib.specs.Formats.Object.{Object, ObjectSection}
use Rattle.implib.specs.Link.Image.{Range, image_of}
use Rattle.implib.specs.Link.Placement.{Bases, Placed, Unplaced, placed_from}
use Rattle.implib.specs.Link.Resolution.{target_address}
use Rattle.implib.specs.Members.Gnu.{section, text_name}
use Rattle.implib_link.specs.Flavors.Program.{IsProgram, null_descriptor}
use Rattle.implib_link.specs.Gnu.Fields.{StubAt, amd64_addr64, arm64_addr64, DefinesIn, LinkedCode}
use Rattle.implib_link.specs.Gnu.Fields.{placed_code, ranges_of_codes, HasPageField, HasPointer}
use Rattle.implib_link.specs.Gnu.Fields.{HasBranch, HasInstruction, Place}
use Rattle.implib_link.specs.Gnu.Stored.{AreStoredInMemory, HasAddField, HasRelative}
use Rattle.implib_link.specs.Gnu.Stored.{amd64_addr32nb, arm64_addr32nb, arm64_pageoffset_12a}
use Rattle.implib_link_instances.specs.Worked.Operands.{field, named_or, open_on, placed_or_passing}
use Rattle.implib_link_instances.specs.Worked.Operands.{stub_linked, stub_section}
use Rattle.implib_link_instances.specs.Worked.Programs.{another, both_inputs, foo_input}
use Rattle.implib_link_instances.specs.Worked.Programs.{object_with, input_objects, symbol_of_class}
use Rattle.implib_link_instances.specs.Worked.Programs.{touching_8, zed_input, symbol_on}
use Rattle.implib_link_instances.specs.Worked.Programs.{addresses_on, linked_thunk, lld_image_on}
use Rattle.implib_link_instances.specs.Worked.Programs.{mid_on, shorts_on, taken_address}
use Rattle.implib.specs.Import.{imp_symbol}
use Rattle.implib.specs.Machine.{machine_number}
use Rattle.implib_link.specs.Flavors.LldImports.{IsLldProgram, placed_by_lld, IsThunk, placed_thunk}
use Rattle.implib_link.specs.Flavors.LldImports.{thunk_section}
use Rattle.implib_link.specs.Tables.{AreSteady}

-- The section. AMD64: a pointer, as `.rdata$.refptr.open` has it, with eight bytes behind; an
-- address from the image's base. ARM64: a pointer; `adrp x1` and `add x2, x1` for `open`; an
-- address from the image's base.
abbrev pub registering_bytes : MachineType → List ℕ
registering_bytes I386 = []
registering_bytes ARMNT = []
registering_bytes AMD64 =
    0 ∷ 0 ∷ 0 ∷ 0 ∷ 0 ∷ 0 ∷ 0 ∷ 0 ∷ 0 ∷ 0 ∷ 0 ∷ 0 ∷ 0 ∷ 0 ∷ 0 ∷ 0 ∷ 0 ∷ 0 ∷ 0 ∷ 0 ∷ []
registering_bytes ARM64 =
    0 ∷ 0 ∷ 0 ∷ 0 ∷ 0 ∷ 0 ∷ 0 ∷ 0 ∷ 1 ∷ 0 ∷ 0 ∷ 0x90 ∷ 0x22 ∷ 0 ∷ 0 ∷ 0x91 ∷ 0 ∷ 0 ∷ 0 ∷ 0 ∷ []

-- its relocations: symbol 1 is `open`
abbrev pub registering_relocations : MachineType → List Relocation
registering_relocations I386 = []
registering_relocations ARMNT = []
registering_relocations AMD64 = field 0 1 amd64_addr64 ∷ field 16 1 amd64_addr32nb ∷ []
registering_relocations ARM64 =
    field 0 1 arm64_addr64 ∷ field 8 1 arm64_pagebase_rel21 ∷ field 12 1 arm64_pageoffset_12a
    ∷ field 16 1 arm64_addr32nb ∷ []

-- what it is linked to at 0x2010, `open` being at 0x1040, of an image at 0x180000000
abbrev pub registering_linked : MachineType → List ℕ
registering_linked I386 = []
registering_linked ARMNT = []
registering_linked AMD64 =
    0x40 ∷ 0x10 ∷ 0 ∷ 0x80 ∷ 1 ∷ 0 ∷ 0 ∷ 0 ∷ 0 ∷ 0 ∷ 0 ∷ 0 ∷ 0 ∷ 0 ∷ 0 ∷ 0 ∷ 0x40 ∷ 0x10 ∷ 0 ∷ 0
    ∷ []
registering_linked ARM64 =
    0x40 ∷ 0x10 ∷ 0 ∷ 0x80 ∷ 1 ∷ 0 ∷ 0 ∷ 0 ∷ 0xE1 ∷ 0xFF ∷ 0xFF ∷ 0xF0 ∷ 0x22 ∷ 0 ∷ 1 ∷ 0x91 ∷ 0x40
    ∷ 0x10 ∷ 0 ∷ 0 ∷ []

abbrev pub registering_section : MachineType → ObjectSection
registering_section machine =
    section text_name mem_execute_read (registering_bytes machine) (registering_relocations machine)

abbrev pub registering : MachineType → Object
registering machine = object_with 0 (registering_section machine ∷ []) (
    symbol_of_class (codes "table") 1 class_external
    ∷ symbol_of_class (open_on machine) 0 class_external
    ∷ [])

-- what is linked: this object, foo.dll's members, another object, zed.dll's members, the null
-- descriptor
abbrev pub registering_objects : MachineType → List Object
registering_objects machine =
    registering machine
    ∷ (input_objects machine (foo_input machine)
    ++ (another machine
    ∷ (input_objects machine (zed_input machine)
    ++ null_descriptor ∷ [])))

abbrev pub registering_placed : MachineType → Bases → List Placed
registering_placed machine bases = placed_from bases (registering_objects machine)

-- the stub, which is the fourth object's, and the section
abbrev pub registered_stub_at : MachineType → Bases → LinkedCode
registered_stub_at machine bases = record {
  from = placed_or_passing machine (slice_get (registering_placed machine bases) 3);
  number = 1;
  code = stub_section machine;
  position = 0x1040;
  bytes = stub_linked machine;
}

abbrev pub registering_at : MachineType → LinkedCode
registering_at machine = record {
  from = record { object = registering machine; section_addresses = Unplaced ∷ [] };
  number = 1;
  code = registering_section machine;
  position = 0x2010;
  bytes = registering_linked machine;
}

abbrev pub registering_codes : MachineType → Bases → List LinkedCode
registering_codes machine bases = registered_stub_at machine bases ∷ registering_at machine ∷ []

abbrev pub registering_targets : MachineType → Bases → LinkedCode → ℕ → ℕ
registering_targets machine bases c index =
    named_or machine (slice_get c.from.object.entries index)
    (target_address (registering_placed machine bases) c.from index)

abbrev pub registering_image : MachineType → Bases → List Range
registering_image machine bases = image_of machine bases (registering_placed machine bases)

abbrev pub registering_memory : MachineType → Bases → List Range
registering_memory machine bases =
    registering_image machine bases ++ ranges_of_codes (registering_codes machine bases)

-- The program is one of the laws and in memory at a base with the addresses that its code holds;
-- the stub of the entry at an address defines `open`; and the pointer and the address from the
-- image's base, so far on, are for `open`.
pub record WorkedRegistered (machine : MachineType) (image_base : ℕ) (bases : Bases)
    (memory : List Range) (entry further : ℕ) : Type 0 where
  pub program : IsProgram machine bases (both_inputs machine) (registering_objects machine)
  pub at : AreStoredInMemory machine image_base (registering_image machine bases)
      (registering_placed machine bases)
      (registering_codes machine bases) (registering_targets machine bases) memory
  pub stub : StubAt machine (registering_placed machine bases)
      (placed_code (registered_stub_at machine bases))
      (symbol_of_class (open_on machine) 1 class_external) entry
  pub defines : DefinesIn (registered_stub_at machine bases)
      (symbol_of_class (open_on machine) 1 class_external)
  pub pointer : HasPointer machine (registering_at machine) 0 (open_on machine)
  pub relative : HasRelative machine (registering_at machine) further (open_on machine)

-- the two programs, as they were moved; and ARM64's two instructions
pub record WorkedRegistering : Type 0 where
  pub amd64 : WorkedRegistered AMD64 0x1_8000_0000 touching_8
      (registering_memory AMD64 touching_8) 0x80 16
  pub arm64 : WorkedRegistered ARM64 0x1_8000_0000 touching_8
      (registering_memory ARM64 touching_8) 0x80 16
  pub arm64_page : HasPageField (registering_at ARM64) 8 (open_on ARM64)
  pub arm64_add : HasAddField (registering_at ARM64) 12 (open_on ARM64)

-- Programs that lld-link 14.0.6 wrote for three machines of an object that clang 14.0.6 made, and
-- that names an import by its bare name in data and in unwind data, beside its code: what is in its
-- sections before and after the link. The import tables are those of Worked/LldPrograms, byte for
-- byte. The object, by `clang -O2`, cut to these sections:
-- `int (*held[2])(void) = {0, mid};` `int (*pick(void))(void) { asm(".seh_handler mid, @except");
-- zeta(); gee(); return mid; }`, on I386 without the `asm`, `zeta` and `gee` by dllimport; linked
-- with `/merge:.xdata=.data`.

-- The code. I386: `call [__imp__zeta]`, `call [__imp__gee]`, `mov eax, offset _mid`, `ret`; AMD64:
-- `sub rsp, 40`, the two calls, `lea rax, [rip + mid]`, `add rsp, 40`, `ret`; ARM64: `str x30, [sp,
-- -16]!`, twice `adrp x8`, `ldr x8, [x8]` and `blr x8`, `adrp x0`, `add x0, x0` for `mid`, `ldr
-- x30, [sp], 16`, `ret`.
abbrev pub picking_code : MachineType → List ℕ
picking_code I386 =
    0xFF ∷ 0x15 ∷ 0 ∷ 0 ∷ 0 ∷ 0 ∷ 0xFF ∷ 0x15 ∷ 0 ∷ 0 ∷ 0 ∷ 0 ∷ 0xB8 ∷ 0 ∷ 0 ∷ 0 ∷ 0 ∷ 0xC3 ∷ []
picking_code ARMNT = []
picking_code AMD64 =
    0x48 ∷ 0x83 ∷ 0xEC ∷ 0x28 ∷ 0xFF ∷ 0x15 ∷ 0 ∷ 0 ∷ 0 ∷ 0 ∷ 0xFF ∷ 0x15 ∷ 0 ∷ 0 ∷ 0 ∷ 0
    ∷ 0x48 ∷ 0x8D ∷ 5 ∷ 0 ∷ 0 ∷ 0 ∷ 0 ∷ 0x48 ∷ 0x83 ∷ 0xC4 ∷ 0x28 ∷ 0xC3 ∷ []
picking_code ARM64 =
    0xFE ∷ 0x0F ∷ 0x1F ∷ 0xF8 ∷ 8 ∷ 0 ∷ 0 ∷ 0x90 ∷ 8 ∷ 1 ∷ 0x40 ∷ 0xF9 ∷ 0 ∷ 1 ∷ 0x3F ∷ 0xD6
    ∷ 8 ∷ 0 ∷ 0 ∷ 0x90 ∷ 8 ∷ 1 ∷ 0x40 ∷ 0xF9 ∷ 0 ∷ 1 ∷ 0x3F ∷ 0xD6 ∷ 0 ∷ 0 ∷ 0 ∷ 0x90
    ∷ 0 ∷ 0 ∷ 0 ∷ 0x91 ∷ 0xFE ∷ 7 ∷ 0x41 ∷ 0xF8 ∷ 0xC0 ∷ 3 ∷ 0x5F ∷ 0xD6 ∷ []

-- its relocations: symbol 1 is `__imp_zeta`, 2 is `__imp_gee`, 3 is `mid`
abbrev pub picking_relocations : MachineType → List Relocation
picking_relocations I386 = field 2 1 i386_dir32 ∷ field 8 2 i386_dir32 ∷ field 13 3 i386_dir32 ∷ []
picking_relocations ARMNT = []
picking_relocations AMD64 = field 6 1 amd64_rel32 ∷ field 12 2 amd64_rel32 ∷ field 19 3 amd64_rel32
    ∷ []
picking_relocations ARM64 =
    field 4 1 arm64_pagebase_rel21 ∷ field 8 1 arm64_pageoffset_12l
    ∷ field 16 2 arm64_pagebase_rel21 ∷ field 20 2 arm64_pageoffset_12l
    ∷ field 28 3 arm64_pagebase_rel21 ∷ field 32 3 arm64_pageoffset_12a ∷ []

-- and after the link, from 0x1000 on
abbrev pub picking_linked : MachineType → List ℕ
picking_linked I386 =
    0xFF ∷ 0x15 ∷ 0x54 ∷ 0x20 ∷ 0x40 ∷ 0 ∷ 0xFF ∷ 0x15 ∷ 0x5C ∷ 0x20 ∷ 0x40 ∷ 0 ∷ 0xB8 ∷ 0x12 ∷ 0x10
    ∷ 0x40 ∷ 0 ∷ 0xC3 ∷ []
picking_linked ARMNT = []
picking_linked AMD64 =
    0x48 ∷ 0x83 ∷ 0xEC ∷ 0x28 ∷ 0xFF ∷ 0x15 ∷ 0x66 ∷ 0x10 ∷ 0 ∷ 0 ∷ 0xFF ∷ 0x15 ∷ 0x70 ∷ 0x10 ∷ 0
    ∷ 0
    ∷ 0x48 ∷ 0x8D ∷ 5 ∷ 9 ∷ 0 ∷ 0 ∷ 0 ∷ 0x48 ∷ 0x83 ∷ 0xC4 ∷ 0x28 ∷ 0xC3 ∷ []
picking_linked ARM64 =
    0xFE ∷ 0x0F ∷ 0x1F ∷ 0xF8 ∷ 8 ∷ 0 ∷ 0 ∷ 0xB0 ∷ 8 ∷ 0x39 ∷ 0x40 ∷ 0xF9 ∷ 0 ∷ 1 ∷ 0x3F ∷ 0xD6
    ∷ 8 ∷ 0 ∷ 0 ∷ 0xB0 ∷ 8 ∷ 0x41 ∷ 0x40 ∷ 0xF9 ∷ 0 ∷ 1 ∷ 0x3F ∷ 0xD6 ∷ 0 ∷ 0 ∷ 0 ∷ 0x90
    ∷ 0 ∷ 0xB0 ∷ 0 ∷ 0x91 ∷ 0xFE ∷ 7 ∷ 0x41 ∷ 0xF8 ∷ 0xC0 ∷ 3 ∷ 0x5F ∷ 0xD6 ∷ []

-- the pointers, the second of them to `mid`, from 0x3000 on
abbrev pub held_bytes : MachineType → List ℕ
held_bytes I386 = 0 ∷ 0 ∷ 0 ∷ 0 ∷ 0 ∷ 0 ∷ 0 ∷ 0 ∷ []
held_bytes ARMNT = []
held_bytes AMD64 = 0 ∷ 0 ∷ 0 ∷ 0 ∷ 0 ∷ 0 ∷ 0 ∷ 0 ∷ 0 ∷ 0 ∷ 0 ∷ 0 ∷ 0 ∷ 0 ∷ 0 ∷ 0 ∷ []
held_bytes ARM64 = 0 ∷ 0 ∷ 0 ∷ 0 ∷ 0 ∷ 0 ∷ 0 ∷ 0 ∷ 0 ∷ 0 ∷ 0 ∷ 0 ∷ 0 ∷ 0 ∷ 0 ∷ 0 ∷ []

abbrev pub held_relocations : MachineType → List Relocation
held_relocations I386 = field 4 3 i386_dir32 ∷ []
held_relocations ARMNT = []
held_relocations AMD64 = field 8 3 amd64_addr64 ∷ []
held_relocations ARM64 = field 8 3 arm64_addr64 ∷ []

abbrev pub held_linked : MachineType → List ℕ
held_linked I386 = 0 ∷ 0 ∷ 0 ∷ 0 ∷ 0x12 ∷ 0x10 ∷ 0x40 ∷ 0 ∷ []
held_linked ARMNT = []
held_linked AMD64 = 0 ∷ 0 ∷ 0 ∷ 0 ∷ 0 ∷ 0 ∷ 0 ∷ 0 ∷ 0x20 ∷ 0x10 ∷ 0 ∷ 0x40 ∷ 1 ∷ 0 ∷ 0 ∷ 0 ∷ []
held_linked ARM64 = 0 ∷ 0 ∷ 0 ∷ 0 ∷ 0 ∷ 0 ∷ 0 ∷ 0 ∷ 0x2C ∷ 0x10 ∷ 0 ∷ 0x40 ∷ 1 ∷ 0 ∷ 0 ∷ 0 ∷ []

-- the unwind data, whose last four bytes are the handler, from 0x3010 on; I386 has none
abbrev pub unwind_bytes : MachineType → List ℕ
unwind_bytes I386 = []
unwind_bytes ARMNT = []
unwind_bytes AMD64 = 9 ∷ 4 ∷ 1 ∷ 0 ∷ 4 ∷ 0x42 ∷ 0 ∷ 0 ∷ 0 ∷ 0 ∷ 0 ∷ 0 ∷ []
unwind_bytes ARM64 = 0x0B ∷ 0 ∷ 0x30 ∷ 8 ∷ 0xD5 ∷ 0x61 ∷ 0xE4 ∷ 0xE3 ∷ 0 ∷ 0 ∷ 0 ∷ 0 ∷ []

abbrev pub unwind_relocations : MachineType → List Relocation
unwind_relocations I386 = []
unwind_relocations ARMNT = []
unwind_relocations AMD64 = field 8 3 amd64_addr32nb ∷ []
unwind_relocations ARM64 = field 8 3 arm64_addr32nb ∷ []

abbrev pub unwind_linked : MachineType → List ℕ
unwind_linked I386 = []
unwind_linked ARMNT = []
unwind_linked AMD64 = 9 ∷ 4 ∷ 1 ∷ 0 ∷ 4 ∷ 0x42 ∷ 0 ∷ 0 ∷ 0x20 ∷ 0x10 ∷ 0 ∷ 0 ∷ []
unwind_linked ARM64 = 0x0B ∷ 0 ∷ 0x30 ∷ 8 ∷ 0xD5 ∷ 0x61 ∷ 0xE4 ∷ 0xE3 ∷ 0x2C ∷ 0x10 ∷ 0 ∷ 0 ∷ []

-- where lld placed the thunk of `mid`, with the bytes of Worked/LldPrograms
abbrev pub mid_thunk : MachineType → ℕ
mid_thunk I386 = 0x1012
mid_thunk ARMNT = 0
mid_thunk AMD64 = 0x1020
mid_thunk ARM64 = 0x102C

abbrev pub picking_section : MachineType → ObjectSection
picking_section machine =
    section text_name (cnt_code + align_16bytes + mem_execute_read) (picking_code machine)
    (picking_relocations machine)

abbrev pub held_section : MachineType → ObjectSection
held_section machine =
    section (codes ".data") (cnt_initialized_data + align_16bytes + mem_read_write)
    (held_bytes machine)
    (held_relocations machine)

abbrev pub unwind_section : MachineType → ObjectSection
unwind_section machine =
    section (codes ".xdata") 0x4030_0040 (unwind_bytes machine)
    (unwind_relocations machine)

abbrev pub mid_name : MachineType → List ℕ
mid_name machine = symbol_on machine (codes "mid")

abbrev pub holding_object : MachineType → Object
holding_object machine =
    object_with (machine_number machine)
    (picking_section machine ∷ held_section machine ∷ unwind_section machine ∷ [])
    (symbol_of_class (symbol_on machine (codes "pick")) 1 class_external
    ∷ symbol_of_class (imp_symbol (symbol_on machine (codes "zeta"))) 0 class_external
    ∷ symbol_of_class (imp_symbol (symbol_on machine (codes "gee"))) 0 class_external
    ∷ symbol_of_class (mid_name machine) 0 class_external
    ∷ [])

abbrev pub placed_holding : MachineType → Placed
placed_holding machine =
    record {
      object = holding_object machine;
      section_addresses = Unplaced ∷ Unplaced ∷ Unplaced ∷ [];
    }

-- what is linked: the object, lld's tables, the thunk
abbrev pub holding_placed : MachineType → List Placed
holding_placed machine =
    placed_holding machine
    ∷ placed_by_lld machine (addresses_on machine) (shorts_on machine)
    ∷ placed_thunk machine (mid_on machine)
    ∷ []

abbrev pub picking_at : MachineType → LinkedCode
picking_at machine = record {
  from = placed_holding machine;
  number = 1;
  code = picking_section machine;
  position = 0x1000;
  bytes = picking_linked machine;
}

abbrev pub mid_thunk_at : MachineType → LinkedCode
mid_thunk_at machine = record {
  from = placed_thunk machine (mid_on machine);
  number = 1;
  code = thunk_section machine;
  position = mid_thunk machine;
  bytes = linked_thunk machine;
}

abbrev pub held_at : MachineType → LinkedCode
held_at machine = record {
  from = placed_holding machine;
  number = 2;
  code = held_section machine;
  position = 0x3000;
  bytes = held_linked machine;
}

abbrev pub unwind_at : MachineType → LinkedCode
unwind_at machine = record {
  from = placed_holding machine;
  number = 3;
  code = unwind_section machine;
  position = 0x3010;
  bytes = unwind_linked machine;
}

abbrev pub holding_codes : MachineType → List LinkedCode
holding_codes machine = picking_at machine ∷ mid_thunk_at machine ∷ held_at machine
    ∷ unwind_at machine ∷ []

abbrev pub holding_targets : MachineType → LinkedCode → ℕ → ℕ
holding_targets machine c index =
    taken_address (λ name. mid_thunk machine) (holding_placed machine) c.from
    (slice_get c.from.object.entries index)

abbrev pub holding_memory : MachineType → List Range
holding_memory machine = lld_image_on machine ++ ranges_of_codes (holding_codes machine)

-- The base relocations, as in lld's `.reloc`, and the memory with them applied, for 0x10000000 on
-- I386, 0x7FF612340000 on AMD64 and 0x40000000 on ARM64.
abbrev pub holding_places : MachineType → List Place
holding_places I386 =
    record { address = 0x1002; width = 4 }
    ∷ record { address = 0x1008; width = 4 }
    ∷ record { address = 0x100D; width = 4 }
    ∷ record { address = 0x1014; width = 4 }
    ∷ record { address = 0x3004; width = 4 }
    ∷ []
holding_places ARMNT = []
holding_places AMD64 = record { address = 0x3008; width = 8 } ∷ []
holding_places ARM64 = record { address = 0x3008; width = 8 } ∷ []

abbrev pub holding_moved_memory : MachineType → List Range
holding_moved_memory I386 =
    record { start = 0x1002; bytes = 0x54 ∷ 0x20 ∷ 0 ∷ 0x10 ∷ [] }
    ∷ record { start = 0x1008; bytes = 0x5C ∷ 0x20 ∷ 0 ∷ 0x10 ∷ [] }
    ∷ record { start = 0x100D; bytes = 0x12 ∷ 0x10 ∷ 0 ∷ 0x10 ∷ [] }
    ∷ record { start = 0x1014; bytes = 0x50 ∷ 0x20 ∷ 0 ∷ 0x10 ∷ [] }
    ∷ record { start = 0x3004; bytes = 0x12 ∷ 0x10 ∷ 0 ∷ 0x10 ∷ [] }
    ∷ holding_memory I386
holding_moved_memory ARMNT = []
holding_moved_memory AMD64 =
    record { start = 0x3008; bytes = 0x20 ∷ 0x10 ∷ 0x34 ∷ 0x12 ∷ 0xF6 ∷ 0x7F ∷ 0 ∷ 0 ∷ [] }
    ∷ holding_memory AMD64
holding_moved_memory ARM64 =
    record { start = 0x3008; bytes = 0x2C ∷ 0x10 ∷ 0 ∷ 0x40 ∷ 0 ∷ 0 ∷ 0 ∷ 0 ∷ [] }
    ∷ holding_memory ARM64

-- The program is one of the laws, it is in memory at a base with the addresses that its code holds,
-- and has the thunk of `mid`; its second pointer, so far from the first, is for `mid`.
pub record WorkedHolding (machine : MachineType) (image_base : ℕ) (memory : List Range)
    (second : ℕ) : Type 0 where
  pub program : IsLldProgram machine 0x2000 (addresses_on machine) (shorts_on machine)
      (lld_image_on machine)
      (holding_placed machine)
  pub steady : AreSteady machine (holding_placed machine)
  pub at : AreStoredInMemory machine image_base (lld_image_on machine) (holding_placed machine)
      (holding_codes machine)
      (holding_targets machine) memory
  pub thunk : IsThunk machine (mid_thunk_at machine) (mid_on machine)
  pub pointer : HasPointer machine (held_at machine) second (mid_name machine)

-- The three programs, at the bases that they were linked for, I386's at another, and what else
-- names `mid`: I386's immediate operand, AMD64's `lea`, the handlers, and ARM64's two instructions.
pub record WorkedHoldings : Type 0 where
  pub i386 : WorkedHolding I386 0x40_0000 (holding_memory I386) 4
  pub i386_moved : WorkedHolding I386 0x1000_0000 (holding_moved_memory I386) 4
  pub amd64 : WorkedHolding AMD64 0x1_4000_0000 (holding_memory AMD64) 8
  pub arm64 : WorkedHolding ARM64 0x1_4000_0000 (holding_memory ARM64) 8
  pub amd64_lea : HasBranch AMD64 (picking_at AMD64) 19 0 (mid_name AMD64)
  pub amd64_handler : HasRelative AMD64 (unwind_at AMD64) 8 (mid_name AMD64)
  pub arm64_page : HasPageField (picking_at ARM64) 28 (mid_name ARM64)
  pub arm64_add : HasAddField (picking_at ARM64) 32 (mid_name ARM64)
  pub amd64_call : HasInstruction AMD64 (picking_at AMD64) 4 (0xFF ∷ 0x15 ∷ []) []
      (codes "__imp_zeta")
