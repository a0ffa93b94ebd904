-- Programs that were linked by hand: foo.dll with four exports, chosen in an order
-- of its own, and zed.dll with one, among a caller and another object, at bases from 4 on whose
-- ranges touch.
use Rattle.std.specs.Prelude.{◌≡◌, ℕ, ◌+◌, List, [], ◌∷◌, ◌++◌, codes, map, true, Option, Some}
use Rattle.std.specs.Prelude.{if◌then◌else◌, None}
use Rattle.std.specs.List.{AllByRecursion}
use Rattle.implib.specs.declared.flavor.Flavor.TheVariants.{Gnu}
use Rattle.implib.specs.declared.machine.MachineType.{MachineType}
use Rattle.implib.specs.declared.machine.MachineType.TheVariants.{I386, ARMNT, AMD64, ARM64}
use Rattle.implib.specs.Formats.Constants.{align_16bytes, cnt_code, mem_execute_read}
use Rattle.implib.specs.Formats.Constants.{class_external, class_static, amd64_rel32}
use Rattle.implib.specs.Formats.Constants.{arm64_pagebase_rel21, arm64_pageoffset_12l, i386_dir32}
use Rattle.implib.specs.Definition.{DefinitionView, ExportView}
use Rattle.implib.specs.Members.Gnu.{section, text_name}
use Rattle.implib.specs.Link.Image.{Range, image_of}
use Rattle.implib.specs.Machine.{has_leading_underscore, machine_number}
use Rattle.implib.specs.Import.{imp_symbol, underscore}
use Rattle.implib.specs.Link.LinkedMembers.{IsMade, LinkInput, linked_members, objects_in}
use Rattle.implib.specs.Members.MemberSpec.{member_of}
use Rattle.implib.specs.Members.Members.{member_specs}
use Rattle.implib.specs.Members.ImportTables.{thunk_width, zeros}
use Rattle.implib.specs.Formats.Object.{ASymbol, Object, ObjectSection, ObjectSymbol, Auxiliary}
use Rattle.implib.specs.Formats.Object.{Entry}
use Rattle.implib.specs.Link.Placement.{Bases, Placed, placed_from, Unplaced}
use Rattle.implib.specs.Renaming.{renamed}
use Rattle.implib.specs.Link.Resolution.{symbol_address}
use Rattle.implib.specs.Worked.Links.{addresses_of, bytes_from, nameless, numbers_from}
use Rattle.implib.specs.Worked.Members.{of_dll}
use Rattle.implib.specs.Worked.Statements.{plain_export}
use Rattle.implib_link.specs.Flavors.Program.{null_descriptor, IsProgram}
use Rattle.implib.specs.declared.coff.object.Relocation.{Relocation}
use Rattle.implib.specs.Formats.ShortImport.{ShortImport, import_code}
use Rattle.implib_link.specs.Flavors.LldImports.{placed_by_lld, placed_thunk, thunk_section}
use Rattle.implib_link.specs.Gnu.Fields.{arm64_branch26, i386_rel32, LinkedCode}

-- a name as its symbol has it: on I386 with an underscore in front
abbrev pub symbol_on : MachineType → List ℕ → List ℕ
symbol_on machine name = if has_leading_underscore machine then underscore ∷ name else name

-- four exports: a function with the hint 258, data, one by its ordinal, and another name for the
-- first
abbrev pub foo_exports : MachineType → List ExportView
foo_exports machine =
    record (plain_export (symbol_on machine (codes "open"))) { ordinal = 258 }
    ∷ record (plain_export (symbol_on machine (codes "stat"))) { is_data = true }
    ∷ nameless (symbol_on machine (codes "nine")) 9
    ∷ record (plain_export (symbol_on machine (codes "move"))) {
      alias_target = symbol_on machine (codes "open");
    }
    ∷ []

abbrev pub foo_dll : MachineType → DefinitionView
foo_dll machine = of_dll (codes "foo.dll") (foo_exports machine)

abbrev pub zed_dll : MachineType → DefinitionView
zed_dll machine = of_dll (codes "zed.dll") (plain_export (symbol_on machine (codes "queue")) ∷ [])

-- a definition's members, with a choice of exports
abbrev pub chosen_input : MachineType → DefinitionView → List ℕ → LinkInput
chosen_input machine d chosen = record {
  definition = d;
  members = map member_of (member_specs (renamed d) machine Gnu);
  chosen = chosen;
}

abbrev pub foo_input : MachineType → LinkInput
foo_input machine = chosen_input machine (foo_dll machine) (2 ∷ 0 ∷ 1 ∷ 3 ∷ [])

abbrev pub zed_input : MachineType → LinkInput
zed_input machine = chosen_input machine (zed_dll machine) (0 ∷ [])

abbrev pub both_inputs : MachineType → List LinkInput
both_inputs machine = foo_input machine ∷ zed_input machine ∷ []

-- a symbol of an object that was not made here
abbrev pub symbol_of_class : List ℕ → ℕ → ℕ → ObjectSymbol
symbol_of_class name section_number class =
    record { name = name; value = 0; section = section_number; kind = 0; class = class }

-- an object that was not made here, by its machine's number, sections and symbols
abbrev pub object_with : ℕ → List ObjectSection → List ObjectSymbol → Object
object_with machine sections symbols = record {
  machine = machine;
  time = 0;
  optional_header_size = 0;
  characteristics = 0;
  sections = sections;
  entries = map ASymbol symbols;
}

-- an object with code and these symbols
abbrev pub code_object : List ObjectSymbol → Object
code_object = object_with 0
    (section text_name (cnt_code + align_16bytes + mem_execute_read) (zeros 16) [] ∷ [])

-- a program's own code, which names the entry of `open`, and code with a symbol of its own that is
-- called as an export is
abbrev pub caller : MachineType → Object
caller machine = code_object (
    symbol_of_class (codes "main") 1 class_external
    ∷ symbol_of_class (imp_symbol (symbol_on machine (codes "open"))) 0 class_external
    ∷ [])

abbrev pub another : MachineType → Object
another machine =
    code_object (symbol_of_class (symbol_on machine (codes "stat")) 1 class_static ∷ [])

-- what is linked: the caller, foo.dll's members, the other object, zed.dll's members, the null
-- descriptor
abbrev pub input_objects : MachineType → LinkInput → List Object
input_objects machine p = objects_in (linked_members p.definition machine p.chosen)

abbrev pub program_objects : MachineType → List Object
program_objects machine =
    caller machine
    ∷ (input_objects machine (foo_input machine)
    ++ (another machine
    ∷ (input_objects machine (zed_input machine)
    ++ null_descriptor ∷ [])))

-- bases whose ranges touch, for thunks of 8 and of 4 bytes
abbrev pub touching_8 : Bases
touching_8 = record {
  descriptors = 4;
  directory_ends = 64;
  lookups = 64;
  addresses = 120;
  hint_names = 176;
  dll_names = 208;
}

abbrev pub touching_4 : Bases
touching_4 = record {
  descriptors = 4;
  directory_ends = 64;
  lookups = 64;
  addresses = 92;
  hint_names = 120;
  dll_names = 152;
}

-- what a program's image holds: the fields of the three descriptors, the thunks of a table, the
-- addresses of the entries of `nine`, `open`, `stat`, `move`, `queue`, and of the symbol that the
-- caller names
pub record Expected : Type 0 where
  pub descriptors : List ℕ
  pub thunks : List ℕ
  pub entries : List (List (Option ℕ))
  pub named : Option ℕ

-- the hints and names, two of them with a byte filled in after
abbrev pub expected_hints : List ℕ
expected_hints =
    2 ∷ 1 ∷ (codes "open" ++ 0 ∷ 0
    ∷ 0 ∷ 0 ∷ (codes "stat" ++ 0 ∷ 0
    ∷ 0 ∷ 0 ∷ (codes "move" ++ 0 ∷ 0
    ∷ 0 ∷ 0 ∷ (codes "queue" ++ 0 ∷ []))))

abbrev pub expected_8 : Expected
expected_8 = record {
  descriptors = 64 ∷ 0 ∷ 0 ∷ 224 ∷ 120 ∷ 104 ∷ 0 ∷ 0 ∷ 236 ∷ 160 ∷ 0 ∷ 0 ∷ 0 ∷ 0 ∷ 0 ∷ [];
  thunks = 0x8000_0000_0000_0009 ∷ 176 ∷ 184 ∷ 192 ∷ 0 ∷ 200 ∷ 0 ∷ [];
  entries = (Some 120 ∷ []) ∷ (Some 128 ∷ []) ∷ (Some 136 ∷ []) ∷ (Some 144 ∷ []) ∷ (Some 160 ∷ [])
      ∷ [];
  named = Some 128;
}

abbrev pub expected_4 : Expected
expected_4 = record {
  descriptors = 64 ∷ 0 ∷ 0 ∷ 168 ∷ 92 ∷ 84 ∷ 0 ∷ 0 ∷ 180 ∷ 112 ∷ 0 ∷ 0 ∷ 0 ∷ 0 ∷ 0 ∷ [];
  thunks = 0x8000_0009 ∷ 120 ∷ 128 ∷ 136 ∷ 0 ∷ 144 ∷ 0 ∷ [];
  entries = (Some 92 ∷ []) ∷ (Some 96 ∷ []) ∷ (Some 100 ∷ []) ∷ (Some 104 ∷ []) ∷ (Some 112 ∷ [])
      ∷ [];
  named = Some 96;
}

abbrev pub program_placed : MachineType → Bases → List Placed
program_placed machine bases = placed_from bases (program_objects machine)

abbrev pub program_image : MachineType → Bases → List Range
program_image machine bases = image_of machine bases (program_placed machine bases)

-- The program of a machine meets all that the laws ask for, and its image holds what is expected.
pub record WorkedProgram (machine : MachineType) (bases : Bases)
    (expected : Expected) : Type 0 where
  pub made : AllByRecursion (IsMade machine) (both_inputs machine)
  pub program : IsProgram machine bases (both_inputs machine) (program_objects machine)
  pub descriptors : numbers_from (program_image machine bases) 4 15 4 ≡ Some expected.descriptors
  pub lookups : numbers_from (program_image machine bases) (thunk_width machine) 7 bases.lookups
      ≡ Some expected.thunks
  pub addresses : numbers_from (program_image machine bases) (thunk_width machine) 7 bases.addresses
      ≡ Some expected.thunks
  pub hints : bytes_from (program_image machine bases) 32 bases.hint_names ≡ Some expected_hints
  pub foo : bytes_from (program_image machine bases) 8 (bases.dll_names + 16)
      ≡ Some (codes "foo.dll" ++ 0 ∷ [])
  pub zed : bytes_from (program_image machine bases) 8 (bases.dll_names + 28)
      ≡ Some (codes "zed.dll" ++ 0 ∷ [])
  pub entries : map
      (λ name. addresses_of (imp_symbol (symbol_on machine name)) (program_placed machine bases))
      (codes "nine" ∷ codes "open" ∷ codes "stat" ∷ codes "move" ∷ codes "queue" ∷ [])
      ≡ expected.entries
  pub named : symbol_address (program_placed machine bases)
      (record { object = caller machine; section_addresses = [] })
      (ASymbol (symbol_of_class (imp_symbol (symbol_on machine (codes "open"))) 0 class_external))
      ≡ expected.named

-- on two machines
pub record WorkedPrograms : Type 0 where
  pub amd64 : WorkedProgram AMD64 touching_8 expected_8
  pub i386 : WorkedProgram I386 touching_4 expected_4

-- Programs that lld-link 14.0.6 and 19.1.7 wrote for three machines, the same bytes by both: the
-- short imports of llvm-dlltool 19.1.7, the code of an object before and after the link, the thunk,
-- and the import tables.

-- the section `.rdata`, from 0x2000 on
abbrev pub written_by_lld : List ℕ
written_by_lld =
    0x40 ∷ 0x20 ∷ 0 ∷ 0 ∷ 0 ∷ 0 ∷ 0 ∷ 0 ∷ 0 ∷ 0 ∷ 0 ∷ 0 ∷ 0x9E ∷ 0x20 ∷ 0 ∷ 0 ∷ 0x68 ∷ 0x20 ∷ 0 ∷ 0 ∷
    0x58 ∷ 0x20 ∷ 0 ∷ 0 ∷ 0 ∷ 0 ∷ 0 ∷ 0 ∷ 0 ∷ 0 ∷ 0 ∷ 0 ∷ 0xA7 ∷ 0x20 ∷ 0 ∷ 0 ∷ 0x80 ∷ 0x20 ∷ 0 ∷ 0 ∷ 0 ∷
    0 ∷ 0 ∷ 0 ∷ 0 ∷ 0 ∷ 0 ∷ 0 ∷ 0 ∷ 0 ∷ 0 ∷ 0 ∷ 0 ∷ 0 ∷ 0 ∷ 0 ∷ 0 ∷ 0 ∷ 0 ∷ 0 ∷ 0 ∷ 0 ∷ 0 ∷ 0 ∷ 7 ∷ 0 ∷ 0 ∷
    0 ∷ 0 ∷ 0 ∷ 0 ∷ 0x80 ∷ 0x90 ∷ 0x20 ∷ 0 ∷ 0 ∷ 0 ∷ 0 ∷ 0 ∷ 0 ∷ 0 ∷ 0 ∷ 0 ∷ 0 ∷ 0 ∷ 0 ∷ 0 ∷ 0 ∷ 0x98 ∷
    0x20 ∷ 0 ∷ 0 ∷ 0 ∷ 0 ∷ 0 ∷ 0 ∷ 0 ∷ 0 ∷ 0 ∷ 0 ∷ 0 ∷ 0 ∷ 0 ∷ 0 ∷ 7 ∷ 0 ∷ 0 ∷ 0 ∷ 0 ∷ 0 ∷ 0 ∷ 0x80 ∷
    0x90 ∷ 0x20 ∷ 0 ∷ 0 ∷ 0 ∷ 0 ∷ 0 ∷ 0 ∷ 0 ∷ 0 ∷ 0 ∷ 0 ∷ 0 ∷ 0 ∷ 0 ∷ 0 ∷ 0x98 ∷ 0x20 ∷ 0 ∷ 0 ∷ 0 ∷ 0 ∷ 0 ∷
    0 ∷ 0 ∷ 0 ∷ 0 ∷ 0 ∷ 0 ∷ 0 ∷ 0 ∷ 0 ∷ 5 ∷ 0 ∷ 0x7A ∷ 0x65 ∷ 0x74 ∷ 0x61 ∷ 0 ∷ 0 ∷ 2 ∷ 1 ∷ 0x67 ∷ 0x65 ∷
    0x65 ∷ 0 ∷ 0x62 ∷ 0x65 ∷ 0x74 ∷ 0x61 ∷ 0x2E ∷ 0x64 ∷ 0x6C ∷ 0x6C ∷ 0 ∷ 0x61 ∷ 0x6C ∷ 0x70 ∷ 0x68 ∷
    0x61 ∷ 0x2E ∷ 0x64 ∷ 0x6C ∷ 0x6C ∷ 0 ∷ []

-- on I386 a leading `_` is no part of the name that is asked for
abbrev pub by_name : MachineType → ℕ
by_name I386 = 2
by_name ARMNT = 1
by_name AMD64 = 1
by_name ARM64 = 1

abbrev pub short_on : MachineType → List ℕ → List ℕ → ℕ → ℕ → ShortImport
short_on machine dll name ordinal name_type = record {
  version = 0;
  machine = machine_number machine;
  time = 0;
  ordinal = ordinal;
  import_type = import_code;
  name_type = name_type;
  symbol = symbol_on machine name;
  dll = dll;
}

abbrev pub mid_on : MachineType → ShortImport
mid_on machine = short_on machine (codes "beta.dll") (codes "mid") 7 0

abbrev pub gee_on : MachineType → ShortImport
gee_on machine = short_on machine (codes "alpha.dll") (codes "gee") 258 (by_name machine)

abbrev pub zeta_on : MachineType → ShortImport
zeta_on machine = short_on machine (codes "beta.dll") (codes "zeta") 5 (by_name machine)

-- as lld took them, the last one in front
abbrev pub shorts_on : MachineType → List ShortImport
shorts_on machine = mid_on machine ∷ gee_on machine ∷ zeta_on machine ∷ []

-- The section `.rdata`, from 0x2000 on; ARM64's has the same bytes as AMD64's.
abbrev pub tables_on : MachineType → List ℕ
tables_on I386 =
    0x3C ∷ 0x20 ∷ 0 ∷ 0 ∷ 0 ∷ 0 ∷ 0 ∷ 0 ∷ 0 ∷ 0 ∷ 0 ∷ 0 ∷ 0x72 ∷ 0x20 ∷ 0 ∷ 0 ∷ 0x50 ∷ 0x20 ∷ 0 ∷ 0 ∷ 0x48 ∷
    0x20 ∷ 0 ∷ 0 ∷ 0 ∷ 0 ∷ 0 ∷ 0 ∷ 0 ∷ 0 ∷ 0 ∷ 0 ∷ 0x7B ∷ 0x20 ∷ 0 ∷ 0 ∷ 0x5C ∷ 0x20 ∷ 0 ∷ 0 ∷ 0 ∷ 0 ∷ 0 ∷ 0 ∷
    0 ∷ 0 ∷ 0 ∷ 0 ∷ 0 ∷ 0 ∷ 0 ∷ 0 ∷ 0 ∷ 0 ∷ 0 ∷ 0 ∷ 0 ∷ 0 ∷ 0 ∷ 0 ∷ 7 ∷ 0 ∷ 0 ∷ 0x80 ∷ 0x64 ∷ 0x20 ∷ 0 ∷ 0 ∷ 0 ∷
    0 ∷ 0 ∷ 0 ∷ 0x6C ∷ 0x20 ∷ 0 ∷ 0 ∷ 0 ∷ 0 ∷ 0 ∷ 0 ∷ 7 ∷ 0 ∷ 0 ∷ 0x80 ∷ 0x64 ∷ 0x20 ∷ 0 ∷ 0 ∷ 0 ∷ 0 ∷ 0 ∷ 0 ∷
    0x6C ∷ 0x20 ∷ 0 ∷ 0 ∷ 0 ∷ 0 ∷ 0 ∷ 0 ∷ 5 ∷ 0 ∷ 0x7A ∷ 0x65 ∷ 0x74 ∷ 0x61 ∷ 0 ∷ 0 ∷ 2 ∷ 1 ∷ 0x67 ∷ 0x65 ∷
    0x65 ∷ 0 ∷ 0x62 ∷ 0x65 ∷ 0x74 ∷ 0x61 ∷ 0x2E ∷ 0x64 ∷ 0x6C ∷ 0x6C ∷ 0 ∷ 0x61 ∷ 0x6C ∷ 0x70 ∷ 0x68 ∷ 0x61 ∷
    0x2E ∷ 0x64 ∷ 0x6C ∷ 0x6C ∷ 0 ∷ []
tables_on ARMNT = []
tables_on AMD64 = written_by_lld
tables_on ARM64 = written_by_lld

-- where the address tables, the lookup tables, the hints and names and the names of DLLs are
abbrev pub addresses_on : MachineType → ℕ
addresses_on I386 = 0x2050
addresses_on ARMNT = 0
addresses_on AMD64 = 0x2068
addresses_on ARM64 = 0x2068

-- The code of the object. I386: `call [__imp__zeta]`, `mov eax, [__imp__gee]`, `call _mid`, `ret`;
-- AMD64: the same of `__imp_zeta`, `__imp_gee`, into `rax`, and `mid`; ARM64: `adrp x8`, `ldr x8,
-- [x8]`, `blr x8` for `__imp_zeta`, `adrp x9`, `ldr x10, [x9]` for `__imp_gee`, `bl mid`, `ret`.
abbrev pub object_code : MachineType → List ℕ
object_code I386 =
    0xFF ∷ 0x15 ∷ 0 ∷ 0 ∷ 0 ∷ 0 ∷ 0xA1 ∷ 0 ∷ 0 ∷ 0 ∷ 0 ∷ 0xE8 ∷ 0 ∷ 0 ∷ 0 ∷ 0 ∷ 0xC3 ∷ []
object_code ARMNT = []
object_code AMD64 =
    0xFF ∷ 0x15 ∷ 0 ∷ 0 ∷ 0 ∷ 0 ∷ 0x48 ∷ 0x8B ∷ 5 ∷ 0 ∷ 0 ∷ 0 ∷ 0 ∷ 0xE8 ∷ 0 ∷ 0 ∷ 0 ∷ 0 ∷ 0xC3 ∷ []
object_code ARM64 =
    8 ∷ 0 ∷ 0 ∷ 0x90 ∷ 8 ∷ 1 ∷ 0x40 ∷ 0xF9 ∷ 0 ∷ 1 ∷ 0x3F ∷ 0xD6 ∷ 9 ∷ 0 ∷ 0 ∷ 0x90 ∷ 0x2A ∷ 1 ∷ 0x40 ∷ 0xF9
    ∷ 0 ∷ 0 ∷ 0 ∷ 0x94 ∷ 0xC0 ∷ 3 ∷ 0x5F ∷ 0xD6 ∷ []

abbrev pub object_relocations : MachineType → List Relocation
object_relocations I386 =
    record { offset = 2; symbol = 1; kind = i386_dir32 }
    ∷ record { offset = 7; symbol = 2; kind = i386_dir32 }
    ∷ record { offset = 12; symbol = 3; kind = i386_rel32 }
    ∷ []
object_relocations ARMNT = []
object_relocations AMD64 =
    record { offset = 2; symbol = 1; kind = amd64_rel32 }
    ∷ record { offset = 9; symbol = 2; kind = amd64_rel32 }
    ∷ record { offset = 14; symbol = 3; kind = amd64_rel32 }
    ∷ []
object_relocations ARM64 =
    record { offset = 0; symbol = 1; kind = arm64_pagebase_rel21 }
    ∷ record { offset = 4; symbol = 1; kind = arm64_pageoffset_12l }
    ∷ record { offset = 12; symbol = 2; kind = arm64_pagebase_rel21 }
    ∷ record { offset = 16; symbol = 2; kind = arm64_pageoffset_12l }
    ∷ record { offset = 20; symbol = 3; kind = arm64_branch26 }
    ∷ []

-- and after the link, from 0x1000 on
abbrev pub linked_code : MachineType → List ℕ
linked_code I386 =
    0xFF ∷ 0x15 ∷ 0x54 ∷ 0x20 ∷ 0x40 ∷ 0 ∷ 0xA1 ∷ 0x5C ∷ 0x20 ∷ 0x40 ∷ 0 ∷ 0xE8 ∷ 1 ∷ 0 ∷ 0 ∷ 0 ∷ 0xC3 ∷ []
linked_code ARMNT = []
linked_code AMD64 =
    0xFF ∷ 0x15 ∷ 0x6A ∷ 0x10 ∷ 0 ∷ 0 ∷ 0x48 ∷ 0x8B ∷ 5 ∷ 0x73 ∷ 0x10 ∷ 0 ∷ 0 ∷ 0xE8 ∷ 0x0E ∷ 0 ∷ 0 ∷ 0 ∷ 0xC3 ∷ []
linked_code ARM64 =
    8 ∷ 0 ∷ 0 ∷ 0xB0 ∷ 8 ∷ 0x39 ∷ 0x40 ∷ 0xF9 ∷ 0 ∷ 1 ∷ 0x3F ∷ 0xD6 ∷ 9 ∷ 0 ∷ 0 ∷ 0xB0 ∷ 0x2A ∷ 0x41 ∷ 0x40 ∷ 0xF9
    ∷ 2 ∷ 0 ∷ 0 ∷ 0x94 ∷ 0xC0 ∷ 3 ∷ 0x5F ∷ 0xD6 ∷ []

-- the thunk of `mid`, and its address
abbrev pub linked_thunk : MachineType → List ℕ
linked_thunk I386 = 0xFF ∷ 0x25 ∷ 0x50 ∷ 0x20 ∷ 0x40 ∷ 0 ∷ []
linked_thunk ARMNT = []
linked_thunk AMD64 = 0xFF ∷ 0x25 ∷ 0x42 ∷ 0x10 ∷ 0 ∷ 0 ∷ []
linked_thunk ARM64 = 0x10 ∷ 0 ∷ 0 ∷ 0xB0 ∷ 0x10 ∷ 0x36 ∷ 0x40 ∷ 0xF9 ∷ 0 ∷ 2 ∷ 0x1F ∷ 0xD6 ∷ []

abbrev pub thunk_address : MachineType → ℕ
thunk_address I386 = 0x1011
thunk_address ARMNT = 0
thunk_address AMD64 = 0x1020
thunk_address ARM64 = 0x101C

abbrev pub object_section : MachineType → ObjectSection
object_section machine =
    section text_name (cnt_code + align_16bytes + mem_execute_read) (object_code machine)
    (object_relocations machine)

abbrev pub calling_object : MachineType → Object
calling_object machine = object_with (machine_number machine) (object_section machine ∷ []) (
    symbol_of_class (symbol_on machine (codes "main")) 1 class_external
    ∷ symbol_of_class (imp_symbol (symbol_on machine (codes "zeta"))) 0 class_external
    ∷ symbol_of_class (imp_symbol (symbol_on machine (codes "gee"))) 0 class_external
    ∷ symbol_of_class (symbol_on machine (codes "mid")) 0 class_external
    ∷ [])

abbrev pub placed_object : MachineType → Placed
placed_object machine =
    record { object = calling_object machine; section_addresses = Unplaced ∷ [] }

-- what is linked: the object, lld's tables, the thunk
abbrev pub lld_linked_on : MachineType → List Placed
lld_linked_on machine =
    placed_object machine
    ∷ placed_by_lld machine (addresses_on machine) (shorts_on machine)
    ∷ placed_thunk machine (mid_on machine)
    ∷ []

abbrev pub lld_image_on : MachineType → List Range
lld_image_on machine = record { start = 0x2000; bytes = tables_on machine } ∷ []

abbrev pub code_of_object : MachineType → LinkedCode
code_of_object machine = record {
  from = placed_object machine;
  number = 1;
  code = object_section machine;
  position = 0x1000;
  bytes = linked_code machine;
}

abbrev pub code_of_thunk : MachineType → LinkedCode
code_of_thunk machine = record {
  from = placed_thunk machine (mid_on machine);
  number = 1;
  code = thunk_section machine;
  position = thunk_address machine;
  bytes = linked_thunk machine;
}

-- a symbol's address: in the tables of what is linked, or else, by its name, outside of them
abbrev pub or_thunk : ℕ → Option ℕ → ℕ
or_thunk thunk None = thunk
or_thunk thunk (Some address) = address

abbrev pub taken_address : (List ℕ → ℕ) → List Placed → Placed → Option Entry → ℕ
taken_address outside linked p None = 0
taken_address outside linked p (Some (Auxiliary bytes)) = 0
taken_address outside linked p (Some (ASymbol s)) =
    or_thunk (outside s.name) (symbol_address linked p (ASymbol s))
