-- Programs of libraries of GNU dlltool 2.40 and of ones made here, by the parts that they are of:
-- one of kernel32.dll and zoo.dll that GNU ld 2.40 and ld.lld 19.1.7 linked on AMD64 and on I386,
-- whose files are here byte by byte.
use Rattle.std.specs.Prelude.{Bool, List, None, Option, Some, [], bytes_eq, codes, drop, false}
use Rattle.std.specs.Prelude.{if◌then◌else◌, length, map, slice_get, take, true, ℕ, ◌++◌, ◌-◌, ◌∷◌}
use Rattle.std.specs.Prelude.{◌≡◌, ◌+◌}
use Rattle.std.specs.List.{AllByRecursion, filter_map}
use Rattle.implib.specs.declared.machine.MachineType.{MachineType}
use Rattle.implib.specs.declared.machine.MachineType.TheVariants.{AMD64, I386}
use Rattle.implib.specs.Formats.Object.{Object, ObjectSection, object_in}
use Rattle.implib.specs.Import.{Ask, Name}
use Rattle.implib.specs.Link.Image.{Range, image_of}
use Rattle.implib.specs.Link.LinkedMembers.{LinkInput}
use Rattle.implib.specs.Link.Placement.{Bases, Placed, placed_from, Unplaced}
use Rattle.implib.specs.Members.Gnu.{section, text_name}
use Rattle.implib.specs.Worked.Members.{of_dll}
use Rattle.implib.specs.Worked.Statements.{plain_export}
use Rattle.implib_link.specs.Gnu.Fields.{LinkedCode, ranges_of_codes, HasInstruction}
use Rattle.implib_link.specs.Gnu.Fields.{InstructionArrives, AreLinkedBeside, AllLead, HasBranch}
use Rattle.implib_link.specs.Gnu.Moves.{AreInMemory}
use Rattle.implib_link.specs.Flavors.Program.{null_descriptor}
use Rattle.implib_link.specs.Gnu.Writing.{ReadsAndWrites}
use Rattle.implib_link.specs.Parts.{IsPart, IsProgramOfParts, Part, older_part_of, part_of}
use Rattle.implib_link.specs.Tables.{AreSteady, AreTables, Table, TableEntry, Block}
use Rattle.implib_link.specs.Tables.{imported_by_table, packed_tables}
use Rattle.implib_link_instances.specs.Worked.Programs.{taken_address, chosen_input, input_objects}
use Rattle.implib_link_instances.specs.Worked.Programs.{short_on, object_with, symbol_of_class}
use Rattle.implib.specs.Definition.{DefinitionView, ExportView}
use Rattle.implib.specs.Members.MemberSpec.{member_of}
use Rattle.implib.specs.Members.OlderSymbols.{AreOlderMembersOf, older_specs}
use Rattle.implib.specs.Renaming.{renamed}
use Rattle.implib.specs.Formats.Constants.{align_16bytes, amd64_rel32, class_external, cnt_code}
use Rattle.implib.specs.Formats.Constants.{mem_execute_read}
use Rattle.implib.specs.Formats.ShortImport.{ShortImport}
use Rattle.implib.specs.Machine.{machine_number}
use Rattle.implib_link.specs.Flavors.LldImports.{placed_by_lld, ArePiecesAt, built_bytes}
use Rattle.implib_link.specs.Flavors.LldImports.{BranchArrivesByThunk, placed_thunk, thunk_section}

-- the objects in some bytes
abbrev pub objects_of : List (List ℕ) → List Object
objects_of files = filter_map object_in files

-- dlltool's files for kernel32.dll on AMD64, head, export and tail; and an object of GNU C, which
-- calls through entries and by a bare name
abbrev pub kernel_head_bytes : List ℕ
kernel_head_bytes =
    0x64 ∷ 0x86 ∷ 6 ∷ 0 ∷ 0 ∷ 0 ∷ 0 ∷ 0 ∷ 0x36 ∷ 1 ∷ 0 ∷ 0 ∷ 0x10 ∷ 0 ∷ 0 ∷ 0 ∷ 0 ∷ 0 ∷ 4 ∷ 0 ∷ 0x2E ∷ 0x74 ∷ 0x65 ∷
    0x78 ∷ 0x74 ∷ 0 ∷ 0 ∷ 0 ∷ 0 ∷ 0 ∷ 0 ∷ 0 ∷ 0 ∷ 0 ∷ 0 ∷ 0 ∷ 0 ∷ 0 ∷ 0 ∷ 0 ∷ 0 ∷ 0 ∷ 0 ∷ 0 ∷ 0 ∷ 0 ∷ 0 ∷ 0 ∷ 0 ∷ 0 ∷
    0 ∷ 0 ∷ 0 ∷ 0 ∷ 0 ∷ 0 ∷ 0x20 ∷ 0 ∷ 0x50 ∷ 0x60 ∷ 0x2E ∷ 0x64 ∷ 0x61 ∷ 0x74 ∷ 0x61 ∷ 0 ∷ 0 ∷ 0 ∷ 0 ∷ 0 ∷ 0 ∷ 0 ∷
    0 ∷ 0 ∷ 0 ∷ 0 ∷ 0 ∷ 0 ∷ 0 ∷ 0 ∷ 0 ∷ 0 ∷ 0 ∷ 0 ∷ 0 ∷ 0 ∷ 0 ∷ 0 ∷ 0 ∷ 0 ∷ 0 ∷ 0 ∷ 0 ∷ 0 ∷ 0 ∷ 0 ∷ 0x40 ∷ 0 ∷ 0x50 ∷
    0xC0 ∷ 0x2E ∷ 0x62 ∷ 0x73 ∷ 0x73 ∷ 0 ∷ 0 ∷ 0 ∷ 0 ∷ 0 ∷ 0 ∷ 0 ∷ 0 ∷ 0 ∷ 0 ∷ 0 ∷ 0 ∷ 0 ∷ 0 ∷ 0 ∷ 0 ∷ 0 ∷ 0 ∷ 0 ∷ 0 ∷
    0 ∷ 0 ∷ 0 ∷ 0 ∷ 0 ∷ 0 ∷ 0 ∷ 0 ∷ 0 ∷ 0 ∷ 0 ∷ 0 ∷ 0x80 ∷ 0 ∷ 0x50 ∷ 0xC0 ∷ 0x2E ∷ 0x69 ∷ 0x64 ∷ 0x61 ∷ 0x74 ∷ 0x61 ∷
    0x24 ∷ 0x32 ∷ 0 ∷ 0 ∷ 0 ∷ 0 ∷ 0 ∷ 0 ∷ 0 ∷ 0 ∷ 0x14 ∷ 0 ∷ 0 ∷ 0 ∷ 4 ∷ 1 ∷ 0 ∷ 0 ∷ 0x18 ∷ 1 ∷ 0 ∷ 0 ∷ 0 ∷ 0 ∷ 0 ∷
    0 ∷ 3 ∷ 0 ∷ 0 ∷ 0 ∷ 0x40 ∷ 0 ∷ 0x30 ∷ 0xC0 ∷ 0x2E ∷ 0x69 ∷ 0x64 ∷ 0x61 ∷ 0x74 ∷ 0x61 ∷ 0x24 ∷ 0x35 ∷ 0 ∷ 0 ∷ 0 ∷
    0 ∷ 0 ∷ 0 ∷ 0 ∷ 0 ∷ 0 ∷ 0 ∷ 0 ∷ 0 ∷ 0 ∷ 0 ∷ 0 ∷ 0 ∷ 0 ∷ 0 ∷ 0 ∷ 0 ∷ 0 ∷ 0 ∷ 0 ∷ 0 ∷ 0 ∷ 0 ∷ 0 ∷ 0 ∷ 0x40 ∷ 0 ∷
    0x30 ∷ 0xC0 ∷ 0x2E ∷ 0x69 ∷ 0x64 ∷ 0x61 ∷ 0x74 ∷ 0x61 ∷ 0x24 ∷ 0x34 ∷ 0 ∷ 0 ∷ 0 ∷ 0 ∷ 0 ∷ 0 ∷ 0 ∷ 0 ∷ 0 ∷ 0 ∷ 0 ∷
    0 ∷ 0 ∷ 0 ∷ 0 ∷ 0 ∷ 0 ∷ 0 ∷ 0 ∷ 0 ∷ 0 ∷ 0 ∷ 0 ∷ 0 ∷ 0 ∷ 0 ∷ 0 ∷ 0 ∷ 0x40 ∷ 0 ∷ 0x30 ∷ 0xC0 ∷ 0 ∷ 0 ∷ 0 ∷ 0 ∷ 0 ∷
    0 ∷ 0 ∷ 0 ∷ 0 ∷ 0 ∷ 0 ∷ 0 ∷ 0 ∷ 0 ∷ 0 ∷ 0 ∷ 0 ∷ 0 ∷ 0 ∷ 0 ∷ 0 ∷ 0 ∷ 0 ∷ 0 ∷ 0x0C ∷ 0 ∷ 0 ∷ 0 ∷ 3 ∷ 0 ∷ 0x0C ∷ 0 ∷
    0 ∷ 0 ∷ 0x0F ∷ 0 ∷ 0 ∷ 0 ∷ 3 ∷ 0 ∷ 0x10 ∷ 0 ∷ 0 ∷ 0 ∷ 0x0D ∷ 0 ∷ 0 ∷ 0 ∷ 3 ∷ 0 ∷ 0x2E ∷ 0x66 ∷ 0x69 ∷ 0x6C ∷
    0x65 ∷ 0 ∷ 0 ∷ 0 ∷ 0 ∷ 0 ∷ 0 ∷ 0 ∷ 0xFE ∷ 0xFF ∷ 0 ∷ 0 ∷ 0x67 ∷ 1 ∷ 0x66 ∷ 0x61 ∷ 0x6B ∷ 0x65 ∷ 0 ∷ 0 ∷ 0 ∷ 0 ∷
    0 ∷ 0 ∷ 0 ∷ 0 ∷ 0 ∷ 0 ∷ 0 ∷ 0 ∷ 0 ∷ 0 ∷ 0x68 ∷ 0x6E ∷ 0x61 ∷ 0x6D ∷ 0x65 ∷ 0 ∷ 0 ∷ 0 ∷ 0 ∷ 0 ∷ 0 ∷ 0 ∷ 6 ∷ 0 ∷ 0 ∷
    0 ∷ 3 ∷ 0 ∷ 0x66 ∷ 0x74 ∷ 0x68 ∷ 0x75 ∷ 0x6E ∷ 0x6B ∷ 0 ∷ 0 ∷ 0 ∷ 0 ∷ 0 ∷ 0 ∷ 5 ∷ 0 ∷ 0 ∷ 0 ∷ 3 ∷ 0 ∷ 0x2E ∷
    0x74 ∷ 0x65 ∷ 0x78 ∷ 0x74 ∷ 0 ∷ 0 ∷ 0 ∷ 0 ∷ 0 ∷ 0 ∷ 0 ∷ 1 ∷ 0 ∷ 0 ∷ 0 ∷ 3 ∷ 1 ∷ 0 ∷ 0 ∷ 0 ∷ 0 ∷ 0 ∷ 0 ∷ 0 ∷ 0 ∷
    0 ∷ 0 ∷ 0 ∷ 0 ∷ 0 ∷ 0 ∷ 0 ∷ 0 ∷ 0 ∷ 0 ∷ 0x2E ∷ 0x64 ∷ 0x61 ∷ 0x74 ∷ 0x61 ∷ 0 ∷ 0 ∷ 0 ∷ 0 ∷ 0 ∷ 0 ∷ 0 ∷ 2 ∷ 0 ∷ 0 ∷
    0 ∷ 3 ∷ 1 ∷ 0 ∷ 0 ∷ 0 ∷ 0 ∷ 0 ∷ 0 ∷ 0 ∷ 0 ∷ 0 ∷ 0 ∷ 0 ∷ 0 ∷ 0 ∷ 0 ∷ 0 ∷ 0 ∷ 0 ∷ 0 ∷ 0x2E ∷ 0x62 ∷ 0x73 ∷ 0x73 ∷
    0 ∷ 0 ∷ 0 ∷ 0 ∷ 0 ∷ 0 ∷ 0 ∷ 0 ∷ 3 ∷ 0 ∷ 0 ∷ 0 ∷ 3 ∷ 1 ∷ 0 ∷ 0 ∷ 0 ∷ 0 ∷ 0 ∷ 0 ∷ 0 ∷ 0 ∷ 0 ∷ 0 ∷ 0 ∷ 0 ∷ 0 ∷ 0 ∷
    0 ∷ 0 ∷ 0 ∷ 0 ∷ 0x2E ∷ 0x69 ∷ 0x64 ∷ 0x61 ∷ 0x74 ∷ 0x61 ∷ 0x24 ∷ 0x32 ∷ 0 ∷ 0 ∷ 0 ∷ 0 ∷ 4 ∷ 0 ∷ 0 ∷ 0 ∷ 3 ∷ 1 ∷
    0x14 ∷ 0 ∷ 0 ∷ 0 ∷ 3 ∷ 0 ∷ 0 ∷ 0 ∷ 0 ∷ 0 ∷ 0 ∷ 0 ∷ 0 ∷ 0 ∷ 0 ∷ 0 ∷ 0 ∷ 0 ∷ 0x2E ∷ 0x69 ∷ 0x64 ∷ 0x61 ∷ 0x74 ∷
    0x61 ∷ 0x24 ∷ 0x34 ∷ 0 ∷ 0 ∷ 0 ∷ 0 ∷ 6 ∷ 0 ∷ 0 ∷ 0 ∷ 3 ∷ 0 ∷ 0x2E ∷ 0x69 ∷ 0x64 ∷ 0x61 ∷ 0x74 ∷ 0x61 ∷ 0x24 ∷
    0x35 ∷ 0 ∷ 0 ∷ 0 ∷ 0 ∷ 5 ∷ 0 ∷ 0 ∷ 0 ∷ 3 ∷ 0 ∷ 0 ∷ 0 ∷ 0 ∷ 0 ∷ 4 ∷ 0 ∷ 0 ∷ 0 ∷ 0 ∷ 0 ∷ 0 ∷ 0 ∷ 4 ∷ 0 ∷ 0 ∷ 0 ∷ 2 ∷
    0 ∷ 0 ∷ 0 ∷ 0 ∷ 0 ∷ 0x1B ∷ 0 ∷ 0 ∷ 0 ∷ 0 ∷ 0 ∷ 0 ∷ 0 ∷ 0 ∷ 0 ∷ 0 ∷ 0 ∷ 2 ∷ 0 ∷ 0x34 ∷ 0 ∷ 0 ∷ 0 ∷ 0x5F ∷ 0x68 ∷
    0x65 ∷ 0x61 ∷ 0x64 ∷ 0x5F ∷ 0x6B ∷ 0x65 ∷ 0x72 ∷ 0x6E ∷ 0x65 ∷ 0x6C ∷ 0x33 ∷ 0x32 ∷ 0x5F ∷ 0x61 ∷ 0x6D ∷ 0x64 ∷
    0x36 ∷ 0x34 ∷ 0x5F ∷ 0x61 ∷ 0 ∷ 0x5F ∷ 0x5F ∷ 0x6B ∷ 0x65 ∷ 0x72 ∷ 0x6E ∷ 0x65 ∷ 0x6C ∷ 0x33 ∷ 0x32 ∷ 0x5F ∷
    0x61 ∷ 0x6D ∷ 0x64 ∷ 0x36 ∷ 0x34 ∷ 0x5F ∷ 0x61 ∷ 0x5F ∷ 0x69 ∷ 0x6E ∷ 0x61 ∷ 0x6D ∷ 0x65 ∷ 0 ∷ []

abbrev pub exit_bytes : List ℕ
exit_bytes =
    0x64 ∷ 0x86 ∷ 7 ∷ 0 ∷ 0 ∷ 0 ∷ 0 ∷ 0 ∷ 0x80 ∷ 1 ∷ 0 ∷ 0 ∷ 0x0A ∷ 0 ∷ 0 ∷ 0 ∷ 0 ∷ 0 ∷ 4 ∷ 0 ∷ 0x2E ∷ 0x74 ∷ 0x65 ∷
    0x78 ∷ 0x74 ∷ 0 ∷ 0 ∷ 0 ∷ 0 ∷ 0 ∷ 0 ∷ 0 ∷ 0 ∷ 0 ∷ 0 ∷ 0 ∷ 8 ∷ 0 ∷ 0 ∷ 0 ∷ 0x2C ∷ 1 ∷ 0 ∷ 0 ∷ 0x58 ∷ 1 ∷ 0 ∷ 0 ∷
    0 ∷ 0 ∷ 0 ∷ 0 ∷ 1 ∷ 0 ∷ 0 ∷ 0 ∷ 0x20 ∷ 0 ∷ 0x30 ∷ 0x60 ∷ 0x2E ∷ 0x64 ∷ 0x61 ∷ 0x74 ∷ 0x61 ∷ 0 ∷ 0 ∷ 0 ∷ 0 ∷ 0 ∷
    0 ∷ 0 ∷ 0 ∷ 0 ∷ 0 ∷ 0 ∷ 0 ∷ 0 ∷ 0 ∷ 0 ∷ 0 ∷ 0 ∷ 0 ∷ 0 ∷ 0 ∷ 0 ∷ 0 ∷ 0 ∷ 0 ∷ 0 ∷ 0 ∷ 0 ∷ 0 ∷ 0 ∷ 0 ∷ 0 ∷ 0x40 ∷ 0 ∷
    0x30 ∷ 0xC0 ∷ 0x2E ∷ 0x62 ∷ 0x73 ∷ 0x73 ∷ 0 ∷ 0 ∷ 0 ∷ 0 ∷ 0 ∷ 0 ∷ 0 ∷ 0 ∷ 0 ∷ 0 ∷ 0 ∷ 0 ∷ 0 ∷ 0 ∷ 0 ∷ 0 ∷ 0 ∷ 0 ∷
    0 ∷ 0 ∷ 0 ∷ 0 ∷ 0 ∷ 0 ∷ 0 ∷ 0 ∷ 0 ∷ 0 ∷ 0 ∷ 0 ∷ 0 ∷ 0 ∷ 0x80 ∷ 0 ∷ 0x30 ∷ 0xC0 ∷ 0x2E ∷ 0x69 ∷ 0x64 ∷ 0x61 ∷
    0x74 ∷ 0x61 ∷ 0x24 ∷ 0x37 ∷ 0 ∷ 0 ∷ 0 ∷ 0 ∷ 0 ∷ 0 ∷ 0 ∷ 0 ∷ 4 ∷ 0 ∷ 0 ∷ 0 ∷ 0x34 ∷ 1 ∷ 0 ∷ 0 ∷ 0x62 ∷ 1 ∷ 0 ∷ 0 ∷
    0 ∷ 0 ∷ 0 ∷ 0 ∷ 1 ∷ 0 ∷ 0 ∷ 0 ∷ 0 ∷ 0 ∷ 0x30 ∷ 0xC0 ∷ 0x2E ∷ 0x69 ∷ 0x64 ∷ 0x61 ∷ 0x74 ∷ 0x61 ∷ 0x24 ∷ 0x35 ∷ 0 ∷
    0 ∷ 0 ∷ 0 ∷ 0 ∷ 0 ∷ 0 ∷ 0 ∷ 8 ∷ 0 ∷ 0 ∷ 0 ∷ 0x38 ∷ 1 ∷ 0 ∷ 0 ∷ 0x6C ∷ 1 ∷ 0 ∷ 0 ∷ 0 ∷ 0 ∷ 0 ∷ 0 ∷ 1 ∷ 0 ∷ 0 ∷ 0 ∷
    0 ∷ 0 ∷ 0x30 ∷ 0xC0 ∷ 0x2E ∷ 0x69 ∷ 0x64 ∷ 0x61 ∷ 0x74 ∷ 0x61 ∷ 0x24 ∷ 0x34 ∷ 0 ∷ 0 ∷ 0 ∷ 0 ∷ 0 ∷ 0 ∷ 0 ∷ 0 ∷ 8 ∷
    0 ∷ 0 ∷ 0 ∷ 0x40 ∷ 1 ∷ 0 ∷ 0 ∷ 0x76 ∷ 1 ∷ 0 ∷ 0 ∷ 0 ∷ 0 ∷ 0 ∷ 0 ∷ 1 ∷ 0 ∷ 0 ∷ 0 ∷ 0 ∷ 0 ∷ 0x30 ∷ 0xC0 ∷ 0x2E ∷
    0x69 ∷ 0x64 ∷ 0x61 ∷ 0x74 ∷ 0x61 ∷ 0x24 ∷ 0x36 ∷ 0 ∷ 0 ∷ 0 ∷ 0 ∷ 0 ∷ 0 ∷ 0 ∷ 0 ∷ 0x0E ∷ 0 ∷ 0 ∷ 0 ∷ 0x48 ∷ 1 ∷ 0 ∷
    0 ∷ 0 ∷ 0 ∷ 0 ∷ 0 ∷ 0 ∷ 0 ∷ 0 ∷ 0 ∷ 0 ∷ 0 ∷ 0 ∷ 0 ∷ 0 ∷ 0 ∷ 0x20 ∷ 0xC0 ∷ 0xFF ∷ 0x25 ∷ 0 ∷ 0 ∷ 0 ∷ 0 ∷ 0x90 ∷
    0x90 ∷ 0 ∷ 0 ∷ 0 ∷ 0 ∷ 0 ∷ 0 ∷ 0 ∷ 0 ∷ 0 ∷ 0 ∷ 0 ∷ 0 ∷ 0 ∷ 0 ∷ 0 ∷ 0 ∷ 0 ∷ 0 ∷ 0 ∷ 0 ∷ 1 ∷ 0 ∷ 0x45 ∷ 0x78 ∷
    0x69 ∷ 0x74 ∷ 0x50 ∷ 0x72 ∷ 0x6F ∷ 0x63 ∷ 0x65 ∷ 0x73 ∷ 0x73 ∷ 0 ∷ 0 ∷ 0 ∷ 2 ∷ 0 ∷ 0 ∷ 0 ∷ 8 ∷ 0 ∷ 0 ∷ 0 ∷ 4 ∷ 0 ∷
    0 ∷ 0 ∷ 0 ∷ 0 ∷ 9 ∷ 0 ∷ 0 ∷ 0 ∷ 3 ∷ 0 ∷ 0 ∷ 0 ∷ 0 ∷ 0 ∷ 6 ∷ 0 ∷ 0 ∷ 0 ∷ 3 ∷ 0 ∷ 0 ∷ 0 ∷ 0 ∷ 0 ∷ 6 ∷ 0 ∷ 0 ∷ 0 ∷
    3 ∷ 0 ∷ 0x2E ∷ 0x74 ∷ 0x65 ∷ 0x78 ∷ 0x74 ∷ 0 ∷ 0 ∷ 0 ∷ 0 ∷ 0 ∷ 0 ∷ 0 ∷ 1 ∷ 0 ∷ 0 ∷ 0 ∷ 3 ∷ 0 ∷ 0x2E ∷ 0x64 ∷
    0x61 ∷ 0x74 ∷ 0x61 ∷ 0 ∷ 0 ∷ 0 ∷ 0 ∷ 0 ∷ 0 ∷ 0 ∷ 2 ∷ 0 ∷ 0 ∷ 0 ∷ 3 ∷ 0 ∷ 0x2E ∷ 0x62 ∷ 0x73 ∷ 0x73 ∷ 0 ∷ 0 ∷ 0 ∷
    0 ∷ 0 ∷ 0 ∷ 0 ∷ 0 ∷ 3 ∷ 0 ∷ 0 ∷ 0 ∷ 3 ∷ 0 ∷ 0x2E ∷ 0x69 ∷ 0x64 ∷ 0x61 ∷ 0x74 ∷ 0x61 ∷ 0x24 ∷ 0x37 ∷ 0 ∷ 0 ∷ 0 ∷
    0 ∷ 4 ∷ 0 ∷ 0 ∷ 0 ∷ 3 ∷ 0 ∷ 0x2E ∷ 0x69 ∷ 0x64 ∷ 0x61 ∷ 0x74 ∷ 0x61 ∷ 0x24 ∷ 0x35 ∷ 0 ∷ 0 ∷ 0 ∷ 0 ∷ 5 ∷ 0 ∷ 0 ∷
    0 ∷ 3 ∷ 0 ∷ 0x2E ∷ 0x69 ∷ 0x64 ∷ 0x61 ∷ 0x74 ∷ 0x61 ∷ 0x24 ∷ 0x34 ∷ 0 ∷ 0 ∷ 0 ∷ 0 ∷ 6 ∷ 0 ∷ 0 ∷ 0 ∷ 3 ∷ 0 ∷ 0x2E ∷
    0x69 ∷ 0x64 ∷ 0x61 ∷ 0x74 ∷ 0x61 ∷ 0x24 ∷ 0x36 ∷ 0 ∷ 0 ∷ 0 ∷ 0 ∷ 7 ∷ 0 ∷ 0 ∷ 0 ∷ 3 ∷ 0 ∷ 0 ∷ 0 ∷ 0 ∷ 0 ∷ 4 ∷ 0 ∷
    0 ∷ 0 ∷ 0 ∷ 0 ∷ 0 ∷ 0 ∷ 1 ∷ 0 ∷ 0 ∷ 0 ∷ 2 ∷ 0 ∷ 0 ∷ 0 ∷ 0 ∷ 0 ∷ 0x10 ∷ 0 ∷ 0 ∷ 0 ∷ 0 ∷ 0 ∷ 0 ∷ 0 ∷ 5 ∷ 0 ∷ 0 ∷ 0 ∷
    2 ∷ 0 ∷ 0 ∷ 0 ∷ 0 ∷ 0 ∷ 0x22 ∷ 0 ∷ 0 ∷ 0 ∷ 0 ∷ 0 ∷ 0 ∷ 0 ∷ 0 ∷ 0 ∷ 0 ∷ 0 ∷ 2 ∷ 0 ∷ 0x39 ∷ 0 ∷ 0 ∷ 0 ∷ 0x45 ∷
    0x78 ∷ 0x69 ∷ 0x74 ∷ 0x50 ∷ 0x72 ∷ 0x6F ∷ 0x63 ∷ 0x65 ∷ 0x73 ∷ 0x73 ∷ 0 ∷ 0x5F ∷ 0x5F ∷ 0x69 ∷ 0x6D ∷ 0x70 ∷
    0x5F ∷ 0x45 ∷ 0x78 ∷ 0x69 ∷ 0x74 ∷ 0x50 ∷ 0x72 ∷ 0x6F ∷ 0x63 ∷ 0x65 ∷ 0x73 ∷ 0x73 ∷ 0 ∷ 0x5F ∷ 0x68 ∷ 0x65 ∷
    0x61 ∷ 0x64 ∷ 0x5F ∷ 0x6B ∷ 0x65 ∷ 0x72 ∷ 0x6E ∷ 0x65 ∷ 0x6C ∷ 0x33 ∷ 0x32 ∷ 0x5F ∷ 0x61 ∷ 0x6D ∷ 0x64 ∷ 0x36 ∷
    0x34 ∷ 0x5F ∷ 0x61 ∷ 0 ∷ []

abbrev pub kernel_tail_bytes : List ℕ
kernel_tail_bytes =
    0x64 ∷ 0x86 ∷ 6 ∷ 0 ∷ 0 ∷ 0 ∷ 0 ∷ 0 ∷ 0x24 ∷ 1 ∷ 0 ∷ 0 ∷ 0x0F ∷ 0 ∷ 0 ∷ 0 ∷ 0 ∷ 0 ∷ 5 ∷ 0 ∷ 0x2E ∷ 0x74 ∷ 0x65 ∷
    0x78 ∷ 0x74 ∷ 0 ∷ 0 ∷ 0 ∷ 0 ∷ 0 ∷ 0 ∷ 0 ∷ 0 ∷ 0 ∷ 0 ∷ 0 ∷ 0 ∷ 0 ∷ 0 ∷ 0 ∷ 0 ∷ 0 ∷ 0 ∷ 0 ∷ 0 ∷ 0 ∷ 0 ∷ 0 ∷ 0 ∷ 0 ∷
    0 ∷ 0 ∷ 0 ∷ 0 ∷ 0 ∷ 0 ∷ 0x20 ∷ 0 ∷ 0x50 ∷ 0x60 ∷ 0x2E ∷ 0x64 ∷ 0x61 ∷ 0x74 ∷ 0x61 ∷ 0 ∷ 0 ∷ 0 ∷ 0 ∷ 0 ∷ 0 ∷ 0 ∷
    0 ∷ 0 ∷ 0 ∷ 0 ∷ 0 ∷ 0 ∷ 0 ∷ 0 ∷ 0 ∷ 0 ∷ 0 ∷ 0 ∷ 0 ∷ 0 ∷ 0 ∷ 0 ∷ 0 ∷ 0 ∷ 0 ∷ 0 ∷ 0 ∷ 0 ∷ 0 ∷ 0 ∷ 0x40 ∷ 0 ∷ 0x50 ∷
    0xC0 ∷ 0x2E ∷ 0x62 ∷ 0x73 ∷ 0x73 ∷ 0 ∷ 0 ∷ 0 ∷ 0 ∷ 0 ∷ 0 ∷ 0 ∷ 0 ∷ 0 ∷ 0 ∷ 0 ∷ 0 ∷ 0 ∷ 0 ∷ 0 ∷ 0 ∷ 0 ∷ 0 ∷ 0 ∷ 0 ∷
    0 ∷ 0 ∷ 0 ∷ 0 ∷ 0 ∷ 0 ∷ 0 ∷ 0 ∷ 0 ∷ 0 ∷ 0 ∷ 0 ∷ 0x80 ∷ 0 ∷ 0x50 ∷ 0xC0 ∷ 0x2E ∷ 0x69 ∷ 0x64 ∷ 0x61 ∷ 0x74 ∷ 0x61 ∷
    0x24 ∷ 0x34 ∷ 0 ∷ 0 ∷ 0 ∷ 0 ∷ 0 ∷ 0 ∷ 0 ∷ 0 ∷ 8 ∷ 0 ∷ 0 ∷ 0 ∷ 4 ∷ 1 ∷ 0 ∷ 0 ∷ 0 ∷ 0 ∷ 0 ∷ 0 ∷ 0 ∷ 0 ∷ 0 ∷ 0 ∷ 0 ∷
    0 ∷ 0 ∷ 0 ∷ 0x40 ∷ 0 ∷ 0x30 ∷ 0xC0 ∷ 0x2E ∷ 0x69 ∷ 0x64 ∷ 0x61 ∷ 0x74 ∷ 0x61 ∷ 0x24 ∷ 0x35 ∷ 0 ∷ 0 ∷ 0 ∷ 0 ∷ 0 ∷
    0 ∷ 0 ∷ 0 ∷ 8 ∷ 0 ∷ 0 ∷ 0 ∷ 0x0C ∷ 1 ∷ 0 ∷ 0 ∷ 0 ∷ 0 ∷ 0 ∷ 0 ∷ 0 ∷ 0 ∷ 0 ∷ 0 ∷ 0 ∷ 0 ∷ 0 ∷ 0 ∷ 0x40 ∷ 0 ∷ 0x30 ∷
    0xC0 ∷ 0x2E ∷ 0x69 ∷ 0x64 ∷ 0x61 ∷ 0x74 ∷ 0x61 ∷ 0x24 ∷ 0x37 ∷ 0 ∷ 0 ∷ 0 ∷ 0 ∷ 0 ∷ 0 ∷ 0 ∷ 0 ∷ 0x10 ∷ 0 ∷ 0 ∷ 0 ∷
    0x14 ∷ 1 ∷ 0 ∷ 0 ∷ 0 ∷ 0 ∷ 0 ∷ 0 ∷ 0 ∷ 0 ∷ 0 ∷ 0 ∷ 0 ∷ 0 ∷ 0 ∷ 0 ∷ 0x40 ∷ 0 ∷ 0x30 ∷ 0xC0 ∷ 0 ∷ 0 ∷ 0 ∷ 0 ∷ 0 ∷
    0 ∷ 0 ∷ 0 ∷ 0 ∷ 0 ∷ 0 ∷ 0 ∷ 0 ∷ 0 ∷ 0 ∷ 0 ∷ 0x6B ∷ 0x65 ∷ 0x72 ∷ 0x6E ∷ 0x65 ∷ 0x6C ∷ 0x33 ∷ 0x32 ∷ 0x2E ∷ 0x64 ∷
    0x6C ∷ 0x6C ∷ 0 ∷ 0 ∷ 0 ∷ 0 ∷ 0x2E ∷ 0x66 ∷ 0x69 ∷ 0x6C ∷ 0x65 ∷ 0 ∷ 0 ∷ 0 ∷ 0 ∷ 0 ∷ 0 ∷ 0 ∷ 0xFE ∷ 0xFF ∷ 0 ∷ 0 ∷
    0x67 ∷ 1 ∷ 0x66 ∷ 0x61 ∷ 0x6B ∷ 0x65 ∷ 0 ∷ 0 ∷ 0 ∷ 0 ∷ 0 ∷ 0 ∷ 0 ∷ 0 ∷ 0 ∷ 0 ∷ 0 ∷ 0 ∷ 0 ∷ 0 ∷ 0x2E ∷ 0x74 ∷
    0x65 ∷ 0x78 ∷ 0x74 ∷ 0 ∷ 0 ∷ 0 ∷ 0 ∷ 0 ∷ 0 ∷ 0 ∷ 1 ∷ 0 ∷ 0 ∷ 0 ∷ 3 ∷ 1 ∷ 0 ∷ 0 ∷ 0 ∷ 0 ∷ 0 ∷ 0 ∷ 0 ∷ 0 ∷ 0 ∷ 0 ∷
    0 ∷ 0 ∷ 0 ∷ 0 ∷ 0 ∷ 0 ∷ 0 ∷ 0 ∷ 0x2E ∷ 0x64 ∷ 0x61 ∷ 0x74 ∷ 0x61 ∷ 0 ∷ 0 ∷ 0 ∷ 0 ∷ 0 ∷ 0 ∷ 0 ∷ 2 ∷ 0 ∷ 0 ∷ 0 ∷ 3 ∷
    1 ∷ 0 ∷ 0 ∷ 0 ∷ 0 ∷ 0 ∷ 0 ∷ 0 ∷ 0 ∷ 0 ∷ 0 ∷ 0 ∷ 0 ∷ 0 ∷ 0 ∷ 0 ∷ 0 ∷ 0 ∷ 0 ∷ 0x2E ∷ 0x62 ∷ 0x73 ∷ 0x73 ∷ 0 ∷ 0 ∷
    0 ∷ 0 ∷ 0 ∷ 0 ∷ 0 ∷ 0 ∷ 3 ∷ 0 ∷ 0 ∷ 0 ∷ 3 ∷ 1 ∷ 0 ∷ 0 ∷ 0 ∷ 0 ∷ 0 ∷ 0 ∷ 0 ∷ 0 ∷ 0 ∷ 0 ∷ 0 ∷ 0 ∷ 0 ∷ 0 ∷ 0 ∷ 0 ∷
    0 ∷ 0 ∷ 0x2E ∷ 0x69 ∷ 0x64 ∷ 0x61 ∷ 0x74 ∷ 0x61 ∷ 0x24 ∷ 0x34 ∷ 0 ∷ 0 ∷ 0 ∷ 0 ∷ 4 ∷ 0 ∷ 0 ∷ 0 ∷ 3 ∷ 1 ∷ 8 ∷ 0 ∷
    0 ∷ 0 ∷ 0 ∷ 0 ∷ 0 ∷ 0 ∷ 0 ∷ 0 ∷ 0 ∷ 0 ∷ 0 ∷ 0 ∷ 0 ∷ 0 ∷ 0 ∷ 0 ∷ 0x2E ∷ 0x69 ∷ 0x64 ∷ 0x61 ∷ 0x74 ∷ 0x61 ∷ 0x24 ∷
    0x35 ∷ 0 ∷ 0 ∷ 0 ∷ 0 ∷ 5 ∷ 0 ∷ 0 ∷ 0 ∷ 3 ∷ 1 ∷ 8 ∷ 0 ∷ 0 ∷ 0 ∷ 0 ∷ 0 ∷ 0 ∷ 0 ∷ 0 ∷ 0 ∷ 0 ∷ 0 ∷ 0 ∷ 0 ∷ 0 ∷ 0 ∷ 0 ∷
    0 ∷ 0x2E ∷ 0x69 ∷ 0x64 ∷ 0x61 ∷ 0x74 ∷ 0x61 ∷ 0x24 ∷ 0x37 ∷ 0 ∷ 0 ∷ 0 ∷ 0 ∷ 6 ∷ 0 ∷ 0 ∷ 0 ∷ 3 ∷ 1 ∷ 0x0D ∷ 0 ∷ 0 ∷
    0 ∷ 0 ∷ 0 ∷ 0 ∷ 0 ∷ 0 ∷ 0 ∷ 0 ∷ 0 ∷ 0 ∷ 0 ∷ 0 ∷ 0 ∷ 0 ∷ 0 ∷ 0 ∷ 0 ∷ 0 ∷ 0 ∷ 4 ∷ 0 ∷ 0 ∷ 0 ∷ 0 ∷ 0 ∷ 0 ∷ 0 ∷ 6 ∷
    0 ∷ 0 ∷ 0 ∷ 2 ∷ 0 ∷ 0x1D ∷ 0 ∷ 0 ∷ 0 ∷ 0x5F ∷ 0x5F ∷ 0x6B ∷ 0x65 ∷ 0x72 ∷ 0x6E ∷ 0x65 ∷ 0x6C ∷ 0x33 ∷ 0x32 ∷
    0x5F ∷ 0x61 ∷ 0x6D ∷ 0x64 ∷ 0x36 ∷ 0x34 ∷ 0x5F ∷ 0x61 ∷ 0x5F ∷ 0x69 ∷ 0x6E ∷ 0x61 ∷ 0x6D ∷ 0x65 ∷ 0 ∷ []

abbrev pub start_bytes : List ℕ
start_bytes =
    0x64 ∷ 0x86 ∷ 3 ∷ 0 ∷ 0 ∷ 0 ∷ 0 ∷ 0 ∷ 0xFE ∷ 0 ∷ 0 ∷ 0 ∷ 0x0E ∷ 0 ∷ 0 ∷ 0 ∷ 0 ∷ 0 ∷ 4 ∷ 0 ∷ 0x2E ∷ 0x74 ∷ 0x65 ∷
    0x78 ∷ 0x74 ∷ 0 ∷ 0 ∷ 0 ∷ 0 ∷ 0 ∷ 0 ∷ 0 ∷ 0 ∷ 0 ∷ 0 ∷ 0 ∷ 0x30 ∷ 0 ∷ 0 ∷ 0 ∷ 0x8C ∷ 0 ∷ 0 ∷ 0 ∷ 0xCC ∷ 0 ∷ 0 ∷ 0 ∷
    0 ∷ 0 ∷ 0 ∷ 0 ∷ 4 ∷ 0 ∷ 0 ∷ 0 ∷ 0x20 ∷ 0 ∷ 0x50 ∷ 0x60 ∷ 0x2E ∷ 0x64 ∷ 0x61 ∷ 0x74 ∷ 0x61 ∷ 0 ∷ 0 ∷ 0 ∷ 0 ∷ 0 ∷
    0 ∷ 0 ∷ 0 ∷ 0 ∷ 0 ∷ 0 ∷ 0x10 ∷ 0 ∷ 0 ∷ 0 ∷ 0xBC ∷ 0 ∷ 0 ∷ 0 ∷ 0xF4 ∷ 0 ∷ 0 ∷ 0 ∷ 0 ∷ 0 ∷ 0 ∷ 0 ∷ 1 ∷ 0 ∷ 0 ∷ 0 ∷
    0x40 ∷ 0 ∷ 0x50 ∷ 0xC0 ∷ 0x2E ∷ 0x62 ∷ 0x73 ∷ 0x73 ∷ 0 ∷ 0 ∷ 0 ∷ 0 ∷ 0 ∷ 0 ∷ 0 ∷ 0 ∷ 0 ∷ 0 ∷ 0 ∷ 0 ∷ 0 ∷ 0 ∷ 0 ∷
    0 ∷ 0 ∷ 0 ∷ 0 ∷ 0 ∷ 0 ∷ 0 ∷ 0 ∷ 0 ∷ 0 ∷ 0 ∷ 0 ∷ 0 ∷ 0 ∷ 0 ∷ 0 ∷ 0 ∷ 0x80 ∷ 0 ∷ 0x50 ∷ 0xC0 ∷ 0x53 ∷ 0x48 ∷ 0x83 ∷
    0xEC ∷ 0x20 ∷ 0xFF ∷ 0x15 ∷ 0 ∷ 0 ∷ 0 ∷ 0 ∷ 0x89 ∷ 0xC3 ∷ 0xE8 ∷ 0 ∷ 0 ∷ 0 ∷ 0 ∷ 1 ∷ 0xC3 ∷ 0xFF ∷ 0x15 ∷ 0 ∷ 0 ∷
    0 ∷ 0 ∷ 0x48 ∷ 0x83 ∷ 0xC4 ∷ 0x20 ∷ 0x8D ∷ 0x0C ∷ 3 ∷ 0x5B ∷ 0xFF ∷ 0x25 ∷ 0 ∷ 0 ∷ 0 ∷ 0 ∷ 0x90 ∷ 0x90 ∷ 0x90 ∷
    0x90 ∷ 0x90 ∷ 0x90 ∷ 0x90 ∷ 0x90 ∷ 0 ∷ 0 ∷ 0 ∷ 0 ∷ 0 ∷ 0 ∷ 0 ∷ 0 ∷ 0 ∷ 0 ∷ 0 ∷ 0 ∷ 0 ∷ 0 ∷ 0 ∷ 0 ∷ 7 ∷ 0 ∷ 0 ∷ 0 ∷
    0x0B ∷ 0 ∷ 0 ∷ 0 ∷ 4 ∷ 0 ∷ 0x0E ∷ 0 ∷ 0 ∷ 0 ∷ 0x0D ∷ 0 ∷ 0 ∷ 0 ∷ 4 ∷ 0 ∷ 0x16 ∷ 0 ∷ 0 ∷ 0 ∷ 6 ∷ 0 ∷ 0 ∷ 0 ∷ 4 ∷
    0 ∷ 0x24 ∷ 0 ∷ 0 ∷ 0 ∷ 0x0C ∷ 0 ∷ 0 ∷ 0 ∷ 4 ∷ 0 ∷ 0 ∷ 0 ∷ 0 ∷ 0 ∷ 0x0D ∷ 0 ∷ 0 ∷ 0 ∷ 1 ∷ 0 ∷ 0x2E ∷ 0x66 ∷ 0x69 ∷
    0x6C ∷ 0x65 ∷ 0 ∷ 0 ∷ 0 ∷ 0 ∷ 0 ∷ 0 ∷ 0 ∷ 0xFE ∷ 0xFF ∷ 0 ∷ 0 ∷ 0x67 ∷ 1 ∷ 0x73 ∷ 0x74 ∷ 0x61 ∷ 0x72 ∷ 0x74 ∷
    0x2E ∷ 0x63 ∷ 0 ∷ 0 ∷ 0 ∷ 0 ∷ 0 ∷ 0 ∷ 0 ∷ 0 ∷ 0 ∷ 0 ∷ 0 ∷ 0x73 ∷ 0x74 ∷ 0x61 ∷ 0x72 ∷ 0x74 ∷ 0 ∷ 0 ∷ 0 ∷ 0 ∷ 0 ∷
    0 ∷ 0 ∷ 1 ∷ 0 ∷ 0x20 ∷ 0 ∷ 2 ∷ 1 ∷ 0 ∷ 0 ∷ 0 ∷ 0 ∷ 0 ∷ 0 ∷ 0 ∷ 0 ∷ 0 ∷ 0 ∷ 0 ∷ 0 ∷ 0 ∷ 0 ∷ 0 ∷ 0 ∷ 0 ∷ 0 ∷ 0x2E ∷
    0x74 ∷ 0x65 ∷ 0x78 ∷ 0x74 ∷ 0 ∷ 0 ∷ 0 ∷ 0 ∷ 0 ∷ 0 ∷ 0 ∷ 1 ∷ 0 ∷ 0 ∷ 0 ∷ 3 ∷ 1 ∷ 0x28 ∷ 0 ∷ 0 ∷ 0 ∷ 4 ∷ 0 ∷ 0 ∷ 0 ∷
    0 ∷ 0 ∷ 0 ∷ 0 ∷ 0 ∷ 0 ∷ 0 ∷ 0 ∷ 0 ∷ 0 ∷ 0x2E ∷ 0x64 ∷ 0x61 ∷ 0x74 ∷ 0x61 ∷ 0 ∷ 0 ∷ 0 ∷ 0 ∷ 0 ∷ 0 ∷ 0 ∷ 2 ∷ 0 ∷ 0 ∷
    0 ∷ 3 ∷ 1 ∷ 8 ∷ 0 ∷ 0 ∷ 0 ∷ 1 ∷ 0 ∷ 0 ∷ 0 ∷ 0 ∷ 0 ∷ 0 ∷ 0 ∷ 0 ∷ 0 ∷ 0 ∷ 0 ∷ 0 ∷ 0 ∷ 0x2E ∷ 0x62 ∷ 0x73 ∷ 0x73 ∷
    0 ∷ 0 ∷ 0 ∷ 0 ∷ 0 ∷ 0 ∷ 0 ∷ 0 ∷ 3 ∷ 0 ∷ 0 ∷ 0 ∷ 3 ∷ 1 ∷ 0 ∷ 0 ∷ 0 ∷ 0 ∷ 0 ∷ 0 ∷ 0 ∷ 0 ∷ 0 ∷ 0 ∷ 0 ∷ 0 ∷ 0 ∷ 0 ∷
    0 ∷ 0 ∷ 0 ∷ 0 ∷ 0x70 ∷ 0x6F ∷ 0x69 ∷ 0x6E ∷ 0x74 ∷ 0x65 ∷ 0x72 ∷ 0 ∷ 0 ∷ 0 ∷ 0 ∷ 0 ∷ 2 ∷ 0 ∷ 0 ∷ 0 ∷ 2 ∷ 0 ∷ 0 ∷
    0 ∷ 0 ∷ 0 ∷ 4 ∷ 0 ∷ 0 ∷ 0 ∷ 0 ∷ 0 ∷ 0 ∷ 0 ∷ 0 ∷ 0 ∷ 0 ∷ 0 ∷ 2 ∷ 0 ∷ 0 ∷ 0 ∷ 0 ∷ 0 ∷ 0x13 ∷ 0 ∷ 0 ∷ 0 ∷ 0 ∷ 0 ∷ 0 ∷
    0 ∷ 0 ∷ 0 ∷ 0 ∷ 0 ∷ 2 ∷ 0 ∷ 0x7A ∷ 0x6F ∷ 0x6F ∷ 0x5F ∷ 0x6F ∷ 0x70 ∷ 0x65 ∷ 0x6E ∷ 0 ∷ 0 ∷ 0 ∷ 0 ∷ 0 ∷ 0 ∷ 0x20 ∷
    0 ∷ 2 ∷ 0 ∷ 0x25 ∷ 0 ∷ 0 ∷ 0 ∷ 0x5F ∷ 0x5F ∷ 0x69 ∷ 0x6D ∷ 0x70 ∷ 0x5F ∷ 0x7A ∷ 0x6F ∷ 0x6F ∷ 0x5F ∷ 0x6F ∷ 0x70 ∷
    0x65 ∷ 0x6E ∷ 0 ∷ 0x5F ∷ 0x5F ∷ 0x69 ∷ 0x6D ∷ 0x70 ∷ 0x5F ∷ 0x45 ∷ 0x78 ∷ 0x69 ∷ 0x74 ∷ 0x50 ∷ 0x72 ∷ 0x6F ∷
    0x63 ∷ 0x65 ∷ 0x73 ∷ 0x73 ∷ 0 ∷ []

-- the same on I386
abbrev pub i386_kernel_head_bytes : List ℕ
i386_kernel_head_bytes =
    0x4C ∷ 1 ∷ 6 ∷ 0 ∷ 0 ∷ 0 ∷ 0 ∷ 0 ∷ 0x36 ∷ 1 ∷ 0 ∷ 0 ∷ 0x10 ∷ 0 ∷ 0 ∷ 0 ∷ 0 ∷ 0 ∷ 4 ∷ 1 ∷ 0x2E ∷ 0x74 ∷ 0x65 ∷
    0x78 ∷ 0x74 ∷ 0 ∷ 0 ∷ 0 ∷ 0 ∷ 0 ∷ 0 ∷ 0 ∷ 0 ∷ 0 ∷ 0 ∷ 0 ∷ 0 ∷ 0 ∷ 0 ∷ 0 ∷ 0 ∷ 0 ∷ 0 ∷ 0 ∷ 0 ∷ 0 ∷ 0 ∷ 0 ∷ 0 ∷ 0 ∷
    0 ∷ 0 ∷ 0 ∷ 0 ∷ 0 ∷ 0 ∷ 0x20 ∷ 0 ∷ 0x30 ∷ 0x60 ∷ 0x2E ∷ 0x64 ∷ 0x61 ∷ 0x74 ∷ 0x61 ∷ 0 ∷ 0 ∷ 0 ∷ 0 ∷ 0 ∷ 0 ∷ 0 ∷
    0 ∷ 0 ∷ 0 ∷ 0 ∷ 0 ∷ 0 ∷ 0 ∷ 0 ∷ 0 ∷ 0 ∷ 0 ∷ 0 ∷ 0 ∷ 0 ∷ 0 ∷ 0 ∷ 0 ∷ 0 ∷ 0 ∷ 0 ∷ 0 ∷ 0 ∷ 0 ∷ 0 ∷ 0x40 ∷ 0 ∷ 0x30 ∷
    0xC0 ∷ 0x2E ∷ 0x62 ∷ 0x73 ∷ 0x73 ∷ 0 ∷ 0 ∷ 0 ∷ 0 ∷ 0 ∷ 0 ∷ 0 ∷ 0 ∷ 0 ∷ 0 ∷ 0 ∷ 0 ∷ 0 ∷ 0 ∷ 0 ∷ 0 ∷ 0 ∷ 0 ∷ 0 ∷ 0 ∷
    0 ∷ 0 ∷ 0 ∷ 0 ∷ 0 ∷ 0 ∷ 0 ∷ 0 ∷ 0 ∷ 0 ∷ 0 ∷ 0 ∷ 0x80 ∷ 0 ∷ 0x30 ∷ 0xC0 ∷ 0x2E ∷ 0x69 ∷ 0x64 ∷ 0x61 ∷ 0x74 ∷ 0x61 ∷
    0x24 ∷ 0x32 ∷ 0 ∷ 0 ∷ 0 ∷ 0 ∷ 0 ∷ 0 ∷ 0 ∷ 0 ∷ 0x14 ∷ 0 ∷ 0 ∷ 0 ∷ 4 ∷ 1 ∷ 0 ∷ 0 ∷ 0x18 ∷ 1 ∷ 0 ∷ 0 ∷ 0 ∷ 0 ∷ 0 ∷
    0 ∷ 3 ∷ 0 ∷ 0 ∷ 0 ∷ 0x40 ∷ 0 ∷ 0x30 ∷ 0xC0 ∷ 0x2E ∷ 0x69 ∷ 0x64 ∷ 0x61 ∷ 0x74 ∷ 0x61 ∷ 0x24 ∷ 0x35 ∷ 0 ∷ 0 ∷ 0 ∷
    0 ∷ 0 ∷ 0 ∷ 0 ∷ 0 ∷ 0 ∷ 0 ∷ 0 ∷ 0 ∷ 0 ∷ 0 ∷ 0 ∷ 0 ∷ 0 ∷ 0 ∷ 0 ∷ 0 ∷ 0 ∷ 0 ∷ 0 ∷ 0 ∷ 0 ∷ 0 ∷ 0 ∷ 0 ∷ 0x40 ∷ 0 ∷
    0x30 ∷ 0xC0 ∷ 0x2E ∷ 0x69 ∷ 0x64 ∷ 0x61 ∷ 0x74 ∷ 0x61 ∷ 0x24 ∷ 0x34 ∷ 0 ∷ 0 ∷ 0 ∷ 0 ∷ 0 ∷ 0 ∷ 0 ∷ 0 ∷ 0 ∷ 0 ∷ 0 ∷
    0 ∷ 0 ∷ 0 ∷ 0 ∷ 0 ∷ 0 ∷ 0 ∷ 0 ∷ 0 ∷ 0 ∷ 0 ∷ 0 ∷ 0 ∷ 0 ∷ 0 ∷ 0 ∷ 0 ∷ 0x40 ∷ 0 ∷ 0x30 ∷ 0xC0 ∷ 0 ∷ 0 ∷ 0 ∷ 0 ∷ 0 ∷
    0 ∷ 0 ∷ 0 ∷ 0 ∷ 0 ∷ 0 ∷ 0 ∷ 0 ∷ 0 ∷ 0 ∷ 0 ∷ 0 ∷ 0 ∷ 0 ∷ 0 ∷ 0 ∷ 0 ∷ 0 ∷ 0 ∷ 0x0C ∷ 0 ∷ 0 ∷ 0 ∷ 7 ∷ 0 ∷ 0x0C ∷ 0 ∷
    0 ∷ 0 ∷ 0x0F ∷ 0 ∷ 0 ∷ 0 ∷ 7 ∷ 0 ∷ 0x10 ∷ 0 ∷ 0 ∷ 0 ∷ 0x0D ∷ 0 ∷ 0 ∷ 0 ∷ 7 ∷ 0 ∷ 0x2E ∷ 0x66 ∷ 0x69 ∷ 0x6C ∷
    0x65 ∷ 0 ∷ 0 ∷ 0 ∷ 0 ∷ 0 ∷ 0 ∷ 0 ∷ 0xFE ∷ 0xFF ∷ 0 ∷ 0 ∷ 0x67 ∷ 1 ∷ 0x66 ∷ 0x61 ∷ 0x6B ∷ 0x65 ∷ 0 ∷ 0 ∷ 0 ∷ 0 ∷
    0 ∷ 0 ∷ 0 ∷ 0 ∷ 0 ∷ 0 ∷ 0 ∷ 0 ∷ 0 ∷ 0 ∷ 0x68 ∷ 0x6E ∷ 0x61 ∷ 0x6D ∷ 0x65 ∷ 0 ∷ 0 ∷ 0 ∷ 0 ∷ 0 ∷ 0 ∷ 0 ∷ 6 ∷ 0 ∷ 0 ∷
    0 ∷ 3 ∷ 0 ∷ 0x66 ∷ 0x74 ∷ 0x68 ∷ 0x75 ∷ 0x6E ∷ 0x6B ∷ 0 ∷ 0 ∷ 0 ∷ 0 ∷ 0 ∷ 0 ∷ 5 ∷ 0 ∷ 0 ∷ 0 ∷ 3 ∷ 0 ∷ 0x2E ∷
    0x74 ∷ 0x65 ∷ 0x78 ∷ 0x74 ∷ 0 ∷ 0 ∷ 0 ∷ 0 ∷ 0 ∷ 0 ∷ 0 ∷ 1 ∷ 0 ∷ 0 ∷ 0 ∷ 3 ∷ 1 ∷ 0 ∷ 0 ∷ 0 ∷ 0 ∷ 0 ∷ 0 ∷ 0 ∷ 0 ∷
    0 ∷ 0 ∷ 0 ∷ 0 ∷ 0 ∷ 0 ∷ 0 ∷ 0 ∷ 0 ∷ 0 ∷ 0x2E ∷ 0x64 ∷ 0x61 ∷ 0x74 ∷ 0x61 ∷ 0 ∷ 0 ∷ 0 ∷ 0 ∷ 0 ∷ 0 ∷ 0 ∷ 2 ∷ 0 ∷ 0 ∷
    0 ∷ 3 ∷ 1 ∷ 0 ∷ 0 ∷ 0 ∷ 0 ∷ 0 ∷ 0 ∷ 0 ∷ 0 ∷ 0 ∷ 0 ∷ 0 ∷ 0 ∷ 0 ∷ 0 ∷ 0 ∷ 0 ∷ 0 ∷ 0 ∷ 0x2E ∷ 0x62 ∷ 0x73 ∷ 0x73 ∷
    0 ∷ 0 ∷ 0 ∷ 0 ∷ 0 ∷ 0 ∷ 0 ∷ 0 ∷ 3 ∷ 0 ∷ 0 ∷ 0 ∷ 3 ∷ 1 ∷ 0 ∷ 0 ∷ 0 ∷ 0 ∷ 0 ∷ 0 ∷ 0 ∷ 0 ∷ 0 ∷ 0 ∷ 0 ∷ 0 ∷ 0 ∷ 0 ∷
    0 ∷ 0 ∷ 0 ∷ 0 ∷ 0x2E ∷ 0x69 ∷ 0x64 ∷ 0x61 ∷ 0x74 ∷ 0x61 ∷ 0x24 ∷ 0x32 ∷ 0 ∷ 0 ∷ 0 ∷ 0 ∷ 4 ∷ 0 ∷ 0 ∷ 0 ∷ 3 ∷ 1 ∷
    0x14 ∷ 0 ∷ 0 ∷ 0 ∷ 3 ∷ 0 ∷ 0 ∷ 0 ∷ 0 ∷ 0 ∷ 0 ∷ 0 ∷ 0 ∷ 0 ∷ 0 ∷ 0 ∷ 0 ∷ 0 ∷ 0x2E ∷ 0x69 ∷ 0x64 ∷ 0x61 ∷ 0x74 ∷
    0x61 ∷ 0x24 ∷ 0x34 ∷ 0 ∷ 0 ∷ 0 ∷ 0 ∷ 6 ∷ 0 ∷ 0 ∷ 0 ∷ 3 ∷ 0 ∷ 0x2E ∷ 0x69 ∷ 0x64 ∷ 0x61 ∷ 0x74 ∷ 0x61 ∷ 0x24 ∷
    0x35 ∷ 0 ∷ 0 ∷ 0 ∷ 0 ∷ 5 ∷ 0 ∷ 0 ∷ 0 ∷ 3 ∷ 0 ∷ 0 ∷ 0 ∷ 0 ∷ 0 ∷ 4 ∷ 0 ∷ 0 ∷ 0 ∷ 0 ∷ 0 ∷ 0 ∷ 0 ∷ 4 ∷ 0 ∷ 0 ∷ 0 ∷ 2 ∷
    0 ∷ 0 ∷ 0 ∷ 0 ∷ 0 ∷ 0x1B ∷ 0 ∷ 0 ∷ 0 ∷ 0 ∷ 0 ∷ 0 ∷ 0 ∷ 0 ∷ 0 ∷ 0 ∷ 0 ∷ 2 ∷ 0 ∷ 0x33 ∷ 0 ∷ 0 ∷ 0 ∷ 0x5F ∷ 0x5F ∷
    0x68 ∷ 0x65 ∷ 0x61 ∷ 0x64 ∷ 0x5F ∷ 0x6B ∷ 0x65 ∷ 0x72 ∷ 0x6E ∷ 0x65 ∷ 0x6C ∷ 0x33 ∷ 0x32 ∷ 0x5F ∷ 0x69 ∷ 0x33 ∷
    0x38 ∷ 0x36 ∷ 0x5F ∷ 0x61 ∷ 0 ∷ 0x5F ∷ 0x5F ∷ 0x6B ∷ 0x65 ∷ 0x72 ∷ 0x6E ∷ 0x65 ∷ 0x6C ∷ 0x33 ∷ 0x32 ∷ 0x5F ∷
    0x69 ∷ 0x33 ∷ 0x38 ∷ 0x36 ∷ 0x5F ∷ 0x61 ∷ 0x5F ∷ 0x69 ∷ 0x6E ∷ 0x61 ∷ 0x6D ∷ 0x65 ∷ 0 ∷ []

abbrev pub i386_exit_bytes : List ℕ
i386_exit_bytes =
    0x4C ∷ 1 ∷ 7 ∷ 0 ∷ 0 ∷ 0 ∷ 0 ∷ 0 ∷ 0x78 ∷ 1 ∷ 0 ∷ 0 ∷ 0x0A ∷ 0 ∷ 0 ∷ 0 ∷ 0 ∷ 0 ∷ 4 ∷ 1 ∷ 0x2E ∷ 0x74 ∷ 0x65 ∷
    0x78 ∷ 0x74 ∷ 0 ∷ 0 ∷ 0 ∷ 0 ∷ 0 ∷ 0 ∷ 0 ∷ 0 ∷ 0 ∷ 0 ∷ 0 ∷ 8 ∷ 0 ∷ 0 ∷ 0 ∷ 0x2C ∷ 1 ∷ 0 ∷ 0 ∷ 0x50 ∷ 1 ∷ 0 ∷ 0 ∷
    0 ∷ 0 ∷ 0 ∷ 0 ∷ 1 ∷ 0 ∷ 0 ∷ 0 ∷ 0x20 ∷ 0 ∷ 0x30 ∷ 0x60 ∷ 0x2E ∷ 0x64 ∷ 0x61 ∷ 0x74 ∷ 0x61 ∷ 0 ∷ 0 ∷ 0 ∷ 0 ∷ 0 ∷
    0 ∷ 0 ∷ 0 ∷ 0 ∷ 0 ∷ 0 ∷ 0 ∷ 0 ∷ 0 ∷ 0 ∷ 0 ∷ 0 ∷ 0 ∷ 0 ∷ 0 ∷ 0 ∷ 0 ∷ 0 ∷ 0 ∷ 0 ∷ 0 ∷ 0 ∷ 0 ∷ 0 ∷ 0 ∷ 0 ∷ 0x40 ∷ 0 ∷
    0x30 ∷ 0xC0 ∷ 0x2E ∷ 0x62 ∷ 0x73 ∷ 0x73 ∷ 0 ∷ 0 ∷ 0 ∷ 0 ∷ 0 ∷ 0 ∷ 0 ∷ 0 ∷ 0 ∷ 0 ∷ 0 ∷ 0 ∷ 0 ∷ 0 ∷ 0 ∷ 0 ∷ 0 ∷ 0 ∷
    0 ∷ 0 ∷ 0 ∷ 0 ∷ 0 ∷ 0 ∷ 0 ∷ 0 ∷ 0 ∷ 0 ∷ 0 ∷ 0 ∷ 0 ∷ 0 ∷ 0x80 ∷ 0 ∷ 0x30 ∷ 0xC0 ∷ 0x2E ∷ 0x69 ∷ 0x64 ∷ 0x61 ∷
    0x74 ∷ 0x61 ∷ 0x24 ∷ 0x37 ∷ 0 ∷ 0 ∷ 0 ∷ 0 ∷ 0 ∷ 0 ∷ 0 ∷ 0 ∷ 4 ∷ 0 ∷ 0 ∷ 0 ∷ 0x34 ∷ 1 ∷ 0 ∷ 0 ∷ 0x5A ∷ 1 ∷ 0 ∷ 0 ∷
    0 ∷ 0 ∷ 0 ∷ 0 ∷ 1 ∷ 0 ∷ 0 ∷ 0 ∷ 0 ∷ 0 ∷ 0x30 ∷ 0xC0 ∷ 0x2E ∷ 0x69 ∷ 0x64 ∷ 0x61 ∷ 0x74 ∷ 0x61 ∷ 0x24 ∷ 0x35 ∷ 0 ∷
    0 ∷ 0 ∷ 0 ∷ 0 ∷ 0 ∷ 0 ∷ 0 ∷ 4 ∷ 0 ∷ 0 ∷ 0 ∷ 0x38 ∷ 1 ∷ 0 ∷ 0 ∷ 0x64 ∷ 1 ∷ 0 ∷ 0 ∷ 0 ∷ 0 ∷ 0 ∷ 0 ∷ 1 ∷ 0 ∷ 0 ∷ 0 ∷
    0 ∷ 0 ∷ 0x30 ∷ 0xC0 ∷ 0x2E ∷ 0x69 ∷ 0x64 ∷ 0x61 ∷ 0x74 ∷ 0x61 ∷ 0x24 ∷ 0x34 ∷ 0 ∷ 0 ∷ 0 ∷ 0 ∷ 0 ∷ 0 ∷ 0 ∷ 0 ∷ 4 ∷
    0 ∷ 0 ∷ 0 ∷ 0x3C ∷ 1 ∷ 0 ∷ 0 ∷ 0x6E ∷ 1 ∷ 0 ∷ 0 ∷ 0 ∷ 0 ∷ 0 ∷ 0 ∷ 1 ∷ 0 ∷ 0 ∷ 0 ∷ 0 ∷ 0 ∷ 0x30 ∷ 0xC0 ∷ 0x2E ∷
    0x69 ∷ 0x64 ∷ 0x61 ∷ 0x74 ∷ 0x61 ∷ 0x24 ∷ 0x36 ∷ 0 ∷ 0 ∷ 0 ∷ 0 ∷ 0 ∷ 0 ∷ 0 ∷ 0 ∷ 0x0E ∷ 0 ∷ 0 ∷ 0 ∷ 0x40 ∷ 1 ∷ 0 ∷
    0 ∷ 0 ∷ 0 ∷ 0 ∷ 0 ∷ 0 ∷ 0 ∷ 0 ∷ 0 ∷ 0 ∷ 0 ∷ 0 ∷ 0 ∷ 0 ∷ 0 ∷ 0x20 ∷ 0xC0 ∷ 0xFF ∷ 0x25 ∷ 0 ∷ 0 ∷ 0 ∷ 0 ∷ 0x90 ∷
    0x90 ∷ 0 ∷ 0 ∷ 0 ∷ 0 ∷ 0 ∷ 0 ∷ 0 ∷ 0 ∷ 0 ∷ 0 ∷ 0 ∷ 0 ∷ 1 ∷ 0 ∷ 0x45 ∷ 0x78 ∷ 0x69 ∷ 0x74 ∷ 0x50 ∷ 0x72 ∷ 0x6F ∷
    0x63 ∷ 0x65 ∷ 0x73 ∷ 0x73 ∷ 0 ∷ 0 ∷ 0 ∷ 2 ∷ 0 ∷ 0 ∷ 0 ∷ 4 ∷ 0 ∷ 0 ∷ 0 ∷ 6 ∷ 0 ∷ 0 ∷ 0 ∷ 0 ∷ 0 ∷ 9 ∷ 0 ∷ 0 ∷ 0 ∷
    7 ∷ 0 ∷ 0 ∷ 0 ∷ 0 ∷ 0 ∷ 6 ∷ 0 ∷ 0 ∷ 0 ∷ 7 ∷ 0 ∷ 0 ∷ 0 ∷ 0 ∷ 0 ∷ 6 ∷ 0 ∷ 0 ∷ 0 ∷ 7 ∷ 0 ∷ 0x2E ∷ 0x74 ∷ 0x65 ∷
    0x78 ∷ 0x74 ∷ 0 ∷ 0 ∷ 0 ∷ 0 ∷ 0 ∷ 0 ∷ 0 ∷ 1 ∷ 0 ∷ 0 ∷ 0 ∷ 3 ∷ 0 ∷ 0x2E ∷ 0x64 ∷ 0x61 ∷ 0x74 ∷ 0x61 ∷ 0 ∷ 0 ∷ 0 ∷
    0 ∷ 0 ∷ 0 ∷ 0 ∷ 2 ∷ 0 ∷ 0 ∷ 0 ∷ 3 ∷ 0 ∷ 0x2E ∷ 0x62 ∷ 0x73 ∷ 0x73 ∷ 0 ∷ 0 ∷ 0 ∷ 0 ∷ 0 ∷ 0 ∷ 0 ∷ 0 ∷ 3 ∷ 0 ∷ 0 ∷
    0 ∷ 3 ∷ 0 ∷ 0x2E ∷ 0x69 ∷ 0x64 ∷ 0x61 ∷ 0x74 ∷ 0x61 ∷ 0x24 ∷ 0x37 ∷ 0 ∷ 0 ∷ 0 ∷ 0 ∷ 4 ∷ 0 ∷ 0 ∷ 0 ∷ 3 ∷ 0 ∷ 0x2E ∷
    0x69 ∷ 0x64 ∷ 0x61 ∷ 0x74 ∷ 0x61 ∷ 0x24 ∷ 0x35 ∷ 0 ∷ 0 ∷ 0 ∷ 0 ∷ 5 ∷ 0 ∷ 0 ∷ 0 ∷ 3 ∷ 0 ∷ 0x2E ∷ 0x69 ∷ 0x64 ∷
    0x61 ∷ 0x74 ∷ 0x61 ∷ 0x24 ∷ 0x34 ∷ 0 ∷ 0 ∷ 0 ∷ 0 ∷ 6 ∷ 0 ∷ 0 ∷ 0 ∷ 3 ∷ 0 ∷ 0x2E ∷ 0x69 ∷ 0x64 ∷ 0x61 ∷ 0x74 ∷
    0x61 ∷ 0x24 ∷ 0x36 ∷ 0 ∷ 0 ∷ 0 ∷ 0 ∷ 7 ∷ 0 ∷ 0 ∷ 0 ∷ 3 ∷ 0 ∷ 0 ∷ 0 ∷ 0 ∷ 0 ∷ 4 ∷ 0 ∷ 0 ∷ 0 ∷ 0 ∷ 0 ∷ 0 ∷ 0 ∷ 1 ∷
    0 ∷ 0 ∷ 0 ∷ 2 ∷ 0 ∷ 0 ∷ 0 ∷ 0 ∷ 0 ∷ 0x13 ∷ 0 ∷ 0 ∷ 0 ∷ 0 ∷ 0 ∷ 0 ∷ 0 ∷ 5 ∷ 0 ∷ 0 ∷ 0 ∷ 2 ∷ 0 ∷ 0 ∷ 0 ∷ 0 ∷ 0 ∷
    0x28 ∷ 0 ∷ 0 ∷ 0 ∷ 0 ∷ 0 ∷ 0 ∷ 0 ∷ 0 ∷ 0 ∷ 0 ∷ 0 ∷ 2 ∷ 0 ∷ 0x3F ∷ 0 ∷ 0 ∷ 0 ∷ 0x5F ∷ 0x45 ∷ 0x78 ∷ 0x69 ∷ 0x74 ∷
    0x50 ∷ 0x72 ∷ 0x6F ∷ 0x63 ∷ 0x65 ∷ 0x73 ∷ 0x73 ∷ 0x40 ∷ 0x34 ∷ 0 ∷ 0x5F ∷ 0x5F ∷ 0x69 ∷ 0x6D ∷ 0x70 ∷ 0x5F ∷
    0x5F ∷ 0x45 ∷ 0x78 ∷ 0x69 ∷ 0x74 ∷ 0x50 ∷ 0x72 ∷ 0x6F ∷ 0x63 ∷ 0x65 ∷ 0x73 ∷ 0x73 ∷ 0x40 ∷ 0x34 ∷ 0 ∷ 0x5F ∷
    0x5F ∷ 0x68 ∷ 0x65 ∷ 0x61 ∷ 0x64 ∷ 0x5F ∷ 0x6B ∷ 0x65 ∷ 0x72 ∷ 0x6E ∷ 0x65 ∷ 0x6C ∷ 0x33 ∷ 0x32 ∷ 0x5F ∷ 0x69 ∷
    0x33 ∷ 0x38 ∷ 0x36 ∷ 0x5F ∷ 0x61 ∷ 0 ∷ []

abbrev pub i386_kernel_tail_bytes : List ℕ
i386_kernel_tail_bytes =
    0x4C ∷ 1 ∷ 6 ∷ 0 ∷ 0 ∷ 0 ∷ 0 ∷ 0 ∷ 0x1C ∷ 1 ∷ 0 ∷ 0 ∷ 0x0F ∷ 0 ∷ 0 ∷ 0 ∷ 0 ∷ 0 ∷ 5 ∷ 1 ∷ 0x2E ∷ 0x74 ∷ 0x65 ∷
    0x78 ∷ 0x74 ∷ 0 ∷ 0 ∷ 0 ∷ 0 ∷ 0 ∷ 0 ∷ 0 ∷ 0 ∷ 0 ∷ 0 ∷ 0 ∷ 0 ∷ 0 ∷ 0 ∷ 0 ∷ 0 ∷ 0 ∷ 0 ∷ 0 ∷ 0 ∷ 0 ∷ 0 ∷ 0 ∷ 0 ∷ 0 ∷
    0 ∷ 0 ∷ 0 ∷ 0 ∷ 0 ∷ 0 ∷ 0x20 ∷ 0 ∷ 0x30 ∷ 0x60 ∷ 0x2E ∷ 0x64 ∷ 0x61 ∷ 0x74 ∷ 0x61 ∷ 0 ∷ 0 ∷ 0 ∷ 0 ∷ 0 ∷ 0 ∷ 0 ∷
    0 ∷ 0 ∷ 0 ∷ 0 ∷ 0 ∷ 0 ∷ 0 ∷ 0 ∷ 0 ∷ 0 ∷ 0 ∷ 0 ∷ 0 ∷ 0 ∷ 0 ∷ 0 ∷ 0 ∷ 0 ∷ 0 ∷ 0 ∷ 0 ∷ 0 ∷ 0 ∷ 0 ∷ 0x40 ∷ 0 ∷ 0x30 ∷
    0xC0 ∷ 0x2E ∷ 0x62 ∷ 0x73 ∷ 0x73 ∷ 0 ∷ 0 ∷ 0 ∷ 0 ∷ 0 ∷ 0 ∷ 0 ∷ 0 ∷ 0 ∷ 0 ∷ 0 ∷ 0 ∷ 0 ∷ 0 ∷ 0 ∷ 0 ∷ 0 ∷ 0 ∷ 0 ∷ 0 ∷
    0 ∷ 0 ∷ 0 ∷ 0 ∷ 0 ∷ 0 ∷ 0 ∷ 0 ∷ 0 ∷ 0 ∷ 0 ∷ 0 ∷ 0x80 ∷ 0 ∷ 0x30 ∷ 0xC0 ∷ 0x2E ∷ 0x69 ∷ 0x64 ∷ 0x61 ∷ 0x74 ∷ 0x61 ∷
    0x24 ∷ 0x34 ∷ 0 ∷ 0 ∷ 0 ∷ 0 ∷ 0 ∷ 0 ∷ 0 ∷ 0 ∷ 4 ∷ 0 ∷ 0 ∷ 0 ∷ 4 ∷ 1 ∷ 0 ∷ 0 ∷ 0 ∷ 0 ∷ 0 ∷ 0 ∷ 0 ∷ 0 ∷ 0 ∷ 0 ∷ 0 ∷
    0 ∷ 0 ∷ 0 ∷ 0x40 ∷ 0 ∷ 0x30 ∷ 0xC0 ∷ 0x2E ∷ 0x69 ∷ 0x64 ∷ 0x61 ∷ 0x74 ∷ 0x61 ∷ 0x24 ∷ 0x35 ∷ 0 ∷ 0 ∷ 0 ∷ 0 ∷ 0 ∷
    0 ∷ 0 ∷ 0 ∷ 4 ∷ 0 ∷ 0 ∷ 0 ∷ 8 ∷ 1 ∷ 0 ∷ 0 ∷ 0 ∷ 0 ∷ 0 ∷ 0 ∷ 0 ∷ 0 ∷ 0 ∷ 0 ∷ 0 ∷ 0 ∷ 0 ∷ 0 ∷ 0x40 ∷ 0 ∷ 0x30 ∷
    0xC0 ∷ 0x2E ∷ 0x69 ∷ 0x64 ∷ 0x61 ∷ 0x74 ∷ 0x61 ∷ 0x24 ∷ 0x37 ∷ 0 ∷ 0 ∷ 0 ∷ 0 ∷ 0 ∷ 0 ∷ 0 ∷ 0 ∷ 0x10 ∷ 0 ∷ 0 ∷ 0 ∷
    0x0C ∷ 1 ∷ 0 ∷ 0 ∷ 0 ∷ 0 ∷ 0 ∷ 0 ∷ 0 ∷ 0 ∷ 0 ∷ 0 ∷ 0 ∷ 0 ∷ 0 ∷ 0 ∷ 0x40 ∷ 0 ∷ 0x30 ∷ 0xC0 ∷ 0 ∷ 0 ∷ 0 ∷ 0 ∷ 0 ∷
    0 ∷ 0 ∷ 0 ∷ 0x6B ∷ 0x65 ∷ 0x72 ∷ 0x6E ∷ 0x65 ∷ 0x6C ∷ 0x33 ∷ 0x32 ∷ 0x2E ∷ 0x64 ∷ 0x6C ∷ 0x6C ∷ 0 ∷ 0 ∷ 0 ∷ 0 ∷
    0x2E ∷ 0x66 ∷ 0x69 ∷ 0x6C ∷ 0x65 ∷ 0 ∷ 0 ∷ 0 ∷ 0 ∷ 0 ∷ 0 ∷ 0 ∷ 0xFE ∷ 0xFF ∷ 0 ∷ 0 ∷ 0x67 ∷ 1 ∷ 0x66 ∷ 0x61 ∷
    0x6B ∷ 0x65 ∷ 0 ∷ 0 ∷ 0 ∷ 0 ∷ 0 ∷ 0 ∷ 0 ∷ 0 ∷ 0 ∷ 0 ∷ 0 ∷ 0 ∷ 0 ∷ 0 ∷ 0x2E ∷ 0x74 ∷ 0x65 ∷ 0x78 ∷ 0x74 ∷ 0 ∷ 0 ∷
    0 ∷ 0 ∷ 0 ∷ 0 ∷ 0 ∷ 1 ∷ 0 ∷ 0 ∷ 0 ∷ 3 ∷ 1 ∷ 0 ∷ 0 ∷ 0 ∷ 0 ∷ 0 ∷ 0 ∷ 0 ∷ 0 ∷ 0 ∷ 0 ∷ 0 ∷ 0 ∷ 0 ∷ 0 ∷ 0 ∷ 0 ∷ 0 ∷
    0 ∷ 0x2E ∷ 0x64 ∷ 0x61 ∷ 0x74 ∷ 0x61 ∷ 0 ∷ 0 ∷ 0 ∷ 0 ∷ 0 ∷ 0 ∷ 0 ∷ 2 ∷ 0 ∷ 0 ∷ 0 ∷ 3 ∷ 1 ∷ 0 ∷ 0 ∷ 0 ∷ 0 ∷ 0 ∷ 0 ∷
    0 ∷ 0 ∷ 0 ∷ 0 ∷ 0 ∷ 0 ∷ 0 ∷ 0 ∷ 0 ∷ 0 ∷ 0 ∷ 0 ∷ 0x2E ∷ 0x62 ∷ 0x73 ∷ 0x73 ∷ 0 ∷ 0 ∷ 0 ∷ 0 ∷ 0 ∷ 0 ∷ 0 ∷ 0 ∷ 3 ∷
    0 ∷ 0 ∷ 0 ∷ 3 ∷ 1 ∷ 0 ∷ 0 ∷ 0 ∷ 0 ∷ 0 ∷ 0 ∷ 0 ∷ 0 ∷ 0 ∷ 0 ∷ 0 ∷ 0 ∷ 0 ∷ 0 ∷ 0 ∷ 0 ∷ 0 ∷ 0 ∷ 0x2E ∷ 0x69 ∷ 0x64 ∷
    0x61 ∷ 0x74 ∷ 0x61 ∷ 0x24 ∷ 0x34 ∷ 0 ∷ 0 ∷ 0 ∷ 0 ∷ 4 ∷ 0 ∷ 0 ∷ 0 ∷ 3 ∷ 1 ∷ 4 ∷ 0 ∷ 0 ∷ 0 ∷ 0 ∷ 0 ∷ 0 ∷ 0 ∷ 0 ∷ 0 ∷
    0 ∷ 0 ∷ 0 ∷ 0 ∷ 0 ∷ 0 ∷ 0 ∷ 0 ∷ 0x2E ∷ 0x69 ∷ 0x64 ∷ 0x61 ∷ 0x74 ∷ 0x61 ∷ 0x24 ∷ 0x35 ∷ 0 ∷ 0 ∷ 0 ∷ 0 ∷ 5 ∷ 0 ∷
    0 ∷ 0 ∷ 3 ∷ 1 ∷ 4 ∷ 0 ∷ 0 ∷ 0 ∷ 0 ∷ 0 ∷ 0 ∷ 0 ∷ 0 ∷ 0 ∷ 0 ∷ 0 ∷ 0 ∷ 0 ∷ 0 ∷ 0 ∷ 0 ∷ 0 ∷ 0x2E ∷ 0x69 ∷ 0x64 ∷
    0x61 ∷ 0x74 ∷ 0x61 ∷ 0x24 ∷ 0x37 ∷ 0 ∷ 0 ∷ 0 ∷ 0 ∷ 6 ∷ 0 ∷ 0 ∷ 0 ∷ 3 ∷ 1 ∷ 0x0D ∷ 0 ∷ 0 ∷ 0 ∷ 0 ∷ 0 ∷ 0 ∷ 0 ∷ 0 ∷
    0 ∷ 0 ∷ 0 ∷ 0 ∷ 0 ∷ 0 ∷ 0 ∷ 0 ∷ 0 ∷ 0 ∷ 0 ∷ 0 ∷ 0 ∷ 4 ∷ 0 ∷ 0 ∷ 0 ∷ 0 ∷ 0 ∷ 0 ∷ 0 ∷ 6 ∷ 0 ∷ 0 ∷ 0 ∷ 2 ∷ 0 ∷ 0x1C ∷
    0 ∷ 0 ∷ 0 ∷ 0x5F ∷ 0x5F ∷ 0x6B ∷ 0x65 ∷ 0x72 ∷ 0x6E ∷ 0x65 ∷ 0x6C ∷ 0x33 ∷ 0x32 ∷ 0x5F ∷ 0x69 ∷ 0x33 ∷ 0x38 ∷
    0x36 ∷ 0x5F ∷ 0x61 ∷ 0x5F ∷ 0x69 ∷ 0x6E ∷ 0x61 ∷ 0x6D ∷ 0x65 ∷ 0 ∷ []

abbrev pub i386_start_bytes : List ℕ
i386_start_bytes =
    0x4C ∷ 1 ∷ 3 ∷ 0 ∷ 0 ∷ 0 ∷ 0 ∷ 0 ∷ 0xF2 ∷ 0 ∷ 0 ∷ 0 ∷ 0x0E ∷ 0 ∷ 0 ∷ 0 ∷ 0 ∷ 0 ∷ 4 ∷ 1 ∷ 0x2E ∷ 0x74 ∷ 0x65 ∷
    0x78 ∷ 0x74 ∷ 0 ∷ 0 ∷ 0 ∷ 0 ∷ 0 ∷ 0 ∷ 0 ∷ 0 ∷ 0 ∷ 0 ∷ 0 ∷ 0x30 ∷ 0 ∷ 0 ∷ 0 ∷ 0x8C ∷ 0 ∷ 0 ∷ 0 ∷ 0xC0 ∷ 0 ∷ 0 ∷ 0 ∷
    0 ∷ 0 ∷ 0 ∷ 0 ∷ 4 ∷ 0 ∷ 0 ∷ 0 ∷ 0x20 ∷ 0 ∷ 0x30 ∷ 0x60 ∷ 0x2E ∷ 0x64 ∷ 0x61 ∷ 0x74 ∷ 0x61 ∷ 0 ∷ 0 ∷ 0 ∷ 0 ∷ 0 ∷
    0 ∷ 0 ∷ 0 ∷ 0 ∷ 0 ∷ 0 ∷ 4 ∷ 0 ∷ 0 ∷ 0 ∷ 0xBC ∷ 0 ∷ 0 ∷ 0 ∷ 0xE8 ∷ 0 ∷ 0 ∷ 0 ∷ 0 ∷ 0 ∷ 0 ∷ 0 ∷ 1 ∷ 0 ∷ 0 ∷ 0 ∷
    0x40 ∷ 0 ∷ 0x30 ∷ 0xC0 ∷ 0x2E ∷ 0x62 ∷ 0x73 ∷ 0x73 ∷ 0 ∷ 0 ∷ 0 ∷ 0 ∷ 0 ∷ 0 ∷ 0 ∷ 0 ∷ 0 ∷ 0 ∷ 0 ∷ 0 ∷ 0 ∷ 0 ∷ 0 ∷
    0 ∷ 0 ∷ 0 ∷ 0 ∷ 0 ∷ 0 ∷ 0 ∷ 0 ∷ 0 ∷ 0 ∷ 0 ∷ 0 ∷ 0 ∷ 0 ∷ 0 ∷ 0 ∷ 0 ∷ 0x80 ∷ 0 ∷ 0x30 ∷ 0xC0 ∷ 0x55 ∷ 0x89 ∷ 0xE5 ∷
    0x53 ∷ 0x83 ∷ 0xEC ∷ 0x14 ∷ 0xFF ∷ 0x15 ∷ 0 ∷ 0 ∷ 0 ∷ 0 ∷ 0x89 ∷ 0xC3 ∷ 0xE8 ∷ 0 ∷ 0 ∷ 0 ∷ 0 ∷ 1 ∷ 0xC3 ∷ 0xFF ∷
    0x15 ∷ 0 ∷ 0 ∷ 0 ∷ 0 ∷ 1 ∷ 0xC3 ∷ 0x89 ∷ 0x1C ∷ 0x24 ∷ 0xFF ∷ 0x15 ∷ 0 ∷ 0 ∷ 0 ∷ 0 ∷ 0x50 ∷ 0x8B ∷ 0x5D ∷ 0xFC ∷
    0xC9 ∷ 0xC3 ∷ 0x90 ∷ 0x90 ∷ 0x90 ∷ 0 ∷ 0 ∷ 0 ∷ 0 ∷ 9 ∷ 0 ∷ 0 ∷ 0 ∷ 0x0B ∷ 0 ∷ 0 ∷ 0 ∷ 6 ∷ 0 ∷ 0x10 ∷ 0 ∷ 0 ∷ 0 ∷
    0x0D ∷ 0 ∷ 0 ∷ 0 ∷ 0x14 ∷ 0 ∷ 0x18 ∷ 0 ∷ 0 ∷ 0 ∷ 6 ∷ 0 ∷ 0 ∷ 0 ∷ 6 ∷ 0 ∷ 0x23 ∷ 0 ∷ 0 ∷ 0 ∷ 0x0C ∷ 0 ∷ 0 ∷ 0 ∷ 6 ∷
    0 ∷ 0 ∷ 0 ∷ 0 ∷ 0 ∷ 0x0D ∷ 0 ∷ 0 ∷ 0 ∷ 6 ∷ 0 ∷ 0x2E ∷ 0x66 ∷ 0x69 ∷ 0x6C ∷ 0x65 ∷ 0 ∷ 0 ∷ 0 ∷ 0 ∷ 0 ∷ 0 ∷ 0 ∷
    0xFE ∷ 0xFF ∷ 0 ∷ 0 ∷ 0x67 ∷ 1 ∷ 0x73 ∷ 0x74 ∷ 0x61 ∷ 0x72 ∷ 0x74 ∷ 0x2E ∷ 0x63 ∷ 0 ∷ 0 ∷ 0 ∷ 0 ∷ 0 ∷ 0 ∷ 0 ∷ 0 ∷
    0 ∷ 0 ∷ 0 ∷ 0x5F ∷ 0x73 ∷ 0x74 ∷ 0x61 ∷ 0x72 ∷ 0x74 ∷ 0 ∷ 0 ∷ 0 ∷ 0 ∷ 0 ∷ 0 ∷ 1 ∷ 0 ∷ 0x20 ∷ 0 ∷ 2 ∷ 1 ∷ 0 ∷ 0 ∷
    0 ∷ 0 ∷ 0 ∷ 0 ∷ 0 ∷ 0 ∷ 0 ∷ 0 ∷ 0 ∷ 0 ∷ 0 ∷ 0 ∷ 0 ∷ 0 ∷ 0 ∷ 0 ∷ 0x2E ∷ 0x74 ∷ 0x65 ∷ 0x78 ∷ 0x74 ∷ 0 ∷ 0 ∷ 0 ∷ 0 ∷
    0 ∷ 0 ∷ 0 ∷ 1 ∷ 0 ∷ 0 ∷ 0 ∷ 3 ∷ 1 ∷ 0x2D ∷ 0 ∷ 0 ∷ 0 ∷ 4 ∷ 0 ∷ 0 ∷ 0 ∷ 0 ∷ 0 ∷ 0 ∷ 0 ∷ 0 ∷ 0 ∷ 0 ∷ 0 ∷ 0 ∷ 0 ∷
    0x2E ∷ 0x64 ∷ 0x61 ∷ 0x74 ∷ 0x61 ∷ 0 ∷ 0 ∷ 0 ∷ 0 ∷ 0 ∷ 0 ∷ 0 ∷ 2 ∷ 0 ∷ 0 ∷ 0 ∷ 3 ∷ 1 ∷ 4 ∷ 0 ∷ 0 ∷ 0 ∷ 1 ∷ 0 ∷ 0 ∷
    0 ∷ 0 ∷ 0 ∷ 0 ∷ 0 ∷ 0 ∷ 0 ∷ 0 ∷ 0 ∷ 0 ∷ 0 ∷ 0x2E ∷ 0x62 ∷ 0x73 ∷ 0x73 ∷ 0 ∷ 0 ∷ 0 ∷ 0 ∷ 0 ∷ 0 ∷ 0 ∷ 0 ∷ 3 ∷ 0 ∷
    0 ∷ 0 ∷ 3 ∷ 1 ∷ 0 ∷ 0 ∷ 0 ∷ 0 ∷ 0 ∷ 0 ∷ 0 ∷ 0 ∷ 0 ∷ 0 ∷ 0 ∷ 0 ∷ 0 ∷ 0 ∷ 0 ∷ 0 ∷ 0 ∷ 0 ∷ 0x5F ∷ 0x70 ∷ 0x6F ∷
    0x69 ∷ 0x6E ∷ 0x74 ∷ 0x65 ∷ 0x72 ∷ 0 ∷ 0 ∷ 0 ∷ 0 ∷ 2 ∷ 0 ∷ 0 ∷ 0 ∷ 2 ∷ 0 ∷ 0 ∷ 0 ∷ 0 ∷ 0 ∷ 4 ∷ 0 ∷ 0 ∷ 0 ∷ 0 ∷ 0 ∷
    0 ∷ 0 ∷ 0 ∷ 0 ∷ 0 ∷ 0 ∷ 2 ∷ 0 ∷ 0 ∷ 0 ∷ 0 ∷ 0 ∷ 0x14 ∷ 0 ∷ 0 ∷ 0 ∷ 0 ∷ 0 ∷ 0 ∷ 0 ∷ 0 ∷ 0 ∷ 0 ∷ 0 ∷ 2 ∷ 0 ∷ 0 ∷ 0 ∷
    0 ∷ 0 ∷ 0x29 ∷ 0 ∷ 0 ∷ 0 ∷ 0 ∷ 0 ∷ 0 ∷ 0 ∷ 0 ∷ 0 ∷ 0x20 ∷ 0 ∷ 2 ∷ 0 ∷ 0x33 ∷ 0 ∷ 0 ∷ 0 ∷ 0x5F ∷ 0x5F ∷ 0x69 ∷
    0x6D ∷ 0x70 ∷ 0x5F ∷ 0x5F ∷ 0x7A ∷ 0x6F ∷ 0x6F ∷ 0x5F ∷ 0x6F ∷ 0x70 ∷ 0x65 ∷ 0x6E ∷ 0 ∷ 0x5F ∷ 0x5F ∷ 0x69 ∷
    0x6D ∷ 0x70 ∷ 0x5F ∷ 0x5F ∷ 0x45 ∷ 0x78 ∷ 0x69 ∷ 0x74 ∷ 0x50 ∷ 0x72 ∷ 0x6F ∷ 0x63 ∷ 0x65 ∷ 0x73 ∷ 0x73 ∷ 0x40 ∷
    0x34 ∷ 0 ∷ 0x5F ∷ 0x7A ∷ 0x6F ∷ 0x6F ∷ 0x5F ∷ 0x6F ∷ 0x70 ∷ 0x65 ∷ 0x6E ∷ 0 ∷ []

-- what the linkers wrote, from their descriptors on: GNU ld at 0x3000, ld.lld at 0x2020 on AMD64
-- and at 0x2010 on I386
abbrev pub gnu_written : List ℕ
gnu_written =
    0x40 ∷ 0x30 ∷ 0 ∷ 0 ∷ 0 ∷ 0 ∷ 0 ∷ 0 ∷ 0 ∷ 0 ∷ 0 ∷ 0 ∷ 0xA0 ∷ 0x30 ∷ 0 ∷ 0 ∷ 0x60 ∷ 0x30 ∷ 0 ∷ 0 ∷ 0x50 ∷ 0x30 ∷
    0 ∷ 0 ∷ 0 ∷ 0 ∷ 0 ∷ 0 ∷ 0 ∷ 0 ∷ 0 ∷ 0 ∷ 0xB4 ∷ 0x30 ∷ 0 ∷ 0 ∷ 0x70 ∷ 0x30 ∷ 0 ∷ 0 ∷ 0 ∷ 0 ∷ 0 ∷ 0 ∷ 0 ∷ 0 ∷ 0 ∷
    0 ∷ 0 ∷ 0 ∷ 0 ∷ 0 ∷ 0 ∷ 0 ∷ 0 ∷ 0 ∷ 0 ∷ 0 ∷ 0 ∷ 0 ∷ 0 ∷ 0 ∷ 0 ∷ 0 ∷ 0x80 ∷ 0x30 ∷ 0 ∷ 0 ∷ 0 ∷ 0 ∷ 0 ∷ 0 ∷ 0 ∷ 0 ∷
    0 ∷ 0 ∷ 0 ∷ 0 ∷ 0 ∷ 0 ∷ 0x8E ∷ 0x30 ∷ 0 ∷ 0 ∷ 0 ∷ 0 ∷ 0 ∷ 0 ∷ 0 ∷ 0 ∷ 0 ∷ 0 ∷ 0 ∷ 0 ∷ 0 ∷ 0 ∷ 0x80 ∷ 0x30 ∷ 0 ∷
    0 ∷ 0 ∷ 0 ∷ 0 ∷ 0 ∷ 0 ∷ 0 ∷ 0 ∷ 0 ∷ 0 ∷ 0 ∷ 0 ∷ 0 ∷ 0x8E ∷ 0x30 ∷ 0 ∷ 0 ∷ 0 ∷ 0 ∷ 0 ∷ 0 ∷ 0 ∷ 0 ∷ 0 ∷ 0 ∷ 0 ∷ 0 ∷
    0 ∷ 0 ∷ 1 ∷ 0 ∷ 0x45 ∷ 0x78 ∷ 0x69 ∷ 0x74 ∷ 0x50 ∷ 0x72 ∷ 0x6F ∷ 0x63 ∷ 0x65 ∷ 0x73 ∷ 0x73 ∷ 0 ∷ 0 ∷ 0 ∷ 0x7A ∷
    0x6F ∷ 0x6F ∷ 0x5F ∷ 0x6F ∷ 0x70 ∷ 0x65 ∷ 0x6E ∷ 0 ∷ 0 ∷ 0 ∷ 0 ∷ 0 ∷ 0x30 ∷ 0 ∷ 0 ∷ 0x6B ∷ 0x65 ∷ 0x72 ∷ 0x6E ∷
    0x65 ∷ 0x6C ∷ 0x33 ∷ 0x32 ∷ 0x2E ∷ 0x64 ∷ 0x6C ∷ 0x6C ∷ 0 ∷ 0 ∷ 0 ∷ 0 ∷ 0x14 ∷ 0x30 ∷ 0 ∷ 0 ∷ 0x7A ∷ 0x6F ∷ 0x6F ∷
    0x2E ∷ 0x64 ∷ 0x6C ∷ 0x6C ∷ 0 ∷ []

abbrev pub i386_gnu_written : List ℕ
i386_gnu_written =
    0x3C ∷ 0x30 ∷ 0 ∷ 0 ∷ 0 ∷ 0 ∷ 0 ∷ 0 ∷ 0 ∷ 0 ∷ 0 ∷ 0 ∷ 0x7C ∷ 0x30 ∷ 0 ∷ 0 ∷ 0x4C ∷ 0x30 ∷ 0 ∷ 0 ∷ 0x44 ∷ 0x30 ∷
    0 ∷ 0 ∷ 0 ∷ 0 ∷ 0 ∷ 0 ∷ 0 ∷ 0 ∷ 0 ∷ 0 ∷ 0x90 ∷ 0x30 ∷ 0 ∷ 0 ∷ 0x54 ∷ 0x30 ∷ 0 ∷ 0 ∷ 0 ∷ 0 ∷ 0 ∷ 0 ∷ 0 ∷ 0 ∷ 0 ∷
    0 ∷ 0 ∷ 0 ∷ 0 ∷ 0 ∷ 0 ∷ 0 ∷ 0 ∷ 0 ∷ 0 ∷ 0 ∷ 0 ∷ 0 ∷ 0x5C ∷ 0x30 ∷ 0 ∷ 0 ∷ 0 ∷ 0 ∷ 0 ∷ 0 ∷ 0x6A ∷ 0x30 ∷ 0 ∷ 0 ∷
    0 ∷ 0 ∷ 0 ∷ 0 ∷ 0x5C ∷ 0x30 ∷ 0 ∷ 0 ∷ 0 ∷ 0 ∷ 0 ∷ 0 ∷ 0x6A ∷ 0x30 ∷ 0 ∷ 0 ∷ 0 ∷ 0 ∷ 0 ∷ 0 ∷ 1 ∷ 0 ∷ 0x45 ∷ 0x78 ∷
    0x69 ∷ 0x74 ∷ 0x50 ∷ 0x72 ∷ 0x6F ∷ 0x63 ∷ 0x65 ∷ 0x73 ∷ 0x73 ∷ 0 ∷ 0 ∷ 0 ∷ 0x7A ∷ 0x6F ∷ 0x6F ∷ 0x5F ∷ 0x6F ∷
    0x70 ∷ 0x65 ∷ 0x6E ∷ 0 ∷ 0 ∷ 0 ∷ 0 ∷ 0 ∷ 0x30 ∷ 0 ∷ 0 ∷ 0x6B ∷ 0x65 ∷ 0x72 ∷ 0x6E ∷ 0x65 ∷ 0x6C ∷ 0x33 ∷ 0x32 ∷
    0x2E ∷ 0x64 ∷ 0x6C ∷ 0x6C ∷ 0 ∷ 0 ∷ 0 ∷ 0 ∷ 0x14 ∷ 0x30 ∷ 0 ∷ 0 ∷ 0x7A ∷ 0x6F ∷ 0x6F ∷ 0x2E ∷ 0x64 ∷ 0x6C ∷ 0x6C ∷
    0 ∷ []

-- an entry that asks by a name, and a table
abbrev pub asking : List ℕ → ℕ → List ℕ → TableEntry
asking name hint symbol = record { ask = Name name hint; symbol = Some symbol }

abbrev pub table_at : List ℕ → ℕ → List TableEntry → Table
table_at dll address entries = record { dll = dll; address = address; entries = entries }

-- kernel32.dll of dlltool, and zoo.dll of ours behind it
abbrev pub kernel_part : List (List ℕ) → List ℕ → ℕ → Part
kernel_part files symbol hint = record {
  objects = objects_of files;
  table = record {
    dll = codes "kernel32.dll";
    entries = asking (codes "ExitProcess") hint symbol ∷ [];
  };
}

abbrev pub kernel : Part
kernel = kernel_part (kernel_head_bytes ∷ exit_bytes ∷ kernel_tail_bytes ∷ [])
    (codes "__imp_ExitProcess") 1

abbrev pub i386_kernel : Part
i386_kernel =
    kernel_part (i386_kernel_head_bytes ∷ i386_exit_bytes ∷ i386_kernel_tail_bytes ∷ [])
    (codes "__imp__ExitProcess@4") 1

abbrev pub zoo_input : MachineType → List ℕ → LinkInput
zoo_input machine symbol =
    chosen_input machine (of_dll (codes "zoo.dll") (plain_export symbol ∷ [])) (0 ∷ [])

abbrev pub zoo : LinkInput
zoo = zoo_input AMD64 (codes "zoo_open")

abbrev pub i386_zoo : LinkInput
i386_zoo = zoo_input I386 (codes "_zoo_open")

abbrev pub zoo_parts : List Part
zoo_parts = kernel ∷ part_of AMD64 zoo ∷ []

abbrev pub i386_zoo_parts : List Part
i386_zoo_parts = i386_kernel ∷ part_of I386 i386_zoo ∷ []

abbrev pub zoo_objects : List Object
zoo_objects = objects_of (start_bytes ∷ [])
    ++ (kernel.objects ++ (input_objects AMD64 zoo ++ null_descriptor ∷ []))

abbrev pub i386_zoo_objects : List Object
i386_zoo_objects = objects_of (i386_start_bytes ∷ [])
    ++ (i386_kernel.objects ++ (input_objects I386 i386_zoo ++ null_descriptor ∷ []))

-- where the linkers put the groups
abbrev pub gnu_bases : Bases
gnu_bases = record {
  descriptors = 0x3000;
  directory_ends = 0x303C;
  lookups = 0x3040;
  addresses = 0x3060;
  hint_names = 0x3080;
  dll_names = 0x309C;
}

abbrev pub i386_gnu_bases : Bases
i386_gnu_bases = record {
  descriptors = 0x3000;
  directory_ends = 0x303C;
  lookups = 0x303C;
  addresses = 0x304C;
  hint_names = 0x305C;
  dll_names = 0x3078;
}

-- so many of the bytes that are written from an address on, at a later one
abbrev pub range_of : List ℕ → ℕ → ℕ → ℕ → Range
range_of written from start count =
    record { start = start; bytes = take count (drop (start - from) written) }

abbrev pub gnu_image : List Range
gnu_image = range_of gnu_written 0x3000 0x3000 60 ∷ range_of gnu_written 0x3000 0x3040 32
    ∷ range_of gnu_written 0x3000 0x3060 32
    ∷ range_of gnu_written 0x3000 0x3080 25 ∷ range_of gnu_written 0x3000 0x309C 32 ∷ []

abbrev pub i386_gnu_image : List Range
i386_gnu_image = range_of i386_gnu_written 0x3000 0x3000 60
    ∷ range_of i386_gnu_written 0x3000 0x303C 16 ∷ range_of i386_gnu_written 0x3000 0x304C 16
    ∷ range_of i386_gnu_written 0x3000 0x305C 25 ∷ range_of i386_gnu_written 0x3000 0x3078 32 ∷ []

abbrev pub zoo_tables : ℕ → ℕ → List Table
zoo_tables first second =
    table_at (codes "kernel32.dll") first
    (asking (codes "ExitProcess") 1 (codes "__imp_ExitProcess") ∷ [])
    ∷ table_at (codes "zoo.dll") second (asking (codes "zoo_open") 0 (codes "__imp_zoo_open") ∷ [])
    ∷ []

abbrev pub i386_zoo_tables : ℕ → ℕ → List Table
i386_zoo_tables first second =
    table_at (codes "kernel32.dll") first
    (asking (codes "ExitProcess") 1 (codes "__imp__ExitProcess@4") ∷ [])
    ∷ table_at (codes "zoo.dll") second (asking (codes "zoo_open") 0 (codes "__imp__zoo_open") ∷ [])
    ∷ []

-- A program of parts whose image is what a linker wrote, byte for byte: so these are its import
-- tables, and they store no address whole.
pub record IsWritten (machine : MachineType) (bases : Bases) (parts : List Part)
    (objects : List Object) (written : List Range) (tables : List Table) : Type 0 where
  pub parts_are : AllByRecursion (IsPart machine) parts
  pub program : IsProgramOfParts machine bases parts objects
  pub image : image_of machine bases (placed_from bases objects) ≡ written
  pub tables_are : AreTables machine (record {
    image = written;
    linked = placed_from bases objects;
    directory = bases.descriptors;
    tables = tables;
  })
  pub steady : AreSteady machine (placed_from bases objects)

pub record WorkedParts : Type 0 where
  pub gnu : IsWritten AMD64 gnu_bases zoo_parts zoo_objects gnu_image (zoo_tables 0x3060 0x3070)
  pub i386_gnu : IsWritten I386 i386_gnu_bases i386_zoo_parts i386_zoo_objects i386_gnu_image
      (i386_zoo_tables 0x304C 0x3054)

-- On AMD64, as GNU ld linked it for 0x140000000: the object's code, which calls through the entry
-- of `zoo_open`, by that name and by a pointer of its own at 0x2000, and jumps through the entry of
-- `ExitProcess`; and the stub of `zoo_open`.
abbrev pub zoo_linked : List Placed
zoo_linked = placed_from gnu_bases zoo_objects

abbrev pub placed_or_null : Option Placed → Placed
placed_or_null None = record { object = null_descriptor; section_addresses = [] }
placed_or_null (Some p) = p

abbrev pub first_section : List ObjectSection → ObjectSection
first_section [] = section [] 0 [] []
first_section (s ∷ sections) = s

-- the first section of the object of a number
abbrev pub code_of_number : ℕ → ℕ → List ℕ → LinkedCode
code_of_number index position bytes = record {
  from = placed_or_null (slice_get zoo_linked index);
  number = 1;
  code = first_section (placed_or_null (slice_get zoo_linked index)).object.sections;
  position = position;
  bytes = bytes;
}

abbrev pub start_code : LinkedCode
start_code = code_of_number 0 0x1000 (0x53 ∷ 0x48 ∷ 0x83 ∷ 0xEC ∷ 0x20 ∷ 0xFF ∷ 0x15 ∷ 0x65 ∷ 0x20 ∷ 0 ∷ 0 ∷ 0x89 ∷ 0xC3
    ∷ 0xE8 ∷ 0x1E ∷ 0 ∷ 0 ∷ 0 ∷ 1 ∷ 0xC3 ∷ 0xFF ∷ 0x15 ∷ 0xE6 ∷ 0x0F ∷ 0 ∷ 0 ∷ 0x48 ∷ 0x83 ∷ 0xC4 ∷ 0x20 ∷ 0x8D ∷ 0x0C ∷ 3
    ∷ 0x5B ∷ 0xFF ∷ 0x25 ∷ 0x38 ∷ 0x20 ∷ 0 ∷ 0 ∷ 0x90 ∷ 0x90 ∷ 0x90 ∷ 0x90 ∷ 0x90 ∷ 0x90 ∷ 0x90 ∷ 0x90 ∷ [])

abbrev pub stub_code : LinkedCode
stub_code = code_of_number 5 0x1030 (0xFF ∷ 0x25 ∷ 0x3A ∷ 0x20 ∷ 0 ∷ 0 ∷ 0x90 ∷ 0x90 ∷ [])

abbrev pub zoo_codes : List LinkedCode
zoo_codes = start_code ∷ stub_code ∷ []

abbrev pub zoo_targets : LinkedCode → ℕ → ℕ
zoo_targets c index = taken_address
    (λ name. if bytes_eq name (codes ".data") then 0x2000 else 0x1030) zoo_linked c.from
    (slice_get c.from.object.entries index)

abbrev pub zoo_memory : List Range
zoo_memory = gnu_image ++ ranges_of_codes zoo_codes

-- what the image's base is, and an instruction there that goes to what a DLL gives
abbrev pub ArrivesAt : List Range → ℕ → List ℕ → List ℕ → List ℕ → Type 0
ArrivesAt memory position head name bytes =
    InstructionArrives AMD64 0x1_4000_0000 zoo_linked memory position head [] name bytes

-- The code is in memory beside the tables, and has a call and a jump through entries; so where a
-- loader that knows nothing else has read them, it stopped after two descriptors, and both go to
-- what their DLLs give.
pub record WorkedReach : Type 0 where
  pub at : AreInMemory AMD64 0x1_4000_0000 gnu_image zoo_linked zoo_codes zoo_targets zoo_memory
  pub call : HasInstruction AMD64 start_code 5 (0xFF ∷ 0x15 ∷ []) [] (codes "__imp_zoo_open")
  pub jump : HasInstruction AMD64 start_code 34 (0xFF ∷ 0x25 ∷ []) [] (codes "__imp_ExitProcess")
  pub arrive : (gives : List ℕ → Ask → List ℕ) (n : ℕ) (written : List Range) →
      ((dll : List ℕ) (ask : Ask) → length (gives dll ask) ≡ 8) →
      ReadsAndWrites zoo_memory 8 gives n 0x3000 written →
      (n ≡ 2)
      × (ArrivesAt (written ++ zoo_memory) 0x1005 (0xFF ∷ 0x15 ∷ []) (codes "__imp_zoo_open")
      (gives (codes "zoo.dll") (Name (codes "zoo_open") 0))
      × ArrivesAt (written ++ zoo_memory) 0x1022 (0xFF ∷ 0x25 ∷ []) (codes "__imp_ExitProcess")
      (gives (codes "kernel32.dll") (Name (codes "ExitProcess") 1)))

-- the object's file with other names in the place of `zoo_open` and `__imp_zoo_open`, as long as
-- these
abbrev pub named_start : List ℕ → List ℕ → List ℕ
named_start bare address =
    take 488 start_bytes
    ++ (bare ++ (take 14 (drop 496 start_bytes) ++ (address ++ drop 524 start_bytes)))

-- zoo.dll with an export of a name, on a machine
abbrev pub zoo_definition : List ℕ → DefinitionView
zoo_definition name = of_dll (codes "zoo.dll") (plain_export name ∷ [])

abbrev pub zoo_with_older : MachineType → List ℕ → LinkInput
zoo_with_older machine name = record {
  definition = zoo_definition name;
  members = map member_of (older_specs (renamed (zoo_definition name)) machine);
  chosen = 0 ∷ [];
}

abbrev pub older_zoo : LinkInput
older_zoo = zoo_with_older AMD64 (codes "zoo_open")

abbrev pub i386_older_zoo : LinkInput
i386_older_zoo = zoo_with_older I386 (codes "_zoo_open")

-- with the older symbol for the entry, or today's
abbrev pub older_parts : (ExportView → Bool) → List Part
older_parts older = kernel ∷ older_part_of AMD64 older older_zoo ∷ []

abbrev pub i386_older_parts : List Part
i386_older_parts = i386_kernel ∷ older_part_of I386 (λ e. true) i386_older_zoo ∷ []

abbrev pub older_objects : List Object
older_objects = objects_of (named_start (codes "zoo_open") (codes "___impzoo_open") ∷ [])
    ++ (kernel.objects
    ++ ((older_part_of AMD64 (λ e. true) older_zoo).objects ++ null_descriptor ∷ []))

abbrev pub i386_older_start : List ℕ
i386_older_start =
    take 498 i386_start_bytes ++ (codes "___imp_zoo_open" ++ drop 513 i386_start_bytes)

abbrev pub i386_older_objects : List Object
i386_older_objects = objects_of (i386_older_start ∷ [])
    ++ (i386_kernel.objects
    ++ ((older_part_of I386 (λ e. true) i386_older_zoo).objects ++ null_descriptor ∷ []))

abbrev pub IsWrittenWith : (ExportView → Bool) → List ℕ → Type 0
IsWrittenWith older symbol = IsWritten AMD64 gnu_bases (older_parts older) older_objects gnu_image
    (table_at (codes "kernel32.dll") 0x3060
    (asking (codes "ExitProcess") 1 (codes "__imp_ExitProcess") ∷ [])
    ∷ table_at (codes "zoo.dll") 0x3070 (asking (codes "zoo_open") 0 symbol ∷ [])
    ∷ [])

pub record WorkedOlder : Type 0 where
  pub made : AreOlderMembersOf older_zoo.definition AMD64 older_zoo.members
  pub older : IsWrittenWith (λ e. true) (codes "___impzoo_open")
  pub today : IsWrittenWith (λ e. false) (codes "__imp_zoo_open")
  pub i386_made : AreOlderMembersOf i386_older_zoo.definition I386 i386_older_zoo.members
  pub i386_older : IsWritten I386 i386_gnu_bases i386_older_parts i386_older_objects i386_gnu_image
      (table_at (codes "kernel32.dll") 0x304C
      (asking (codes "ExitProcess") 1 (codes "__imp__ExitProcess@4") ∷ [])
      ∷ table_at (codes "zoo.dll") 0x3054
      (asking (codes "zoo_open") 0 (codes "___imp_zoo_open") ∷ [])
      ∷ [])

-- Import tables that lld-link 19.1.7 wrote on AMD64 of llvm-dlltool 19.1.7's short imports of
-- zoo.dll: `feed`, for which its third text has the DLL asked for `hay`, and `pat`. The code calls
-- through the entry of `feed`, calls it by its bare name, through lld's thunk at 0x1020, and loads
-- the entry of `pat`.

-- the section `.rdata`, from 0x2000 on
abbrev pub third_written : List ℕ
third_written =
    0x28 ∷ 0x20 ∷ 0 ∷ 0 ∷ 0 ∷ 0 ∷ 0 ∷ 0 ∷ 0 ∷ 0 ∷ 0 ∷ 0 ∷ 0x64 ∷ 0x20 ∷ 0 ∷ 0 ∷ 0x40 ∷ 0x20 ∷ 0 ∷ 0 ∷ 0 ∷ 0 ∷ 0 ∷ 0 ∷ 0 ∷
    0 ∷ 0 ∷ 0 ∷ 0 ∷ 0 ∷ 0 ∷ 0 ∷ 0 ∷ 0 ∷ 0 ∷ 0 ∷ 0 ∷ 0 ∷ 0 ∷ 0 ∷ 0x58 ∷ 0x20 ∷ 0 ∷ 0 ∷ 0 ∷ 0 ∷ 0 ∷ 0 ∷ 0x5E ∷ 0x20 ∷ 0 ∷ 0 ∷
    0 ∷ 0 ∷ 0 ∷ 0 ∷ 0 ∷ 0 ∷ 0 ∷ 0 ∷ 0 ∷ 0 ∷ 0 ∷ 0 ∷ 0x58 ∷ 0x20 ∷ 0 ∷ 0 ∷ 0 ∷ 0 ∷ 0 ∷ 0 ∷ 0x5E ∷ 0x20 ∷ 0 ∷ 0 ∷ 0 ∷ 0 ∷ 0 ∷
    0 ∷ 0 ∷ 0 ∷ 0 ∷ 0 ∷ 0 ∷ 0 ∷ 0 ∷ 0 ∷ 0 ∷ 0 ∷ 0x68 ∷ 0x61 ∷ 0x79 ∷ 0 ∷ 3 ∷ 0 ∷ 0x70 ∷ 0x61 ∷ 0x74 ∷ 0 ∷ 0x7A ∷ 0x6F ∷ 0x6F
    ∷ 0x2E ∷ 0x64 ∷ 0x6C ∷ 0x6C ∷ 0 ∷ []

abbrev pub third_image : List Range
third_image = record { start = 0x2000; bytes = third_written } ∷ []

-- what its DLL is asked for, under which symbols
abbrev pub block_asking : List ℕ → Block
block_asking name = record {
  dll = codes "zoo.dll";
  entries = asking name 0 (codes "__imp_feed") ∷ asking (codes "pat") 3 (codes "__imp_pat") ∷ [];
}

abbrev pub third_tables : List Table
third_tables = packed_tables 8 0x2040 (block_asking (codes "hay") ∷ [])

-- the short imports, by their symbols, as lld's tables define these
abbrev pub third_feed : ShortImport
third_feed = short_on AMD64 (codes "zoo.dll") (codes "feed") 0 1

abbrev pub third_shorts : List ShortImport
third_shorts = short_on AMD64 (codes "zoo.dll") (codes "pat") 3 1 ∷ third_feed ∷ []

abbrev pub third_section : ObjectSection
third_section = section text_name (cnt_code + align_16bytes + mem_execute_read)
    (0xFF ∷ 0x15 ∷ 0 ∷ 0 ∷ 0 ∷ 0 ∷ 0xE8 ∷ 0 ∷ 0 ∷ 0 ∷ 0 ∷ 0x48 ∷ 0x8B ∷ 5 ∷ 0 ∷ 0 ∷ 0 ∷ 0 ∷ 0xC3 ∷ [])
    (record { offset = 2; symbol = 1; kind = amd64_rel32 }
    ∷ record { offset = 7; symbol = 2; kind = amd64_rel32 }
    ∷ record { offset = 14; symbol = 3; kind = amd64_rel32 }
    ∷ [])

abbrev pub third_object : Placed
third_object = record {
  object = object_with (machine_number AMD64) (third_section ∷ []) (
      symbol_of_class (codes "main") 1 class_external
      ∷ symbol_of_class (codes "__imp_feed") 0 class_external
      ∷ symbol_of_class (codes "feed") 0 class_external
      ∷ symbol_of_class (codes "__imp_pat") 0 class_external
      ∷ []);
  section_addresses = Unplaced ∷ [];
}

abbrev pub third_linked : List Placed
third_linked =
    third_object ∷ placed_by_lld AMD64 0x2040 third_shorts ∷ placed_thunk AMD64 third_feed ∷ []

abbrev pub third_code : LinkedCode
third_code = record {
  from = third_object;
  number = 1;
  code = third_section;
  position = 0x1000;
  bytes = 0xFF ∷ 0x15 ∷ 0x3A ∷ 0x10 ∷ 0 ∷ 0 ∷ 0xE8 ∷ 0x15 ∷ 0 ∷ 0 ∷ 0 ∷ 0x48 ∷ 0x8B ∷ 5 ∷ 0x36 ∷ 0x10 ∷ 0 ∷ 0 ∷ 0xC3 ∷ [];
}

abbrev pub third_thunk : LinkedCode
third_thunk = record {
  from = placed_thunk AMD64 third_feed;
  number = 1;
  code = thunk_section AMD64;
  position = 0x1020;
  bytes = 0xFF ∷ 0x25 ∷ 0x1A ∷ 0x10 ∷ 0 ∷ 0 ∷ [];
}

abbrev pub third_codes : List LinkedCode
third_codes = third_code ∷ third_thunk ∷ []

abbrev pub third_targets : LinkedCode → ℕ → ℕ
third_targets c index =
    taken_address (λ name. 0x1020) third_linked c.from (slice_get c.from.object.entries index)

abbrev pub third_memory : List Range
third_memory = third_image ++ ranges_of_codes third_codes

abbrev pub PiecesAsk : List ℕ → Type 0
PiecesAsk name = ArePiecesAt AMD64 third_image 0x2000 0x2028 0x2040 0x2058 0x2064
    (map imported_by_table (packed_tables 8 0x2040 (block_asking name ∷ [])))

-- The tables are these, and the code is beside them; so where a loader that knows nothing else has
-- read them, what goes by `feed` goes to what the DLL gives for `hay`.
pub record WorkedThirdTexts : Type 0 where
  pub written : built_bytes AMD64 0x2000 (map imported_by_table third_tables) ≡ third_written
  pub pieces : PiecesAsk (codes "hay")
  pub tables : AreTables AMD64
      (record {
        image = third_image;
        linked = third_linked;
        directory = 0x2000;
        tables = third_tables;
      })
  pub steady : AreSteady AMD64 third_linked
  pub beside : AreLinkedBeside AMD64 0x1_4000_0000 third_image third_linked third_codes
      third_targets
  pub through_entry : HasInstruction AMD64 third_code 0 (0xFF ∷ 0x15 ∷ []) [] (codes "__imp_feed")
  pub call : HasBranch AMD64 third_code 7 0 (codes "feed")
  pub arrive : (gives : List ℕ → Ask → List ℕ) (n : ℕ) (written : List Range) →
      ((dll : List ℕ) (ask : Ask) → length (gives dll ask) ≡ 8) →
      ReadsAndWrites third_memory 8 gives n 0x2000 written →
      AllLead AMD64 0x1_4000_0000 third_linked third_codes (written ++ third_memory)
      (codes "__imp_feed")
      (gives (codes "zoo.dll") (Name (codes "hay") 0))
      × BranchArrivesByThunk AMD64 0x1_4000_0000 (written ++ third_memory) 0x1007 0
      (gives (codes "zoo.dll") (Name (codes "hay") 0))
