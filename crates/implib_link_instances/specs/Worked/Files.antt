-- The programs by hand, loaded by hand and called: that they meet what the laws ask for, and what
-- the laws say of them.
use Rattle.implib_link.specs.Tables.{AreTablesLoaded, block_of_flavor, tables_at, AreTables, Tables}
use Rattle.implib_link.specs.Tables.{block_of_group, tables_of_lld}
use Rattle.std.specs.Prelude.{List, [], length, map, slice_index, ℕ, ◌++◌, ◌-◌, ◌∷◌, ◌≡◌, None, Ok}
use Rattle.std.specs.Prelude.{Some, drop, ◌*◌}
use Rattle.implib.specs.declared.machine.MachineType.{MachineType}
use Rattle.implib.specs.declared.machine.MachineType.TheVariants.{AMD64, I386, ARM64, ARMNT}
use Rattle.implib.specs.Import.{Ask, Name, Ordinal}
use Rattle.implib.specs.Link.Image.{Range}
use Rattle.implib.specs.Link.Placement.{Bases}
use Rattle.implib.specs.Members.ImportTables.{thunk_width, zeros}
use Rattle.implib_link.specs.Directory.{WalkFinds, imported, Imported}
use Rattle.implib_link.specs.Gnu.Writing.{Writes, ReadsAndWrites, AreAlike, WritesAsItGoes}
use Rattle.implib_link.specs.Flavors.Program.{LinksAmong, gnu_input}
use Rattle.implib_link_instances.specs.Worked.Programs.{both_inputs, program_image, program_objects}
use Rattle.implib_link_instances.specs.Worked.Programs.{touching_4, touching_8, addresses_on}
use Rattle.implib_link_instances.specs.Worked.Programs.{linked_thunk, lld_image_on, shorts_on}
use Rattle.implib_link_instances.specs.Worked.Programs.{tables_on}
use Rattle.implib.specs.Link.Linked.{AllLink}
use Rattle.implib.specs.Link.LinkedMembers.{all_linked, objects_in}
use Rattle.implib_link_instances.specs.Worked.Operands.{moved_memory, given_on}
use Rattle.std.specs.List.{AllByRecursion}
use Rattle.implib_dll.specs.Digits.{changed, hex}
use Rattle.implib_link.specs.Image.Files.{LoadsFile, MappedFile, mapped_file}
use Rattle.implib_link.specs.Image.Laws.{HasTable, IsFileOf, thunks_with_nulls}
use Rattle.implib_link.specs.Flavors.LldImports.{grouped}
use Rattle.implib_link.specs.Gnu.Fields.{AreLinkedBeside, ranges_of_codes}
use Rattle.implib_link.specs.Gnu.Stored.{AreFurtherHeld}
use Rattle.implib_link_instances.specs.Worked.Stored.{held_linked, holding_codes, holding_placed}
use Rattle.implib_link_instances.specs.Worked.Stored.{holding_targets, picking_linked}
use Rattle.implib_link_instances.specs.Worked.Stored.{unwind_linked}
use Rattle.implib_dll.specs.WorkedFiles.{worked_pe32}

-- what DLLs give by hand: the ordinal or the name's first letter, the DLL's first letter, and zeros
abbrev pub gives_by_hand : MachineType → List ℕ → Ask → List ℕ
gives_by_hand machine dll (Ordinal n) = n ∷ slice_index dll 0 ∷ zeros (thunk_width machine - 2)
gives_by_hand machine dll (Name text hint) =
    slice_index text 0 ∷ slice_index dll 0 ∷ zeros (thunk_width machine - 2)

-- an entry with two bytes and zeros
abbrev pub entry_of : MachineType → ℕ → ℕ → ℕ → Range
entry_of machine address first second =
    record { start = address; bytes = first ∷ second ∷ zeros (thunk_width machine - 2) }

-- what a loader writes: for `nine`, `open`, `stat` and `move` of foo.dll, and for `queue` of
-- zed.dll
abbrev pub written_8 : MachineType → List Range
written_8 machine =
    entry_of machine 120 9 0x66
    ∷ entry_of machine 128 0x6F 0x66
    ∷ entry_of machine 136 0x73 0x66
    ∷ entry_of machine 144 0x6D 0x66
    ∷ entry_of machine 160 0x71 0x7A
    ∷ []

abbrev pub written_4 : MachineType → List Range
written_4 machine =
    entry_of machine 92 9 0x66
    ∷ entry_of machine 96 0x6F 0x66
    ∷ entry_of machine 100 0x73 0x66
    ∷ entry_of machine 104 0x6D 0x66
    ∷ entry_of machine 112 0x71 0x7A
    ∷ []

-- The program of a machine links, and so do its members in any order; a walk of its directory finds
-- what it imports, and a loader writes this.
pub record WorkedLoad (machine : MachineType) (bases : Bases) (written : List Range) : Type 0 where
  pub links : LinksAmong machine bases (both_inputs machine) (program_objects machine)
  pub any_order : AllLink machine bases (both_inputs machine)
      (objects_in (all_linked machine (both_inputs machine)))
  pub walk : WalkFinds (program_image machine bases) (thunk_width machine) bases.descriptors
      (map (imported machine) (both_inputs machine))
  pub given : (dll : List ℕ) (ask : Ask) →
      length (gives_by_hand machine dll ask) ≡ thunk_width machine
  pub writes : Writes (program_image machine bases) (thunk_width machine) (gives_by_hand machine)
      bases.descriptors (map (imported machine) (both_inputs machine)) written
  pub loaded : AreTablesLoaded machine
      (tables_at machine bases (program_objects machine)
      (map (block_of_flavor machine) (map gnu_input (both_inputs machine))))
      (gives_by_hand machine) written

-- on two machines
pub record WorkedLoads : Type 0 where
  pub amd64 : WorkedLoad AMD64 touching_8 (written_8 AMD64)
  pub i386 : WorkedLoad I386 touching_4 (written_4 I386)

-- A loader that writes as it goes, by hand: what it leaves of the programs that are linked by hand.

-- what is left in front of the image, the last entry first: `queue` of zed.dll, and `move`, `stat`,
-- `open` and `nine` of foo.dll
abbrev pub left_8 : MachineType → List Range
left_8 machine =
    entry_of machine 160 0x71 0x7A
    ∷ entry_of machine 144 0x6D 0x66
    ∷ entry_of machine 136 0x73 0x66
    ∷ entry_of machine 128 0x6F 0x66
    ∷ entry_of machine 120 9 0x66
    ∷ []

abbrev pub left_4 : MachineType → List Range
left_4 machine =
    entry_of machine 112 0x71 0x7A
    ∷ entry_of machine 104 0x6D 0x66
    ∷ entry_of machine 100 0x73 0x66
    ∷ entry_of machine 96 0x6F 0x66
    ∷ entry_of machine 92 9 0x66
    ∷ []

-- A loader of a program asks for what it imports and leaves this; and each loader that writes as it
-- goes does.
pub record WorkedWriting (machine : MachineType) (bases : Bases) (left : List Range) : Type 0 where
  pub runs : WritesAsItGoes (thunk_width machine) (gives_by_hand machine) bases.descriptors
      (program_image machine bases) (map (imported machine) (both_inputs machine))
      (left ++ program_image machine bases)
  pub once : (found : List Imported) (after : List Range) →
      WritesAsItGoes (thunk_width machine) (gives_by_hand machine) bases.descriptors
      (program_image machine bases) found after →
      (found ≡ map (imported machine) (both_inputs machine))
      × (after ≡ left ++ program_image machine bases)

pub record WorkedWritings : Type 0 where
  pub amd64 : WorkedWriting AMD64 touching_8 (left_8 AMD64)
  pub i386 : WorkedWriting I386 touching_4 (left_4 I386)
  -- I386's program of Worked/Operands at another base, and that of both flavours there: it leaves
  -- what one that reads first leaves
  pub moved : (found : List Imported) (after : List Range) →
      WritesAsItGoes 4 (given_on I386) touching_4.descriptors (moved_memory I386 touching_4) found
      after →
      (found ≡ map (imported I386) (both_inputs I386)) × ((written : List Range)
      × (ReadsAndWrites (moved_memory I386 touching_4) 4 (given_on I386) 2 touching_4.descriptors
      written
      × AreAlike after (written ++ moved_memory I386 touching_4)))
  pub moved_end : (after : List Range)
      × WritesAsItGoes 4 (given_on I386) touching_4.descriptors (moved_memory I386 touching_4)
      (map (imported I386) (both_inputs I386)) after

-- Files that linkers wrote, as a loader maps them: those of Worked/Stored by lld-link 14.0.6,
-- whole, for three machines; and one by GNU ld 2.40 for AMD64, of an object by gcc 12 with a
-- library of implib_dlltool and one of GNU dlltool, whole.

-- what is behind the headers, from 0x400 on: the sections, each filled with zeros to 512 bytes; of
-- the last two, unwind information and base relocations, the bytes as they are in the file the
-- headers of the file for I386
unfoldable pub i386_headers : List ℕ
i386_headers =
    (hex "4d 5a 78 00 01 00 00 00 04 00 00 00 00 00 00 00 00 00 00 00 00 00 00 00 40"
    ++ (zeros 35
    ++ (hex "78 00 00 00 0e 1f ba 0e 00 b4 09 cd 21 b8 01 4c cd 21 54 68 69 73 20 70 72 6f 67 72"
    ++ (hex "61 6d 20 63 61 6e 6e 6f 74 20 62 65 20 72 75 6e 20 69 6e 20 44 4f 53 20 6d 6f 64 65"
    ++ (hex "2e 24 00 00 50 45 00 00 4c 01 04 00 7b 83 0a 6b 00 00 00 00 00 00 00 00 e0 00 02 01"
    ++ (hex "0b 01 0e 00 00 02 00 00 00 06 00 00 00 00 00 00 00 10 00 00 00 10 00 00 00 00 00 00"
    ++ (hex "00 00 40 00 00 10 00 00 00 02 00 00 06 00 00 00 00 00 00 00 06 00 00 00 00 00 00 00"
    ++ (hex "00 50 00 00 00 04 00 00 00 00 00 00 03 00 40 85 00 00 10 00 00 10 00 00 00 00 10 00"
    ++ (hex "00 10 00 00 00 00 00 00 10 00 00 00 00 00 00 00 00 00 00 00 00 20 00 00 3c"
    ++ (zeros 28
    ++ (hex "40 00 00 1c"
    ++ (zeros 51
    ++ (hex "50 20 00 00 14"
    ++ (zeros 27
    ++ (hex "2e 74 65 78 74 00 00 00 18 00 00 00 00 10 00 00 00 02 00 00 00 04 00 00 00 00 00 00"
    ++ (hex "00 00 00 00 00 00 00 00 20 00 00 60 2e 72 64 61 74 61 00 00 85 00 00 00 00 20 00 00"
    ++ (hex "00 02 00 00 00 06 00 00 00 00 00 00 00 00 00 00 00 00 00 00 40 00 00 40 2e 64 61 74"
    ++ (hex "61 00 00 00 08 00 00 00 00 30 00 00 00 02 00 00 00 08 00 00 00 00 00 00 00 00 00 00"
    ++ (hex "00 00 00 00 40 00 00 c0 2e 72 65 6c 6f 63 00 00 1c 00 00 00 00 40 00 00 00 02 00 00"
    ++ (hex "00 0a 00 00 00 00 00 00 00 00 00 00 00 00 00 00 40 00 00 42"
    ++ zeros 496))))))))))))))))))))

abbrev pub i386_reloc : List ℕ
i386_reloc =
    hex "00 10 00 00 10 00 00 00 02 30 08 30 0d 30 14 30 00 30 00 00 0c 00 00 00 04 30 00 00"
    ++ zeros 484

-- the headers of the file for AMD64
unfoldable pub amd64_headers : List ℕ
amd64_headers =
    (hex "4d 5a 78 00 01 00 00 00 04 00 00 00 00 00 00 00 00 00 00 00 00 00 00 00 40"
    ++ (zeros 35
    ++ (hex "78 00 00 00 0e 1f ba 0e 00 b4 09 cd 21 b8 01 4c cd 21 54 68 69 73 20 70 72 6f 67 72"
    ++ (hex "61 6d 20 63 61 6e 6e 6f 74 20 62 65 20 72 75 6e 20 69 6e 20 44 4f 53 20 6d 6f 64 65"
    ++ (hex "2e 24 00 00 50 45 00 00 64 86 05 00 7b 83 0a 6b 00 00 00 00 00 00 00 00 f0 00 22 00"
    ++ (hex "0b 02 0e 00 00 02 00 00 00 08 00 00 00 00 00 00 00 10 00 00 00 10 00 00 00 00 00 40"
    ++ (hex "01 00 00 00 00 10 00 00 00 02 00 00 06 00 00 00 00 00 00 00 06 00 00 00 00 00 00 00"
    ++ (hex "00 60 00 00 00 04 00 00 00 00 00 00 03 00 60 81 00 00 10 00 00 00 00 00 00 10 00 00"
    ++ (hex "00 00 00 00 00 00 10 00 00 00 00 00 00 10 00 00 00 00 00 00 00 00 00 00 10 00 00 00"
    ++ (hex "00 00 00 00 00 00 00 00 00 20 00 00 3c 00 00 00 00 00 00 00 00 00 00 00 00 40 00 00"
    ++ (hex "0c 00 00 00 00 00 00 00 00 00 00 00 00 50 00 00 0c"
    ++ (zeros 51
    ++ (hex "68 20 00 00 28"
    ++ (zeros 27
    ++ (hex "2e 74 65 78 74 00 00 00 26 00 00 00 00 10 00 00 00 02 00 00 00 04 00 00 00 00 00 00"
    ++ (hex "00 00 00 00 00 00 00 00 20 00 00 60 2e 72 64 61 74 61 00 00 b1 00 00 00 00 20 00 00"
    ++ (hex "00 02 00 00 00 06 00 00 00 00 00 00 00 00 00 00 00 00 00 00 40 00 00 40 2e 64 61 74"
    ++ (hex "61 00 00 00 1c 00 00 00 00 30 00 00 00 02 00 00 00 08 00 00 00 00 00 00 00 00 00 00"
    ++ (hex "00 00 00 00 40 00 00 c0 2e 70 64 61 74 61 00 00 0c 00 00 00 00 40 00 00 00 02 00 00"
    ++ (hex "00 0a 00 00 00 00 00 00 00 00 00 00 00 00 00 00 40 00 00 40 2e 72 65 6c 6f 63 00 00"
    ++ (hex "0c 00 00 00 00 50 00 00 00 02 00 00 00 0c 00 00 00 00 00 00 00 00 00 00 00 00 00 00"
    ++ (hex "40 00 00 42"
    ++ zeros 440))))))))))))))))))))))

abbrev pub amd64_pdata : List ℕ
amd64_pdata =
    hex "00 10 00 00 1c 10 00 00 10 30 00 00" ++ zeros 500

abbrev pub amd64_reloc : List ℕ
amd64_reloc =
    hex "00 30 00 00 0c 00 00 00 08 a0 00 00" ++ zeros 500

-- the headers of the file for ARM64
unfoldable pub arm64_headers : List ℕ
arm64_headers =
    (hex "4d 5a 78 00 01 00 00 00 04 00 00 00 00 00 00 00 00 00 00 00 00 00 00 00 40"
    ++ (zeros 35
    ++ (hex "78 00 00 00 0e 1f ba 0e 00 b4 09 cd 21 b8 01 4c cd 21 54 68 69 73 20 70 72 6f 67 72"
    ++ (hex "61 6d 20 63 61 6e 6e 6f 74 20 62 65 20 72 75 6e 20 69 6e 20 44 4f 53 20 6d 6f 64 65"
    ++ (hex "2e 24 00 00 50 45 00 00 64 aa 05 00 7b 83 0a 6b 00 00 00 00 00 00 00 00 f0 00 22 00"
    ++ (hex "0b 02 0e 00 00 02 00 00 00 08 00 00 00 00 00 00 00 10 00 00 00 10 00 00 00 00 00 40"
    ++ (hex "01 00 00 00 00 10 00 00 00 02 00 00 06 00 00 00 00 00 00 00 06 00 00 00 00 00 00 00"
    ++ (hex "00 60 00 00 00 04 00 00 00 00 00 00 03 00 60 81 00 00 10 00 00 00 00 00 00 10 00 00"
    ++ (hex "00 00 00 00 00 00 10 00 00 00 00 00 00 10 00 00 00 00 00 00 00 00 00 00 10 00 00 00"
    ++ (hex "00 00 00 00 00 00 00 00 00 20 00 00 3c 00 00 00 00 00 00 00 00 00 00 00 00 40 00 00"
    ++ (hex "08 00 00 00 00 00 00 00 00 00 00 00 00 50 00 00 0c"
    ++ (zeros 51
    ++ (hex "68 20 00 00 28"
    ++ (zeros 27
    ++ (hex "2e 74 65 78 74 00 00 00 38 00 00 00 00 10 00 00 00 02 00 00 00 04 00 00 00 00 00 00"
    ++ (hex "00 00 00 00 00 00 00 00 20 00 00 60 2e 72 64 61 74 61 00 00 b1 00 00 00 00 20 00 00"
    ++ (hex "00 02 00 00 00 06 00 00 00 00 00 00 00 00 00 00 00 00 00 00 40 00 00 40 2e 64 61 74"
    ++ (hex "61 00 00 00 1c 00 00 00 00 30 00 00 00 02 00 00 00 08 00 00 00 00 00 00 00 00 00 00"
    ++ (hex "00 00 00 00 40 00 00 c0 2e 70 64 61 74 61 00 00 08 00 00 00 00 40 00 00 00 02 00 00"
    ++ (hex "00 0a 00 00 00 00 00 00 00 00 00 00 00 00 00 00 40 00 00 40 2e 72 65 6c 6f 63 00 00"
    ++ (hex "0c 00 00 00 00 50 00 00 00 02 00 00 00 0c 00 00 00 00 00 00 00 00 00 00 00 00 00 00"
    ++ (hex "40 00 00 42"
    ++ zeros 440))))))))))))))))))))))

abbrev pub arm64_pdata : List ℕ
arm64_pdata =
    hex "00 10 00 00 10 30 00 00" ++ zeros 504

abbrev pub arm64_reloc : List ℕ
arm64_reloc =
    hex "00 30 00 00 0c 00 00 00 08 a0 00 00" ++ zeros 500

-- The sections in memory. The code, two or four bytes that no code reaches, the thunk; the import
-- tables; the pointers and the unwind data.
abbrev pub text_on : MachineType → List ℕ
text_on I386 = picking_linked I386 ++ (linked_thunk I386 ++ zeros 488)
text_on ARMNT = []
text_on AMD64 =
    picking_linked AMD64 ++ (0xCC ∷ 0xCC ∷ 0xCC ∷ 0xCC ∷ (linked_thunk AMD64 ++ zeros 474))
text_on ARM64 = picking_linked ARM64 ++ (linked_thunk ARM64 ++ zeros 456)

abbrev pub rdata_on : MachineType → List ℕ
rdata_on machine = tables_on machine ++ zeros (512 - length (tables_on machine))

abbrev pub data_on : MachineType → List ℕ
data_on machine =
    held_linked machine
    ++ (unwind_linked machine
    ++ zeros (512 - length (held_linked machine ++ unwind_linked machine)))

-- the files
unfoldable pub file_on : MachineType → List ℕ
file_on I386 =
    i386_headers ++ (text_on I386 ++ (rdata_on I386 ++ (data_on I386 ++ i386_reloc)))
file_on ARMNT = []
file_on AMD64 =
    amd64_headers
    ++ (text_on AMD64 ++ (rdata_on AMD64 ++ (data_on AMD64 ++ (amd64_pdata ++ amd64_reloc))))
file_on ARM64 =
    arm64_headers
    ++ (text_on ARM64 ++ (rdata_on ARM64 ++ (data_on ARM64 ++ (arm64_pdata ++ arm64_reloc))))

-- and what a loader makes of them: the machine's number, the width of thunks, the base, the
-- sections, data directories 1 and 12
abbrev pub mapped_on : MachineType → MappedFile
mapped_on I386 = record {
  machine = 0x14C;
  width = 4;
  base = 0x40_0000;
  image = record { start = 0x1000; bytes = text_on I386 }
      ∷ record { start = 0x2000; bytes = rdata_on I386 }
      ∷ record { start = 0x3000; bytes = data_on I386 }
      ∷ record { start = 0x4000; bytes = i386_reloc }
      ∷ [];
  imports = Some (record { address = 0x2000; size = 0x3C });
  addresses = Some (record { address = 0x2050; size = 0x14 });
}
mapped_on ARMNT = record {
  machine = 0;
  width = 0;
  base = 0;
  image = [];
  imports = None;
  addresses = None;
}
mapped_on AMD64 = record {
  machine = 0x8664;
  width = 8;
  base = 0x1_4000_0000;
  image = record { start = 0x1000; bytes = text_on AMD64 }
      ∷ record { start = 0x2000; bytes = rdata_on AMD64 }
      ∷ record { start = 0x3000; bytes = data_on AMD64 }
      ∷ record { start = 0x4000; bytes = amd64_pdata }
      ∷ record { start = 0x5000; bytes = amd64_reloc }
      ∷ [];
  imports = Some (record { address = 0x2000; size = 0x3C });
  addresses = Some (record { address = 0x2068; size = 0x28 });
}
mapped_on ARM64 = record {
  machine = 0xAA64;
  width = 8;
  base = 0x1_4000_0000;
  image = record { start = 0x1000; bytes = text_on ARM64 }
      ∷ record { start = 0x2000; bytes = rdata_on ARM64 }
      ∷ record { start = 0x3000; bytes = data_on ARM64 }
      ∷ record { start = 0x4000; bytes = arm64_pdata }
      ∷ record { start = 0x5000; bytes = arm64_reloc }
      ∷ [];
  imports = Some (record { address = 0x2000; size = 0x3C });
  addresses = Some (record { address = 0x2068; size = 0x28 });
}

-- The file is that of the program of Worked/Stored, with its code, at the base that it has; the
-- program's tables are in data directory 12, which has just the room that they need.
abbrev pub tables_in : MachineType → Tables
tables_in machine =
    tables_of_lld machine 0x2000 (addresses_on machine) (shorts_on machine) (lld_image_on machine)
    (holding_placed machine)

pub record WorkedFile (machine : MachineType) (address size : ℕ) : Type 0 where
  pub is : IsFileOf machine 0x2000
      (lld_image_on machine ++ ranges_of_codes (holding_codes machine)) (file_on machine)
      (mapped_on machine)
  pub beside : AreLinkedBeside machine (mapped_on machine).base (lld_image_on machine)
      (holding_placed machine) (holding_codes machine) (holding_targets machine)
  pub further : AreFurtherHeld machine (mapped_on machine).base (holding_codes machine)
      (holding_targets machine)
  pub tables : AreTables machine (tables_in machine)
  pub addresses : (mapped_on machine).addresses ≡ Some (record { address = address; size = size })
  pub inside : AllByRecursion
      (HasTable (thunk_width machine) (record { address = address; size = size }))
      (tables_in machine).tables
  pub exact : size
      ≡ thunk_width machine * thunks_with_nulls (map block_of_group (grouped (shorts_on machine)))

-- The file of GNU ld: its headers and its sections. Data directory 1 has all of `.idata`, 12 the
-- address tables in it.
unfoldable pub gnu_headers : List ℕ
gnu_headers =
    (hex "4d 5a 90 00 03 00 00 00 04 00 00 00 ff ff 00 00 b8 00 00 00 00 00 00 00 40"
    ++ (zeros 35
    ++ (hex "80 00 00 00 0e 1f ba 0e 00 b4 09 cd 21 b8 01 4c cd 21 54 68 69 73 20 70 72 6f 67 72"
    ++ (hex "61 6d 20 63 61 6e 6e 6f 74 20 62 65 20 72 75 6e 20 69 6e 20 44 4f 53 20 6d 6f 64 65"
    ++ (hex "2e 0d 0d 0a 24 00 00 00 00 00 00 00 50 45 00 00 64 86 04 00 00 00 00 00 00 00 00 00"
    ++ (hex "00 00 00 00 f0 00 2e 02 0b 02 02 28 00 02 00 00 00 06 00 00 00 00 00 00 00 10 00 00"
    ++ (hex "00 10 00 00 00 00 00 40 01 00 00 00 00 10 00 00 00 02 00 00 04 00 00 00 00 00 00 00"
    ++ (hex "05 00 02 00 00 00 00 00 00 50 00 00 00 04 00 00 94 06 01 00 03 00 60 01 00 00 20 00"
    ++ (hex "00 00 00 00 00 10 00 00 00 00 00 00 00 00 10 00 00 00 00 00 00 10 00 00 00 00 00 00"
    ++ (hex "00 00 00 00 10 00 00 00 00 00 00 00 00 00 00 00 00 30 00 00 bc"
    ++ (zeros 28
    ++ (hex "40 00 00 0c"
    ++ (zeros 51
    ++ (hex "60 30 00 00 20"
    ++ (zeros 27
    ++ (hex "2e 74 65 78 74 00 00 00 70 00 00 00 00 10 00 00 00 02 00 00 00 04 00 00 00 00 00 00"
    ++ (hex "00 00 00 00 00 00 00 00 20 00 00 60 2e 64 61 74 61 00 00 00 10 00 00 00 00 20 00 00"
    ++ (hex "00 02 00 00 00 06 00 00 00 00 00 00 00 00 00 00 00 00 00 00 40 00 00 c0 2e 69 64 61"
    ++ (hex "74 61 00 00 bc 00 00 00 00 30 00 00 00 02 00 00 00 08 00 00 00 00 00 00 00 00 00 00"
    ++ (hex "00 00 00 00 40 00 00 c0 2e 72 65 6c 6f 63 00 00 0c 00 00 00 00 40 00 00 00 02 00 00"
    ++ (hex "00 0a 00 00 00 00 00 00 00 00 00 00 00 00 00 00 40 00 00 42"
    ++ zeros 472)))))))))))))))))))))

unfoldable pub gnu_text : List ℕ
gnu_text =
    (hex "53 48 83 ec 20 ff 15 65 20 00 00 89 c3 e8 1e 00 00 00 01 c3 ff 15 e6 0f 00 00 48 83"
    ++ (hex "c4 20 8d 0c 03 5b ff 25 38 20 00 00 90 90 90 90 90 90 90 90 ff 25 3a 20 00 00 90 90"
    ++ (hex "0f 1f 84 00 00 00 00 00 ff 25 1a 20 00 00 90 90 0f 1f 84 00 00 00 00 00 ff ff ff ff"
    ++ (hex "ff ff ff ff 00 00 00 00 00 00 00 00 ff ff ff ff ff ff ff ff"
    ++ zeros 408))))

unfoldable pub gnu_data : List ℕ
gnu_data =
    (hex "30 10 00 40 01"
    ++ zeros 507)

unfoldable pub gnu_idata : List ℕ
gnu_idata =
    (hex "40 30 00 00 00 00 00 00 00 00 00 00 a0 30 00 00 60 30 00 00 50 30 00 00 00 00 00 00"
    ++ (hex "00 00 00 00 b4 30 00 00 70 30"
    ++ (zeros 26
    ++ (hex "80 30 00 00 00 00 00 00 00 00 00 00 00 00 00 00 8e 30 00 00 00 00 00 00 00 00 00 00"
    ++ (hex "00 00 00 00 80 30 00 00 00 00 00 00 00 00 00 00 00 00 00 00 8e 30 00 00 00 00 00 00"
    ++ (hex "00 00 00 00 00 00 00 00 01 00 45 78 69 74 50 72 6f 63 65 73 73 00 00 00 7a 6f 6f 5f"
    ++ (hex "6f 70 65 6e 00 00 00 00 00 30 00 00 6b 65 72 6e 65 6c 33 32 2e 64 6c 6c 00 00 00 00"
    ++ (hex "14 30 00 00 7a 6f 6f 2e 64 6c 6c"
    ++ zeros 325))))))))

unfoldable pub gnu_reloc : List ℕ
gnu_reloc =
    (hex "00 20 00 00 0c 00 00 00 00 a0"
    ++ zeros 502)

unfoldable pub gnu_file : List ℕ
gnu_file = gnu_headers ++ (gnu_text ++ (gnu_data ++ (gnu_idata ++ gnu_reloc)))

abbrev pub gnu_mapped : MappedFile
gnu_mapped = record {
  machine = 0x8664;
  width = 8;
  base = 0x1_4000_0000;
  image = record { start = 0x1000; bytes = gnu_text }
      ∷ record { start = 0x2000; bytes = gnu_data }
      ∷ record { start = 0x3000; bytes = gnu_idata }
      ∷ record { start = 0x4000; bytes = gnu_reloc }
      ∷ [];
  imports = Some (record { address = 0x3000; size = 0xBC });
  addresses = Some (record { address = 0x3060; size = 0x20 });
}

pub record WorkedFiles : Type 0 where
  pub i386 : WorkedFile I386 0x2050 0x14
  pub amd64 : WorkedFile AMD64 0x2068 0x28
  pub gnu : IsFileOf AMD64 0x3000 (record { start = 0x3000; bytes = gnu_idata } ∷ []) gnu_file
      gnu_mapped

-- a DLL with a `.bss` of 16 bytes and one data directory, mapped
abbrev pub mapped_pe32 : MappedFile
mapped_pe32 = record {
  machine = 0x14C;
  width = 4;
  base = 0;
  image = record { start = 0x1000; bytes = 0xC3 ∷ 0x90 ∷ 0x90 ∷ 0x90 ∷ [] }
      ∷ record { start = 0x2000; bytes = zeros 16 }
      ∷ record { start = 0x3000; bytes = drop 0x13C worked_pe32 }
      ∷ [];
  imports = None;
  addresses = None;
}

-- What single bytes of headers say: 13, 12 and one data directories; the base's fifth byte, which
-- PE32+ alone has, and the fourth one of PE32. A section without data is zeros in memory. A file
-- without an import directory, or with one at 0, loads nothing, and with nothing else.
pub record WorkedHeaders (gives : List ℕ → Ask → List ℕ) : Type 0 where
  pub thirteen : mapped_file (changed 0xFC 13 (file_on AMD64)) ≡ Ok (mapped_on AMD64)
  pub twelve : mapped_file (changed 0xFC 12 (file_on AMD64))
      ≡ Ok (record (mapped_on AMD64) { addresses = None })
  pub one : mapped_file (changed 0xFC 1 (file_on AMD64))
      ≡ Ok (record (mapped_on AMD64) { imports = None; addresses = None })
  pub base : mapped_file (changed 0xAC 2 (file_on AMD64))
      ≡ Ok (record (mapped_on AMD64) { base = 0x2_4000_0000 })
  pub base_4 : mapped_file (changed 0xAF 0x10 (file_on I386))
      ≡ Ok (record (mapped_on I386) { base = 0x1040_0000 })
  pub bss : mapped_file worked_pe32 ≡ Ok mapped_pe32
  pub none : LoadsFile (record (mapped_on AMD64) { imports = None }) gives 0 []
  pub at_0 : LoadsFile (record (mapped_on AMD64) {
    imports = Some
        (record { address = 0; size = 0x3C });
  }) gives 0 []
  pub none_more : LoadsFile (record (mapped_on AMD64) { imports = None }) gives 1 [] → ⊥
