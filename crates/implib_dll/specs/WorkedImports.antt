-- Programs that linkers wrote, and what they import.
use Rattle.std.specs.Prelude.{◌≡◌, ℕ, ◌++◌, true, false, List, [], ◌∷◌, Ok, codes, replicate}
use Rattle.implib_dll.specs.declared.fault.Cause.TheVariants.{AskOutside, ImportDirectoryOpen}
use Rattle.implib_dll.specs.declared.fault.Cause.TheVariants.{ImportDirectoryOutside}
use Rattle.implib_dll.specs.declared.fault.Cause.TheVariants.{ImportedDllOutside, LookupTableOpen}
use Rattle.implib_dll.specs.declared.fault.Cause.TheVariants.{LookupTableOutside, OptionalHeaderCut}
use Rattle.implib_dll.specs.declared.fault.Cause.TheVariants.{TextsTooLong}
use Rattle.implib_dll.specs.declared.section.Layout.TheVariants.{File}
use Rattle.implib_dll.specs.Digits.{changed, hex}
use Rattle.implib_dll.specs.Imports.{Ask, ByName, ByOrdinal, ImportedDll, Imports, ask_at}
use Rattle.implib_dll.specs.Imports.{imports_in}
use Rattle.implib_dll.specs.Outcome.{refusal}

-- A program that GNU ld 2.40 linked for I386, PE32: its headers and its `.idata`, at 0x800, with
-- zeros for the other bytes. Its import directory is at 0x3000, its lookup tables are at 0x303C.
unfoldable pub program_of_gnu : List ℕ
program_of_gnu =
    (hex "4d 5a 90 00 03 00 00 00 04 00 00 00 ff ff 00 00 b8 00 00 00 00 00 00 00"
    ++ (hex "40 00 00 00 00 00 00 00 00 00 00 00 00 00 00 00 00 00 00 00 00 00 00 00"
    ++ (hex "00 00 00 00 00 00 00 00 00 00 00 00 80"
    ++ (replicate 67 0
    ++ (hex "50 45 00 00 4c 01 04 00 00 00 00 00 00 00 00 00 00 00 00 00 e0 00 0e 03"
    ++ (hex "0b 01 02 28 00 02 00 00 00 06 00 00 00 00 00 00 00 10 00 00 00 10 00 00"
    ++ (hex "00 20 00 00 00 00 40 00 00 10 00 00 00 02 00 00 04 00 00 00 01 00 00 00"
    ++ (hex "04 00 00 00 00 00 00 00 00 50 00 00 00 04 00 00 cd 00 01 00 03 00 40 01"
    ++ (hex "00 00 20 00 00 10 00 00 00 00 10 00 00 10 00 00 00 00 00 00 10 00 00 00"
    ++ (hex "00 00 00 00 00 00 00 00 00 30 00 00 98 00 00 00 00 00 00 00 00 00 00 00"
    ++ (hex "00 00 00 00 00 00 00 00 00 00 00 00 00 00 00 00 00 40 00 00 1c 00 00 00"
    ++ (hex "00 00 00 00 00 00 00 00 00 00 00 00 00 00 00 00 00 00 00 00 00 00 00 00"
    ++ (hex "00 00 00 00 00 00 00 00 00 00 00 00 00 00 00 00 00 00 00 00 00 00 00 00"
    ++ (hex "4c 30 00 00 10 00 00 00 00 00 00 00 00 00 00 00 00 00 00 00 00 00 00 00"
    ++ (hex "00 00 00 00 00 00 00 00 2e 74 65 78 74 00 00 00 50 00 00 00 00 10 00 00"
    ++ (hex "00 02 00 00 00 04 00 00 00 00 00 00 00 00 00 00 00 00 00 00 20 00 00 60"
    ++ (hex "2e 64 61 74 61 00 00 00 10 00 00 00 00 20 00 00 00 02 00 00 00 06 00 00"
    ++ (hex "00 00 00 00 00 00 00 00 00 00 00 00 40 00 00 c0 2e 69 64 61 74 61 00 00"
    ++ (hex "98 00 00 00 00 30 00 00 00 02 00 00 00 08 00 00 00 00 00 00 00 00 00 00"
    ++ (hex "00 00 00 00 40 00 00 c0 2e 72 65 6c 6f 63 00 00 1c 00 00 00 00 40 00 00"
    ++ (hex "00 02 00 00 00 0a 00 00 00 00 00 00 00 00 00 00 00 00 00 00 40 00 00 42"
    ++ (replicate 1512 0
    ++ (hex "3c 30 00 00 00 00 00 00 00 00 00 00 7c 30 00 00 4c 30 00 00 44 30 00 00"
    ++ (hex "00 00 00 00 00 00 00 00 90 30 00 00 54 30 00 00 00 00 00 00 00 00 00 00"
    ++ (hex "00 00 00 00 00 00 00 00 00 00 00 00 5c 30 00 00 00 00 00 00 6a 30 00 00"
    ++ (hex "00 00 00 00 5c 30 00 00 00 00 00 00 6a 30 00 00 00 00 00 00 01 00 45 78"
    ++ (hex "69 74 50 72 6f 63 65 73 73 00 00 00 7a 6f 6f 5f 6f 70 65 6e 00 00 00 00"
    ++ (hex "00 30 00 00 6b 65 72 6e 65 6c 33 32 2e 64 6c 6c 00 00 00 00 14 30 00 00"
    ++ (hex "7a 6f 6f 2e 64 6c 6c"
    ++ replicate 873 0)))))))))))))))))))))))))))))

-- A program that lld-link 19 linked for AMD64, PE32+: its headers and its `.rdata`, at 0x600, with
-- zeros for the other bytes. Its import directory is at 0x2000, its lookup tables are at 0x2040.
unfoldable pub program_of_lld : List ℕ
program_of_lld =
    (hex "4d 5a 78 00 01 00 00 00 04 00 00 00 00 00 00 00 00 00 00 00 00 00 00 00"
    ++ (hex "40 00 00 00 00 00 00 00 00 00 00 00 00 00 00 00 00 00 00 00 00 00 00 00"
    ++ (hex "00 00 00 00 00 00 00 00 00 00 00 00 78 00 00 00 00 00 00 00 00 00 00 00"
    ++ (hex "00 00 00 00 00 00 00 00 00 00 00 00 00 00 00 00 00 00 00 00 00 00 00 00"
    ++ (hex "00 00 00 00 00 00 00 00 00 00 00 00 00 00 00 00 00 00 00 00 00 00 00 00"
    ++ (hex "50 45 00 00 64 86 04 00 00 00 00 00 00 00 00 00 00 00 00 00 f0 00 22 00"
    ++ (hex "0b 02 0e 00 00 02 00 00 00 06 00 00 00 00 00 00 00 10 00 00 00 10 00 00"
    ++ (hex "00 00 00 40 01 00 00 00 00 10 00 00 00 02 00 00 06 00 00 00 00 00 00 00"
    ++ (hex "06 00 00 00 00 00 00 00 00 50 00 00 00 04 00 00 00 00 00 00 03 00 60 81"
    ++ (hex "00 00 10 00 00 00 00 00 00 10 00 00 00 00 00 00 00 00 10 00 00 00 00 00"
    ++ (hex "00 10 00 00 00 00 00 00 00 00 00 00 10 00 00 00 00 00 00 00 00 00 00 00"
    ++ (hex "00 20 00 00 3c 00 00 00 00 00 00 00 00 00 00 00 00 00 00 00 00 00 00 00"
    ++ (hex "00 00 00 00 00 00 00 00 00 40 00 00 0c 00 00 00 00 00 00 00 00 00 00 00"
    ++ (hex "00 00 00 00 00 00 00 00 00 00 00 00 00 00 00 00 00 00 00 00 00 00 00 00"
    ++ (hex "00 00 00 00 00 00 00 00 00 00 00 00 00 00 00 00 60 20 00 00 20 00 00 00"
    ++ (hex "00 00 00 00 00 00 00 00 00 00 00 00 00 00 00 00 00 00 00 00 00 00 00 00"
    ++ (hex "2e 74 65 78 74 00 00 00 36 00 00 00 00 10 00 00 00 02 00 00 00 04 00 00"
    ++ (hex "00 00 00 00 00 00 00 00 00 00 00 00 20 00 00 60 2e 72 64 61 74 61 00 00"
    ++ (hex "af 00 00 00 00 20 00 00 00 02 00 00 00 06 00 00 00 00 00 00 00 00 00 00"
    ++ (hex "00 00 00 00 40 00 00 40 2e 64 61 74 61 00 00 00 10 00 00 00 00 30 00 00"
    ++ (hex "00 02 00 00 00 08 00 00 00 00 00 00 00 00 00 00 00 00 00 00 40 00 00 c0"
    ++ (hex "2e 72 65 6c 6f 63 00 00 0c 00 00 00 00 40 00 00 00 02 00 00 00 0a 00 00"
    ++ (hex "00 00 00 00 00 00 00 00 00 00 00 00 40 00 00 42"
    ++ (replicate 992 0
    ++ (hex "40 20 00 00 00 00 00 00 00 00 00 00 9a 20 00 00 60 20 00 00 50 20 00 00"
    ++ (hex "00 00 00 00 00 00 00 00 a2 20 00 00 70 20 00 00 00 00 00 00 00 00 00 00"
    ++ (hex "00 00 00 00 00 00 00 00 00 00 00 00 00 00 00 00 80 20 00 00 00 00 00 00"
    ++ (hex "00 00 00 00 00 00 00 00 8c 20 00 00 00 00 00 00 00 00 00 00 00 00 00 00"
    ++ (hex "80 20 00 00 00 00 00 00 00 00 00 00 00 00 00 00 8c 20 00 00 00 00 00 00"
    ++ (hex "00 00 00 00 00 00 00 00 00 00 7a 6f 6f 5f 6f 70 65 6e 00 00 00 00 45 78"
    ++ (hex "69 74 50 72 6f 63 65 73 73 00 7a 6f 6f 2e 64 6c 6c 00 6b 65 72 6e 65 6c"
    ++ (hex "33 32 2e 64 6c 6c"
    ++ replicate 1362 0))))))))))))))))))))))))))))))))

-- what the programs import
abbrev pub for_i386 : List ImportedDll → Imports
for_i386 dlls = record { machine = 0x14C; dlls = dlls }

abbrev pub for_amd64 : List ImportedDll → Imports
for_amd64 dlls = record { machine = 0x8664; dlls = dlls }

-- a DLL that is asked for one export
abbrev pub asks_one : List ℕ → Ask → ImportedDll
asks_one dll ask = record { dll = dll; asks = ask ∷ [] }

-- what the programs ask for
abbrev pub kernel32 : Ask → ImportedDll
kernel32 ask = asks_one (codes "kernel32.dll") ask

abbrev pub zoo : Ask → ImportedDll
zoo ask = asks_one (codes "zoo.dll") ask

abbrev pub zoo_open : Ask
zoo_open = ByName (codes "zoo_open") 0

-- What the programs import, and what they do with changed bytes; refusals with their offsets.
pub record WorkedImports : Type 0 where
  pub gnu : imports_in File program_of_gnu
      ≡ Ok (for_i386 (kernel32 (ByName (codes "ExitProcess") 1) ∷ zoo zoo_open ∷ []))
  pub lld : imports_in File program_of_lld
      ≡ Ok (for_amd64 (zoo zoo_open ∷ kernel32 (ByName (codes "ExitProcess") 0) ∷ []))
  -- the top bit of a thunk, of 4 bytes and of 8: an ordinal in its low 16 bits
  pub gnu_ordinal : imports_in File (changed 0x83F 0x80 program_of_gnu)
      ≡ Ok (for_i386 (kernel32 (ByOrdinal 0x305C) ∷ zoo zoo_open ∷ []))
  pub lld_ordinal : imports_in File (changed 0x647 0x80 program_of_lld)
      ≡ Ok (for_amd64 (zoo (ByOrdinal 0x2080) ∷ kernel32 (ByName (codes "ExitProcess") 0) ∷ []))
  -- a hint of two bytes
  pub hint : imports_in File (changed 0x86B 0x12 program_of_gnu)
      ≡ Ok (for_i386
      (kernel32 (ByName (codes "ExitProcess") 1) ∷ zoo (ByName (codes "zoo_open") 0x1200) ∷ []))
  -- without the address of the lookup table the import address table is taken, and with that of
  -- another table, that one
  pub no_lookups : imports_in File (changed 0x800 0 (changed 0x801 0 program_of_gnu))
      ≡ Ok (for_i386 (kernel32 (ByName (codes "ExitProcess") 1) ∷ zoo zoo_open ∷ []))
  pub other_lookups : imports_in File (changed 0x800 0x44 program_of_gnu)
      ≡ Ok (for_i386 (kernel32 zoo_open ∷ zoo zoo_open ∷ []))
  -- a table whose first thunk is zero
  pub nothing_asked : imports_in File (changed 0x800 0x40 program_of_gnu)
      ≡ Ok (for_i386 (record { dll = codes "kernel32.dll"; asks = [] } ∷ zoo zoo_open ∷ []))
  -- a descriptor without a name, and without an import address table, is the last; one without a
  -- lookup table is not
  pub unnamed : imports_in File (changed 0x820 0 (changed 0x821 0 program_of_gnu))
      ≡ Ok (for_i386 (kernel32 (ByName (codes "ExitProcess") 1) ∷ []))
  pub no_addresses : imports_in File (changed 0x824 0 (changed 0x825 0 program_of_gnu))
      ≡ Ok (for_i386 (kernel32 (ByName (codes "ExitProcess") 1) ∷ []))
  -- one data directory alone, and an address of 0
  pub no_entry : imports_in File (changed 0xF4 1 program_of_gnu) ≡ Ok (for_i386 [])
  pub no_address : imports_in File (changed 0x101 0 program_of_gnu) ≡ Ok (for_i386 [])
  pub entry_cut : imports_in File (changed 0x94 111 program_of_gnu)
      ≡ refusal OptionalHeaderCut 0x94
  -- an address past the sections; the last descriptors that have room in the section
  pub directory_outside : imports_in File (changed 0x101 0x50 program_of_gnu)
      ≡ refusal ImportDirectoryOutside 0x100
  pub directory_open : imports_in File
      (changed 0x100 0xEC (changed 0x101 0x31 (changed 0x9F8 1 (changed 0x9FC 1 program_of_gnu))))
      ≡ refusal ImportDirectoryOpen 0x100
  pub directory_ended : imports_in File
      (changed 0x100 0xEC (changed 0x101 0x31 (changed 0x9F8 1 program_of_gnu))) ≡ Ok (for_i386 [])
  -- the name of the DLL, and its lookup table, past the sections, by either field
  pub name_outside : imports_in File (changed 0x80D 0x50 program_of_gnu)
      ≡ refusal ImportedDllOutside 0x80C
  pub lookups_outside : imports_in File (changed 0x801 0x50 program_of_gnu)
      ≡ refusal LookupTableOutside 0x800
  pub addresses_outside : imports_in File
      (changed 0x800 0 (changed 0x801 0 (changed 0x811 0x50 program_of_gnu)))
      ≡ refusal LookupTableOutside 0x810
  -- the last thunk of the section, and a zero one there
  pub lookups_open : imports_in File
      (changed 0x800 0xFC (changed 0x801 0x31 (changed 0x9FC 1 program_of_gnu)))
      ≡ refusal LookupTableOpen 0x800
  pub lookups_ended : imports_in File (changed 0x800 0xFC (changed 0x801 0x31 program_of_gnu))
      ≡ Ok (for_i386 (record { dll = codes "kernel32.dll"; asks = [] } ∷ zoo zoo_open ∷ []))
  -- of eight bytes each half counts: the last eight are zero, and then not
  pub lld_lookups_open : imports_in File
      (changed 0x600 0xF8 (changed 0x601 0x21 (changed 0x7FC 1 program_of_lld)))
      ≡ refusal LookupTableOpen 0x600
  pub lld_lookups_ended : imports_in File (changed 0x600 0xF8 (changed 0x601 0x21 program_of_lld))
      ≡ Ok (for_amd64 (record { dll = codes "zoo.dll"; asks = [] }
      ∷ kernel32 (ByName (codes "ExitProcess") 0) ∷ []))
  -- an address past the sections; of PE32+ one with a bit above the 31
  pub ask_outside : imports_in File (changed 0x83D 0x50 program_of_gnu)
      ≡ refusal AskOutside 0x83C
  pub ask_above : imports_in File (changed 0x644 1 program_of_lld) ≡ refusal AskOutside 0x640
  pub ask_high : imports_in File (changed 0x643 0x80 program_of_lld) ≡ refusal AskOutside 0x640
  -- the hint is the last two bytes of the section, so that the name is outside
  pub name_past : imports_in File (changed 0x83C 0xFE (changed 0x83D 0x31 program_of_gnu))
      ≡ refusal AskOutside 0x83C
  -- a thunk takes its size of room: 4 bytes are enough, 3 are not, and 8 of PE32+
  pub thunk_taken : ask_at [] false (7, hex "05 00 00 80") 0 4 ≡ Ok (ByOrdinal 5, 0)
  pub thunk_too_long : ask_at [] false (7, hex "05 00 00 80") 0 3 ≡ refusal TextsTooLong 7
  pub long_thunk_taken : ask_at [] true (7, hex "05 00 00 00 00 00 00 80") 0 9
      ≡ Ok (ByOrdinal 5, 1)
  pub long_thunk_too_long : ask_at [] true (7, hex "05 00 00 00 00 00 00 80") 0 7
      ≡ refusal TextsTooLong 7
