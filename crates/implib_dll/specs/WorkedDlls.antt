-- DLLs that linkers wrote, of the machines that `WorkedFiles` has none of, and what they export:
-- their headers and the section with the export directory, with zeros for the data of the other
-- sections. What they export is what llvm-readobj 19 and python3-pefile find. Each has a function
-- and a variable with names, a hole, a function without a name, and a forwarder.
use Rattle.std.specs.Prelude.{◌≡◌, ℕ, ◌++◌, true, false, List, [], ◌∷◌, Some, Ok, codes, replicate}
use Rattle.implib_dll.specs.declared.section.Layout.TheVariants.{File}
use Rattle.implib_dll.specs.declared.section.AddressKind.TheVariants.{Code, Data}
use Rattle.implib_dll.specs.Digits.{changed, hex}
use Rattle.implib_dll.specs.Exports.{Address, Empty, Exports, Forwarder, exports_in}
use Rattle.implib_dll.specs.Rows.{rows_of}
use Rattle.implib_dll.specs.WorkedFiles.{found, named, row, targets_found}

-- A DLL for ARM64, PE32+, by lld-link 19. The directory is at 0x2000 in `.rdata`, of 0x85 bytes, at
-- offset 0x600.
unfoldable pub worked_arm64 : List ℕ
worked_arm64 =
    (hex "4d 5a 78 00 01 00 00 00 04 00 00 00 00 00 00 00 00 00 00 00 00 00 00 00 40 00 00 00 00 00 00 00 00 00 00 00 00 00 00 00 00 00 00 00 00 00 00 00"
    ++ (hex "00 00 00 00 00 00 00 00 00 00 00 00 78 00 00 00 0e 1f ba 0e 00 b4 09 cd 21 b8 01 4c cd 21 54 68 69 73 20 70 72 6f 67 72 61 6d 20 63 61 6e 6e 6f"
    ++ (hex "74 20 62 65 20 72 75 6e 20 69 6e 20 44 4f 53 20 6d 6f 64 65 2e 24 00 00 50 45 00 00 64 aa 03 00 00 00 00 00 00 00 00 00 00 00 00 00 f0 00 22 20"
    ++ (hex "0b 02 0e 00 00 02 00 00 00 04 00 00 00 00 00 00 00 00 00 00 00 10 00 00 00 00 00 80 01 00 00 00 00 10 00 00 00 02 00 00 06 00 00 00 00 00 00 00"
    ++ (hex "06 00 00 00 00 00 00 00 00 40 00 00 00 04 00 00 00 00 00 00 02 00 60 01 00 00 10 00 00 00 00 00 00 10 00 00 00 00 00 00 00 00 10 00 00 00 00 00"
    ++ (hex "00 10 00 00 00 00 00 00 00 00 00 00 10 00 00 00 00 20 00 00 85"
    ++ (replicate 123 0
    ++ (hex "2e 74 65 78 74 00 00 00 10 00 00 00 00 10 00 00 00 02 00 00 00 04 00 00 00 00 00 00 00 00 00 00 00 00 00 00 20 00 00 60 2e 72 64 61 74 61 00 00"
    ++ (hex "85 00 00 00 00 20 00 00 00 02 00 00 00 06 00 00 00 00 00 00 00 00 00 00 00 00 00 00 40 00 00 40 2e 64 61 74 61 00 00 00 04 00 00 00 00 30 00 00"
    ++ (hex "00 02 00 00 00 08 00 00 00 00 00 00 00 00 00 00 00 00 00 00 40 00 00 c0"
    ++ (replicate 1044 0
    ++ (hex "28 20 00 00 07 00 00 00 05 00 00 00 03 00 00 00 36 20 00 00 4a 20 00 00 56 20 00 00 7a 6f 6f 5f 61 72 6d 36 34 2e 64 6c 6c 00 08 10 00 00 00 00"
    ++ (hex "00 00 6f 20 00 00 00 10 00 00 00 30 00 00 5c 20 00 00 61 20 00 00 66 20 00 00 03 00 02 00 04 00 66 65 65 64 00 68 65 61 70 00 76 61 72 69 61 62"
    ++ (hex "6c 65 00 4e 54 44 4c 4c 2e 52 74 6c 41 6c 6c 6f 63 61 74 65 48 65 61 70"
    ++ replicate 892 0))))))))))))))

-- A DLL for ARMNT, PE32, by lld-link 19. The addresses of its functions are odd, since their code
-- is Thumb.
unfoldable pub worked_armnt : List ℕ
worked_armnt =
    (hex "4d 5a 78 00 01 00 00 00 04 00 00 00 00 00 00 00 00 00 00 00 00 00 00 00 40 00 00 00 00 00 00 00 00 00 00 00 00 00 00 00 00 00 00 00 00 00 00 00"
    ++ (hex "00 00 00 00 00 00 00 00 00 00 00 00 78 00 00 00 0e 1f ba 0e 00 b4 09 cd 21 b8 01 4c cd 21 54 68 69 73 20 70 72 6f 67 72 61 6d 20 63 61 6e 6e 6f"
    ++ (hex "74 20 62 65 20 72 75 6e 20 69 6e 20 44 4f 53 20 6d 6f 64 65 2e 24 00 00 50 45 00 00 c4 01 03 00 00 00 00 00 00 00 00 00 00 00 00 00 e0 00 02 21"
    ++ (hex "0b 01 0e 00 00 02 00 00 00 04 00 00 00 00 00 00 00 00 00 00 00 10 00 00 00 00 00 00 00 00 00 10 00 10 00 00 00 02 00 00 06 00 00 00 00 00 00 00"
    ++ (hex "06 00 00 00 00 00 00 00 00 40 00 00 00 04 00 00 00 00 00 00 02 00 40 01 00 00 10 00 00 10 00 00 00 00 10 00 00 10 00 00 00 00 00 00 10 00 00 00"
    ++ (hex "00 20 00 00 85"
    ++ (replicate 123 0
    ++ (hex "2e 74 65 78 74 00 00 00 08 00 00 00 00 10 00 00 00 02 00 00 00 04 00 00 00 00 00 00 00 00 00 00 00 00 00 00 20 00 00 60 2e 72 64 61 74 61 00 00"
    ++ (hex "85 00 00 00 00 20 00 00 00 02 00 00 00 06 00 00 00 00 00 00 00 00 00 00 00 00 00 00 40 00 00 40 2e 64 61 74 61 00 00 00 04 00 00 00 00 30 00 00"
    ++ (hex "00 02 00 00 00 08 00 00 00 00 00 00 00 00 00 00 00 00 00 00 40 00 00 c0"
    ++ (replicate 1060 0
    ++ (hex "28 20 00 00 07 00 00 00 05 00 00 00 03 00 00 00 36 20 00 00 4a 20 00 00 56 20 00 00 7a 6f 6f 5f 61 72 6d 6e 74 2e 64 6c 6c 00 05 10 00 00 00 00"
    ++ (hex "00 00 6f 20 00 00 01 10 00 00 00 30 00 00 5c 20 00 00 61 20 00 00 66 20 00 00 03 00 02 00 04 00 66 65 65 64 00 68 65 61 70 00 76 61 72 69 61 62"
    ++ (hex "6c 65 00 4e 54 44 4c 4c 2e 52 74 6c 41 6c 6c 6f 63 61 74 65 48 65 61 70"
    ++ replicate 892 0))))))))))))))

-- A DLL for I386, PE32, by GNU ld 2.40. The directory is `.edata` at 0x5000, of 0xEB bytes, at
-- offset 0xC00.
unfoldable pub worked_i386 : List ℕ
worked_i386 =
    (hex "4d 5a 90 00 03 00 00 00 04 00 00 00 ff ff 00 00 b8 00 00 00 00 00 00 00 40 00 00 00 00 00 00 00 00 00 00 00 00 00 00 00 00 00 00 00 00 00 00 00"
    ++ (hex "00 00 00 00 00 00 00 00 00 00 00 00 80 00 00 00 0e 1f ba 0e 00 b4 09 cd 21 b8 01 4c cd 21 54 68 69 73 20 70 72 6f 67 72 61 6d 20 63 61 6e 6e 6f"
    ++ (hex "74 20 62 65 20 72 75 6e 20 69 6e 20 44 4f 53 20 6d 6f 64 65 2e 0d 0d 0a 24 00 00 00 00 00 00 00 50 45 00 00 4c 01 06 00 00 00 00 00 00 10 00 00"
    ++ (hex "4d 00 00 00 e0 00 06 23 0b 01 02 28 00 02 00 00 00 0a 00 00 00 00 00 00 00 00 00 00 00 10 00 00 00 20 00 00 00 00 00 10 00 10 00 00 00 02 00 00"
    ++ (hex "04 00 00 00 01 00 00 00 04 00 00 00 00 00 00 00 00 70 00 00 00 04 00 00 77 92 00 00 03 00 40 01 00 00 20 00 00 10 00 00 00 00 10 00 00 10 00 00"
    ++ (hex "00 00 00 00 10 00 00 00 00 50 00 00 eb 00 00 00 00 60 00 00 14"
    ++ (replicate 115 0
    ++ (hex "2e 74 65 78 74 00 00 00 20 00 00 00 00 10 00 00 00 02 00 00 00 04 00 00 00 00 00 00 00 00 00 00 00 00 00 00 20 00 00 60 2e 64 61 74 61 00 00 00"
    ++ (hex "04 00 00 00 00 20 00 00 00 02 00 00 00 06 00 00 00 00 00 00 00 00 00 00 00 00 00 00 40 00 00 c0 2e 72 64 61 74 61 00 00 14 00 00 00 00 30 00 00"
    ++ (hex "00 02 00 00 00 08 00 00 00 00 00 00 00 00 00 00 00 00 00 00 40 00 00 40 2e 65 68 5f 66 72 61 6d 40 00 00 00 00 40 00 00 00 02 00 00 00 0a 00 00"
    ++ (hex "00 00 00 00 00 00 00 00 00 00 00 00 40 00 00 40 2e 65 64 61 74 61 00 00 eb 00 00 00 00 50 00 00 00 02 00 00 00 0c 00 00 00 00 00 00 00 00 00 00"
    ++ (hex "00 00 00 00 40 00 00 40 2e 69 64 61 74 61 00 00 14 00 00 00 00 60 00 00 00 02 00 00 00 0e 00 00 00 00 00 00 00 00 00 00 00 00 00 00 40 00 00 c0"
    ++ (replicate 2460 0
    ++ (hex "8c c8 0a 6b 00 00 00 00 28 50 00 00 05 00 00 00 05 00 00 00 03 00 00 00 38 50 00 00 4c 50 00 00 58 50 00 00 7a 6f 6f 5f 69 33 38 36 2e 64 6c 6c"
    ++ (hex "00 00 00 00 00 10 00 00 00 20 00 00 69 50 00 00 00 00 00 00 08 10 00 00 5e 50 00 00 63 50 00 00 78 50 00 00 00 00 02 00 01 00 66 65 65 64 00 73"
    ++ (hex "6c 65 65 70 00 4b 45 52 4e 45 4c 33 32 2e 53 6c 65 65 70 00 76 61 72 69 61 62 6c 65 00 00 00 00 00 00 00 00 00 00 00 00 00 00 00 00 46 50 00 00"
    ++ (hex "01 00 00 00 03 00 00 00 03 00 00 00 28 50 00 00 34 50 00 00 40 50 00 00 00 10 00 00 08 10 00 00 00 20 00 00 53 50 00 00 58 50 00 00 5e 50 00 00"
    ++ (hex "00 00 01 00 02 00 7a 6f 6f 5f 69 33 38 36 2e 64 6c 6c 00 66 65 65 64 00 6e 69 67 68 74 00 76 61 72 69 61 62 6c 65"
    ++ replicate 790 0))))))))))))))))))

-- what the first two export: they differ in their machine, in the addresses of their functions, and
-- in their names
abbrev pub of_lld : ℕ → List ℕ → ℕ → ℕ → Exports
of_lld machine dll feed night = record {
  machine = machine;
  is_pe32_plus = true;
  dll = dll;
  base = 7;
  targets = Address night Code ∷ Empty ∷ Forwarder (codes "NTDLL.RtlAllocateHeap")
      ∷ Address feed Code ∷ Address 0x3000 Data ∷ [];
  names = named (codes "feed") 3 ∷ named (codes "heap") 2 ∷ named (codes "variable") 4 ∷ [];
}

-- what the third exports
abbrev pub of_gnu_ld : Exports
of_gnu_ld = record {
  machine = 0x14C;
  is_pe32_plus = false;
  dll = codes "zoo_i386.dll";
  base = 5;
  targets = Address 0x1000 Code ∷ Address 0x2000 Data ∷ Forwarder (codes "KERNEL32.Sleep")
      ∷ Empty ∷ Address 0x1008 Code ∷ [];
  names = named (codes "feed") 0 ∷ named (codes "sleep") 2 ∷ named (codes "variable") 1 ∷ [];
}

-- What they export, and what they do with a changed byte.
pub record WorkedDlls : Type 0 where
  pub arm64 : exports_in File worked_arm64
      ≡ Ok (Some (of_lld 0xAA64 (codes "zoo_arm64.dll") 0x1000 0x1008))
  pub armnt : exports_in File worked_armnt
      ≡ Ok (Some (record (of_lld 0x1C4 (codes "zoo_armnt.dll") 0x1001 0x1005)
      { is_pe32_plus = false }))
  pub i386 : exports_in File worked_i386 ≡ Ok (Some of_gnu_ld)
  pub i386_rows : rows_of of_gnu_ld ≡
      row 5 (Address 0x1000 Code) (codes "feed" ∷ [])
      ∷ row 6 (Address 0x2000 Data) (codes "variable" ∷ [])
      ∷ row 7 (Forwarder (codes "KERNEL32.Sleep")) (codes "sleep" ∷ [])
      ∷ row 8 Empty []
      ∷ row 9 (Address 0x1008 Code) []
      ∷ []
  -- of the flags of `.text`, that it may be executed
  pub arm64_no_execute : targets_found (found (exports_in File (changed 0x1A7 0x40 worked_arm64)))
      ≡ Address 0x1008 Data ∷ Empty ∷ Forwarder (codes "NTDLL.RtlAllocateHeap")
      ∷ Address 0x1000 Data ∷ Address 0x3000 Data ∷ []
  -- the size of the export directory: up to the byte before the forwarder, which is then an address
  pub i386_forwarder_past : targets_found (found (exports_in File (changed 0xFC 0x69 worked_i386)))
      ≡ Address 0x1000 Code ∷ Address 0x2000 Data ∷ Address 0x5069 Data
      ∷ Empty ∷ Address 0x1008 Code ∷ []
