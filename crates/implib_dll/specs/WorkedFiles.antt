-- DLLs worked by hand, and what they export.
use Rattle.std.specs.Prelude.{◌≡◌, ℕ, ◌++◌, true, false, List, [], ◌∷◌, Option, Some, None, Ok, Err}
use Rattle.std.specs.Prelude.{codes, replicate}
use Rattle.implib_dll.specs.declared.section.Layout.TheVariants.{File}
use Rattle.implib_dll.specs.declared.section.AddressKind.TheVariants.{Code, Data, Outside}
use Rattle.implib_dll.specs.Digits.{changed, hex}
use Rattle.implib_dll.specs.Exports.{Exports, NameEntry, Target, Empty, Address, Forwarder}
use Rattle.implib_dll.specs.Exports.{exports_in}
use Rattle.implib_dll.specs.Outcome.{Read}
use Rattle.implib_dll.specs.Rows.{Row, rows_of}

-- A DLL of 421 bytes for I386, PE32. `.text` is at 0x1000, `.bss` with no raw data at 0x2000,
-- `.edata` at 0x3000 with the directory, of 0x69 bytes. From ordinal 5 on there are a function, a
-- variable in `.bss`, a hole, a forwarder to K.f and the function again. Its names are alpha and
-- beta, both of ordinal 5, and gamma, the forwarder.
unfoldable pub worked_pe32 : List ℕ
worked_pe32 =
    (hex "4d 5a 00 00 00 00 00 00 00 00 00 00 00 00 00 00 00 00 00 00 00 00 00 00 00 00 00 00 00 00 00 00 00 00 00 00 00 00 00 00 00 00 00 00 00 00 00 00"
    ++ (hex "00 00 00 00 00 00 00 00 00 00 00 00 40 00 00 00 50 45 00 00 4c 01 03 00 00 00 00 00 00 00 00 00 00 00 00 00 68 00 02 21 0b 01 00 00 00 00 00 00"
    ++ (hex "00 00 00 00 00 00 00 00 00 00 00 00 00 00 00 00 00 00 00 00 00 00 00 00 00 00 00 00 00 00 00 00 00 00 00 00 00 00 00 00 00 00 00 00 00 00 00 00"
    ++ (hex "00 00 00 00 00 00 00 00 00 00 00 00 00 00 00 00 00 00 00 00 00 00 00 00 00 00 00 00 00 00 00 00 00 00 00 00 01 00 00 00 00 30 00 00 69 00 00 00"
    ++ (hex "2e 74 65 78 74 00 00 00 04 00 00 00 00 10 00 00 04 00 00 00 38 01 00 00 00 00 00 00 00 00 00 00 00 00 00 00 20 00 00 60 2e 62 73 73 00 00 00 00"
    ++ (hex "10 00 00 00 00 20 00 00 00 00 00 00 00 00 00 00 00 00 00 00 00 00 00 00 00 00 00 00 80 00 00 c0 2e 65 64 61 74 61 00 00 69 00 00 00 00 30 00 00"
    ++ (hex "69 00 00 00 3c 01 00 00 00 00 00 00 00 00 00 00 00 00 00 00 40 00 00 40 c3 90 90 90 00 00 00 00 00 00 00 00 00 00 00 00 4e 30 00 00 05 00 00 00"
    ++ (hex "05 00 00 00 03 00 00 00 28 30 00 00 3c 30 00 00 48 30 00 00 00 10 00 00 04 20 00 00 00 00 00 00 65 30 00 00 00 10 00 00 54 30 00 00 5a 30 00 00"
    ++ hex "5f 30 00 00 00 00 00 00 03 00 77 2e 64 6c 6c 00 61 6c 70 68 61 00 62 65 74 61 00 67 61 6d 6d 61 00 4b 2e 66 00"))))))))

-- A DLL of 295 bytes for AMD64, PE32+, with one section that has all. Its directory has no names,
-- and one export, of ordinal 7.
unfoldable pub worked_pe32_plus : List ℕ
worked_pe32_plus =
    (hex "4d 5a 00 00 00 00 00 00 00 00 00 00 00 00 00 00 00 00 00 00 00 00 00 00 00 00 00 00 00 00 00 00 00 00 00 00 00 00 00 00 00 00 00 00 00 00 00 00"
    ++ (hex "00 00 00 00 00 00 00 00 00 00 00 00 40 00 00 00 50 45 00 00 64 86 01 00 00 00 00 00 00 00 00 00 00 00 00 00 78 00 22 20 0b 02 00 00 00 00 00 00"
    ++ (hex "00 00 00 00 00 00 00 00 00 00 00 00 00 00 00 00 00 00 00 00 00 00 00 00 00 00 00 00 00 00 00 00 00 00 00 00 00 00 00 00 00 00 00 00 00 00 00 00"
    ++ (hex "00 00 00 00 00 00 00 00 00 00 00 00 00 00 00 00 00 00 00 00 00 00 00 00 00 00 00 00 00 00 00 00 00 00 00 00 00 00 00 00 00 00 00 00 00 00 00 00"
    ++ (hex "00 00 00 00 01 00 00 00 00 10 00 00 28 00 00 00 2e 61 6c 6c 00 00 00 00 2f 00 00 00 00 10 00 00 2f 00 00 00 f8 00 00 00 00 00 00 00 00 00 00 00"
    ++ (hex "00 00 00 00 20 00 00 60 00 00 00 00 00 00 00 00 00 00 00 00 2c 10 00 00 07 00 00 00 01 00 00 00 00 00 00 00 28 10 00 00 00 00 00 00 00 00 00 00"
    ++ hex "2e 10 00 00 78 00 c3"))))))

-- A DLL that GNU ld 2.40 wrote, for AMD64, with an export zoo_open: its headers and its `.edata`,
-- at 0xC00, with zeros for the data of the other sections.
unfoldable pub worked_zoo : List ℕ
worked_zoo =
    ((hex "4d 5a 90 00 03 00 00 00 04 00 00 00 ff ff 00 00 b8 00 00 00 00 00 00 00 40 00 00 00 00 00 00 00 00 00 00 00 00 00 00 00 00 00 00 00 00 00 00 00"
    ++ (hex "00 00 00 00 00 00 00 00 00 00 00 00 80 00 00 00 0e 1f ba 0e 00 b4 09 cd 21 b8 01 4c cd 21 54 68 69 73 20 70 72 6f 67 72 61 6d 20 63 61 6e 6e 6f"
    ++ (hex "74 20 62 65 20 72 75 6e 20 69 6e 20 44 4f 53 20 6d 6f 64 65 2e 0d 0d 0a 24 00 00 00 00 00 00 00 50 45 00 00 64 86 06 00 96 ea 09 6b 00 10 00 00"
    ++ (hex "39 00 00 00 f0 00 26 22 0b 02 02 28 00 02 00 00 00 0a 00 00 00 00 00 00 00 00 00 00 00 10 00 00 00 00 00 80 01 00 00 00 00 10 00 00 00 02 00 00"
    ++ (hex "04 00 00 00 00 00 00 00 05 00 02 00 00 00 00 00 00 70 00 00 00 04 00 00 0f eb 00 00 03 00 60 01 00 00 20 00 00 00 00 00 00 10 00 00 00 00 00 00"
    ++ (hex "00 00 10 00 00 00 00 00 00 10 00 00 00 00 00 00 00 00 00 00 10 00 00 00 00 50 00 00 43 00 00 00 00 60 00 00 18 00 00 00 00 00 00 00 00 00 00 00"
    ++ (hex "00 30 00 00 0c 00 00 00 00 00 00 00 00 00 00 00 00 00 00 00 00 00 00 00 00 00 00 00 00 00 00 00 00 00 00 00 00 00 00 00 00 00 00 00 00 00 00 00"
    ++ (hex "00 00 00 00 00 00 00 00 00 00 00 00 00 00 00 00 00 00 00 00 00 00 00 00 00 00 00 00 00 00 00 00 00 00 00 00 00 00 00 00 00 00 00 00 00 00 00 00"
    ++ (hex "00 00 00 00 00 00 00 00 2e 74 65 78 74 00 00 00 30 00 00 00 00 10 00 00 00 02 00 00 00 04 00 00 00 00 00 00 00 00 00 00 00 00 00 00 20 00 00 60"
    ++ (hex "2e 72 64 61 74 61 00 00 20 00 00 00 00 20 00 00 00 02 00 00 00 06 00 00 00 00 00 00 00 00 00 00 00 00 00 00 40 00 00 40 2e 70 64 61 74 61 00 00"
    ++ (hex "0c 00 00 00 00 30 00 00 00 02 00 00 00 08 00 00 00 00 00 00 00 00 00 00 00 00 00 00 40 00 00 40 2e 78 64 61 74 61 00 00 04 00 00 00 00 40 00 00"
    ++ (hex "00 02 00 00 00 0a 00 00 00 00 00 00 00 00 00 00 00 00 00 00 40 00 00 40 2e 65 64 61 74 61 00 00 43 00 00 00 00 50 00 00 00 02 00 00 00 0c 00 00"
    ++ (hex "00 00 00 00 00 00 00 00 00 00 00 00 40 00 00 40 2e 69 64 61 74 61 00 00 18 00 00 00 00 60 00 00 00 02 00 00 00 0e 00 00 00 00 00 00 00 00 00 00"
    ++ hex "00 00 00 00 40 00 00 c0"))))))))))))))
    ++ (replicate 2440 0 ++ ((hex "00 00 00 00 96 ea 09 6b 00 00 00 00 32 50 00 00 01 00 00 00 01 00 00 00 01 00 00 00 28 50 00 00 2c 50 00 00 30 50 00 00 00 10 00 00 3a 50 00 00 00 00 7a 6f 6f 2e 64 6c 6c 00 7a 6f 6f 5f 6f 70 65 6e 00") ++ replicate 957 0))

-- `worked_pe32` with the first two exports alone, and with no names
unfoldable pub worked_unnamed : List ℕ
worked_unnamed = changed 0x150 2 (changed 0x154 0 worked_pe32)

-- a name of the table
abbrev pub named : List ℕ → ℕ → NameEntry
named text index = record { text = text; index = index }

-- a row
abbrev pub row : ℕ → Target → List (List ℕ) → Row
row ordinal target names = record { ordinal = ordinal; target = target; names = names }

-- what `worked_pe32` exports
abbrev pub worked_exports : Exports
worked_exports = record {
  machine = 0x14C;
  is_pe32_plus = false;
  dll = codes "w.dll";
  base = 5;
  targets = Address 0x1000 Code ∷ Address 0x2004 Data ∷ Empty ∷ Forwarder (codes "K.f")
      ∷ Address 0x1000 Code ∷ [];
  names = named (codes "alpha") 0 ∷ named (codes "beta") 0 ∷ named (codes "gamma") 3 ∷ [];
}

-- what a file exports, or nothing where it is refused
abbrev pub found : Read (Option Exports) → Option Exports
found (Ok exports) = exports
found (Err fault) = None

-- the targets of a file
abbrev pub targets_found : Option Exports → List Target
targets_found None = []
targets_found (Some e) = e.targets

-- the rows of a file
abbrev pub rows_found : Option Exports → List Row
rows_found None = []
rows_found (Some e) = rows_of e

-- What the files export, and what they do with changed bytes.
pub record WorkedFiles : Type 0 where
  pub pe32 : exports_in File worked_pe32 ≡ Ok (Some worked_exports)
  pub pe32_plus : exports_in File worked_pe32_plus ≡ Ok (Some (record {
    machine = 0x8664;
    is_pe32_plus = true;
    dll = codes "x";
    base = 7;
    targets = Address 0x102E Code ∷ [];
    names = [];
  }))
  pub zoo : exports_in File worked_zoo ≡ Ok (Some (record {
    machine = 0x8664;
    is_pe32_plus = true;
    dll = codes "zoo.dll";
    base = 1;
    targets = Address 0x1000 Code ∷ [];
    names = named (codes "zoo_open") 0 ∷ [];
  }))
  -- an alias, an export without a name, a hole, a forwarder, and two ordinals of one address
  pub rows : rows_of worked_exports ≡
      row 5 (Address 0x1000 Code) (codes "alpha" ∷ codes "beta" ∷ [])
      ∷ row 6 (Address 0x2004 Data) []
      ∷ row 7 Empty []
      ∷ row 8 (Forwarder (codes "K.f")) (codes "gamma" ∷ [])
      ∷ row 9 (Address 0x1000 Code) []
      ∷ []
  -- the directory is a byte too short for the forwarder's address, 0x3065
  pub forwarder_last : targets_found (found (exports_in File (changed 0xBC 0x66 worked_pe32)))
      ≡ worked_exports.targets
  pub forwarder_past : targets_found (found (exports_in File (changed 0xBC 0x65 worked_pe32)))
      ≡ Address 0x1000 Code ∷ Address 0x2004 Data ∷ Empty ∷ Address 0x3065 Data
      ∷ Address 0x1000 Code ∷ []
  -- the last byte of `.bss`, of 0x10 bytes, and the byte after it
  pub bss_last : targets_found (found (exports_in File (changed 0x168 0x0F worked_pe32)))
      ≡ Address 0x1000 Code ∷ Address 0x200F Data ∷ Empty ∷ Forwarder (codes "K.f")
      ∷ Address 0x1000 Code ∷ []
  pub bss_past : targets_found (found (exports_in File (changed 0x168 0x10 worked_pe32)))
      ≡ Address 0x1000 Code ∷ Address 0x2010 Outside ∷ Empty ∷ Forwarder (codes "K.f")
      ∷ Address 0x1000 Code ∷ []
  -- code is what has IMAGE_SCN_MEM_EXECUTE, whatever else: `.text` with flags 0x20, and `.bss` with
  -- 0xE0000080
  pub no_execute : targets_found (found (exports_in File (changed 0xE7 0 worked_pe32)))
      ≡ Address 0x1000 Data ∷ Address 0x2004 Data ∷ Empty ∷ Forwarder (codes "K.f")
      ∷ Address 0x1000 Data ∷ []
  pub execute : targets_found (found (exports_in File (changed 0x10F 0xE0 worked_pe32)))
      ≡ Address 0x1000 Code ∷ Address 0x2004 Code ∷ Empty ∷ Forwarder (codes "K.f")
      ∷ Address 0x1000 Code ∷ []
  -- no export directory: an address of 0, or no entry
  pub no_address : exports_in File (changed 0xB9 0 worked_pe32) ≡ Ok None
  pub no_entry : exports_in File (changed 0xB4 0 worked_pe32) ≡ Ok None
  -- another machine is told as it is
  pub machine : found (exports_in File (changed 0x44 0x77 worked_pe32))
      ≡ Some (record worked_exports { machine = 0x177 })
  -- base 0 and base 65,535
  pub base_0 : rows_found (found (exports_in File (changed 0x14C 0 worked_unnamed)))
      ≡ row 0 (Address 0x1000 Code) [] ∷ row 1 (Address 0x2004 Data) [] ∷ []
  pub base_65535 : rows_found
      (found (exports_in File (changed 0x14C 0xFF (changed 0x14D 0xFF worked_unnamed))))
      ≡ row 65535 (Address 0x1000 Code) [] ∷ row 65536 (Address 0x2004 Data) [] ∷ []
