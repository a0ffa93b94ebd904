-- Single records with another number in each of their fields, worked by hand: as they are written,
-- and as they are read.
use Rattle.std.specs.Prelude.{◌≡◌, ℕ, List, [], ◌∷◌, ◌++◌, None, Some, codes}
use Rattle.implib.specs.declared.coff.object.Place.{Place}
use Rattle.implib.specs.declared.coff.object.Place.TheVariants.{Undefined, Section, Absolute, Debug}
use Rattle.implib.specs.declared.coff.object.Relocation.{Relocation}
use Rattle.implib.specs.Formats.Layout.{InRecord, InStringTable, LayoutSymbol, ObjectLayout}
use Rattle.implib.specs.Formats.Layout.{header_bytes, relocation_bytes, section_header}
use Rattle.implib.specs.Formats.Layout.{symbol_bytes}
use Rattle.implib.specs.Formats.Object.{ObjectSymbol, name_of, relocation_of, symbol_of, u16_at}
use Rattle.implib.specs.Formats.Object.{u32_at}
use Rattle.implib.specs.Formats.Writer.{AddedSymbol, entries_added, symbol_written}
use Rattle.implib.specs.Formats.Object.{ASymbol}
use Rattle.implib.specs.Worked.Digits.{hex}
use Rattle.implib.specs.Worked.Objects.{section}

-- the symbol abc of a writer, with the value 0x12345678, in a place
abbrev pub added : Place → AddedSymbol
added place =
    record { name = codes "abc"; value = 0x12345678; place = place; class = 0x9A; aux = None }

-- and as it is laid out, with the number of its section
abbrev pub laid_out : ℕ → LayoutSymbol
laid_out number = record {
  name = InRecord (codes "abc");
  value = 0x12345678;
  section = number;
  class = 0x9A;
  aux = None;
}

-- and as it is read
abbrev pub read_back : ℕ → ObjectSymbol
read_back number = record {
  name = codes "abc";
  value = 0x12345678;
  section = number;
  kind = 0;
  class = 0x9A;
}

-- its record, in the section 0x1234
abbrev pub symbol_record : List ℕ
symbol_record = hex "61 62 63 00 00 00 00 00 78 56 34 12 34 12 00 00 9a 00"

-- a relocation, and its record
abbrev pub relocation : Relocation
relocation = record { offset = 0x12345678; symbol = 0x9ABCDEF0; kind = 0x2468 }

abbrev pub relocation_record : List ℕ
relocation_record = hex "78 56 34 12 f0 de bc 9a 68 24"

-- the second string as the name of a symbol for a debugger, with an auxiliary record
abbrev pub with_auxiliary : LayoutSymbol
with_auxiliary =
    record (laid_out 0xFFFE) { name = InStringTable 1; aux = Some (codes "abcdefghijklmnopqr") }

-- an object of two sections that hold nothing, and three symbol records
abbrev pub empty_object : ObjectLayout
empty_object = record {
  machine = 0x1234;
  characteristics = 0x5678;
  sections = section (codes ".idata$2") 0 [] [] ∷ section (codes ".idata$3") 0 [] [] ∷ [];
  symbols = laid_out 1 ∷ with_auxiliary ∷ [];
  strings = [];
}

-- records
pub record WorkedFieldsOfRecords : Type 0 where
  -- a writer's symbol keeps its value and the number of its section
  pub symbol_kept : symbol_written [] (added (Section 0x1234)) ≡ laid_out 0x1234
  pub symbol_undefined : symbol_written [] (added Undefined) ≡ laid_out 0
  pub symbol_absolute : symbol_written [] (added Absolute) ≡ laid_out 0xFFFF
  pub symbol_of_debug : symbol_written [] (added Debug) ≡ laid_out 0xFFFE
  pub entry_kept : entries_added (added (Section 0x1234)) ≡ ASymbol (read_back 0x1234) ∷ []
  pub symbol_bytes_written : symbol_bytes [] (laid_out 0x1234) ≡ symbol_record
  pub symbol_read : symbol_of [] symbol_record ≡ Some (read_back 0x1234)
  pub type_read : symbol_of [] (hex "61 62 63 00 00 00 00 00 78 56 34 12 34 12 ad 0b 9a 00")
      ≡ Some (record (read_back 0x1234) { kind = 0x0BAD })
  -- the name of 8 bytes has no NUL, and one in the string table has its offset after four zeros
  pub whole_name_read : name_of [] (codes "abcdefgh") ≡ Some (codes "abcdefgh")
  pub long_name : symbol_bytes (4 ∷ 0x01020304 ∷ []) with_auxiliary
      ≡ hex "00 00 00 00 04 03 02 01 78 56 34 12 fe ff 00 00 9a 01" ++ codes "abcdefghijklmnopqr"
  pub second_string : name_of (hex "0b 00 00 00" ++ codes "ab\0cde\0")
      (hex "00 00 00 00 07 00 00 00") ≡ Some (codes "cde")
  pub end_of_a_string : name_of (hex "0b 00 00 00" ++ codes "ab\0cde\0")
      (hex "00 00 00 00 09 00 00 00") ≡ Some (codes "e")
  pub relocation_written : relocation_bytes relocation ≡ relocation_record
  pub relocation_read : relocation_of relocation_record ≡ relocation
  -- the data at an offset, and the relocations after it
  pub section_written : section_header 0x12345678
      (section (codes "sections") 0x89ABCDEF (hex "01 02 03") (relocation ∷ relocation ∷ []))
      ≡ codes "sections" ++ hex "00 00 00 00 00 00 00 00 03 00 00 00 78 56 34 12 7b 56 34 12 00 00 00 00 02 00 00 00 ef cd ab 89"
  pub section_without_data : section_header 0x12345678 (section (codes "sections") 0x89ABCDEF [] [])
      ≡ codes "sections" ++ hex "00 00 00 00 00 00 00 00 00 00 00 00 00 00 00 00 00 00 00 00 00 00 00 00 00 00 00 00 ef cd ab 89"
  pub header_written : header_bytes empty_object
      ≡ hex "34 12 02 00 00 00 00 00 64 00 00 00 03 00 00 00 00 00 78 56"
  pub two_bytes : u16_at (hex "00 01 02 03 04 05") 2 ≡ 0x0302
  pub four_bytes : u32_at (hex "00 01 02 03 04 05") 1 ≡ 0x04030201
