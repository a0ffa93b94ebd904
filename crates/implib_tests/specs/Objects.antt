-- Objects of a writer byte by byte, whose bytes are known from outside. A line is a header, half of
-- one, data, a relocation, a symbol's record, or a string; a section's header takes two lines.
use Rattle.std.specs.Prelude.{◌≡◌, ℕ, List, [], ◌∷◌, ◌++◌, None, Some, codes, drop, length, take}
use Rattle.std.specs.List.{concat}
use Rattle.implib.specs.declared.coff.object.Place.{Place}
use Rattle.implib.specs.declared.coff.object.Place.TheVariants.{Absolute, Debug, Section, Undefined}
use Rattle.implib.specs.declared.machine.MachineType.TheVariants.{AMD64, ARM64}
use Rattle.implib.specs.Formats.Layout.{encoded}
use Rattle.implib.specs.Formats.Writer.{AddedSymbol, WriterState, all_entries, layout_of}
use Rattle.implib.specs.Worked.Digits.{hex}
use Rattle.implib.specs.Worked.Layouts.{one_section_bytes, two_names_bytes}
use Rattle.implib.specs.Worked.Objects.{section, zeros}

-- a symbol of value 0 without an auxiliary record, by its class
abbrev pub of_class : ℕ → List ℕ → Place → AddedSymbol
of_class class name place =
    record { name = name; value = 0; place = place; class = class; aux = None }

-- two undefined externals, of 8 and of 9 bytes: the second is in the string table
abbrev pub two_names : WriterState
two_names = record {
  machine = AMD64;
  sections = [];
  symbols = of_class 2 (codes "abcdefgh") Undefined ∷ of_class 2 (codes "abcdefghi") Undefined ∷ [];
}

-- a section with one relocation, and the symbol that it names
abbrev pub one_section : WriterState
one_section = record {
  machine = ARM64;
  sections =
      section (codes ".idata$2") 0xC0300040 (zeros 20)
      (record { offset = 16; symbol = 0; kind = 2 } ∷ []) ∷ [];
  symbols = of_class 2 (codes "x") (Section 1) ∷ [];
}

-- one long name twice
abbrev pub one_name : WriterState
one_name = record {
  machine = AMD64;
  sections = [];
  symbols = of_class 2 (codes "abcdefghi") Undefined ∷ of_class 2 (codes "abcdefghi") Undefined
      ∷ [];
}

-- a symbol with an auxiliary record, and the one after it
abbrev pub file : AddedSymbol
file = record (of_class 103 (codes ".file") Debug) { aux = Some (codes "fake" ++ zeros 14) }

abbrev pub with_auxiliary : WriterState
with_auxiliary = record {
  machine = AMD64;
  sections = [];
  symbols = file ∷ of_class 3 (codes "x") Absolute ∷ [];
}

unfoldable pub with_auxiliary_bytes : List ℕ
with_auxiliary_bytes = concat (
    hex "64 86 00 00 00 00 00 00 14 00 00 00 03 00 00 00 00 00 00 00"
    ∷ codes ".file" ∷ hex "00 00 00 00 00 00 00 fe ff 00 00 67 01"
    ∷ codes "fake" ∷ hex "00 00 00 00 00 00 00 00 00 00 00 00 00 00"
    ∷ codes "x" ∷ hex "00 00 00 00 00 00 00 00 00 00 00 ff ff 00 00 03 00"
    ∷ hex "04 00 00 00"
    ∷ [])

-- code with a field, a section without data, and a field for a section's own symbol
abbrev pub three_sections : WriterState
three_sections = record {
  machine = AMD64;
  sections =
      section (codes ".text" ++ zeros 3) 0x60300020 (hex "ff 25 00 00 00 00 90 90")
      (record { offset = 2; symbol = 1; kind = 4 } ∷ [])
      ∷ section (codes ".bss" ++ zeros 4) 0xC0300080 [] []
      ∷ section (codes ".idata$5") 0xC0300000 (zeros 8)
      (record { offset = 0; symbol = 2; kind = 3 } ∷ [])
      ∷ [];
  symbols =
      of_class 2 (codes "_head_foo_dll") Undefined
      ∷ of_class 2 (codes "__imp_bar") (Section 3)
      ∷ of_class 3 (codes ".idata$5") (Section 3)
      ∷ [];
}

unfoldable pub three_sections_bytes : List ℕ
three_sections_bytes = concat (
    hex "64 86 03 00 00 00 00 00 b0 00 00 00 03 00 00 00 00 00 00 00"
    ∷ codes ".text" ∷ hex "00 00 00" ∷ hex "00 00 00 00 00 00 00 00 08 00 00 00 8c 00 00 00"
    ∷ hex "94 00 00 00 00 00 00 00 01 00 00 00 20 00 30 60"
    ∷ codes ".bss" ∷ hex "00 00 00 00" ∷ hex "00 00 00 00 00 00 00 00 00 00 00 00 00 00 00 00"
    ∷ hex "00 00 00 00 00 00 00 00 00 00 00 00 80 00 30 c0"
    ∷ codes ".idata$5" ∷ hex "00 00 00 00 00 00 00 00 08 00 00 00 9e 00 00 00"
    ∷ hex "a6 00 00 00 00 00 00 00 01 00 00 00 00 00 30 c0"
    ∷ hex "ff 25 00 00 00 00 90 90"
    ∷ hex "02 00 00 00 01 00 00 00 04 00"
    ∷ hex "00 00 00 00 00 00 00 00"
    ∷ hex "00 00 00 00 02 00 00 00 03 00"
    ∷ hex "00 00 00 00 04 00 00 00 00 00 00 00 00 00 00 00 02 00"
    ∷ hex "00 00 00 00 12 00 00 00 00 00 00 00 03 00 00 00 02 00"
    ∷ codes ".idata$5" ∷ hex "00 00 00 00 03 00 00 00 03 00"
    ∷ hex "1c 00 00 00"
    ∷ codes "_head_foo_dll" ∷ hex "00"
    ∷ codes "__imp_bar" ∷ hex "00"
    ∷ [])

-- what writers write
pub record BytesOfObjects : Type 0 where
  pub two_names : encoded (layout_of two_names) ≡ two_names_bytes
  pub one_section : encoded (layout_of one_section) ≡ one_section_bytes
  -- the name is stored once, at the offset 4, and both symbols have it
  pub one_name_size : length (encoded (layout_of one_name)) ≡ 70
  pub first_name : take 8 (drop 20 (encoded (layout_of one_name))) ≡ hex "00 00 00 00 04 00 00 00"
  pub second_name : take 8 (drop 38 (encoded (layout_of one_name))) ≡ hex "00 00 00 00 04 00 00 00"
  -- the auxiliary record takes an index
  pub index_behind : length (all_entries (file ∷ [])) ≡ 2
  pub with_auxiliary : encoded (layout_of with_auxiliary) ≡ with_auxiliary_bytes
  pub three_sections : encoded (layout_of three_sections) ≡ three_sections_bytes
