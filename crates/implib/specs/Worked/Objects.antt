-- Objects worked by hand: those of foo.dll with all their numbers, and sizes and offsets in
-- objects.
use Rattle.std.specs.Prelude.{◌≡◌, ℕ, ◌+◌, List, [], ◌∷◌, ◌++◌, None, Some, codes, replicate}
use Rattle.implib.specs.declared.coff.object.Relocation.{Relocation}
use Rattle.implib.specs.declared.machine.MachineType.TheVariants.{I386, AMD64}
use Rattle.implib.specs.Formats.Object.{ObjectSection}
use Rattle.implib.specs.Formats.Layout.{InRecord, InStringTable, ObjectLayout, LayoutSymbol}
use Rattle.implib.specs.Formats.Layout.{SymbolName, contents_offset, contents_size, header_bytes}
use Rattle.implib.specs.Formats.Layout.{encoded_size, string_offsets, strings_size}
use Rattle.implib.specs.Formats.Layout.{symbol_table_offset}
use Rattle.implib.specs.Worked.Digits.{hex}
use Rattle.implib.specs.Worked.Machines.{Numbers, at, numbers}

-- a symbol of value 0 without an auxiliary record
abbrev pub symbol : SymbolName → ℕ → ℕ → LayoutSymbol
symbol name section class =
    record { name = name; value = 0; section = section; class = class; aux = None }

-- a section, by its name, its flags, its data and its relocations
abbrev pub section : List ℕ → ℕ → List ℕ → List Relocation → ObjectSection
section name flags bytes relocations = record {
  name = name;
  flags = flags;
  bytes = bytes;
  relocations = relocations;
}

-- `count` zero bytes
abbrev pub zeros : ℕ → List ℕ
zeros count = replicate count 0

-- where the contents of sections begin that follow one another
unfoldable pub data_offsets_from : ℕ → List ObjectSection → List ℕ
data_offsets_from offset [] = []
data_offsets_from offset (s ∷ rest) = offset ∷ data_offsets_from (offset + contents_size s) rest

-- two undefined externals, of 8 and of 9 bytes
unfoldable pub two_names : ObjectLayout
two_names = record {
  machine = 0x8664;
  characteristics = 0;
  sections = [];
  symbols = symbol (InRecord (codes "abcdefgh")) 0 2 ∷ symbol (InStringTable 0) 0 2 ∷ [];
  strings = codes "abcdefghi" ∷ [];
}

-- a section with one relocation, and the symbol that it names
unfoldable pub one_section : ObjectLayout
one_section = record {
  machine = 0xAA64;
  characteristics = 0;
  sections = section (codes ".idata$2") 0xC0300040 (zeros 20) (at 16 0 2 ∷ []) ∷ [];
  symbols = symbol (InRecord (codes "x")) 1 2 ∷ [];
  strings = [];
}

-- For Microsoft's linker, by the numbers of the machine.

-- the import descriptor of foo.dll
unfoldable pub descriptor : Numbers → ObjectLayout
descriptor n = record {
  machine = n.machine;
  characteristics = n.characteristics;
  sections =
      section (codes ".idata$2") 0xC0300040 (zeros 20)
      (at 12 2 n.image_relative ∷ at 0 3 n.image_relative ∷ at 16 4 n.image_relative ∷ [])
      ∷ section (codes ".idata$6") 0xC0200040 (codes "foo.dll" ++ zeros 1) []
      ∷ [];
  symbols =
      symbol (InStringTable 0) 1 2
      ∷ symbol (InRecord (codes ".idata$2")) 1 104
      ∷ symbol (InRecord (codes ".idata$6")) 2 3
      ∷ symbol (InRecord (codes ".idata$4")) 0 104
      ∷ symbol (InRecord (codes ".idata$5")) 0 104
      ∷ symbol (InStringTable 1) 0 2
      ∷ symbol (InStringTable 2) 0 2
      ∷ [];
  strings =
      codes "__IMPORT_DESCRIPTOR_foo"
      ∷ codes "__NULL_IMPORT_DESCRIPTOR"
      ∷ (0x7F ∷ codes "foo_NULL_THUNK_DATA")
      ∷ [];
}

-- the null descriptor
unfoldable pub null_descriptor : Numbers → ObjectLayout
null_descriptor n = record {
  machine = n.machine;
  characteristics = n.characteristics;
  sections = section (codes ".idata$3") 0xC0300040 (zeros 20) [] ∷ [];
  symbols = symbol (InStringTable 0) 1 2 ∷ [];
  strings = codes "__NULL_IMPORT_DESCRIPTOR" ∷ [];
}

-- the null thunk of foo.dll
unfoldable pub null_thunk : Numbers → ObjectLayout
null_thunk n = record {
  machine = n.machine;
  characteristics = n.characteristics;
  sections =
      section (codes ".idata$5") n.null_thunk_flags n.null_thunk []
      ∷ section (codes ".idata$4") n.null_thunk_flags n.null_thunk []
      ∷ [];
  symbols = symbol (InStringTable 0) 1 2 ∷ [];
  strings = (0x7F ∷ codes "foo_NULL_THUNK_DATA") ∷ [];
}

-- a weak external: the second name for the first
unfoldable pub weak : Numbers → List ℕ → List ℕ → ObjectLayout
weak n target name = record {
  machine = n.machine;
  characteristics = 0;
  sections = section (codes ".drectve") 0xA00 [] [] ∷ [];
  symbols =
      symbol (InRecord (codes "@comp.id")) 0xFFFF 3
      ∷ symbol (InRecord (codes "@feat.00")) 0xFFFF 3
      ∷ symbol (InStringTable 0) 0 2
      ∷ record {
        name = InStringTable 1;
        value = 0;
        section = 0;
        class = 105;
        aux = Some (hex "02 00 00 00 03 00 00 00 00 00 00 00 00 00 00 00 00 00");
      }
      ∷ [];
  strings = target ∷ name ∷ [];
}

-- For GNU's linker, by the numbers of the machine.

-- the symbol of a file's name: section -2, one auxiliary record
abbrev pub file : LayoutSymbol
file = record {
  name = InRecord (codes ".file");
  value = 0;
  section = 0xFFFE;
  class = 103;
  aux = Some (codes "fake" ++ zeros 14);
}

-- the sections of the head and of the tail that hold nothing
abbrev pub empty_sections : List ObjectSection
empty_sections =
    section (codes ".text" ++ zeros 3) 0x60500020 [] []
    ∷ section (codes ".data" ++ zeros 3) 0xC0500040 [] []
    ∷ section (codes ".bss" ++ zeros 4) 0xC0500080 [] []
    ∷ []

-- the head of foo.dll
unfoldable pub head : Numbers → ObjectLayout
head n = record {
  machine = n.machine;
  characteristics = 0;
  sections =
      empty_sections
      ++ section (codes ".idata$2") 0xC0300040 (zeros 20)
      (at 0 3 n.image_relative ∷ at 16 2 n.image_relative ∷ at 12 5 n.image_relative ∷ [])
      ∷ section (codes ".idata$5") 0xC0300040 [] []
      ∷ section (codes ".idata$4") 0xC0300040 [] []
      ∷ [];
  symbols =
      file
      ∷ symbol (InRecord (codes ".idata$5")) 5 3
      ∷ symbol (InRecord (codes ".idata$4")) 6 3
      ∷ symbol (InStringTable 0) 4 2
      ∷ symbol (InStringTable 1) 0 2
      ∷ [];
  strings = n.head ∷ n.iname ∷ [];
}

-- the tail of foo.dll
unfoldable pub tail : Numbers → ObjectLayout
tail n = record {
  machine = n.machine;
  characteristics = 0;
  sections =
      empty_sections
      ++ section (codes ".idata$4") 0xC0300040 n.null_thunk []
      ∷ section (codes ".idata$5") 0xC0300040 n.null_thunk []
      ∷ section (codes ".idata$7") 0xC0300040 (codes "foo.dll" ++ zeros 1) []
      ∷ [];
  symbols = file ∷ symbol (InStringTable 0) 6 2 ∷ [];
  strings = n.iname ∷ [];
}

-- the sections of an export: its code and its entry in both tables, each with its relocations, and
-- its hint and name
abbrev pub export_sections :
    Numbers → List ℕ → List Relocation → List ℕ → List Relocation → List ℕ → List ObjectSection
export_sections n code code_relocations entry entry_relocations hint_and_name =
    section (codes ".text" ++ zeros 3) 0x60300020 code code_relocations
    ∷ section (codes ".data" ++ zeros 3) 0xC0300040 [] []
    ∷ section (codes ".bss" ++ zeros 4) 0xC0300080 [] []
    ∷ section (codes ".idata$7") 0xC0300000 (zeros 4) (at 0 0 n.image_relative ∷ [])
    ∷ section (codes ".idata$5") 0xC0300000 entry entry_relocations
    ∷ section (codes ".idata$4") 0xC0300000 entry entry_relocations
    ∷ section (codes ".idata$6") 0xC0200000 hint_and_name []
    ∷ []

-- an export of foo.dll with code, by its name of at most 8 bytes and the symbol of its address
abbrev pub with_code : Numbers → List ℕ → List ℕ → List ObjectSection → ObjectLayout
with_code n name address sections = record {
  machine = n.machine;
  characteristics = 0;
  sections = sections;
  symbols =
      symbol (InStringTable 0) 0 2
      ∷ symbol (InRecord name) 1 2
      ∷ symbol (InStringTable 1) 5 2
      ∷ symbol (InRecord (codes ".idata$6")) 7 3
      ∷ [];
  strings = n.head ∷ address ∷ [];
}

-- the variable bar of foo.dll: no code
abbrev pub without_code : Numbers → List ObjectSection → ObjectLayout
without_code n sections = record {
  machine = n.machine;
  characteristics = 0;
  sections = sections;
  symbols =
      symbol (InStringTable 0) 0 2
      ∷ symbol (InStringTable 1) 5 2
      ∷ symbol (InRecord (codes ".idata$6")) 7 3
      ∷ [];
  strings = n.head ∷ codes "__imp_bar" ∷ [];
}

-- the function bar
unfoldable pub function : Numbers → ObjectLayout
function n = with_code n (codes "bar") (codes "__imp_bar")
    (export_sections n n.stub n.stub_relocations n.null_thunk (at 0 3 n.image_relative ∷ [])
    (hex "00 00 62 61 72 00"))

-- a function of this name, which is asked for by this hint and name
unfoldable pub function_asking : Numbers → List ℕ → List ℕ → List ℕ → ObjectLayout
function_asking n name address hint_and_name = with_code n name address
    (export_sections n n.stub n.stub_relocations n.null_thunk (at 0 3 n.image_relative ∷ [])
    hint_and_name)

-- the function bar by the ordinal 258
unfoldable pub function_by_ordinal : Numbers → ObjectLayout
function_by_ordinal n = with_code n (codes "bar") (codes "__imp_bar")
    (export_sections n n.stub n.stub_relocations n.thunk_of_258 [] [])

-- the variable bar with the hint 258
unfoldable pub variable : Numbers → ObjectLayout
variable n = without_code n
    (export_sections n [] [] n.null_thunk (at 0 2 n.image_relative ∷ []) (hex "02 01 62 61 72 00"))

-- the variable bar by the ordinal 258
unfoldable pub variable_by_ordinal : Numbers → ObjectLayout
variable_by_ordinal n = without_code n (export_sections n [] [] n.thunk_of_258 [] [])

-- what is worked of them: sizes in bytes, offsets from the beginning of the file
pub record WorkedObjects : Type 0 where
  pub two_names_size : encoded_size two_names ≡ 70
  pub one_section_size : encoded_size one_section ≡ 112
  pub one_section_offsets : data_offsets_from (contents_offset one_section) one_section.sections
      ≡ 60 ∷ []
  pub one_section_symbols : symbol_table_offset one_section ≡ 90
  pub function_size : encoded_size (function (numbers AMD64)) ≡ 474
  pub function_offsets :
      data_offsets_from (contents_offset (function (numbers AMD64)))
      (function (numbers AMD64)).sections
      ≡ 300 ∷ 318 ∷ 318 ∷ 318 ∷ 332 ∷ 350 ∷ 368 ∷ []
  pub function_symbols : symbol_table_offset (function (numbers AMD64)) ≡ 374
  pub function_strings : strings_size (function (numbers AMD64)).strings ≡ 28
  pub descriptor_size : encoded_size (descriptor (numbers AMD64)) ≡ 358
  pub descriptor_header : header_bytes (descriptor (numbers AMD64))
      ≡ hex "64 86 02 00 00 00 00 00 9e 00 00 00 07 00 00 00 00 00 00 00"
  pub descriptor_offsets : string_offsets (descriptor (numbers AMD64)).strings ≡ 4 ∷ 28 ∷ 53 ∷ []
  pub descriptor_strings : strings_size (descriptor (numbers AMD64)).strings ≡ 74
  pub null_descriptor_size : encoded_size (null_descriptor (numbers AMD64)) ≡ 127
  pub null_thunk_size : encoded_size (null_thunk (numbers AMD64)) ≡ 159
  pub null_thunk_size_32 : encoded_size (null_thunk (numbers I386)) ≡ 151
  pub weak_size : encoded_size (weak (numbers AMD64) (codes "baz") (codes "foo")) ≡ 162
  pub weak_size_imp : encoded_size (weak (numbers AMD64) (codes "__imp_baz") (codes "__imp_foo"))
      ≡ 174
  pub weak_symbols : symbol_table_offset (weak (numbers AMD64) (codes "baz") (codes "foo")) ≡ 60
