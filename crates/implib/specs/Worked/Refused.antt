-- Bytes, names and numbers that were made by hand so that nothing is read from them, each beside
-- one that is read and differs from it in what is wrong.
use Rattle.std.specs.Prelude.{◌≡◌, ℕ, List, [], ◌∷◌, ◌++◌, Some, None, codes}
use Rattle.std.specs.List.{concat}
use Rattle.std.specs.Option.{option_map}
use Rattle.implib.specs.declared.flavor.Flavor.TheVariants.{Gnu}
use Rattle.implib.specs.declared.machine.MachineType.TheVariants.{I386, ARMNT}
use Rattle.implib.specs.Conversions.{flavor_named, machine_named, machine_numbered}
use Rattle.implib.specs.Formats.File.{AnAlias, AnImport, declared_by, dll_in, file_in, meaning_in}
use Rattle.implib.specs.Formats.Object.{ASymbol, object_in}
use Rattle.implib.specs.Formats.ShortImport.{short_import_in}
use Rattle.implib.specs.Import.{Name}
use Rattle.implib.specs.Worked.Digits.{hex}

-- the header of an object for AMD64 without sections, whose symbol table has at most 255 records
abbrev pub header_with_records : List ℕ → List ℕ
header_with_records records =
    hex "64 86 00 00 00 00 00 00 14 00 00 00" ++ records ++ hex "00 00 00 00 00 00 00"

-- the record of a symbol of three letters, from the byte after its value on
abbrev pub symbol_record : List ℕ → List ℕ → List ℕ
symbol_record name rest = name ++ hex "00 00 00 00 00 00 00 00 00" ++ rest

-- an undefined external, and a weak external with one auxiliary record
abbrev pub external_record : List ℕ → List ℕ
external_record name = symbol_record name (hex "00 00 00 00 02 00")

abbrev pub weak_record : List ℕ → List ℕ
weak_record name = symbol_record name (hex "00 00 00 00 69 01")

-- an auxiliary record that names the symbol of an index below 256
abbrev pub tag_record : List ℕ → List ℕ
tag_record index = index ++ hex "00 00 00 03 00 00 00 00 00 00 00 00 00 00 00 00 00"

-- a string table without strings
abbrev pub no_strings : List ℕ
no_strings = hex "04 00 00 00"

-- foo is weak for baz
unfoldable pub one_weak_external : List ℕ
one_weak_external = concat (
    header_with_records (hex "03")
    ∷ external_record (codes "baz")
    ∷ weak_record (codes "foo") ∷ tag_record (hex "00")
    ∷ no_strings
    ∷ [])

-- foo and bar are weak for baz
unfoldable pub two_weak_externals : List ℕ
two_weak_externals = concat (
    header_with_records (hex "05")
    ∷ external_record (codes "baz")
    ∷ weak_record (codes "foo") ∷ tag_record (hex "00")
    ∷ weak_record (codes "bar") ∷ tag_record (hex "00")
    ∷ no_strings
    ∷ [])

-- foo is weak for the symbol after the last one
unfoldable pub weak_for_no_symbol : List ℕ
weak_for_no_symbol = concat (
    header_with_records (hex "03")
    ∷ external_record (codes "baz")
    ∷ weak_record (codes "foo") ∷ tag_record (hex "03")
    ∷ no_strings
    ∷ [])

-- foo is weak for an auxiliary record
unfoldable pub weak_for_a_record : List ℕ
weak_for_a_record = concat (
    header_with_records (hex "03")
    ∷ external_record (codes "baz")
    ∷ weak_record (codes "foo") ∷ tag_record (hex "02")
    ∷ no_strings
    ∷ [])

-- foo has an auxiliary record that the symbol table does not have
unfoldable pub missing_record : List ℕ
missing_record = concat (
    header_with_records (hex "02")
    ∷ external_record (codes "baz")
    ∷ weak_record (codes "foo")
    ∷ no_strings
    ∷ [])

-- an undefined external whose name is in the string table, at this offset below 256, and the string
-- table
unfoldable pub named_at : List ℕ → List ℕ → List ℕ
named_at offset strings = concat (
    header_with_records (hex "01")
    ∷ hex "00 00 00 00" ∷ offset ∷ hex "00 00 00 00 00 00 00 00 00 00 00 02 00"
    ∷ strings
    ∷ [])

-- An object whose section `.idata$6` has the size of one byte, and relocations of this offset and
-- number, each of one byte. Its data of 8 bytes is at 60, and the file has 72 bytes.
unfoldable pub of_section : List ℕ → List ℕ → List ℕ → List ℕ → List ℕ
of_section size at count section_bytes = concat (
    hex "64 86 01 00 00 00 00 00 44 00 00 00 00 00 00 00 00 00 00 00"
    ∷ codes ".idata$6" ∷ hex "00 00 00 00 00 00 00 00" ∷ size ∷ hex "00 00 00 3c 00 00 00"
    ∷ at ∷ hex "00 00 00 00 00 00 00" ∷ count ∷ hex "00 00 00 40 00 20 c0"
    ∷ section_bytes
    ∷ no_strings
    ∷ [])

-- foo.dll with its NUL, and 8 bytes without one
abbrev pub foo_and_nul : List ℕ
foo_and_nul = codes "foo.dll\0"

abbrev pub foo_and_s : List ℕ
foo_and_s = codes "foo.dlls"

-- objects
pub record RefusedObjects : Type 0 where
  -- the object with two weak externals is read, and is no alias
  pub alias : meaning_in one_weak_external
      ≡ Some (AnAlias (record { weak = codes "foo"; target = codes "baz" }))
  pub two_are_read : option_map declared_by (file_in two_weak_externals)
      ≡ Some (codes "foo" ∷ codes "bar" ∷ [])
  pub two_are_no_alias : meaning_in two_weak_externals ≡ None
  pub no_target : meaning_in weak_for_no_symbol ≡ None
  pub record_for_target : meaning_in weak_for_a_record ≡ None
  pub auxiliary_record_missing : object_in missing_record ≡ None
  -- a name in the string table, whose size is in its first four bytes
  pub name_read : option_map (λ o. o.entries)
      (object_in (named_at (hex "04") (hex "0a 00 00 00" ++ codes "abcde\0")))
      ≡ Some (ASymbol (record { name = codes "abcde"; value = 0; section = 0; kind = 0; class = 2 })
      ∷ [])
  pub name_without_nul : object_in (named_at (hex "04") (hex "0a 00 00 00" ++ codes "abcdef"))
      ≡ None
  pub nul_behind_the_table : object_in (named_at (hex "04") (hex "09 00 00 00" ++ codes "abcde\0"))
      ≡ None
  pub name_behind_the_table : object_in (named_at (hex "0a") (hex "0a 00 00 00" ++ codes "abcde\0"))
      ≡ None
  pub name_far_behind_the_table : object_in
      (named_at (hex "ff") (hex "0a 00 00 00" ++ codes "abcde\0")) ≡ None
  pub table_behind_the_file : object_in (named_at (hex "04") (hex "0b 00 00 00" ++ codes "abcde\0"))
      ≡ None
  pub no_table : object_in (named_at (hex "04") []) ≡ None
  -- a section's data and relocations
  pub dll_read : dll_in (of_section (hex "08") (hex "3e") (hex "01") foo_and_nul)
      ≡ Some (codes "foo.dll")
  pub dll_without_nul : dll_in (of_section (hex "08") (hex "3e") (hex "01") foo_and_s) ≡ None
  pub nul_behind_the_section : dll_in (of_section (hex "07") (hex "3e") (hex "01") foo_and_nul)
      ≡ None
  pub data_behind_the_file : object_in (of_section (hex "0d") (hex "3e") (hex "01") foo_and_nul)
      ≡ None
  pub relocation_behind_the_file : object_in
      (of_section (hex "08") (hex "3f") (hex "01") foo_and_nul) ≡ None
  pub two_relocations : object_in (of_section (hex "08") (hex "3e") (hex "02") foo_and_nul) ≡ None
  pub header_cut : object_in (hex "64 86 00 00 00 00 00 00 00 00 00 00 00 00 00 00 00 00 00") ≡ None

-- a short import for AMD64 of the size of one byte, with its types and its texts
unfoldable pub short_import : List ℕ → List ℕ → List ℕ → List ℕ
short_import size types texts =
    concat (hex "00 00 ff ff 00 00 64 86 00 00 00 00" ∷ size ∷ hex "00 00 00 00 00" ∷ types ∷ texts
    ∷ [])

-- the texts of bar and foo.dll
abbrev pub both_texts : List ℕ
both_texts = codes "bar\0foo.dll\0"

-- short imports
pub record RefusedShortImports : Type 0 where
  pub function : meaning_in (short_import (hex "0c") (hex "04 00") both_texts)
      ≡ Some (AnImport (record {
        dll = codes "foo.dll";
        declared = codes "__imp_bar" ∷ codes "bar" ∷ [];
        ask = Name (codes "bar") 0;
      }))
  -- the import types are 0 to 2, and the name types 0 to 3
  pub greatest_types : meaning_in (short_import (hex "0c") (hex "0e 00") both_texts)
      ≡ Some (AnImport (record {
        dll = codes "foo.dll";
        declared = codes "__imp_bar" ∷ codes "bar" ∷ [];
        ask = Name (codes "bar") 0;
      }))
  pub import_type_read : option_map (λ r. r.import_type)
      (short_import_in (short_import (hex "0c") (hex "07 00") both_texts)) ≡ Some 3
  pub import_type_of_3 : meaning_in (short_import (hex "0c") (hex "07 00") both_texts) ≡ None
  pub name_type_read : option_map (λ r. r.name_type)
      (short_import_in (short_import (hex "0c") (hex "10 00") both_texts)) ≡ Some 4
  pub name_type_of_4 : meaning_in (short_import (hex "0c") (hex "10 00") both_texts) ≡ None
  pub name_type_of_7 : meaning_in (short_import (hex "0c") (hex "1c 00") both_texts) ≡ None
  -- the size is that of both texts, each of which ends in its NUL, and nothing follows them
  pub size_too_small : short_import_in (short_import (hex "0b") (hex "04 00") both_texts) ≡ None
  pub size_too_great : short_import_in (short_import (hex "0d") (hex "04 00") both_texts) ≡ None
  pub dll_without_nul : short_import_in
      (short_import (hex "0c") (hex "04 00") (codes "bar\0foo.dlls")) ≡ None
  pub one_text : short_import_in (short_import (hex "0c") (hex "04 00") (codes "bar_foo.dll\0"))
      ≡ None
  pub three_texts : short_import_in
      (short_import (hex "0c") (hex "04 00") (codes "bar\0foo\0dll\0")) ≡ None
  pub no_texts : short_import_in (short_import (hex "00") (hex "04 00") []) ≡ None

-- names and numbers that are no machine's and no flavour's
pub record RefusedNames : Type 0 where
  pub machine : machine_named (codes "I386") ≡ Some I386
  pub machine_x64 : machine_named (codes "x64") ≡ None
  pub machine_x86 : machine_named (codes "X86") ≡ None
  pub machine_of_small_letters : machine_named (codes "amd64") ≡ None
  pub machine_of_one_small_letter : machine_named (codes "i386") ≡ None
  pub machine_cut : machine_named (codes "ARM") ≡ None
  pub machine_longer : machine_named (codes "ARM64EC") ≡ None
  pub machine_of_no_name : machine_named [] ≡ None
  pub flavor : flavor_named (codes "gnu") ≡ Some Gnu
  pub flavor_of_a_capital : flavor_named (codes "Gnu") ≡ None
  pub flavor_of_capitals : flavor_named (codes "MSVC") ≡ None
  pub flavor_cut : flavor_named (codes "ms") ≡ None
  pub flavor_of_no_name : flavor_named [] ≡ None
  pub numbers : machine_numbered 0x1C4 ≡ Some ARMNT
  pub number_0 : machine_numbered 0 ≡ None
  pub number_behind_i386 : machine_numbered 0x14D ≡ None
  pub number_of_arm : machine_numbered 0x1C0 ≡ None
  pub number_before_amd64 : machine_numbered 0x8663 ≡ None
  pub number_behind_arm64 : machine_numbered 0xAA65 ≡ None
  pub greatest_number : machine_numbered 0xFFFF ≡ None
