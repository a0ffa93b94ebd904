-- What is read for ARM64EC, byte by byte: marks of names, short imports, and the entries of an EC
-- index.
use Rattle.std.specs.Prelude.{◌≡◌, ℕ, false, true, List, [], ◌∷◌, ◌++◌, Option, None, Some, codes}
use Rattle.std.specs.Option.{option_and_then}
use Rattle.implib.specs.Import.{Ask, Name, Ordinal}
use Rattle.implib.specs.Worked.Digits.{hex}
use Rattle.implib_read.specs.Archives.{ec_index_in}
use Rattle.implib_read.specs.Arm64ec.{arm64ec_symbols, unmarked}
use Rattle.implib_read.specs.Classes.{Imported, imported_by_short_import}
use Rattle.implib_read.specs.Indexes.{ec_entries_in}
use Rattle.implib_read.specs.Leads.{ec_declarer, is_table_symbol}
use Rattle.implib_read.specs.MemberNames.{LinkerMember, Named, Special}
use Rattle.implib_read.specs.ShortImports.{short_import_found}
use Rattle.implib_read.specs.WorkedFiles.{changed, entry, part}
use Rattle.implib_read.specs.declared.import.ImportKind.{ImportKind}
use Rattle.implib_read.specs.declared.import.ImportKind.TheVariants.{Code, Const, Data}

-- Texts without their marks, and texts that have none.
pub record WorkedUnmarked : Type 0 where
  pub plain : unmarked (codes "#func") ≡ codes "func"
  pub cplusplus : unmarked (codes "?cpp@@$$hYAHPEAX@Z") ≡ codes "?cpp@@YAHPEAX@Z"
  pub no_mark : unmarked (codes "func") ≡ codes "func"
  pub cplusplus_without : unmarked (codes "?cpp@@YAHPEAX@Z") ≡ codes "?cpp@@YAHPEAX@Z"
  pub sign_once : unmarked (codes "##f") ≡ codes "#f"
  pub sign_alone : unmarked (codes "#") ≡ []
  pub first_inside : unmarked (codes "?a$$hb$$hc") ≡ codes "?ab$$hc"
  -- what a mark ends has none, nor has a name that is not of C++
  pub at_the_end : unmarked (codes "?a$$h") ≡ codes "?a$$h"
  pub not_of_cplusplus : unmarked (codes "a$$hb") ≡ codes "a$$hb"
  pub two_letters : unmarked (codes "?a$$b") ≡ codes "?a$$b"
  pub none : unmarked [] ≡ []

-- the short import that llvm-dlltool writes for the function f of t.dll
unfoldable pub worked_function : List ℕ
worked_function =
    hex "00 00 ff ff 00 00 41 a6 00 00 00 00 0b 00 00 00 00 00 10 00 23 66 00 74 2e 64 6c 6c 00 66 00"

-- and for `?cpp@@YAHPEAX@Z`, for `byord @7 NONAME`, for `dat DATA` and for `con CONSTANT`
unfoldable pub worked_cplusplus : List ℕ
worked_cplusplus =
    hex "00 00 ff ff 00 00 41 a6 00 00 00 00 29 00 00 00 00 00 10 00 3f 63 70 70 40 40 24 24 68 59 41 48 50 45 41 58 40 5a 00 74 2e 64 6c 6c 00"
    ++ hex "3f 63 70 70 40 40 59 41 48 50 45 41 58 40 5a 00"

unfoldable pub worked_ordinal : List ℕ
worked_ordinal =
    hex "00 00 ff ff 00 00 41 a6 00 00 00 00 0d 00 00 00 07 00 00 00 23 62 79 6f 72 64 00 74 2e 64 6c 6c 00"

unfoldable pub worked_data : List ℕ
worked_data =
    hex "00 00 ff ff 00 00 41 a6 00 00 00 00 0a 00 00 00 00 00 05 00 64 61 74 00 74 2e 64 6c 6c 00"

unfoldable pub worked_constant : List ℕ
worked_constant =
    hex "00 00 ff ff 00 00 41 a6 00 00 00 00 0a 00 00 00 00 00 06 00 63 6f 6e 00 74 2e 64 6c 6c 00"

-- the import that a short import is, with its kind and its machine
abbrev pub imported : List ℕ → Option Imported
imported bytes = option_and_then imported_by_short_import (short_import_found bytes)

-- an import of t.dll
abbrev pub of_t : ℕ → ImportKind → List (List ℕ) → Ask → Imported
of_t machine kind declared ask = record {
  imports = record { dll = codes "t.dll"; declared = declared; ask = ask };
  kind = kind;
  machine = machine;
}

-- What short imports of ARM64EC mean.
pub record WorkedArm64ecImports : Type 0 where
  pub function : imported worked_function
      ≡ Some (of_t 0xA641 Code (codes "__imp_f" ∷ codes "f" ∷ codes "__imp_aux_f" ∷ codes "#f" ∷ [])
      (Name (codes "f") 0))
  pub cplusplus : imported worked_cplusplus ≡ Some (of_t 0xA641 Code
      (codes "__imp_?cpp@@YAHPEAX@Z" ∷ codes "?cpp@@YAHPEAX@Z" ∷ codes "__imp_aux_?cpp@@YAHPEAX@Z"
      ∷ codes "?cpp@@$$hYAHPEAX@Z" ∷ [])
      (Name (codes "?cpp@@YAHPEAX@Z") 0))
  pub ordinal : imported worked_ordinal
      ≡ Some (of_t 0xA641 Code
      (codes "__imp_byord" ∷ codes "byord" ∷ codes "__imp_aux_byord" ∷ codes "#byord" ∷ [])
      (Ordinal 7))
  pub variable : imported worked_data
      ≡ Some (of_t 0xA641 Data (codes "__imp_dat" ∷ []) (Name (codes "dat") 0))
  pub constant : imported worked_constant
      ≡ Some (of_t 0xA641 Const (codes "__imp_con" ∷ codes "con" ∷ codes "__imp_aux_con" ∷ [])
      (Name (codes "con") 0))
  -- a text without its mark; the machine ARM64; and marks that a definition writes for a constant
  -- and for data
  pub no_mark : imported (changed 20 0x67 worked_function)
      ≡ Some (of_t 0xA641 Code (codes "__imp_gf" ∷ codes "gf" ∷ codes "__imp_aux_gf" ∷ [])
      (Name (codes "f") 0))
  pub arm64 : imported (changed 6 0x64 (changed 7 0xAA worked_function))
      ≡ Some (of_t 0xAA64 Code (codes "__imp_#f" ∷ codes "#f" ∷ []) (Name (codes "f") 0))
  pub marked_constant : arm64ec_symbols 2 (codes "#c")
      ≡ codes "__imp_c" ∷ codes "c" ∷ codes "__imp_aux_c" ∷ codes "#c" ∷ []
  pub marked_data : arm64ec_symbols 1 (codes "#d") ≡ codes "__imp_d" ∷ []
  pub import_type : imported (changed 18 7 worked_constant) ≡ None

-- What EC indexes say, and what is none; which part is one; and to which members their symbols
-- ought to lead.
pub record WorkedEcIndexes : Type 0 where
  pub one : ec_entries_in (hex "01 00 00 00 04 00 23 66 00") ≡ Some (entry (codes "#f") 4 ∷ [])
  pub padded : ec_entries_in (hex "01 00 00 00 04 01 23 00 00 00")
      ≡ Some (entry (codes "#") 260 ∷ [])
  pub none : ec_entries_in (hex "00 00 00 00") ≡ Some []
  pub two : ec_entries_in (hex "02 00 00 00 04 00 23 66 00") ≡ None
  pub no_nul : ec_entries_in (hex "01 00 00 00 04 00 23 66") ≡ None
  pub no_count : ec_entries_in (hex "00 00 00") ≡ None
  -- the part of that name, wherever it is, and of no other name
  pub there : ec_index_in (part 8 LinkerMember (1 ∷ [])
      ∷ part 70 (Special (codes "/<ECSYMBOLS>/")) (2 ∷ []) ∷ []) ≡ Some (2 ∷ [])
  pub other_part : ec_index_in
      (part 8 (Special (codes "/<XFGHASHMAP>/")) (1 ∷ [])
      ∷ part 70 (Named (codes "<ECSYMBOLS>")) (2 ∷ []) ∷ []) ≡ None
  -- symbols of import tables, and others
  pub descriptor : is_table_symbol (codes "__IMPORT_DESCRIPTOR_t") ≡ true
  pub null_descriptor : is_table_symbol (codes "__NULL_IMPORT_DESCRIPTOR") ≡ true
  pub null_thunk : is_table_symbol (codes "\u{7f}t_NULL_THUNK_DATA") ≡ true
  pub function : is_table_symbol (codes "f") ≡ false
  pub longer : is_table_symbol (codes "__NULL_IMPORT_DESCRIPTOR_t") ≡ false
  pub no_front : is_table_symbol (codes "t_NULL_THUNK_DATA") ≡ false
  pub no_end : is_table_symbol (codes "\u{7f}t_NULL_THUNK_DAT") ≡ false
  -- ARM64's members have what import tables are called, and no other symbol
  pub table : ec_declarer (λ s. Some 1) (λ s. Some 2) (codes "__IMPORT_DESCRIPTOR_t") ≡ Some 1
  pub other_table : ec_declarer (λ s. None) (λ s. Some 2) (codes "__IMPORT_DESCRIPTOR_t") ≡ Some 2
  pub import : ec_declarer (λ s. Some 1) (λ s. Some 2) (codes "f") ≡ Some 2
  pub of_arm64_alone : ec_declarer (λ s. Some 1) (λ s. None) (codes "f") ≡ None
