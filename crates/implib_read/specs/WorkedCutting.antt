-- Short imports by which linkers ask a DLL for different names, or for the same, worked by hand.
use Rattle.std.specs.Prelude.{◌≡◌, ℕ, List, [], ◌∷◌, Option, None, Some, codes}
use Rattle.std.specs.Option.{option_and_then}
use Rattle.implib_read.specs.Archives.{StoredMember}
use Rattle.implib_read.specs.Cutting.{Cut, cut_apart, cut_by_short_import}
use Rattle.implib_read.specs.ShortImports.{short_import_found}

-- a short import byte by byte: the low and the high byte of its machine, its types, the size of its
-- texts, and these
abbrev pub short_import : ℕ → ℕ → ℕ → ℕ → List ℕ → List ℕ
short_import low high types size texts =
    0 ∷ 0 ∷ 0xFF ∷ 0xFF ∷ 0 ∷ 0 ∷ low ∷ high ∷ 0 ∷ 0 ∷ 0 ∷ 0 ∷ size ∷ 0 ∷ 0 ∷ 0 ∷ 7 ∷ 0 ∷ types ∷ 0 ∷ texts

-- the names that linkers ask for by the bytes of one, if they differ
abbrev pub cut_in : List ℕ → Option Cut
cut_in bytes = option_and_then cut_by_short_import (short_import_found bytes)

-- a symbol, and the names by lld and by GNU `ld`
abbrev pub cut : List ℕ → List ℕ → List ℕ → Option Cut
cut symbol lld gnu = Some (record { symbol = symbol; by_lld = lld; by_gnu = gnu })

-- a member at an offset
abbrev pub at : ℕ → List ℕ → StoredMember
at offset bytes = record { name = codes "d.dll"; offset = offset; bytes = bytes }

-- `__f` of d.dll for AMD64, without its prefix and by itself
abbrev pub without_prefix_on_amd64 : List ℕ
without_prefix_on_amd64 = short_import 0x64 0x86 8 10 (codes "__f\0d.dll\0")

abbrev pub by_name_on_amd64 : List ℕ
by_name_on_amd64 = short_import 0x64 0x86 4 10 (codes "__f\0d.dll\0")

-- Off I386 GNU `ld` leaves an underscore.
pub record WorkedCuts : Type 0 where
  pub amd64 : cut_in without_prefix_on_amd64 ≡ cut (codes "__f") (codes "_f") (codes "__f")
  pub one_underscore : cut_in (short_import 0x64 0x86 8 9 (codes "_f\0d.dll\0"))
      ≡ cut (codes "_f") (codes "f") (codes "_f")
  pub arm64_undecorated : cut_in (short_import 0x64 0xAA 12 12 (codes "__f@4\0d.dll\0"))
      ≡ cut (codes "__f@4") (codes "_f") (codes "__f")
  pub armnt_data : cut_in (short_import 0xC4 1 9 10 (codes "__f\0d.dll\0"))
      ≡ cut (codes "__f") (codes "_f") (codes "__f")
  -- I386; `?` and `@`, which each linker takes off; no prefix at all
  pub i386 : cut_in (short_import 0x4C 1 8 10 (codes "__f\0d.dll\0")) ≡ None
  pub i386_undecorated : cut_in (short_import 0x4C 1 12 12 (codes "__f@4\0d.dll\0")) ≡ None
  pub question_mark : cut_in (short_import 0x64 0x86 12 9 (codes "?f\0d.dll\0")) ≡ None
  pub at_sign : cut_in (short_import 0x64 0x86 8 9 (codes "@f\0d.dll\0")) ≡ None
  pub no_prefix : cut_in (short_import 0x64 0x86 8 8 (codes "f\0d.dll\0")) ≡ None
  -- by the symbol itself, by ordinal, and by a third text
  pub by_name : cut_in by_name_on_amd64 ≡ None
  pub by_ordinal : cut_in (short_import 0x64 0x86 0 10 (codes "__f\0d.dll\0")) ≡ None
  pub third_text : cut_in (short_import 0x64 0x86 16 13 (codes "__f\0d.dll\0_f\0")) ≡ None
  -- types that have no meaning
  pub no_type : cut_in (short_import 0x64 0x86 11 10 (codes "__f\0d.dll\0")) ≡ None
  -- of members those that are cut apart, with their offsets
  pub members : cut_apart
      (at 8 by_name_on_amd64 ∷ at 0x5C without_prefix_on_amd64 ∷ at 0xB0 [] ∷ [])
      ≡ (
        at 0x5C without_prefix_on_amd64,
        record { symbol = codes "__f"; by_lld = codes "_f"; by_gnu = codes "__f" },
      ) ∷ []
