-- A library of t.dll, worked out apart from the program: its archive as llvm-dlltool 19 writes it.
use Rattle.std.specs.Prelude.{◌≡◌, ℕ, List, [], ◌∷◌, ◌++◌, None, Some, codes, drop, take}
use Rattle.implib.specs.Members.MemberSpec.{MemberView}
use Rattle.implib.specs.Worked.Digits.{hex}
use Rattle.implib_archive.specs.Leads.{header_for}
use Rattle.implib_archive.specs.Reader.{members_in}
use Rattle.implib_archive.specs.Worked.{member}
use Rattle.implib_archive.specs.declared.error.Fault.TheVariants.{EmptyName, NulInSymbol}
use Rattle.implib_archive.specs.declared.kind.Kind.TheVariants.{Coff}
use Rattle.implib_arm64ec.specs.Archive.{ec_archive, ec_entries, ec_index, library_refusal}
use Rattle.implib_arm64ec.specs.ArchiveLaws.{IndexesLead, IsReadBack}
use Rattle.implib_arm64ec.specs.ArchiveReader.{ec_header_for}
use Rattle.implib_arm64ec.specs.Library.{LibraryView}

-- The file of `-m arm64ec -d DEF -N NATIVE`, DEF with `f` and `d DATA`, NATIVE with `f`, `g` and `h
-- DATA`: 1850 bytes.
unfoldable pub worked_archive : List ℕ
worked_archive =
    hex "21 3c 61 72 63 68 3e 0a 2f 20 20 20 20 20 20 20 20 20 20 20 20 20 20 20 30 20 20 20 20 20 20 20 20 20 20 20 30 20 20 20 20 20 30 20 20 20 20 20 30 20"
    ++ hex "20 20 20 20 20 20 31 33 30 20 20 20 20 20 20 20 60 0a 00 00 00 08 00 00 02 4c 00 00 03 e8 00 00 04 a4 00 00 06 32 00 00 06 32 00 00 06 8a 00 00 06 8a"
    ++ hex "00 00 06 e2 5f 5f 49 4d 50 4f 52 54 5f 44 45 53 43 52 49 50 54 4f 52 5f 74 00 5f 5f 4e 55 4c 4c 5f 49 4d 50 4f 52 54 5f 44 45 53 43 52 49 50 54 4f 52"
    ++ hex "00 7f 74 5f 4e 55 4c 4c 5f 54 48 55 4e 4b 5f 44 41 54 41 00 5f 5f 69 6d 70 5f 66 00 66 00 5f 5f 69 6d 70 5f 67 00 67 00 5f 5f 69 6d 70 5f 68 00 2f 20"
    ++ hex "20 20 20 20 20 20 20 20 20 20 20 20 20 20 30 20 20 20 20 20 20 20 20 20 20 20 30 20 20 20 20 20 30 20 20 20 20 20 30 20 20 20 20 20 20 20 31 35 30 20"
    ++ hex "20 20 20 20 20 20 60 0a 08 00 00 00 4c 02 00 00 e8 03 00 00 a4 04 00 00 7e 05 00 00 da 05 00 00 32 06 00 00 8a 06 00 00 e2 06 00 00 08 00 00 00 01 00"
    ++ hex "02 00 06 00 07 00 08 00 06 00 07 00 03 00 5f 5f 49 4d 50 4f 52 54 5f 44 45 53 43 52 49 50 54 4f 52 5f 74 00 5f 5f 4e 55 4c 4c 5f 49 4d 50 4f 52 54 5f"
    ++ hex "44 45 53 43 52 49 50 54 4f 52 00 5f 5f 69 6d 70 5f 66 00 5f 5f 69 6d 70 5f 67 00 5f 5f 69 6d 70 5f 68 00 66 00 67 00 7f 74 5f 4e 55 4c 4c 5f 54 48 55"
    ++ hex "4e 4b 5f 44 41 54 41 00 2f 3c 45 43 53 59 4d 42 4f 4c 53 3e 2f 20 20 20 30 20 20 20 20 20 20 20 20 20 20 20 30 20 20 20 20 20 30 20 20 20 20 20 30 20"
    ++ hex "20 20 20 20 20 20 31 32 30 20 20 20 20 20 20 20 60 0a 08 00 00 00 04 00 01 00 02 00 04 00 05 00 04 00 04 00 03 00 23 66 00 5f 5f 49 4d 50 4f 52 54 5f"
    ++ hex "44 45 53 43 52 49 50 54 4f 52 5f 74 00 5f 5f 4e 55 4c 4c 5f 49 4d 50 4f 52 54 5f 44 45 53 43 52 49 50 54 4f 52 00 5f 5f 69 6d 70 5f 61 75 78 5f 66 00"
    ++ hex "5f 5f 69 6d 70 5f 64 00 5f 5f 69 6d 70 5f 66 00 66 00 7f 74 5f 4e 55 4c 4c 5f 54 48 55 4e 4b 5f 44 41 54 41 00 00 74 2e 64 6c 6c 2f 20 20 20 20 20 20"
    ++ hex "20 20 20 20 30 20 20 20 20 20 20 20 20 20 20 20 30 20 20 20 20 20 30 20 20 20 20 20 36 34 34 20 20 20 20 20 33 35 32 20 20 20 20 20 20 20 60 0a 64 aa"
    ++ hex "02 00 00 00 00 00 9c 00 00 00 07 00 00 00 00 00 00 00 2e 69 64 61 74 61 24 32 00 00 00 00 00 00 00 00 14 00 00 00 64 00 00 00 78 00 00 00 00 00 00 00"
    ++ hex "03 00 00 00 40 00 30 c0 2e 69 64 61 74 61 24 36 00 00 00 00 00 00 00 00 06 00 00 00 96 00 00 00 00 00 00 00 00 00 00 00 00 00 00 00 40 00 20 c0 00 00"
    ++ hex "00 00 00 00 00 00 00 00 00 00 00 00 00 00 00 00 00 00 0c 00 00 00 02 00 00 00 02 00 00 00 00 00 03 00 00 00 02 00 10 00 00 00 04 00 00 00 02 00 74 2e"
    ++ hex "64 6c 6c 00 00 00 00 00 04 00 00 00 00 00 00 00 01 00 00 00 02 00 2e 69 64 61 74 61 24 32 00 00 00 00 01 00 00 00 68 00 2e 69 64 61 74 61 24 36 00 00"
    ++ hex "00 00 02 00 00 00 03 00 2e 69 64 61 74 61 24 34 00 00 00 00 00 00 00 00 68 00 2e 69 64 61 74 61 24 35 00 00 00 00 00 00 00 00 68 00 00 00 00 00 1a 00"
    ++ hex "00 00 00 00 00 00 00 00 00 00 02 00 00 00 00 00 33 00 00 00 00 00 00 00 00 00 00 00 02 00 46 00 00 00 5f 5f 49 4d 50 4f 52 54 5f 44 45 53 43 52 49 50"
    ++ hex "54 4f 52 5f 74 00 5f 5f 4e 55 4c 4c 5f 49 4d 50 4f 52 54 5f 44 45 53 43 52 49 50 54 4f 52 00 7f 74 5f 4e 55 4c 4c 5f 54 48 55 4e 4b 5f 44 41 54 41 00"
    ++ hex "74 2e 64 6c 6c 2f 20 20 20 20 20 20 20 20 20 20 30 20 20 20 20 20 20 20 20 20 20 20 30 20 20 20 20 20 30 20 20 20 20 20 36 34 34 20 20 20 20 20 31 32"
    ++ hex "37 20 20 20 20 20 20 20 60 0a 64 aa 01 00 00 00 00 00 50 00 00 00 01 00 00 00 00 00 00 00 2e 69 64 61 74 61 24 33 00 00 00 00 00 00 00 00 14 00 00 00"
    ++ hex "3c 00 00 00 00 00 00 00 00 00 00 00 00 00 00 00 40 00 30 c0 00 00 00 00 00 00 00 00 00 00 00 00 00 00 00 00 00 00 00 00 00 00 00 00 04 00 00 00 00 00"
    ++ hex "00 00 01 00 00 00 02 00 1d 00 00 00 5f 5f 4e 55 4c 4c 5f 49 4d 50 4f 52 54 5f 44 45 53 43 52 49 50 54 4f 52 00 0a 74 2e 64 6c 6c 2f 20 20 20 20 20 20"
    ++ hex "20 20 20 20 30 20 20 20 20 20 20 20 20 20 20 20 30 20 20 20 20 20 30 20 20 20 20 20 36 34 34 20 20 20 20 20 31 35 37 20 20 20 20 20 20 20 60 0a 64 aa"
    ++ hex "02 00 00 00 00 00 74 00 00 00 01 00 00 00 00 00 00 00 2e 69 64 61 74 61 24 35 00 00 00 00 00 00 00 00 08 00 00 00 64 00 00 00 00 00 00 00 00 00 00 00"
    ++ hex "00 00 00 00 40 00 40 c0 2e 69 64 61 74 61 24 34 00 00 00 00 00 00 00 00 08 00 00 00 6c 00 00 00 00 00 00 00 00 00 00 00 00 00 00 00 40 00 40 c0 00 00"
    ++ hex "00 00 00 00 00 00 00 00 00 00 00 00 00 00 00 00 00 00 04 00 00 00 00 00 00 00 01 00 00 00 02 00 17 00 00 00 7f 74 5f 4e 55 4c 4c 5f 54 48 55 4e 4b 5f"
    ++ hex "44 41 54 41 00 0a 74 2e 64 6c 6c 2f 20 20 20 20 20 20 20 20 20 20 30 20 20 20 20 20 20 20 20 20 20 20 30 20 20 20 20 20 30 20 20 20 20 20 36 34 34 20"
    ++ hex "20 20 20 20 33 31 20 20 20 20 20 20 20 20 60 0a 00 00 ff ff 00 00 41 a6 00 00 00 00 0b 00 00 00 00 00 10 00 23 66 00 74 2e 64 6c 6c 00 66 00 0a 74 2e"
    ++ hex "64 6c 6c 2f 20 20 20 20 20 20 20 20 20 20 30 20 20 20 20 20 20 20 20 20 20 20 30 20 20 20 20 20 30 20 20 20 20 20 36 34 34 20 20 20 20 20 32 38 20 20"
    ++ hex "20 20 20 20 20 20 60 0a 00 00 ff ff 00 00 41 a6 00 00 00 00 08 00 00 00 00 00 05 00 64 00 74 2e 64 6c 6c 00 74 2e 64 6c 6c 2f 20 20 20 20 20 20 20 20"
    ++ hex "20 20 30 20 20 20 20 20 20 20 20 20 20 20 30 20 20 20 20 20 30 20 20 20 20 20 36 34 34 20 20 20 20 20 32 38 20 20 20 20 20 20 20 20 60 0a 00 00 ff ff"
    ++ hex "00 00 64 aa 00 00 00 00 08 00 00 00 00 00 04 00 66 00 74 2e 64 6c 6c 00 74 2e 64 6c 6c 2f 20 20 20 20 20 20 20 20 20 20 30 20 20 20 20 20 20 20 20 20"
    ++ hex "20 20 30 20 20 20 20 20 30 20 20 20 20 20 36 34 34 20 20 20 20 20 32 38 20 20 20 20 20 20 20 20 60 0a 00 00 ff ff 00 00 64 aa 00 00 00 00 08 00 00 00"
    ++ hex "00 00 04 00 67 00 74 2e 64 6c 6c 00 74 2e 64 6c 6c 2f 20 20 20 20 20 20 20 20 20 20 30 20 20 20 20 20 20 20 20 20 20 20 30 20 20 20 20 20 30 20 20 20"
    ++ hex "20 20 36 34 34 20 20 20 20 20 32 38 20 20 20 20 20 20 20 20 60 0a 00 00 ff ff 00 00 64 aa 00 00 00 00 08 00 00 00 00 00 05 00 68 00 74 2e 64 6c 6c 00"

-- a member of it: the bytes of this size at an offset, which is behind the header
abbrev pub part_of : ℕ → ℕ → List (List ℕ) → MemberView
part_of place size symbols = member (codes "t.dll") (take size (drop place worked_archive)) symbols

-- the library
abbrev pub worked_library : LibraryView
worked_library = record {
  headers =
      part_of 648 352 (codes "__IMPORT_DESCRIPTOR_t" ∷ [])
      ∷ part_of 1060 127 (codes "__NULL_IMPORT_DESCRIPTOR" ∷ [])
      ∷ part_of 1248 157 ((127 ∷ codes "t_NULL_THUNK_DATA") ∷ []) ∷ [];
  imports =
      part_of 1466 31 (codes "__imp_f" ∷ codes "f" ∷ codes "__imp_aux_f" ∷ codes "#f" ∷ [])
      ∷ part_of 1558 28 (codes "__imp_d" ∷ []) ∷ [];
  natives =
      part_of 1646 28 (codes "__imp_f" ∷ codes "f" ∷ [])
      ∷ part_of 1734 28 (codes "__imp_g" ∷ codes "g" ∷ [])
      ∷ part_of 1822 28 (codes "__imp_h" ∷ []) ∷ [];
}

-- the library of `-m arm64ec -d DEF`, DEF with `f`
abbrev pub function_library : LibraryView
function_library = record {
  headers = worked_library.headers;
  imports = part_of 1466 31 (codes "__imp_f" ∷ codes "f" ∷ codes "__imp_aux_f" ∷ codes "#f" ∷ [])
      ∷ [];
  natives = [];
}

-- a library with one import, of this name and symbol
abbrev pub library_of : List ℕ → List ℕ → LibraryView
library_of name symbol =
    record { headers = []; imports = member name [] (symbol ∷ []) ∷ []; natives = [] }

-- the symbols of three headers, each with a NUL
abbrev pub descriptor_text : List ℕ
descriptor_text = codes "__IMPORT_DESCRIPTOR_t" ++ 0 ∷ (codes "__NULL_IMPORT_DESCRIPTOR" ++ 0 ∷ [])

abbrev pub thunk_text : List ℕ
thunk_text = (127 ∷ codes "t_NULL_THUNK_DATA") ++ 0 ∷ []

-- The EC index of a function alone, and the whole archive.
pub record WorkedArchives : Type 0 where
  pub whole : ec_archive worked_library ≡ worked_archive
  pub function : ec_index (ec_entries function_library)
      ≡ hex "07 00 00 00 04 00 01 00 02 00 04 00 04 00 04 00 03 00"
      ++ (codes "#f" ++ 0 ∷ (descriptor_text
      ++ (codes "__imp_aux_f" ++ 0 ∷ (codes "__imp_f" ++ 0 ∷ (codes "f" ++ 0 ∷ thunk_text)))))
  -- two bytes and their NULs after 6 bytes, and a zero byte more that the size counts
  pub odd : ec_archive (library_of (codes "a") (codes "bc"))
      ≡ codes "!<arch>\n/               0           0     0     0       4         `\n"
      ++ (hex "00 00 00 00"
      ++ (codes "/               0           0     0     0       12        `\n"
      ++ (hex "01 00 00 00 d6 00 00 00 00 00 00 00"
      ++ (codes "/<ECSYMBOLS>/   0           0     0     0       10        `\n"
      ++ (hex "01 00 00 00 01 00 62 63 00 00"
      ++ codes "a/              0           0     0     644     0         `\n")))))

-- The archive is read back, with its indexes. `f` is an import for ARM64EC and a native one for
-- ARM64, each found by its own index; `#f` is ARM64EC's alone. A reader without the EC index finds
-- no members. With imports and native members in the other order it is no
-- archive of the library.
pub record WorkedArchiveReadings : Type 0 where
  pub read : IsReadBack worked_library worked_archive
  pub leads : IndexesLead worked_library worked_archive
  pub ec_f : ec_header_for worked_archive (codes "f") ≡ Some 1406
  pub ec_marked : ec_header_for worked_archive (codes "#f") ≡ Some 1406
  pub f : header_for worked_archive (codes "f") ≡ Some 1586
  pub marked : header_for worked_archive (codes "#f") ≡ None
  pub other_reader : members_in Coff worked_archive ≡ None
  pub other_order : IsReadBack
      (record worked_library { imports = worked_library.natives; natives = worked_library.imports })
      worked_archive → ⊥

-- Libraries that are refused, and why.
pub record WorkedLibraryRefusals : Type 0 where
  pub none : library_refusal worked_library ≡ None
  pub no_name : library_refusal (library_of [] (codes "f")) ≡ Some EmptyName
  pub nul_in_symbol : library_refusal (library_of (codes "a") (102 ∷ 0 ∷ [])) ≡ Some NulInSymbol
