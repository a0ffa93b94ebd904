-- Names, numbers and archives at the bounds of what is read and what has an archive, worked by
-- hand.
use Rattle.std.specs.Prelude.{◌≡◌, ℕ, ◌-◌, ◌^◌, true, false, List, [], ◌∷◌, ◌++◌, None, Some, codes}
use Rattle.std.specs.Prelude.{length}
use Rattle.implib.specs.Members.MemberSpec.{MemberView}
use Rattle.implib_archive.specs.Archive.{is_long, long_names, name_field, sorted_entries}
use Rattle.implib_archive.specs.Reader.{LongAt, LongNames, Linker, Short, Stored, Unknown}
use Rattle.implib_archive.specs.Reader.{long_name, name_in, number_in, stored_in}
use Rattle.implib_archive.specs.Refusal.{has_short_places, has_too_many, member_refusal, refusal_of}
use Rattle.implib_archive.specs.Worked.{member}
use Rattle.implib_archive.specs.declared.kind.Kind.TheVariants.{Coff, Gnu}
use Rattle.implib_archive.specs.declared.error.Fault.TheVariants.{EmptyName, EmptySymbol}
use Rattle.implib_archive.specs.declared.error.Fault.TheVariants.{MemberTooLong, NulInName}
use Rattle.implib_archive.specs.declared.error.Fault.TheVariants.{NulInSymbol}

-- members of four names, of which two are long, and one of these is the name of two members
abbrev pub of_long_names : List MemberView
of_long_names =
    member (codes "sixteen_bytes_.o") [] [] ∷ member (codes "b.o") [] []
    ∷ member (codes "sixteen_bytes_.o") [] []
    ∷ member (codes "a/b.o") [] [] ∷ []

-- Names that a header has in its field, with a slash after them, and names that it cannot have
-- there: of 15 and of 16 bytes, and with a slash in them. A long name of two members is kept once.
pub record WorkedFields : Type 0 where
  pub of_15_bytes : is_long (codes "fifteen_bytes.o") ≡ false
  pub of_16_bytes : is_long (codes "sixteen_bytes_.o") ≡ true
  pub with_slash : is_long (codes "a/b.o") ≡ true
  pub with_other_slash : is_long (codes "a\\b.o") ≡ false
  pub field_of_15_bytes : name_field [] (codes "fifteen_bytes.o") ≡ codes "fifteen_bytes.o/"
  pub field_of_long : name_field ((codes "a/b.o", 123) ∷ []) (codes "a/b.o") ≡ codes "/123"
  pub once_in_gnu : long_names Gnu of_long_names
      ≡ (codes "sixteen_bytes_.o", 0) ∷ (codes "a/b.o", 18) ∷ []
  pub once_in_coff : long_names Coff of_long_names
      ≡ (codes "sixteen_bytes_.o", 0) ∷ (codes "a/b.o", 17) ∷ []
  pub sorted : sorted_entries
      ((codes "b", 1) ∷ (codes "a", 2) ∷ (codes "_", 3) ∷ (codes "B", 4) ∷ (codes "ab", 5) ∷ [])
      ≡ (codes "B", 4) ∷ (codes "_", 3) ∷ (codes "a", 2) ∷ (codes "ab", 5) ∷ (codes "b", 1) ∷ []

-- What name fields say, and where long names end.
pub record ReadNames : Type 0 where
  pub short : name_in (codes "a.o/            ") ≡ Short (codes "a.o")
  pub not_ended : name_in (codes "a.o             ") ≡ Unknown
  pub more_behind : name_in (codes "a.o/b           ") ≡ Unknown
  pub linker : name_in (codes "/               ") ≡ Linker
  pub long_names : name_in (codes "//              ") ≡ LongNames
  pub at_offset : name_in (codes "/12             ") ≡ LongAt 12
  pub no_offset : name_in (codes "/x              ") ≡ Unknown
  pub offset_and_more : name_in (codes "/12x            ") ≡ Unknown
  pub gnu_with_slash : long_name Gnu (codes "dir/a.o/\nb.o/\n") 0 ≡ codes "dir/a.o"
  pub gnu_second : long_name Gnu (codes "dir/a.o/\nb.o/\n") 9 ≡ codes "b.o"
  pub coff_with_slash : long_name Coff (codes "dir/a.o\0b.o\0") 0 ≡ codes "dir/a.o"
  pub coff_with_line_end : long_name Coff (codes "a/\nb.o\0") 0 ≡ codes "a/\nb.o"
  pub size : number_in (codes "120       ") ≡ Some 120
  pub size_and_more : number_in (codes "12x       ") ≡ None
  pub two_sizes : number_in (codes "1 2       ") ≡ None
  pub size_behind_a_space : number_in (codes " 12       ") ≡ None
  pub signed_size : number_in (codes "-1        ") ≡ None
  pub no_size : number_in (codes "          ") ≡ None

-- an archive of one part, a.o, by its signature, the size in its header, the two bytes that end it,
-- and its data
abbrev pub archive_with : List ℕ → List ℕ → List ℕ → List ℕ → List ℕ
archive_with start size end contents =
    start ++ codes "a.o/            0           0     0     644     " ++ size ++ codes "         "
    ++ end ++ contents

-- the part
abbrev pub part_of : List ℕ → Stored
part_of contents = record { field = codes "a.o/            "; contents = contents }

-- What is read of such an archive, and of others that are wrong in one place.
pub record RefusedArchives : Type 0 where
  pub read : stored_in (archive_with (codes "!<arch>\n") (codes "3") (codes "`\n") (codes "xyz\n"))
      ≡ Some (part_of (codes "xyz") ∷ [])
  pub of_even_size : stored_in
      (archive_with (codes "!<arch>\n") (codes "4") (codes "`\n") (codes "wxyz"))
      ≡ Some (part_of (codes "wxyz") ∷ [])
  pub none : stored_in (codes "!<arch>\n") ≡ Some []
  pub thin : stored_in (archive_with (codes "!<thin>\n") (codes "4") (codes "`\n") (codes "wxyz"))
      ≡ None
  pub signature_cut : stored_in (codes "!<arch>") ≡ None
  pub not_ended : stored_in
      (archive_with (codes "!<arch>\n") (codes "4") (codes "``") (codes "wxyz")) ≡ None
  pub ended_otherwise : stored_in
      (archive_with (codes "!<arch>\n") (codes "4") (codes " \n") (codes "wxyz")) ≡ None
  pub data_cut : stored_in
      (archive_with (codes "!<arch>\n") (codes "5") (codes "`\n") (codes "wxyz")) ≡ None
  pub padding_missing : stored_in
      (archive_with (codes "!<arch>\n") (codes "3") (codes "`\n") (codes "xyz")) ≡ None
  pub size_no_number : stored_in
      (archive_with (codes "!<arch>\n") (codes "x") (codes "`\n") (codes "wxyz")) ≡ None
  pub header_cut : stored_in
      (codes "!<arch>\na.o/            0           0     0     644     4         `") ≡ None

-- Members that are refused for one of two causes, and lists of members at the bounds: of 65,534 and
-- 65,535 members, of headers at 2^32 - 1 and 2^32, and of 2^32 bytes.
pub record WorkedBounds : Type 0 where
  pub name_before_symbol : refusal_of Coff (member (97 ∷ 0 ∷ []) [] ([] ∷ []) ∷ []) ≡ Some NulInName
  pub empty_name_before_symbol : refusal_of Gnu (member [] [] ((102 ∷ 0 ∷ []) ∷ []) ∷ [])
      ≡ Some EmptyName
  pub first_symbol : refusal_of Gnu
      (member (codes "a") [] (codes "f" ∷ [] ∷ (102 ∷ 0 ∷ []) ∷ []) ∷ []) ≡ Some EmptySymbol
  pub first_member : refusal_of Gnu
      (member (codes "a") [] ((102 ∷ 0 ∷ []) ∷ []) ∷ member [] [] [] ∷ []) ≡ Some NulInSymbol
  pub carriage_return : refusal_of Gnu (member (97 ∷ 13 ∷ []) [] [] ∷ []) ≡ None
  pub line_end_in_symbol : refusal_of Gnu (member (codes "a") [] ((97 ∷ 10 ∷ []) ∷ []) ∷ []) ≡ None
  pub few : (members : List MemberView) → length members ≡ 65534 → has_too_many Coff members ≡ false
  pub too_many : (members : List MemberView) → length members ≡ 65535 →
      has_too_many Coff members ≡ true
  pub many_of_gnu : (members : List MemberView) → has_too_many Gnu members ≡ false
  pub last_place : has_short_places (2 ^ 32 - 1) (member (codes "a") [] [] ∷ []) ≡ true
  pub first_too_far : has_short_places (2 ^ 32) [] ≡ false
  pub second_too_far : has_short_places (2 ^ 32 - 60)
      (member (codes "a") [] [] ∷ member (codes "b") [] [] ∷ []) ≡ false
  pub second_last_place : has_short_places (2 ^ 32 - 62)
      (member (codes "a") [] [] ∷ member (codes "b") [] [] ∷ []) ≡ true
  pub long : (bytes : List ℕ) → length bytes ≡ 2 ^ 32 - 1 →
      member_refusal Coff (member (codes "a") bytes []) ≡ None
  pub too_long : (bytes : List ℕ) → length bytes ≡ 2 ^ 32 →
      member_refusal Coff (member (codes "a") bytes []) ≡ Some MemberTooLong
