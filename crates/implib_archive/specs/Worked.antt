-- Whole archives of both kinds with every byte written out, worked by hand: a second statement of
-- the tables and of the reader.
use Rattle.std.specs.Prelude.{◌≡◌, ◌<◌, ◌≤◌, ◌^◌, ℕ, List, [], ◌∷◌, ◌++◌, None, Some, codes, drop}
use Rattle.std.specs.Prelude.{false, length, replicate, reverse, true}
use Rattle.std.specs.Cmp.Lexicographic.{slice_cmp}
use Rattle.std.specs.List.Sorted.{IsStrictlySortedBy}
use Rattle.std.specs.Ordering.{nat_cmp}
use Rattle.implib.specs.Members.MemberSpec.{MemberView}
use Rattle.implib.specs.Worked.Digits.{hex}
use Rattle.implib_archive.specs.Archive.{archive_of, is_long}
use Rattle.implib_archive.specs.Leads.{IndexLeads, SecondLeads, header_for, headers_in}
use Rattle.implib_archive.specs.Leads.{second_header_for}
use Rattle.implib_archive.specs.ReadBack.{AreLaidOut, AreReadBack}
use Rattle.implib_archive.specs.Reader.{Read, Stored, first_in, member_at, members_in, second_in}
use Rattle.implib_archive.specs.Reader.{stored_at, stored_in}
use Rattle.implib_archive.specs.Refusal.{has_too_many, member_refusal, members_refusal, refusal_of}
use Rattle.implib_archive.specs.declared.kind.Kind.{Kind}
use Rattle.implib_archive.specs.declared.kind.Kind.TheVariants.{Coff, Gnu}
use Rattle.implib_archive.specs.declared.error.Fault.TheVariants.{EmptyName, EmptySymbol}
use Rattle.implib_archive.specs.declared.error.Fault.TheVariants.{LineEndInName, MemberTooLong}
use Rattle.implib_archive.specs.declared.error.Fault.TheVariants.{NulInName, NulInSymbol}
use Rattle.implib_archive.specs.declared.error.Fault.TheVariants.{TooManyMembers}

-- a member
abbrev pub member : List ℕ → List ℕ → List (List ℕ) → MemberView
member name bytes symbols = record { name = name; bytes = bytes; symbols = symbols }

-- a member that is read
abbrev pub read : List ℕ → List ℕ → Read
read name bytes = record { name = name; bytes = bytes }

-- two members: one of an odd size, one with a long name, and a symbol that both list
abbrev pub worked_members : List MemberView
worked_members =
    member (codes "a.o") (1 ∷ 2 ∷ 3 ∷ []) (codes "f" ∷ codes "__imp_f" ∷ [])
    ∷ member (codes "long_member_name.o") (4 ∷ 5 ∷ []) (codes "f" ∷ codes "g" ∷ []) ∷ []

-- what is read of them
abbrev pub worked_reads : List Read
worked_reads =
    read (codes "a.o") (1 ∷ 2 ∷ 3 ∷ []) ∷ read (codes "long_member_name.o") (4 ∷ 5 ∷ []) ∷ []

-- one member whose symbols take an odd number of bytes, so that each linker member ends in a
-- padding byte
abbrev pub odd_members : List MemberView
odd_members = member (codes "a.o") (7 ∷ []) (codes "f" ∷ codes "gh" ∷ []) ∷ []

-- the same member without symbols
abbrev pub unlisted_members : List MemberView
unlisted_members = member (codes "a.o") (7 ∷ []) [] ∷ []

-- its header and its byte, with the line end that follows
abbrev pub odd_member_part : List ℕ
odd_member_part =
    codes "a.o/            0           0     0     644     1         `\n" ++ 7 ∷ 10 ∷ []

-- its archive of the COFF kind: linker members of 17 and 21 bytes, each with one zero byte more
-- that its size counts
abbrev pub odd_coff : List ℕ
odd_coff =
    codes "!<arch>\n/               0           0     0     0       18        `\n"
    ++ (0 ∷ 0 ∷ 0 ∷ 2 ∷ 0 ∷ 0 ∷ 0 ∷ 168 ∷ 0 ∷ 0 ∷ 0 ∷ 168 ∷ [])
    ++ codes "f" ++ 0 ∷ [] ++ codes "gh" ++ 0 ∷ 0 ∷ []
    ++ codes "/               0           0     0     0       22        `\n"
    ++ (1 ∷ 0 ∷ 0 ∷ 0 ∷ 168 ∷ 0 ∷ 0 ∷ 0 ∷ 2 ∷ 0 ∷ 0 ∷ 0 ∷ 1 ∷ 0 ∷ 1 ∷ 0 ∷ [])
    ++ codes "f" ++ 0 ∷ [] ++ codes "gh" ++ 0 ∷ 0 ∷ [] ++ odd_member_part

-- its archive of the GNU kind: the first linker member alone
abbrev pub odd_gnu : List ℕ
odd_gnu =
    codes "!<arch>\n/               0           0     0     0       18        `\n"
    ++ (0 ∷ 0 ∷ 0 ∷ 2 ∷ 0 ∷ 0 ∷ 0 ∷ 86 ∷ 0 ∷ 0 ∷ 0 ∷ 86 ∷ [])
    ++ codes "f" ++ 0 ∷ [] ++ codes "gh" ++ 0 ∷ 0 ∷ [] ++ odd_member_part

-- the archive of the COFF kind, 396 bytes
unfoldable pub worked_coff : List ℕ
worked_coff =
    hex "21 3c 61 72 63 68 3e 0a 2f 20 20 20 20 20 20 20 20 20 20 20 20 20 20 20 30 20 20 20 20 20 20 20 20 20 20 20 30 20 20 20 20 20 30 20 20 20 20 20"
    ++ hex "30 20 20 20 20 20 20 20 32 38 20 20 20 20 20 20 20 20 60 0a 00 00 00 03 00 00 01 0e 00 00 01 0e 00 00 01 4e 66 00 5f 5f 69 6d 70 5f 66 00 67 00"
    ++ hex "2f 20 20 20 20 20 20 20 20 20 20 20 20 20 20 20 30 20 20 20 20 20 20 20 20 20 20 20 30 20 20 20 20 20 30 20 20 20 20 20 30 20 20 20 20 20 20 20"
    ++ hex "33 34 20 20 20 20 20 20 20 20 60 0a 02 00 00 00 0e 01 00 00 4e 01 00 00 03 00 00 00 01 00 01 00 02 00 5f 5f 69 6d 70 5f 66 00 66 00 67 00 2f 2f"
    ++ hex "20 20 20 20 20 20 20 20 20 20 20 20 20 20 20 20 20 20 20 20 20 20 20 20 20 20 20 20 20 20 20 20 20 20 20 20 20 20 20 20 20 20 20 20 20 20 32 30"
    ++ hex "20 20 20 20 20 20 20 20 60 0a 6c 6f 6e 67 5f 6d 65 6d 62 65 72 5f 6e 61 6d 65 2e 6f 00 0a 61 2e 6f 2f 20 20 20 20 20 20 20 20 20 20 20 20 30 20"
    ++ hex "20 20 20 20 20 20 20 20 20 20 30 20 20 20 20 20 30 20 20 20 20 20 36 34 34 20 20 20 20 20 33 20 20 20 20 20 20 20 20 20 60 0a 01 02 03 0a 2f 30"
    ++ hex "20 20 20 20 20 20 20 20 20 20 20 20 20 20 30 20 20 20 20 20 20 20 20 20 20 20 30 20 20 20 20 20 30 20 20 20 20 20 36 34 34 20 20 20 20 20 32 20"
    ++ hex "20 20 20 20 20 20 20 20 60 0a 04 05"

-- the archive of the GNU kind, 308 bytes
unfoldable pub worked_gnu : List ℕ
worked_gnu =
    hex "21 3c 61 72 63 68 3e 0a 2f 20 20 20 20 20 20 20 20 20 20 20 20 20 20 20 30 20 20 20 20 20 20 20 20 20 20 20 30 20 20 20 20 20 30 20 20 20 20 20"
    ++ hex "30 20 20 20 20 20 20 20 33 34 20 20 20 20 20 20 20 20 60 0a 00 00 00 04 00 00 00 b6 00 00 00 b6 00 00 00 f6 00 00 00 f6 66 00 5f 5f 69 6d 70 5f"
    ++ hex "66 00 66 00 67 00 2f 2f 20 20 20 20 20 20 20 20 20 20 20 20 20 20 20 20 20 20 20 20 20 20 20 20 20 20 20 20 20 20 20 20 20 20 20 20 20 20 20 20"
    ++ hex "20 20 20 20 20 20 32 30 20 20 20 20 20 20 20 20 60 0a 6c 6f 6e 67 5f 6d 65 6d 62 65 72 5f 6e 61 6d 65 2e 6f 2f 0a 61 2e 6f 2f 20 20 20 20 20 20"
    ++ hex "20 20 20 20 20 20 30 20 20 20 20 20 20 20 20 20 20 20 30 20 20 20 20 20 30 20 20 20 20 20 36 34 34 20 20 20 20 20 33 20 20 20 20 20 20 20 20 20"
    ++ hex "60 0a 01 02 03 0a 2f 30 20 20 20 20 20 20 20 20 20 20 20 20 20 20 30 20 20 20 20 20 20 20 20 20 20 20 30 20 20 20 20 20 30 20 20 20 20 20 36 34"
    ++ hex "34 20 20 20 20 20 32 20 20 20 20 20 20 20 20 20 60 0a 04 05"

-- The archives of the worked members, of the one with odd linker members, of the same without
-- symbols, and of no members, have these bytes. A header's field has room for a name of 15 bytes
-- and the slash after it.
pub record WorkedArchives : Type 0 where
  pub coff : archive_of Coff worked_members ≡ worked_coff
  pub gnu : archive_of Gnu worked_members ≡ worked_gnu
  pub odd_linker_members : archive_of Coff odd_members ≡ odd_coff
  pub odd_linker_member : archive_of Gnu odd_members ≡ odd_gnu
  pub no_gnu_symbols : archive_of Gnu unlisted_members ≡ codes "!<arch>\n" ++ odd_member_part
  pub no_coff_symbols : archive_of Coff unlisted_members
      ≡ codes "!<arch>\n/               0           0     0     0       4         `\n"
      ++ replicate 4 0
      ++ codes "/               0           0     0     0       12        `\n"
      ++ (1 ∷ 0 ∷ 0 ∷ 0 ∷ 144 ∷ 0 ∷ 0 ∷ 0 ∷ 0 ∷ 0 ∷ 0 ∷ 0 ∷ []) ++ odd_member_part
  pub no_gnu_members : archive_of Gnu [] ≡ codes "!<arch>\n"
  pub no_coff_members : archive_of Coff []
      ≡ codes "!<arch>\n/               0           0     0     0       4         `\n"
      ++ replicate 4 0
      ++ codes "/               0           0     0     0       8         `\n" ++ replicate 8 0
  pub name_of_15_bytes : is_long (codes "fifteen_bytes.o") ≡ false
  pub name_of_16_bytes : is_long (codes "sixteen__bytes.o") ≡ true

-- The bytes are read as the members, with these indexes, whose offsets lead to the members.
pub record WorkedReadings : Type 0 where
  pub coff : members_in Coff worked_coff ≡ Some worked_reads
  pub coff_index : first_in worked_coff
      ≡ Some ((codes "f", 270) ∷ (codes "__imp_f", 270) ∷ (codes "g", 334) ∷ [])
  pub coff_second : second_in worked_coff
      ≡ Some (270 ∷ 334 ∷ [], (codes "__imp_f", 1) ∷ (codes "f", 1) ∷ (codes "g", 2) ∷ [])
  pub coff_first_member : member_at Coff worked_coff 270
      ≡ Some (read (codes "a.o") (1 ∷ 2 ∷ 3 ∷ []))
  pub coff_last_member : member_at Coff worked_coff 334
      ≡ Some (read (codes "long_member_name.o") (4 ∷ 5 ∷ []))
  pub gnu : members_in Gnu worked_gnu ≡ Some worked_reads
  pub gnu_index : first_in worked_gnu
      ≡ Some ((codes "f", 182) ∷ (codes "__imp_f", 182) ∷ (codes "f", 246) ∷ (codes "g", 246) ∷ [])
  pub gnu_first_member : member_at Gnu worked_gnu 182 ≡ Some (read (codes "a.o") (1 ∷ 2 ∷ 3 ∷ []))
  pub gnu_last_member : member_at Gnu worked_gnu 246
      ≡ Some (read (codes "long_member_name.o") (4 ∷ 5 ∷ []))

-- Members that are refused, and why; a line end in a name only in the GNU kind.
pub record WorkedRefusals : Type 0 where
  pub none_of_gnu : refusal_of Gnu worked_members ≡ None
  pub none_of_coff : refusal_of Coff worked_members ≡ None
  pub empty_name : refusal_of Coff (member [] [] [] ∷ []) ≡ Some EmptyName
  pub nul_in_name : refusal_of Gnu (member (97 ∷ 0 ∷ []) [] [] ∷ []) ≡ Some NulInName
  pub line_end_in_name : refusal_of Gnu (member (97 ∷ 10 ∷ []) [] [] ∷ []) ≡ Some LineEndInName
  pub line_end_in_coff : member_refusal Coff (member (97 ∷ 10 ∷ []) [] []) ≡ None
  pub empty_symbol : refusal_of Coff (member (codes "a") [] ([] ∷ []) ∷ []) ≡ Some EmptySymbol
  -- where there are two causes: a NUL in a name before a line end; a name before a symbol; a symbol
  -- before a length;
  -- the first member before the second; a member before the number of members; their number before
  -- their length
  pub nul_before_line_end : refusal_of Gnu (member (10 ∷ 0 ∷ []) [] [] ∷ []) ≡ Some NulInName
  pub name_before_symbol : refusal_of Gnu (member (10 ∷ []) [] ([] ∷ []) ∷ []) ≡ Some LineEndInName
  pub symbol_before_length : (bytes : List ℕ) →
      refusal_of Coff (member (codes "a") bytes ([] ∷ []) ∷ []) ≡ Some EmptySymbol
  pub length_of_a_member : (kind : Kind) (bytes : List ℕ) → 2 ^ 32 ≤ length bytes →
      member_refusal kind (member (codes "a") bytes []) ≡ Some MemberTooLong
  pub shorter_member : (kind : Kind) (bytes : List ℕ) → length bytes < 2 ^ 32 →
      member_refusal kind (member (codes "a") bytes []) ≡ None
  pub first_member : refusal_of Gnu (member (codes "a") [] ([] ∷ []) ∷ member [] [] [] ∷ [])
      ≡ Some EmptySymbol
  pub member_before_number : (members : List MemberView) →
      refusal_of Coff (member [] [] [] ∷ members) ≡ Some EmptyName
  pub number_before_length : (members : List MemberView) → members_refusal Coff members ≡ None →
      65535 ≤ length members → refusal_of Coff members ≡ Some TooManyMembers
  pub number_of_65534 : (members : List MemberView) → length members ≡ 65534 →
      has_too_many Coff members ≡ false
  pub number_in_gnu : (members : List MemberView) → has_too_many Gnu members ≡ false
  pub nul_in_symbol : refusal_of Coff (member (codes "a") [] (codes "f" ∷ (102 ∷ 0 ∷ []) ∷ []) ∷ [])
      ≡ Some NulInSymbol

-- the parts of the worked archive of the GNU kind, by hand
abbrev pub worked_parts : List Stored
worked_parts =
    record {
      field = codes "/               ";
      contents =
          0 ∷ 0 ∷ 0 ∷ 4 ∷ 0 ∷ 0 ∷ 0 ∷ 182 ∷ 0 ∷ 0 ∷ 0 ∷ 182 ∷ 0 ∷ 0 ∷ 0 ∷ 246 ∷ 0 ∷ 0 ∷ 0 ∷ 246 ∷ []
          ++ codes "f" ++ 0 ∷ [] ++ codes "__imp_f" ++ 0 ∷ [] ++ codes "f" ++ 0 ∷ [] ++ codes "g"
          ++ 0 ∷ [];
    }
    ∷ record { field = codes "//              "; contents = codes "long_member_name.o/\n" }
    ∷ record { field = codes "a.o/            "; contents = 1 ∷ 2 ∷ 3 ∷ [] }
    ∷ record { field = codes "/0              "; contents = 4 ∷ 5 ∷ [] } ∷ []

-- The worked archives are read back so. The GNU kind's has four parts, with headers at 8, 102, 182
-- and 246, and the COFF kind's has its long names and its members at 190, 270 and 334. With one
-- byte more nothing is read. A member without a name, which is refused, would be taken for a linker
-- member.
pub record WorkedReadBack : Type 0 where
  pub coff : AreReadBack Coff worked_members worked_coff
  pub gnu : AreReadBack Gnu worked_members worked_gnu
  pub gnu_parts : AreLaidOut worked_gnu 8 worked_parts
  pub gnu_long_names : AreLaidOut worked_gnu 102 (drop 1 worked_parts)
  pub coff_long_names : stored_at worked_coff 190
      ≡ Some (record {
        field = codes "//              ";
        contents = codes "long_member_name.o" ++ 0 ∷ 10 ∷ [];
      })
  pub coff_members : AreLaidOut worked_coff 270 (drop 2 worked_parts)
  pub byte_more : AreLaidOut (worked_gnu ++ 0 ∷ []) 8 worked_parts → ⊥
  pub none_more : stored_in (worked_gnu ++ 0 ∷ []) ≡ None
  pub unnamed : members_in Gnu (archive_of Gnu (member [] (1 ∷ []) [] ∷ [])) ≡ Some []

-- In the worked archives the members' headers are at these offsets. `f`, which both members list,
-- leads to the first one's header, and `g` to the second one's; `h` leads nowhere. They are no
-- archive of the members in the other order, of which `g` leads to the first. Symbols in the
-- members' order do not rise.
pub record WorkedIndexes : Type 0 where
  pub coff : IndexLeads Coff worked_members worked_coff
  pub gnu : IndexLeads Gnu worked_members worked_gnu
  pub second : SecondLeads worked_coff
  pub coff_headers : headers_in worked_coff ≡ Some (270 ∷ 334 ∷ [])
  pub gnu_headers : headers_in worked_gnu ≡ Some (182 ∷ 246 ∷ [])
  pub coff_f : header_for worked_coff (codes "f") ≡ Some 270
  pub coff_g : header_for worked_coff (codes "g") ≡ Some 334
  pub coff_h : header_for worked_coff (codes "h") ≡ None
  pub second_f : second_header_for worked_coff (codes "f") ≡ Some 270
  pub second_g : second_header_for worked_coff (codes "g") ≡ Some 334
  pub second_h : second_header_for worked_coff (codes "h") ≡ None
  pub gnu_f : header_for worked_gnu (codes "f") ≡ Some 182
  pub gnu_g : header_for worked_gnu (codes "g") ≡ Some 246
  pub gnu_h : header_for worked_gnu (codes "h") ≡ None
  pub no_gnu_second : second_header_for worked_gnu (codes "f") ≡ None
  pub turned : IndexLeads Gnu (reverse worked_members) worked_gnu → ⊥
  pub unsorted : IsStrictlySortedBy (slice_cmp nat_cmp)
      (codes "f" ∷ codes "__imp_f" ∷ codes "g" ∷ []) → ⊥
