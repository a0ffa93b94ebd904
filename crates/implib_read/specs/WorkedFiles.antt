-- Short imports and archives byte by byte, and bytes that are none; a library with changed bytes.
use Rattle.std.specs.Prelude.{◌≡◌, ℕ, ◌+◌, false, true, List, [], ◌∷◌, ◌++◌, Option, None, Some}
use Rattle.std.specs.Prelude.{codes, drop, take}
use Rattle.std.specs.Option.{option_and_then, option_map}
use Rattle.implib.specs.Formats.Object.{Entry, ASymbol, Auxiliary}
use Rattle.implib.specs.Import.{Name, Import}
use Rattle.implib.specs.Worked.Digits.{hex}
use Rattle.implib_read.specs.Archives.{Part, archive_in, parts_in}
use Rattle.implib_read.specs.Classes.{Class, NotUnderstood, MemberRead, library_in}
use Rattle.implib_read.specs.Leads.{first_declarer, wrong_entries}
use Rattle.implib_read.specs.Indexes.{IndexEntry, first_index_in, second_index_in}
use Rattle.implib_read.specs.MemberNames.{MemberName, Named, NameAt, LinkerMember, LongNamesMember}
use Rattle.implib_read.specs.MemberNames.{Special, long_name_of, member_name}
use Rattle.implib_read.specs.Objects.{have_room, room_in, within_room}
use Rattle.implib_read.specs.ShortImports.{import_of_found, short_import_found}
use Rattle.implib_read.specs.WorkedLibraries.{of_foo, worked_ld}
use Rattle.implib_read.specs.declared.import.ImportKind.TheVariants.{CodeOrConst}

-- the short import that llvm-dlltool writes for `alias==real`, of name type 4
unfoldable pub worked_exported : List ℕ
worked_exported =
    hex "00 00 ff ff 00 00 64 86 00 00 00 00 13 00 00 00 00 00 10 00 61 6c 69 61 73 00 66 6f 6f 2e 64 6c 6c 00 72 65 61 6c 00"

-- the short import that it writes for bar, of name type 1
unfoldable pub worked_by_name : List ℕ
worked_by_name =
    hex "00 00 ff ff 00 00 64 86 00 00 00 00 0c 00 00 00 00 00 04 00 62 61 72 00 66 6f 6f 2e 64 6c 6c 00"

-- bytes with another byte at a place
abbrev pub changed : ℕ → ℕ → List ℕ → List ℕ
changed place byte bytes = take place bytes ++ byte ∷ drop (place + 1) bytes

-- the import that a short import is
abbrev pub imported : List ℕ → Option Import
imported bytes = option_and_then import_of_found (short_import_found bytes)

-- What short imports mean, and what is none.
pub record WorkedShortImports : Type 0 where
  pub exported : imported worked_exported ≡ Some (record {
    dll = codes "foo.dll";
    declared = codes "__imp_alias" ∷ codes "alias" ∷ [];
    ask = Name (codes "real") 0;
  })
  pub by_name : imported worked_by_name ≡ Some (record {
    dll = codes "foo.dll";
    declared = codes "__imp_bar" ∷ codes "bar" ∷ [];
    ask = Name (codes "bar") 0;
  })
  -- a third text by name type 1, and none by name type 4
  pub third_text : short_import_found (changed 18 4 worked_exported) ≡ None
  pub no_third_text : short_import_found (changed 18 16 worked_by_name) ≡ None
  pub byte_after_third_text : short_import_found (changed 12 0x14 (worked_exported ++ 0 ∷ []))
      ≡ None
  -- a size that is one too small; a byte after; the last NUL missing
  pub size : short_import_found (changed 12 11 worked_by_name) ≡ None
  pub byte_more : short_import_found (worked_by_name ++ 0 ∷ []) ≡ None
  pub no_nul : short_import_found (changed 31 65 worked_by_name) ≡ None
  -- import type 3 and name type 5 have no meaning
  pub import_type : imported (changed 18 7 worked_by_name) ≡ None
  pub name_type : imported (changed 18 20 worked_by_name) ≡ None
  -- on ARM64EC code has two symbols more
  pub arm64ec : imported (changed 6 0x41 (changed 7 0xA6 worked_by_name)) ≡ Some (record {
    dll = codes "foo.dll";
    declared = codes "__imp_bar" ∷ codes "bar" ∷ codes "__imp_aux_bar" ∷ [];
    ask = Name (codes "bar") 0;
  })

-- a symbol of this name
abbrev pub symbol_named : List ℕ → Entry
symbol_named name = ASymbol (record { name = name; value = 0; section = 0; kind = 0; class = 2 })

-- Which names have room: those of sixteen entries, whatever they are, and of more those that are
-- together no longer than the room.
pub record WorkedRoom : Type 0 where
  pub room : room_in 10 ≡ 160
  pub sixteenth : have_room 0 15 (symbol_named (codes "abc") ∷ []) ≡ true
  pub seventeenth : have_room 3 16 (symbol_named (codes "abc") ∷ []) ≡ true
  pub too_long : have_room 2 16 (symbol_named (codes "abc") ∷ []) ≡ false
  pub together : have_room 6 16 (symbol_named (codes "abc") ∷ symbol_named (codes "def") ∷ [])
      ≡ true
  pub too_long_together : have_room 5 16
      (symbol_named (codes "abc") ∷ symbol_named (codes "def") ∷ []) ≡ false
  pub first_free : have_room 3 15 (symbol_named (codes "abcd") ∷ symbol_named (codes "def") ∷ [])
      ≡ true
  pub auxiliary : have_room 0 16 (Auxiliary (codes "abc") ∷ []) ≡ true
  pub none_kept : within_room 0 [] ≡ Some []

-- an archive of one member of one byte, without the padding of that: 69 bytes
unfoldable pub worked_unpadded : List ℕ
worked_unpadded =
    hex "21 3c 61 72 63 68 3e 0a 61 2e 6f 2f 20 20 20 20 20 20 20 20 20 20 20 20 30 20 20 20 20 20 20 20 20 20 20 20 30 20 20 20 20 20 30 20 20 20 20 20"
    ++ hex "36 34 34 20 20 20 20 20 31 20 20 20 20 20 20 20 20 20 60 0a 07"

-- an archive of one member of two bytes, whose name has no slash: 70 bytes
unfoldable pub worked_no_slash : List ℕ
worked_no_slash =
    hex "21 3c 61 72 63 68 3e 0a 61 2e 6f 20 20 20 20 20 20 20 20 20 20 20 20 20 30 20 20 20 20 20 20 20 20 20 20 20 30 20 20 20 20 20 30 20 20 20 20 20"
    ++ hex "36 34 34 20 20 20 20 20 32 20 20 20 20 20 20 20 20 20 60 0a 07 08"

-- a member's part
abbrev pub part : ℕ → MemberName → List ℕ → Part
part offset name contents = record { offset = offset; name = name; contents = contents }

-- What archives have, and what is none.
pub record WorkedParts : Type 0 where
  pub empty : parts_in (codes "!<arch>\n") ≡ Some []
  pub unpadded : parts_in worked_unpadded ≡ Some (part 8 (Named (codes "a.o")) (7 ∷ []) ∷ [])
  pub padded : parts_in (worked_unpadded ++ 10 ∷ [])
      ≡ Some (part 8 (Named (codes "a.o")) (7 ∷ []) ∷ [])
  pub no_slash : parts_in worked_no_slash ≡ Some (part 8 (Named (codes "a.o")) (7 ∷ 8 ∷ []) ∷ [])
  pub thin : parts_in (codes "!<thin>\n") ≡ None
  pub cut : parts_in (take 68 worked_unpadded) ≡ None
  pub byte_more : parts_in (worked_no_slash ++ 10 ∷ []) ≡ None
  pub header_end : parts_in (changed 66 0 worked_unpadded) ≡ None
  pub size : parts_in (changed 56 65 worked_unpadded) ≡ None

-- What names say.
pub record WorkedNames : Type 0 where
  pub index : member_name (codes "/               ") ≡ LinkerMember
  pub long_names : member_name (codes "//              ") ≡ LongNamesMember
  pub long : member_name (codes "/120            ") ≡ NameAt 120
  pub ec_symbols : member_name (codes "/<ECSYMBOLS>/   ") ≡ Special (codes "/<ECSYMBOLS>/")
  pub sym64 : member_name (codes "/SYM64/         ") ≡ Special (codes "/SYM64/")
  pub whole_field : member_name (codes "sixteen_bytes.ob") ≡ Named (codes "sixteen_bytes.ob")
  pub by_line_end : long_name_of (codes "a_long_name.o/\nb.o/\n") ≡ codes "a_long_name.o"
  pub by_nul : long_name_of (codes "dir/a_long_name.obj" ++ 0 ∷ codes "b.obj")
      ≡ codes "dir/a_long_name.obj"

-- the class of the last member
abbrev pub last_class : List MemberRead → Option Class
last_class [] = None
last_class (m ∷ []) = Some m.class
last_class (m ∷ m2 ∷ ms) = last_class (m2 ∷ ms)

-- what the last member of a library is for
abbrev pub last_class_in : List ℕ → Option Class
last_class_in bytes = option_and_then last_class (library_in bytes)

-- What GNU ld's object of bar means with changed bytes: fields lead further by what they hold.
pub record WorkedChanges : Type 0 where
  pub as_it_is : last_class_in worked_ld
      ≡ Some (of_foo CodeOrConst (codes "__imp_bar" ∷ codes "bar" ∷ []) (Name (codes "bar") 3))
  -- the address table's entry holds 1, and leads one further: to a hint of which the first byte of
  -- the name is a part
  pub addend : last_class_in (changed 1642 1 worked_ld)
      ≡ Some (of_foo CodeOrConst (codes "__imp_bar" ∷ codes "bar" ∷ []) (Name (codes "ar") 0x6200))
  -- `.idata$7` leads beside the descriptor
  pub no_descriptor : last_class_in (changed 1638 4 worked_ld) ≡ Some NotUnderstood

-- the first linker member that llvm-dlltool writes for the library worked_llvm: 144 bytes
unfoldable pub worked_first_index : List ℕ
worked_first_index =
    hex "00 00 00 08 00 00 01 ac 00 00 03 4e 00 00 04 0a 00 00 04 e6 00 00 04 e6 00 00 05 42 00 00 05 9e 00 00 05 9e 5f 5f 49 4d 50 4f 52 54 5f 44 45 53"
    ++ hex "43 52 49 50 54 4f 52 5f 66 6f 6f 00 5f 5f 4e 55 4c 4c 5f 49 4d 50 4f 52 54 5f 44 45 53 43 52 49 50 54 4f 52 00 7f 66 6f 6f 5f 4e 55 4c 4c 5f 54"
    ++ hex "48 55 4e 4b 5f 44 41 54 41 00 5f 5f 69 6d 70 5f 62 61 72 00 62 61 72 00 5f 5f 69 6d 70 5f 62 61 7a 00 5f 5f 69 6d 70 5f 71 75 78 00 71 75 78 00"

-- the second one: 156 bytes
unfoldable pub worked_second_index : List ℕ
worked_second_index =
    hex "06 00 00 00 ac 01 00 00 4e 03 00 00 0a 04 00 00 e6 04 00 00 42 05 00 00 9e 05 00 00 08 00 00 00 01 00 02 00 04 00 05 00 06 00 04 00 06 00 03 00"
    ++ hex "5f 5f 49 4d 50 4f 52 54 5f 44 45 53 43 52 49 50 54 4f 52 5f 66 6f 6f 00 5f 5f 4e 55 4c 4c 5f 49 4d 50 4f 52 54 5f 44 45 53 43 52 49 50 54 4f 52"
    ++ hex "00 5f 5f 69 6d 70 5f 62 61 72 00 5f 5f 69 6d 70 5f 62 61 7a 00 5f 5f 69 6d 70 5f 71 75 78 00 62 61 72 00 71 75 78 00 7f 66 6f 6f 5f 4e 55 4c 4c"
    ++ hex "5f 54 48 55 4e 4b 5f 44 41 54 41 00"

-- an entry of an index
abbrev pub entry : List ℕ → ℕ → IndexEntry
entry symbol place = record { symbol = symbol; place = place }

-- What indexes say, and what is none.
pub record WorkedIndexes : Type 0 where
  pub first : first_index_in worked_first_index ≡ Some (
      entry (codes "__IMPORT_DESCRIPTOR_foo") 428
      ∷ entry (codes "__NULL_IMPORT_DESCRIPTOR") 846
      ∷ entry (codes "\u{7f}foo_NULL_THUNK_DATA") 1034
      ∷ entry (codes "__imp_bar") 1254
      ∷ entry (codes "bar") 1254
      ∷ entry (codes "__imp_baz") 1346
      ∷ entry (codes "__imp_qux") 1438
      ∷ entry (codes "qux") 1438 ∷ []
      )
  pub second : option_map (λ i. i.entries) (second_index_in worked_second_index) ≡ Some (
      entry (codes "__IMPORT_DESCRIPTOR_foo") 1
      ∷ entry (codes "__NULL_IMPORT_DESCRIPTOR") 2
      ∷ entry (codes "__imp_bar") 4
      ∷ entry (codes "__imp_baz") 5
      ∷ entry (codes "__imp_qux") 6
      ∷ entry (codes "bar") 4
      ∷ entry (codes "qux") 6
      ∷ entry (codes "\u{7f}foo_NULL_THUNK_DATA") 3 ∷ []
      )
  pub offsets : option_map (λ i. i.offsets) (second_index_in worked_second_index) ≡ Some (hex "ac 01 00 00 4e 03 00 00 0a 04 00 00 e6 04 00 00 42 05 00 00 9e 05 00 00")
  pub one : first_index_in (hex "00 00 00 01 00 00 00 48 66 00")
      ≡ Some (entry (codes "f") 0x48 ∷ [])
  -- a count that is too high, and the largest one; a symbol without its NUL; no count
  pub two : first_index_in (hex "00 00 00 02 00 00 00 48 66 00") ≡ None
  pub most : first_index_in (hex "ff ff ff ff 00 00 00 48 66 00") ≡ None
  pub no_nul : first_index_in (hex "00 00 00 01 00 00 00 48 66") ≡ None
  pub no_count : first_index_in (hex "00 00 00") ≡ None
  pub none : first_index_in (hex "00 00 00 00") ≡ Some []

-- what llvm-dlltool writes for the library worked_llvm, with its indexes: 1530 bytes
unfoldable pub worked_indexed : List ℕ
worked_indexed =
    hex "21 3c 61 72 63 68 3e 0a 2f 20 20 20 20 20 20 20 20 20 20 20 20 20 20 20 30 20 20 20 20 20 20 20 20 20 20 20 30 20 20 20 20 20 30 20 20 20 20 20"
    ++ hex "30 20 20 20 20 20 20 20 31 34 34 20 20 20 20 20 20 20 60 0a 00 00 00 08 00 00 01 ac 00 00 03 4e 00 00 04 0a 00 00 04 e6 00 00 04 e6 00 00 05 42"
    ++ hex "00 00 05 9e 00 00 05 9e 5f 5f 49 4d 50 4f 52 54 5f 44 45 53 43 52 49 50 54 4f 52 5f 66 6f 6f 00 5f 5f 4e 55 4c 4c 5f 49 4d 50 4f 52 54 5f 44 45"
    ++ hex "53 43 52 49 50 54 4f 52 00 7f 66 6f 6f 5f 4e 55 4c 4c 5f 54 48 55 4e 4b 5f 44 41 54 41 00 5f 5f 69 6d 70 5f 62 61 72 00 62 61 72 00 5f 5f 69 6d"
    ++ hex "70 5f 62 61 7a 00 5f 5f 69 6d 70 5f 71 75 78 00 71 75 78 00 2f 20 20 20 20 20 20 20 20 20 20 20 20 20 20 20 30 20 20 20 20 20 20 20 20 20 20 20"
    ++ hex "30 20 20 20 20 20 30 20 20 20 20 20 30 20 20 20 20 20 20 20 31 35 36 20 20 20 20 20 20 20 60 0a 06 00 00 00 ac 01 00 00 4e 03 00 00 0a 04 00 00"
    ++ hex "e6 04 00 00 42 05 00 00 9e 05 00 00 08 00 00 00 01 00 02 00 04 00 05 00 06 00 04 00 06 00 03 00 5f 5f 49 4d 50 4f 52 54 5f 44 45 53 43 52 49 50"
    ++ hex "54 4f 52 5f 66 6f 6f 00 5f 5f 4e 55 4c 4c 5f 49 4d 50 4f 52 54 5f 44 45 53 43 52 49 50 54 4f 52 00 5f 5f 69 6d 70 5f 62 61 72 00 5f 5f 69 6d 70"
    ++ hex "5f 62 61 7a 00 5f 5f 69 6d 70 5f 71 75 78 00 62 61 72 00 71 75 78 00 7f 66 6f 6f 5f 4e 55 4c 4c 5f 54 48 55 4e 4b 5f 44 41 54 41 00 66 6f 6f 2e"
    ++ hex "64 6c 6c 2f 20 20 20 20 20 20 20 20 30 20 20 20 20 20 20 20 20 20 20 20 30 20 20 20 20 20 30 20 20 20 20 20 36 34 34 20 20 20 20 20 33 35 38 20"
    ++ hex "20 20 20 20 20 20 60 0a 64 86 02 00 00 00 00 00 9e 00 00 00 07 00 00 00 00 00 00 00 2e 69 64 61 74 61 24 32 00 00 00 00 00 00 00 00 14 00 00 00"
    ++ hex "64 00 00 00 78 00 00 00 00 00 00 00 03 00 00 00 40 00 30 c0 2e 69 64 61 74 61 24 36 00 00 00 00 00 00 00 00 08 00 00 00 96 00 00 00 00 00 00 00"
    ++ hex "00 00 00 00 00 00 00 00 40 00 20 c0 00 00 00 00 00 00 00 00 00 00 00 00 00 00 00 00 00 00 00 00 0c 00 00 00 02 00 00 00 03 00 00 00 00 00 03 00"
    ++ hex "00 00 03 00 10 00 00 00 04 00 00 00 03 00 66 6f 6f 2e 64 6c 6c 00 00 00 00 00 04 00 00 00 00 00 00 00 01 00 00 00 02 00 2e 69 64 61 74 61 24 32"
    ++ hex "00 00 00 00 01 00 00 00 68 00 2e 69 64 61 74 61 24 36 00 00 00 00 02 00 00 00 03 00 2e 69 64 61 74 61 24 34 00 00 00 00 00 00 00 00 68 00 2e 69"
    ++ hex "64 61 74 61 24 35 00 00 00 00 00 00 00 00 68 00 00 00 00 00 1c 00 00 00 00 00 00 00 00 00 00 00 02 00 00 00 00 00 35 00 00 00 00 00 00 00 00 00"
    ++ hex "00 00 02 00 4a 00 00 00 5f 5f 49 4d 50 4f 52 54 5f 44 45 53 43 52 49 50 54 4f 52 5f 66 6f 6f 00 5f 5f 4e 55 4c 4c 5f 49 4d 50 4f 52 54 5f 44 45"
    ++ hex "53 43 52 49 50 54 4f 52 00 7f 66 6f 6f 5f 4e 55 4c 4c 5f 54 48 55 4e 4b 5f 44 41 54 41 00 66 6f 6f 2e 64 6c 6c 2f 20 20 20 20 20 20 20 20 30 20"
    ++ hex "20 20 20 20 20 20 20 20 20 20 30 20 20 20 20 20 30 20 20 20 20 20 36 34 34 20 20 20 20 20 31 32 37 20 20 20 20 20 20 20 60 0a 64 86 01 00 00 00"
    ++ hex "00 00 50 00 00 00 01 00 00 00 00 00 00 00 2e 69 64 61 74 61 24 33 00 00 00 00 00 00 00 00 14 00 00 00 3c 00 00 00 00 00 00 00 00 00 00 00 00 00"
    ++ hex "00 00 40 00 30 c0 00 00 00 00 00 00 00 00 00 00 00 00 00 00 00 00 00 00 00 00 00 00 00 00 04 00 00 00 00 00 00 00 01 00 00 00 02 00 1d 00 00 00"
    ++ hex "5f 5f 4e 55 4c 4c 5f 49 4d 50 4f 52 54 5f 44 45 53 43 52 49 50 54 4f 52 00 0a 66 6f 6f 2e 64 6c 6c 2f 20 20 20 20 20 20 20 20 30 20 20 20 20 20"
    ++ hex "20 20 20 20 20 20 30 20 20 20 20 20 30 20 20 20 20 20 36 34 34 20 20 20 20 20 31 35 39 20 20 20 20 20 20 20 60 0a 64 86 02 00 00 00 00 00 74 00"
    ++ hex "00 00 01 00 00 00 00 00 00 00 2e 69 64 61 74 61 24 35 00 00 00 00 00 00 00 00 08 00 00 00 64 00 00 00 00 00 00 00 00 00 00 00 00 00 00 00 40 00"
    ++ hex "40 c0 2e 69 64 61 74 61 24 34 00 00 00 00 00 00 00 00 08 00 00 00 6c 00 00 00 00 00 00 00 00 00 00 00 00 00 00 00 40 00 40 c0 00 00 00 00 00 00"
    ++ hex "00 00 00 00 00 00 00 00 00 00 00 00 00 00 04 00 00 00 00 00 00 00 01 00 00 00 02 00 19 00 00 00 7f 66 6f 6f 5f 4e 55 4c 4c 5f 54 48 55 4e 4b 5f"
    ++ hex "44 41 54 41 00 0a 66 6f 6f 2e 64 6c 6c 2f 20 20 20 20 20 20 20 20 30 20 20 20 20 20 20 20 20 20 20 20 30 20 20 20 20 20 30 20 20 20 20 20 36 34"
    ++ hex "34 20 20 20 20 20 33 32 20 20 20 20 20 20 20 20 60 0a 00 00 ff ff 00 00 64 86 00 00 00 00 0c 00 00 00 00 00 04 00 62 61 72 00 66 6f 6f 2e 64 6c"
    ++ hex "6c 00 66 6f 6f 2e 64 6c 6c 2f 20 20 20 20 20 20 20 20 30 20 20 20 20 20 20 20 20 20 20 20 30 20 20 20 20 20 30 20 20 20 20 20 36 34 34 20 20 20"
    ++ hex "20 20 33 32 20 20 20 20 20 20 20 20 60 0a 00 00 ff ff 00 00 64 86 00 00 00 00 0c 00 00 00 00 00 05 00 62 61 7a 00 66 6f 6f 2e 64 6c 6c 00 66 6f"
    ++ hex "6f 2e 64 6c 6c 2f 20 20 20 20 20 20 20 20 30 20 20 20 20 20 20 20 20 20 20 20 30 20 20 20 20 20 30 20 20 20 20 20 36 34 34 20 20 20 20 20 33 32"
    ++ hex "20 20 20 20 20 20 20 20 60 0a 00 00 ff ff 00 00 64 86 00 00 00 00 0c 00 00 00 05 00 00 00 71 75 78 00 66 6f 6f 2e 64 6c 6c 00"

-- the data of the first part
abbrev pub first_contents : List Part → List ℕ
first_contents [] = []
first_contents (p ∷ parts) = p.contents

-- the wrong entries of an archive's first part
abbrev pub wrong_in : List ℕ → Option (List IndexEntry)
wrong_in bytes = option_and_then
    (λ a. option_map (wrong_entries (first_declarer a.members))
    (first_index_in (first_contents a.parts)))
    (archive_in bytes)

-- Where indexes lead, and ought to.
pub record WorkedLeads : Type 0 where
  pub right : wrong_in worked_indexed ≡ Some []
  -- bar is led a byte further
  pub misled : wrong_in (changed 91 0xe7 worked_indexed) ≡ Some (entry (codes "bar") 1255 ∷ [])
