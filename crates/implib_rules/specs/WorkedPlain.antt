-- Texts of definitions, worked by hand.
use Rattle.std.specs.Prelude.{◌≡◌, [], ◌∷◌, ◌++◌, codes, false, true}
use Rattle.implib_rules.specs.Plain.{plain_text}
use Rattle.implib_rules.specs.PlainLaws.{has_form}

-- definitions as other tools write them, and what is read
pub record PlainTextsWorked : Type 0 where
  pub foreign_comment : plain_text (codes "a ;" ++ (0xFC ∷ 0xE4 ∷ []) ++ codes "\n" ++ (0xFC ∷ []))
      ≡ codes "a ;??\n" ++ (0xFC ∷ [])
  pub quoted_semicolon : plain_text
      ((34 ∷ []) ++ codes ";" ++ (0xC3 ∷ 0xBC ∷ 34 ∷ []) ++ codes " ;" ++ (0xFC ∷ []))
      ≡ (34 ∷ []) ++ codes ";" ++ (0xC3 ∷ 0xBC ∷ 34 ∷ []) ++ codes " ;?"
  pub semicolon_in_word : plain_text (codes "a;" ++ (0xFC ∷ [])) ≡ codes "a;?"
  pub wide_space_and_comment : plain_text ((0xC2 ∷ 0xA0 ∷ []) ++ codes ";" ++ (0xFC ∷ []))
      ≡ (0xC2 ∷ 0xA0 ∷ []) ++ codes ";?"
  pub wide_space_and_quote : plain_text ((0xE2 ∷ 0x80 ∷ 0x83 ∷ 34 ∷ []) ++ codes ";" ++ (0xFC ∷ 34 ∷ [])) ≡ (0xE2 ∷ 0x80 ∷ 0x83 ∷ 34 ∷ []) ++ codes ";" ++ (0xFC ∷ 34 ∷ [])
  pub description : plain_text (codes "DESCRIPTION 'a b'\nEXPORTS a")
      ≡ codes "                 \nEXPORTS a"
  pub description_in_exports : plain_text
      (codes "EXPORTS\na\n" ++ (9 ∷ []) ++ codes "DESCRIPTION " ++ (34 ∷ []) ++ codes "b"
      ++ (34 ∷ 13 ∷ []) ++ codes "\nc")
      ≡ codes "EXPORTS\na\n" ++ (9 ∷ []) ++ codes "                \nc"
  pub description_as_a_name : plain_text (codes "EXPORTS\nDESCRIPTION\nb")
      ≡ codes "EXPORTS\nDESCRIPTION\nb"
  pub description_not_first : plain_text
      (codes "EXPORTS a DESCRIPTION " ++ (34 ∷ []) ++ codes "b" ++ (34 ∷ []))
      ≡ codes "EXPORTS a DESCRIPTION " ++ (34 ∷ []) ++ codes "b" ++ (34 ∷ [])
  pub longer_than_description : plain_text
      (codes "EXPORTS\nDESCRIPTIONS " ++ (34 ∷ []) ++ codes "b" ++ (34 ∷ []))
      ≡ codes "EXPORTS\nDESCRIPTIONS " ++ (34 ∷ []) ++ codes "b" ++ (34 ∷ [])
  pub stub : plain_text (codes "STUB:a.exe\nSTUB 'b.exe'") ≡ codes "          \n            "
  pub stub_as_a_name : plain_text (codes "EXPORTS\nSTUB\nb") ≡ codes "EXPORTS\nSTUB\nb"
  pub program_type : plain_text (codes "EXETYPE WINDOWS 3.1\nEXETYPE OS2")
      ≡ codes "                   \n           "
  pub other_program_types : plain_text (codes "EXETYPE DOS4\nEXETYPE UNKNOWN\nEXETYPE DOS5")
      ≡ codes "            \n               \nEXETYPE DOS5"
  pub program_type_as_a_name : plain_text (codes "EXPORTS\nEXETYPE\nWINDOWS")
      ≡ codes "EXPORTS\nEXETYPE\nWINDOWS"
  pub sections : plain_text (codes "SECTIONS\n.text READ, WRITE\n;x\n.data,SHARED\nEXPORTS a READ")
      ≡ codes "        \n                 \n;x\n            \nEXPORTS a READ"
  pub sections_in_one_line : plain_text (codes "SECTIONS .a READ\na READ\nb")
      ≡ codes "                \n      \nb"
  pub sections_as_a_name : plain_text (codes "EXPORTS\nSECTIONS\nb DATA\nc READ")
      ≡ codes "EXPORTS\nSECTIONS\nb DATA\nc READ"
  pub exported_as : plain_text
      (codes "a EXPORTAS b\n" ++ (34 ∷ []) ++ codes "c" ++ (34 ∷ []) ++ codes " DATA EXPORTAS "
      ++ (34 ∷ []) ++ codes "d" ++ (34 ∷ []))
      ≡ codes "a ==       b\n" ++ (34 ∷ []) ++ codes "c" ++ (34 ∷ []) ++ codes " DATA ==       "
      ++ (34 ∷ []) ++ codes "d" ++ (34 ∷ [])
  pub exported_in_a_line : plain_text (codes "a\nEXPORTAS\nb") ≡ codes "a\nEXPORTAS\nb"
  pub exported_as_first : plain_text (codes "EXPORTS EXPORTAS b") ≡ codes "EXPORTS EXPORTAS b"
  pub exported_after_a_sign : plain_text (codes "a == EXPORTAS b") ≡ codes "a == EXPORTAS b"
  pub exported_as_nothing : plain_text (codes "a EXPORTAS ;b\nc EXPORTAS")
      ≡ codes "a EXPORTAS ;b\nc EXPORTAS"
  pub exported_after_an_ordinal : plain_text
      (codes "a @ 1 EXPORTAS b\nc @ 0x2 EXPORTAS d\ne @3 EXPORTAS f")
      ≡ codes "a @ 1 ==       b\nc @ 002 ==       d\ne @3 ==       f"
  pub exported_after_no_ordinal : plain_text (codes "a @ EXPORTAS b\nSTACKSIZE 1 EXPORTAS c")
      ≡ codes "a @ EXPORTAS b\nSTACKSIZE 1 EXPORTAS c"
  pub library_of_that_name : plain_text (codes "LIBRARY EXPORTAS BASE=1")
      ≡ codes "LIBRARY EXPORTAS BASE=1"
  pub apostrophes : plain_text (codes "LIBRARY 'a b.dll'")
      ≡ codes "LIBRARY " ++ (34 ∷ []) ++ codes "a b.dll" ++ (34 ∷ [])
  pub apostrophes_twice : plain_text (codes "'a''b'")
      ≡ (34 ∷ []) ++ codes "a" ++ (34 ∷ 34 ∷ []) ++ codes "b" ++ (34 ∷ [])
  pub apostrophe_in_a_word : plain_text (codes "don't 'x") ≡ codes "don't 'x"
  pub quote_in_apostrophes : plain_text (codes "'a" ++ (34 ∷ []) ++ codes "b'")
      ≡ codes "'a" ++ (34 ∷ []) ++ codes "b'"
  pub ordinals : plain_text (codes "a @0x10 DATA\nb @ 0xFF") ≡ codes "a @0016 DATA\nb @ 0255"
  pub last_ordinals : plain_text (codes "a @0xFFFF\nb @ 0x0FFFF") ≡ codes "a @065535\nb @ 0065535"
  pub no_ordinals : plain_text (codes "a @0x10000\nb @ 0x10000") ≡ codes "a @0x10000\nb @ 0x10000"
  pub numbers_apart : plain_text (codes "HEAPSIZE 0x10 0x20,0x30") ≡ codes "HEAPSIZE 0016 0x20,0x30"
  pub sizes : plain_text (codes "STACKSIZE 0x100000,0x1000\nHEAPSIZE 1,0x0")
      ≡ codes "STACKSIZE 01048576,004096\nHEAPSIZE 1,000"
  pub base : plain_text (codes "LIBRARY a BASE=0xabcdef12") ≡ codes "LIBRARY a BASE=2882400018"
  pub longest_base : plain_text (codes "NAME a BASE=0x002386F26FC100000")
      ≡ codes "NAME a BASE=0160000000000000000"
  pub longer_base : plain_text (codes "NAME a BASE=0x016345785D8A00000")
      ≡ codes "NAME a BASE=0x016345785D8A00000"
  pub longer_in_decimal : plain_text (codes "NAME a BASE=0x7FF700000000")
      ≡ codes "NAME a BASE=0x7FF700000000"
  pub no_numbers : plain_text
      (codes "EXPORTS\n0x10\n@0x10\na @0xG\nb @0x\nc = 0x10\nd == @0x10\nNAME 0x10")
      ≡ codes "EXPORTS\n0x10\n@0x10\na @0xG\nb @0x\nc = 0x10\nd == @0x10\nNAME 0x10"
  pub next_line : plain_text ((0xC2 ∷ 0x85 ∷ []) ++ codes "STUB:a")
      ≡ (0xC2 ∷ 0x85 ∷ []) ++ codes "      "
  pub ogham_space : plain_text ((0xE1 ∷ 0x9A ∷ 0x80 ∷ []) ++ codes "STUB:a")
      ≡ (0xE1 ∷ 0x9A ∷ 0x80 ∷ []) ++ codes "      "
  pub en_quad : plain_text ((0xE2 ∷ 0x80 ∷ 0x80 ∷ []) ++ codes "STUB:a")
      ≡ (0xE2 ∷ 0x80 ∷ 0x80 ∷ []) ++ codes "      "
  pub hair_space : plain_text ((0xE2 ∷ 0x80 ∷ 0x8A ∷ []) ++ codes "STUB:a")
      ≡ (0xE2 ∷ 0x80 ∷ 0x8A ∷ []) ++ codes "      "
  pub line_separator : plain_text ((0xE2 ∷ 0x80 ∷ 0xA8 ∷ []) ++ codes "STUB:a")
      ≡ (0xE2 ∷ 0x80 ∷ 0xA8 ∷ []) ++ codes "      "
  pub paragraph_separator : plain_text ((0xE2 ∷ 0x80 ∷ 0xA9 ∷ []) ++ codes "STUB:a")
      ≡ (0xE2 ∷ 0x80 ∷ 0xA9 ∷ []) ++ codes "      "
  pub narrow_space : plain_text ((0xE2 ∷ 0x80 ∷ 0xAF ∷ []) ++ codes "STUB:a")
      ≡ (0xE2 ∷ 0x80 ∷ 0xAF ∷ []) ++ codes "      "
  pub mathematical_space : plain_text ((0xE2 ∷ 0x81 ∷ 0x9F ∷ []) ++ codes "STUB:a")
      ≡ (0xE2 ∷ 0x81 ∷ 0x9F ∷ []) ++ codes "      "
  pub ideographic_space : plain_text ((0xE3 ∷ 0x80 ∷ 0x80 ∷ []) ++ codes "STUB:a")
      ≡ (0xE3 ∷ 0x80 ∷ 0x80 ∷ []) ++ codes "      "
  pub zero_width_space : plain_text ((0xE2 ∷ 0x80 ∷ 0x8B ∷ []) ++ codes "STUB:a")
      ≡ (0xE2 ∷ 0x80 ∷ 0x8B ∷ []) ++ codes "STUB:a"
  pub direction_override : plain_text ((0xE2 ∷ 0x80 ∷ 0xAE ∷ []) ++ codes "STUB:a")
      ≡ (0xE2 ∷ 0x80 ∷ 0xAE ∷ []) ++ codes "STUB:a"
  pub ended : plain_text (codes "a " ++ (0 ∷ 0xFF ∷ []) ++ codes "'b'")
      ≡ codes "a " ++ (0 ∷ []) ++ codes "?'b'"
  pub in_order : plain_text
      (codes "LIBRARY a\nHEAPSIZE 1,2 ; c\nEXPORTS\n  b @1 NONAME DATA\n c=d == e PRIVATE\n")
      ≡ codes "LIBRARY a\nHEAPSIZE 1,2 ; c\nEXPORTS\n  b @1 NONAME DATA\n c=d == e PRIVATE\n"

-- texts that have no form, and texts that have one, worked by hand
pub record FormsWorked : Type 0 where
  pub statements : has_form
      (codes
      "LIBRARY a.dll BASE=4096\nHEAPSIZE 1,2 ; c\nEXPORTS\n  b @1 NONAME DATA\n c=d == e PRIVATE\n")
      ≡ false
  pub longer_words : has_form
      ((34 ∷ []) ++ codes "a b" ++ (34 ∷ [])
      ++ codes " DESCRIPTIONS\nSTUBS @ 10\nx0_EXETYPES 0X1\n") ≡ false
  pub keyword : has_form (codes "a EXPORTAS b") ≡ true
  pub number : has_form (codes "a @0x10") ≡ true
  pub apostrophes : has_form (codes "LIBRARY 'a'") ≡ true
  pub path : has_form (codes "STUB:a") ≡ true
  pub foreign_comment : has_form (codes ";" ++ 0xFC ∷ []) ≡ true
