-- Warnings of the form of a text, worked by hand.
use Rattle.std.specs.Prelude.{◌≡◌, ℕ, [], ◌∷◌, ◌++◌, codes}
use Rattle.implib.specs.Definition.{empty_export}
use Rattle.implib_rules.specs.TextWarnings.{none_warnings, text_warnings}
use Rattle.implib_rules.specs.Warnings.{EndsEarly, IsLate, IsSkipped}
use Rattle.implib_rules.specs.Warnings.{NoticeView, StandsAlone, WarningView}
use Rattle.implib_rules.specs.WorkedWarnings.{at_line}

-- a warning at an offset, a line and a column
abbrev pub at : NoticeView → ℕ → ℕ → ℕ → WarningView
at notice offset line column = record { notice = notice; position = at_line offset line column }

pub record TextWarningsWorked : Type 0 where
  pub none : text_warnings (codes "LIBRARY 'a' BASE=0x10 ;x\nEXPORTS\nb @0x10 EXPORTAS c") ≡ []
  pub alone : text_warnings (codes "EXPORTS\nDESCRIPTION\nSTUB\n EXETYPE\nSECTIONS\nEXPORTAS")
      ≡ at (StandsAlone (codes "DESCRIPTION")) 8 2 1 ∷ at (StandsAlone (codes "STUB")) 20 3 1
      ∷ at (StandsAlone (codes "EXETYPE")) 26 4 2
      ∷ at (StandsAlone (codes "SECTIONS")) 34 5 1 ∷ at (StandsAlone (codes "EXPORTAS")) 43 6 1 ∷ []
  pub exported_as_nothing : text_warnings (codes "EXPORTS\nf EXPORTAS\ng")
      ≡ at (StandsAlone (codes "EXPORTAS")) 10 2 3 ∷ []
  pub not_alone : text_warnings
      (codes "EXPORTS\n" ++ (34 ∷ []) ++ codes "STUB" ++ (34 ∷ [])
      ++ codes "\nSTUBS\nEXPORTS SECTIONS") ≡ []
  pub description : text_warnings (codes "LIBRARY a\n DESCRIPTION 'b'\nEXPORTS c")
      ≡ at IsSkipped 11 2 2 ∷ []
  pub several : text_warnings (codes "STUB:a\nEXETYPE OS2\nEXPORTS c")
      ≡ at IsSkipped 0 1 1 ∷ at IsSkipped 7 2 1 ∷ []
  pub sections : text_warnings (codes "SECTIONS\n.a READ\n.b WRITE\nDESCRIPTION 'c'")
      ≡ at IsSkipped 0 1 1 ∷ at IsSkipped 26 4 1 ∷ []
  pub ended : text_warnings (codes "a\n b " ++ 0 ∷ 0xFF ∷ 0 ∷ []) ≡ at EndsEarly 5 2 4 ∷ []
  pub ended_last : text_warnings (codes "a " ++ 0 ∷ []) ≡ []
  pub in_a_comment : text_warnings (codes ";" ++ 0 ∷ 10 ∷ []) ≡ []
  -- an attribute behind the name of EXPORTAS
  pub late_after_quotes : text_warnings
      (codes "EXPORTS\nf EXPORTAS " ++ (34 ∷ []) ++ codes "a b" ++ (34 ∷ []) ++ codes " PRIVATE")
      ≡ at (IsLate (codes "PRIVATE")) 10 2 3 ∷ []
  pub late_ordinal : text_warnings (codes "EXPORTS\nf EXPORTAS g @5")
      ≡ at (IsLate (codes "@")) 10 2 3 ∷ []
  pub late_constant : text_warnings (codes "EXPORTS\nf EXPORTAS g CONSTANT")
      ≡ at (IsLate (codes "CONSTANT")) 10 2 3 ∷ []
  pub late_noname : text_warnings (codes "EXPORTS\nf EXPORTAS g NONAME")
      ≡ at (IsLate (codes "NONAME")) 10 2 3 ∷ []
  pub not_late : text_warnings (codes "EXPORTS\nf DATA EXPORTAS g\nDATABASE") ≡ []
  -- no export, asked for or not
  pub export_follows : none_warnings (codes "EXPORTS b") (empty_export ∷ []) ≡ []
  pub no_exports : none_warnings (codes "LIBRARY EXPORTS\nHEAPSIZE 1\nEXPORTSb") [] ≡ []
  pub marked : text_warnings (0xEF ∷ 0xBB ∷ 0xBF ∷ codes "STUB:a") ≡ at IsSkipped 0 1 1 ∷ []
