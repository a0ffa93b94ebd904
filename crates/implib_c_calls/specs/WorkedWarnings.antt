-- The numbers of kinds of warnings in include/implib.h, places, and a buffer that is read, by hand.
use Rattle.std.specs.Prelude.{◌≡◌, ℕ, List, [], ◌∷◌, None, map}
use Rattle.implib.specs.Worked.Digits.{hex}
use Rattle.implib_rules.specs.declared.warnings.words.Attribute.{Attribute}
use Rattle.implib_rules.specs.Warnings as rules
use Rattle.implib_c_calls.specs.Warnings.{AreSaid, kind_number, warnings_in}

-- what is read of bytes that are none, places, and the numbers of kinds
pub record WorkedWarnings : Type 0 where
  pub warning_missing : warnings_in (hex "01 00 00 00 00 00 00 00") ≡ None
  -- behind a byte order mark the offset is greater by its length, and the column is not
  pub behind_mark : AreSaid 3
      (record {
        notice = rules.IsSecondHeading;
        position = record { offset = 5; line = 1; column = 6 };
      } ∷ [])
      (record { warned = record { kind = 10; offset = 8; line = 1; column = 6 }; words = [] } ∷ [])
  pub kinds : (word : List ℕ) (ordinal first : ℕ) (attribute : Attribute) → map kind_number
      (rules.HasNoExport ∷ rules.IsOtherKind ∷ rules.IsRepeated word first
      ∷ rules.RepeatsOrdinal ordinal first ∷ rules.OpensLine attribute word
      ∷ rules.IsLowered word attribute ∷ rules.IsOrdinalLike word ∷ rules.IsStdcall word
      ∷ rules.IsNotExported word ∷ rules.IsSecondHeading ∷ rules.IsSkipped ∷ rules.EndsEarly
      ∷ rules.StandsAlone word ∷ rules.IsLate word ∷ rules.IsCommentLike word ∷ rules.IsWeak word
      ∷ [])
      ≡ 1 ∷ 2 ∷ 3 ∷ 4 ∷ 5 ∷ 6 ∷ 7 ∷ 8 ∷ 9 ∷ 10 ∷ 11 ∷ 12 ∷ 13 ∷ 14 ∷ 15 ∷ 16 ∷ []
