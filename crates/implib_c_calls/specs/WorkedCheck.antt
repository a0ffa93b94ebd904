-- What is told of libraries beside others, worked by hand, its encoding byte by byte, and buffers
-- that are read.
use Rattle.std.specs.Prelude.{◌≡◌, ℕ, List, [], ◌∷◌, ◌++◌, None, codes}
use Rattle.implib.specs.Worked.Digits.{hex}
use Rattle.implib_compare.specs.Worked.{member, zoo}
use Rattle.implib_compare.specs.declared.working.Working.TheVariants as working
use Rattle.implib_read.specs.Archives.{Archive}
use Rattle.implib_read.specs.Classes.{NotUnderstood}
use Rattle.implib_c_calls.specs.Check.{Told, encoded_told, told_in, told_of}
use Rattle.implib_c_calls.specs.Check.{working_number}
use Rattle.implib_c_calls.specs.Imports.{Row, alias_row}
use Rattle.implib_c_calls.specs.WorkedImports.{bar_row, bar_row_bytes, old_row, old_row_bytes}

-- an archive of no part, which has no index
abbrev pub no_parts : Archive
no_parts = record { parts = []; members = [] }

-- what is told of a library that does not work
abbrev pub told : ℕ → List Row → List Row → Told
told verdict extra missing =
    record { verdict = verdict; works = 2; extra = extra; missing = missing }

-- the rows of an import of feed from zoo.dll, and of the alias nourish
abbrev pub feed_row : Row
feed_row = record {
  kind = 1;
  offset = 8;
  dll = codes "zoo.dll";
  symbol = codes "feed";
  machine = 0x8664;
  by_name = 1;
  asked = codes "feed";
  number = 0;
}

abbrev pub nourish_row : Row
nourish_row = alias_row 8 (codes "nourish") (codes "feed")

-- What is told of `zoo`, a library of a descriptor, the import and the alias, and of others, each
-- beside another.
pub record WorkedTold : Type 0 where
  pub nothing : told_of no_parts zoo [] ≡ told 2 (feed_row ∷ nourish_row ∷ []) []
  pub beside_nothing : told_of no_parts [] zoo ≡ told 2 [] (feed_row ∷ nourish_row ∷ [])
  -- a member that is not understood leaves it open, though others differ
  pub not_understood : told_of no_parts (member NotUnderstood ∷ []) zoo
      ≡ told 3 [] (feed_row ∷ nourish_row ∷ [])

-- different, of a library that works: one row that is extra, and one that is missing
abbrev pub two_apart : Told
two_apart = record { verdict = 2; works = 1; extra = bar_row ∷ []; missing = old_row ∷ [] }

-- its encoding
unfoldable pub two_apart_bytes : List ℕ
two_apart_bytes =
    hex "02 00 00 00 00 00 00 00"
    ++ (hex "01 00 00 00 00 00 00 00"
    ++ ((hex "01 00 00 00 00 00 00 00" ++ bar_row_bytes)
    ++ (hex "01 00 00 00 00 00 00 00" ++ old_row_bytes)))

-- the encodings, and what is read of bytes that are none
pub record WorkedToldBytes : Type 0 where
  pub apart : encoded_told two_apart ≡ two_apart_bytes
  pub second_list_missing : told_in (hex "01 00 00 00 00 00 00 00 01 00 00 00 00 00 00 00 00 00 00 00 00 00 00 00") ≡ None

-- all of them
pub record WorkedChecks : Type 0 where
  pub told : WorkedTold
  pub works_not_decided : working_number working.NotDecided ≡ 3
  pub bytes : WorkedToldBytes
