-- What programs ask of DLLs, worked by hand: of `w.dll`, which is for I386 and exports `alpha` and
-- `beta` at ordinal 5, a variable at 6, nothing at 7, and `gamma`, a forwarder, at 8.
use Rattle.std.specs.Prelude.{◌≡◌, false, [], ◌∷◌, codes}
use Rattle.implib_dll.specs.Imports.{ByName, ByOrdinal}
use Rattle.implib_dll.specs.WorkedFiles.{worked_exports}
use Rattle.implib_compare.specs.DllCheck.Programs.{finds_all, judged_ask}
use Rattle.implib_compare.specs.DllCheck.Worked.{falling}
use Rattle.implib_compare.specs.declared.dll_check.import.Judgement.TheVariants.{Reached, Lost}
use Rattle.implib_compare.specs.declared.dll_check.import.Loss.TheVariants.{NotFound}

-- What asks come to.
pub record WorkedPrograms : Type 0 where
  -- a variable, of which a directory does not say that it is one
  pub variable : judged_ask worked_exports (ByOrdinal 6) ≡ Reached
  -- an ordinal past the table, and a name that a search misses
  pub past : judged_ask worked_exports (ByOrdinal 10) ≡ Lost NotFound
  pub missed : judged_ask falling (ByName (codes "alpha") 0) ≡ Lost NotFound
  -- the last of several is lost, and the first
  pub last_lost : finds_all worked_exports 0x14C (ByOrdinal 8 ∷ ByOrdinal 7 ∷ []) ≡ false
  pub first_lost : finds_all worked_exports 0x14C (ByOrdinal 7 ∷ ByOrdinal 8 ∷ []) ≡ false
