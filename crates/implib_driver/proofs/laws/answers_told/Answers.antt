use Rattle.std.proofs.Common.{[], ◌∷◌, ◌≡◌, ◌⊎◌, ◌∙◌, None, false, inl, inr, refl, subst, sym, true}
use Rattle.std.specs.Prelude.{MatchBool}
use Rattle.std.proofs.lemmas.Bool.{true≢false}
use Rattle.implib_driver.specs.Disk.{DiskView}
use Rattle.implib_driver.specs.LibWords.{IsReadBy, is_lib_name}
use Rattle.implib_driver.specs.Placing.{IsUnplaced}
use Rattle.implib_driver.specs.Worked.{AnswersTold}
use Rattle.implib_driver.proofs.laws.answers_told.Goals as goal

-- what is new can be left only where its removal failed
none_left : (before after : DiskView) → IsUnplaced before after → after.is_stuck ≡ false → after.left ≡ None
none_left before after unplaced removed = by_case unplaced.none_left where
  by_case : (after.left ≡ None) ⊎ (after.is_stuck ≡ true) → after.left ≡ None
  by_case (inl none) = none
  by_case (inr stuck) = absurd (true≢false (sym stuck ∙ removed))

worked : AnswersTold
worked = record {
  no_memory = refl;
  no_memory_for_delay = refl;
  no_memory_for_arm64ec = refl;
  no_memory_for_native = refl;
  no_arguments = λ before after printed prints status called. called.is_status;
  nothing_left = none_left;
  as_before = λ program word words reading named first read.
      subst (λ is. IsReadBy is (word ∷ words) reading) named
      (subst (λ is. MatchBool is (IsReadBy true words reading) (IsReadBy (is_lib_name program) (word ∷ words) reading)) first read);
  as_before_without_words = λ program reading named read. subst (λ is. IsReadBy is [] reading) named read;
}

pub returns : goal.returns
returns c = worked
