-- The answer for a library beside a definition (docs/CHECK.md, "Beside a definition").
use Rattle.std.specs.Prelude.{◌≡◌, ◌⊎◌, ℕ, Bool, true, false, List, ◌++◌, None, Option, Some}
use Rattle.std.specs.Prelude.{codes}
use Rattle.implib_compare.specs.Meant.{IsArm64ecFault, IsArm64ecVerdictOn, IsRefusalFor}
use Rattle.implib_compare.specs.Meant.{IsVerdictOn}
use Rattle.implib_compare.specs.Working.{working_of}
use Rattle.implib_compare.specs.declared.compare.Verdict.{Verdict}
use Rattle.implib_compare.specs.declared.meant.Arm64ecFault.{Arm64ecFault}
use Rattle.implib_compare.specs.declared.meant.Arm64ecFault.TheVariants.{OfArchive, OfTexts}
use Rattle.implib_libraries.specs.declared.arm64ec.Arm64ecRefusal.TheVariants.{OfDefinition, OfImports}
use Rattle.implib_libraries.specs.declared.arm64ec.Arm64ecRefusal.TheVariants.{OfNative, OutOfMemory}
use Rattle.implib_read.specs.Archives.{Archive}
use Rattle.implib_read.specs.Classes.{members_read}
use Rattle.implib_rules.specs.Library.{is_out_of_memory}
use Rattle.implib_rules.specs.declared.library.Refusal.{Refusal}
use Rattle.implib_check_driver.specs.Against.{is_library}
use Rattle.implib_check_driver.specs.Answer.{AnswerView, IsRefusedAs, no_library, saying}
use Rattle.implib_check_driver.specs.Calls.{CheckView}
use Rattle.implib_check_driver.specs.Listing.{broken_if_same, doubts}
use Rattle.implib_check_driver.specs.Status.{comparison_status}
use Rattle.implib_check_driver.specs.Targets.{is_for_arm64ec, is_unfit, options_for}

-- The answer for an archive beside a definition: of the verdict on both, and where they are the
-- same, of whether the archive works. Behind the lines of the differences stands why not.
pub record IsChecked (json : Bool) (check : CheckView) (a : Archive) (definition : List ℕ)
    (answer : AnswerView) : Type 0 where
  pub verdict : Verdict
  pub on : IsVerdictOn check.older_symbols definition (options_for check (members_read a.members))
      (members_read a.members) verdict
  -- the lines of the differences
  pub out : List ℕ
  pub is : answer ≡ record {
    status = comparison_status verdict (working_of a (members_read a.members));
    out = out ++ broken_if_same verdict json check.library a (members_read a.members);
    err = doubts true check.library (members_read a.members);
  }

-- the answer for a definition that is refused
pub record IsCheckRefused (check : CheckView) (a : Archive) (definition : List ℕ)
    (answer : AnswerView) : Type 0 where
  pub why : Refusal
  pub is_refusal : IsRefusalFor check.older_symbols definition
      (options_for check (members_read a.members)) why
  pub has_memory : is_out_of_memory why ≡ false
  pub is : IsRefusedAs 1 answer

-- the answer for an archive beside a definition
abbrev pub IsCheckedOrdinary : Bool → CheckView → Archive → List ℕ → AnswerView → Type 0
IsCheckedOrdinary json check a definition answer =
    IsChecked json check a definition answer ⊎ IsCheckRefused check a definition answer

-- the same beside the definitions of a library for ARM64EC, of which the second is the native one,
-- if there is one
pub record IsArm64ecChecked (json : Bool) (check : CheckView) (a : Archive) (definition : List ℕ)
    (native : Option (List ℕ)) (answer : AnswerView) : Type 0 where
  pub verdict : Verdict
  pub on : IsArm64ecVerdictOn definition native (options_for check (members_read a.members))
      (members_read a.members) verdict
  -- the lines of the differences
  pub out : List ℕ
  pub is : answer ≡ record {
    status = comparison_status verdict (working_of a (members_read a.members));
    out = out ++ broken_if_same verdict json check.library a (members_read a.members);
    err = doubts true check.library (members_read a.members);
  }

-- whether such definitions have no library for want of memory
abbrev pub lacks_memory : Arm64ecFault → Bool
lacks_memory (OfTexts (OfDefinition why)) = is_out_of_memory why
lacks_memory (OfTexts (OfNative why)) = is_out_of_memory why
lacks_memory (OfTexts (OfImports why)) = false
lacks_memory (OfTexts OutOfMemory) = true
lacks_memory (OfArchive why) = is_out_of_memory why

-- the answer for such definitions, one of which is refused
pub record IsArm64ecRefused (check : CheckView) (a : Archive) (definition : List ℕ)
    (native : Option (List ℕ)) (answer : AnswerView) : Type 0 where
  pub why : Arm64ecFault
  pub is_fault : IsArm64ecFault definition native (options_for check (members_read a.members)) why
  pub has_memory : lacks_memory why ≡ false
  pub is : IsRefusedAs 1 answer

abbrev pub IsCheckedForArm64ec : Bool → CheckView → Archive → List ℕ → Option (List ℕ) →
    AnswerView → Type 0
IsCheckedForArm64ec json check a definition native answer =
    IsArm64ecChecked json check a definition native answer
    ⊎ IsArm64ecRefused check a definition native answer

-- what is said of a call that asks for what a library is not made with
abbrev pub unfit_text : Bool → List ℕ
unfit_text true =
    codes "arm64ec: not supported for GNU's linker; leave out -C, and --flavor or make it msvc"
unfit_text false = codes "--input-native-def: for arm64ec alone; add -m arm64ec"

-- the answer for an archive beside definitions: 2 where the call asks for what its library is not
-- made with
abbrev pub IsCheckedBeside : Bool → CheckView → Archive → List ℕ → Option (List ℕ) → AnswerView →
    Type 0
IsCheckedBeside json check a definition native answer =
    (is_unfit check (members_read a.members) ≡ true
    → answer ≡ saying 2 (codes "implib_check")
    (unfit_text (is_for_arm64ec check (members_read a.members))))
    × ((is_unfit check (members_read a.members) ≡ false →
    is_for_arm64ec check (members_read a.members) ≡ true
    → IsCheckedForArm64ec json check a definition native answer)
    × (is_unfit check (members_read a.members) ≡ false →
    is_for_arm64ec check (members_read a.members) ≡ false
    → IsCheckedOrdinary json check a definition answer))

-- what is said of a library in the place of a definition
abbrev pub library_text : List ℕ
library_text = codes "a library, and no definition; --same LIB LIB compares two libraries"

-- the answer for an archive, or for bytes that are none, beside definitions: 2 where the first is a
-- library, too
abbrev pub CheckedAs : Bool → CheckView → List ℕ → List ℕ → Option (List ℕ) → Option Archive →
    AnswerView → Type 0
CheckedAs json check library definition native None answer =
    answer ≡ no_library check.library library
CheckedAs json check library definition native (Some a) answer =
    (is_library definition ≡ true → answer ≡ saying 2 check.definition library_text)
    × (is_library definition ≡ false
    → IsCheckedBeside json check a definition native answer)
