-- The answers of calls with options.
use Rattle.std.proofs.Common.{arith, ◌≡◌, ℕ, List, None, Some, Result, Err, refl, inr}
use Rattle.implib.specs.Members.MemberSpec.{MemberView}
use Rattle.implib_archive.specs.declared.kind.Kind.{Kind}
use Rattle.implib_archive.specs.declared.error.Fault.{Fault as ArchiveFault}
use Rattle.implib_archive.specs.Archive.{archive_of}
use Rattle.implib_archive.specs.Refusal.{refusal_of}
use Rattle.implib_rules.specs.declared.library.Refusal.{Refusal}
use Rattle.implib_rules.specs.declared.library.Refusal.TheVariants as refusal
use Rattle.implib_rules.specs.Library.{IsRefusalOfBytes, IsRefusalOfMembers}
use Rattle.implib_rules.specs.Options.{LibraryOptionsView}
use Rattle.implib_c_calls.specs.declared.outcome.Failure.{Failure}
use Rattle.implib_c_calls.specs.declared.outcome.Failure.TheVariants as failure
use Rattle.implib_c_calls.specs.Given.{Leaves, PacksInto, length_given, place_given, status_given}
use Rattle.implib_c_calls.specs.LibraryWith.{AnswersAs, AreOptions, GivenOptions, LacksWith, WithOptions}
use Rattle.implib_c_calls.specs.Status.{status_number}
use Rattle.implib_c_calls.proofs.Answer.{lacks_archive, leaves_lacking, leaves_put}

module _ {given : GivenOptions} {options : LibraryOptionsView} (are : AreOptions given options) where
  pub with_options : {P : LibraryOptionsView → Type 0} → P options → WithOptions given P
  with_options holds = record { options = options; are_options = are; holds = holds }

  module _ {Lacks : LibraryOptionsView → Failure → Type 0} {old : List ℕ} where
    -- there is nothing with these options
    pub with_nothing : {Has : List ℕ → Type 0} (why : Failure) → Lacks options why
        → Leaves Has (LacksWith given Lacks) old old (length_given (Err why)) (place_given (Err why)) (status_number (status_given (Err why)))
    with_nothing why lacks = leaves_lacking why (inr (with_options lacks))

    -- the archive of members is put into the buffer, or not
    pub with_archive : {IsMade : LibraryOptionsView → List ℕ → Type 0} (kind : Kind) (members : List MemberView) → (refusal_of kind members ≡ None → IsMade options (archive_of kind members)) → Lacks options failure.OutOfMemory
        → ((fault : ArchiveFault) → refusal_of kind members ≡ Some fault → Lacks options (failure.NoArchive fault))
        → (new : List ℕ) (result : Result ℕ Failure) → PacksInto kind members old new result
        → Leaves (λ file. WithOptions given (λ o. IsMade o file)) (LacksWith given Lacks) old new (length_given result) (place_given result) (status_number (status_given result))
    with_archive kind members made memory unmade = grind (arith, leaves_put, with_options, lacks_archive, inr)

  -- the archive of members is put, where an archive's fault is why a text has no library
  pub with_library : {IsMade : LibraryOptionsView → List ℕ → Type 0} {IsRefused : LibraryOptionsView → Refusal → Type 0} {old : List ℕ} (text : List ℕ)
      → (kind : Kind) (members : List MemberView) → (refusal_of kind members ≡ None → IsMade options (archive_of kind members)) → IsRefused options refusal.OutOfMemory
      → ((fault : ArchiveFault) → refusal_of kind members ≡ Some fault → IsRefused options (refusal.Archive fault))
      → (new : List ℕ) (result : Result ℕ Failure) → PacksInto kind members old new result
      → AnswersAs IsMade IsRefused text given old new (length_given result) (place_given result) (status_number (status_given result))
  with_library text kind members made memory unmade =
      with_archive kind members made (record { cause = refusal.OutOfMemory; is = memory; told_is = refl })
      (λ fault refused. record { cause = refusal.Archive fault; is = unmade fault refused; told_is = refl })

-- why bytes have no members is why they have no library
pub of_bytes : (text : List ℕ) (options : LibraryOptionsView) (why : Refusal) → IsRefusalOfMembers text options why → IsRefusalOfBytes text options why
of_bytes text options (refusal.Archive fault) is = absurd is
of_bytes text options why is = is
