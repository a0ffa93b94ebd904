-- What `implib_library` answers: the archive of the members that `implib_members` has of the same
-- text.
use Rattle.std.specs.Prelude.{◌≡◌, ℕ, List, None, Some}
use Rattle.implib.specs.declared.machine.MachineType.{MachineType}
use Rattle.implib.specs.declared.flavor.Flavor.{Flavor}
use Rattle.implib.specs.declared.flavor.Flavor.TheVariants.{Msvc, Gnu}
use Rattle.implib.specs.Members.MemberSpec.{MemberView}
use Rattle.implib.specs.Members.OfText.{MembersOf}
use Rattle.implib_archive.specs.declared.kind.Kind.{Kind}
use Rattle.implib_archive.specs.declared.kind.Kind.TheVariants.{Coff, Gnu as GnuKind}
use Rattle.implib_archive.specs.declared.error.Fault.{Fault}
use Rattle.implib_archive.specs.Archive.{archive_of}
use Rattle.implib_archive.specs.Refusal.{refusal_of}
use Rattle.implib_c_calls.specs.declared.outcome.Failure.{Failure}
use Rattle.implib_c_calls.specs.declared.outcome.Failure.TheVariants.{NoArchive}
use Rattle.implib_c_calls.specs.Answer.{LacksMembers, WithInput}
use Rattle.implib_c_calls.specs.Given.{Leaves}

-- the kind of archive for a flavour: COFF for Microsoft's linker, GNU for GNU's
abbrev pub kind_of_flavor : Flavor → Kind
kind_of_flavor Msvc = Coff
kind_of_flavor Gnu = GnuKind

-- the file is the archive, of the flavour's kind, of the members of the text
pub record IsArchive (text : List ℕ) (machine : MachineType) (flavor : Flavor)
    (file : List ℕ) : Type 0 where
  pub members : List MemberView
  pub members_are : MembersOf text machine flavor members
  pub accepted : refusal_of (kind_of_flavor flavor) members ≡ None
  pub is : file ≡ archive_of (kind_of_flavor flavor) members

-- the members of the text have no such archive, for this cause
pub record RefusesArchive (text : List ℕ) (machine : MachineType) (flavor : Flavor)
    (cause : Fault) : Type 0 where
  pub members : List MemberView
  pub members_are : MembersOf text machine flavor members
  pub refused : refusal_of (kind_of_flavor flavor) members ≡ Some cause

-- there is no archive: the members have none, or there are no members
abbrev pub LacksLibrary : List ℕ → ℕ → ℕ → Failure → Type 0
LacksLibrary text machine flavor (NoArchive fault) =
    WithInput text machine flavor (λ m f. RefusesArchive text m f fault)
LacksLibrary text machine flavor why = LacksMembers text machine flavor why

-- what a call leaves: the archive, or why there is none
abbrev pub LibraryAnswers : List ℕ → ℕ → ℕ → List ℕ → List ℕ → ℕ → ℕ → ℕ → Type 0
LibraryAnswers text machine flavor =
    Leaves (λ file. WithInput text machine flavor (λ m f. IsArchive text m f file))
    (LacksLibrary text machine flavor)
