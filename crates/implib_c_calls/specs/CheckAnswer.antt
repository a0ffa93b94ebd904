-- What `implib_check_library` answers: how a library compares with what a definition means under
-- these options, as the program `implib_check` has it (`implib_compare`).
use Rattle.std.specs.Prelude.{◌≡◌, ℕ, ◌⊎◌, false, List, None, Some}
use Rattle.std.specs.Option.{IsSome}
use Rattle.implib_compare.specs.declared.compare.Verdict.{Verdict}
use Rattle.implib_compare.specs.Meant.{IsVerdictOn}
use Rattle.implib_read.specs.Archives.{Archive, archive_in}
use Rattle.implib_read.specs.Classes.{MemberRead, library_in}
use Rattle.implib_rules.specs.Library.{IsRefusalOfBytes}
use Rattle.implib_rules.specs.Options.{LibraryOptionsView}
use Rattle.implib_c_calls.specs.declared.outcome.Failure.{Failure}
use Rattle.implib_c_calls.specs.declared.outcome.Failure.TheVariants.{NotALibrary, OutOfMemory}
use Rattle.implib_c_calls.specs.Check.{Told, ToldFits, encoded_told, told_in, told_of}
use Rattle.implib_c_calls.specs.Check.{verdict_number}
use Rattle.implib_c_calls.specs.Given.{Encodes, IsBecause, IsEncoding, Leaves}
use Rattle.implib_c_calls.specs.LibraryWith.{GivenOptions, LacksWith, WithOptions, failure_at}

-- This is told of a library beside the library that a definition has for these options.
pub record ComparesSo (bytes text : List ℕ) (options : LibraryOptionsView)
    (told : Told) : Type 0 where
  -- what is read of the library
  pub archive : Archive
  pub members : List MemberRead
  pub is_archive : archive_in bytes ≡ Some archive
  pub read : library_in bytes ≡ Some members
  -- the verdict, with the definition's library and what is read of that
  pub verdict : Verdict
  pub on : IsVerdictOn false text options members verdict
  -- what is told: its verdict is this one
  pub is : told ≡ told_of archive members on.meant
  pub verdict_is : told.verdict ≡ verdict_number verdict

-- the bytes are no archive, or memory was refused
abbrev pub IsNoLibrary : List ℕ → Failure → Type 0
IsNoLibrary bytes NotALibrary = library_in bytes ≡ None
IsNoLibrary bytes OutOfMemory = Unit {0}
IsNoLibrary bytes _ = ⊥

-- nothing is told with these options: so it is, or the definition has no library
abbrev pub LacksCheck : List ℕ → List ℕ → LibraryOptionsView → Failure → Type 0
LacksCheck bytes text options why =
    IsNoLibrary bytes why
    ⊎ (IsSome (library_in bytes) × IsBecause (failure_at text) (IsRefusalOfBytes text options) why)

-- what a call leaves: the encoding of what is told, or why there is none
abbrev pub CheckAnswers : List ℕ → List ℕ → GivenOptions → List ℕ → List ℕ → ℕ → ℕ → ℕ → Type 0
CheckAnswers bytes text given =
    Leaves
    (Encodes encoded_told told_in
    (λ told. WithOptions given (λ options. ComparesSo bytes text options told)))
    (LacksWith given (LacksCheck bytes text))

-- View: these are the bytes of an encoding of what is told of a library beside that of a definition.
pub record EncodesCheck (archive : Archive) (members : List MemberRead) (text : List ℕ)
    (options : LibraryOptionsView) (bytes : List ℕ) : Type 0 where
  pub verdict : Verdict
  pub on : IsVerdictOn false text options members verdict
  pub encodes : IsEncoding encoded_told ToldFits (told_of archive members on.meant) bytes
