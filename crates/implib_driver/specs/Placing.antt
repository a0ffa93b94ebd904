-- Where the library of a definition is put (this project's own).
use Rattle.std.specs.Prelude.{◌≡◌, ◌⊎◌, ℕ, Bool, true, false, List, Option, None, Some, Result, Ok}
use Rattle.std.specs.Prelude.{Err}
use Rattle.implib.specs.Members.MemberSpec.{MemberView}
use Rattle.implib_driver.specs.Disk.{DiskView, KeepsOthers}
use Rattle.implib_driver.specs.Request.{RequestView}
use Rattle.implib_driver.specs.Stubs.{has_failing_stub}
use Rattle.implib_rules.specs.declared.library.LibraryError.{LibraryError}
use Rattle.implib_rules.specs.declared.library.LibraryError.TheVariants.{Refused, Writing}
use Rattle.implib_rules.specs.declared.library.Refusal.{Refusal}
use Rattle.implib_archive.specs.Archive.{archive_of}
use Rattle.implib_archive.specs.Refusal.{refusal_of}
use Rattle.implib_rules.specs.Library.{IsRefusalOfArchive, kind_of}
use Rattle.implib_rules.specs.Older.{IsLibraryAsked, IsRefusalOfBytesAsked, MembersAsked}

-- a file is in its place, and all of it, where bytes are known; other files are as they were,
-- nothing new is left, and no call failed
pub record IsPlaced (known : Bool) (before after : DiskView) (path file : List ℕ) : Type 0 where
  pub in_place : known ≡ true → after.seen path ≡ Some file
  pub others : KeepsOthers before after path
  pub none_left : after.left ≡ None
  pub same_failures : after.has_failed ≡ before.has_failed
  pub same_removals : after.is_stuck ≡ before.is_stuck

-- all files are as they were, and nothing new is left unless its removal failed
pub record IsUnplaced (before after : DiskView) : Type 0 where
  pub as_before : after.seen ≡ before.seen
  pub none_left : (after.left ≡ None) ⊎ (after.is_stuck ≡ true)

-- what became of a library that there is, with a path for it or without one
abbrev pub IsPut : Bool → DiskView → DiskView → Option (List ℕ) → List ℕ → Type 0
IsPut known before after None file = after ≡ before
IsPut known before after (Some path) file = IsPlaced known before after path file

-- the bytes have a library, which is in the place that is asked for
pub record Puts (known : Bool) (before after : DiskView) (bytes : List ℕ)
    (request : RequestView) : Type 0 where
  pub file : List ℕ
  pub is_library : IsLibraryAsked request.older_symbols bytes request.library file
  pub runs : has_failing_stub request.library is_library.members ≡ false
  pub is_put : IsPut known before after request.output file

-- the bytes have no library for this reason, and the disk is as it was
pub record PutsNone (before after : DiskView) (bytes : List ℕ) (request : RequestView)
    (refusal : Refusal) : Type 0 where
  pub refused : IsRefusalOfBytesAsked request.older_symbols bytes request.library refusal
  pub same : after ≡ before

-- the bytes have a library, which was not written whole or is in no place
pub record FailsToPut (before after : DiskView) (bytes : List ℕ)
    (request : RequestView) : Type 0 where
  pub file : List ℕ
  pub is_library : IsLibraryAsked request.older_symbols bytes request.library file
  pub runs : has_failing_stub request.library is_library.members ≡ false
  pub unplaced : IsUnplaced before after

-- what a call for a library answers
abbrev pub Answer : Type 0
Answer = Result (Unit {0}) LibraryError

-- what an answer says of the library and of the disk
abbrev pub Answers : Bool → DiskView → DiskView → List ℕ → RequestView → Answer → Type 0
Answers known before after bytes request (Ok made) = Puts known before after bytes request
Answers known before after bytes request (Err (Refused refusal)) =
    PutsNone before after bytes request refusal
Answers known before after bytes request (Err (Writing cause)) =
    FailsToPut before after bytes request

-- what an answer says of the library of members, as far as a disk and an archive go
abbrev pub AnswersMembers : Bool → DiskView → DiskView → List MemberView → RequestView → Answer →
    Type 0
AnswersMembers known before after members request (Ok made) =
    (refusal_of (kind_of request.library.flavor members) members ≡ None)
    × IsPut known before after request.output
    (archive_of (kind_of request.library.flavor members) members)
AnswersMembers known before after members request (Err (Refused refusal)) =
    IsRefusalOfArchive request.library.flavor members refusal × (after ≡ before)
AnswersMembers known before after members request (Err (Writing cause)) =
    (refusal_of (kind_of request.library.flavor members) members ≡ None) × IsUnplaced before after

-- what an answer says of the library of any bytes that have these members, whose stubs can run, and
-- of the disk
abbrev pub AnswersWith : Bool → DiskView → DiskView → List MemberView → RequestView → Answer →
    Type 0
AnswersWith known before after members request answer =
    (bytes : List ℕ) → MembersAsked request.older_symbols bytes request.library members →
    has_failing_stub request.library members ≡ false
    → Answers known before after bytes request answer
