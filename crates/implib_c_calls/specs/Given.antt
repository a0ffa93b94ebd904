-- How a call ends that fills a buffer: what it gives, and what it leaves.
use Rattle.std.specs.Prelude.{◌≡◌, ℕ, ◌<◌, ◌≤◌, ◌^◌, ◌⊎◌, List, ◌++◌, length, drop, Option, None}
use Rattle.std.specs.Prelude.{Some, Result, Ok, Err}
use Rattle.std.specs.Option.{unwrap_or}
use Rattle.implib.specs.declared.error.Error.{Error}
use Rattle.implib.specs.declared.error.Error.TheVariants as error
use Rattle.implib.specs.declared.error.ParseError.{ParseError}
use Rattle.implib.specs.declared.error.ParseError.TheVariants as parse_error
use Rattle.implib.specs.Fault.{cause_of, export_index}
use Rattle.implib.specs.Members.MemberSpec.{MemberView}
use Rattle.implib_archive.specs.declared.error.Error.{Error as ArchiveError}
use Rattle.implib_archive.specs.declared.error.Error.TheVariants as archive_error
use Rattle.implib_archive.specs.declared.kind.Kind.{Kind}
use Rattle.implib_archive.specs.Archive.{archive_of}
use Rattle.implib_archive.specs.Refusal.{refusal_of}
use Rattle.implib_c_calls.specs.declared.outcome.Failure.{Failure}
use Rattle.implib_c_calls.specs.declared.outcome.Failure.TheVariants as failure
use Rattle.implib_c_calls.specs.declared.status.Status.{Status}
use Rattle.implib_c_calls.specs.declared.status.Status.TheVariants as status
use Rattle.implib_c_calls.specs.Encoding.{encoded_members}
use Rattle.implib_c_calls.specs.Status.{archive_status, cause_status, delay_status, export_status}
use Rattle.implib_c_calls.specs.Status.{status_number}

-- What C gets.

-- the status of a failure
abbrev pub failure_status : Failure → Status
failure_status (failure.BufferTooSmall needed) = status.BufferTooSmall
failure_status failure.OutOfMemory = status.OutOfMemory
failure_status (failure.NotUtf8 offset) = status.NotUtf8
failure_status failure.UnknownMachine = status.UnknownMachine
failure_status failure.UnknownFlavor = status.UnknownFlavor
failure_status (failure.SyntaxError fault offset) = cause_status (cause_of fault)
failure_status (failure.Refused fault) = cause_status (cause_of fault)
failure_status (failure.NoArchive fault) = archive_status fault
failure_status failure.UnknownFlags = status.UnknownFlags
failure_status failure.DllNotUtf8 = status.DllNotUtf8
failure_status failure.NoDllName = status.NoDllName
failure_status (failure.RefusedAt fault offset) = cause_status (cause_of fault)
failure_status (failure.NoExport fault index) = export_status fault
failure_status failure.NotALibrary = status.NotALibrary
failure_status (failure.NotAnImage offset) = status.NotAnImage
failure_status failure.NoExportDirectory = status.NoExportDirectory
failure_status failure.OtherMachine = status.OtherMachine
failure_status (failure.Unreadable offset) = status.UnreadableName
failure_status (failure.OfNative offset) = status.NativeRefused
failure_status (failure.NotDelayed why offset) = delay_status why

-- the status of what is given
abbrev pub status_given : Result ℕ Failure → Status
status_given (Ok put) = status.Success
status_given (Err why) = failure_status why

-- the length, where something is put, or the buffer is too small for it; else 0
abbrev pub length_given : Result ℕ Failure → ℕ
length_given (Ok put) = put
length_given (Err (failure.BufferTooSmall needed)) = needed
length_given _ = 0

-- the offset or the index of what is at fault, where there is one; else 0
abbrev pub place_given : Result ℕ Failure → ℕ
place_given (Err (failure.NotUtf8 offset)) = offset
place_given (Err (failure.SyntaxError fault offset)) = offset
place_given (Err (failure.Refused fault)) = unwrap_or (export_index (cause_of fault)) 0
place_given (Err (failure.RefusedAt fault offset)) = offset
place_given (Err (failure.NoExport fault index)) = index
place_given (Err (failure.NotAnImage offset)) = offset
place_given (Err (failure.Unreadable offset)) = offset
place_given (Err (failure.OfNative offset)) = offset
place_given (Err (failure.NotDelayed why offset)) = offset
place_given _ = 0

-- How a call ends, by which bytes it has, and for which failures it has none.

-- bytes are put at the beginning of the buffer, and what was after them is as it was
pub record IsPut (Has : List ℕ → Type 0) (old new : List ℕ) (put : ℕ) : Type 0 where
  pub bytes : List ℕ
  pub has : Has bytes
  pub length_is : put ≡ length bytes
  pub room : put ≤ length old
  pub buffer_is : new ≡ bytes ++ drop (length bytes) old

-- the buffer is too small for the bytes
pub record IsTooSmall (Has : List ℕ → Type 0) (old : List ℕ) (why : Failure) : Type 0 where
  pub bytes : List ℕ
  pub has : Has bytes
  pub is : why ≡ failure.BufferTooSmall (length bytes)
  pub short : length old < length bytes

-- when a call ends so: without bytes the buffer is as it was
abbrev pub EndsSo : (List ℕ → Type 0) → (Failure → Type 0) → List ℕ → List ℕ →
    Result ℕ Failure → Type 0
EndsSo Has Lacks old new (Ok put) = IsPut Has old new put
EndsSo Has Lacks old new (Err why) = (new ≡ old) × (IsTooSmall Has old why ⊎ Lacks why)

-- what a call leaves: the numbers of what it gives
pub record Leaves (Has : List ℕ → Type 0) (Lacks : Failure → Type 0) (old new : List ℕ)
    (length_left place_left status_left : ℕ) : Type 0 where
  pub given : Result ℕ Failure
  pub ends : EndsSo Has Lacks old new given
  pub length_is : length_left ≡ length_given given
  pub place_is : place_left ≡ place_given given
  pub status_is : status_left ≡ status_number (status_given given)

-- the bytes encode something of this kind, which is read of them, whatever follows them
pub record Encodes {X : Type 0} (encoded : X → List ℕ) (read : List ℕ → Option (X × List ℕ))
    (Has : X → Type 0) (bytes : List ℕ) : Type 0 where
  pub what : X
  pub has : Has what
  pub is : bytes ≡ encoded what
  pub buffer_reads : (rest : List ℕ) → read (bytes ++ rest) ≡ Some (what, rest)

-- a failure is what some cause becomes
pub record IsBecause {Why : Type 0} (told : Why → Failure) (Is : Why → Type 0)
    (why : Failure) : Type 0 where
  pub cause : Why
  pub is : Is cause
  pub told_is : why ≡ told cause

-- Views: what the functions below the exports give each other. No promise cites them.

-- what an error of the library becomes
abbrev pub failure_of : Error → Failure
failure_of (error.Invalid fault) = failure.Refused fault
failure_of (error.OutOfMemory refused) = failure.OutOfMemory

-- what an error of an archive becomes
abbrev pub failure_of_archive : ArchiveError → Failure
failure_of_archive (archive_error.Invalid fault) = failure.NoArchive fault
failure_of_archive (archive_error.OutOfMemory refused) = failure.OutOfMemory

-- what an error of the parser becomes
abbrev pub failure_of_parsing : ParseError → Failure
failure_of_parsing (parse_error.Invalid fault position) = failure.SyntaxError fault position.offset
failure_of_parsing (parse_error.OutOfMemory refused) = failure.OutOfMemory

-- bytes that are accepted are put at the beginning of the buffer, where there is room; else nothing
-- is
abbrev pub Puts : List ℕ → Type 0 → (Failure → Type 0) → List ℕ → List ℕ → Result ℕ Failure →
    Type 0
Puts bytes Accepted Refused old new (Ok put) =
    Accepted × (put ≡ length bytes) × (put ≤ length old) × (put < 2 ^ 64)
    × (new ≡ bytes ++ drop (length bytes) old)
Puts bytes Accepted Refused old new (Err (failure.BufferTooSmall needed)) =
    Accepted × (needed ≡ length bytes) × (length old < needed) × (needed < 2 ^ 64) × (new ≡ old)
Puts bytes Accepted Refused old new (Err why) = Refused why × (new ≡ old)

-- memory was refused
abbrev pub IsOutOfMemory : Failure → Type 0
IsOutOfMemory failure.OutOfMemory = Unit {0}
IsOutOfMemory _ = ⊥

-- members have no archive
abbrev pub LacksArchive : Kind → List MemberView → Failure → Type 0
LacksArchive kind members failure.OutOfMemory = Unit {0}
LacksArchive kind members (failure.NoArchive fault) = refusal_of kind members ≡ Some fault
LacksArchive kind members _ = ⊥

-- an encoding is put
abbrev pub PutsEncoding : List ℕ → List ℕ → List ℕ → Result ℕ Failure → Type 0
PutsEncoding bytes = Puts bytes (Unit {0}) (λ why. ⊥)

-- the encoding of members is put
abbrev pub PutsInto : List MemberView → List ℕ → List ℕ → Result ℕ Failure → Type 0
PutsInto members = Puts (encoded_members members) (Unit {0}) IsOutOfMemory

-- the archive of members is put
abbrev pub PacksInto : Kind → List MemberView → List ℕ → List ℕ → Result ℕ Failure → Type 0
PacksInto kind members =
    Puts (archive_of kind members) (refusal_of kind members ≡ None) (LacksArchive kind members)

-- the bytes are the encoding of this, whose numbers have 64 bits
pub record IsEncoding {X : Type 0} (encoded : X → List ℕ) (Fits : X → Type 0) (what : X)
    (bytes : List ℕ) : Type 0 where
  pub is : bytes ≡ encoded what
  pub fit : Fits what

-- the bytes are the encoding of something of this kind
pub record EncodesSome {X : Type 0} (encoded : X → List ℕ) (Fits : X → Type 0) (Has : X → Type 0)
    (bytes : List ℕ) : Type 0 where
  pub what : X
  pub has : Has what
  pub encoding : IsEncoding encoded Fits what bytes
