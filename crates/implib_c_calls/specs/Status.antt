-- The statuses that C gets, their numbers and their texts (this project's choice).
use Rattle.std.specs.Prelude.{◌≡◌, ℕ, ◌+◌, ◌==◌, nat_lt, List, [], ◌∷◌, ◌++◌, length, drop}
use Rattle.std.specs.Prelude.{Option, None, Some, codes, if◌then◌else◌}
use Rattle.std.specs.Option.{option_map}
use Rattle.implib.specs.Fault.{Cause}
use Rattle.implib.specs.Fault as cause
use Rattle.implib_archive.specs.declared.error.Fault.{Fault}
use Rattle.implib_archive.specs.declared.error.Fault.TheVariants as archive
use Rattle.implib_c_calls.specs.declared.export.ExportFault.{ExportFault}
use Rattle.implib_c_calls.specs.declared.export.ExportFault.TheVariants as export
use Rattle.implib_c_calls.specs.declared.outcome.NoDelay.{NoDelay}
use Rattle.implib_c_calls.specs.declared.outcome.NoDelay.TheVariants as delay
use Rattle.implib_c_calls.specs.declared.status.Status.{Status}
use Rattle.implib_c_calls.specs.declared.status.Status.TheVariants as status

-- the number of a status: those of a call first, from 16 to 39 those of the input's faults, then
-- those of options, of exports and of bytes that are read
abbrev pub status_number : Status → ℕ
status_number status.Success = 0
status_number status.BufferTooSmall = 1
status_number status.OutOfMemory = 2
status_number status.NotUtf8 = 3
status_number status.UnknownMachine = 4
status_number status.UnknownFlavor = 5
status_number status.UnknownDirective = 16
status_number status.ExpectedIdentifier = 17
status_number status.ExpectedEqual = 18
status_number status.ExpectedInteger = 19
status_number status.InvalidOrdinal = 20
status_number status.LoneAt = 21
status_number status.EmptyImportName = 22
status_number status.NulInImportName = 23
status_number status.EmptyName = 24
status_number status.NulInExport = 25
status_number status.EmptyAskedName = 26
status_number status.MemberTooLong = 27
status_number status.NoNameType = 28
status_number status.EmptyMemberName = 29
status_number status.NulInMemberName = 30
status_number status.LineEndInMemberName = 31
status_number status.EmptySymbol = 32
status_number status.NulInSymbol = 33
status_number status.TooManyMembers = 34
status_number status.ArchiveTooLong = 35
status_number status.EmptyLibraryName = 36
status_number status.NulInLibraryName = 37
status_number status.LineEndInLibraryName = 38
status_number status.NoDllName = 39
status_number status.UnknownOptions = 40
status_number status.UnknownFlags = 41
status_number status.DllNotUtf8 = 42
status_number status.UnknownExportFlags = 43
status_number status.ExportNotUtf8 = 44
status_number status.NullInExport = 45
status_number status.NotALibrary = 46
status_number status.WriteFailed = 47
status_number status.NotAnImage = 48
status_number status.NoExportDirectory = 49
status_number status.DelayFlavor = 50
status_number status.DelayMachine = 51
status_number status.DelayData = 52
status_number status.DelayAlias = 53
status_number status.OtherMachine = 54
status_number status.ExportOutOfRange = 55
status_number status.UnreadableName = 56
status_number status.NativeRefused = 57

-- each status, with its text
abbrev pub texts : List (Status × List ℕ)
texts =
    (status.Success, codes "success")
    ∷ (status.BufferTooSmall, codes "buffer too small")
    ∷ (status.OutOfMemory, codes "out of memory")
    ∷ (status.NotUtf8, codes "input is not UTF-8")
    ∷ (status.UnknownMachine, codes "unknown machine")
    ∷ (status.UnknownFlavor, codes "unknown flavour")
    ∷ (status.UnknownDirective, codes "unknown directive")
    ∷ (status.ExpectedIdentifier, codes "expected identifier")
    ∷ (status.ExpectedEqual, codes "expected equal")
    ∷ (status.ExpectedInteger, codes "expected integer")
    ∷ (status.InvalidOrdinal, codes "invalid ordinal")
    ∷ (status.LoneAt, codes "lone @ after =")
    ∷ (status.EmptyImportName, codes "import name is empty")
    ∷ (status.NulInImportName, codes "import name contains null byte")
    ∷ (status.EmptyName, codes "export name is empty")
    ∷ (status.NulInExport, codes "export name contains null byte")
    ∷ (status.EmptyAskedName, codes "asked name is empty")
    ∷ (status.MemberTooLong, codes "member too long")
    ∷ (status.NoNameType, codes "no name type for the asked name")
    ∷ (status.EmptyMemberName, codes "member name is empty")
    ∷ (status.NulInMemberName, codes "member name contains null byte")
    ∷ (status.LineEndInMemberName, codes "member name contains line end")
    ∷ (status.EmptySymbol, codes "symbol is empty")
    ∷ (status.NulInSymbol, codes "symbol contains null byte")
    ∷ (status.TooManyMembers, codes "too many members")
    ∷ (status.ArchiveTooLong, codes "archive too long")
    ∷ (status.EmptyLibraryName, codes "library name is empty")
    ∷ (status.NulInLibraryName, codes "library name contains null byte")
    ∷ (status.LineEndInLibraryName, codes "library name contains line end")
    ∷ (status.NoDllName, codes "no name of the DLL")
    ∷ (status.UnknownOptions, codes "unknown options")
    ∷ (status.UnknownFlags, codes "unknown flags")
    ∷ (status.DllNotUtf8, codes "name of the DLL is not UTF-8")
    ∷ (status.UnknownExportFlags, codes "unknown flags of an export")
    ∷ (status.ExportNotUtf8, codes "export name is not UTF-8")
    ∷ (status.NullInExport, codes "export has a null pointer")
    ∷ (status.NotALibrary, codes "not a library")
    ∷ (status.WriteFailed, codes "writing failed")
    ∷ (status.NotAnImage, codes "not an image")
    ∷ (status.NoExportDirectory, codes "no export directory")
    ∷ (status.DelayFlavor, codes "no delay for Microsoft's linker")
    ∷ (status.DelayMachine, codes "no delayed imports on machine")
    ∷ (status.DelayData, codes "data cannot be delayed")
    ∷ (status.DelayAlias, codes "alias cannot be delayed")
    ∷ (status.OtherMachine, codes "DLL is for another machine")
    ∷ (status.ExportOutOfRange, codes "hint or ordinal is above 65535")
    ∷ (status.UnreadableName, codes "no name of C++ for ARM64EC")
    ∷ (status.NativeRefused, codes "native definition is refused")
    ∷ []

-- the one of these with a number, and its text
abbrev pub row_numbered : List (Status × List ℕ) → ℕ → Option (Status × List ℕ)
row_numbered [] number = None
row_numbered (row ∷ rows) number =
    if number == status_number row.0 then Some row else row_numbered rows number

-- the status of a fault of the input
abbrev pub cause_status : Cause → Status
cause_status (cause.UnknownDirective value) = status.UnknownDirective
cause_status (cause.ExpectedIdentifier kind) = status.ExpectedIdentifier
cause_status (cause.ExpectedEqual kind) = status.ExpectedEqual
cause_status cause.ExpectedInteger = status.ExpectedInteger
cause_status (cause.InvalidOrdinal value) = status.InvalidOrdinal
cause_status cause.LoneAt = status.LoneAt
cause_status cause.EmptyImportName = status.EmptyImportName
cause_status cause.NulInImportName = status.NulInImportName
cause_status cause.EmptyLibraryName = status.EmptyLibraryName
cause_status cause.NulInLibraryName = status.NulInLibraryName
cause_status cause.LineEndInLibraryName = status.LineEndInLibraryName
cause_status (cause.EmptyName index) = status.EmptyName
cause_status (cause.NulInExport index) = status.NulInExport
cause_status (cause.EmptyAskedName index) = status.EmptyAskedName
cause_status cause.MemberTooLong = status.MemberTooLong
cause_status (cause.NoNameType index) = status.NoNameType

-- the status of members that have no archive
abbrev pub archive_status : Fault → Status
archive_status archive.EmptyName = status.EmptyMemberName
archive_status archive.NulInName = status.NulInMemberName
archive_status archive.LineEndInName = status.LineEndInMemberName
archive_status archive.EmptySymbol = status.EmptySymbol
archive_status archive.NulInSymbol = status.NulInSymbol
archive_status archive.MemberTooLong = status.MemberTooLong
archive_status archive.TooManyMembers = status.TooManyMembers
archive_status archive.ArchiveTooLong = status.ArchiveTooLong

-- the status of an export that is refused by itself
abbrev pub export_status : ExportFault → Status
export_status export.UnknownFlags = status.UnknownExportFlags
export_status export.NotUtf8 = status.ExportNotUtf8
export_status export.OutOfRange = status.ExportOutOfRange

-- the status of imports that are not delayed
abbrev pub delay_status : NoDelay → Status
delay_status delay.Flavor = status.DelayFlavor
delay_status delay.Machine = status.DelayMachine
delay_status delay.Data = status.DelayData
delay_status delay.Alias = status.DelayAlias

-- the text of a row, if there is one
abbrev pub found_text : Option (Status × List ℕ) → List ℕ
found_text None = codes "unknown status"
found_text (Some row) = row.1

-- the text for a number, which may be no status
abbrev pub text_for : ℕ → List ℕ
text_for number = found_text (row_numbered texts number)

-- a buffer with a text and a NUL at its beginning, where it has room for both; as it was, where it
-- has not
abbrev pub with_text : List ℕ → List ℕ → List ℕ
with_text buffer text =
    if nat_lt (length text) (length buffer) then text ++ 0 ∷ drop (length text + 1) buffer
    else buffer

-- each number leads back to its status
pub record NumbersReturn : Type 0 where
  pub status_by_number : (status : Status) →
      option_map (λ row. row.0) (row_numbered texts (status_number status)) ≡ Some status
