-- Statuses by their numbers, worked by hand: those of include/implib.h that no case in a file has
-- (this project's choice).
use Rattle.std.specs.Prelude.{◌≡◌, ℕ, [], ◌∷◌, Err, map}
use Rattle.implib.specs.declared.def.position.Position.{Position}
use Rattle.implib.specs.declared.error.Fault.TheVariants as fault
use Rattle.implib_archive.specs.declared.error.Fault.TheVariants as archive
use Rattle.implib_c_calls.specs.declared.export.ExportFault.TheVariants as export
use Rattle.implib_c_calls.specs.declared.outcome.Failure.{Failure}
use Rattle.implib_c_calls.specs.declared.outcome.Failure.TheVariants as failure
use Rattle.implib_c_calls.specs.Delayed.{failure_delayed}
use Rattle.implib_c_calls.specs.Given.{failure_status, place_given}
use Rattle.implib_c_calls.specs.Status.{status_number}
use Rattle.implib_libraries.specs.declared.delayed.DelayRefusal.{DelayRefusal}
use Rattle.implib_libraries.specs.declared.delayed.DelayRefusal.TheVariants as delay
use Rattle.implib_libraries.specs.declared.delayed.Undelayed.TheVariants as undelayed
use Rattle.implib_rules.specs.declared.library.Refusal.TheVariants as refusal

-- the number of a failure
abbrev pub number_of : Failure → ℕ
number_of why = status_number (failure_status why)

-- the number, and the place in a text with a byte order mark, of one without delayed imports
abbrev pub delayed_number : DelayRefusal → ℕ
delayed_number why = number_of (failure_delayed [] why)

abbrev pub marked_place : DelayRefusal → ℕ
marked_place why = place_given (Err (failure_delayed (0xEF ∷ 0xBB ∷ 0xBF ∷ []) why))

-- a position at this offset
abbrev pub at_offset : ℕ → Position
at_offset offset = record { offset = offset; line = 1; column = 1 }

-- what the numbers of calls are, and some places
pub record WorkedStatuses : Type 0 where
  pub of_calls : map number_of
      (failure.OutOfMemory ∷ failure.NoDllName ∷ failure.UnknownFlags ∷ failure.DllNotUtf8 ∷ [])
      ≡ 2 ∷ 39 ∷ 41 ∷ 42 ∷ []
  pub member_too_long : number_of (failure.Refused fault.MemberTooLong) ≡ 27
  pub no_name_type : (index : ℕ) → number_of (failure.Refused (fault.NoNameType index)) ≡ 28
  pub empty_library_name : number_of (failure.Refused fault.EmptyLibraryName) ≡ 36
  pub nul_in_library_name : number_of (failure.Refused fault.NulInLibraryName) ≡ 37
  pub line_end_in_library_name : number_of (failure.Refused fault.LineEndInLibraryName) ≡ 38
  pub of_archives : map (λ why. number_of (failure.NoArchive why))
      (archive.MemberTooLong ∷ archive.EmptyName ∷ archive.NulInName ∷ archive.LineEndInName
      ∷ archive.EmptySymbol ∷ archive.NulInSymbol ∷ archive.TooManyMembers
      ∷ archive.ArchiveTooLong ∷ [])
      ≡ 27 ∷ 29 ∷ 30 ∷ 31 ∷ 32 ∷ 33 ∷ 34 ∷ 35 ∷ []
  pub unknown_export_flags : number_of (failure.NoExport export.UnknownFlags 7) ≡ 43
  pub export_not_utf8 : number_of (failure.NoExport export.NotUtf8 7) ≡ 44
  pub export_out_of_range : number_of (failure.NoExport export.OutOfRange 65536) ≡ 55
  pub other_machine : number_of failure.OtherMachine ≡ 54
  pub unreadable_name : number_of (failure.Unreadable 7) ≡ 56
  pub native_refused : number_of (failure.OfNative 7) ≡ 57
  pub place_of_export : place_given (Err (failure.NoExport export.NotUtf8 7)) ≡ 7
  pub of_alias : delayed_number (delay.Undelayed (undelayed.Alias (at_offset 7))) ≡ 53
  pub alias_at : marked_place (delay.Undelayed (undelayed.Alias (at_offset 8))) ≡ 11
  pub not_utf8_at : marked_place (delay.Refused (refusal.NotUtf8 (at_offset 9))) ≡ 12
