-- What a call with options puts is what the program writes.
use Rattle.std.proofs.Common.{◌≡◌, ℕ, List, ◌++◌, Result, Ok, Err, drop, length, take, sym, ◌∙◌, subst, arith, ap}
use Rattle.std.proofs.lemmas.List.{take_at}
use Rattle.std.proofs.lemmas.Option.{same_Some}
use Rattle.implib.specs.Fault.{Cause, cause_of}
use Rattle.implib.specs.Fault as cause
use Rattle.implib_archive.specs.declared.error.Fault.{Fault as ArchiveFault}
use Rattle.implib_archive.specs.declared.error.Fault.TheVariants as archive
use Rattle.implib_rules.specs.Library.{IsLibrary, IsRefusalOfBytes}
use Rattle.implib_rules.specs.Options.{LibraryOptionsView}
use Rattle.implib_rules.proofs.OneDefinition.{one_library}
use Rattle.implib_c_calls.specs.declared.export.ExportFault.{ExportFault}
use Rattle.implib_c_calls.specs.declared.export.ExportFault.TheVariants.{UnknownFlags}
use Rattle.implib_c_calls.specs.declared.outcome.Failure.{Failure}
use Rattle.implib_c_calls.specs.declared.outcome.Failure.TheVariants as failure
use Rattle.implib_c_calls.specs.declared.outcome.NoDelay.{NoDelay}
use Rattle.implib_c_calls.specs.declared.outcome.NoDelay.TheVariants.{Alias}
use Rattle.implib_c_calls.specs.Given.{EndsSo, IsBecause, failure_status, length_given, status_given}
use Rattle.implib_c_calls.specs.LibraryWith.{AreOptions, GivenOptions, LacksWith, WithOptions, failure_at}
use Rattle.implib_c_calls.specs.Status.{archive_status, cause_status, delay_status, export_status, status_number}
use Rattle.implib_c_calls.specs.WrittenAlike.{PutsWhatIsWritten}

-- what is given is one record of options
options_once : (given : GivenOptions) (options other : LibraryOptionsView) → AreOptions given options → AreOptions given other → options ≡ other
options_once given options other first second = grind (arith, same_Some)

-- no failure has the status of success

cause_fails : (c : Cause) → 0 ≡ status_number (cause_status c) → ⊥
cause_fails cause.ExpectedInteger e = omega (arith, e)
cause_fails _ e = omega (arith, e)

archive_fails : (fault : ArchiveFault) → 0 ≡ status_number (archive_status fault) → ⊥
archive_fails archive.EmptyName e = omega (arith, e)
archive_fails _ e = omega (arith, e)

export_fails : (fault : ExportFault) → 0 ≡ status_number (export_status fault) → ⊥
export_fails UnknownFlags e = omega (arith, e)
export_fails _ e = omega (arith, e)

delay_fails : (why : NoDelay) → 0 ≡ status_number (delay_status why) → ⊥
delay_fails Alias e = omega (arith, e)
delay_fails _ e = omega (arith, e)

fails : (why : Failure) → 0 ≡ status_number (failure_status why) → ⊥
fails (failure.SyntaxError fault offset) e = cause_fails (cause_of fault) e
fails (failure.Refused fault) e = cause_fails (cause_of fault) e
fails (failure.RefusedAt fault offset) e = cause_fails (cause_of fault) e
fails (failure.NoArchive fault) e = archive_fails fault e
fails (failure.NoExport fault index) e = export_fails fault e
fails (failure.NotDelayed why offset) e = delay_fails why e
fails _ e = omega (arith, e)

-- what is put at the beginning is the library
put_is : (text : List ℕ) (given : GivenOptions) (options : LibraryOptionsView) (old new : List ℕ) (length_left : ℕ) (result : Result ℕ Failure) (file : List ℕ)
    → EndsSo (λ made. WithOptions given (λ o. IsLibrary text o made)) (LacksWith given (λ o. IsBecause (failure_at text) (IsRefusalOfBytes text o))) old new result
    → 0 ≡ status_number (status_given result) → length_left ≡ length_given result
    → AreOptions given options → IsLibrary text options file → file ≡ take length_left new
put_is text given options old new length_left (Ok put) file ends status_is length_is are is =
    let own : IsLibrary text options ends.bytes = subst (λ o. IsLibrary text o ends.bytes) (options_once given ends.has.options options ends.has.are_options are) ends.has.holds in
    one_library text options file ends.bytes is own
    ∙ sym (ap (take length_left) ends.buffer_is ∙ take_at ends.bytes (drop (length ends.bytes) old) length_left (sym (length_is ∙ ends.length_is)))
put_is text given options old new length_left (Err why) file ends status_is length_is are is = absurd (fails why status_is)

pub puts_what_is_written : PutsWhatIsWritten
puts_what_is_written text given options old new length_left place_left before after answers are writes =
    writes.written
    ∙ ap (λ file. before ++ file)
    (put_is text given options old new length_left answers.given writes.file answers.ends answers.status_is answers.length_is are writes.is_library)
