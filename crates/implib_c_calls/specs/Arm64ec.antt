-- What `implib_library_arm64ec` answers: the library for ARM64EC of a text, and of a native one, as
-- `implib_libraries` has it.
use Rattle.std.specs.Prelude.{◌≡◌, ℕ, ◌+◌, ◌==◌, ◌≤◌, ◌⊎◌, List, [], Option, None, Some, Err}
use Rattle.std.specs.Prelude.{if◌then◌else◌, length, map}
use Rattle.implib.specs.Library.{member_view}
use Rattle.implib.specs.declared.error.Fault.TheVariants as fault
use Rattle.implib_arm64ec.specs.Archive.{ec_archive, library_refusal}
use Rattle.implib_arm64ec.specs.Library.{LibraryView}
use Rattle.implib_arm64ec.specs.declared.library.ImportsFault.{ImportsFault}
use Rattle.implib_arm64ec.specs.declared.library.ImportsFault.TheVariants as imports
use Rattle.implib_libraries.specs.declared.arm64ec.Arm64ecLibrary.{Arm64ecLibrary}
use Rattle.implib_libraries.specs.declared.arm64ec.Arm64ecRefusal.{Arm64ecRefusal}
use Rattle.implib_libraries.specs.declared.arm64ec.Arm64ecRefusal.TheVariants as refusal
use Rattle.implib_libraries.specs.declared.arm64ec.Unimported.{Unimported}
use Rattle.implib_libraries.specs.Arm64ec.{IsLibraryOfTexts, IsRefusalOfTexts}
use Rattle.implib_rules.specs.declared.library.Refusal.{Refusal}
use Rattle.implib_rules.specs.declared.library.Refusal.TheVariants.{Archive}
use Rattle.implib_rules.specs.Library.{definition_text}
use Rattle.implib_rules.specs.Options.{LibraryOptionsView}
use Rattle.implib_c_calls.specs.declared.outcome.Failure.{Failure}
use Rattle.implib_c_calls.specs.declared.outcome.Failure.TheVariants as failure
use Rattle.implib_c_calls.specs.Given.{IsBecause, Leaves, place_given}
use Rattle.implib_c_calls.specs.LibraryWith.{GivenOptions, IsWithin, LacksWith, WithOptions}
use Rattle.implib_c_calls.specs.LibraryWith.{failure_at, mark_length}

-- the native text, where one is given
abbrev pub native_given : ℕ → List ℕ → Option (List ℕ)
native_given has_native native = if has_native == 0 then None else Some native

-- what a fault of short imports becomes, of an export at this offset
abbrev pub failure_of_imports : ℕ → ImportsFault → Failure
failure_of_imports offset imports.NulInDllName = failure.RefusedAt fault.NulInImportName 0
failure_of_imports offset (imports.NulInExport index) =
    failure.RefusedAt (fault.NulInExport index) offset
failure_of_imports offset (imports.Unreadable index byte) = failure.Unreadable offset
failure_of_imports offset (imports.MemberTooLong index) = failure.RefusedAt fault.MemberTooLong offset

-- the same, told of a text: its offset is in the text, whose byte order mark counts
abbrev pub failure_unimported : List ℕ → Unimported → Failure
failure_unimported text why = failure_of_imports (mark_length text + why.position.offset) why.fault

-- a failure of the native text, with its place there
abbrev pub of_native : Failure → Failure
of_native failure.OutOfMemory = failure.OutOfMemory
of_native why = failure.OfNative (place_given (Err why))

-- what a refusal of the native text becomes, or without one of the members that ARM64 has
abbrev pub failure_native : Option (List ℕ) → Refusal → Failure
failure_native None why = failure_at [] why
failure_native (Some native) why = of_native (failure_at native why)

-- what a refusal of the texts becomes
abbrev pub failure_of_texts : List ℕ → Option (List ℕ) → Arm64ecRefusal → Failure
failure_of_texts text native (refusal.OfDefinition why) = failure_at text why
failure_of_texts text native (refusal.OfImports why) = failure_unimported text why
failure_of_texts text native (refusal.OfNative why) = failure_native native why
failure_of_texts text native refusal.OutOfMemory = failure.OutOfMemory

-- the library of the texts, and its archive
pub record IsArm64ecFile (text : List ℕ) (native : Option (List ℕ)) (options : LibraryOptionsView)
    (file : List ℕ) : Type 0 where
  pub library : LibraryView
  pub library_is : IsLibraryOfTexts text native options library
  pub accepted : library_refusal library ≡ None
  pub is : file ≡ ec_archive library

-- an archive cannot carry a library, or memory was refused
abbrev pub LacksEcArchive : LibraryView → Failure → Type 0
LacksEcArchive l failure.OutOfMemory = Unit {0}
LacksEcArchive l (failure.NoArchive why) = library_refusal l ≡ Some why
LacksEcArchive l _ = ⊥

-- the library of the texts, which has no archive
pub record RefusesArm64ecFile (text : List ℕ) (native : Option (List ℕ))
    (options : LibraryOptionsView) (why : Failure) : Type 0 where
  pub library : LibraryView
  pub library_is : IsLibraryOfTexts text native options library
  pub refused : LacksEcArchive library why

-- there is no library with these options: the texts are refused, or their library has no archive
abbrev pub LacksArm64ec : List ℕ → Option (List ℕ) → LibraryOptionsView → Failure → Type 0
LacksArm64ec text native options why =
    IsBecause (failure_of_texts text native) (IsRefusalOfTexts text native options) why
    ⊎ RefusesArm64ecFile text native options why

-- what a call leaves: the library, or why there is none
abbrev pub Arm64ecAnswers : List ℕ → Option (List ℕ) → GivenOptions → List ℕ → List ℕ →
    ℕ → ℕ → ℕ → Type 0
Arm64ecAnswers text native given =
    Leaves (λ file. WithOptions given (λ options. IsArm64ecFile text native options file))
    (LacksWith given (LacksArm64ec text native))

-- Views: what the functions below `implib_library_arm64ec` give each other. No promise cites them.

-- the lists of a library
abbrev pub library_held : Arm64ecLibrary → LibraryView
library_held l = record {
  headers = map member_view l.headers.items;
  imports = l.imports;
  natives = map member_view l.natives.items;
}

-- what a refusal of the archive becomes
abbrev pub failure_packing : Refusal → Failure
failure_packing (Archive why) = failure.NoArchive why
failure_packing _ = failure.OutOfMemory

-- the offset of a fault of an export is one of the text without its byte order mark, or of its end
abbrev pub IsFaultWithin : List ℕ → ℕ → ImportsFault → Type 0
IsFaultWithin text offset imports.NulInDllName = Unit {0}
IsFaultWithin text offset _ = offset ≤ length (definition_text text)

abbrev pub IsUnimportedWithin : List ℕ → Unimported → Type 0
IsUnimportedWithin text why = IsFaultWithin text why.position.offset why.fault

-- and so is that of a refusal of the native text
abbrev pub IsNativeWithin : Option (List ℕ) → Refusal → Type 0
IsNativeWithin None why = IsWithin [] why
IsNativeWithin (Some native) why = IsWithin native why

-- and those of a refusal of the texts
abbrev pub AreTextsWithin : List ℕ → Option (List ℕ) → Arm64ecRefusal → Type 0
AreTextsWithin text native (refusal.OfDefinition why) = IsWithin text why
AreTextsWithin text native (refusal.OfImports why) = IsUnimportedWithin text why
AreTextsWithin text native (refusal.OfNative why) = IsNativeWithin native why
AreTextsWithin text native refusal.OutOfMemory = Unit {0}
