-- What `implib_library_of_dll` answers: the library of all that a DLL exports, as
-- `implib_libraries` has it.
use Rattle.std.specs.Prelude.{◌≡◌, ℕ, List, [], None, Some, Ok}
use Rattle.implib_dll.specs.Exports.{Exports, exports_in}
use Rattle.implib_dll.specs.declared.section.Layout.TheVariants.{File}
use Rattle.implib_libraries.specs.declared.from_dll.exports.Unsaid.{Unsaid as UnsaidExport}
use Rattle.implib_libraries.specs.declared.from_dll.exports.Unsaid.TheVariants as unsaid
use Rattle.implib_libraries.specs.declared.of_dll.members.Unmade.{Unmade}
use Rattle.implib_libraries.specs.declared.of_dll.members.Unmade.TheVariants as unmade
use Rattle.implib_libraries.specs.FromDll.Definition.{exports_of}
use Rattle.implib_libraries.specs.OfDll.Members.{IsUnmade, options_for}
use Rattle.implib_rules.specs.Exports.{IsLibraryOfExports, RefusesArchiveOfExports}
use Rattle.implib_rules.specs.Options.{LibraryOptionsView}
use Rattle.implib_c_calls.specs.declared.export.ExportFault.TheVariants.{NotUtf8, OutOfRange}
use Rattle.implib_c_calls.specs.declared.outcome.Failure.{Failure}
use Rattle.implib_c_calls.specs.declared.outcome.Failure.TheVariants as failure
use Rattle.implib_c_calls.specs.DllExportsAnswer.{IsNoImage}
use Rattle.implib_c_calls.specs.Given.{IsBecause, Leaves}
use Rattle.implib_c_calls.specs.LibraryWith.{GivenOptions, LacksWith, WithOptions}

-- what an export that no definition can have becomes: the position of its name, or its ordinal, is
-- told
abbrev pub failure_unsaid : UnsaidExport → Failure
failure_unsaid (unsaid.NotUtf8 position) = failure.NoExport NotUtf8 position
failure_unsaid (unsaid.LargeHint position) = failure.NoExport OutOfRange position
failure_unsaid (unsaid.LargeOrdinal ordinal) = failure.NoExport OutOfRange ordinal
failure_unsaid unsaid.OutOfMemory = failure.OutOfMemory

-- what a DLL without a library becomes
abbrev pub failure_unmade : Unmade → Failure
failure_unmade unmade.NameNotUtf8 = failure.DllNotUtf8
failure_unmade (unmade.Unsaid why) = failure_unsaid why
failure_unmade unmade.NoName = failure.NoDllName
failure_unmade (unmade.Members fault) = failure.Refused fault
failure_unmade unmade.OutOfMemory = failure.OutOfMemory

-- the file is a DLL for the machine of this number, and of what it exports this holds
pub record WithDll (file : List ℕ) (machine : ℕ) (P : Exports → Type 0) : Type 0 where
  pub exports : Exports
  pub exported : exports_in File file ≡ Ok (Some exports)
  pub machine_is : exports.machine ≡ machine
  pub holds : P exports

-- the file is a DLL for another machine than the one of this number
pub record IsForAnother (file : List ℕ) (machine : ℕ) : Type 0 where
  pub exports : Exports
  pub exported : exports_in File file ≡ Ok (Some exports)
  pub machine_is_not : ¬ (exports.machine ≡ machine)

-- The library of a DLL: that of its exports, for the DLL's name that the options give, or else that
-- of its export directory.
abbrev pub IsDllLibrary : List ℕ → ℕ → LibraryOptionsView → List ℕ → Type 0
IsDllLibrary file machine options library =
    WithDll file machine (λ e. IsLibraryOfExports (exports_of e) (options_for e [] options) library)

-- there is no library with these options: the file is no image, exports nothing, or is for another
-- machine; or what it exports has no members, or these no archive; or memory was refused
abbrev pub LacksDllLibrary : List ℕ → ℕ → LibraryOptionsView → Failure → Type 0
LacksDllLibrary file machine options (failure.NotAnImage offset) = IsNoImage file offset
LacksDllLibrary file machine options failure.NoExportDirectory = exports_in File file ≡ Ok None
LacksDllLibrary file machine options failure.OtherMachine = IsForAnother file machine
LacksDllLibrary file machine options (failure.NoArchive fault) =
    WithDll file machine
    (λ e. RefusesArchiveOfExports (exports_of e) (options_for e [] options) fault)
LacksDllLibrary file machine options failure.OutOfMemory = Unit {0}
LacksDllLibrary file machine options why =
    WithDll file machine (λ e. IsBecause failure_unmade (IsUnmade e [] options) why)

-- what a call leaves: the library, or why there is none
abbrev pub DllLibraryAnswers : List ℕ → GivenOptions → List ℕ → List ℕ → ℕ → ℕ → ℕ → Type 0
DllLibraryAnswers file given =
    Leaves (λ library. WithOptions given (λ options. IsDllLibrary file given.machine options library))
    (LacksWith given (LacksDllLibrary file given.machine))
