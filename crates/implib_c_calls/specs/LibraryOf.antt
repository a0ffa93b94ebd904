-- What `implib_library_of` answers: the library that the rules of `implib_rules` make of exports
-- under these options.
use Rattle.std.specs.Prelude.{◌≡◌, ℕ, ◌<◌, ◌≤◌, ◌⊎◌, List, All, Some, map, slice_get, take}
use Rattle.std.specs.Str.{IsUtf8}
use Rattle.implib.specs.declared.machine.MachineType.TheVariants.{AMD64}
use Rattle.implib.specs.Definition.{DefinitionView, ExportView, empty_export}
use Rattle.implib.specs.Text.Parses.{Parses}
use Rattle.implib_rules.specs.declared.exports.ExportsRefusal.{ExportsRefusal}
use Rattle.implib_rules.specs.declared.exports.ExportsRefusal.TheVariants as refusal
use Rattle.implib_rules.specs.Exports.{IsLibraryOfExports, IsRefusalOfExports}
use Rattle.implib_rules.specs.Exports.{RefusesArchiveOfExports, of_exports}
use Rattle.implib_rules.specs.Library.{IsLibrary, definition_text}
use Rattle.implib_rules.specs.Nameless.{with_ordinals}
use Rattle.implib_rules.specs.Options.{LibraryOptionsView}
use Rattle.implib_c_calls.specs.declared.export.Export.{Export as PassedExport}
use Rattle.implib_c_calls.specs.declared.export.ExportFault.{ExportFault}
use Rattle.implib_c_calls.specs.declared.export.ExportFault.TheVariants.{NotUtf8, OutOfRange}
use Rattle.implib_c_calls.specs.declared.export.ExportFault.TheVariants.{UnknownFlags}
use Rattle.implib_c_calls.specs.declared.library_of.GivenError.{GivenError}
use Rattle.implib_c_calls.specs.declared.library_of.GivenError.TheVariants.{Export, OutOfMemory}
use Rattle.implib_c_calls.specs.declared.outcome.Failure.{Failure}
use Rattle.implib_c_calls.specs.declared.outcome.Failure.TheVariants as failure
use Rattle.implib_c_calls.specs.Flags.{has_flag}
use Rattle.implib_c_calls.specs.Given.{Leaves}
use Rattle.implib_c_calls.specs.LibraryWith.{GivenOptions, LacksWith, WithOptions}

-- an export as C passes it: the bytes of two names, and two numbers
pub record GivenExport : Type 0 where
  pub name : List ℕ
  -- empty where there is none
  pub target : List ℕ
  pub ordinal : ℕ
  pub flags : ℕ

-- the view of an export
abbrev pub given_export : PassedExport → GivenExport
given_export e =
    record { name = e.name.now; target = e.target.now; ordinal = e.ordinal; flags = e.flags }

-- What a definition has of an export: the name, what follows `==`, and the ordinal; the flag 1 is
-- `NONAME`, 2 `DATA`, 4 `CONSTANT` and 8 `PRIVATE`. So the statement `name @ordinal NONAME DATA
-- CONSTANT PRIVATE == target` means it on a machine without an underscore, less what is not there.
abbrev pub export_given : GivenExport → ExportView
export_given e = record empty_export {
  name = e.name;
  alias_target = e.target;
  ordinal = e.ordinal;
  no_name = has_flag e.flags 1;
  is_data = has_flag e.flags 2;
  constant = has_flag e.flags 4;
  private = has_flag e.flags 8;
}

-- what a definition has of exports
abbrev pub exports_given : List GivenExport → List ExportView
exports_given exports = map export_given exports

-- what their library is made of: that, once aliases of exports without a name are by ordinal, as in
-- a text
abbrev pub exports_asked : List GivenExport → List ExportView
exports_asked exports = (with_ordinals (of_exports (exports_given exports))).exports

-- an export has no unknown flag, and both names are UTF-8
pub record IsAccepted (e : GivenExport) : Type 0 where
  pub flags : e.flags < 16
  pub name : IsUtf8 e.name
  pub target : IsUtf8 e.target

-- when an export is refused for this fault
abbrev pub IsExportFault : GivenExport → ExportFault → Type 0
IsExportFault e UnknownFlags = 16 ≤ e.flags
IsExportFault e NotUtf8 = (e.flags < 16) × (¬ (IsUtf8 e.name) ⊎ ¬ (IsUtf8 e.target))
IsExportFault e OutOfRange = ⊥

-- the first of some exports that is refused is at this index, for this fault
pub record IsFirstFault (exports : List GivenExport) (index : ℕ)
    (fault : ExportFault) : Type 0 where
  pub export : GivenExport
  pub stands : slice_get exports index ≡ Some export
  pub before : All IsAccepted (take index exports)
  pub is : IsExportFault export fault

-- each export is accepted, and of what their library is made of this holds
abbrev pub WithExports : List GivenExport → (List ExportView → Type 0) → Type 0
WithExports exports P = All IsAccepted exports × P (exports_asked exports)

-- there is no library with these options: an export is refused by itself, the rules refuse the
-- exports, their members have no archive, or memory was refused
abbrev pub LacksLibraryOf : List GivenExport → LibraryOptionsView → Failure → Type 0
LacksLibraryOf exports options (failure.NoExport fault index) = IsFirstFault exports index fault
LacksLibraryOf exports options failure.NoDllName =
    WithExports exports (λ es. IsRefusalOfExports es options refusal.NoName)
LacksLibraryOf exports options (failure.Refused fault) =
    WithExports exports (λ es. IsRefusalOfExports es options (refusal.Members fault))
LacksLibraryOf exports options (failure.NoArchive fault) =
    WithExports exports (λ es. RefusesArchiveOfExports es options fault)
LacksLibraryOf exports options failure.OutOfMemory = Unit {0}
LacksLibraryOf exports options _ = ⊥

-- what a call leaves: the library, or why there is none
abbrev pub LibraryOfAnswers : List GivenExport → GivenOptions → List ℕ → List ℕ → ℕ → ℕ → ℕ →
    Type 0
LibraryOfAnswers exports given =
    Leaves
    (λ file. WithOptions given
    (λ options. WithExports exports (λ es. IsLibraryOfExports es options file)))
    (LacksWith given (LacksLibraryOf exports))

-- Exports have the library of a text that states just these, whatever DLL it names, with the same
-- options.
abbrev pub ExportsHaveTheTextsLibrary : Type 0
ExportsHaveTheTextsLibrary =
    (text : List ℕ) (exports : List GivenExport) (options : LibraryOptionsView)
    (stated : DefinitionView) (file other : List ℕ) →
    Parses (definition_text text) AMD64 stated → stated.exports ≡ exports_given exports →
    IsLibrary text options file →
    WithExports exports (λ es. IsLibraryOfExports es options other) → file ≡ other

-- Views: what the functions below `implib_library_of` give each other. No promise cites them.

-- each export is accepted, and these are what a definition has of them
pub record AreGiven (exports : List GivenExport) (views : List ExportView) : Type 0 where
  pub accepted : All IsAccepted exports
  pub are : views ≡ exports_given exports

-- an export is refused by itself, or memory was
abbrev pub OnExportFault : List GivenExport → GivenError → Type 0
OnExportFault exports (Export fault index) = IsFirstFault exports index fault
OnExportFault exports OutOfMemory = Unit {0}

-- what an error becomes
abbrev pub failure_given : GivenError → Failure
failure_given (Export fault index) = failure.NoExport fault index
failure_given OutOfMemory = failure.OutOfMemory

-- what a refusal becomes
abbrev pub failure_of_exports : ExportsRefusal → Failure
failure_of_exports refusal.NoName = failure.NoDllName
failure_of_exports (refusal.Members fault) = failure.Refused fault
failure_of_exports refusal.OutOfMemory = failure.OutOfMemory
