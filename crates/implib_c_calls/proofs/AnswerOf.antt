-- The answers of a call with exports.
use Rattle.std.proofs.Common.{◌≡◌, List, subst}
use Rattle.implib.specs.Definition.{ExportView}
use Rattle.implib_rules.specs.declared.exports.ExportsRefusal.{ExportsRefusal}
use Rattle.implib_rules.specs.declared.exports.ExportsRefusal.TheVariants as refusal
use Rattle.implib_rules.specs.Exports.{IsRefusalOfExports}
use Rattle.implib_rules.specs.Options.{LibraryOptionsView}
use Rattle.implib_c_calls.specs.declared.library_of.GivenError.{GivenError}
use Rattle.implib_c_calls.specs.declared.library_of.GivenError.TheVariants as given_error
use Rattle.implib_c_calls.specs.LibraryOf.{GivenExport, LacksLibraryOf, OnExportFault, WithExports, failure_given, failure_of_exports}

-- what holds of what their library is made of
pub with_exports : (exports : List GivenExport) {views : List ExportView} → WithExports exports (λ es. views ≡ es) → (P : List ExportView → Type 0) → P views → WithExports exports P
with_exports exports asked P holds = (asked.0, subst P asked.1 holds)

-- the rules refuse the exports
pub lacks_refused : (exports : List GivenExport) {views : List ExportView} → WithExports exports (λ es. views ≡ es) → (options : LibraryOptionsView) (why : ExportsRefusal) → IsRefusalOfExports views options why
    → LacksLibraryOf exports options (failure_of_exports why)
lacks_refused exports given options refusal.NoName is = with_exports exports given (λ es. IsRefusalOfExports es options refusal.NoName) is
lacks_refused exports given options (refusal.Members fault) is = with_exports exports given (λ es. IsRefusalOfExports es options (refusal.Members fault)) is
lacks_refused exports given options refusal.OutOfMemory is = tt

-- an export is refused by itself, or memory was
pub lacks_exports : (exports : List GivenExport) (options : LibraryOptionsView) (error : GivenError) → OnExportFault exports error → LacksLibraryOf exports options (failure_given error)
lacks_exports exports options (given_error.Export fault index) is = is
lacks_exports exports options given_error.OutOfMemory is = tt
