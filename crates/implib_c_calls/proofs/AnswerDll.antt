-- The answers of a call with a DLL.
use Rattle.std.proofs.Common.{◌≡◌, ℕ, List, [], Some, Ok, refl}
use Rattle.implib_dll.specs.Exports.{Exports, exports_in}
use Rattle.implib_dll.specs.declared.section.Layout.TheVariants.{File}
use Rattle.implib_libraries.specs.declared.from_dll.exports.Unsaid.TheVariants as unsaid
use Rattle.implib_libraries.specs.declared.of_dll.members.Unmade.{Unmade}
use Rattle.implib_libraries.specs.declared.of_dll.members.Unmade.TheVariants as unmade
use Rattle.implib_libraries.specs.OfDll.Members.{IsUnmade}
use Rattle.implib_rules.specs.Options.{LibraryOptionsView}
use Rattle.implib_c_calls.specs.declared.outcome.Failure.{Failure}
use Rattle.implib_c_calls.specs.declared.outcome.Failure.TheVariants as failure
use Rattle.implib_c_calls.specs.DllExportsAnswer.{LacksExports}
use Rattle.implib_c_calls.specs.DllLibrary.{LacksDllLibrary, failure_unmade}

-- the DLL has no members
pub lacks_members : (file : List ℕ) (machine : ℕ) (options : LibraryOptionsView) (exports : Exports) → exports_in File file ≡ Ok (Some exports) → exports.machine ≡ machine
    → (why : Unmade) → IsUnmade exports [] options why → LacksDllLibrary file machine options (failure_unmade why)
lacks_members file machine options exports exported is unmade.NameNotUtf8 lacks = record { exports = exports; exported = exported; machine_is = is; holds = record { cause = unmade.NameNotUtf8; is = lacks; told_is = refl } }
lacks_members file machine options exports exported is (unmade.Unsaid (unsaid.NotUtf8 position)) lacks = record { exports = exports; exported = exported; machine_is = is; holds = record { cause = unmade.Unsaid (unsaid.NotUtf8 position); is = lacks; told_is = refl } }
lacks_members file machine options exports exported is (unmade.Unsaid (unsaid.LargeHint position)) lacks = record { exports = exports; exported = exported; machine_is = is; holds = record { cause = unmade.Unsaid (unsaid.LargeHint position); is = lacks; told_is = refl } }
lacks_members file machine options exports exported is (unmade.Unsaid (unsaid.LargeOrdinal ordinal)) lacks = record { exports = exports; exported = exported; machine_is = is; holds = record { cause = unmade.Unsaid (unsaid.LargeOrdinal ordinal); is = lacks; told_is = refl } }
lacks_members file machine options exports exported is (unmade.Unsaid unsaid.OutOfMemory) lacks = tt
lacks_members file machine options exports exported is unmade.NoName lacks = record { exports = exports; exported = exported; machine_is = is; holds = record { cause = unmade.NoName; is = lacks; told_is = refl } }
lacks_members file machine options exports exported is (unmade.Members fault) lacks = record { exports = exports; exported = exported; machine_is = is; holds = record { cause = unmade.Members fault; is = lacks; told_is = refl } }
lacks_members file machine options exports exported is unmade.OutOfMemory lacks = tt

-- the file exports nothing
pub lacks_exports : (file : List ℕ) (machine : ℕ) (options : LibraryOptionsView) (why : Failure) → LacksExports file why → LacksDllLibrary file machine options why
lacks_exports file machine options (failure.NotAnImage offset) lacks = lacks
lacks_exports file machine options failure.NoExportDirectory lacks = lacks
lacks_exports file machine options failure.OutOfMemory lacks = tt
lacks_exports file machine options why lacks = absurd lacks
