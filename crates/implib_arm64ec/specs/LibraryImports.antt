-- The short imports of a library, and which export has none.
use Rattle.std.specs.Prelude.{◌≡◌, ℕ, ◌+◌, ◌||◌, List, [], ◌∷◌, ◌++◌, Option, None, Some, Result}
use Rattle.std.specs.Prelude.{Ok, Err, if◌then◌else◌, nat_le}
use Rattle.implib.specs.Definition.{ExportView}
use Rattle.implib.specs.Import.{holds}
use Rattle.implib.specs.LibraryName.{NamesOfDll}
use Rattle.implib.specs.Members.MemberSpec.{MemberSpec, MemberView, file_size, member_of}
use Rattle.implib.specs.Members.NameRules.{holds_nul}
use Rattle.implib_arm64ec.specs.ShortImports.{spec_of}
use Rattle.implib_arm64ec.specs.declared.library.ImportsError.{ImportsError}
use Rattle.implib_arm64ec.specs.declared.library.ImportsError.TheVariants.{Invalid, OutOfMemory}
use Rattle.implib_arm64ec.specs.declared.library.ImportsFault.{ImportsFault}
use Rattle.implib_arm64ec.specs.declared.library.ImportsFault.TheVariants.{MemberTooLong}
use Rattle.implib_arm64ec.specs.declared.library.ImportsFault.TheVariants.{NulInDllName}
use Rattle.implib_arm64ec.specs.declared.library.ImportsFault.TheVariants.{NulInExport, Unreadable}

-- the member of a specification
abbrev pub members_made : Result MemberSpec ℕ → List MemberView
members_made (Ok spec) = member_of spec ∷ []
members_made (Err place) = []

-- the member of an export; a private one has none
abbrev pub import_of_export : NamesOfDll → ExportView → List MemberView
import_of_export dll e = if e.private then [] else members_made (spec_of dll e)

-- the members of exports, in order
unfoldable pub imports_of : NamesOfDll → List ExportView → List MemberView
imports_of dll [] = []
imports_of dll (e ∷ exports) = import_of_export dll e ++ imports_of dll exports

-- what is wrong with a specification of the export at an index: its name has no reading, or its
-- member has more bytes than a 32-bit number can hold
abbrev pub spec_fault : ℕ → Result MemberSpec ℕ → Option ImportsFault
spec_fault index (Ok spec) =
    if nat_le (file_size spec.contents) 0xFFFF_FFFF then None else Some (MemberTooLong index)
spec_fault index (Err place) = Some (Unreadable index place)

-- what is wrong with the export at an index; a private one is passed over
abbrev pub export_fault : NamesOfDll → ℕ → ExportView → Option ImportsFault
export_fault dll index e =
    if e.private then None else if holds_nul e then Some (NulInExport index)
    else spec_fault index (spec_of dll e)

-- the first of two answers
abbrev pub first_of_both : Option ImportsFault → Option ImportsFault → Option ImportsFault
first_of_both (Some fault) later = Some fault
first_of_both None later = later

-- what is wrong with the first export that is refused, the exports numbered from this index
unfoldable pub exports_fault : NamesOfDll → ℕ → List ExportView → Option ImportsFault
exports_fault dll index [] = None
exports_fault dll index (e ∷ exports) =
    first_of_both (export_fault dll index e) (exports_fault dll (index + 1) exports)

-- what is wrong with the names of a DLL, or with the first export that is refused
abbrev pub imports_fault : NamesOfDll → List ExportView → Option ImportsFault
imports_fault dll exports =
    if holds 0 dll.linked || holds 0 dll.text then Some NulInDllName
    else exports_fault dll 0 exports

-- an error is a failed allocation, or this fault
abbrev pub IsFault : Option ImportsFault → ImportsError → Type 0
IsFault expected (Invalid fault) = expected ≡ Some fault
IsFault expected (OutOfMemory refused) = Unit {0}
