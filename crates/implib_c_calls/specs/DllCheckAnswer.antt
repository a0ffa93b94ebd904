-- What `implib_check_dll` answers: what the imports of a library come to in a DLL, as
-- `implib_compare` has it.
use Rattle.std.specs.Prelude.{◌≡◌, ℕ, List, None, Some, Ok}
use Rattle.std.specs.Option.{IsSome}
use Rattle.implib_dll.specs.Exports.{Exports, exports_in}
use Rattle.implib_dll.specs.declared.section.Layout.TheVariants.{File}
use Rattle.implib_read.specs.Classes.{MemberRead, library_in}
use Rattle.implib_c_calls.specs.declared.outcome.Failure.{Failure}
use Rattle.implib_c_calls.specs.declared.outcome.Failure.TheVariants.{NotALibrary, OutOfMemory}
use Rattle.implib_c_calls.specs.DllCheck.{DllTold, DllToldFits, dll_told, dll_told_in}
use Rattle.implib_c_calls.specs.DllCheck.{encoded_dll_told}
use Rattle.implib_c_calls.specs.DllExportsAnswer.{LacksExports}
use Rattle.implib_c_calls.specs.Given.{Encodes, EncodesSome, Leaves}

-- This is told of a library beside a DLL of this name, or of its own where the name is empty.
pub record IsTold (library dll name : List ℕ) (told : DllTold) : Type 0 where
  pub members : List MemberRead
  pub read : library_in library ≡ Some members
  pub exports : Exports
  pub exported : exports_in File dll ≡ Ok (Some exports)
  pub is : told ≡ dll_told exports name members

-- nothing is told: the library is no archive, memory was refused, or the DLL exports nothing
abbrev pub LacksDllCheck : List ℕ → List ℕ → Failure → Type 0
LacksDllCheck library dll NotALibrary = library_in library ≡ None
LacksDllCheck library dll OutOfMemory = Unit {0}
LacksDllCheck library dll why = IsSome (library_in library) × LacksExports dll why

-- what a call leaves: the encoding of what is told, or why there is none
abbrev pub DllCheckAnswers : List ℕ → List ℕ → List ℕ → List ℕ → List ℕ → ℕ → ℕ → ℕ → Type 0
DllCheckAnswers library dll name =
    Leaves (Encodes encoded_dll_told dll_told_in (IsTold library dll name))
    (LacksDllCheck library dll)

-- View: these are the bytes of an encoding of what is told of a library beside a DLL.
abbrev pub EncodesDllCheck : List ℕ → List ℕ → List ℕ → List ℕ → Type 0
EncodesDllCheck library dll name =
    EncodesSome encoded_dll_told DllToldFits (IsTold library dll name)
