-- What `implib_exports` answers: what a DLL exports, by the bytes of its file, as `implib_dll` has
-- it.
use Rattle.std.specs.Prelude.{◌≡◌, ℕ, List, None, Some, Ok, Err}
use Rattle.implib_dll.specs.Exports.{Exports, exports_in}
use Rattle.implib_dll.specs.Views.{row_view}
use Rattle.implib_dll.specs.declared.fault.Fault.{Fault}
use Rattle.implib_dll.specs.declared.rows.Row.{Row}
use Rattle.implib_dll.specs.declared.section.Layout.TheVariants.{File}
use Rattle.implib_c_calls.specs.declared.outcome.Failure.{Failure}
use Rattle.implib_c_calls.specs.declared.outcome.Failure.TheVariants.{NoExportDirectory}
use Rattle.implib_c_calls.specs.declared.outcome.Failure.TheVariants.{NotAnImage, OutOfMemory}
use Rattle.implib_c_calls.specs.DllExports.{DllFits, DllRows, ExportRow, dll_in, dll_rows}
use Rattle.implib_c_calls.specs.DllExports.{encoded_dll, export_row}
use Rattle.implib_c_calls.specs.Given.{Encodes, EncodesSome, Leaves}

-- this is what the DLL in a file exports
pub record AreExports (file : List ℕ) (rows : DllRows) : Type 0 where
  pub found : Exports
  pub has : exports_in File file ≡ Ok (Some found)
  pub is : rows ≡ dll_rows found

-- the file is no image, for its first fault, at this offset
pub record IsNoImage (file : List ℕ) (offset : ℕ) : Type 0 where
  pub fault : Fault
  pub refused : exports_in File file ≡ Err fault
  pub place : offset ≡ fault.offset

-- a file exports nothing: it is no image, or has no export directory, or memory was refused
abbrev pub LacksExports : List ℕ → Failure → Type 0
LacksExports file OutOfMemory = Unit {0}
LacksExports file (NotAnImage offset) = IsNoImage file offset
LacksExports file NoExportDirectory = exports_in File file ≡ Ok None
LacksExports file _ = ⊥

-- what a call leaves: the encoding of what is exported, or why there is none
abbrev pub ExportsAnswers : List ℕ → List ℕ → List ℕ → ℕ → ℕ → ℕ → Type 0
ExportsAnswers file = Leaves (Encodes encoded_dll dll_in (AreExports file)) (LacksExports file)

-- Views: what the functions below `implib_exports` give each other. No promise cites them.

-- the row of an ordinal that is read
abbrev pub export_row_found : Row → ExportRow
export_row_found r = export_row (row_view r)

-- these are the bytes of an encoding of what the DLL in a file exports
abbrev pub EncodesExports : List ℕ → List ℕ → Type 0
EncodesExports file = EncodesSome encoded_dll DllFits (AreExports file)
