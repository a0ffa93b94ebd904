-- The short imports of t.dll, and which export has none, worked out apart from the program.
use Rattle.std.specs.Prelude.{◌≡◌, true, [], ◌∷◌, None, Some, codes, map}
use Rattle.implib.specs.Definition.{ExportView, empty_export}
use Rattle.implib_arm64ec.specs.LibraryImports.{imports_fault, imports_of}
use Rattle.implib_arm64ec.specs.WorkedImports.{t_dll}
use Rattle.implib_arm64ec.specs.declared.library.ImportsFault.TheVariants.{NulInDllName}
use Rattle.implib_arm64ec.specs.declared.library.ImportsFault.TheVariants.{NulInExport, Unreadable}

-- `f`
abbrev pub function : ExportView
function = record empty_export { name = codes "f" }

-- `d DATA`
abbrev pub variable : ExportView
variable = record empty_export { name = codes "d"; is_data = true }

-- `p PRIVATE`, and a private export whose name holds a NUL
abbrev pub hidden : ExportView
hidden = record empty_export { name = codes "p"; private = true }

abbrev pub hidden_nul : ExportView
hidden_nul = record empty_export { name = 0 ∷ []; private = true }

-- `?bad`
abbrev pub no_reading : ExportView
no_reading = record empty_export { name = codes "?bad" }

-- `g EXPORTAS` with a NUL
abbrev pub asked_nul : ExportView
asked_nul = record empty_export { name = codes "g"; asked_name = Some (0 ∷ []) }

-- Private exports are passed over, and count. The first export that is refused is told.
pub record WorkedLibraryImports : Type 0 where
  pub symbols : map (λ m. m.symbols) (imports_of t_dll (function ∷ hidden ∷ variable ∷ []))
      ≡ (codes "__imp_f" ∷ codes "f" ∷ codes "__imp_aux_f" ∷ codes "#f" ∷ [])
      ∷ (codes "__imp_d" ∷ []) ∷ []
  pub none : imports_fault t_dll (function ∷ hidden_nul ∷ variable ∷ []) ≡ None
  pub nul_in_dll : imports_fault (record t_dll { text = 116 ∷ 0 ∷ [] }) (no_reading ∷ [])
      ≡ Some NulInDllName
  pub nul_in_library : imports_fault (record t_dll { linked = 0 ∷ [] }) [] ≡ Some NulInDllName
  pub nul_in_export : imports_fault t_dll (function ∷ asked_nul ∷ no_reading ∷ [])
      ≡ Some (NulInExport 1)
  pub first_fault : imports_fault t_dll (hidden ∷ no_reading ∷ asked_nul ∷ [])
      ≡ Some (Unreadable 1 4)
