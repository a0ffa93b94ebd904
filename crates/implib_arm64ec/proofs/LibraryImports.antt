-- The exports of a library, one after another.
use Rattle.std.proofs.Common.{◌≡◌, ℕ, ◌+◌, ◌<◌, ◌≤◌, false, List, [], ◌∷◌, ◌++◌, Option, None, drop, get_or, length, map, ap, ◌∙◌, append_assoc, append-nil, arith}
use Rattle.std.proofs.lemmas.List.{drop_all, drop_more, get_or-map, length-map}
use Rattle.implib.specs.Definition.{ExportView, export_view}
use Rattle.implib.specs.Import.{holds}
use Rattle.implib.specs.LibraryName.{NamesOfDll}
use Rattle.implib.specs.Members.MemberSpec.{MemberView}
use Rattle.implib.specs.declared.def.definition.ShortExport.{ShortExport}
use Rattle.implib_arm64ec.specs.LibraryImports.{IsFault, export_fault, exports_fault, first_of_both, import_of_export, imports_fault, imports_of}
use Rattle.implib_arm64ec.specs.declared.library.ImportsError.{ImportsError}
use Rattle.implib_arm64ec.specs.declared.library.ImportsError.TheVariants.{Invalid, OutOfMemory}
use Rattle.implib_arm64ec.specs.declared.library.ImportsFault.{ImportsFault}

-- one export more
module _ (dll : NamesOfDll) (exports : List ShortExport) (i : ℕ) (d : ShortExport) (within : i < length exports) where
  next_export : drop i (map export_view exports) ≡ export_view (get_or exports i d) ∷ drop (i + 1) (map export_view exports)
  next_export = grind (arith, length-map exports export_view, drop_more, get_or-map export_view exports i d (export_view d) within)

  pub imports_more : (made pushed : List MemberView) → pushed ≡ made ++ import_of_export dll (export_view (get_or exports i d))
      → pushed ++ imports_of dll (drop (i + 1) (map export_view exports)) ≡ made ++ imports_of dll (drop i (map export_view exports))
  unfolding imports_of
  imports_more made pushed e = grind (arith, append_assoc, next_export)

  pub faults_more : (fault : Option ImportsFault) → export_fault dll i (export_view (get_or exports i d)) ≡ fault
      → exports_fault dll i (drop i (map export_view exports)) ≡ first_of_both fault (exports_fault dll (i + 1) (drop (i + 1) (map export_view exports)))
  unfolding exports_fault
  faults_more fault e = grind (arith, next_export)

-- no export is left
module _ (dll : NamesOfDll) (exports : List ShortExport) (i : ℕ) (past : length exports ≤ i) where
  none_left : drop i (map export_view exports) ≡ []
  none_left = let count : length (map export_view exports) ≡ length exports = length-map exports export_view in drop_all i (map export_view exports) (omega (arith, count, past))

  pub imports_all : (made : List MemberView) → made ++ imports_of dll (drop i (map export_view exports)) ≡ made
  unfolding imports_of
  imports_all made = ap (λ t. made ++ imports_of dll t) none_left ∙ append-nil made

  pub faults_all : exports_fault dll i (drop i (map export_view exports)) ≡ None
  unfolding exports_fault
  faults_all = ap (exports_fault dll i) none_left

-- the names of the DLL are free of NULs
pub names_free : (dll : NamesOfDll) (exports : List ExportView) → holds 0 dll.linked ≡ false → holds 0 dll.text ≡ false → imports_fault dll exports ≡ exports_fault dll 0 exports
names_free dll exports linked text = grind arith

-- the error of the first export that is refused
pub first_error : (one later whole : Option ImportsFault) (refused : ImportsError) → whole ≡ first_of_both one later → IsFault one refused → IsFault whole refused
first_error one later whole (Invalid fault) e is = e ∙ ap (λ f. first_of_both f later) is
first_error one later whole (OutOfMemory failed) e is = tt
