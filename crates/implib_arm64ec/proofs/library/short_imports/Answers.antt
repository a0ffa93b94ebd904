use Rattle.std.proofs.Common.{◌+◌, ◌<◌, ◌∙◌, None, ap, arith, drop, length, map, sym}
use Rattle.std.proofs.lemmas.Result.{err_from_is_err_and}
use Rattle.implib.specs.Definition.{export_view}
use Rattle.implib.specs.LibraryName.{NamesOfDll}
use Rattle.implib_arm64ec.specs.KeptImports.{kept_view}
use Rattle.implib_arm64ec.specs.LibraryImports.{export_fault, exports_fault, imports_fault}
use Rattle.implib_arm64ec.proofs.LibraryImports.{faults_all, faults_more, first_error, imports_all, imports_more, names_free}
use Rattle.implib_arm64ec.proofs.library.short_imports.Goals as goal

pub returns-in_err-push_import-clause-refused : goal.returns-in_err-push_import-clause-refused
returns-in_err-push_import-clause-refused c =
    let dll : NamesOfDll = record { linked = c.args.library.now; text = c.args.dll.now } in
    let exports = c.args.exports.now in
    let i = c.loop-index.index in
    let d = c.index-exports-index.result in
    let one = export_fault dll i (export_view d) in
    let same = ap (λ x. export_fault dll i (export_view x)) c.index-exports-index.is in
    let later = exports_fault dll (i + 1) (drop (i + 1) (map export_view exports)) in
    let within : i < length exports = omega (arith, c.loop-index-test.true) in
    let whole = names_free dll (map export_view exports) (sym c.holds_nul.ensures ∙ c.if-holds_nul.false) (sym c.holds_nul-else-holds_nul.ensures ∙ c.if-holds_nul-2.false)
    ∙ (sym c.loop-index.invariant.passed ∙ faults_more dll exports i d within one (sym same)) in
    let p = err_from_is_err_and c.from_residual-in_err-push_import.result c.from_residual-in_err-push_import.ensures.1 in
    rw (p.1, p.2) (first_error one later (imports_fault dll (map export_view exports)) _ whole (c.in_err-push_import.ensures.refused dll.linked))

pub loop-index-preserved : goal.loop-index-preserved
loop-index-preserved c =
    let dll : NamesOfDll = record { linked = c.args.library.now; text = c.args.dll.now } in
    let exports = c.args.exports.now in
    let i = c.loop-index.index in
    let d = c.index-exports-index.result in
    let within : i < length exports = omega (arith, c.loop-index-test.true) in
    let before = map (kept_view dll) c.loop-index.imports.items in
    record {
      made = grind (arith, imports_more, c.in_ok-push_import.ensures.made, c.index-exports-index.is, c.loop-index.invariant.made);
      kept = c.in_ok-push_import.ensures.kept c.loop-index.invariant.kept;
      passed = sym (faults_more dll exports i d within None (sym (ap (λ x. export_fault dll i (export_view x)) c.index-exports-index.is) ∙ c.in_ok-push_import.ensures.accepted dll.linked)) ∙ c.loop-index.invariant.passed;
    }

pub invariant_of-result : goal.invariant_of-result
invariant_of-result c = grind (arith, c.in_ok-text.ensures, c.loop-index.invariant.kept)

pub returns-clause-made : goal.returns-clause-made
returns-clause-made c = grind (arith, imports_all, c.loop-index-test.false, c.in_ok-linked.ensures, c.in_ok-text.ensures, c.loop-index.invariant.made)

pub returns-clause-accepted : goal.returns-clause-accepted
returns-clause-accepted c = grind (arith, names_free, faults_all, c.loop-index-test.false, c.holds_nul.ensures, c.if-holds_nul.false, c.holds_nul-else-holds_nul.ensures, c.if-holds_nul-2.false, c.loop-index.invariant.passed)
