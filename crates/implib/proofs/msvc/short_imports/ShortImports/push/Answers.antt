use Rattle.std.proofs.Common.{List, ◌||◌, ap, false, string_bytes}
use Rattle.std.proofs.lemmas.Result.{err_from_is_err_and}
use Rattle.implib.specs.Definition.{export_view}
use Rattle.implib.specs.LibraryName.{NamesOfDll}
use Rattle.implib.specs.Members.MemberSpec.{MemberView}
use Rattle.implib.proofs.Members.KeptImports.{all_kept, keeps_none, kept_more}
use Rattle.implib.proofs.msvc.short_imports.ShortImports.push.Goals as goal

pub returns-in_err-test_short_import-clause-pushed : goal.returns-in_err-test_short_import-clause-pushed
returns-in_err-test_short_import-clause-pushed c =
    let inside = c.self.inside in
    let p = err_from_is_err_and c.from_residual.result c.from_residual.ensures.1 in
    rw (p.1, p.2, ← c.self.view_is)
    (keeps_none inside.machine (record { linked = string_bytes inside.library; text = string_bytes inside.dll }) (export_view c.args.export.now) _
    c.in_err-test_short_import.field-0.0 (rw c.as_str.ensures.value at c.in_err-test_short_import.ensures.too_long))

pub invariant_of-self-2 : goal.invariant_of-self-2
invariant_of-self-2 c =
    let inside = c.self.inside in
    let dll : NamesOfDll = record { linked = string_bytes inside.library; text = string_bytes inside.dll } in
    all_kept inside.machine dll inside.imports.items c.push.new.self.items c.in_ok-kept.kept c.in_ok-push.ensures.items c.self.invariant
    (c.in_ok-kept.ensures.kept dll (rw c.as_str.ensures.value at (c.in_ok-test_short_import.ensures.fits inside.machine dll.linked)))

pub returns-clause-pushed : goal.returns-clause-pushed
returns-clause-pushed c =
    let inside = c.self.inside in
    let dll : NamesOfDll = record { linked = string_bytes inside.library; text = string_bytes inside.dll } in
    rw (← c.self.view_is)
    record {
      ok =
          ap (λ (members : List MemberView). record { machine = inside.machine; dll = dll; members = members })
          (kept_more inside.machine dll (export_view c.args.export.now) inside.imports.items c.push.new.self.items c.in_ok-kept.kept c.in_ok-push.ensures.items (c.in_ok-kept.ensures.view dll));
      fit = ap (λ b. b || false) (rw c.as_str.ensures.value at (c.in_ok-test_short_import.ensures.fits inside.machine dll.linked));
      too_long = tt;
    }
