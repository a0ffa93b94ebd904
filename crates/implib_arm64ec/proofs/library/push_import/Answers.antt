use Rattle.std.proofs.Common.{sym, ◌∙◌}
use Rattle.std.proofs.lemmas.Result.{err_from_is_err_and}
use Rattle.implib.specs.Definition.{export_view}
use Rattle.implib_arm64ec.proofs.KeptImports.{fault_of}
use Rattle.implib_arm64ec.proofs.library.push_import.Goals as goal

pub returns-in_err-kept : goal.returns-in_err-kept
returns-in_err-kept c =
    let p = err_from_is_err_and c.from_residual.result c.from_residual.ensures.1 in
    rw (p.1, p.2) record {
      made = tt;
      kept = tt;
      accepted = tt;
      refused = λ linked. fault_of (record { linked = linked; text = c.args.dll.now }) c.args.index (export_view c.args.export.now) c.if-export.false c.in_err-kept.field-0.0
          (sym c.has_nul.ensures ∙ c.if-has_nul.false) (c.in_err-kept.ensures {u = tt}).refused;
    }
