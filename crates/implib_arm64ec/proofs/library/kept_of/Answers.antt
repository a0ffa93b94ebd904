use Rattle.std.proofs.Common.{Ok, ap, sym, ◌∙◌}
use Rattle.implib.specs.Definition.{export_view}
use Rattle.implib_arm64ec.proofs.KeptImports.{kept_by}
use Rattle.implib_arm64ec.proofs.library.kept_of.Goals as goal

pub returns-clause-kept : goal.returns-clause-kept
returns-clause-kept c =
    let kept = c.in_ok-kept.ensures {u = tt} in
    kept_by c.args.dll.now (export_view c.args.export.now) c.as_str-plain.result.now c.as_str-symbol.result.now _ c.import_type.result c.name_type.result c.in_ok-kept.kept
    (c.as_str-plain.ensures.value ∙ c.in_ok-unmarked.ensures {u = tt}) c.third_text-third.ensures kept.texts kept.ordinal kept.import_type kept.name_type
    c.import_type.ensures.number c.name_type.ensures.number
    ((c.in_ok-marked.ensures {u = tt}).ok ∙ ap Ok (sym c.as_str-symbol.ensures.value)) c.import_type.ensures.at_most c.name_type.ensures.at_most c.if-not-is_short.ensures
