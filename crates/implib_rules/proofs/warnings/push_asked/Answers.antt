use Rattle.std.proofs.Common.{◌≡◌, ◌∙◌, ◌++◌, ap, map, sym}
use Rattle.implib.specs.Definition.{export_view}
use Rattle.implib_rules.specs.Firsts.{first_of_word}
use Rattle.implib_rules.specs.Options.{library_options_view}
use Rattle.implib_rules.specs.Warnings.{asked_warnings, target_notice, warning_view}
use Rattle.implib_rules.proofs.Warned.{said_as, said_then}
use Rattle.implib_rules.proofs.warnings.push_asked.Goals as goal

pub returns : goal.returns
returns c =
    let exports = map export_view c.args.firsts.now.exports.now in
    let options = library_options_view c.args.options.now in
    let e = export_view c.args.export.now in
    let first : c.copied-first.result ≡ first_of_word e.alias_target exports =
    c.copied-first.ensures ∙ c.get.ensures.value ∙ c.args.firsts.now.are_words c.as_str.result.now ∙ ap (λ w. first_of_word w exports) c.as_str.ensures.value in
    let target = c.target_notice.ensures ∙ ap (target_notice options.flavor e) first in
    said_then _ _ _ _ _
    (said_then _ _ _ _ _
    (said_as _ _ _ _ c.args.position c.stdcall_notice.ensures c.in_ok-push_notice.ensures)
    (said_as _ _ _ _ c.args.position target c.in_ok-push_notice-2.ensures))
    (said_as _ _ _ _ c.args.position c.in_ok-weak.ensures c.in_ok-push_notice-3.ensures)
    ∙ ap (λ left_out. map warning_view c.args.warnings.now.items ++ asked_warnings options exports left_out c.args.position e) (sym c.if-is_left_out.false)
