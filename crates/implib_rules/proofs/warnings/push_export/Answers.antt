use Rattle.std.proofs.Common.{◌≡◌, ◌∙◌, ◌++◌, Bool, Some, None, ap, append-nil, is_some, length, map, refl, sym}
use Rattle.std.specs.Option.{option_map}
use Rattle.std.specs.Prelude.{slice_get}
use Rattle.std.proofs.lemmas.Option.{slice_get-map, slice_get_past, slice_get_read}
use Rattle.implib.specs.Definition.{export_view}
use Rattle.implib_rules.specs.Linked.{word_of}
use Rattle.implib_rules.specs.Options.{library_options_view}
use Rattle.implib_rules.specs.Firsts.{first_declared, first_of_ordinal}
use Rattle.implib_rules.specs.Warnings.{asked_warnings, if_export, lowered_notice, notice_view, ordinal_like_notice, ordinal_notice, repeat_notice, warning_view}
use Rattle.implib_rules.proofs.FirstExports.{is_some-map}
use Rattle.implib_rules.proofs.Warned.{said_as, said_then}
use Rattle.implib_rules.proofs.warnings.push_export.Goals as goal

pub returns-in_default : goal.returns-in_default
returns-in_default c =
    let exports = map export_view c.args.firsts.now.exports.now in
    let none : slice_get exports c.args.index ≡ None =
    slice_get-map export_view c.args.firsts.now.exports.now c.args.index
    ∙ ap (option_map export_view) (slice_get_past c.args.firsts.now.exports.now c.args.index c.in_default.ensures.lookup.3) in
    let old = map warning_view c.args.warnings.now.items in
    sym (append-nil old) ∙ ap (λ o. old ++ if_export (library_options_view c.args.options.now) exports c.args.index c.args.position o) (sym none)

pub returns : goal.returns
returns c =
    let exports = map export_view c.args.firsts.now.exports.now in
    let options = library_options_view c.args.options.now in
    let e = export_view c.in-Some.export.now in
    let index = c.args.index in
    let old = map warning_view c.args.warnings.now.items in
    let look = c.in-Some.ensures.lookup in
    let found : slice_get exports index ≡ Some e =
    slice_get-map export_view c.args.firsts.now.exports.now index
    ∙ ap (option_map export_view) (slice_get_read c.args.firsts.now.exports.now (length c.args.firsts.now.exports.now) index c.in-Some.export.now refl look.3.0 look.1) in
    let word : c.word_of-word.result.now ≡ word_of e = c.word_of-word.ensures in
    let first : c.copied-first.result ≡ first_declared (word_of e) exports =
    c.copied-first.ensures ∙ c.get-2.ensures.value ∙ c.args.firsts.now.are_declared c.word_of-word.result.now ∙ ap (λ w. first_declared w exports) word in
    let second : c.copied-first-2.result ≡ first_of_ordinal e.ordinal exports =
    c.copied-first-2.ensures ∙ c.get-3.ensures.value ∙ c.args.firsts.now.are_ordinals e.ordinal in
    let repeated = c.repeat_notice-repeated.ensures ∙ ap (λ f. repeat_notice e f index) first in
    let left_out = c.is_some.ensures ∙ sym (is_some-map notice_view c.repeat_notice-repeated.result) ∙ ap is_some repeated in
    let ordinal = c.ordinal_notice.ensures ∙ ap (λ f. ordinal_notice e.ordinal f index) second in
    let lowered = c.lowered_notice.ensures ∙ ap lowered_notice word in
    let like = c.ordinal_like_notice.ensures ∙ ap ordinal_like_notice word in
    let asked =
    c.in_ok-push_asked.ensures
    ∙ ap (λ (b : Bool). map warning_view c.push_notice-4.new.warnings.items ++ asked_warnings options exports b c.args.position e) left_out in
    said_then _ _ _ _ _
    (said_then _ _ _ _ _
    (said_then _ _ _ _ _
    (said_then _ _ _ _ _
    (said_as _ _ _ _ c.args.position repeated c.in_ok-push_notice.ensures)
    (said_as _ _ _ _ c.args.position ordinal c.in_ok-push_notice-2.ensures))
    (said_as _ _ _ _ c.args.position lowered c.in_ok-push_notice-3.ensures))
    (said_as _ _ _ _ c.args.position like c.in_ok-push_notice-4.ensures))
    asked
    ∙ ap (λ o. old ++ if_export options exports index c.args.position o) (sym found)
