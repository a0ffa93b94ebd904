use Rattle.std.proofs.Common.{◌≡◌, ◌∙◌, Bool, true, List, [], ap, map, refl, sym}
use Rattle.implib.specs.Definition.{export_view}
use Rattle.implib_rules.specs.Repeats.{left_out, repeats_behind, without_repeated}
use Rattle.implib_rules.specs.Views.{rise_from}
use Rattle.implib_rules.proofs.LeftOut.{none_left_out}
use Rattle.implib_rules.proofs.Rising.{all_stay}
use Rattle.implib_rules.proofs.repeats.leave_out_repeats.Goals as goal
use Rattle.implib_rules.proofs.repeats.leave_out_repeats.Goals.{then-contains, else-contains}

pub returns-then-words_rise : goal.returns-then-words_rise
returns-then-words_rise c =
    let exports = map export_view c.args.exports.now.items in
    let rises : rise_from [] exports ≡ true =
    ap (λ items. rise_from [] (map export_view items)) (sym c.as_slice.ensures.value) ∙ sym c.words_rise.ensures ∙ c.if-words_rise.true in
    record { ok = sym (all_stay exports rises) }

pub returns : goal.returns
unfolding without_repeated
returns c =
    let exports = map export_view c.args.exports.now.items in
    let flags : c.in_ok-flags.flags.items ≡ repeats_behind [] exports =
    c.in_ok-flags.ensures ∙ ap (λ items. repeats_behind [] (map export_view items)) c.as_slice-2.ensures.value in
    record {
      ok = elim c.if-contains.branch [
        | then-contains w ↦
            ap (λ v. map export_view v.items) w.exports-is
            ∙ w.leave_out.ensures
            ∙ ap (λ (f : List Bool). left_out f exports) (w.as_slice-then-contains.ensures.value ∙ flags)
        | else-contains w ↦
            let unset = sym c.contains.ensures.value ∙ w.if-contains.false in
            ap (λ v. map export_view v.items) w.exports-is
            ∙ sym (none_left_out _ refl c.deref.result.now exports unset)
            ∙ ap (λ (f : List Bool). left_out f exports) (c.deref.ensures.value ∙ flags)
      ];
    }
