use Rattle.std.proofs.Common.{◌≡◌, ◌∙◌, false, cond, [], ◌∷◌, ◌++◌, ◌<◌, length, map, get_or, ap, sym, append-nil, arith}
use Rattle.implib_dll.specs.Views.{exports_view}
use Rattle.implib_compare.specs.DllCheck.Missing.{is_missing, is_unmarked, missing_from}
use Rattle.implib_compare.specs.DllCheck.Verdict.{ask_view}
use Rattle.implib_compare.proofs.DllCheck.Marks.{missing-more}
use Rattle.implib_compare.proofs.dll_check.lacking.missing.Goals.{then-is_missing+in_ok-push, else-is_missing}
use Rattle.implib_compare.proofs.dll_check.lacking.missing.Goals as goal

pub loop-index-init : goal.loop-index-init
unfolding missing_from
loop-index-init c = c.new-found.ensures.items

pub loop-index-preserved : goal.loop-index-preserved
loop-index-preserved c =
    let l = c.loop-index in
    let e = exports_view c.args.exports.now in
    let asks = map ask_view c.args.asks.now in
    let targets = c.args.exports.now.targets in
    let within : l.index < length targets.items = omega (arith, c.loop-index-test.true, c.len-index-end.ensures, targets.ok.0) in
    let marked = c.in_ok-reached.ensures.marked l.index (omega (arith, within, c.in_ok-reached.ensures.size)) in
    let is : c.is_missing.result ≡ is_missing e asks l.index =
    c.is_missing.ensures
    ∙ (ap (λ marks. is_unmarked e (get_or marks l.index false) l.index) c.deref.ensures.value
    ∙ ap (λ m. is_unmarked e m l.index) marked) in
    elim c.if-is_missing.branch [
      | then-is_missing+in_ok-push w ↦
          missing-more e asks targets.items l.index l.found.items c.if-is_missing.found.items c.is_missing.result within is l.invariant
          (ap (λ v. v.items) w.found-is ∙ (w.in_ok-push.ensures.items ∙ ap (λ b. l.found.items ++ cond b (l.index ∷ []) []) (sym w.if-is_missing.true)))
      | else-is_missing w ↦
          missing-more e asks targets.items l.index l.found.items c.if-is_missing.found.items c.is_missing.result within is l.invariant
          (ap (λ v. v.items) w.found-is ∙ (sym (append-nil l.found.items) ∙ ap (λ b. l.found.items ++ cond b (l.index ∷ []) []) (sym w.if-is_missing.false)))
    ]
