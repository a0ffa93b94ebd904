use Rattle.std.proofs.Common.{◌∙◌, None, Some, ap, bytes_eq, if◌then◌else◌, sym}
use Rattle.std.specs.Option.{option_or}
use Rattle.std.specs.HashMap.{get_by}
use Rattle.implib.specs.Definition.{export_view}
use Rattle.implib_rules.specs.Linked.{is_named_import, naming_view}
use Rattle.implib_rules.proofs.FirstExports.{asking_named, asking_other}
use Rattle.implib_rules.proofs.firsts.first_asking.Goals as goal
use Rattle.implib_rules.proofs.firsts.first_asking.Goals.{then-branch+in_ok-note_word, else-branch}

pub loop-index-preserved : goal.loop-index-preserved
loop-index-preserved c = λ word.
    let items = c.args.exports.now in
    let machine = c.args.machine in
    let naming = naming_view c.args.naming in
    let index = c.loop-index.index in
    let e = c.index-exports-index.result in
    let same = ap (λ x. is_named_import machine naming (export_view x)) c.index-exports-index.is in
    elim c.if-branch.branch [
      | then-branch+in_ok-note_word w ↦
          ap (λ firsts. get_by (λ k. bytes_eq word k.now) firsts) w.firsts-is
          ∙ w.in_ok-note_word.ensures word
          ∙ ap (λ o. option_or o (if bytes_eq word w.asked_of-asked.result.now then Some index else None)) (c.loop-index.invariant word)
          ∙ asking_named machine naming word items index e w.asked_of-asked.result.now c.loop-index-test.true
          (sym same ∙ sym c.in_ok-is_named_import.ensures ∙ w.if-branch.true)
          (cc (w.asked_of-asked.ensures, w.word_of.ensures, w.as_str-target.ensures.value, c.index-exports-index.is))
      | else-branch w ↦
          ap (λ firsts. get_by (λ k. bytes_eq word k.now) firsts) w.firsts-is
          ∙ c.loop-index.invariant word
          ∙ asking_other machine naming word items index e c.loop-index-test.true
          (sym same ∙ sym c.in_ok-is_named_import.ensures ∙ w.if-branch.false)
    ]
