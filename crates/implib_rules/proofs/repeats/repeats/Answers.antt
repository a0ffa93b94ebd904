use Rattle.std.proofs.Common.{◌∙◌, ◌&&◌, ◌||◌, ap, bytes_eq, not, sym}
use Rattle.implib.specs.Definition.{export_view}
use Rattle.implib_rules.specs.Linked.{word_of}
use Rattle.implib_rules.specs.Views.{has_word}
use Rattle.implib_rules.proofs.LeftOut.{word_added}
use Rattle.implib_rules.proofs.repeats.repeats.Goals as goal

pub returns-clause-declared : goal.returns-clause-declared
returns-clause-declared c = λ word.
    let old = has_word c.args.declared.now word in
    let new = has_word c.insert.new.self word in
    let e = export_view c.args.export.now in
    word_added c.word_of.result.now word old new (c.in_ok-is_new.ensures.updates.0 (record { ref_ptr = (0, 0); now = word }))
    ∙ ap (λ k. old || bytes_eq word k) c.word_of.ensures
    ∙ ap (λ b. old || (not b && bytes_eq word (word_of e))) (sym c.if-export.false)
