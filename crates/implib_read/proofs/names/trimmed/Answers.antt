use Rattle.std.proofs.Common.{◌≡◌, ◌∙◌, take, sym, ap, rules, arith}
use Rattle.implib_archive.specs.Reader.{trimmed}
use Rattle.implib_read.proofs.FieldNames.{trimmed-none, trimmed-step, trimmed-stop}
use Rattle.implib_read.proofs.names.trimmed.Goals.{then-loop-end-test+else-text-end-eq32, else-loop-end-test}
use Rattle.implib_read.proofs.names.trimmed.Goals as goal

pub loop-end-preserved : goal.loop-end-preserved
loop-end-preserved c = grind (arith, trimmed-step, c.loop-end-test.true, c.loop-end.invariant.1, c.loop-end.invariant.0)

pub returns : goal.returns
returns c = elim c.loop-end-test.branch [
  | then-loop-end-test+else-text-end-eq32 w ↦ grind (arith, trimmed-stop, c.loop-end.invariant.0, c.loop-end.invariant.1)
  | else-loop-end-test w ↦
      let none : c.loop-end.end ≡ 0 = search (rules, arith) in
      sym (c.loop-end.invariant.0 ∙ (ap (λ k. trimmed (take k c.args.text.now)) none ∙ (trimmed-none c.args.text.now ∙ ap (λ k. take k c.args.text.now) (sym none))))
]
