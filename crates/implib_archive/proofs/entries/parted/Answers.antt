use Rattle.std.proofs.Common.{arith, ◌∙◌, [], append_assoc, ap}
use Rattle.std.proofs.lemmas.List.{take_all}
use Rattle.std.proofs.lemmas.List.Sorted.{IsPermutation-refl}
use Rattle.implib.proofs.Formats.Defaults.{no_text}
use Rattle.implib_archive.proofs.Ordered.{more_in_first, more_in_second, more_in_third, more_in_fourth}
use Rattle.implib_archive.proofs.entries.parted.Goals as goal
use Rattle.implib_archive.proofs.entries.parted.Goals.{then-starts_with+in_ok-push, else-starts_with+then-starts_with-2+in_ok-push-2}
use Rattle.implib_archive.proofs.entries.parted.Goals.{else-starts_with+else-starts_with-2+then-starts_with-3+in_ok-push-3}
use Rattle.implib_archive.proofs.entries.parted.Goals.{else-starts_with+else-starts_with-2+else-starts_with-3+in_ok-push-4}

pub loop-entry-init : goal.loop-entry-init
loop-entry-init c = rw (c.in_ok-parted.ensures.items, c.new-auxiliary.ensures.items, c.new-marked.ensures.items, c.in_ok-others.ensures.items) (IsPermutation-refl [])

pub loop-entry-preserved : goal.loop-entry-preserved
loop-entry-preserved c =
    let l = c.loop-entry in
    let xs = c.args.entries.now in
    let within = c.loop-entry-test.true in
    elim c.if-starts_with.branch [
      | then-starts_with+in_ok-push w ↦
          more_in_second xs l.parted.items l.auxiliary.items l.marked.items l.others.items l.entry-index (no_text, 0) within l.invariant
          (ap (λ v. v.items) w.parted-is) (ap (λ v. v.items) w.auxiliary-is ∙ w.in_ok-push.ensures.items) (ap (λ v. v.items) w.marked-is) (ap (λ v. v.items) w.others-is)
      | else-starts_with+then-starts_with-2+in_ok-push-2 w ↦
          more_in_first xs l.parted.items l.auxiliary.items l.marked.items l.others.items l.entry-index (no_text, 0) within l.invariant
          (ap (λ v. v.items) w.parted-is ∙ w.in_ok-push-2.ensures.items) (ap (λ v. v.items) w.auxiliary-is) (ap (λ v. v.items) w.marked-is) (ap (λ v. v.items) w.others-is)
      | else-starts_with+else-starts_with-2+then-starts_with-3+in_ok-push-3 w ↦
          more_in_third xs l.parted.items l.auxiliary.items l.marked.items l.others.items l.entry-index (no_text, 0) within l.invariant
          (ap (λ v. v.items) w.parted-is) (ap (λ v. v.items) w.auxiliary-is) (ap (λ v. v.items) w.marked-is ∙ w.in_ok-push-3.ensures.items) (ap (λ v. v.items) w.others-is)
      | else-starts_with+else-starts_with-2+else-starts_with-3+in_ok-push-4 w ↦
          more_in_fourth xs l.parted.items l.auxiliary.items l.marked.items l.others.items l.entry-index (no_text, 0) within l.invariant
          (ap (λ v. v.items) w.parted-is) (ap (λ v. v.items) w.auxiliary-is) (ap (λ v. v.items) w.marked-is) (ap (λ v. v.items) w.others-is ∙ w.in_ok-push-4.ensures.items)
    ]

pub returns : goal.returns
returns c = grind (arith, append_assoc, take_all, c.in_ok-append-3.ensures.items, c.in_ok-append-2.ensures.items, c.in_ok-append.ensures.items, c.loop-entry-test.false, c.loop-entry.invariant)
