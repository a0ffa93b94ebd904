use Rattle.std.proofs.Common.{arith, ◌≡◌, ◌∙◌, ◌++◌, ◌+◌, ◌<◌, ℕ, List, Bool, true, false, [], ◌∷◌, get_or, if◌then◌else◌, length, sym, append-nil, take}
use Rattle.implib_read.specs.MemberNames.{ends_from, goes_on}
use Rattle.implib_read.proofs.LineEnds.{ends_from-more, ends_none}
use Rattle.implib_read.proofs.lines.line_ends.Goals as goal
use Rattle.implib_read.proofs.lines.line_ends.Goals.{then-not-goes_on+in_ok-push, else-not-goes_on}

pub loop-place-init : goal.loop-place-init
loop-place-init c = c.new-ends.ensures.items ∙ sym ends_none

-- the ends before a place, with those at it
more : (text ends : List ℕ) (place : ℕ) (goes : Bool) → place < length text → ends ≡ ends_from 0 (take place text) → goes ≡ goes_on (get_or text place 0)
    → ends ++ (if goes then [] else place ∷ []) ≡ ends_from 0 (take (place + 1) text)
more text ends place goes within so is = grind (arith, ends_from-more)

pub loop-place-preserved : goal.loop-place-preserved
loop-place-preserved c =
    let l = c.loop-place in
    let text = c.args.text.now in
    elim c.if-not-goes_on.branch [
      | then-not-goes_on+in_ok-push w ↦ rw (w.ends-is, (w.in_ok-push.ensures {u = tt}).items, more text l.ends.items l.place false c.loop-place-test.true l.invariant (sym w.if-not-goes_on.true ∙ c.goes_on.ensures))
      | else-not-goes_on w ↦ rw (w.ends-is, ← (append-nil l.ends.items), more text l.ends.items l.place true c.loop-place-test.true l.invariant (sym w.if-not-goes_on.false ∙ c.goes_on.ensures))
    ]
