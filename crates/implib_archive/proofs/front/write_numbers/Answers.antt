use Rattle.std.proofs.Common.{◌+◌, ◌-◌, ◌^◌, ◌<◌, ◌≤◌, arith}
use Rattle.implib_archive.specs.Parts.{u16_le}
use Rattle.implib_archive.proofs.Appended.{all_between, pushes_nothing}
use Rattle.implib_archive.proofs.Behind.{begins_behind_entries, begins_emptied, behind_entries, behind_emptied, behind_err, behind_pushed}
use Rattle.implib_archive.proofs.Puts.{begins_nothing}
use Rattle.implib_archive.proofs.front.write_numbers.Goals as goal

pub push_numbers-requires : goal.push_numbers-requires
push_numbers-requires g c = grind (arith, all_between (λ e. e.1 < 2 ^ 16) (c.loop-done.done + c.min.result - c.loop-done.done) c.loop-done.done c.args.entries.now c.requires, c.requires)

pub loop-done-init : goal.loop-done-init
loop-done-init g c = behind_pushed _ (pushes_nothing _)

pub returns-in_err-push_numbers : goal.returns-in_err-push_numbers
returns-in_err-push_numbers g c =
    let lo = c.loop-done.done in
    let hi = c.loop-done.done + c.min.result in
    let ordered : lo ≤ hi = omega arith in
    behind_err c.from_residual.result _ _ _ _ _ c.from_residual.ensures.0
    (begins_behind_entries (λ e. u16_le e.1) c.args.entries.now lo hi ordered _ _ _ c.loop-done.invariant (begins_nothing _ _))

pub returns-in_err-put_piece : goal.returns-in_err-put_piece
returns-in_err-put_piece g c =
    let lo = c.loop-done.done in
    let hi = c.loop-done.done + c.min.result in
    let ordered : lo ≤ hi = omega arith in
    behind_err c.from_residual-in_err-put_piece.result _ _ _ _ _ c.from_residual-in_err-put_piece.ensures.0
    (begins_behind_entries (λ e. u16_le e.1) c.args.entries.now lo hi ordered _ _ _ c.loop-done.invariant (begins_emptied _ _ c.in_ok-push_numbers.ensures c.in_err-put_piece.ensures.written))

pub loop-done-preserved : goal.loop-done-preserved
loop-done-preserved g c =
    let lo = c.loop-done.done in
    let hi = c.loop-done.done + c.min.result in
    let ordered : lo ≤ hi = omega arith in
    behind_entries (λ e. u16_le e.1) c.args.entries.now lo hi ordered _ _ _ c.loop-done.invariant (behind_emptied _ _ c.in_ok-push_numbers.ensures c.in_ok-put_piece.ensures.written c.in_ok-put_piece.ensures.empty)
