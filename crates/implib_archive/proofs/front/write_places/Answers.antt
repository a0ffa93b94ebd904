use Rattle.std.proofs.Common.{◌+◌, ◌≤◌, arith}
use Rattle.implib_archive.specs.Parts.{u32_le}
use Rattle.implib_archive.proofs.Appended.{pushes_nothing}
use Rattle.implib_archive.proofs.Behind.{begins_behind_parts, begins_emptied, behind_parts, behind_emptied, behind_err, behind_pushed}
use Rattle.implib_archive.proofs.Puts.{begins_nothing}
use Rattle.implib_archive.proofs.front.write_places.Goals as goal

pub loop-done-init : goal.loop-done-init
loop-done-init g c = behind_pushed _ (pushes_nothing _)

pub returns-in_err-push_places : goal.returns-in_err-push_places
returns-in_err-push_places g c =
    let lo = c.loop-done.done in
    let hi = c.loop-done.done + c.min.result in
    let ordered : lo ≤ hi = omega arith in
    behind_err c.from_residual.result _ _ _ _ _ c.from_residual.ensures.0
    (begins_behind_parts (u32_le) c.args.places.now lo hi ordered _ _ _ c.loop-done.invariant (begins_nothing _ _))

pub returns-in_err-put_piece : goal.returns-in_err-put_piece
returns-in_err-put_piece g c =
    let lo = c.loop-done.done in
    let hi = c.loop-done.done + c.min.result in
    let ordered : lo ≤ hi = omega arith in
    behind_err c.from_residual-in_err-put_piece.result _ _ _ _ _ c.from_residual-in_err-put_piece.ensures.0
    (begins_behind_parts (u32_le) c.args.places.now lo hi ordered _ _ _ c.loop-done.invariant (begins_emptied _ _ c.in_ok-push_places.ensures c.in_err-put_piece.ensures.written))

pub loop-done-preserved : goal.loop-done-preserved
loop-done-preserved g c =
    let lo = c.loop-done.done in
    let hi = c.loop-done.done + c.min.result in
    let ordered : lo ≤ hi = omega arith in
    behind_parts (u32_le) c.args.places.now lo hi ordered _ _ _ c.loop-done.invariant (behind_emptied _ _ c.in_ok-push_places.ensures c.in_ok-put_piece.ensures.written c.in_ok-put_piece.ensures.empty)
