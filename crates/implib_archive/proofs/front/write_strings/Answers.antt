use Rattle.std.proofs.Common.{◌++◌, ◌∷◌, [], ◌≤◌, arith}
use Rattle.implib_archive.specs.Archive.{strings_of}
use Rattle.implib_archive.proofs.Appended.{pushes_nothing}
use Rattle.implib_archive.proofs.Behind.{begins_behind_entries, begins_emptied, behind_entries, behind_emptied, behind_err, behind_pushed}
use Rattle.implib_archive.proofs.Puts.{begins_nothing}
use Rattle.implib_archive.proofs.front.write_strings.Goals as goal

pub loop-done-init : goal.loop-done-init
unfolding strings_of
loop-done-init g c = behind_pushed _ (pushes_nothing _)

pub returns-in_err-push_strings : goal.returns-in_err-push_strings
unfolding strings_of
returns-in_err-push_strings g c =
    let lo = c.loop-done.done in
    let hi = c.end_of_piece-end.result in
    let ordered : lo ≤ hi = omega (arith, c.end_of_piece-end.ensures.some) in
    behind_err c.from_residual.result _ _ _ _ _ c.from_residual.ensures.0
    (begins_behind_entries (λ e. e.0 ++ 0 ∷ []) c.args.entries.now lo hi ordered _ _ _ c.loop-done.invariant (begins_nothing _ _))

pub returns-in_err-put_piece : goal.returns-in_err-put_piece
unfolding strings_of
returns-in_err-put_piece g c =
    let lo = c.loop-done.done in
    let hi = c.end_of_piece-end.result in
    let ordered : lo ≤ hi = omega (arith, c.end_of_piece-end.ensures.some) in
    behind_err c.from_residual-in_err-put_piece.result _ _ _ _ _ c.from_residual-in_err-put_piece.ensures.0
    (begins_behind_entries (λ e. e.0 ++ 0 ∷ []) c.args.entries.now lo hi ordered _ _ _ c.loop-done.invariant (begins_emptied _ _ c.in_ok-push_strings.ensures c.in_err-put_piece.ensures.written))

pub loop-done-preserved : goal.loop-done-preserved
unfolding strings_of
loop-done-preserved g c =
    let lo = c.loop-done.done in
    let hi = c.end_of_piece-end.result in
    let ordered : lo ≤ hi = omega (arith, c.end_of_piece-end.ensures.some) in
    behind_entries (λ e. e.0 ++ 0 ∷ []) c.args.entries.now lo hi ordered _ _ _ c.loop-done.invariant (behind_emptied _ _ c.in_ok-push_strings.ensures c.in_ok-put_piece.ensures.written c.in_ok-put_piece.ensures.empty)
