use Rattle.std.proofs.Common.{ℕ, List, None, Option, Some, map, subst}
use Rattle.std.specs.String.{string_bytes}
use Rattle.implib_check_driver.specs.Answer.{answer_view}
use Rattle.implib_check_driver.specs.Answers.{IsAnswerWith, native_seen}
use Rattle.implib_check_driver.specs.Calls.{check_view}
use Rattle.implib_check_driver.specs.Through.{Through, through}
use Rattle.implib_compare.specs.DllCheck.Folders.{folder_view, listings}
use Rattle.implib_check_driver.proofs.Answers.{of_three}
use Rattle.implib_check_driver.proofs.BesideDlls.{native_none, native_read}
use Rattle.implib_check_driver.proofs.LoadedDlls.{through_same}
use Rattle.implib_check_driver.proofs.checking.check.Goals as goal

pub returns-in_default-clause-answered : goal.returns-in_default-clause-answered
returns-in_default-clause-answered g c = λ file names known.
    let check = check_view c.args.check.now in
    let seen = g.S.Shelf.seen c.args.shelf.now in
    let folders = listings names (map string_bytes c.args.check.now.folders.now) in
    let answer = answer_view c.in_ok-answer.answer in
    let first = c.as_slice-first.result.now in
    let second = c.as_slice-second.result.now in
    let json = c.args.form.is_json in
    of_three (λ f d n. IsAnswerWith json (through file folders check) check f d n answer) _ _ (native_seen seen check.native) first second None
    (rw c.as_slice-first.ensures.value c.in_ok-bytes.ensures.read)
    (rw c.as_slice-second.ensures.value c.in_ok-definition.ensures.read)
    (native_none seen check.native (rw c.in_default.is))
    (subst (λ (t : Through). IsAnswerWith json t check first second None answer)
    (through_same file (map folder_view c.as_slice-listed.result.now) folders check
    (λ searching. rw c.as_slice-listed.ensures.value (c.in_ok-folders.ensures.listed names (known.folders searching))))
    (c.in_ok-answer.ensures.held file known.files))

pub returns-clause-answered : goal.returns-clause-answered
returns-clause-answered g c = λ file names known.
    let check = check_view c.args.check.now in
    let seen = g.S.Shelf.seen c.args.shelf.now in
    let folders = listings names (map string_bytes c.args.check.now.folders.now) in
    let answer = answer_view c.in_ok-answer-2.answer in
    let first = c.as_slice-first.result.now in
    let second = c.as_slice-second.result.now in
    let native : Option (List ℕ) = Some c.as_slice.result.now in
    let json = c.args.form.is_json in
    of_three (λ f d n. IsAnswerWith json (through file folders check) check f d n answer) _ _ (native_seen seen check.native) first second native
    (rw c.as_slice-first.ensures.value c.in_ok-bytes.ensures.read)
    (rw c.as_slice-second.ensures.value c.in_ok-definition.ensures.read)
    (native_read seen check.native c.in-Some.path.now c.as_slice.result.now (rw c.in-Some.is)
    (rw c.as_slice.ensures.value c.in_ok-native.ensures.read))
    (subst (λ (t : Through). IsAnswerWith json t check first second native answer)
    (through_same file (map folder_view c.as_slice-listed.result.now) folders check
    (λ searching. rw c.as_slice-listed.ensures.value (c.in_ok-folders.ensures.listed names (known.folders searching))))
    (c.in_ok-answer-2.ensures.held file known.files))
