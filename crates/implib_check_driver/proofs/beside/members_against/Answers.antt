use Rattle.std.proofs.Common.{◌∙◌, map, sym}
use Rattle.implib_dll.specs.Views.{exports_view}
use Rattle.implib_compare.specs.DllCheck.Folders.{folder_view}
use Rattle.implib_read.specs.ClassViews.{member_read_view}
use Rattle.implib_check_driver.specs.Answer.{answer_view}
use Rattle.implib_check_driver.specs.Calls.{check_view}
use Rattle.implib_check_driver.proofs.LoadedDlls.{against_through}
use Rattle.implib_check_driver.proofs.beside.members_against.Goals as goal

pub returns-then-is_searching-clause-held : goal.returns-then-is_searching-clause-held
returns-then-is_searching-clause-held g c = λ file known is.
    let searching = sym c.is_searching.ensures ∙ c.if-is_searching.true in
    against_through file (map folder_view c.args.folders.now) (check_view c.args.check.now) (exports_view c.args.exports) _
    (map member_read_view c.args.members.now) (answer_view c.in_ok-answer.answer) searching c.in_ok-names.ensures
    (c.in_ok-answer.ensures.held file (exports_view c.args.exports) (known searching) is)
