use Rattle.std.proofs.Common.{◌∙◌, sym}
use Rattle.std.specs.Option.{option_map}
use Rattle.implib_read.specs.ArchiveViews.{archive_view}
use Rattle.implib_check_driver.specs.Calls.{check_view}
use Rattle.implib_check_driver.proofs.Answers.{checked_beside, checked_library}
use Rattle.implib_check_driver.proofs.checking.check_library.Goals as goal

pub returns-then-is_library : goal.returns-then-is_library
returns-then-is_library c =
    checked_library c.args.form.is_json (check_view c.args.check.now) c.args.bytes.now c.args.definition.now (option_map (λ text. text.now) c.args.native)
    (archive_view c.in-Ok.library.archive) _ (rw c.in-Ok.is at c.in_ok-library.ensures.read).0
    (sym c.is_library.ensures ∙ c.if-is_library.true) c.in_ok-answer.ensures

pub returns : goal.returns
returns c =
    checked_beside c.args.form.is_json (check_view c.args.check.now) c.args.bytes.now c.args.definition.now (option_map (λ text. text.now) c.args.native)
    (archive_view c.in-Ok.library.archive) _ (rw c.in-Ok.is at c.in_ok-library.ensures.read).0
    (sym c.is_library.ensures ∙ c.if-is_library.false) c.in_ok-answer-2.ensures
