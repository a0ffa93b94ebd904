use Rattle.std.proofs.Common.{sym}
use Rattle.implib_check_driver.proofs.Answers.{members_of_library}
use Rattle.implib_check_driver.proofs.answer.library_of.Goals as goal

pub returns-in-Some-clause-read : goal.returns-in-Some-clause-read
returns-in-Some-clause-read c =
    let archive = sym (rw c.in-Some.is at c.in_ok-library.ensures.archive) in
    (archive, members_of_library c.args.bytes.now _ _ archive (sym (rw c.in-Some.is at c.in_ok-library.ensures.members)))
