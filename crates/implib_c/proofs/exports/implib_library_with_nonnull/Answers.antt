use Rattle.std.proofs.Common.{subst}
use Rattle.implib_c_calls.specs.Given.{length_given, place_given, status_given}
use Rattle.implib_c_calls.specs.LibraryWith.{LibraryWithAnswers}
use Rattle.implib_c_calls.specs.Status.{status_number}
use Rattle.implib_c.proofs.exports.implib_library_with_nonnull.Goals as goal

pub returns : goal.returns
returns c =
    let answer = c.library_with_into-answer.result in
    rw (c.tell.ensures.length, c.tell.ensures.place, c.tell.ensures.status)
    (subst
    (λ given. LibraryWithAnswers c.args.text.now given c.args.buffer.now c.library_with_into-answer.new.buffer (length_given answer) (place_given answer) (status_number (status_given answer)))
    c.passed-arguments.ensures c.library_with_into-answer.ensures)
