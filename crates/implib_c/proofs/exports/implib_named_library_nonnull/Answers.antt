use Rattle.std.proofs.Common.{subst}
use Rattle.implib_c_calls.specs.Given.{length_given, place_given, status_given}
use Rattle.implib_c_calls.specs.LibraryWith.{NamedLibraryAnswers}
use Rattle.implib_c_calls.specs.Status.{status_number}
use Rattle.implib_c.proofs.exports.implib_named_library_nonnull.Goals as goal

pub returns : goal.returns
returns c =
    let answer = c.named_library_into-answer.result in
    rw (c.tell.ensures.length, c.tell.ensures.place, c.tell.ensures.status)
    (subst
    (λ given. NamedLibraryAnswers c.args.text.now given c.args.buffer.now c.named_library_into-answer.new.buffer (length_given answer) (place_given answer) (status_number (status_given answer)))
    c.passed-arguments.ensures c.named_library_into-answer.ensures)
