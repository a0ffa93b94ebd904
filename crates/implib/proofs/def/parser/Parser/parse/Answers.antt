use Rattle.std.proofs.lemmas.Result.{err_from_is_err_and}
use Rattle.implib.proofs.Text.ParserAnswers.{answer_invalid}
use Rattle.implib.proofs.def.parser.Parser.parse.Goals as goal

pub returns-in_err-read-clause-refused : goal.returns-in_err-read-clause-refused
returns-in_err-read-clause-refused c =
    let p = err_from_is_err_and c.from_residual.result c.from_residual.ensures.1 in
    rw (p.1, p.2) (answer_invalid c.args.self c.in_err-read.field-0.0 c.in_err-read.ensures.refused)
