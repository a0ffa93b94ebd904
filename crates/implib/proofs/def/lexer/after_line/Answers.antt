use Rattle.std.proofs.Common.{◌∙◌, arith}
use Rattle.std.proofs.lemmas.List.{drop_all}
use Rattle.std.proofs.lemmas.Str.Pattern.{split_parts}
use Rattle.implib.proofs.Text.Trivia.{PassesTrivia-comment, PassesTrivia-last_comment}
use Rattle.implib.proofs.def.lexer.after_line.Goals as goal

pub returns-in-Some-clause-passes : goal.returns-in-Some-clause-passes
returns-in-Some-clause-passes c =
    let parts = split_parts 10 c.args.comment.now c.split_once.result c.split_once.ensures.cases (omega arith) in
    let here = rw c.in-Some.is at parts in
    PassesTrivia-comment _ _ _ here.0 here.1

pub returns-in-None-clause-passes : goal.returns-in-None-clause-passes
returns-in-None-clause-passes c =
    let parts = split_parts 10 c.args.comment.now c.split_once.result c.split_once.ensures.cases (omega arith) in
    let here = rw c.in-None.is at parts in
    PassesTrivia-last_comment c.args.comment.now _ here (c.range_from.ensures.value ∙ drop_all _ c.args.comment.now (omega arith))
