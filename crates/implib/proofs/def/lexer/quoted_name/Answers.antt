use Rattle.std.proofs.Common.{sym, ◌∙◌, ap, ◌∷◌, arith}
use Rattle.std.proofs.lemmas.List.{drop_all}
use Rattle.std.proofs.lemmas.Str.Pattern.{split_parts}
use Rattle.implib.proofs.Text.Lexemes.{begins_with, boundary_after_first, TakesLexeme-quoted, TakesLexeme-unclosed}
use Rattle.implib.proofs.def.lexer.quoted_name.Goals as goal

pub range_from-inside-requires : goal.range_from-inside-requires
range_from-inside-requires c = λ _. boundary_after_first 34 c.args.text.now (omega arith) c.utf8.text (begins_with 34 c.args.text.now c.requires.quote)

pub returns-in-Some : goal.returns-in-Some
returns-in-Some c =
    let inside = c.range_from-inside.result.now in
    let parts = split_parts 34 inside c.split_once.result c.split_once.ensures.cases (omega arith) in
    let here = rw c.in-Some.is at parts in
    TakesLexeme-quoted _ inside _ _ _ _ (begins_with 34 c.args.text.now c.requires.quote ∙ ap (λ l. 34 ∷ l) (sym c.range_from-inside.ensures.value)) here.0 here.1 c.name_token.ensures

pub returns-in-None : goal.returns-in-None
returns-in-None c =
    let inside = c.range_from-inside.result.now in
    let parts = split_parts 34 inside c.split_once.result c.split_once.ensures.cases (omega arith) in
    let here = rw c.in-None.is at parts in
    TakesLexeme-unclosed _ inside _ _ _ (begins_with 34 c.args.text.now c.requires.quote ∙ ap (λ l. 34 ∷ l) (sym c.range_from-inside.ensures.value)) here (c.range_from.ensures.value ∙ drop_all _ inside (omega arith)) c.empty_name.ensures
