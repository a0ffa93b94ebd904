use Rattle.std.proofs.Common.{sym, ◌∙◌, ap, arith}
use Rattle.implib.specs.Text.Token.{is_equal_sign}
use Rattle.implib.specs.Ascii.{begins}
use Rattle.implib.proofs.Text.Lexemes.{begins_with, boundary_after_first, boundary_after_second, TakesLexeme-equal, TakesLexeme-equals}
use Rattle.implib.proofs.def.lexer.equal_sign.Goals as goal

pub range_from-requires : goal.range_from-requires
range_from-requires c = λ _. boundary_after_first 61 c.args.text.now (omega arith) c.utf8.text (begins_with 61 c.args.text.now c.requires)

pub cut_token-requires : goal.cut_token-requires
cut_token-requires c =
    let again = ap (begins is_equal_sign) (sym c.range_from.ensures.value) ∙ sym c.begins_with.ensures ∙ c.if-begins_with.true in
    boundary_after_second 61 61 c.args.text.now (omega arith) c.utf8.text (begins_with 61 c.args.text.now c.requires) (begins_with 61 _ again)

pub cut_token-requires-else-begins_with : goal.cut_token-requires-else-begins_with
cut_token-requires-else-begins_with c = boundary_after_first 61 c.args.text.now (omega arith) c.utf8.text (begins_with 61 c.args.text.now c.requires)

pub returns-then-begins_with : goal.returns-then-begins_with
returns-then-begins_with c =
    let again = ap (begins is_equal_sign) (sym c.range_from.ensures.value) ∙ sym c.begins_with.ensures ∙ c.if-begins_with.true in
    TakesLexeme-equals _ _ _ _ (begins_with 61 c.args.text.now c.requires) again c.cut_token.ensures.token c.cut_token.ensures.after

pub returns-else-begins_with : goal.returns-else-begins_with
returns-else-begins_with c =
    let alone = ap (begins is_equal_sign) (sym c.range_from.ensures.value) ∙ sym c.begins_with.ensures ∙ c.if-begins_with.false in
    TakesLexeme-equal _ _ _ _ (begins_with 61 c.args.text.now c.requires) alone c.cut_token-else-begins_with.ensures.token c.cut_token-else-begins_with.ensures.after
