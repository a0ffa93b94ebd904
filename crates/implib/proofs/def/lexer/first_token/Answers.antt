use Rattle.std.proofs.Common.{sym, ◌∙◌, ap, get_or, inl, arith}
use Rattle.implib.proofs.Text.Lexemes.{boundary_after_first, first_is, TakesLexeme-comma}
use Rattle.implib.proofs.def.lexer.first_token.Goals as goal

pub cut_token-requires-in-44 : goal.cut_token-requires-in-44
cut_token-requires-in-44 c = boundary_after_first 44 c.args.text.now (omega arith) c.utf8.text (first_is 44 c.args.text.now (omega arith) (ap (λ l. get_or l 0 0) (sym c.as_bytes-bytes.ensures.value) ∙ c.in-44.is))

pub returns-in-44 : goal.returns-in-44
returns-in-44 c = inl (TakesLexeme-comma _ _ _ _ (first_is 44 c.args.text.now (omega arith) (ap (λ l. get_or l 0 0) (sym c.as_bytes-bytes.ensures.value) ∙ c.in-44.is)) c.cut_token-in-44.ensures.token c.cut_token-in-44.ensures.after)
