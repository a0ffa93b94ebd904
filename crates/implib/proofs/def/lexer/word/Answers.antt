use Rattle.std.proofs.Common.{ap, subst}
use Rattle.implib.specs.Text.Token.{IsWordEnd}
use Rattle.implib.proofs.Text.Lexemes.{TakesLexeme-word}
use Rattle.implib.proofs.def.lexer.word.Goals as goal

pub returns : goal.returns
returns c =
    let is_end = subst (λ l. IsWordEnd l 0 c.word_end.result) c.as_bytes.ensures.value c.word_end.ensures in
    TakesLexeme-word _ _ _ c.trim_end-value.result.now _ _ _ c.requires is_end c.split_at.ensures.front c.split_at.ensures.back c.trim_end-value.ensures.trim
    (ap (λ k. record { kind = k; value = c.trim_end-value.result.now; at = c.args.at }) c.word_kind-kind.ensures)
