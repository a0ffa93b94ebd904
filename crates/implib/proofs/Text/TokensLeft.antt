-- The tokens that a lexer has still to give, over one call of `next`.
use Rattle.std.proofs.Common.{◌≡◌, ◌≢◌, ℕ, ◌-◌, ◌≤◌, Bool, true, false, List, [], ◌∷◌, ◌++◌, ⊎_elim, length, refl, sym, ap, subst, ◌∙◌, arith, length-append}
use Rattle.std.specs.Bool.{Decides}
use Rattle.std.specs.List.{AllByRecursion}
use Rattle.std.specs.Str.{IsUtf8, trim_end}
use Rattle.implib.specs.declared.def.lexer.TokenKind.{TokenKind}
use Rattle.implib.specs.declared.def.lexer.TokenKind.TheVariants as kind
use Rattle.implib.specs.Text.Token.{eof, lexeme_text, text_of, tokens_of_lexeme, tokens_of, Blank, Comment, CommaSign, EachIsLexeme, EqualSign, EqualSigns, IsEnd, LastComment, Lexeme, Quoted, TokenView, IsLexemeBefore, Unclosed, Word}
use Rattle.implib.specs.Views.Scanner.{lexemes_in, tokens_left, IsTrivia, PassesTrivia, TakesToken}
use Rattle.implib.proofs.Text.Scanner.{division, Divides-lexemes_in, utf8_after_lexeme}
use Rattle.implib.proofs.Text.Token.{kind_of_word_not_eof}

-- a lexeme in front of a text is found first
lexemes_in_lexeme : (lexeme : Lexeme) (after : List ℕ) → IsLexemeBefore lexeme after → IsUtf8 (lexeme_text lexeme ++ after) → lexemes_in (lexeme_text lexeme ++ after) ≡ lexeme ∷ lexemes_in after
lexemes_in_lexeme lexeme after located utf8 =
    let rest_utf8 = utf8_after_lexeme lexeme after located utf8 in
    let d = division after rest_utf8 in
    let e = d.divides.text_is in
    Divides-lexemes_in (lexeme_text lexeme ++ after) (lexeme ∷ d.lexemes) d.end utf8 (record {
      text_is = ap (λ l. lexeme_text lexeme ++ l) e;
      each_is_lexeme = (subst (IsLexemeBefore lexeme) e located, d.divides.each_is_lexeme);
      ends = d.divides.ends;
    })
    ∙ ap (λ l. lexeme ∷ l) (sym (Divides-lexemes_in after d.lexemes d.end rest_utf8 d.divides))

-- a lexeme in front of what is left gives its token, if it has one
left_after_lexeme : (text : List ℕ) (lexeme : Lexeme) (after : List ℕ) → IsLexemeBefore lexeme after → IsUtf8 (lexeme_text lexeme ++ after) → length (lexeme_text lexeme ++ after) ≤ length text → tokens_left text (lexeme_text lexeme ++ after) false ≡ tokens_of_lexeme (length text - length (lexeme_text lexeme ++ after)) lexeme ++ tokens_left text after false
unfolding tokens_left
left_after_lexeme text lexeme after located utf8 fits = grind (arith, length-append, lexemes_in_lexeme)

left_after_trivia : (text : List ℕ) (trivia : List Lexeme) (rest : List ℕ) → EachIsLexeme trivia rest → AllByRecursion IsTrivia trivia → IsUtf8 (text_of trivia rest) → length (text_of trivia rest) ≤ length text → tokens_left text (text_of trivia rest) false ≡ tokens_left text rest false
left_after_trivia text [] rest are_located each utf8 fits = refl
left_after_trivia text (lexeme ∷ trivia) rest are_located each utf8 fits =
    let after = text_of trivia rest in
    let shorter : length after ≤ length text = omega (arith, length-append (lexeme_text lexeme) after) in
    left_after_lexeme text lexeme after are_located.0 utf8 fits
    ∙ ap (λ l. l ++ tokens_left text after false) (each.0 (length text - length (lexeme_text lexeme ++ after)))
    ∙ left_after_trivia text trivia rest are_located.1 each.1 (utf8_after_lexeme lexeme after are_located.0 utf8) shorter

text_of_longer : (trivia : List Lexeme) (rest : List ℕ) → length rest ≤ length (text_of trivia rest)
text_of_longer [] rest = omega arith
text_of_longer (lexeme ∷ trivia) rest = omega (arith, text_of_longer trivia rest, length-append (lexeme_text lexeme) (text_of trivia rest))

-- what follows trivia is no longer than before
pub PassesTrivia-shorter : (text rest : List ℕ) → PassesTrivia text rest → length rest ≤ length text
PassesTrivia-shorter text rest passed = omega (arith, ap length passed.text_is, text_of_longer passed.trivia rest)

pub TakesToken-shorter : (text : List ℕ) (position : ℕ) (token : TokenView) (after : List ℕ) → TakesToken text position token after → length after ≤ length text
TakesToken-shorter text position token after taken = grind (arith, ⊎_elim, length-append)

first_kind : List TokenView → TokenKind
first_kind [] = kind.Unknown
first_kind (token ∷ rest) = token.kind

-- no lexeme is Eof
token_of_not_eof : (position : ℕ) (lexeme : Lexeme) (token : TokenView) (rest : List TokenView) → tokens_of_lexeme position lexeme ≡ token ∷ rest → token.kind ≢ kind.Eof
unfolding first_kind
token_of_not_eof position (Blank c) token rest e = λ same. cc
token_of_not_eof position (Comment line) token rest e = λ same. cc
token_of_not_eof position (LastComment line) token rest e = λ same. cc
token_of_not_eof position EqualSign token rest e = λ same. let first = ap first_kind e in cc
token_of_not_eof position EqualSigns token rest e = λ same. let first = ap first_kind e in cc
token_of_not_eof position CommaSign token rest e = λ same. let first = ap first_kind e in cc
token_of_not_eof position (Quoted inside) token rest e = λ same. let first = ap first_kind e in cc
token_of_not_eof position (Unclosed inside) token rest e = λ same. let first = ap first_kind e in cc
token_of_not_eof position (Word run) token rest e = λ same. kind_of_word_not_eof (trim_end run) (ap first_kind e ∙ same)

-- whether the lexer is done is whether the token was Eof
not_done : (k : TokenKind) (done : Bool) → Decides done (k ≡ kind.Eof) → k ≢ kind.Eof → done ≡ false
not_done k false decides differs = refl
not_done k true decides differs = absurd (differs (decides.0 refl))

left_at_end : (text rest after : List ℕ) (done : Bool) → IsEnd rest → IsUtf8 rest → done ≡ true → tokens_left text rest false ≡ eof (length text - length rest) ∷ tokens_left text after done
unfolding tokens_left
left_at_end text rest after done ends utf8 is_done =
    ap (tokens_of (length text - length rest)) (Divides-lexemes_in rest [] rest utf8 (record { text_is = refl; each_is_lexeme = tt; ends = ends }))
    ∙ ap (λ d. eof (length text - length rest) ∷ tokens_left text after d) (sym is_done)

-- one call of `next`
pub tokens_left_next : (text rest start after : List ℕ) (token : TokenView) (done : Bool) → length rest ≤ length text → IsUtf8 rest → IsUtf8 start → PassesTrivia rest start → TakesToken start (length text - length start) token after → Decides done (token.kind ≡ kind.Eof) → tokens_left text rest false ≡ token ∷ tokens_left text after done
tokens_left_next text rest start after token done fits rest_utf8 start_utf8 passed taken decides = grind (arith, PassesTrivia-shorter, left_after_trivia, ⊎_elim, not_done, token_of_not_eof, left_after_lexeme, left_at_end)

-- a lexer that is done has none
pub tokens_left_done : (text rest : List ℕ) (done : Bool) → done ≡ true → tokens_left text rest done ≡ []
unfolding tokens_left
tokens_left_done text rest done is_done = ap (tokens_left text rest) is_done
