-- Passing white space and comments.
use Rattle.std.proofs.Common.{arith, ◌≡◌, ◌≢◌, ℕ, ◌<◌, Bool, true, false, List, [], ◌∷◌, ◌++◌, map, length, get_or, drop, refl, sym, ap, subst, ◌∙◌, append_assoc, take-append-drop}
use Rattle.std.proofs.lemmas.Bool.{ne_eqb}
use Rattle.std.proofs.lemmas.List.{append-nil}
use Rattle.std.specs.Prelude.{not}
use Rattle.std.specs.Char.{encode_utf8, is_whitespace, is_not_whitespace}
use Rattle.std.specs.List.{AllByRecursion}
use Rattle.std.specs.Str.{encode_utf8_all, EmptyOrStartsWithPassing, IsTrimStart, NonePass}
use Rattle.implib.specs.Text.Token.{is_line_feed, Lexeme, Blank, Comment, LastComment, lexeme_text, text_of, EachIsLexeme}
use Rattle.implib.specs.Ascii.{begins}
use Rattle.implib.specs.Views.Scanner.{is_semicolon, IsTrivia, PassesTrivia, SkipsTrivia}
use Rattle.implib.proofs.Text.Scanner.{none_from_places}

-- a line that a line feed ends
pub PassesTrivia-comment : (comment line after : List ℕ) → comment ≡ line ++ (10 ∷ after) → ((i : ℕ) → i < length line → get_or line i 0 ≢ 10) → PassesTrivia (59 ∷ comment) after
PassesTrivia-comment comment line after e none = record {
  trivia = Comment line ∷ [];
  text_is = ap (λ l. 59 ∷ l) (e ∙ sym (append_assoc line (10 ∷ []) after));
  each_is_lexeme = (none_from_places is_line_feed line (λ k h. ne_eqb (get_or line k 0) 10 (none k h)), tt);
  each_trivia = (λ position. refl, tt);
}

-- a line that the text ends
pub PassesTrivia-last_comment : (comment after : List ℕ) → ((i : ℕ) → i < length comment → get_or comment i 0 ≢ 10) → after ≡ [] → PassesTrivia (59 ∷ comment) after
PassesTrivia-last_comment comment after none last = record {
  trivia = LastComment comment ∷ [];
  text_is = ap (λ l. 59 ∷ l) (sym (append-nil comment) ∙ ap (λ l. comment ++ l) (sym last));
  each_is_lexeme = ((none_from_places is_line_feed comment (λ k h. ne_eqb (get_or comment k 0) 10 (none k h)), last), tt);
  each_trivia = (λ position. refl, tt);
}

text_of-append : (first second : List Lexeme) (end : List ℕ) → text_of (first ++ second) end ≡ text_of first (text_of second end)
text_of-append [] second end = refl
text_of-append (lexeme ∷ first) second end = ap (λ l. lexeme_text lexeme ++ l) (text_of-append first second end)

EachIsLexeme-append : (first second : List Lexeme) (end : List ℕ) → EachIsLexeme first (text_of second end) → EachIsLexeme second end → EachIsLexeme (first ++ second) end
EachIsLexeme-append [] second end are_located more = more
EachIsLexeme-append (lexeme ∷ first) second end are_located more = grind (arith, EachIsLexeme-append first second end are_located.1 more, text_of-append)

pub AllByRecursion-append : {X : Type 0} (P : X → Type 0) (xs ys : List X) → AllByRecursion P xs → AllByRecursion P ys → AllByRecursion P (xs ++ ys)
AllByRecursion-append P [] ys first second = second
AllByRecursion-append P (x ∷ xs) ys first second = (first.0, AllByRecursion-append P xs ys first.1 second)

-- trivia and then more
pub PassesTrivia-trans : (a b c : List ℕ) → PassesTrivia a b → PassesTrivia b c → PassesTrivia a c
PassesTrivia-trans a b c first second = grind (arith, text_of-append, EachIsLexeme-append, AllByRecursion-append)

-- white space, character by character
text_of-blanks : (cs after : List ℕ) → text_of (map Blank cs) after ≡ encode_utf8_all cs ++ after
text_of-blanks [] after = refl
text_of-blanks (c ∷ cs) after = ap (λ l. encode_utf8 c ++ l) (text_of-blanks cs after) ∙ sym (append_assoc (encode_utf8 c) (encode_utf8_all cs) after)

white_from_not : (t : Bool) → not t ≡ false → t ≡ true
white_from_not true e = refl
white_from_not false e = cc

EachIsLexeme-blanks : (cs after : List ℕ) → NonePass is_not_whitespace cs → EachIsLexeme (map Blank cs) after
EachIsLexeme-blanks [] after none = tt
EachIsLexeme-blanks (c ∷ cs) after none = (white_from_not (is_whitespace c) none.0, EachIsLexeme-blanks cs after none.1)

each_trivia_blanks : (cs : List ℕ) → AllByRecursion IsTrivia (map Blank cs)
each_trivia_blanks [] = tt
each_trivia_blanks (c ∷ cs) = (λ position. refl, each_trivia_blanks cs)

pub PassesTrivia-trim_start : (text rest : List ℕ) → IsTrimStart text rest → PassesTrivia text rest
PassesTrivia-trim_start text rest trimmed =
    let white = trimmed.2 in
    record {
      trivia = map Blank white.0;
      text_is = sym (take-append-drop trimmed.0 text) ∙ ap (λ l. l ++ drop trimmed.0 text) (sym white.1) ∙ ap (λ l. encode_utf8_all white.0 ++ l) (sym trimmed.1) ∙ sym (text_of-blanks white.0 rest);
      each_is_lexeme = EachIsLexeme-blanks white.0 rest white.2;
      each_trivia = each_trivia_blanks white.0;
    }

-- lexemes without a token are passed, and no white space follows
pub record PassesSpace (text rest : List ℕ) : Type 0 where
  pub passes : PassesTrivia text rest
  pub tail : List ℕ
  pub no_space : EmptyOrStartsWithPassing is_not_whitespace rest tail

pub PassesSpace-trim_start : (text rest : List ℕ) → IsTrimStart text rest → PassesSpace text rest
PassesSpace-trim_start text rest trimmed = grind (arith, PassesTrivia-trim_start)

-- one more comment, and the white space after it
pub PassesSpace-comment : (text before comment after rest : List ℕ) → PassesSpace text before → before ≡ 59 ∷ comment → PassesTrivia (59 ∷ comment) after → IsTrimStart after rest → PassesSpace text rest
PassesSpace-comment text before comment after rest passed is_comment line trimmed = record {
  passes = PassesTrivia-trans text before rest passed.passes (PassesTrivia-trans before after rest (subst (λ l. PassesTrivia l after) (sym is_comment) line) (PassesTrivia-trim_start after rest trimmed));
  tail = trimmed.3.0;
  no_space = trimmed.3.1;
}

-- where no comment follows, all is passed
pub SkipsTrivia-from_space : (text rest : List ℕ) → PassesSpace text rest → begins is_semicolon rest ≡ false → SkipsTrivia text rest
SkipsTrivia-from_space text rest passed no_comment = grind arith
