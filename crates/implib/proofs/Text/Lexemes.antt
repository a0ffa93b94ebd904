-- What the lexer's helpers take off the front of a text.
use Rattle.std.proofs.Common.{◌≡◌, ◌≢◌, ℕ, ◌+◌, ◌-◌, ◌<◌, ◌≤◌, Bool, true, false, eqb, ◌⊎◌, ⊎_elim, List, [], ◌∷◌, ◌++◌, length, get_or, take, drop, refl, sym, ap, subst, ◌∙◌, arith, append_assoc, length-append, length-take-le, take-append-drop, get_or-take}
use Rattle.std.proofs.lemmas.Bool.{cases_lt, true≢false, eqb-true, ne_eqb}
use Rattle.std.proofs.lemmas.List.{append-nil, drop_all, drop_more}
use Rattle.std.proofs.lemmas.Str.{byte_from_char, inside_one, IsCharBoundary-after_ascii}
use Rattle.std.proofs.Math.Seq.{take-append-add}
use Rattle.std.specs.Prelude.{not}
use Rattle.std.specs.Char.{encode_utf8, is_whitespace, IsScalar}
use Rattle.std.specs.Str.{IsCharBoundary, IsUtf8, NonePass, trim, trim_end}
use Rattle.implib.specs.declared.def.lexer.TokenKind.TheVariants as kind
use Rattle.implib.specs.Text.Token.{is_delimiter, is_equal_sign, is_quote, kind_of_word, tokens_of_lexeme, value_start, CommaSign, EqualSign, EqualSigns, IsWordEnd, Quoted, TokenView, Unclosed, Word}
use Rattle.implib.specs.Ascii.{begins}
use Rattle.implib.specs.Views.Scanner.{is_semicolon, StartsWord, TakesLexeme}
use Rattle.implib.proofs.Text.Scanner.{delimiter_ascii, no_delimiter, none_from_places}

-- a text that begins with a byte is that byte and the others
pub begins_with : (k : ℕ) (text : List ℕ) → begins (λ b. eqb b k) text ≡ true → text ≡ k ∷ drop 1 text
begins_with k [] found = cc
begins_with k (b ∷ rest) found = ap (λ x. x ∷ rest) (eqb-true b k found)

-- the text may be cut after an ASCII byte at its front
pub boundary_after_first : (k : ℕ) (text : List ℕ) → k < 128 → IsUtf8 text → text ≡ k ∷ drop 1 text → IsCharBoundary text 1
boundary_after_first k text small utf8 e =
    let first : get_or text 0 0 ≡ k = ap (λ l. get_or l 0 0) e in
    IsCharBoundary-after_ascii text 0 utf8 (omega (arith, ap length e)) (omega (arith, first))

-- the text may be cut after two ASCII bytes at its front
pub boundary_after_second : (j k : ℕ) (text : List ℕ) → k < 128 → IsUtf8 text → text ≡ j ∷ drop 1 text → drop 1 text ≡ k ∷ drop 1 (drop 1 text) → IsCharBoundary text 2
boundary_after_second j k text small utf8 e f =
    let whole : text ≡ j ∷ k ∷ drop 1 (drop 1 text) = e ∙ ap (λ l. j ∷ l) f in
    let second : get_or text 1 0 ≡ k = ap (λ l. get_or l 1 0) whole in
    IsCharBoundary-after_ascii text 1 utf8 (omega (arith, ap length whole)) (omega (arith, second))

-- the first byte, by its position
pub first_is : (k : ℕ) (text : List ℕ) → 0 < k → get_or text 0 0 ≡ k → text ≡ k ∷ drop 1 text
first_is k [] positive e = absurd (omega (arith, e))
first_is k (b ∷ rest) positive e = ap (λ x. x ∷ rest) e

pub TakesLexeme-comma : (text after : List ℕ) (at : ℕ) (token : TokenView) → text ≡ 44 ∷ drop 1 text → token ≡ record { kind = kind.Comma; value = take 1 text; at = at } → after ≡ drop 1 text → TakesLexeme text at token after
TakesLexeme-comma text after at token e is rest = record {
  lexeme = CommaSign;
  text_is = e ∙ ap (λ l. 44 ∷ l) (sym rest);
  located = tt;
  given = ap (λ t. t ∷ []) (ap (λ l. record { kind = kind.Comma; value = take 1 l; at = at }) (sym e) ∙ sym is);
}

pub TakesLexeme-equal : (text after : List ℕ) (at : ℕ) (token : TokenView) → text ≡ 61 ∷ drop 1 text → begins is_equal_sign (drop 1 text) ≡ false → token ≡ record { kind = kind.Equal; value = take 1 text; at = at } → after ≡ drop 1 text → TakesLexeme text at token after
TakesLexeme-equal text after at token e alone is rest = record {
  lexeme = EqualSign;
  text_is = e ∙ ap (λ l. 61 ∷ l) (sym rest);
  located = subst (λ l. begins is_equal_sign l ≡ false) (sym rest) alone;
  given = ap (λ t. t ∷ []) (ap (λ l. record { kind = kind.Equal; value = take 1 l; at = at }) (sym e) ∙ sym is);
}

pub TakesLexeme-equals : (text after : List ℕ) (at : ℕ) (token : TokenView) → text ≡ 61 ∷ drop 1 text → begins is_equal_sign (drop 1 text) ≡ true → token ≡ record { kind = kind.EqualEqual; value = take 2 text; at = at } → after ≡ drop 2 text → TakesLexeme text at token after
TakesLexeme-equals text after at token e again is rest =
    let whole : text ≡ 61 ∷ 61 ∷ drop 1 (drop 1 text) = e ∙ ap (λ l. 61 ∷ l) (begins_with 61 (drop 1 text) again) in
    let left : after ≡ drop 1 (drop 1 text) = rest ∙ ap (drop 2) whole in
    record {
      lexeme = EqualSigns;
      text_is = whole ∙ ap (λ l. 61 ∷ 61 ∷ l) (sym left);
      located = tt;
      given = ap (λ t. t ∷ []) (ap (λ l. record { kind = kind.EqualEqual; value = take 2 l; at = at }) (sym whole) ∙ sym is);
    }

-- a quoted name, by what its closing quote parts
pub TakesLexeme-quoted : (text inside name after : List ℕ) (at : ℕ) (token : TokenView) → text ≡ 34 ∷ inside → inside ≡ name ++ (34 ∷ after) → ((i : ℕ) → i < length name → get_or name i 0 ≢ 34) → token ≡ record { kind = kind.Identifier; value = trim name; at = at + 1 + value_start name } → TakesLexeme text at token after
TakesLexeme-quoted text inside name after at token e parts none is = record {
  lexeme = Quoted name;
  text_is = e ∙ ap (λ l. 34 ∷ l) (parts ∙ sym (append_assoc name (34 ∷ []) after));
  located = none_from_places is_quote name (λ k h. ne_eqb (get_or name k 0) 34 (none k h));
  given = ap (λ t. t ∷ []) (sym is);
}

pub TakesLexeme-unclosed : (text inside after : List ℕ) (at : ℕ) (token : TokenView) → text ≡ 34 ∷ inside → ((i : ℕ) → i < length inside → get_or inside i 0 ≢ 34) → after ≡ [] → token ≡ record { kind = kind.Identifier; value = []; at = at + 1 } → TakesLexeme text at token after
TakesLexeme-unclosed text inside after at token e none last is = record {
  lexeme = Unclosed inside;
  text_is = e ∙ ap (λ l. 34 ∷ l) (sym (append-nil inside) ∙ ap (λ l. inside ++ l) (sym last));
  located = (none_from_places is_quote inside (λ k h. ne_eqb (get_or inside k 0) 34 (none k h)), last);
  given = ap (λ t. t ∷ []) (sym is);
}

-- the first character of a word, as its text shows it
record WordFront (text : List ℕ) : Type 0 where
  character : ℕ
  tail : List ℕ
  text_is : text ≡ encode_utf8 character ++ tail
  scalar : IsScalar character
  not_white : is_whitespace character ≡ false
  not_nul : character ≢ 0
  not_quote : character ≢ 34
  plain : is_delimiter character ≡ false

white_test : (t : Bool) → not t ≡ true → t ≡ false
white_test true e = cc
white_test false e = refl

begins_semicolon : (text : List ℕ) → text ≡ 59 ∷ drop 1 text → begins is_semicolon text ≡ false → ⊥
begins_semicolon text e no_comment = let wrong : true ≡ false = sym (ap (begins is_semicolon) e) ∙ no_comment in cc

word_front : (text : List ℕ) → StartsWord text → WordFront text
word_front text starts =
    let shown = starts.no_trivia.no_space starts.nonempty in
    let c = shown.0 in
    let tail = starts.no_trivia.tail in
    let byte : c < 128 → get_or text 0 0 ≡ c = λ h. byte_from_char text tail c shown.2 h in
    let dark : is_whitespace c ≡ false = white_test (is_whitespace c) shown.1 in
    record {
      character = c;
      tail = tail;
      text_is = shown.2;
      scalar = shown.3;
      not_white = dark;
      not_nul = λ e. starts.not_nul (byte (omega arith) ∙ e);
      not_quote = λ e. starts.not_quote (byte (omega arith) ∙ e);
      plain = no_delimiter c dark (λ e. begins_semicolon text (first_is 59 text (omega arith) (byte (omega arith) ∙ e)) starts.no_trivia.no_comment) (λ e. starts.not_equal (byte (omega arith) ∙ e)) (λ e. starts.not_comma (byte (omega arith) ∙ e));
    }

-- the word's end is past its first character
end_past_character : (text : List ℕ) (end : ℕ) → (front : WordFront text) → IsWordEnd text 0 end → length (encode_utf8 front.character) ≤ end
end_past_character text end front is_end = grind (arith, ⊎_elim, length-append, inside_one, delimiter_ascii, true≢false, cases_lt)

stops_at_end : (text : List ℕ) (end : ℕ) → IsWordEnd text 0 end → (drop end text ≡ []) ⊎ (begins is_delimiter (drop end text) ≡ true)
stops_at_end text end is_end = grind (arith, ⊎_elim, drop_more, drop_all, cases_lt)

pub TakesLexeme-word : (text run after value : List ℕ) (at end : ℕ) (token : TokenView) → StartsWord text → IsWordEnd text 0 end → run ≡ take end text → after ≡ drop end text → value ≡ trim_end run → token ≡ record { kind = kind_of_word value; value = value; at = at } → TakesLexeme text at token after
TakesLexeme-word text run after value at end token starts is_end is_run is_after is_value is =
    let front = word_front text starts in
    let c = front.character in
    let long = end_past_character text end front is_end in
    let size = length (encode_utf8 c) in
    let whole : end ≡ size + (end - size) = omega arith in
    let first : run ≡ encode_utf8 c ++ take (end - size) front.tail = grind (arith, take-append-add) in
    let fits : length run ≡ end = ap length is_run ∙ length-take-le end text is_end.within in
    let none : NonePass is_delimiter run = grind (arith, none_from_places, get_or-take) in
    record {
      lexeme = Word run;
      text_is = sym (take-append-drop end text) ∙ ap (λ l. l ++ drop end text) (sym is_run) ∙ ap (λ l. run ++ l) (sym is_after);
      located = (
        record { character = c; tail = take (end - size) front.tail; text_is = first; scalar = front.scalar; not_white = front.not_white; not_nul = front.not_nul; not_quote = front.not_quote },
        none,
        subst (λ l. (l ≡ []) ⊎ (begins is_delimiter l ≡ true)) (sym is_after) (stops_at_end text end is_end),
      );
      given = subst (λ t. tokens_of_lexeme at (Word run) ≡ t ∷ []) (sym is) (ap (λ v. record { kind = kind_of_word v; value = v; at = at } ∷ []) (sym is_value));
    }
