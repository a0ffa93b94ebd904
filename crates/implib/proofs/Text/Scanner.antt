-- What is at the front of a text is what the witness finds there.
use Rattle.std.proofs.Common.{◌≡◌, ◌≢◌, ℕ, zero, suc, ◌+◌, ◌<◌, ◌≤◌, Bool, true, false, eqb, ◌⊎◌, inl, inr, ⊎_elim, Some, None, List, [], ◌∷◌, ◌++◌, length, get_or, drop, refl, sym, ap, subst, ◌∙◌, arith, append_assoc, length-append}
use Rattle.std.proofs.lemmas.Bool.{and_parts, cases_Bool, ne_eqb, eqb-true, false_from_ne_true}
use Rattle.std.proofs.lemmas.Bool.Decides.{nat_tests, eqb_tells}
use Rattle.std.proofs.lemmas.List.{append-nil, drop_at, get_or_at}
use Rattle.std.proofs.lemmas.Str.{length-encode, len_utf8_bounds, byte_from_char, char_from_byte, chars_past_char, encode_ascii, inside_one, IsUtf8-nil, IsUtf8-drop, IsUtf8-past_char, IsCharBoundary-after_ascii, IsCharBoundary-before_ascii}
use Rattle.std.specs.Char.{encode_utf8, is_whitespace, IsScalar}
use Rattle.std.proofs.Math.Utf8.{scalar}
use Rattle.std.specs.Str.{all_scalars, chars, encode_utf8_all, IsUtf8, NonePass}
use Rattle.implib.specs.Text.Token.{is_line_feed, is_quote, is_delimiter, is_equal_sign, Lexeme, Blank, Comment, LastComment, EqualSign, EqualSigns, CommaSign, Quoted, Unclosed, Word, lexeme_text, IsLexemeBefore, IsEnd, text_of, EachIsLexeme, Divides}
use Rattle.implib.specs.Ascii.{begins}
use Rattle.implib.specs.Views.Scanner.{cut_before, other_lexeme, first_lexeme, lexemes_within, lexemes_in}

-- the text ends here, or goes on with a byte that passes the test
abbrev StopsAt : (ℕ → Bool) → List ℕ → Type 0
StopsAt test after = (after ≡ []) ⊎ (begins test after ≡ true)

-- a front without such a byte, up to one or to the end, is what is cut
cut_finds : (test : ℕ → Bool) (front after : List ℕ) → NonePass test front → StopsAt test after → cut_before test (front ++ after) ≡ (front, after)
cut_finds test [] [] none stops = refl
cut_finds test [] (b ∷ after) none stops = elim stops [ inl e ↦ cc | inr h ↦ rw h refl ]
cut_finds test (x ∷ front) after none stops = grind (arith, cut_finds test front after none.1 stops, after, stops)

-- at a character that begins no other lexeme, white space or a word is found
first_other : (text after : List ℕ) (c : ℕ) → text ≡ encode_utf8 c ++ after → c ≢ 0 → c ≢ 59 → c ≢ 61 → c ≢ 44 → c ≢ 34 → first_lexeme text ≡ Some (other_lexeme text)
first_other [] after c e n0 n59 n61 n44 n34 =
    let bounds = len_utf8_bounds c in
    absurd (omega (arith, ap length e, length-append (encode_utf8 c) after, length-encode c, bounds.0))
first_other (b ∷ rest) after c e n0 n59 n61 n44 n34 =
    let same : b < 128 → c ≡ b = λ h. char_from_byte (b ∷ rest) after c e h (omega arith) in
    let not0 : eqb b 0 ≡ false = ne_eqb b 0 (λ h. n0 (same (omega arith) ∙ h)) in
    let not59 : eqb b 59 ≡ false = ne_eqb b 59 (λ h. n59 (same (omega arith) ∙ h)) in
    let not61 : eqb b 61 ≡ false = ne_eqb b 61 (λ h. n61 (same (omega arith) ∙ h)) in
    let not44 : eqb b 44 ≡ false = ne_eqb b 44 (λ h. n44 (same (omega arith) ∙ h)) in
    let not34 : eqb b 34 ≡ false = ne_eqb b 34 (λ h. n34 (same (omega arith) ∙ h)) in
    rw (not0, not59, not61, not44, not34) refl

-- the first character of a text
first_character : (text after : List ℕ) (c : ℕ) → IsUtf8 text → text ≡ encode_utf8 c ++ after → get_or (chars text) 0 0 ≡ c
first_character text after c utf8 e = rw (chars_past_char text after c utf8 e) refl

other_blank : (text after : List ℕ) (c : ℕ) → IsUtf8 text → text ≡ encode_utf8 c ++ after → is_whitespace c ≡ true → other_lexeme text ≡ Blank c
other_blank text after c utf8 e white = rw (first_character text after c utf8 e, white) refl

other_word : (text after : List ℕ) (c : ℕ) → IsUtf8 text → text ≡ encode_utf8 c ++ after → is_whitespace c ≡ false → other_lexeme text ≡ Word (cut_before is_delimiter text).0
other_word text after c utf8 e dark = rw (first_character text after c utf8 e, dark) refl

-- white space is none of the signs
white_is_no : (c k : ℕ) → is_whitespace c ≡ true → is_whitespace k ≡ false → c ≢ k
white_is_no c k white dark same = let wrong : true ≡ false = sym white ∙ ap is_whitespace same ∙ dark in cc

-- a word's first character is no delimiter
delimiter_starts_no_word : (run tail : List ℕ) (c k : ℕ) → run ≡ encode_utf8 c ++ tail → NonePass is_delimiter run → k < 128 → is_delimiter k ≡ true → c ≢ k
delimiter_starts_no_word run tail c k e none small stops same = grind (arith, encode_ascii, none, stops)

-- what is at the front of a text is found there
pub first_lexeme_located : (lexeme : Lexeme) (after : List ℕ) → IsLexemeBefore lexeme after → IsUtf8 (lexeme_text lexeme ++ after) → first_lexeme (lexeme_text lexeme ++ after) ≡ Some lexeme
first_lexeme_located (Blank c) after white utf8 =
    first_other (encode_utf8 c ++ after) after c refl (white_is_no c 0 white refl) (white_is_no c 59 white refl) (white_is_no c 61 white refl) (white_is_no c 44 white refl) (white_is_no c 34 white refl)
    ∙ ap Some (other_blank (encode_utf8 c ++ after) after c utf8 refl white)
first_lexeme_located (Comment line) after none utf8 = grind (arith, after, cut_finds, none, append_assoc)
first_lexeme_located (LastComment line) after (none, last) utf8 = grind (arith, after, cut_finds, none)
first_lexeme_located EqualSign after alone utf8 = rw alone refl
first_lexeme_located EqualSigns after holds utf8 = refl
first_lexeme_located CommaSign after holds utf8 = refl
first_lexeme_located (Quoted inside) after none utf8 = grind (arith, after, cut_finds, none, append_assoc)
first_lexeme_located (Unclosed inside) after (none, last) utf8 = grind (arith, after, cut_finds, none)
first_lexeme_located (Word run) after (starts, none, stops) utf8 =
    let c = starts.character in
    let e : run ++ after ≡ encode_utf8 c ++ (starts.tail ++ after) = grind (arith, append_assoc) in
    let none_is = λ (k : ℕ) (small : k < 128) (ends : is_delimiter k ≡ true). delimiter_starts_no_word run starts.tail c k starts.text_is none small ends in
    first_other (run ++ after) (starts.tail ++ after) c e starts.not_nul (none_is 59 (omega arith) refl) (none_is 61 (omega arith) refl) (none_is 44 (omega arith) refl) starts.not_quote
    ∙ ap Some (other_word (run ++ after) (starts.tail ++ after) c utf8 e starts.not_white)
    ∙ ap (λ p. Some (Word p.0)) (cut_finds is_delimiter run after none stops)

-- at the end nothing is found
pub first_lexeme_end : (end : List ℕ) → IsEnd end → first_lexeme end ≡ None
first_lexeme_end [] ends = refl
first_lexeme_end (b ∷ ignored) nul = rw nul refl

-- each lexeme is at least a byte
lexeme_nonempty : (lexeme : Lexeme) (after : List ℕ) → IsLexemeBefore lexeme after → 0 < length (lexeme_text lexeme)
lexeme_nonempty (Blank c) after white = let bounds = len_utf8_bounds c in omega (arith, length-encode c, bounds.0)
lexeme_nonempty (Comment line) after none = omega arith
lexeme_nonempty (LastComment line) after none = omega arith
lexeme_nonempty EqualSign after alone = omega arith
lexeme_nonempty EqualSigns after holds = omega arith
lexeme_nonempty CommaSign after holds = omega arith
lexeme_nonempty (Quoted inside) after none = omega arith
lexeme_nonempty (Unclosed inside) after none = omega arith
lexeme_nonempty (Word run) after (starts, none, stops) = grind (arith, len_utf8_bounds, length-append, length-encode)

-- what follows an ASCII byte is text
utf8_after_ascii : (front after : List ℕ) (b : ℕ) → b < 128 → IsUtf8 (front ++ (b ∷ after)) → IsUtf8 after
utf8_after_ascii front after b small utf8 =
    let text = front ++ (b ∷ after) in
    let at : get_or text (length front) 0 ≡ b = get_or_at front b after 0 (length front) refl in
    let boundary = IsCharBoundary-after_ascii text (length front) utf8 (omega (arith, length-append front (b ∷ after))) (omega (arith, at)) in
    let rest : drop (length front + 1) text ≡ after =
    ap (drop (length front + 1)) (sym (append_assoc front (b ∷ []) after)) ∙ drop_at (front ++ (b ∷ [])) after (length front + 1) (length-append front (b ∷ [])) in
    subst IsUtf8 rest (IsUtf8-drop text (length front + 1) utf8 boundary)

-- what begins with an ASCII byte in a text is text
utf8_from_ascii : (front after : List ℕ) (b : ℕ) → b < 128 → IsUtf8 (front ++ (b ∷ after)) → IsUtf8 (b ∷ after)
utf8_from_ascii front after b small utf8 =
    let text = front ++ (b ∷ after) in
    let at : get_or text (length front) 0 ≡ b = get_or_at front b after 0 (length front) refl in
    let boundary = IsCharBoundary-before_ascii text (length front) (omega (arith, length-append front (b ∷ after))) (omega (arith, at)) in
    subst IsUtf8 (drop_at front (b ∷ after) (length front) refl) (IsUtf8-drop text (length front) utf8 boundary)

-- a delimiter is an ASCII byte
pub delimiter_ascii : (b : ℕ) → is_delimiter b ≡ true → b < 128
delimiter_ascii b ends = grind (arith, nat_tests)

utf8_at_stop : (front after : List ℕ) → StopsAt is_delimiter after → IsUtf8 (front ++ after) → IsUtf8 after
utf8_at_stop front [] stops utf8 = IsUtf8-nil
utf8_at_stop front (b ∷ after) stops utf8 =
    elim stops [ inl e ↦ cc | inr ends ↦ utf8_from_ascii front after b (delimiter_ascii b ends) utf8 ]

-- what follows a lexeme is text
pub utf8_after_lexeme : (lexeme : Lexeme) (after : List ℕ) → IsLexemeBefore lexeme after → IsUtf8 (lexeme_text lexeme ++ after) → IsUtf8 after
utf8_after_lexeme (Blank c) after white utf8 = IsUtf8-past_char (encode_utf8 c ++ after) after c utf8 refl
utf8_after_lexeme (Comment line) after none utf8 =
    utf8_after_ascii (59 ∷ line) after 10 (omega arith) (subst IsUtf8 (append_assoc (59 ∷ line) (10 ∷ []) after) utf8)
utf8_after_lexeme (LastComment line) after (none, last) utf8 = subst IsUtf8 (sym last) IsUtf8-nil
utf8_after_lexeme EqualSign after alone utf8 = utf8_after_ascii [] after 61 (omega arith) utf8
utf8_after_lexeme EqualSigns after holds utf8 = utf8_after_ascii (61 ∷ []) after 61 (omega arith) utf8
utf8_after_lexeme CommaSign after holds utf8 = utf8_after_ascii [] after 44 (omega arith) utf8
utf8_after_lexeme (Quoted inside) after none utf8 =
    utf8_after_ascii (34 ∷ inside) after 34 (omega arith) (subst IsUtf8 (append_assoc (34 ∷ inside) (34 ∷ []) after) utf8)
utf8_after_lexeme (Unclosed inside) after (none, last) utf8 = subst IsUtf8 (sym last) IsUtf8-nil
utf8_after_lexeme (Word run) after (starts, none, stops) utf8 = utf8_at_stop run after stops utf8

-- a lexeme in front, with room for it
pub lexemes_within_lexeme : (n : ℕ) (lexeme : Lexeme) (after : List ℕ) → IsLexemeBefore lexeme after → IsUtf8 (lexeme_text lexeme ++ after) → lexemes_within (suc n) (lexeme_text lexeme ++ after) ≡ lexeme ∷ lexemes_within n after
unfolding lexemes_within
lexemes_within_lexeme n lexeme after located utf8 = grind (arith, first_lexeme_located, lexeme, after, located, drop_at)

lexemes_within_end : (n : ℕ) (end : List ℕ) → IsEnd end → lexemes_within n end ≡ []
unfolding lexemes_within
lexemes_within_end zero end ends = refl
lexemes_within_end (suc n) end ends = rw (first_lexeme_end end ends, lexemes_within) refl

-- the witness finds the lexemes that divide a text
pub lexemes_within_division : (n : ℕ) (lexemes : List Lexeme) (end : List ℕ) → EachIsLexeme lexemes end → IsEnd end → IsUtf8 (text_of lexemes end) → length (text_of lexemes end) ≤ n → lexemes_within n (text_of lexemes end) ≡ lexemes
lexemes_within_division n [] end are_located ends utf8 fits = lexemes_within_end n end ends
lexemes_within_division zero (lexeme ∷ lexemes) end are_located ends utf8 fits = grind (arith, length-append, lexeme, lexemes, end, lexeme_nonempty)
lexemes_within_division (suc n) (lexeme ∷ lexemes) end are_located ends utf8 fits =
    let after = text_of lexemes end in
    let shorter : length after ≤ n = omega (arith, length-append (lexeme_text lexeme) after, lexeme_nonempty lexeme after are_located.0) in
    lexemes_within_lexeme n lexeme after are_located.0 utf8
    ∙ ap (λ l. lexeme ∷ l) (lexemes_within_division n lexemes end are_located.1 ends (utf8_after_lexeme lexeme after are_located.0 utf8) shorter)

-- what `cut_before` gives: the front has no byte that passes, and what follows begins with one, if it is not empty
record IsCut (test : ℕ → Bool) (text front after : List ℕ) : Type 0 where
  text_is : text ≡ front ++ after
  none : NonePass test front
  stops : StopsAt test after

abbrev CutGives : (ℕ → Bool) → List ℕ → Type 0
CutGives test text = IsCut test text (cut_before test text).0 (cut_before test text).1

cut_step : (test : ℕ → Bool) (b : ℕ) (rest : List ℕ) (holds : Bool) → test b ≡ holds → CutGives test rest → CutGives test (b ∷ rest)
cut_step test b rest true passes cut = rw passes (record { text_is = refl; none = tt; stops = inr passes })
cut_step test b rest false fails cut = rw fails (record { text_is = ap (λ l. b ∷ l) cut.text_is; none = (fails, cut.none); stops = cut.stops })

cut_gives : (test : ℕ → Bool) (text : List ℕ) → CutGives test text
cut_gives test [] = record { text_is = refl; none = tt; stops = inl refl }
cut_gives test (b ∷ rest) = cut_step test b rest (test b) refl (cut_gives test rest)

-- a lexeme at the front of a text
pub record Front (text : List ℕ) : Type 0 where
  pub lexeme : Lexeme
  pub after : List ℕ
  pub text_is : text ≡ lexeme_text lexeme ++ after
  pub located : IsLexemeBefore lexeme after

abbrev EndOrFront : List ℕ → Type 0
EndOrFront text = IsEnd text ⊎ Front text

front_comment : (rest line after : List ℕ) → IsCut is_line_feed rest line after → Front (59 ∷ rest)
front_comment rest line [] cut = record {
  lexeme = LastComment line;
  after = [];
  text_is = ap (λ l. 59 ∷ l) cut.text_is;
  located = (cut.none, refl);
}
front_comment rest line (b ∷ after) cut =
    elim cut.stops [
      | inl e ↦ cc
      | inr feed ↦
          let is_feed : b ≡ 10 = eqb-true b 10 feed in
          record {
            lexeme = Comment line;
            after = after;
            text_is = ap (λ l. 59 ∷ l) (cut.text_is ∙ ap (λ c. line ++ (c ∷ after)) is_feed ∙ sym (append_assoc line (10 ∷ []) after));
            located = cut.none;
          }
    ]

front_quote : (rest inside after : List ℕ) → IsCut is_quote rest inside after → Front (34 ∷ rest)
front_quote rest inside [] cut = record {
  lexeme = Unclosed inside;
  after = [];
  text_is = ap (λ l. 34 ∷ l) cut.text_is;
  located = (cut.none, refl);
}
front_quote rest inside (b ∷ after) cut =
    elim cut.stops [
      | inl e ↦ cc
      | inr quote ↦
          let is_mark : b ≡ 34 = eqb-true b 34 quote in
          record {
            lexeme = Quoted inside;
            after = after;
            text_is = ap (λ l. 34 ∷ l) (cut.text_is ∙ ap (λ c. inside ++ (c ∷ after)) is_mark ∙ sym (append_assoc inside (34 ∷ []) after));
            located = cut.none;
          }
    ]

front_equal : (rest : List ℕ) (two : Bool) → begins is_equal_sign rest ≡ two → Front (61 ∷ rest)
front_equal rest false alone = record { lexeme = EqualSign; after = rest; text_is = refl; located = alone }
front_equal [] true sign = cc
front_equal (b ∷ rest) true sign = record {
  lexeme = EqualSigns;
  after = rest;
  text_is = ap (λ c. 61 ∷ c ∷ rest) (eqb-true b 61 sign);
  located = tt;
}

pub none_from_places : (test : ℕ → Bool) (xs : List ℕ) → ((k : ℕ) → k < length xs → test (get_or xs k 0) ≡ false) → NonePass test xs
none_from_places test [] each = tt
none_from_places test (x ∷ xs) each = (each 0 (omega arith), none_from_places test xs (λ k h. each (suc k) (omega arith)))

none_append : (test : ℕ → Bool) (xs ys : List ℕ) → NonePass test xs → NonePass test ys → NonePass test (xs ++ ys)
none_append test [] ys first second = second
none_append test (x ∷ xs) ys first second = (first.0, none_append test xs ys first.1 second)

-- the bytes of a character that is no delimiter are none
none_in_character : (c : ℕ) → is_delimiter c ≡ false → NonePass is_delimiter (encode_utf8 c)
none_in_character c plain =
    none_from_places is_delimiter (encode_utf8 c) (λ k h. false_from_ne_true (is_delimiter (get_or (encode_utf8 c) k 0)) (λ ends.
    let same : c ≡ get_or (encode_utf8 c) k 0 = inside_one c [] (encode_utf8 c) k (sym (append-nil (encode_utf8 c))) h (delimiter_ascii (get_or (encode_utf8 c) k 0) ends) in
    let wrong : true ≡ false = sym ends ∙ ap is_delimiter (sym same) ∙ plain in
    cc))

-- a delimiter is a sign or white space
pub no_delimiter : (c : ℕ) → is_whitespace c ≡ false → c ≢ 59 → c ≢ 61 → c ≢ 44 → is_delimiter c ≡ false
no_delimiter c dark n59 n61 n44 = grind (arith, nat_tests)

front_word : (c : ℕ) (rest : List ℕ) → IsScalar c → is_whitespace c ≡ false → c ≢ 0 → c ≢ 34 → is_delimiter c ≡ false → Front (encode_utf8 c ++ rest)
front_word c rest is_scalar dark n0 n34 plain =
    let cut = cut_gives is_delimiter rest in
    let tail = (cut_before is_delimiter rest).0 in
    let after = (cut_before is_delimiter rest).1 in
    record {
      lexeme = Word (encode_utf8 c ++ tail);
      after = after;
      text_is = ap (λ l. encode_utf8 c ++ l) cut.text_is ∙ sym (append_assoc (encode_utf8 c) tail after);
      located = grind (arith, scalar, none_append, none_in_character);
    }

front_character : (c : ℕ) (rest : List ℕ) → IsScalar c → c ≢ 0 → c ≢ 59 → c ≢ 61 → c ≢ 44 → c ≢ 34 → Front (encode_utf8 c ++ rest)
front_character c rest is_scalar n0 n59 n61 n44 n34 =
    ⊎_elim
    (λ white. record { lexeme = Blank c; after = rest; text_is = refl; located = white })
    (λ dark. front_word c rest is_scalar dark n0 n34 (no_delimiter c dark n59 n61 n44))
    (cases_Bool (is_whitespace c))

-- a byte that no sign has begins white space or a word
front_other : (b : ℕ) (rest cs : List ℕ) → all_scalars cs ≡ true → encode_utf8_all cs ≡ b ∷ rest → b ≢ 0 → b ≢ 59 → b ≢ 61 → b ≢ 44 → b ≢ 34 → Front (b ∷ rest)
front_other b rest [] scalar e n0 n59 n61 n44 n34 = cc
front_other b rest (c ∷ cs) all e n0 n59 n61 n44 n34 =
    let each = and_parts (scalar c) (all_scalars cs) all in
    let byte : c < 128 → b ≡ c = λ h. byte_from_char (b ∷ rest) (encode_utf8_all cs) c (sym e) h in
    subst Front e (front_character c (encode_utf8_all cs) each.0 (λ h. n0 (byte (omega arith) ∙ h)) (λ h. n59 (byte (omega arith) ∙ h)) (λ h. n61 (byte (omega arith) ∙ h)) (λ h. n44 (byte (omega arith) ∙ h)) (λ h. n34 (byte (omega arith) ∙ h)))

front_byte : (b : ℕ) (rest : List ℕ) → IsUtf8 (b ∷ rest) → EndOrFront (b ∷ rest)
front_byte b rest utf8 =
    let at = λ (k : ℕ) (here : EndOrFront (k ∷ rest)) (p : (eqb b k ≡ true) × (b ≡ k)). subst (λ x. EndOrFront (x ∷ rest)) (sym p.1) here in
    ⊎_elim (at 0 (inl refl)) (λ n0.
    ⊎_elim (at 59 (inr (front_comment rest _ _ (cut_gives is_line_feed rest)))) (λ n59.
    ⊎_elim (at 61 (inr (front_equal rest (begins is_equal_sign rest) refl))) (λ n61.
    ⊎_elim (at 44 (inr (record { lexeme = CommaSign; after = rest; text_is = refl; located = tt }))) (λ n44.
    ⊎_elim (at 34 (inr (front_quote rest _ _ (cut_gives is_quote rest)))) (λ n34.
    inr (front_other b rest utf8.0 utf8.1.0 utf8.1.1 n0.1 n59.1 n61.1 n44.1 n34.1))
    (eqb_tells b 34)) (eqb_tells b 44)) (eqb_tells b 61)) (eqb_tells b 59)) (eqb_tells b 0)

front_of : (text : List ℕ) → IsUtf8 text → EndOrFront text
front_of [] utf8 = inl tt
front_of (b ∷ rest) utf8 = front_byte b rest utf8

-- a division of a text
pub record Division (text : List ℕ) : Type 0 where
  pub lexemes : List Lexeme
  pub end : List ℕ
  pub divides : Divides text lexemes end

abbrev ends_here : (text : List ℕ) → IsEnd text → Division text
ends_here text ends = record { lexemes = []; end = text; divides = record { text_is = refl; each_is_lexeme = tt; ends = ends } }

division_after : (text : List ℕ) (front : Front text) → Division front.after → Division text
division_after text front rest =
    let same = rest.divides.text_is in
    record {
      lexemes = front.lexeme ∷ rest.lexemes;
      end = rest.end;
      divides = grind arith;
    }

division_within : (n : ℕ) (text : List ℕ) → IsUtf8 text → length text ≤ n → Division text
division_within zero [] utf8 fits = ends_here [] tt
division_within zero (b ∷ rest) utf8 fits = absurd (omega arith)
division_within (suc n) text utf8 fits = ⊎_elim
    (λ ends. ends_here text ends)
    (λ (front : Front text).
    let nonempty = lexeme_nonempty front.lexeme front.after front.located in
    let shorter : length front.after ≤ n = omega (arith, ap length front.text_is, length-append (lexeme_text front.lexeme) front.after, nonempty) in
    division_after text front (division_within n front.after (utf8_after_lexeme front.lexeme front.after front.located (subst IsUtf8 front.text_is utf8)) shorter))
    (front_of text utf8)

-- each text has a division
pub division : (text : List ℕ) → IsUtf8 text → Division text
division text utf8 = division_within (length text) text utf8 (omega arith)

-- and it is the witness's
pub Divides-lexemes_in : (text : List ℕ) (lexemes : List Lexeme) (end : List ℕ) → IsUtf8 text → Divides text lexemes end → lexemes_in text ≡ lexemes
Divides-lexemes_in text lexemes end utf8 d = grind (arith, lexemes_within_division, lexemes, end)
