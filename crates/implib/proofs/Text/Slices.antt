-- Each token's value is a slice of its text.
use Rattle.std.proofs.Common.{◌≡◌, ℕ, ◌+◌, ◌≤◌, ◌<◌, ◌⊎◌, inl, inr, true, List, [], ◌∷◌, ◌++◌, length, get_or, take, drop, refl, sym, ap, subst, ◌∙◌, arith, append_assoc, length-append, length-take-le, take-append-drop}
use Rattle.std.proofs.lemmas.List.{append-nil, drop_at, get_or_at, take_at}
use Rattle.std.proofs.lemmas.Str.{IsCharBoundary-after_ascii, IsCharBoundary-before_ascii, IsUtf8-drop, IsUtf8-take}
use Rattle.std.specs.List.{AllByRecursion}
use Rattle.std.specs.Str.{IsUtf8, trim, trim_end}
use Rattle.implib.specs.Text.Token.{is_delimiter, lexeme_text, text_of, tokens_of_lexeme, tokens_of, value_start, Blank, Comment, CommaSign, EachIsLexeme, EqualSign, EqualSigns, IsSliceOf, LastComment, Lexed, Lexeme, Quoted, TokenView, IsLexemeBefore, Unclosed, Word}
use Rattle.implib.specs.Ascii.{begins}
use Rattle.implib.proofs.Text.Scanner.{delimiter_ascii, utf8_after_lexeme}
use Rattle.implib.proofs.Text.Trivia.{AllByRecursion-append}
use Rattle.implib.proofs.Text.Trimmed.{take-trim_end, take-value, value_within}

-- what is between a front and the rest is the slice there
slice_between : (text front value after : List ℕ) (at : ℕ) → text ≡ front ++ (value ++ after) → at ≡ length front → take (length value) (drop at text) ≡ value
slice_between text front value after at e position = grind (arith, drop_at, take_at)

-- the front of a text before an ASCII byte is text
utf8_before_ascii : (front after : List ℕ) (b : ℕ) → b < 128 → IsUtf8 (front ++ (b ∷ after)) → IsUtf8 front
utf8_before_ascii front after b small utf8 =
    let text = front ++ (b ∷ after) in
    let at : get_or text (length front) 0 ≡ b = get_or_at front b after 0 (length front) refl in
    let boundary = IsCharBoundary-before_ascii text (length front) (omega (arith, length-append front (b ∷ after))) (omega (arith, at)) in
    subst IsUtf8 (take_at front (b ∷ after) (length front) refl) (IsUtf8-take text (length front) utf8 boundary)

utf8_before_stop : (run after : List ℕ) → (after ≡ []) ⊎ (begins is_delimiter after ≡ true) → IsUtf8 (run ++ after) → IsUtf8 run
utf8_before_stop run [] stops utf8 = subst IsUtf8 (append-nil run) utf8
utf8_before_stop run (b ∷ after) stops utf8 =
    elim stops [ inl e ↦ cc | inr ends ↦ utf8_before_ascii run after b (delimiter_ascii b ends) utf8 ]

-- what follows an ASCII byte at the front is text
utf8_after_first : (b : ℕ) (rest : List ℕ) → b < 128 → IsUtf8 (b ∷ rest) → IsUtf8 rest
utf8_after_first b rest small utf8 = IsUtf8-drop (b ∷ rest) 1 utf8 (IsCharBoundary-after_ascii (b ∷ rest) 0 utf8 (omega arith) small)

slice_of_word : (text front run after : List ℕ) → text ≡ front ++ (run ++ after) → IsUtf8 run → take (length (trim_end run)) (drop (length front) text) ≡ trim_end run
slice_of_word text front run after e utf8 =
    let value = trim_end run in
    let back = drop (length value) run in
    let whole : value ++ back ≡ run = ap (λ l. l ++ back) (sym (take-trim_end run utf8)) ∙ take-append-drop (length value) run in
    slice_between text front value (back ++ after) (length front)
    (e ∙ ap (λ l. front ++ (l ++ after)) (sym whole) ∙ ap (λ l. front ++ l) (append_assoc value back after))
    refl

slice_of_name : (text front inside after : List ℕ) → text ≡ front ++ (34 ∷ (inside ++ after)) → IsUtf8 inside → take (length (trim inside)) (drop (length front + 1 + value_start inside) text) ≡ trim inside
slice_of_name text front inside after e utf8 =
    let value = trim inside in
    let start = value_start inside in
    let before = take start inside in
    let rest = drop start inside in
    let back = drop (length value) rest in
    let bound : start ≤ length inside = omega (arith, value_within inside utf8) in
    let end_is : value ++ back ≡ rest = ap (λ l. l ++ back) (sym (take-value inside utf8)) ∙ take-append-drop (length value) rest in
    let whole : before ++ (value ++ back) ≡ inside = ap (λ l. before ++ l) end_is ∙ take-append-drop start inside in
    let opened = front ++ (34 ∷ before) in
    let text_is : front ++ (34 ∷ (inside ++ after)) ≡ opened ++ (value ++ (back ++ after)) = grind (arith, append_assoc) in
    slice_between text opened value (back ++ after) (length front + 1 + start) (e ∙ text_is)
    (omega (arith, length-append front (34 ∷ before), length-take-le start inside bound))

-- the token of a lexeme, if it has one
lexeme_slices : (text front : List ℕ) (lexeme : Lexeme) (after : List ℕ) → text ≡ front ++ (lexeme_text lexeme ++ after) → IsLexemeBefore lexeme after → IsUtf8 (lexeme_text lexeme ++ after) → AllByRecursion (IsSliceOf text) (tokens_of_lexeme (length front) lexeme)
lexeme_slices text front (Blank c) after e located utf8 = tt
lexeme_slices text front (Comment line) after e located utf8 = tt
lexeme_slices text front (LastComment line) after e located utf8 = tt
lexeme_slices text front EqualSign after e located utf8 = (slice_between text front (61 ∷ []) after (length front) e refl, tt)
lexeme_slices text front EqualSigns after e located utf8 = (slice_between text front (61 ∷ 61 ∷ []) after (length front) e refl, tt)
lexeme_slices text front CommaSign after e located utf8 = (slice_between text front (44 ∷ []) after (length front) e refl, tt)
lexeme_slices text front (Quoted inside) after e located utf8 =
    let closed = append_assoc (34 ∷ inside) (34 ∷ []) after in
    let inner = utf8_before_ascii inside after 34 (omega arith) (utf8_after_first 34 (inside ++ (34 ∷ after)) (omega arith) (subst IsUtf8 closed utf8)) in
    (slice_of_name text front inside (34 ∷ after) (e ∙ ap (λ l. front ++ l) closed) inner, tt)
lexeme_slices text front (Unclosed inside) after e located utf8 = (refl, tt)
lexeme_slices text front (Word run) after e (starts, none, stops) utf8 = (slice_of_word text front run after e (utf8_before_stop run after stops utf8), tt)

lexemes_slices : (text front : List ℕ) (lexemes : List Lexeme) (end : List ℕ) → text ≡ front ++ text_of lexemes end → EachIsLexeme lexemes end → IsUtf8 (text_of lexemes end) → AllByRecursion (IsSliceOf text) (tokens_of (length front) lexemes)
lexemes_slices text front [] end e are_located utf8 = (refl, tt)
lexemes_slices text front (lexeme ∷ lexemes) end e are_located utf8 =
    let after = text_of lexemes end in
    let rest = lexemes_slices text (front ++ lexeme_text lexeme) lexemes end (e ∙ sym (append_assoc front (lexeme_text lexeme) after)) are_located.1 (utf8_after_lexeme lexeme after are_located.0 utf8) in
    AllByRecursion-append (IsSliceOf text) (tokens_of_lexeme (length front) lexeme) (tokens_of (length front + length (lexeme_text lexeme)) lexemes)
    (lexeme_slices text front lexeme after e are_located.0 utf8)
    (subst (λ n. AllByRecursion (IsSliceOf text) (tokens_of n lexemes)) (length-append front (lexeme_text lexeme)) rest)

-- the values of tokens are cut from the text, each from its position on
pub Lexed-slices : (text : List ℕ) (tokens : List TokenView) → IsUtf8 text → Lexed text tokens → AllByRecursion (IsSliceOf text) tokens
Lexed-slices text tokens utf8 lexed =
    let d = lexed.divides in
    subst (AllByRecursion (IsSliceOf text)) (sym lexed.given) (lexemes_slices text [] lexed.lexemes lexed.end d.text_is d.each_is_lexeme (subst IsUtf8 d.text_is utf8))
