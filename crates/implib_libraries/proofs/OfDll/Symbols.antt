-- Decorated symbols: what they are made of, and the words and names that they have.
use Rattle.std.proofs.Common.{◌≡◌, ℕ, Bool, true, false, cond, ◌&&◌, ◌||◌, not, List, [], ◌∷◌, ◌++◌, drop, length, take, suc, ◌+◌, ◌<◌, Some, arith, refl, ap, ◌∙◌, sym, subst}
use Rattle.std.specs.Prelude.{◌==◌, bytes_eq, nat_eq, slice_index_or}
use Rattle.std.specs.Char.{is_ascii_digit}
use Rattle.std.specs.List.{list_all, list_any, position_or_len, starts_with}
use Rattle.std.proofs.lemmas.Bool.{eq-eqb, eqb-true, leb-true}
use Rattle.std.specs.Str.{IsUtf8}
use Rattle.std.proofs.lemmas.List.Sums.{AllPass-from_list_all}
use Rattle.std.proofs.lemmas.Str.{IsUtf8-append, IsUtf8-from_ascii}
use Rattle.std.proofs.lemmas.Str.Ascii.{IsAscii-from_all}
use Rattle.implib.specs.declared.machine.MachineType.TheVariants.{I386}
use Rattle.implib.specs.Ascii.{at_sign, begins_with, question_mark, underscore}
use Rattle.implib.specs.Formats.ShortImport.{before_at_sign}
use Rattle.implib.specs.Import.{is_empty_text}
use Rattle.implib_rules.specs.Linked.{NamingView, is_at_sign, makes, symbol_of, two_at_signs}
use Rattle.implib_libraries.specs.OfDll.Decorated.{decorates, is_count, is_decorated, symbol_for, word_naming}
use Rattle.implib_libraries.specs.OfDll.Decorations.{DecorationView}
use Rattle.implib_libraries.proofs.OfDll.Words.{and_false, and_true_left, and_true_right, not_true, or_false_left, or_false_right}

-- what a decorated symbol of a name is made of
pub record MadeOf (name symbol : List ℕ) : Type 0 where
  pub first : ℕ
  pub digits : List ℕ
  pub kind : ((first == underscore) || (first == at_sign)) ≡ true
  pub is : symbol ≡ first ∷ (name ++ at_sign ∷ digits)
  pub some : is_empty_text name ≡ false
  pub bare : list_any is_at_sign name ≡ false
  pub plain : begins_with question_mark name ≡ false
  pub are_digits : list_all is_ascii_digit digits ≡ true

-- a text begins with another
pub begun : (name rest : List ℕ) → starts_with nat_eq rest name ≡ true → rest ≡ name ++ drop (length name) rest
begun [] rest is = refl
begun (n ∷ name) [] is = absurd cc
begun (n ∷ name) (b ∷ rest) is =
    ap (λ x. x ∷ rest) (sym (eqb-true n b (and_true_left (nat_eq n b) _ is)))
    ∙ ap (λ l. n ∷ l) (begun name rest (and_true_right (nat_eq n b) _ is))

-- a count is an `@` and digits
count_at : (text : List ℕ) → is_count text ≡ true → text ≡ at_sign ∷ drop 1 text
count_at [] is = absurd cc
count_at (b ∷ text) is = ap (λ x. x ∷ text) (eqb-true b at_sign (and_true_left (b == at_sign) _ is))

count_digits : (text : List ℕ) → is_count text ≡ true → list_all is_ascii_digit (drop 1 text) ≡ true
count_digits [] is = absurd cc
count_digits (b ∷ text) is = and_true_right (not (is_empty_text text)) _ (and_true_right (b == at_sign) _ is)

pub made_of : (name symbol : List ℕ) → is_decorated name symbol ≡ true → MadeOf name symbol
made_of name [] is = absurd cc
made_of name (b ∷ rest) is =
    let tail = drop (length name) rest in
    let kind = and_true_left ((b == underscore) || (b == at_sign)) _ is in
    let more = and_true_right ((b == underscore) || (b == at_sign)) _ is in
    let named = and_true_left (not (is_empty_text name) && (not (list_any is_at_sign name) && not (begins_with question_mark name))) _ more in
    let counted = and_true_right (not (is_empty_text name) && (not (list_any is_at_sign name) && not (begins_with question_mark name))) _ more in
    let begins = and_true_left (starts_with nat_eq rest name) _ counted in
    let count = and_true_right (starts_with nat_eq rest name) _ counted in
    let letters = and_true_right (not (is_empty_text name)) _ named in
    record {
      first = b;
      digits = drop 1 tail;
      kind = kind;
      is = ap (λ l. b ∷ l) (begun name rest begins ∙ ap (λ l. name ++ l) (count_at tail count));
      some = not_true _ (and_true_left (not (is_empty_text name)) _ named);
      bare = not_true _ (and_true_left (not (list_any is_at_sign name)) _ letters);
      plain = not_true _ (and_true_right (not (list_any is_at_sign name)) _ letters);
      are_digits = count_digits tail count;
    }

-- a digit is no `@`
digit : (b : ℕ) → is_ascii_digit b ≡ true → (b == at_sign) ≡ false
digit b is = grind (arith, eqb-true, is)

-- what stands before the first `@`
pub before_count : (name digits : List ℕ) → list_any is_at_sign name ≡ false → before_at_sign (name ++ at_sign ∷ digits) ≡ name
before_count [] digits bare = refl
before_count (n ∷ name) digits bare =
    let rest = name ++ at_sign ∷ digits in
    let count = position_or_len (λ byte. byte == at_sign) rest in
    let same : 1 + count ≡ suc count = omega arith in
    ap (λ b. take (cond (not b) (1 + count) 0) (n ∷ rest)) (or_false_left (is_at_sign n) (list_any is_at_sign name) bare)
    ∙ (ap (λ k. take k (n ∷ rest)) same
    ∙ ap (λ l. n ∷ l) (before_count name digits (or_false_right (is_at_sign n) (list_any is_at_sign name) bare)))

-- in digits no two `@` stand side by side
two_digits : (before : Bool) (digits : List ℕ) → list_all is_ascii_digit digits ≡ true → two_at_signs before digits ≡ false
two_digits before [] are = refl
two_digits before (d ∷ digits) are =
    ap (λ b. cond (before && b) true (two_at_signs b digits)) (digit d (and_true_left (is_ascii_digit d) _ are))
    ∙ (ap (λ b. cond b true (two_at_signs false digits)) (and_false before)
    ∙ two_digits false digits (and_true_right (is_ascii_digit d) _ are))

two_name : (name digits : List ℕ) → list_any is_at_sign name ≡ false → list_all is_ascii_digit digits ≡ true → two_at_signs false (name ++ at_sign ∷ digits) ≡ false
two_name [] digits bare are = two_digits true digits are
two_name (n ∷ name) digits bare are = grind (arith, two_name name digits (or_false_right (is_at_sign n) (list_any is_at_sign name) bare) are, digits, or_false_left, bare, or_false_right)

or_true : (b : Bool) → (b || true) ≡ true
or_true true = refl
or_true false = refl

-- there is an `@` in a text that has one
has_at : (name digits : List ℕ) → list_any is_at_sign (name ++ at_sign ∷ digits) ≡ true
has_at [] digits = refl
has_at (n ∷ name) digits = ap (λ b. is_at_sign n || b) (has_at name digits) ∙ or_true (is_at_sign n)

-- ---- a decorated symbol of a text is a text

low : (b : ℕ) → is_ascii_digit b ≡ true → b < 128
low b is = grind (arith, leb-true, and_true_right, is)

one_utf8 : (b : ℕ) → b < 128 → IsUtf8 (b ∷ [])
one_utf8 b below = IsUtf8-from_ascii (b ∷ []) (IsAscii-from_all (b ∷ []) all)
  where
    all : (k d : ℕ) → k < length (b ∷ []) → slice_index_or (b ∷ []) k d < 128
    all k d within = let zero : k ≡ 0 = omega arith in subst (λ n. slice_index_or (b ∷ []) n d < 128) (sym zero) below

digits_utf8 : (digits : List ℕ) → list_all is_ascii_digit digits ≡ true → IsUtf8 digits
digits_utf8 digits are = IsUtf8-from_ascii digits (IsAscii-from_all digits (λ k d within. low _ (AllPass-from_list_all is_ascii_digit digits are k d within)))

mark_utf8 : (b : ℕ) → ((b == underscore) || (b == at_sign)) ≡ true → IsUtf8 (b ∷ [])
mark_utf8 b is = grind (arith, eqb-true, one_utf8, is)

-- a name and a count
pub counted_utf8 : (name digits : List ℕ) → IsUtf8 name → list_all is_ascii_digit digits ≡ true → IsUtf8 (name ++ at_sign ∷ digits)
counted_utf8 name digits utf8 are =
    IsUtf8-append name (at_sign ∷ digits) utf8 (IsUtf8-append (at_sign ∷ []) digits (one_utf8 at_sign (omega arith)) (digits_utf8 digits are))

pub symbol_utf8 : (name symbol : List ℕ) → IsUtf8 name → MadeOf name symbol → IsUtf8 symbol × IsUtf8 (drop 1 symbol)
symbol_utf8 name symbol utf8 made =
    let rest = counted_utf8 name made.digits utf8 made.are_digits in (
      subst IsUtf8 (sym made.is) (IsUtf8-append (made.first ∷ []) _ (mark_utf8 made.first made.kind) rest),
      subst (λ s. IsUtf8 (drop 1 s)) (sym made.is) rest,
    )

-- the word of a decorated symbol is a text
pub word_utf8 : (naming : NamingView) (name symbol : List ℕ) → IsUtf8 name → is_decorated name symbol ≡ true → IsUtf8 (word_naming naming symbol)
word_utf8 naming name symbol utf8 is = by_choice (begins_with underscore symbol && not (naming.is_plain || naming.keeps_decorated))
  where
    both : IsUtf8 symbol × IsUtf8 (drop 1 symbol)
    both = symbol_utf8 name symbol utf8 (made_of name symbol is)

    by_choice : (b : Bool) → IsUtf8 (cond b (drop 1 symbol) symbol)
    by_choice true = both.1
    by_choice false = both.0

-- ---- the rules make the symbol of its word, and the name of the symbol

all_false : (a b c : Bool) → a ≡ false → b ≡ false → c ≡ false → (((a || b) || c) || false) ≡ false
all_false a b c first second third = grind (arith, first)

-- a naming, by its fields
abbrev by_fields : Bool → Bool → Bool → Bool → NamingView
by_fields plain kills exports keeps = record { is_plain = plain; kills_at = kills; exports_as = exports; keeps_decorated = keeps }

-- a symbol of fastcall is its own word
whole_at : (plain kills exports keeps : Bool) (rest : List ℕ)
    → symbol_of I386 (by_fields plain kills exports keeps) (word_naming (by_fields plain kills exports keeps) (at_sign ∷ rest)) ≡ at_sign ∷ rest
whole_at plain kills exports keeps rest = ap (λ b. cond b (underscore ∷ at_sign ∷ rest) (at_sign ∷ rest)) (and_false (not plain))

-- the word of stdcall's gets its underscore
whole_underscore : (plain kills exports keeps : Bool) (name digits : List ℕ) → is_empty_text name ≡ false → list_any is_at_sign name ≡ false
    → begins_with question_mark name ≡ false → list_all is_ascii_digit digits ≡ true
    → symbol_of I386 (by_fields plain kills exports keeps) (word_naming (by_fields plain kills exports keeps) (underscore ∷ (name ++ at_sign ∷ digits)))
    ≡ underscore ∷ (name ++ at_sign ∷ digits)
whole_underscore true kills exports keeps name digits some bare plain are = refl
whole_underscore false kills exports true name digits some bare plain are = grind (arith, digits, has_at, or_true)
whole_underscore false kills exports false [] digits some bare plain are = absurd cc
whole_underscore false kills exports false (n ∷ name) digits some bare plain are = grind (arith, digits, all_false, or_false_left, bare, plain, two_name)

same_bytes : (xs : List ℕ) → bytes_eq xs xs ≡ true
same_bytes [] = refl
same_bytes (x ∷ xs) = ap (λ b. b && bytes_eq xs xs) (eq-eqb x x refl) ∙ same_bytes xs

-- undecorate makes a name of what follows the first byte
made_behind : (symbol name digits : List ℕ) → list_any is_at_sign name ≡ false
    → (bytes_eq symbol name || (bytes_eq (name ++ at_sign ∷ digits) name || bytes_eq (before_at_sign (name ++ at_sign ∷ digits)) name)) ≡ true
made_behind symbol name digits bare = grind (arith, digits, before_count, bare, same_bytes, or_true)

-- what the rules make of the word of a decorated symbol
pub record IsWhole (naming : NamingView) (name symbol : List ℕ) : Type 0 where
  pub symbol_is : symbol_of I386 naming (word_naming naming symbol) ≡ symbol
  pub makes_name : makes I386 symbol name ≡ true

whole_of : (naming : NamingView) (name digits : List ℕ) (first : ℕ) (symbol : List ℕ) → symbol ≡ first ∷ (name ++ at_sign ∷ digits)
    → IsWhole naming name (first ∷ (name ++ at_sign ∷ digits)) → IsWhole naming name symbol
whole_of naming name digits first symbol is whole = subst (IsWhole naming name) (sym is) whole

pub is_whole : (naming : NamingView) (name symbol : List ℕ) → is_decorated name symbol ≡ true → IsWhole naming name symbol
is_whole naming name symbol is = by_first (made.first == underscore) refl
  where
    made : MadeOf name symbol
    made = made_of name symbol is

    rest : List ℕ
    rest = name ++ at_sign ∷ made.digits

    stdcall : IsWhole naming name (underscore ∷ (name ++ at_sign ∷ made.digits))
    stdcall = record {
      symbol_is = whole_underscore naming.is_plain naming.kills_at naming.exports_as naming.keeps_decorated name made.digits made.some made.bare made.plain made.are_digits;
      makes_name = made_behind (underscore ∷ (name ++ at_sign ∷ made.digits)) name made.digits made.bare;
    }

    fastcall : IsWhole naming name (at_sign ∷ (name ++ at_sign ∷ made.digits))
    fastcall = grind (arith, whole_at naming.is_plain naming.kills_at naming.exports_as naming.keeps_decorated (name ++ at_sign ∷ made.digits), made_behind (at_sign ∷ (name ++ at_sign ∷ made.digits)) name made.digits made.bare)

    by_first : (t : Bool) → (made.first == underscore) ≡ t → IsWhole naming name symbol
    by_first true same =
        whole_of naming name made.digits underscore symbol (made.is ∙ ap (λ b. b ∷ (name ++ at_sign ∷ made.digits)) (eqb-true made.first underscore same)) stdcall
    by_first false other =
        let same = ap (λ t. t || (made.first == at_sign)) (sym other) ∙ made.kind in
        whole_of naming name made.digits at_sign symbol (made.is ∙ ap (λ b. b ∷ (name ++ at_sign ∷ made.digits)) (eqb-true made.first at_sign same)) fastcall

-- the symbol that is found for a name is decorated
pub found_decorated : (decorations : List DecorationView) (name symbol : List ℕ) → symbol_for decorations name ≡ Some symbol → is_decorated name symbol ≡ true
found_decorated [] name symbol is = absurd cc
found_decorated (d ∷ decorations) name symbol is = by_test (decorates name d) refl (found_decorated decorations name symbol)
  where
    by_test : (t : Bool) → decorates name d ≡ t → (symbol_for decorations name ≡ Some symbol → is_decorated name symbol ≡ true) → is_decorated name symbol ≡ true
    by_test true here later = grind (arith, is, and_true_right)
    by_test false here later = grind (arith, is)
