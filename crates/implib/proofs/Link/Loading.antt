-- An image is loaded in one way.
use Rattle.std.proofs.Common.{◌≡◌, ℕ, ◌+◌, ◌%◌, ◌^◌, zero, suc, List, [], ◌∷◌, ◌++◌, length, Option, Some, refl, ap, sym, ◌∙◌, arith, subst}
use Rattle.std.specs.Prelude.{nat_eq}
use Rattle.std.proofs.lemmas.Bool.{or_parts, false≢true}
use Rattle.implib.specs.Ascii.{holds}
use Rattle.implib.specs.Import.{Ask, Name, Ordinal}
use Rattle.implib.specs.Link.Image.{Range, byte_at}
use Rattle.implib.specs.Link.Load.{ThunkAsksFor, BytesAt, Loads, NumberAt, TableAt, TextAt}
use Rattle.implib.specs.Formats.Layout.{HasNoNul}

same_byte : (o : Option ℕ) (x y : ℕ) → o ≡ Some x → o ≡ Some y → x ≡ y
same_byte o x y first second = let same : Some x ≡ Some y = sym first ∙ second in cc

same_list : (x y : ℕ) (xs ys : List ℕ) → x ≡ y → xs ≡ ys → x ∷ xs ≡ y ∷ ys
same_list x y xs ys first rest = cc

bytes_once : (image : List Range) (xs ys : List ℕ) (a : ℕ) → BytesAt image a xs → BytesAt image a ys → length xs ≡ length ys → xs ≡ ys
unfolding BytesAt
bytes_once image [] [] a first second long = refl
bytes_once image [] (y ∷ ys) a first second long = absurd (omega arith)
bytes_once image (x ∷ xs) [] a first second long = absurd (omega arith)
bytes_once image (x ∷ xs) (y ∷ ys) a first second long = grind (arith, bytes_once image xs ys (a + 1) first.1 second.1 (omega arith), same_list, same_byte)

pub number_once : (image : List Range) (width a n m : ℕ) → NumberAt image width a n → NumberAt image width a m → n ≡ m
number_once image width a n m first second = grind (arith, bytes_once)

no_nul_first : (y : ℕ) (ys : List ℕ) → HasNoNul (y ∷ ys) → 0 ≡ y → ⊥
no_nul_first zero ys free is = false≢true (sym free)
no_nul_first (suc n) ys free is = omega arith

no_nul_rest : (y : ℕ) (ys : List ℕ) → HasNoNul (y ∷ ys) → HasNoNul ys
no_nul_rest y ys free = (or_parts (nat_eq y 0) (holds 0 ys) free).1

pub text_once : (image : List Range) (xs ys : List ℕ) (a : ℕ) → HasNoNul xs → HasNoNul ys → BytesAt image a (xs ++ 0 ∷ []) → BytesAt image a (ys ++ 0 ∷ []) → xs ≡ ys
unfolding BytesAt
text_once image [] [] a first_free second_free first second = refl
text_once image [] (y ∷ ys) a first_free second_free first second = absurd (no_nul_first y ys second_free (same_byte (byte_at image a) 0 y first.0 second.0))
text_once image (x ∷ xs) [] a first_free second_free first second = absurd (no_nul_first x xs first_free (same_byte (byte_at image a) 0 x second.0 first.0))
text_once image (x ∷ xs) (y ∷ ys) a first_free second_free first second = grind (arith, text_once image xs ys (a + 1) (no_nul_rest x xs first_free) (no_nul_rest y ys second_free) first.1 second.1, same_list, same_byte, no_nul_rest)

ask_once : (image : List Range) (width thunk : ℕ) (first second : Ask) → ThunkAsksFor image width thunk first → ThunkAsksFor image width thunk second → first ≡ second
unfolding ThunkAsksFor
ask_once image width thunk (Ordinal n) (Ordinal m) first second = ap Ordinal (sym first.1 ∙ second.1)
ask_once image width thunk (Ordinal n) (Name text hint) first second = let high = first.0 in let low = second.0 in absurd (omega arith)
ask_once image width thunk (Name text hint) (Ordinal n) first second = let low = first.0 in let high = second.0 in absurd (omega arith)
ask_once image width thunk (Name text hint) (Name other number) first second =
    let same_text : text ≡ other = text_once image text other (thunk % 2 ^ 31 + 2) first.2.no_nul second.2.no_nul first.2.located second.2.located in
    let same_hint : hint ≡ number = number_once image 2 (thunk % 2 ^ 31) hint number first.1 second.1 in
    cc

same_asks : (x y : Ask) (xs ys : List Ask) → x ≡ y → xs ≡ ys → x ∷ xs ≡ y ∷ ys
same_asks x y xs ys first rest = cc

pub table_once : (image : List Range) (width : ℕ) (xs ys : List Ask) (a : ℕ) → TableAt image width a xs → TableAt image width a ys → xs ≡ ys
unfolding TableAt
table_once image width [] [] a first second = refl
table_once image width [] (y ∷ ys) a first second = absurd (second.0.not_zero (number_once image width a second.0.thunk 0 second.0.located first))
table_once image width (x ∷ xs) [] a first second = absurd (first.0.not_zero (number_once image width a first.0.thunk 0 first.0.located second))
table_once image width (x ∷ xs) (y ∷ ys) a first second =
    let thunks : first.0.thunk ≡ second.0.thunk = number_once image width a first.0.thunk second.0.thunk first.0.located second.0.located in
    same_asks x y xs ys
    (ask_once image width second.0.thunk x y (subst (λ t. ThunkAsksFor image width t x) thunks first.0.asks) second.0.asks)
    (table_once image width xs ys (a + width) first.1 second.1)

-- what two fields at one place lead to

pub text_led_to : (image : List Range) (field n m : ℕ) (xs ys : List ℕ) → NumberAt image 4 field n → NumberAt image 4 field m → TextAt image n xs → TextAt image m ys →
    xs ≡ ys
text_led_to image field n m xs ys first second text other =
    let same : n ≡ m = number_once image 4 field n m first second in
    text_once image xs ys m text.no_nul other.no_nul (subst (λ a. BytesAt image a (xs ++ 0 ∷ [])) same text.located) other.located

pub table_led_to : (image : List Range) (width field n m : ℕ) (xs ys : List Ask) → NumberAt image 4 field n → NumberAt image 4 field m → TableAt image width n xs →
    TableAt image width m ys → xs ≡ ys
table_led_to image width field n m xs ys first second table other =
    let same : n ≡ m = number_once image 4 field n m first second in
    table_once image width xs ys m (subst (λ a. TableAt image width a xs) same table) other

pub dll_once : (image : List Range) (width descriptor : ℕ) (dll other : List ℕ) (asks others : List Ask) →
    Loads image width descriptor dll asks → Loads image width descriptor other others → dll ≡ other
dll_once image width descriptor dll other asks others first second =
    text_led_to image (descriptor + 12) first.name second.name dll other first.name_field second.name_field first.name_text second.name_text

pub asks_once : (image : List Range) (width descriptor : ℕ) (dll other : List ℕ) (asks others : List Ask) →
    Loads image width descriptor dll asks → Loads image width descriptor other others → asks ≡ others
asks_once image width descriptor dll other asks others first second =
    table_led_to image width descriptor first.lookups second.lookups asks others first.lookups_field second.lookups_field first.lookup_table second.lookup_table
