-- An encoding reads back.
use Rattle.std.proofs.Common.{rules, ◌≡◌, ℕ, ◌<◌, ◌≤◌, ◌^◌, true, All, List, [], ◌∷◌, ◌++◌, Option, Some, length, flat_map, nat_le, refl, ap, append_assoc, arith, length-append, le-leb}
use Rattle.std.specs.Int.{w64, from_le_bytes}
use Rattle.std.specs.Option.{option_map}
use Rattle.std.proofs.lemmas.List.{drop_at, take_at}
use Rattle.std.proofs.lemmas.List.Elements.{All-cons, All-head, All-nil, All-tail}
use Rattle.std.proofs.lemmas.Nat.{from_le_bytes-to_le_bytes_8}
use Rattle.implib.specs.Members.MemberSpec.{MemberView}
use Rattle.implib_c_calls.specs.Encoding.{ReadsBack, ReadsMembersBack, bytes_in, encoded_list, encoded_member, encoded_members, encoded_number, encoded_text, items_in, list_in, member_in, members_in, number_in, text_in, then_in}
use Rattle.implib_c_calls.proofs.Lengths.{list_size, number_size, text_size}

within : (chunk rest : List ℕ) (count : ℕ) → length chunk ≡ count → nat_le count (length (chunk ++ rest)) ≡ true
within chunk rest count e = le-leb count (length (chunk ++ rest)) (omega (arith, e, length-append chunk rest))

number_value : (n : ℕ) → n < 2 ^ 64 → from_le_bytes w64 (encoded_number n) ≡ n
unfolding encoded_number
number_value n below = from_le_bytes-to_le_bytes_8 n below

pub number_back : (n : ℕ) (rest : List ℕ) → n < 2 ^ 64 → number_in (encoded_number n ++ rest) ≡ Some (n, rest)
unfolding number_in
number_back n rest below = search (rules, length, number_size, within, take_at, drop_at, number_value)

bytes_back : (bytes rest : List ℕ) → bytes_in (length bytes) (bytes ++ rest) ≡ Some (bytes, rest)
unfolding bytes_in
bytes_back bytes rest = search (rules, within, length, take_at, drop_at)

pub text_back : (text rest : List ℕ) → ReadsBack encoded_text text_in (λ text. Unit {0}) text rest
unfolding text_in then_in
text_back text rest fit below = grind (arith, length, text_size, append_assoc, number_back, bytes_back)

-- items that take a byte or more are no more than their bytes
counted : {Y : Type 0} (g : Y → List ℕ) → ((y : Y) → 1 ≤ length (g y)) → (items : List Y) → length items ≤ length (flat_map g items)
counted g long [] = omega arith
counted g long (y ∷ items) = omega (arith, long y, counted g long items, length-append (g y) (flat_map g items))

-- each takes a byte or more

pub number_long : (n : ℕ) → 1 ≤ length (encoded_number n)
number_long n = omega (arith, number_size n)

pub text_long : (text : List ℕ) → 1 ≤ length (encoded_text text)
text_long text = omega (arith, text_size text)

pub front_long : (a b : List ℕ) → 1 ≤ length a → 1 ≤ length (a ++ b)
front_long a b long = omega (arith, long, length-append a b)

-- parts of bytes that are few are few
pub front_few : (a b : List ℕ) → length (a ++ b) < 2 ^ 64 → length a < 2 ^ 64
front_few a b below = omega (arith, below, length-append a b)

pub rest_few : (a b : List ℕ) → length (a ++ b) < 2 ^ 64 → length b < 2 ^ 64
rest_few a b below = omega (arith, below, length-append a b)

module _ {X : Type 0} (f : X → List ℕ) (read : List ℕ → Option (X × List ℕ)) (Fits : X → Type 0) (back : (x : X) (rest : List ℕ) → ReadsBack f read Fits x rest) where
  items_back_where : (items : List X) (rest : List ℕ) → All Fits items → length (flat_map f items) < 2 ^ 64 → items_in read (length items) (flat_map f items ++ rest) ≡ Some (items, rest)
  unfolding items_in
  items_back_where [] rest fit below = refl
  items_back_where (x ∷ items) rest fit below =
      let others : List ℕ = flat_map f items in
      rw (append_assoc (f x) others rest, back x (others ++ rest) (All-head Fits x items fit) (front_few (f x) others below))
      (ap (option_map (λ found. (x ∷ found.0, found.1))) (items_back_where items rest (All-tail Fits x items fit) (rest_few (f x) others below)))

  pub list_back_where : ((x : X) → 1 ≤ length (f x)) → (items : List X) (rest : List ℕ) → ReadsBack (encoded_list f) (list_in read) (All Fits) items rest
  unfolding list_in then_in
  list_back_where long items rest fit below = grind (arith, flat_map, length, list_size, counted, append_assoc, number_back, items_back_where, rest_few)

-- items that always read back

all_fit : {X : Type 0} (items : List X) → All (λ x. Unit {0}) items
all_fit [] = All-nil (λ x. Unit {0})
all_fit (x ∷ items) = All-cons (λ x. Unit {0}) x items tt (all_fit items)

pub texts_back : (texts : List (List ℕ)) (rest : List ℕ) → ReadsBack (encoded_list encoded_text) (list_in text_in) (λ texts. Unit {0}) texts rest
texts_back texts rest fit below = list_back_where encoded_text text_in (λ text. Unit {0}) text_back text_long texts rest (all_fit texts) below

-- what is read field by field

module _ {X Y : Type 0} (f : X → List ℕ) (read : List ℕ → Option (X × List ℕ)) (Fits : X → Type 0) (back : (x : X) (rest : List ℕ) → ReadsBack f read Fits x rest) (next : X → List ℕ → Option (Y × List ℕ)) {all : Option (Y × List ℕ)} (x : X) where
  pub then_back : (b rest : List ℕ) → Fits x → length (f x ++ b) < 2 ^ 64 → (length b < 2 ^ 64 → next x (b ++ rest) ≡ all) → then_in read next ((f x ++ b) ++ rest) ≡ all
  unfolding then_in
  then_back b rest fit below more = rw (append_assoc (f x) b rest, back x (b ++ rest) fit (front_few (f x) b below)) (more (rest_few (f x) b below))

  pub last_back : (rest : List ℕ) → Fits x → length (f x) < 2 ^ 64 → next x rest ≡ all → then_in read next (f x ++ rest) ≡ all
  unfolding then_in
  last_back rest fit below is = rw (back x rest fit below) is

module _ {Y : Type 0} {all : Option (Y × List ℕ)} where
  pub then_number : (next : ℕ → List ℕ → Option (Y × List ℕ)) (n : ℕ) (b rest : List ℕ) → n < 2 ^ 64 → length (encoded_number n ++ b) < 2 ^ 64 → (length b < 2 ^ 64 → next n (b ++ rest) ≡ all)
      → then_in number_in next ((encoded_number n ++ b) ++ rest) ≡ all
  then_number next n b rest fit below more = then_back encoded_number number_in (λ n. n < 2 ^ 64) (λ n rest fit below. number_back n rest fit) next n b rest fit below more

  pub last_number : (next : ℕ → List ℕ → Option (Y × List ℕ)) (n : ℕ) (rest : List ℕ) → n < 2 ^ 64 → next n rest ≡ all → then_in number_in next (encoded_number n ++ rest) ≡ all
  unfolding then_in
  last_number next n rest fit is = rw (number_back n rest fit) is

  pub then_text : (next : List ℕ → List ℕ → Option (Y × List ℕ)) (text b rest : List ℕ) → length (encoded_text text ++ b) < 2 ^ 64 → (length b < 2 ^ 64 → next text (b ++ rest) ≡ all)
      → then_in text_in next ((encoded_text text ++ b) ++ rest) ≡ all
  then_text next text b rest below more = then_back encoded_text text_in (λ text. Unit {0}) text_back next text b rest tt below more

  pub last_text : (next : List ℕ → List ℕ → Option (Y × List ℕ)) (text rest : List ℕ) → length (encoded_text text) < 2 ^ 64 → next text rest ≡ all → then_in text_in next (encoded_text text ++ rest) ≡ all
  last_text next text rest below is = last_back encoded_text text_in (λ text. Unit {0}) text_back next text rest tt below is

-- members

member_back : (m : MemberView) (rest : List ℕ) → ReadsBack encoded_member member_in (λ m. Unit {0}) m rest
unfolding member_in encoded_member
member_back m rest fit below =
    then_text _ m.name _ rest below (λ below.
    then_back (encoded_list encoded_text) (list_in text_in) (λ texts. Unit {0}) texts_back _ m.symbols _ rest tt below (λ below.
    last_text _ m.bytes rest below refl))

member_long : (m : MemberView) → 1 ≤ length (encoded_member m)
unfolding encoded_member
member_long m = front_long _ _ (text_long m.name)

pub members_back : (members : List MemberView) (rest : List ℕ) → ReadsMembersBack members rest
unfolding members_in encoded_members
members_back members rest fit below = list_back_where encoded_member member_in (λ m. Unit {0}) member_back member_long members rest (all_fit members) below
