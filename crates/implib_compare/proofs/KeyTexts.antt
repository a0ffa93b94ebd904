-- A key tells what it is of.
use Rattle.std.proofs.Common.{◌≡◌, ◌∙◌, ℕ, zero, suc, ◌/◌, ◌%◌, List, [], ◌∷◌, ◌++◌, ap, append_assoc, arith, refl, sym}
use Rattle.std.specs.List.{flat_map}
use Rattle.implib.specs.Import.{Alias}
use Rattle.implib_read.specs.declared.import.ImportKind.{ImportKind}
use Rattle.implib_read.specs.declared.import.ImportKind.TheVariants.{Code, CodeOrConst, Const, Data, Delayed}
use Rattle.implib_compare.specs.Facts.{Asked, ByName, ByOrdinal, Fact, Imports, Aliases, ImportFact, asked_key, bytes_key, fact_key, kind_number, listed_key, number_key, text_key, texts_key}

head_of : List ℕ → ℕ
head_of [] = 0
head_of (x ∷ xs) = x

tail_of : List ℕ → List ℕ
tail_of [] = []
tail_of (x ∷ xs) = xs

-- lists with a first element are the same
heads : (x y : ℕ) (xs ys : List ℕ) → x ∷ xs ≡ y ∷ ys → x ≡ y
unfolding head_of
heads x y xs ys same = ap head_of same

tails : (x y : ℕ) (xs ys : List ℕ) → x ∷ xs ≡ y ∷ ys → xs ≡ ys
unfolding tail_of
tails x y xs ys same = ap tail_of same

-- two things at the front of the same bytes, and what follows them
record Both (A B : Type 0) : Type 0 where
  first : A
  rest : B

-- a text's key is the same as another's, whatever follows
text_front : (s t xs ys : List ℕ) → bytes_key s ++ (0 ∷ xs) ≡ bytes_key t ++ (0 ∷ ys) → Both (s ≡ t) (xs ≡ ys)
text_front [] [] xs ys same = record { first = refl; rest = tails 0 0 xs ys same }
text_front [] (b ∷ t) xs ys same = absurd (omega (arith, heads 0 1 xs (b ∷ (bytes_key t ++ (0 ∷ ys))) same))
text_front (a ∷ s) [] xs ys same = absurd (omega (arith, heads 1 0 (a ∷ (bytes_key s ++ (0 ∷ xs))) ys same))
text_front (a ∷ s) (b ∷ t) xs ys same =
    let one = tails 1 1 (a ∷ (bytes_key s ++ (0 ∷ xs))) (b ∷ (bytes_key t ++ (0 ∷ ys))) same in
    let more = text_front s t xs ys (tails a b (bytes_key s ++ (0 ∷ xs)) (bytes_key t ++ (0 ∷ ys)) one) in
    let first : a ∷ s ≡ b ∷ t = ap (λ x. x ∷ s) (heads a b (bytes_key s ++ (0 ∷ xs)) (bytes_key t ++ (0 ∷ ys)) one) ∙ ap (λ r. b ∷ r) more.first in
    record { first = first; rest = more.rest }

-- the same, of whole texts
text_begins : (s t xs ys : List ℕ) → text_key s ++ xs ≡ text_key t ++ ys → Both (s ≡ t) (xs ≡ ys)
text_begins s t xs ys same = text_front s t xs ys (sym (append_assoc (bytes_key s) (0 ∷ []) xs) ∙ same ∙ append_assoc (bytes_key t) (0 ∷ []) ys)

-- texts' keys are the same as others', whatever follows
texts_front : (ss ts : List (List ℕ)) (xs ys : List ℕ) → flat_map listed_key ss ++ (0 ∷ xs) ≡ flat_map listed_key ts ++ (0 ∷ ys) → Both (ss ≡ ts) (xs ≡ ys)
texts_front [] [] xs ys same = record { first = refl; rest = tails 0 0 xs ys same }
texts_front [] (t ∷ ts) xs ys same = absurd (omega (arith, heads 0 1 xs ((text_key t ++ flat_map listed_key ts) ++ (0 ∷ ys)) same))
texts_front (s ∷ ss) [] xs ys same = absurd (omega (arith, heads 1 0 ((text_key s ++ flat_map listed_key ss) ++ (0 ∷ xs)) ys same))
texts_front (s ∷ ss) (t ∷ ts) xs ys same =
    let left = flat_map listed_key ss ++ (0 ∷ xs) in
    let right = flat_map listed_key ts ++ (0 ∷ ys) in
    let one = tails 1 1 ((text_key s ++ flat_map listed_key ss) ++ (0 ∷ xs)) ((text_key t ++ flat_map listed_key ts) ++ (0 ∷ ys)) same in
    let front = text_begins s t left right
    (sym (append_assoc (text_key s) (flat_map listed_key ss) (0 ∷ xs)) ∙ one ∙ append_assoc (text_key t) (flat_map listed_key ts) (0 ∷ ys)) in
    let more = texts_front ss ts xs ys front.rest in
    let first : s ∷ ss ≡ t ∷ ts = ap (λ x. x ∷ ss) front.first ∙ ap (λ r. t ∷ r) more.first in
    record { first = first; rest = more.rest }

number_back : (n m : ℕ) → n % 256 ≡ m % 256 → n / 256 ≡ m / 256 → n ≡ m
number_back n m low high = omega (arith, low, high)

-- a number's key is the same as another's, whatever follows
number_begins : (n m : ℕ) (xs ys : List ℕ) → number_key n ++ xs ≡ number_key m ++ ys → Both (n ≡ m) (xs ≡ ys)
number_begins n m xs ys same =
    let low = heads (n % 256) (m % 256) (n / 256 ∷ xs) (m / 256 ∷ ys) same in
    let rest = tails (n % 256) (m % 256) (n / 256 ∷ xs) (m / 256 ∷ ys) same in
    record { first = number_back n m low (heads (n / 256) (m / 256) xs ys rest); rest = tails (n / 256) (m / 256) xs ys rest }

-- what is asked for has a key that is the same as another's, whatever follows
asked_begins : (a b : Asked) (xs ys : List ℕ) → asked_key a ++ xs ≡ asked_key b ++ ys → Both (a ≡ b) (xs ≡ ys)
asked_begins (ByOrdinal n) (ByOrdinal m) xs ys same =
    let more = number_begins n m xs ys (tails 0 0 (number_key n ++ xs) (number_key m ++ ys) same) in
    record { first = ap ByOrdinal more.first; rest = more.rest }
asked_begins (ByOrdinal n) (ByName t) xs ys same = absurd (omega (arith, heads 0 1 (number_key n ++ xs) (text_key t ++ ys) same))
asked_begins (ByName s) (ByOrdinal m) xs ys same = absurd (omega (arith, heads 1 0 (text_key s ++ xs) (number_key m ++ ys) same))
asked_begins (ByName s) (ByName t) xs ys same =
    let more = text_begins s t xs ys (tails 1 1 (text_key s ++ xs) (text_key t ++ ys) same) in
    record { first = ap ByName more.first; rest = more.rest }

-- the kind of a number
kind_of : ℕ → ImportKind
kind_of zero = Code
kind_of (suc zero) = Data
kind_of (suc (suc zero)) = Const
kind_of (suc (suc (suc zero))) = CodeOrConst
kind_of (suc (suc (suc (suc n)))) = Delayed

kind_back : (k : ImportKind) → kind_of (kind_number k) ≡ k
unfolding kind_of
kind_back Code = refl
kind_back Data = refl
kind_back Const = refl
kind_back CodeOrConst = refl
kind_back Delayed = refl

same_kind : (k l : ImportKind) → kind_number k ≡ kind_number l → k ≡ l
same_kind k l same = sym (kind_back k) ∙ ap kind_of same ∙ kind_back l

same_import : (i j : ImportFact) → i.dll ≡ j.dll → i.declared ≡ j.declared → i.asked ≡ j.asked → i.kind ≡ j.kind → i.machine ≡ j.machine → i ≡ j
same_import i j dll declared asked kind machine =
    let step : ImportFact = record i { dll = j.dll } in
    let step2 : ImportFact = record step { declared = j.declared } in
    let step3 : ImportFact = record step2 { asked = j.asked } in
    let step4 : ImportFact = record step3 { kind = j.kind } in
    ap (λ x. record i { dll = x }) dll
    ∙ ap (λ x. record step { declared = x }) declared
    ∙ ap (λ x. record step2 { asked = x }) asked
    ∙ ap (λ x. record step3 { kind = x }) kind
    ∙ ap (λ x. record step4 { machine = x }) machine

same_alias : (a b : Alias) → a.weak ≡ b.weak → a.target ≡ b.target → a ≡ b
same_alias a b weak target =
    let step : Alias = record a { weak = b.weak } in
    ap (λ x. record a { weak = x }) weak ∙ ap (λ x. record step { target = x }) target

-- the key of an import after its kind
after_kind : ImportFact → List ℕ
after_kind i = number_key i.machine ++ (asked_key i.asked ++ (text_key i.dll ++ texts_key i.declared))

imports_tell : (i j : ImportFact) → fact_key (Imports i) ≡ fact_key (Imports j) → i ≡ j
unfolding after_kind
imports_tell i j same =
    let tagged = tails 1 1 (kind_number i.kind ∷ after_kind i) (kind_number j.kind ∷ after_kind j) same in
    let kind = same_kind i.kind j.kind (heads (kind_number i.kind) (kind_number j.kind) (after_kind i) (after_kind j) tagged) in
    let machine = number_begins i.machine j.machine (asked_key i.asked ++ (text_key i.dll ++ texts_key i.declared)) (asked_key j.asked ++ (text_key j.dll ++ texts_key j.declared))
    (tails (kind_number i.kind) (kind_number j.kind) (after_kind i) (after_kind j) tagged) in
    let asked = asked_begins i.asked j.asked (text_key i.dll ++ texts_key i.declared) (text_key j.dll ++ texts_key j.declared) machine.rest in
    let dll = text_begins i.dll j.dll (texts_key i.declared) (texts_key j.declared) asked.rest in
    let declared = texts_front i.declared j.declared [] [] dll.rest in
    same_import i j dll.first declared.first asked.first kind machine.first

aliases_tell : (a b : Alias) → fact_key (Aliases a) ≡ fact_key (Aliases b) → a ≡ b
aliases_tell a b same =
    let weak = text_begins a.weak b.weak (text_key a.target) (text_key b.target)
    (tails 2 2 (text_key a.weak ++ text_key a.target) (text_key b.weak ++ text_key b.target) same) in
    let target = text_front a.target b.target [] [] weak.rest in
    same_alias a b weak.first target.first

pub keys_tell_facts : (f g : Fact) → fact_key f ≡ fact_key g → f ≡ g
unfolding after_kind
keys_tell_facts (Imports i) (Imports j) same = ap Imports (imports_tell i j same)
keys_tell_facts (Imports i) (Aliases b) same = absurd (omega (arith, heads 1 2 (kind_number i.kind ∷ after_kind i) (text_key b.weak ++ text_key b.target) same))
keys_tell_facts (Aliases a) (Imports j) same = absurd (omega (arith, heads 2 1 (text_key a.weak ++ text_key a.target) (kind_number j.kind ∷ after_kind j) same))
keys_tell_facts (Aliases a) (Aliases b) same = ap Aliases (aliases_tell a b same)
