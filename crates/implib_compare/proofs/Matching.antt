-- Keys that all have partners are those of others, in another order.
use Rattle.std.proofs.Common.{◌≡◌, ◌∙◌, inl, inr, ℕ, ◌+◌, ◌<◌, ◌≤◌, Bool, true, false, not, ◌&&◌, ◌||◌, List, [], ◌∷◌, ◌++◌, Option, None, Some, ap, append-nil, append_assoc, arith, bytes_eq, map, nat_le, refl, sym, if◌then◌else◌, subst}
use Rattle.std.specs.List.{cons_option}
use Rattle.std.specs.Option.{option_map_or}
use Rattle.std.proofs.lemmas.Bool.{true≢false}
use Rattle.std.proofs.lemmas.List.{map-append}
use Rattle.std.proofs.lemmas.List.Sums.{sum_by-append, sum_by-cons, sum_by_push}
use Rattle.std.proofs.lemmas.Slice.Eq.{bytes_eq-Decides}
use Rattle.implib_read.specs.Classes.{MemberRead}
use Rattle.implib_compare.specs.Comparison.{Means, Rearranged, SayTheSame, differing, has_other, has_unread, is_some_set, verdict, verdict_of}
use Rattle.implib_compare.specs.Facts.{Fact, Aliases, Imports, both_tell, fact_key, fact_of, facts_of, keys_of, member_key}
use Rattle.implib_compare.specs.Partners.{has_no_byte, how_many, lack_partners, lacks_partner}
use Rattle.implib_compare.proofs.Counting.{one_if}
use Rattle.implib_compare.proofs.KeyTexts.{keys_tell_facts}

-- one key before others
how_many-cons : (key k : List ℕ) (ks : List (List ℕ)) → how_many key (k ∷ ks) ≡ one_if key k + how_many key ks
how_many-cons key k ks = sum_by-cons (one_if key) k ks

how_many-append : (key : List ℕ) (ks ls : List (List ℕ)) → how_many key (ks ++ ls) ≡ how_many key ks + how_many key ls
how_many-append key ks ls = sum_by-append (one_if key) ks ls

how_many-push : (key : List ℕ) (ks : List (List ℕ)) (k : List ℕ) → how_many key (ks ++ k ∷ []) ≡ how_many key ks + one_if key k
how_many-push key ks k = sum_by_push (one_if key) ks k

one_if-same : (key k : List ℕ) → bytes_eq key k ≡ true → one_if key k ≡ 1
one_if-same key k same = ap (λ b. if b then 1 else 0) same

one_if-other : (key k : List ℕ) → bytes_eq key k ≡ false → one_if key k ≡ 0
one_if-other key k other = ap (λ b. if b then 1 else 0) other

same_bytes : (xs : List ℕ) → bytes_eq xs xs ≡ true
same_bytes xs = (bytes_eq-Decides xs xs).1 refl

-- a key with partners
partner_by : (empty le : Bool) → (not empty && le) ≡ false → empty ≡ false → le ≡ false
partner_by true le lacks some = absurd (true≢false some)
partner_by false le lacks some = lacks

above : (a b : ℕ) → nat_le a b ≡ false → b < a
above a b is = grind (arith, is)

below : (a b : ℕ) → nat_le a b ≡ true → a ≤ b
below a b is = grind (arith, is)

-- one more key, which has a partner, leaves a key no oftener than among the others
one_fits : (before : List (List ℕ)) (k : List ℕ) (others : List (List ℕ)) (key : List ℕ) → lacks_partner before k others ≡ false → has_no_byte key ≡ false
    → how_many key before ≤ how_many key others → how_many key (before ++ k ∷ []) ≤ how_many key others
one_fits before k others key has some was = by (bytes_eq key k) refl
  where
    by : (b : Bool) → bytes_eq key k ≡ b → how_many key (before ++ k ∷ []) ≤ how_many key others
    by false other = omega (arith, how_many-push key before k, one_if-other key k other, was)
    by true same =
        let is : key ≡ k = (bytes_eq-Decides key k).0 same in
        let P : List ℕ → Type 0 = λ x. how_many x before < how_many x others in
        let some_k : has_no_byte k ≡ false = ap has_no_byte (sym is) ∙ some in
        let left : how_many k before < how_many k others = above (how_many k others) (how_many k before) (partner_by (has_no_byte k) (nat_le (how_many k others) (how_many k before)) has some_k) in
        omega (arith, how_many-push key before k, one_if-same key k same, subst P (sym is) left)

or_parts : (a b : Bool) → (a || b) ≡ false → (a ≡ false) × (b ≡ false)
or_parts false b is = (refl, is)
or_parts true b is = absurd (true≢false is)

-- where each key has a partner, each is among the keys no oftener than among the others
pub none_lack : (before ks others : List (List ℕ)) (key : List ℕ) → is_some_set (lack_partners before ks others) ≡ false → has_no_byte key ≡ false
    → how_many key before ≤ how_many key others → how_many key (before ++ ks) ≤ how_many key others
none_lack before [] others key set some was = omega (arith, ap (how_many key) (append-nil before), was)
none_lack before (k ∷ ks) others key set some was =
    let parts = or_parts (lacks_partner before k others) (is_some_set (lack_partners (before ++ k ∷ []) ks others)) set in
    let more = none_lack (before ++ k ∷ []) ks others key parts.1 some (one_fits before k others key parts.0 some was) in
    omega (arith, ap (how_many key) (append_assoc before (k ∷ []) ks), more)

-- a key that is among some oftener than among others
pub record Oftener (ks others : List (List ℕ)) : Type 0 where
  pub key : List ℕ
  pub some : has_no_byte key ≡ false
  pub more : how_many key others < how_many key ks

and_parts : (empty le : Bool) → (not empty && le) ≡ true → (empty ≡ false) × (le ≡ true)
and_parts true le is = absurd (true≢false (sym is))
and_parts false le is = (refl, is)

-- where a key has no partner, one is among the keys oftener than among the others
pub some_lack : (before ks others : List (List ℕ)) → is_some_set (lack_partners before ks others) ≡ true → Oftener (before ++ ks) others
some_lack before [] others set = absurd (true≢false (sym set))
some_lack before (k ∷ ks) others set = by (λ rest. some_lack (before ++ k ∷ []) ks others rest) (lacks_partner before k others) refl
  where
    by : (is_some_set (lack_partners (before ++ k ∷ []) ks others) ≡ true → Oftener ((before ++ k ∷ []) ++ ks) others)
        → (b : Bool) → lacks_partner before k others ≡ b → Oftener (before ++ k ∷ ks) others
    by more true lacks =
        let parts = and_parts (has_no_byte k) (nat_le (how_many k others) (how_many k before)) lacks in
        let oftener : how_many k others < how_many k (before ++ k ∷ ks) = omega (arith, below (how_many k others) (how_many k before) parts.1, how_many-append k before (k ∷ ks), how_many-cons k k ks, one_if-same k k (same_bytes k)) in
        record { key = k; some = parts.0; more = oftener }
    by more false has =
        let rest : is_some_set (lack_partners (before ++ k ∷ []) ks others) ≡ true = sym (ap (λ b. b || is_some_set (lack_partners (before ++ k ∷ []) ks others)) has) ∙ set in
        let later = more rest in
        record { key = later.key; some = later.some; more = omega (arith, later.more, ap (how_many later.key) (append_assoc before (k ∷ []) ks)) }

-- the keys of facts
pub keys : List Fact → List (List ℕ)
keys facts = map fact_key facts

has_byte : (f : Fact) → has_no_byte (fact_key f) ≡ false
has_byte (Imports i) = refl
has_byte (Aliases a) = refl

-- a key of no byte is no other
no_byte : (key : List ℕ) → has_no_byte key ≡ false → bytes_eq key [] ≡ false
no_byte [] some = absurd (true≢false some)
no_byte (b ∷ key) some = refl

-- a key is among those of members as often as among those of their facts
pub facts_keys : (told : Bool) (members : List MemberRead) (key : List ℕ) → has_no_byte key ≡ false
    → how_many key (keys_of told members) ≡ how_many key (keys (facts_of told members))
unfolding keys
facts_keys told [] key some = refl
facts_keys told (m ∷ members) key some = by (facts_keys told members key some) (fact_of told m.class) refl
  where
    by : how_many key (keys_of told members) ≡ how_many key (keys (facts_of told members)) → (o : Option Fact) → fact_of told m.class ≡ o → how_many key (keys_of told (m ∷ members)) ≡ how_many key (keys (facts_of told (m ∷ members)))
    by same None none =
        let k : member_key told m.class ≡ [] = ap (λ o. option_map_or fact_key o []) none in
        let fs : facts_of told (m ∷ members) ≡ facts_of told members = ap (λ o. cons_option o (facts_of told members)) none in
        let one : one_if key (member_key told m.class) ≡ 0 = ap (one_if key) k ∙ one_if-other key [] (no_byte key some) in
        omega (arith, how_many-cons key (member_key told m.class) (keys_of told members), one, same, ap (λ l. how_many key (keys l)) fs)
    by same (Some f) is =
        let k : member_key told m.class ≡ fact_key f = ap (λ o. option_map_or fact_key o []) is in
        let fs : facts_of told (m ∷ members) ≡ f ∷ facts_of told members = ap (λ o. cons_option o (facts_of told members)) is in
        how_many-cons key (member_key told m.class) (keys_of told members)
        ∙ ap (λ x. one_if key x + how_many key (keys_of told members)) k
        ∙ ap (λ n. one_if key (fact_key f) + n) same
        ∙ sym (how_many-cons key (fact_key f) (keys (facts_of told members)))
        ∙ sym (ap (λ l. how_many key (keys l)) fs)

-- where a fact is among some
record Split (f : Fact) (facts : List Fact) : Type 0 where
  front : List Fact
  back : List Fact
  is : facts ≡ front ++ f ∷ back

-- a fact whose key is among those of some is among them
split : (f : Fact) (facts : List Fact) → 0 < how_many (fact_key f) (keys facts) → Split f facts
unfolding keys
split f [] some = absurd (omega (arith, some))
split f (g ∷ facts) some = by (λ rest. split f facts rest) (bytes_eq (fact_key f) (fact_key g)) refl
  where
    by : (0 < how_many (fact_key f) (keys facts) → Split f facts) → (b : Bool) → bytes_eq (fact_key f) (fact_key g) ≡ b → Split f (g ∷ facts)
    by more true same =
        let is : f ≡ g = keys_tell_facts f g ((bytes_eq-Decides (fact_key f) (fact_key g)).0 same) in
        record { front = []; back = facts; is = ap (λ x. x ∷ facts) (sym is) }
    by more false other =
        let later = more (omega (arith, some, how_many-cons (fact_key f) (fact_key g) (keys facts), one_if-other (fact_key f) (fact_key g) other)) in
        record { front = g ∷ later.front; back = later.back; is = ap (λ fs. g ∷ fs) later.is }

-- the keys of facts, one of them taken out
keys_split : (key : List ℕ) (f : Fact) (front back : List Fact) → how_many key (keys (front ++ f ∷ back)) ≡ one_if key (fact_key f) + how_many key (keys (front ++ back))
unfolding keys
keys_split key f front back =
    let whole = ap (how_many key) (map-append fact_key front (f ∷ back)) ∙ how_many-append key (map fact_key front) (fact_key f ∷ map fact_key back) in
    let parts = ap (how_many key) (map-append fact_key front back) ∙ how_many-append key (map fact_key front) (map fact_key back) in
    omega (arith, whole, parts, how_many-cons key (fact_key f) (map fact_key back))

no_facts : (facts : List Fact) → ((f : Fact) → 0 ≡ how_many (fact_key f) (keys facts)) → facts ≡ []
unfolding keys
no_facts [] same = refl
no_facts (f ∷ facts) same =
    absurd (omega (arith, same f, how_many-cons (fact_key f) (fact_key f) (keys facts), one_if-same (fact_key f) (fact_key f) (same_bytes (fact_key f))))

-- facts of which each is as often among others are these in another order
pub rearranged : (facts others : List Fact) → ((f : Fact) → how_many (fact_key f) (keys facts) ≡ how_many (fact_key f) (keys others)) → Rearranged facts others
unfolding keys
rearranged [] others same = no_facts others same
rearranged (f ∷ facts) others same =
    let one = split f others (omega (arith, same f, how_many-cons (fact_key f) (fact_key f) (keys facts), one_if-same (fact_key f) (fact_key f) (same_bytes (fact_key f)))) in
    let less : (g : Fact) → how_many (fact_key g) (keys facts) ≡ how_many (fact_key g) (keys (one.front ++ one.back)) =
    λ g. omega (arith, same g, how_many-cons (fact_key g) (fact_key f) (keys facts), ap (λ fs. how_many (fact_key g) (keys fs)) one.is, keys_split (fact_key g) f one.front one.back) in
    (one.front, one.back, one.is, rearranged facts (one.front ++ one.back) less)

-- facts in another order are there as often
pub as_often : (facts others : List Fact) (key : List ℕ) → Rearranged facts others → how_many key (keys facts) ≡ how_many key (keys others)
unfolding keys
as_often [] others key is = ap (λ fs. how_many key (keys fs)) (sym is)
as_often (f ∷ facts) others key is =
    let more = as_often facts (is.0 ++ is.1) key is.3 in
    omega (arith, more, how_many-cons key (fact_key f) (keys facts), ap (λ fs. how_many key (keys fs)) is.2, keys_split key f is.0 is.1)

-- libraries of which no member differs say the same
pub say_the_same : (left right : List MemberRead)
    → is_some_set (differing (both_tell left right) left right) ≡ false → is_some_set (differing (both_tell left right) right left) ≡ false → SayTheSame left right
unfolding keys
say_the_same left right in_left in_right =
    let told = both_tell left right in
    let one : (f : Fact) → how_many (fact_key f) (keys (facts_of told left)) ≤ how_many (fact_key f) (keys (facts_of told right)) =
    λ f. omega (arith, none_lack [] (keys_of told left) (keys_of told right) (fact_key f) in_left (has_byte f) (omega arith), facts_keys told left (fact_key f) (has_byte f), facts_keys told right (fact_key f) (has_byte f)) in
    let other : (f : Fact) → how_many (fact_key f) (keys (facts_of told right)) ≤ how_many (fact_key f) (keys (facts_of told left)) =
    λ f. omega (arith, none_lack [] (keys_of told right) (keys_of told left) (fact_key f) in_right (has_byte f) (omega arith), facts_keys told left (fact_key f) (has_byte f), facts_keys told right (fact_key f) (has_byte f)) in
    rearranged (facts_of told left) (facts_of told right) (λ f. omega (arith, one f, other f))

-- libraries of which a member differs do not
pub left_differs : (told : Bool) (left right : List MemberRead) → is_some_set (differing told left right) ≡ true → Rearranged (facts_of told left) (facts_of told right) → ⊥
unfolding keys
left_differs told left right set same =
    let more = some_lack [] (keys_of told left) (keys_of told right) set in
    omega (arith, more.more, facts_keys told left more.key more.some, facts_keys told right more.key more.some, as_often (facts_of told left) (facts_of told right) more.key same)

pub right_differs : (told : Bool) (left right : List MemberRead) → is_some_set (differing told right left) ≡ true → Rearranged (facts_of told left) (facts_of told right) → ⊥
unfolding keys
right_differs told left right set same =
    let more = some_lack [] (keys_of told right) (keys_of told left) set in
    omega (arith, more.more, facts_keys told left more.key more.some, facts_keys told right more.key more.some, as_often (facts_of told left) (facts_of told right) more.key same)

one_set : (told : Bool) (left right : List MemberRead) (a b : Bool) → is_some_set (differing told left right) ≡ a → is_some_set (differing told right left) ≡ b
    → (a || b) ≡ true → Rearranged (facts_of told left) (facts_of told right) → ⊥
one_set told left right true b first second set = left_differs told left right first
one_set told left right false true first second set = right_differs told left right second
one_set told left right false false first second set = absurd (true≢false (sym set))

-- what each verdict means
pub verdict_means : (left right : List MemberRead) → Means (verdict left right) left right
verdict_means left right = by (has_unread left || has_unread right) (is_some_set (differing (both_tell left right) left right) || is_some_set (differing (both_tell left right) right left)) (has_other left || has_other right) refl refl refl
  where
    by : (u d o : Bool) → (has_unread left || has_unread right) ≡ u → (is_some_set (differing (both_tell left right) left right) || is_some_set (differing (both_tell left right) right left)) ≡ d → (has_other left || has_other right) ≡ o
        → Means (verdict_of u d o) left right
    by true d o unread is other = inl unread
    by false true o unread is other = record {
      differ = one_set (both_tell left right) left right (is_some_set (differing (both_tell left right) left right)) (is_some_set (differing (both_tell left right) right left)) refl refl is;
      read = unread;
    }
    by false false true unread is other =
        let parts = or_parts (is_some_set (differing (both_tell left right) left right)) (is_some_set (differing (both_tell left right) right left)) is in
        inr (say_the_same left right parts.0 parts.1, other)
    by false false false unread is other =
        let parts = or_parts (is_some_set (differing (both_tell left right) left right)) (is_some_set (differing (both_tell left right) right left)) is in
        record { facts = say_the_same left right parts.0 parts.1; read = unread; others = other }
