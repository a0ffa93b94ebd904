-- What a reader finds in name fields, and in the data of long names.
use Rattle.std.proofs.Common.{rules, ◌≡◌, ℕ, zero, suc, ◌-◌, ◌^◌, ◌<◌, ◌≤◌, Bool, true, false, not, ◌&&◌, ◌⊎◌, inl, inr, cond, List, [], ◌∷◌, ◌++◌, Some, None, bytes_eq, codes, decimal, drop, eq-eqb, fold, if◌then◌else◌, is_some, length, nat_eq, nat_le, nat_lt, replicate, take, take_while, unwrap_or, refl, sym, ap, subst, ◌∙◌, append-nil, append_assoc, length-append, arith}
use Rattle.std.specs.List.{AllByRecursion, list_all}
use Rattle.std.proofs.lemmas.Bool.{and_parts, eqb-true, false_from_ne_true, leb-true, or_parts, true≢false}
use Rattle.std.proofs.lemmas.Fmt.{decimal_nonempty}
use Rattle.std.proofs.lemmas.Grind.{flat_map-append}
use Rattle.std.proofs.lemmas.List.{drop_at, take_at}
use Rattle.std.proofs.lemmas.List.Sums.{take_while-cons}
use Rattle.std.proofs.lemmas.Slice.Eq.{bytes_eq-Decides}
use Rattle.implib.specs.Members.MemberSpec.{MemberView}
use Rattle.implib_archive.specs.Archive.{is_long, long_names, name_end, name_field, names_bytes, offset_of, with_name}
use Rattle.implib_archive.specs.Parts.{field}
use Rattle.implib_archive.specs.Reader.{Name, Linker, LongNames, LongAt, Short, Unknown, is_digit, long_name, long_name_at, name_in, number_in, trimmed}
use Rattle.implib_archive.specs.Refusal.{has_byte}
use Rattle.implib_archive.specs.declared.kind.Kind.{Kind}
use Rattle.implib_archive.specs.declared.kind.Kind.TheVariants.{Coff, Gnu}
use Rattle.implib_archive.proofs.Readings.{number_read, read_decimal}

-- Texts up to a byte.

-- a text without a byte, up to that byte
pub stopped : (stop : ℕ) (text rest : List ℕ) → has_byte stop text ≡ false → take_while (λ c. not (nat_eq c stop)) (text ++ stop ∷ rest) ≡ text
stopped stop [] rest none = grind (arith, take_while-cons, nat_eq, take_while, eq-eqb)
stopped stop (c ∷ text) rest none =
    let both = or_parts (nat_eq c stop) (has_byte stop text) none in
    take_while-cons (λ c. not (nat_eq c stop)) c (text ++ stop ∷ rest)
    ∙ (ap (λ b. cond (not b) (c ∷ take_while (λ c. not (nat_eq c stop)) (text ++ stop ∷ rest)) []) both.0 ∙ ap (λ t. c ∷ t) (stopped stop text rest both.1))

-- Fields without the spaces at their end.

and_false : (b : Bool) → (b && false) ≡ false
and_false true = refl
and_false false = refl

trimmed_spaces : (k : ℕ) → trimmed (replicate k 32) ≡ []
unfolding trimmed
trimmed_spaces zero = refl
trimmed_spaces (suc k) = ap (λ t. if nat_eq (length t) 0 then [] else 32 ∷ t) (trimmed_spaces k)

trimmed_slash : (text : List ℕ) (k : ℕ) → trimmed ((text ++ 47 ∷ []) ++ replicate k 32) ≡ text ++ 47 ∷ []
unfolding trimmed
trimmed_slash [] k = ap (λ t. 47 ∷ t) (trimmed_spaces k)
trimmed_slash (c ∷ text) k = grind (arith, trimmed_slash text k, nat_eq, false_from_ne_true, eqb-true, length-append, and_false)

digit_is_none : (d other : ℕ) → other < 48 → is_digit d ≡ true → nat_eq d other ≡ false
digit_is_none d other below is = grind (arith, leb-true, and_parts, nat_le, false_from_ne_true, nat_eq, eqb-true)

trimmed_digits : (digits : List ℕ) (k : ℕ) → list_all is_digit digits ≡ true → trimmed (digits ++ replicate k 32) ≡ digits
unfolding trimmed
trimmed_digits [] k all = trimmed_spaces k
trimmed_digits (d ∷ digits) k all = grind (arith, trimmed_digits digits k (and_parts (is_digit d) (list_all is_digit digits) all).1, and_parts, nat_eq, digit_is_none)

trimmed_number : (digits : List ℕ) (k : ℕ) → list_all is_digit digits ≡ true → trimmed (47 ∷ (digits ++ replicate k 32)) ≡ 47 ∷ digits
unfolding trimmed
trimmed_number digits k all = ap (λ t. 47 ∷ t) (trimmed_digits digits k all)

-- Names in fields.

pub linker_named : name_in (field 16 (codes "/")) ≡ Linker
unfolding name_in field trimmed
linker_named = refl

pub long_names_named : name_in (field 16 (codes "//")) ≡ LongNames
unfolding name_in field trimmed
long_names_named = refl

-- what a field says, given its text
abbrev said : List ℕ → List ℕ → List ℕ → Name
said whole text short =
    if bytes_eq text (codes "/") then Linker
    else (if bytes_eq text (codes "//") then LongNames
    else (if bytes_eq text (short ++ 47 ∷ []) then Short short
    else (if nat_eq (length short) 0 then long_name_at (number_in (drop 1 whole)) else Unknown)))

pub short_named : (name : List ℕ) → 0 < length name → has_byte 47 name ≡ false → name_in (field 16 (name ++ codes "/")) ≡ Short name
unfolding name_in field
short_named [] some none = absurd (omega (arith, some))
short_named (c ∷ name) some none =
    let text = (c ∷ name) ++ 47 ∷ [] in
    let whole = text ++ replicate (16 - length text) 32 in
    let other = (or_parts (nat_eq c 47) (has_byte 47 name) none).0 in
    ap (λ t. said whole t (take_while (λ c. not (nat_eq c 47)) t)) (trimmed_slash (c ∷ name) (16 - length text))
    ∙ (ap (said whole text) (stopped 47 (c ∷ name) [] none)
    ∙ (ap (λ b. if b && bytes_eq (name ++ 47 ∷ []) [] then Linker else (if b && bytes_eq (name ++ 47 ∷ []) (47 ∷ []) then LongNames
    else (if bytes_eq text text then Short (c ∷ name) else (if nat_eq (length (c ∷ name)) 0 then long_name_at (number_in (drop 1 whole)) else Unknown)))) other
    ∙ ap (λ b. if b then Short (c ∷ name) else (if nat_eq (length (c ∷ name)) 0 then long_name_at (number_in (drop 1 whole)) else Unknown)) ((bytes_eq-Decides text text).1 refl)))

long_said : (digits : List ℕ) → 0 < length digits → list_all is_digit digits ≡ true → (whole : List ℕ) → said whole (47 ∷ digits) (take_while (λ c. not (nat_eq c 47)) (47 ∷ digits)) ≡ long_name_at (number_in (drop 1 whole))
long_said [] some all whole = absurd (omega (arith, some))
long_said (d ∷ digits) some all whole = search (rules, digit_is_none, and_parts, whole, take_while-cons, nat_eq)

pub long_named : (n : ℕ) → n < 2 ^ 64 → name_in (field 16 (codes "/" ++ decimal n)) ≡ LongAt n
unfolding name_in field long_name_at
long_named n small =
    let digits = decimal n in
    let k = 16 - length (codes "/" ++ digits) in
    let whole = (codes "/" ++ digits) ++ replicate k 32 in
    let all = (read_decimal n small).all in
    let same : k ≡ 15 - length digits = omega (arith, length-append (codes "/") digits) in
    let trim : trimmed whole ≡ 47 ∷ digits = trimmed_number digits k all in
    ap (λ t. said whole t (take_while (λ c. not (nat_eq c 47)) t)) trim
    ∙ (long_said digits (decimal_nonempty n small) all whole
    ∙ (ap (λ j. long_name_at (number_in (digits ++ replicate j 32))) same ∙ ap long_name_at (number_read 15 n small)))

-- Long names in their data.

-- a long name stands in the data at its offset, with its end
record IsHeld (kind : Kind) (data' : List ℕ) (n : List ℕ × ℕ) : Type 0 where
  before : List ℕ
  behind : List ℕ
  whole : data' ≡ before ++ (n.0 ++ (name_end kind ++ behind))
  at : length before ≡ n.1

held_more : (kind : Kind) (data' more : List ℕ) (n : List ℕ × ℕ) → IsHeld kind data' n → IsHeld kind (data' ++ more) n
held_more kind data' more n h = grind (arith, append_assoc)

abbrev AreHeld : Kind → List ℕ → List (List ℕ × ℕ) → Type 0
AreHeld kind data' names = AllByRecursion (IsHeld kind data') names

held_push : (kind : Kind) (data' more : List ℕ) (names : List (List ℕ × ℕ)) (n : List ℕ × ℕ) → AreHeld kind data' names → IsHeld kind (data' ++ more) n → AreHeld kind (data' ++ more) (names ++ n ∷ [])
held_push kind data' more [] n held last = (last, tt)
held_push kind data' more (x ∷ names) n held last = (held_more kind data' more x held.0, held_push kind data' more names n held.1 last)

names_bytes-last : (kind : Kind) (names : List (List ℕ × ℕ)) (n : List ℕ × ℕ) → names_bytes kind (names ++ n ∷ []) ≡ names_bytes kind names ++ (n.0 ++ name_end kind)
unfolding names_bytes
names_bytes-last kind names n = grind (arith, flat_map-append, append-nil)

held_name : (kind : Kind) (names : List (List ℕ × ℕ)) (name : List ℕ) (a b : Bool) → AreHeld kind (names_bytes kind names) names
    → AreHeld kind (names_bytes kind (if a then (if b then names else names ++ (name, length (names_bytes kind names)) ∷ []) else names)) (if a then (if b then names else names ++ (name, length (names_bytes kind names)) ∷ []) else names)
held_name kind names name false b held = held
held_name kind names name true true held = held
held_name kind names name true false held =
    let data' = names_bytes kind names in
    let n : List ℕ × ℕ = (name, length data') in
    let more = name ++ name_end kind in
    let last : IsHeld kind (data' ++ more) n = record { before = data'; behind = []; whole = ap (λ t. data' ++ (name ++ t)) (sym (append-nil (name_end kind))); at = refl } in
    subst (λ t. AreHeld kind t (names ++ n ∷ [])) (sym (names_bytes-last kind names n)) (held_push kind data' more names n held last)

held_names : (kind : Kind) (names : List (List ℕ × ℕ)) (members : List MemberView) → AreHeld kind (names_bytes kind names) names
    → AreHeld kind (names_bytes kind (fold (λ found m. with_name kind found m.name) names members)) (fold (λ found m. with_name kind found m.name) names members)
unfolding with_name
held_names kind names [] held = held
held_names kind names (m ∷ members) held = grind (arith, held_names kind (with_name kind names m.name) members (held_name kind names m.name (is_long m.name) (is_some (offset_of names m.name)) held), held_name, is_some)

-- a name that is among them is held at its offset
held_there : (kind : Kind) (data' : List ℕ) (names : List (List ℕ × ℕ)) (name : List ℕ) → AreHeld kind data' names → is_some (offset_of names name) ≡ true → IsHeld kind data' (name, unwrap_or (offset_of names name) 0)
unfolding offset_of
held_there kind data' [] name held found = absurd (true≢false (sym found))
held_there kind data' (n ∷ names) name held found = grind (arith, held_there kind data' names name held.1, is_some, unwrap_or, bytes_eq-Decides)

-- Each long name is among them.

offset_kept : (names : List (List ℕ × ℕ)) (n : List ℕ × ℕ) (name : List ℕ) → is_some (offset_of names name) ≡ true → is_some (offset_of (names ++ n ∷ []) name) ≡ true
unfolding offset_of
offset_kept [] n name found = absurd (true≢false (sym found))
offset_kept (x ∷ names) n name found = grind (arith, offset_kept names n name, is_some)

offset_last : (names : List (List ℕ × ℕ)) (n : List ℕ × ℕ) → is_some (offset_of (names ++ n ∷ []) n.0) ≡ true
unfolding offset_of
offset_last [] n = ap (λ b. is_some (if b then Some n.1 else None)) ((bytes_eq-Decides n.0 n.0).1 refl)
offset_last (x ∷ names) n = grind (arith, offset_last names n, is_some)

kept_with : (kind : Kind) (names : List (List ℕ × ℕ)) (other name : List ℕ) (a b : Bool) → is_some (offset_of names name) ≡ true
    → is_some (offset_of (if a then (if b then names else names ++ (other, length (names_bytes kind names)) ∷ []) else names) name) ≡ true
kept_with kind names other name false b found = found
kept_with kind names other name true true found = found
kept_with kind names other name true false found = offset_kept names (other, length (names_bytes kind names)) name found

offset_stays : (kind : Kind) (names : List (List ℕ × ℕ)) (members : List MemberView) (name : List ℕ) → is_some (offset_of names name) ≡ true → is_some (offset_of (fold (λ found m. with_name kind found m.name) names members) name) ≡ true
unfolding with_name
offset_stays kind names [] name found = found
offset_stays kind names (m ∷ members) name found = grind (arith, offset_stays kind (with_name kind names m.name) members name (kept_with kind names m.name name (is_long m.name) (is_some (offset_of names m.name)) found), kept_with, is_some)

offset_new : (kind : Kind) (names : List (List ℕ × ℕ)) (name : List ℕ) (b : Bool) → is_some (offset_of names name) ≡ b
    → is_some (offset_of (if b then names else names ++ (name, length (names_bytes kind names)) ∷ []) name) ≡ true
offset_new kind names name true found = found
offset_new kind names name false new = offset_last names (name, length (names_bytes kind names))

-- what is known of the long names of members
abbrev AreAmong : List (List ℕ × ℕ) → List MemberView → Type 0
AreAmong names members = AllByRecursion (λ m. is_long m.name ≡ true → is_some (offset_of names m.name) ≡ true) members

long_among : (kind : Kind) (names : List (List ℕ × ℕ)) (members : List MemberView) → AreAmong (fold (λ found m. with_name kind found m.name) names members) members
unfolding with_name
long_among kind names [] = tt
long_among kind names (m ∷ members) = grind (arith, long_among kind (with_name kind names m.name) members, offset_stays, is_some, offset_new)

-- Reading a long name.

-- a name that is not refused
pub record IsNamed (kind : Kind) (name : List ℕ) : Type 0 where
  pub some : 0 < length name
  pub no_nul : has_byte 0 name ≡ false
  pub no_line_end : kind ≡ Gnu → has_byte 10 name ≡ false

slash_behind : (name : List ℕ) → has_byte 10 name ≡ false → has_byte 10 (name ++ 47 ∷ []) ≡ false
slash_behind [] none = refl
slash_behind (c ∷ name) none = grind (arith, slash_behind name (or_parts (nat_eq c 10) (has_byte 10 name) none).1, or_parts, nat_eq)

long_read : (kind : Kind) (data' : List ℕ) (name : List ℕ) (offset : ℕ) → IsNamed kind name → IsHeld kind data' (name, offset) → long_name kind data' offset ≡ name
unfolding long_name name_end
long_read Coff data' name offset named held =
    ap (λ t. take_while (λ c. not (nat_eq c 0)) (drop offset t)) held.whole
    ∙ (ap (take_while (λ c. not (nat_eq c 0))) (drop_at held.before (name ++ 0 ∷ held.behind) offset held.at) ∙ stopped 0 name held.behind named.no_nul)
long_read Gnu data' name offset named held =
    let line : take_while (λ c. not (nat_eq c 10)) (drop offset data') ≡ name ++ 47 ∷ [] =
    ap (λ t. take_while (λ c. not (nat_eq c 10)) (drop offset t)) held.whole
    ∙ (ap (take_while (λ c. not (nat_eq c 10))) (drop_at held.before (name ++ 47 ∷ 10 ∷ held.behind) offset held.at ∙ sym (append_assoc name (47 ∷ []) (10 ∷ held.behind)))
    ∙ stopped 10 (name ++ 47 ∷ []) held.behind (slash_behind name (named.no_line_end refl))) in
    ap (λ t. take (length t - 1) t) line ∙ take_at name (47 ∷ []) (length (name ++ 47 ∷ []) - 1) (omega (arith, length-append name (47 ∷ [])))

-- What a member's name field says.

-- a field has a name, itself or by the data of the long names
pub record IsLongAt (kind : Kind) (data' field' name : List ℕ) : Type 0 where
  pub offset : ℕ
  pub at : name_in field' ≡ LongAt offset
  pub read : long_name kind data' offset ≡ name

abbrev pub HasName : Kind → List ℕ → List ℕ → List ℕ → Type 0
HasName kind data' field' name = (name_in field' ≡ Short name) ⊎ IsLongAt kind data' field' name

has_name : (kind : Kind) (names : List (List ℕ × ℕ)) (padding' : List ℕ) (name : List ℕ) → length (names_bytes kind names) < 2 ^ 32 → unwrap_or (offset_of names name) 0 ≤ length (names_bytes kind names)
    → AreHeld kind (names_bytes kind names) names → (is_long name ≡ true → is_some (offset_of names name) ≡ true) → IsNamed kind name
    → HasName kind (names_bytes kind names ++ padding') (field 16 (name_field names name)) name
unfolding name_field is_long
has_name kind names padding' name short near held among named = by_test (is_long name) refl
  where
    by_test : (b : Bool) → is_long name ≡ b → HasName kind (names_bytes kind names ++ padding') (field 16 (if b then codes "/" ++ decimal (unwrap_or (offset_of names name) 0) else name ++ codes "/")) name
    by_test true long =
        let offset = unwrap_or (offset_of names name) 0 in
        inr (record {
          offset = offset;
          at = long_named offset (omega (arith, short, near));
          read = search (rules, long_read, held_more, held_there);
        })
    by_test false fits = inl (short_named name named.some (or_parts (nat_lt 15 (length name)) (has_byte 47 name) fits).1)

-- what the name fields of members say
abbrev pub HaveNames : Kind → List ℕ → List (List ℕ × ℕ) → List MemberView → Type 0
HaveNames kind data' names members = AllByRecursion (λ m. HasName kind data' (field 16 (name_field names m.name)) m.name) members

each_named : (kind : Kind) (names : List (List ℕ × ℕ)) (padding' : List ℕ) (members : List MemberView) → length (names_bytes kind names) < 2 ^ 32
    → ((name : List ℕ) → unwrap_or (offset_of names name) 0 ≤ length (names_bytes kind names)) → AreHeld kind (names_bytes kind names) names → AreAmong names members → AllByRecursion (λ m. IsNamed kind m.name) members
    → HaveNames kind (names_bytes kind names ++ padding') names members
each_named kind names padding' [] short near held among named = tt
each_named kind names padding' (m ∷ members) short near held among named = grind (arith, each_named kind names padding' members short near held among.1 named.1, has_name)

pub members_named : (kind : Kind) (members : List MemberView) (padding' : List ℕ) → length (names_bytes kind (long_names kind members)) < 2 ^ 32
    → ((name : List ℕ) → unwrap_or (offset_of (long_names kind members) name) 0 ≤ length (names_bytes kind (long_names kind members))) → AllByRecursion (λ m. IsNamed kind m.name) members
    → HaveNames kind (names_bytes kind (long_names kind members) ++ padding') (long_names kind members) members
unfolding long_names
members_named kind members padding' short near named = grind (arith, each_named kind (long_names kind members) padding' members short near (held_names kind [] members tt) (long_among kind [] members) named, held_names kind [] members tt, long_among kind [] members)
