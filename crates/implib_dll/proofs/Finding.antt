-- What a lookup finds.
use Rattle.std.proofs.Common.{◌≡◌, ℕ, zero, suc, ◌+◌, ◌<◌, ◌≤◌, Bool, true, false, ◌&&◌, cond, List, [], ◌∷◌, Option, Some, None, Ordering, length, refl, ap, ◌∙◌, sym, inl, inr, arith}
use Rattle.std.specs.Cmp.Lexicographic.{slice_cmp}
use Rattle.std.specs.List.{slice_get}
use Rattle.std.specs.Option.{option_map, option_map_or}
use Rattle.std.specs.Ordering.{MatchOrdering, is_eq, is_lt, nat_cmp, ordering_reverse}
use Rattle.std.specs.declared.cmp.Ordering.TheVariants.{Less, Equal, Greater}
use Rattle.std.proofs.lemmas.Bool.{cases_lt}
use Rattle.std.proofs.lemmas.Cmp.{nat_list_cmp_total, tied_itself}
use Rattle.std.proofs.lemmas.Map.Lookups.{exact_bytes}
use Rattle.implib_dll.specs.Exports.{NameEntry}
use Rattle.implib_dll.specs.Laws.{FindsExactly, FindsTheName, HintsChangeNothing, NamesLead, OrdinalsLead, RightHintFinds}
use Rattle.implib_dll.specs.Lookup.{is_at, middle, names_rise, order_at, position_of, rise_from, searched, text_at}
use Rattle.implib_dll.proofs.Searching.{searched-above, searched-below, searched-found, searched-none}

-- what an option has is what it is said to have
same_some : {X : Type 0} (o : Option X) (x y : X) → o ≡ Some x → o ≡ Some y → x ≡ y
same_some o x y is also = cc

order_at-text : (names : List NameEntry) (position : ℕ) (text wanted : List ℕ) → text_at names position ≡ Some text
    → order_at names position wanted ≡ slice_cmp nat_cmp text wanted
unfolding order_at
order_at-text names position text wanted is = grind arith

text_at-equal : (names : List NameEntry) (position : ℕ) (wanted : List ℕ) → order_at names position wanted ≡ Equal → text_at names position ≡ Some wanted
unfolding order_at
text_at-equal names position wanted is = found (slice_get names position) is
  where
    found : (o : Option NameEntry) → option_map_or (λ name. slice_cmp nat_cmp name.text wanted) o Greater ≡ Equal → option_map (λ name. name.text) o ≡ Some wanted
    found None is = absurd cc
    found (Some name) is = ap Some (exact_bytes name.text wanted is)

equal_from_is_eq : (order : Ordering) → is_eq order ≡ true → order ≡ Equal
equal_from_is_eq Less is = absurd cc
equal_from_is_eq Equal is = refl
equal_from_is_eq Greater is = absurd cc

equal_itself : (text : List ℕ) → slice_cmp nat_cmp text text ≡ Equal
equal_itself text = tied_itself nat_list_cmp_total text

is_at-text : (names : List NameEntry) (position : ℕ) (wanted : List ℕ) → text_at names position ≡ Some wanted → is_at names position wanted ≡ true
is_at-text names position wanted is = ap is_eq (order_at-text names position wanted wanted is ∙ equal_itself wanted)

-- what a search finds has the name
searched-text : (names : List NameEntry) (wanted : List ℕ) (steps low high position : ℕ) → searched names wanted steps low high ≡ Some position → text_at names position ≡ Some wanted
unfolding searched
searched-text names wanted zero low high position is = absurd cc
searched-text names wanted (suc steps) low high position is =
    let later = λ (from : ℕ) (to : ℕ). searched-text names wanted steps from to position in
    elim (cases_lt low high) [ inl some ↦ by_order later some (order_at names (middle low high) wanted) refl | inr none ↦ absurd (none_found none) ]
  where
    none_found : high ≤ low → ⊥
    none_found none = let same = sym (searched-none names wanted (suc steps) low high none) ∙ is in cc

    by_order : ((from to : ℕ) → searched names wanted steps from to ≡ Some position → text_at names position ≡ Some wanted)
        → low < high → (order : Ordering) → order_at names (middle low high) wanted ≡ order → text_at names position ≡ Some wanted
    by_order later some Less order = later (middle low high + 1) high (sym (searched-above names wanted steps low high some order) ∙ is)
    by_order later some Equal order = grind (arith, same_some, searched-found, text_at-equal)
    by_order later some Greater order = later low (middle low high) (sym (searched-below names wanted steps low high some order) ∙ is)

pub finds_the_name : FindsTheName
finds_the_name names wanted hint position is = by_hint (is_at names hint wanted) refl is
  where
    by_hint : (b : Bool) → is_at names hint wanted ≡ b → cond b (Some hint) (searched names wanted (length names) 0 (length names)) ≡ Some position → text_at names position ≡ Some wanted
    by_hint true here found =
        let same : hint ≡ position = cc in
        ap (text_at names) (sym same) ∙ text_at-equal names hint wanted (equal_from_is_eq _ here)
    by_hint false other found = searched-text names wanted (length names) 0 (length names) position found

pub right_hint_finds : RightHintFinds
right_hint_finds names wanted hint is = ap (λ b. cond b (Some hint) (searched names wanted (length names) 0 (length names))) (is_at-text names hint wanted is)

-- ---- names that rise

abbrev Below : List ℕ → List ℕ → Type 0
Below text other = slice_cmp nat_cmp text other ≡ Less

less_from_is_lt : (order : Ordering) → is_lt order ≡ true → order ≡ Less
less_from_is_lt Less is = refl
less_from_is_lt Equal is = absurd cc
less_from_is_lt Greater is = absurd cc

both_parts : (a b : Bool) → (a && b) ≡ true → (a ≡ true) × (b ≡ true)
both_parts true b is = (refl, is)
both_parts false b is = absurd cc

-- a text is below all names that rise from it
above : (names : List NameEntry) (text other : List ℕ) (position : ℕ) → rise_from text names ≡ true → text_at names position ≡ Some other → Below text other
above [] text other position rises is = absurd cc
above (name ∷ names) text other position rises is =
    let parts = both_parts (is_lt (slice_cmp nat_cmp text name.text)) (rise_from name.text names) rises in
    let first : Below text name.text = less_from_is_lt _ parts.0 in
    by_position position is first (λ k is. above names name.text other k parts.1 is)
  where
    by_position : (position : ℕ) → text_at (name ∷ names) position ≡ Some other → Below text name.text
        → ((k : ℕ) → text_at names k ≡ Some other → Below name.text other) → Below text other
    by_position zero is first later = let same : name.text ≡ other = cc in ap (slice_cmp nat_cmp text) (sym same) ∙ first
    by_position (suc position) is first later = nat_list_cmp_total.trans text name.text other first (later position is)

rest_rises : (text : List ℕ) (names : List NameEntry) → rise_from text names ≡ true → names_rise names ≡ true
rest_rises text [] rises = refl
rest_rises text (name ∷ names) rises = (both_parts (is_lt (slice_cmp nat_cmp text name.text)) (rise_from name.text names) rises).1

pub rising : (names : List NameEntry) (i j : ℕ) (text other : List ℕ) → names_rise names ≡ true → i < j → text_at names i ≡ Some text → text_at names j ≡ Some other → Below text other
rising [] i j text other rises before is also = absurd cc
rising (name ∷ names) i zero text other rises before is also = absurd (omega (arith, before))
rising (name ∷ names) zero (suc j) text other rises before is also = grind (arith, above)
rising (name ∷ names) (suc i) (suc j) text other rises before is also = rising names i j text other (rest_rises name.text names rises) (omega (arith, before)) is also

-- the order of two names is that of their positions
placed : (names : List NameEntry) (i j : ℕ) (text other : List ℕ) (order : Ordering) → names_rise names ≡ true → text_at names i ≡ Some text → text_at names j ≡ Some other
    → slice_cmp nat_cmp text other ≡ order → MatchOrdering order (i < j) (i ≡ j) (j < i)
placed names i j text other order rises is also ordered =
    elim (cases_lt i j) [
      | inl before ↦ less (rising names i j text other rises before is also) before order ordered
      | inr after ↦ elim (cases_lt j i) [
        | inl behind ↦ greater (nat_list_cmp_total.antisymm text other ∙ ap ordering_reverse (rising names j i other text rises behind also is)) behind order ordered
        | inr same ↦ equal (omega (arith, after, same)) order ordered
      ]
    ]
  where
    less : slice_cmp nat_cmp text other ≡ Less → i < j → (order : Ordering) → slice_cmp nat_cmp text other ≡ order → MatchOrdering order (i < j) (i ≡ j) (j < i)
    less so before Less ordered = before
    less so before Equal ordered = absurd cc
    less so before Greater ordered = absurd cc

    greater : slice_cmp nat_cmp text other ≡ Greater → j < i → (order : Ordering) → slice_cmp nat_cmp text other ≡ order → MatchOrdering order (i < j) (i ≡ j) (j < i)
    greater so behind Less ordered = absurd cc
    greater so behind Equal ordered = absurd cc
    greater so behind Greater ordered = behind

    equal : i ≡ j → (order : Ordering) → slice_cmp nat_cmp text other ≡ order → MatchOrdering order (i < j) (i ≡ j) (j < i)
    equal same order ordered = grind (arith, same_some, equal_itself)

text_at-within : (names : List NameEntry) (position : ℕ) (text : List ℕ) → text_at names position ≡ Some text → position < length names
text_at-within [] position text is = absurd cc
text_at-within (name ∷ names) zero text is = omega arith
text_at-within (name ∷ names) (suc position) text is = omega (arith, text_at-within names position text is)

some_text : (names : List NameEntry) (position : ℕ) → position < length names → (text : List ℕ) × (text_at names position ≡ Some text)
some_text [] position within = absurd (omega (arith, within))
some_text (name ∷ names) zero within = (name.text, refl)
some_text (name ∷ names) (suc position) within = some_text names position (omega (arith, within))

-- a search among names that rise finds a name where it stands
searched-rising : (names : List NameEntry) (wanted : List ℕ) (steps low high position : ℕ) → names_rise names ≡ true → text_at names position ≡ Some wanted
    → low ≤ position → position < high → high ≤ length names → high ≤ low + steps → searched names wanted steps low high ≡ Some position
searched-rising names wanted zero low high position rises is from to within enough = absurd (omega (arith, from, to, enough))
searched-rising names wanted (suc steps) low high position rises is from to within enough =
    let some : low < high = omega (arith, from, to) in
    let at = some_text names (middle low high) (omega (arith, some, within)) in
    by_order (λ from to low high within enough. searched-rising names wanted steps from to position rises is low high within enough) some (slice_cmp nat_cmp at.0 wanted) (order_at-text names (middle low high) at.0 wanted at.1)
    (placed names (middle low high) position at.0 wanted (slice_cmp nat_cmp at.0 wanted) rises at.1 is refl)
  where
    by_order : ((from to : ℕ) → from ≤ position → position < to → to ≤ length names → to ≤ from + steps → searched names wanted steps from to ≡ Some position)
        → low < high → (order : Ordering) → order_at names (middle low high) wanted ≡ order → MatchOrdering order (middle low high < position) (middle low high ≡ position) (position < middle low high)
        → searched names wanted (suc steps) low high ≡ Some position
    by_order later some Less order place = grind (arith, searched-above)
    by_order later some Equal order place = searched-found names wanted steps low high some order ∙ ap Some place
    by_order later some Greater order place = grind (arith, searched-below)

pub finds_each : (names : List NameEntry) (wanted : List ℕ) (hint position : ℕ) → names_rise names ≡ true → text_at names position ≡ Some wanted → position_of names wanted hint ≡ Some position
finds_each names wanted hint position rises is = grind (arith, placed, text_at-equal, equal_from_is_eq, equal_itself, searched-rising, text_at-within)

pub finds_exactly : FindsExactly
finds_exactly names wanted hint position rises = (finds_the_name names wanted hint position, finds_each names wanted hint position rises)

pub hints_change_nothing : HintsChangeNothing
hints_change_nothing names wanted hint other rises = by_found (position_of names wanted hint) (position_of names wanted other) refl refl
  where
    by_found : (found also : Option ℕ) → position_of names wanted hint ≡ found → position_of names wanted other ≡ also → found ≡ also
    by_found None None is same = refl
    by_found (Some position) also is same = sym (sym same ∙ finds_each names wanted other position rises (finds_the_name names wanted hint position is))
    by_found None (Some position) is same = sym is ∙ finds_each names wanted hint position rises (finds_the_name names wanted other position same)

pub names_lead : NamesLead
names_lead e name hint position rises is = grind (arith, finds_each e.names name.text hint position rises (ap (option_map (λ n. n.text)) is))

pub ordinals_lead : OrdinalsLead
ordinals_lead e index base small = grind arith
