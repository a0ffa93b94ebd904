-- The binary search, a step at a time.
use Rattle.std.proofs.Common.{◌≡◌, ℕ, zero, suc, ◌+◌, ◌<◌, ◌≤◌, Bool, true, false, cond, List, [], ◌∷◌, Option, Some, None, Ordering, map, length, nat_lt, refl, ap, ◌∙◌, sym, arith}
use Rattle.std.specs.Ordering.{is_eq, is_gt, is_lt}
use Rattle.std.specs.declared.cmp.Ordering.TheVariants.{Less, Equal, Greater}
use Rattle.std.specs.List.{slice_get}
use Rattle.std.proofs.lemmas.Bool.{le-ltb, lt-ltb}
use Rattle.implib_dll.specs.declared.name.Name.{Name}
use Rattle.implib_dll.specs.Exports.{NameEntry}
use Rattle.implib_dll.specs.Lookup.{is_at, middle, order_at, position_of, searched}
use Rattle.implib_dll.specs.Views.{name_view}

pub slice_get-past : {X : Type 0} (xs : List X) (i : ℕ) → length xs ≤ i → slice_get xs i ≡ None
slice_get-past [] i past = refl
slice_get-past (x ∷ xs) zero past = absurd (omega (arith, past))
slice_get-past (x ∷ xs) (suc i) past = slice_get-past xs i (omega (arith, past))

pub length-names : (names : List Name) → length (map name_view names) ≡ length names
length-names [] = refl
length-names (n ∷ names) = ap suc (length-names names)

-- no name is past the end
pub not_at : (names : List Name) (position : ℕ) (wanted : List ℕ) → length names ≤ position → is_at (map name_view names) position wanted ≡ false
unfolding order_at
not_at names position wanted past = grind (arith, slice_get-past, length-names)

-- a step of the search, by the order of what is in the middle
stepped : List NameEntry → List ℕ → ℕ → ℕ → ℕ → ℕ → Bool → Ordering → Option ℕ
stepped names wanted steps low high position some order =
    cond some (cond (is_eq order) (Some position) (searched names wanted steps (cond (is_lt order) (position + 1) low) (cond (is_gt order) position high))) None

searched-step : (names : List NameEntry) (wanted : List ℕ) (steps low high : ℕ)
    → searched names wanted (suc steps) low high ≡ stepped names wanted steps low high (middle low high) (nat_lt low high) (order_at names (middle low high) wanted)
unfolding searched stepped
searched-step names wanted steps low high = refl

-- what is left of a search that has a step
searched-as : (names : List NameEntry) (wanted : List ℕ) (steps low high : ℕ) (order : Ordering) → low < high → order_at names (middle low high) wanted ≡ order
    → searched names wanted (suc steps) low high ≡ stepped names wanted steps low high (middle low high) true order
searched-as names wanted steps low high order some is = grind (arith, searched-step, steps, stepped, lt-ltb)

pub searched-found : (names : List NameEntry) (wanted : List ℕ) (steps low high : ℕ) → low < high → order_at names (middle low high) wanted ≡ Equal
    → searched names wanted (suc steps) low high ≡ Some (middle low high)
unfolding stepped
searched-found names wanted steps low high some is = searched-as names wanted steps low high Equal some is

pub searched-above : (names : List NameEntry) (wanted : List ℕ) (steps low high : ℕ) → low < high → order_at names (middle low high) wanted ≡ Less
    → searched names wanted (suc steps) low high ≡ searched names wanted steps (middle low high + 1) high
unfolding stepped
searched-above names wanted steps low high some is = searched-as names wanted steps low high Less some is

pub searched-below : (names : List NameEntry) (wanted : List ℕ) (steps low high : ℕ) → low < high → order_at names (middle low high) wanted ≡ Greater
    → searched names wanted (suc steps) low high ≡ searched names wanted steps low (middle low high)
unfolding stepped
searched-below names wanted steps low high some is = searched-as names wanted steps low high Greater some is

pub searched-none : (names : List NameEntry) (wanted : List ℕ) (steps low high : ℕ) → high ≤ low → searched names wanted steps low high ≡ None
unfolding searched stepped
searched-none names wanted zero low high none = refl
searched-none names wanted (suc steps) low high none = grind (arith, searched-step, steps, stepped, le-ltb)

-- a search of all names has come down to those from `low` to before `high`
pub record Searches (names : List NameEntry) (wanted : List ℕ) (low high : ℕ) (whole : Option ℕ) : Type 0 where
  pub steps : ℕ
  pub enough : high ≤ low + steps
  pub same : searched names wanted steps low high ≡ whole

-- a search that has a step has steps
pub taken : (names : List NameEntry) (wanted : List ℕ) (low high steps : ℕ) (whole : Option ℕ) → low < high → high ≤ low + steps → searched names wanted steps low high ≡ whole
    → (fewer : ℕ) × (steps ≡ suc fewer) × (searched names wanted (suc fewer) low high ≡ whole)
taken names wanted low high zero whole some enough same = absurd (omega (arith, some, enough))
taken names wanted low high (suc steps) whole some enough same = (steps, refl, same)

pub searches-found : (names : List NameEntry) (wanted : List ℕ) (low high position : ℕ) (whole : Option ℕ) → low < high → position ≡ middle low high
    → order_at names position wanted ≡ Equal → Searches names wanted low high whole → Some position ≡ whole
searches-found names wanted low high position whole some is order s =
    let t = taken names wanted low high s.steps whole some s.enough s.same in
    ap Some is ∙ (sym (searched-found names wanted t.0 low high some (ap (λ p. order_at names p wanted) (sym is) ∙ order)) ∙ t.2)

pub searches-above : (names : List NameEntry) (wanted : List ℕ) (low high position : ℕ) (whole : Option ℕ) → low < high → position ≡ middle low high
    → order_at names position wanted ≡ Less → Searches names wanted low high whole → Searches names wanted (position + 1) high whole
searches-above names wanted low high position whole some is order s =
    let t = taken names wanted low high s.steps whole some s.enough s.same in
    record {
      steps = t.0;
      enough = omega (arith, some, is, s.enough, t.1);
      same = grind (arith, searched-above);
    }

pub searches-below : (names : List NameEntry) (wanted : List ℕ) (low high position : ℕ) (whole : Option ℕ) → low < high → position ≡ middle low high
    → order_at names position wanted ≡ Greater → Searches names wanted low high whole → Searches names wanted low position whole
searches-below names wanted low high position whole some is order s =
    let t = taken names wanted low high s.steps whole some s.enough s.same in
    record {
      steps = t.0;
      enough = omega (arith, some, is, s.enough, t.1);
      same = grind (arith, searched-below);
    }

pub searches-none : (names : List NameEntry) (wanted : List ℕ) (low high : ℕ) (whole : Option ℕ) → high ≤ low → Searches names wanted low high whole → None ≡ whole
searches-none names wanted low high whole none s = sym (searched-none names wanted s.steps low high none) ∙ s.same

-- a name is found without a hint where it is with one past all names
pub found_alone : (names : List Name) (wanted : List ℕ)
    → position_of (map name_view names) wanted (length names) ≡ searched (map name_view names) wanted (length names) 0 (length names)
found_alone names wanted = grind (arith, not_at, length-names)
