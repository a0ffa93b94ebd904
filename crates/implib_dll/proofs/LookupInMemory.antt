-- A lookup in memory is a lookup in what was read.
use Rattle.std.proofs.Common.{◌≡◌, ℕ, zero, suc, ◌+◌, ◌*◌, ◌<◌, ◌≤◌, ◌==◌, Bool, cond, List, [], ◌∷◌, ◌++◌, Option, Some, None, Ordering, length, get_or, nat_lt, refl, ap, ◌∙◌, ◌⊎◌, sym, inl, inr, arith}
use Rattle.std.specs.Cmp.Lexicographic.{slice_cmp}
use Rattle.std.specs.List.{slice_get}
use Rattle.std.specs.Option.{option_map_or}
use Rattle.std.specs.Ordering.{is_eq, is_gt, nat_cmp, ordering_then}
use Rattle.std.specs.declared.cmp.Ordering.TheVariants.{Less, Equal, Greater}
use Rattle.std.proofs.lemmas.Bool.{cases_lt, eqb-true, false_from_ne_true, le-ltb, lt-ltb}
use Rattle.std.proofs.lemmas.Option.{slice_get_past}
use Rattle.implib_dll.specs.declared.header.Entry.{Entry}
use Rattle.implib_dll.specs.Exports.{Exports, NameEntry}
use Rattle.implib_dll.specs.Lookup.{order_at, searched}
use Rattle.implib_dll.specs.Memory.{AreAt, LiesIn, LookupsAreThoseInMemory, byte_at, order_from, order_in, searched_in, word_at}
use Rattle.implib_dll.specs.Sections.{Section}

abbrev NoNul : List ℕ → Type 0
NoNul text = (k : ℕ) → k < length text → 0 < get_or text k 0

less_than : (n : ℕ) → 0 < n → nat_cmp 0 n ≡ Less
less_than n some = ap (λ b. cond b Less (cond (0 == n) Equal Greater)) (lt-ltb 0 n some)

greater_than : (n : ℕ) → 0 < n → nat_cmp n 0 ≡ Greater
greater_than n some = grind (arith, false_from_ne_true, eqb-true, le-ltb)

order_from-is : (sections : List Section) (text wanted : List ℕ) (rva : ℕ) → AreAt sections rva (text ++ 0 ∷ []) → NoNul text → NoNul wanted
    → order_from sections rva wanted ≡ slice_cmp nat_cmp text wanted
order_from-is sections [] [] rva at ended none =
    let here : byte_at sections rva ≡ 0 = ap (byte_at sections) (omega arith) ∙ at 0 (omega arith) in
    ap (λ b. nat_cmp b 0) here
order_from-is sections [] (w ∷ wanted) rva at ended none =
    let here : byte_at sections rva ≡ 0 = ap (byte_at sections) (omega arith) ∙ at 0 (omega arith) in
    ap (λ b. ordering_then (nat_cmp b w) (order_from sections (rva + 1) wanted)) here
    ∙ ap (λ o. ordering_then o (order_from sections (rva + 1) wanted)) (less_than w (none 0 (omega arith)))
order_from-is sections (t ∷ text) [] rva at ended none =
    let here : byte_at sections rva ≡ t = ap (byte_at sections) (omega arith) ∙ at 0 (omega arith) in
    ap (λ b. nat_cmp b 0) here ∙ greater_than t (ended 0 (omega arith))
order_from-is sections (t ∷ text) (w ∷ wanted) rva at ended none =
    let here : byte_at sections rva ≡ t = ap (byte_at sections) (omega arith) ∙ at 0 (omega arith) in
    let rest = order_from-is sections text wanted (rva + 1) (λ k within. ap (byte_at sections) (omega arith) ∙ at (suc k) (omega (arith, within)))
    (λ k within. ended (suc k) (omega (arith, within))) (λ k within. none (suc k) (omega (arith, within))) in
    ap (λ b. ordering_then (nat_cmp b w) (order_from sections (rva + 1) wanted)) here
    ∙ ap (ordering_then (nat_cmp t w)) rest

some_name : (names : List NameEntry) (position : ℕ) → position < length names → (name : NameEntry) × (slice_get names position ≡ Some name)
some_name [] position within = absurd (omega (arith, within))
some_name (name ∷ names) zero within = (name, refl)
some_name (name ∷ names) (suc position) within = some_name names position (omega (arith, within))

order_in-is : (sections : List Section) (entry : Entry) (e : Exports) (wanted : List ℕ) → LiesIn sections entry e → NoNul wanted → (position : ℕ) → position < length e.names
    → order_in sections entry wanted position ≡ order_at e.names position wanted
unfolding order_at
order_in-is sections entry e wanted lies none position within =
    let name = some_name e.names position within in
    let text = lies.names position name.0 name.1 in
    order_from-is sections name.0.text wanted (word_at sections (word_at sections (entry.rva + 32) + 4 * position)) text.bytes text.no_nul none
    ∙ sym (ap (λ o. option_map_or (λ n. slice_cmp nat_cmp n.text wanted) o Greater) name.1)

order_at-past : (names : List NameEntry) (position : ℕ) (wanted : List ℕ) → length names ≤ position → order_at names position wanted ≡ Greater
unfolding order_at
order_at-past names position wanted past = ap (λ o. option_map_or (λ n. slice_cmp nat_cmp n.text wanted) o Greater) (slice_get_past names position past)

-- a step of either search
abbrev shape : Bool → Ordering → ℕ → Option ℕ → Option ℕ
shape some order position later = cond some (cond (is_eq order) (Some position) later) None

next_high : (order : Ordering) (position high size : ℕ) → position ≤ size → high ≤ size → cond (is_gt order) position high ≤ size
next_high Less position high size first second = second
next_high Equal position high size first second = second
next_high Greater position high size first second = first

searched_in-is : (order_of : ℕ → Ordering) (names : List NameEntry) (wanted : List ℕ) → ((position : ℕ) → position < length names → order_of position ≡ order_at names position wanted)
    → (steps low high : ℕ) → high ≤ length names → searched_in order_of steps low high ≡ searched names wanted steps low high
unfolding searched searched_in
searched_in-is order_of names wanted same zero low high within = refl
searched_in-is order_of names wanted same (suc steps) low high within = grind (arith, by_room (λ from to fits. searched_in-is order_of names wanted same steps from to fits) (cases_lt low high), cases_lt low high)
  where
    by_room : ((from to : ℕ) → to ≤ length names → searched_in order_of steps from to ≡ searched names wanted steps from to) → (low < high) ⊎ (high ≤ low)
        → searched_in order_of (suc steps) low high ≡ searched names wanted (suc steps) low high
    by_room later (inl some) = grind (arith, nat_lt, next_high)
    by_room later (inr none) = grind (arith, nat_lt, le-ltb)

pub lookups_are_those_in_memory : LookupsAreThoseInMemory
lookups_are_those_in_memory sections entry e wanted hint lies none = grind (arith, order_in-is, searched_in-is, nat_lt, cases_lt, lt-ltb, le-ltb, order_at-past)
