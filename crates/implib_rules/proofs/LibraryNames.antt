-- The name of a library.
use Rattle.std.proofs.Common.{◌≡◌, ◌≢◌, ◌∙◌, ℕ, ◌+◌, ◌-◌, ◌<◌, Bool, true, false, not, List, [], ap, ◌==◌, arith, get_or, if◌then◌else◌, length, refl, sym, take}
use Rattle.std.specs.List.{before_last, list_any, suffix_len}
use Rattle.std.proofs.lemmas.Bool.{eqb-true, false_from_ne_true}
use Rattle.std.proofs.lemmas.List.{get_or_default}
use Rattle.std.proofs.lemmas.List.Folds.{Any-from_list_any, list_any_at}
use Rattle.std.proofs.lemmas.List.Sums.{suffix_len_is}
use Rattle.implib_rules.specs.LibraryName.{is_full_stop, without_ending}

-- a text is cut before its last byte of a kind
pub cut_before : (c : ℕ) → (c == c) ≡ true → (name : List ℕ) (at : ℕ) → at < length name → get_or name at 0 ≡ c
    → ((i : ℕ) → at < i → i < length name → get_or name i 0 ≢ c) → take at name ≡ before_last (λ b. b == c) name
cut_before c set name at within is last =
    let other : ℕ → Bool = λ b. not (b == c) in
    let behind : suffix_len other name ≡ length name - (at + 1) =
    suffix_len_is other name (at + 1) 0 (omega (arith, within))
    (λ i after inside. ap not (false_from_ne_true (get_or name i 0 == c) (λ same. last i (omega (arith, after)) inside (eqb-true (get_or name i 0) c same))))
    (λ _. ap (λ n. other (get_or name n 0)) (omega arith) ∙ ap other is ∙ ap not set) in
    let count : length name - suffix_len other name - 1 ≡ at = omega (arith, behind, within) in
    sym (ap (λ n. take n name) count)

-- a text without one is cut before all of it
pub none_before : (c : ℕ) (name : List ℕ) → ((i : ℕ) → i < length name → get_or name i 0 ≢ c) → [] ≡ before_last (λ b. b == c) name
none_before c name free =
    let other : ℕ → Bool = λ b. not (b == c) in
    let all : suffix_len other name ≡ length name - 0 =
    suffix_len_is other name 0 0 (omega arith)
    (λ i after inside. ap not (false_from_ne_true (get_or name i 0 == c) (λ same. free i inside (eqb-true (get_or name i 0) c same))))
    (λ positive. absurd (omega (arith, positive))) in
    let count : length name - suffix_len other name - 1 ≡ 0 = omega (arith, all) in
    sym (ap (λ n. take n name) count)

-- a name is cut before its last full stop
pub ending_cut : (name : List ℕ) (at : ℕ) → at < length name → get_or name at 0 ≡ 0x2E
    → ((i : ℕ) → at < i → i < length name → get_or name i 0 ≢ 0x2E) → take at name ≡ without_ending name
ending_cut name at within is last =
    let some : list_any is_full_stop name ≡ true = list_any_at is_full_stop name at 0 within (ap is_full_stop is) in
    cut_before 0x2E refl name at within is last ∙ sym (ap (λ b. if b then before_last is_full_stop name else name) some)

-- a name without a full stop is not cut
pub ending_kept : (name : List ℕ) → ((i : ℕ) → i < length name → get_or name i 0 ≢ 0x2E) → name ≡ without_ending name
ending_kept name free =
    let none : list_any is_full_stop name ≡ false =
    false_from_ne_true (list_any is_full_stop name) (λ some.
    let found = Any-from_list_any is_full_stop name some in
    free found.0 found.2 (get_or_default name found.0 0 found.1 found.2 ∙ found.3 ∙ eqb-true found.1 0x2E found.4)) in
    sym (ap (λ b. if b then before_last is_full_stop name else name) none)
