-- What is missing, one index at a time.
use Rattle.std.proofs.Common.{◌≡◌, ℕ, suc, ◌+◌, ◌<◌, Bool, cond, List, [], ◌∷◌, ◌++◌, length, map, take, get_or, ap, ◌∙◌, sym, append_assoc, append-nil, arith}
use Rattle.std.proofs.lemmas.List.{length-map, length-take, map-append, take_more}
use Rattle.implib.specs.Import.{Ask}
use Rattle.implib_dll.specs.declared.target.Target.{Target as BorrowedTarget}
use Rattle.implib_dll.specs.declared.target.Target.TheVariants.{Empty}
use Rattle.implib_dll.specs.Exports.{Exports, Target}
use Rattle.implib_dll.specs.Views.{target_view}
use Rattle.implib_compare.specs.DllCheck.Missing.{is_missing, missing_from}

-- the index of one more target, if it is missing
pub missing_from-append : (e : Exports) (asks : List Ask) (targets : List Target) (t : Target) (index : ℕ)
    → missing_from e asks (targets ++ t ∷ []) index
    ≡ missing_from e asks targets index ++ cond (is_missing e asks (index + length targets)) ((index + length targets) ∷ []) []
unfolding missing_from
missing_from-append e asks [] t index =
    append-nil _ ∙ ap (λ k. cond (is_missing e asks k) (k ∷ []) []) (omega arith)
missing_from-append e asks (u ∷ targets) t index =
    let here = cond (is_missing e asks index) (index ∷ []) [] in
    let same : index + 1 + length targets ≡ index + suc (length targets) = omega arith in
    let one : ℕ → List ℕ = λ k. cond (is_missing e asks k) (k ∷ []) [] in
    ap (λ later. here ++ later) (missing_from-append e asks targets t (index + 1))
    ∙ (ap (λ k. here ++ (missing_from e asks targets (index + 1) ++ one k)) same
    ∙ sym (append_assoc here (missing_from e asks targets (index + 1)) (one (index + suc (length targets)))))

-- the indexes of some of the targets, and of one more
pub missing-more : (e : Exports) (asks : List Ask) (targets : List BorrowedTarget) (i : ℕ) (before after : List ℕ) (b : Bool) → i < length targets
    → b ≡ is_missing e asks i → before ≡ missing_from e asks (map target_view (take i targets)) 0 → after ≡ before ++ cond b (i ∷ []) []
    → after ≡ missing_from e asks (map target_view (take (i + 1) targets)) 0
missing-more e asks targets i before after b within is are more =
    let t = get_or targets i Empty in
    let one : ℕ → List ℕ = λ k. cond (is_missing e asks k) (k ∷ []) [] in
    let first = map target_view (take i targets) in
    let split : missing_from e asks (map target_view (take (i + 1) targets)) 0 ≡ missing_from e asks first 0 ++ one i =
    ap (λ ts. missing_from e asks (map target_view ts) 0) (take_more targets i Empty within)
    ∙ (ap (λ ts. missing_from e asks ts 0) (map-append target_view (take i targets) (t ∷ []))
    ∙ (missing_from-append e asks first (target_view t) 0 ∙ ap (λ k. missing_from e asks first 0 ++ one k) (count i within))) in
    more ∙ (ap (λ l. l ++ cond b (i ∷ []) []) are ∙ (ap (λ x. missing_from e asks first 0 ++ cond x (i ∷ []) []) is ∙ sym split))
  where
    count : (k : ℕ) → k < length targets → 0 + length (map target_view (take k targets)) ≡ k
    count k low = grind (arith, length-map, length-take, low)
