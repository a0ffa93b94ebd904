-- Words that rise are not repeated.
use Rattle.std.proofs.Common.{arith, ◌≡◌, ◌∙◌, ℕ, true, false, List, [], ◌∷◌, ◌++◌, ap, refl, sym}
use Rattle.std.specs.declared.cmp.Ordering.TheVariants.{Less}
use Rattle.std.specs.Cmp.Lexicographic.{nat_list_cmp_total, slice_cmp}
use Rattle.std.specs.List.{list_any}
use Rattle.std.specs.Ordering.{is_lt, nat_cmp, ordering_reverse}
use Rattle.std.proofs.lemmas.Bool.{true≢false}
use Rattle.std.proofs.lemmas.List.Folds.{list_any-append}
use Rattle.std.proofs.lemmas.Slice.Eq.{bytes_eq-Decides}
use Rattle.implib.specs.Definition.{ExportView}
use Rattle.implib_rules.specs.Linked.{word_of}
use Rattle.implib_rules.specs.Linked.{declares, is_declared}
use Rattle.implib_rules.specs.Repeats.{repeats_behind, without_repeated}
use Rattle.implib_rules.specs.Views.{rise_from}
use Rattle.implib_rules.proofs.LeftOut.{none_left_out}

-- no word comes before itself
not_itself : (word : List ℕ) → slice_cmp nat_cmp word word ≡ Less → ⊥
not_itself word less =
    true≢false (ap is_lt (sym less ∙ nat_list_cmp_total.antisymm word word ∙ ap ordering_reverse less))

-- none of these exports declares a word after this one
abbrev NoneBehind : List ℕ → List ExportView → Type 0
NoneBehind last before = (word : List ℕ) → slice_cmp nat_cmp last word ≡ Less → is_declared before word ≡ false

-- with the export of a word after it
none_behind : (last : List ℕ) (before : List ExportView) (e : ExportView) → slice_cmp nat_cmp last (word_of e) ≡ Less
    → NoneBehind last before → NoneBehind (word_of e) (before ++ e ∷ [])
none_behind last before e less none = λ word behind.
    grind (arith, bytes_eq-Decides word (word_of e), not_itself (word_of e), list_any-append (λ x. declares x word) before (e ∷ []), nat_list_cmp_total.trans last (word_of e) word less behind, none word)

-- exports whose words rise repeat none
none_repeated : (last : List ℕ) (before exports : List ExportView) → NoneBehind last before → rise_from last exports ≡ true
    → list_any (λ f. f) (repeats_behind before exports) ≡ false
none_repeated last before [] none rises = refl
none_repeated last before (e ∷ exports) none rises = grind (arith, none (word_of e), none_behind last before e, none_repeated (word_of e) (before ++ e ∷ []) exports)

-- and stay as they are
pub all_stay : (exports : List ExportView) → rise_from [] exports ≡ true → without_repeated exports ≡ exports
unfolding without_repeated
all_stay exports rises =
    none_left_out (λ f. f) refl (repeats_behind [] exports) exports (none_repeated [] [] exports (λ word less. refl) rises)
