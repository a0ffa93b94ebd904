-- Exports of a word that one before them declares.
use Rattle.std.proofs.Math.Bool.{or-false}
use Rattle.std.proofs.Common.{arith, ◌≡◌, ◌∙◌, ℕ, zero, suc, ◌+◌, ◌<◌, Bool, true, false, ◌||◌, List, [], ◌∷◌, ◌++◌, Some, ap, append-nil, append_assoc, bytes_eq, drop, get_or, length, map, refl, take, cond}
use Rattle.std.specs.Prelude.{slice_get}
use Rattle.std.specs.List.{list_any}
use Rattle.std.proofs.lemmas.Bool.{true≢false}
use Rattle.std.proofs.lemmas.Option.{none-some}
use Rattle.std.proofs.lemmas.List.{drop_more, map-append, take_more}
use Rattle.std.proofs.lemmas.List.Folds.{list_any-append}
use Rattle.std.proofs.lemmas.Slice.Eq.{bytes_eq-Decides}
use Rattle.implib.specs.declared.def.definition.ShortExport.{ShortExport}
use Rattle.implib.specs.Definition.{ExportView, export_view}
use Rattle.implib_rules.specs.Linked.{declares, is_declared}
use Rattle.implib_rules.specs.Repeats.{left_out, left_out_by, left_out_if, repeats, repeats_behind, without_repeated}

-- the exports up to an index and the one there
pub one_more : (items : List ShortExport) (index : ℕ) (d : ShortExport) → index < length items
    → map export_view (take (index + 1) items) ≡ map export_view (take index items) ++ export_view (get_or items index d) ∷ []
one_more items index d within =
    ap (map export_view) (take_more items index d within) ∙ map-append export_view (take index items) (get_or items index d ∷ [])

-- one export more declares its word, unless it is private
pub declared_more : (word : List ℕ) (items : List ShortExport) (index : ℕ) (d : ShortExport) → index < length items
    → is_declared (map export_view (take (index + 1) items)) word
    ≡ (is_declared (map export_view (take index items)) word || declares (export_view (get_or items index d)) word)
declared_more word items index d within =
    cc (one_more items index d within, list_any-append (λ x. declares x word) (map export_view (take index items)) ((export_view (get_or items index d)) ∷ []), or-false (declares (export_view (get_or items index d)) word))

-- one flag more
pub flags_more : (items : List ShortExport) (index : ℕ) (d : ShortExport) (flags all : List Bool) (flag : Bool) → index < length items
    → flag ≡ repeats (map export_view (take index items)) (export_view (get_or items index d))
    → flags ++ repeats_behind (map export_view (take index items)) (map export_view (drop index items)) ≡ all
    → (flags ++ flag ∷ []) ++ repeats_behind (map export_view (take (index + 1) items)) (map export_view (drop (index + 1) items)) ≡ all
flags_more items index d flags all flag within is before = grind (arith, append_assoc, one_more, drop_more)

word_added_by : (key word : List ℕ) (there back old new : Bool) → bytes_eq key word ≡ there → bytes_eq word key ≡ back → new ≡ cond there true old → new ≡ (old || back)
word_added_by key word there back old new t b is = grind (arith, true≢false, bytes_eq-Decides)

-- the words of a set with one word more
pub word_added : (key word : List ℕ) (old new : Bool) → new ≡ cond (bytes_eq key word) true old → new ≡ (old || bytes_eq word key)
word_added key word old new is = word_added_by key word (bytes_eq key word) (bytes_eq word key) old new refl refl is

-- by a test that a flag passes that is set
module _ (test : Bool → Bool) (set : test true ≡ true) where
  flag_unset : (flag : Bool) → test flag ≡ false → flag ≡ false
  flag_unset flag unset = grind (arith, true≢false)

  none_set : (flags : List Bool) (e : ExportView) → list_any test flags ≡ false → (left_out_by flags e ≡ e) × (list_any test (drop 1 flags) ≡ false)
  none_set flags e unset = grind (arith, flag_unset)

  pub none_left_out : (flags : List Bool) (exports : List ExportView) → list_any test flags ≡ false → left_out flags exports ≡ exports
  none_left_out flags [] unset = refl
  none_left_out flags (e ∷ exports) unset = grind (arith, none_set flags e unset, none_left_out (drop 1 flags) exports)

-- the export at an index, after others, is left out where it repeats a word of those before it
left_out_behind : (before exports : List ExportView) (index : ℕ) (e : ExportView) → slice_get exports index ≡ Some e
    → slice_get (left_out (repeats_behind before exports) exports) index ≡ Some (left_out_if (repeats (before ++ take index exports) e) e)
left_out_behind before [] zero e at = absurd (none-some e at)
left_out_behind before [] (suc index) e at = absurd (none-some e at)
left_out_behind before (first ∷ exports) zero e at =
    cc (at, append-nil before)
left_out_behind before (first ∷ exports) (suc index) e at =
    cc (left_out_behind (before ++ first ∷ []) exports index e at, append_assoc before (first ∷ []) (take index exports))

pub left_out_at : (exports : List ExportView) (index : ℕ) (e : ExportView) → slice_get exports index ≡ Some e
    → slice_get (without_repeated exports) index ≡ Some (left_out_if (repeats (take index exports) e) e)
unfolding without_repeated
left_out_at exports index e at = left_out_behind [] exports index e at
