-- What is known of DLLs that were read is what there is of them in the folders.
use Rattle.std.proofs.Common.{◌≡◌, ◌∙◌, ℕ, Bool, true, false, List, [], ◌∷◌, Some, ap, cond, refl, sym}
use Rattle.std.specs.Prelude.{bytes_eq}
use Rattle.std.proofs.lemmas.List.Elements.{All-head, All-tail}
use Rattle.std.proofs.lemmas.Slice.Eq.{bytes_eq-Decides}
use Rattle.implib_compare.specs.DllCheck.Folders.{IsRight, RightDllsExtend, content_at}
use Rattle.implib_compare.specs.DllCheck.Forwarding.{known_in}

same_names : (name other : List ℕ) → bytes_eq name other ≡ true → name ≡ other
same_names name other same = (bytes_eq-Decides name other).0 same

pub right_extends : RightDllsExtend
right_extends file folders [] right name content is = absurd cc
right_extends file folders (d ∷ dlls) right name content is =
    by (bytes_eq name d.name) refl
    (right_extends file folders dlls (All-tail (IsRight file folders) d dlls right) name content) is
  where
    by : (same : Bool) → bytes_eq name d.name ≡ same
        → (known_in dlls name ≡ Some content → Some (content_at file folders name) ≡ Some content)
        → cond same (Some d.content) (known_in dlls name) ≡ Some content → Some (content_at file folders name) ≡ Some content
    by true same later here =
        ap (λ (n : List ℕ). Some (content_at file folders n)) (same_names name d.name same) ∙ (ap Some (sym (All-head (IsRight file folders) d dlls right)) ∙ here)
    by false other later here = later here
