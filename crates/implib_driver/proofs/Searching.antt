-- What is known of the DLLs of folders that were loaded, and the kinds of exports through them.
use Rattle.std.proofs.Common.{◌≡◌, ◌∙◌, ℕ, All, List, [], ◌∷◌, ◌++◌, Ok, Option, Some, false, map, refl, subst, sym}
use Rattle.std.specs.Prelude.{count_by}
use Rattle.std.proofs.lemmas.List.Elements.{All-cons, All-head, All-nil, All-tail}
use Rattle.implib.specs.Definition.{ExportView}
use Rattle.implib_dll.specs.Exports.{Exports}
use Rattle.implib_dll.specs.Outcome.{Read}
use Rattle.implib_compare.specs.DllCheck.Folders.{IsRight, Listing, RightDllsExtend, content_at, loaded_view}
use Rattle.implib_compare.specs.DllCheck.Forwarding.{Known, known_in}
use Rattle.implib_compare.specs.DllCheck.Kinds.{KnownDllsDecideKinds, is_astray, kinds_followed, unknown_dlls}
use Rattle.implib_compare.specs.declared.dll_check.folder.Loaded.{Loaded}
use Rattle.implib_options.specs.Given.{has_values}
use Rattle.implib_driver.specs.Search.{AreFollowed, beside_folders}

-- one more that was loaded
pub right_more : (file : List ℕ → List ℕ) (folders : List Listing) (loaded : List Loaded) (next : Loaded)
    → All (IsRight file folders) (map loaded_view loaded) → IsRight file folders (loaded_view next)
    → All (IsRight file folders) (map loaded_view (loaded ++ next ∷ []))
right_more file folders [] next before here =
    All-cons (IsRight file folders) (loaded_view next) [] here (All-nil (IsRight file folders))
right_more file folders (l ∷ loaded) next before here =
    All-cons (IsRight file folders) (loaded_view l) (map loaded_view (loaded ++ next ∷ []))
    (All-head (IsRight file folders) (loaded_view l) (map loaded_view loaded) before)
    (right_more file folders loaded next (All-tail (IsRight file folders) (loaded_view l) (map loaded_view loaded) before) here)

-- kinds through the DLLs that were loaded are those through the folders
pub followed_through : (file : List ℕ → List ℕ) (folders : List Listing) (dlls : List Known) (names : List (List ℕ)) (e : Exports)
    (before after : List ExportView) (astray : ℕ) → KnownDllsDecideKinds → RightDllsExtend → All (IsRight file folders) dlls
    → unknown_dlls (record { exports = e; names = names; others = known_in dlls }) before ≡ []
    → AreFollowed (record { exports = e; names = names; others = known_in dlls }) before after astray
    → AreFollowed (beside_folders file folders names e) before after astray
followed_through file folders dlls names e before after astray decide extend right none followed =
    let decided = decide (record { exports = e; names = names; others = known_in dlls }) (λ name. Some (content_at file folders name)) before
    (extend file folders dlls right) none in
    record { kinds = followed.kinds ∙ sym decided.kinds; counted = followed.counted ∙ sym decided.astray }

-- the same of DLLs that are read again, and of the exports of bytes
pub marked_through : (file : List ℕ → List ℕ) (folders : List Listing) (loaded dlls : List Known) (names : List (List ℕ))
    (read : Read (Option Exports)) (seen e : Exports) (before after : List ExportView) (astray : ℕ) (unknown : List (List ℕ))
    → KnownDllsDecideKinds → RightDllsExtend → dlls ≡ loaded → read ≡ Ok (Some seen) → read ≡ Ok (Some e)
    → All (IsRight file folders) loaded
    → unknown ≡ [] → unknown ≡ unknown_dlls (record { exports = seen; names = names; others = known_in dlls }) before
    → astray ≡ count_by (is_astray (record { exports = seen; names = names; others = known_in dlls })) before
    → after ≡ kinds_followed (record { exports = seen; names = names; others = known_in dlls }) before
    → AreFollowed (beside_folders file folders names e) before after astray
marked_through file folders loaded dlls names read seen e before after astray unknown decide extend same reads here right none all counted marked =
    let one : seen ≡ e = cc in
    subst (λ (x : Exports). AreFollowed (beside_folders file folders names x) before after astray) one
    (followed_through file folders dlls names seen before after astray decide extend
    (subst (λ (l : List Known). All (IsRight file folders) l) (sym same) right) (sym all ∙ none)
    (record { kinds = marked; counted = counted }))

pub no_values : (values : List (List ℕ)) → has_values values ≡ false → values ≡ []
no_values [] none = refl
no_values (value ∷ values) none = absurd cc
