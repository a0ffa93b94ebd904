-- What is known of the DLLs that were loaded is what there is of them in the folders.
use Rattle.std.proofs.Common.{◌≡◌, ◌∙◌, ℕ, All, Bool, true, false, List, [], ◌∷◌, ◌++◌, None, Ok, Option, Some, ap, cond, map, refl, subst, sym}
use Rattle.std.specs.List.{list_any}
use Rattle.std.proofs.lemmas.List.Elements.{All-cons, All-head, All-nil, All-tail}
use Rattle.implib_dll.specs.Exports.{Exports}
use Rattle.implib_dll.specs.Outcome.{Read}
use Rattle.implib_compare.specs.DllCheck.Folders.{IsRight, Listing, RightDllsExtend, content_at, content_of, loaded_view}
use Rattle.implib_compare.specs.DllCheck.Forwarding.{End, Holds, Known, ends, is_unknown, known_in}
use Rattle.implib_compare.specs.DllCheck.Laws.{KnownDllsDecide}
use Rattle.implib_compare.specs.declared.dll_check.folder.Loaded.{Loaded}
use Rattle.implib_read.specs.Classes.{MemberRead}
use Rattle.implib_check_driver.specs.Against.{IsAgainst, IsHeldAs, IsHeldThrough, LeadFurther, names_of}
use Rattle.implib_check_driver.specs.Answer.{AnswerView}
use Rattle.implib_check_driver.specs.Calls.{CheckView, is_searching}
use Rattle.implib_check_driver.specs.Through.{ends_through, through}

-- where forwarders lead through what was loaded, they lead through the folders
pub through_right : (file : List ℕ → List ℕ) (folders : List Listing) (dlls : List Known) (e : Exports) (names : List (List ℕ))
    (members : List MemberRead) (found : List (Option End)) → KnownDllsDecide → RightDllsExtend → All (IsRight file folders) dlls
    → found ≡ ends (record { exports = e; names = names; others = known_in dlls }) members → list_any is_unknown found ≡ false
    → found ≡ ends_through (content_at file folders) e names members
through_right file folders dlls e names members found decide extend right is known =
    is ∙ sym (decide (record { exports = e; names = names; others = known_in dlls }) (λ name. Some (content_at file folders name)) members
    (extend file folders dlls right) (subst (λ (ends : List (Option End)). list_any is_unknown ends ≡ false) is known))

-- one more that was loaded
pub right_more : (file : List ℕ → List ℕ) (folders : List Listing) (loaded : List Loaded) (next : Loaded)
    → All (IsRight file folders) (map loaded_view loaded) → IsRight file folders (loaded_view next)
    → All (IsRight file folders) (map loaded_view (loaded ++ next ∷ []))
right_more file folders [] next before here =
    All-cons (IsRight file folders) (loaded_view next) [] here (All-nil (IsRight file folders))
right_more file folders (l ∷ loaded) next before here =
    All-cons (IsRight file folders) (loaded_view l) (map loaded_view (loaded ++ next ∷ []))
    (All-head (IsRight file folders) (loaded_view l) (map loaded_view loaded) before)
    (right_more file folders loaded next (All-tail (IsRight file folders) (loaded_view l) (map loaded_view loaded) before) here)

-- the exports of a file are those that are known
pub same_exports : (seen e : Exports) (read : Read (Option Exports)) → Holds seen ≡ content_of read → read ≡ Ok (Some e) → seen ≡ e
same_exports seen e read held is =
    let both : Holds seen ≡ Holds e = held ∙ ap content_of is in
    cc

-- by what was loaded, a forwarder leads further
pub leads_further : (file : List ℕ → List ℕ) (folders : List Listing) (loaded dlls : List Known) (seen e : Exports) (names : List (List ℕ))
    (members : List MemberRead) (found : List (Option End)) → seen ≡ e → dlls ≡ loaded → All (IsRight file folders) loaded
    → found ≡ ends (record { exports = seen; names = names; others = known_in dlls }) members → list_any is_unknown found ≡ true
    → LeadFurther (content_at file folders) e names members
leads_further file folders loaded dlls seen e names members found same read right is unknown = record {
  known = dlls;
  right = subst (λ (l : List Known). All (IsRight file folders) l) (sym read) right;
  further = subst (λ (x : Exports). list_any is_unknown (ends (record { exports = x; names = names; others = known_in dlls }) members) ≡ true) same
      (subst (λ (f : List (Option End)). list_any is_unknown f ≡ true) is unknown);
}

-- the answer, by where forwarders lead
pub held_through : (file : List ℕ → List ℕ) (folders : List Listing) (loaded dlls : List Known) (seen e : Exports) (names : List (List ℕ))
    (members : List MemberRead) (found : List (Option End)) (a : AnswerView) → KnownDllsDecide → RightDllsExtend → seen ≡ e → dlls ≡ loaded
    → All (IsRight file folders) loaded → found ≡ ends (record { exports = seen; names = names; others = known_in dlls }) members
    → list_any is_unknown found ≡ false → IsHeldAs seen names members found a
    → IsHeldAs e names members (ends_through (content_at file folders) e names members) a
held_through file folders loaded dlls seen e names members found a decide extend same read right is known held =
    let here : found ≡ ends_through (content_at file folders) seen names members =
    through_right file folders dlls seen names members found decide extend (subst (λ (l : List Known). All (IsRight file folders) l) (sym read) right) is known in
    subst (λ (x : Exports). IsHeldAs x names members (ends_through (content_at file folders) x names members) a) same
    (subst (λ (f : List (Option End)). IsHeldAs seen names members f a) here held)

-- folders count only where forwarders are followed
pub through_same : (file : List ℕ → List ℕ) (here there : List Listing) (check : CheckView) → (is_searching check ≡ true → here ≡ there)
    → through file here check ≡ through file there check
through_same file here there check same = by (is_searching check) same
  where
    by : (s : Bool) → (s ≡ true → here ≡ there) → cond s (Some (content_at file here)) None ≡ cond s (Some (content_at file there)) None
    by true same = ap (λ (f : List Listing). Some (content_at file f)) (same refl)
    by false same = refl

-- the answer for members through folders is theirs where forwarders are followed
pub against_through : (file : List ℕ → List ℕ) (folders : List Listing) (check : CheckView) (e : Exports) (names : List (List ℕ))
    (members : List MemberRead) (a : AnswerView) → is_searching check ≡ true → names ≡ names_of check.dll check.definition
    → IsHeldThrough (Some (content_at file folders)) check.definition e names members a
    → IsAgainst (through file folders check) check e members a
against_through file folders check e names members a searching named held =
    subst (λ (s : Bool). IsHeldThrough (cond s (Some (content_at file folders)) None) check.definition e (names_of check.dll check.definition) members a)
    (sym searching)
    (subst (λ (n : List (List ℕ)). IsHeldThrough (Some (content_at file folders)) check.definition e n members a) named held)
