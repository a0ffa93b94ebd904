-- The loop over a definition's exports for GNU's linker: what is left to make, and the turning of what is made.
use Rattle.std.proofs.Common.{arith, ◌≡◌, ℕ, ◌+◌, Bool, true, false, if◌then◌else◌, ◌||◌, List, [], ◌∷◌, ◌++◌, map, reverse, None, refl, ap, sym, ◌∙◌, append_assoc}
use Rattle.std.specs.Prelude.{not}
use Rattle.std.specs.List.{filter, list_all, list_any}
use Rattle.std.proofs.lemmas.List.{map-append, reverse-append}
use Rattle.std.proofs.lemmas.List.Folds.{list_any-append}
use Rattle.implib.specs.declared.flavor.Flavor.TheVariants.{Gnu}
use Rattle.implib.specs.declared.machine.MachineType.{MachineType}
use Rattle.implib.specs.Definition.{ExportView}
use Rattle.implib.specs.Members.MemberSpec.{MemberView, MemberSpec, member_of}
use Rattle.implib.specs.Members.Members.{has_u16_ordinal, is_too_long}
use Rattle.implib.specs.Members.NameRules.{name_refusal, names_refusal}
use Rattle.implib.proofs.Members.NotRefused.{first_none}

-- the members so far and those of the exports that are left, numbered from a number, are all; none so far is too long
pub record Left (machine : MachineType) (numbered : ℕ → List ExportView → List MemberSpec) (all : List MemberView) (long sound : Bool)
    (index number : ℕ) (members : List MemberView) (exports : List ExportView) : Type 0 where
  pub named : names_refusal Gnu machine index exports ≡ None
  pub made : members ++ map member_of (numbered number (filter (λ e. not e.private) exports)) ≡ all
  pub fit : list_any is_too_long (numbered number (filter (λ e. not e.private) exports)) ≡ long
  pub ordinals : list_all has_u16_ordinal (filter (λ e. not e.private) exports) ≡ sound

module _ (machine : MachineType) (numbered : ℕ → List ExportView → List MemberSpec) (all : List MemberView) (long sound : Bool) (index number : ℕ) (members : List MemberView) (e : ExportView) (exports : List ExportView) where
  abbrev public : List ExportView
  public = filter (λ x. not x.private) exports

  rest_named : names_refusal Gnu machine index (e ∷ exports) ≡ None → names_refusal Gnu machine (index + 1) exports ≡ None
  rest_named named = (first_none (if e.private then None else name_refusal Gnu machine index e) (names_refusal Gnu machine (index + 1) exports) named).1

  kept : e.private ≡ false → filter (λ x. not x.private) (e ∷ exports) ≡ e ∷ public
  kept unhidden = ap (λ test. if not test then e ∷ public else public) unhidden

  passed : e.private ≡ true → filter (λ x. not x.private) (e ∷ exports) ≡ public
  passed private = ap (λ test. if not test then e ∷ public else public) private

  -- after a private export
  pub left_private : e.private ≡ true → Left machine numbered all long sound index number members (e ∷ exports) → Left machine numbered all long sound (index + 1) number members exports
  left_private private left = grind (arith, rest_named, passed)

  -- after an export whose members are made
  pub left_public : (specs : List MemberSpec) (extended : List MemberView) → numbered number (e ∷ public) ≡ specs ++ numbered (number + 1) public →
      e.private ≡ false → Left machine numbered all long sound index number members (e ∷ exports) →
      extended ≡ members ++ map member_of specs → list_any is_too_long specs ≡ false → has_u16_ordinal e ≡ true →
      Left machine numbered all long sound (index + 1) (number + 1) extended exports
  left_public specs extended step unhidden left made short ordinal = grind (arith, kept, rest_named, append_assoc, map-append, list_any-append)

-- From the last to the first.

pub map-reverse : {X Y : Type 0} (f : X → Y) (xs : List X) → map f (reverse xs) ≡ reverse (map f xs)
map-reverse f [] = refl
map-reverse f (x ∷ xs) =
    ap (map f) (reverse-append (x ∷ []) xs)
    ∙ (map-append f (reverse xs) (x ∷ [])
    ∙ (ap (λ ys. ys ++ f x ∷ []) (map-reverse f xs) ∙ sym (reverse-append (f x ∷ []) (map f xs))))

pub list_any-reverse : {X : Type 0} (p : X → Bool) (xs : List X) → list_any p (reverse xs) ≡ list_any p xs
list_any-reverse p [] = refl
list_any-reverse p (x ∷ xs) =
    ap (list_any p) (reverse-append (x ∷ []) xs)
    ∙ (list_any-append p (reverse xs) (x ∷ [])
    ∙ (ap (λ b. b || (p x || false)) (list_any-reverse p xs) ∙ last_first (list_any p xs) (p x)))
  where
    last_first : (a b : Bool) → a || (b || false) ≡ b || a
    last_first true true = refl
    last_first true false = refl
    last_first false true = refl
    last_first false false = refl

-- what was built, the head and the tail, turned round
pub turned : {X : Type 0} (built : List X) (head tail : X) → reverse (built ++ head ∷ tail ∷ []) ≡ tail ∷ head ∷ reverse built
turned built head tail = reverse-append built (head ∷ tail ∷ [])

-- what is made, turned round, is the members of the specifications turned round
pub made_turned : (members : List MemberView) (built : List MemberSpec) (head tail : MemberSpec) → members ≡ map member_of built ++ map member_of (head ∷ tail ∷ []) →
    reverse members ≡ map member_of (tail ∷ head ∷ reverse built)
made_turned members built head tail made = grind (arith, made, map-append, map-reverse, turned)

-- a specification is too long among them where one is among those that were built
pub long_turned : (built : List MemberSpec) (head tail : MemberSpec) →
    list_any is_too_long (tail ∷ head ∷ reverse built) ≡ list_any is_too_long built || list_any is_too_long (head ∷ tail ∷ [])
long_turned built head tail = grind (arith, turned, list_any-reverse, list_any-append)

-- so one is where one is among those that were built
pub long_built : (built : List MemberSpec) (head tail : MemberSpec) → list_any is_too_long built ≡ true → list_any is_too_long (tail ∷ head ∷ reverse built) ≡ true
long_built built head tail long = long_turned built head tail ∙ ap (λ b. b || list_any is_too_long (head ∷ tail ∷ [])) long
