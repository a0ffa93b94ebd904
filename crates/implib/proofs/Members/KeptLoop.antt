-- The loop that keeps the objects of a definition's exports, from the last to the first: what is left to keep.
use Rattle.std.proofs.Common.{◌≡◌, ℕ, suc, ◌+◌, ◌-◌, Bool, true, false, if◌then◌else◌, ◌||◌, ◌&&◌, List, [], ◌∷◌, ◌++◌, length, length-append, add-zero, map, reverse, None, Result, Err, refl, ap, sym, ◌∙◌, append_assoc, arith}
use Rattle.std.specs.Prelude.{not}
use Rattle.std.specs.List.{filter, list_all, list_any}
use Rattle.std.proofs.lemmas.Bool.{or_parts}
use Rattle.std.proofs.lemmas.List.{append-nil, reverse-append}
use Rattle.std.proofs.lemmas.List.Elements.{filter-append}
use Rattle.std.proofs.lemmas.List.Folds.{list_all-append, list_any-append}
use Rattle.implib.specs.declared.error.Error.{Error}
use Rattle.implib.specs.declared.error.Error.TheVariants.{Invalid, OutOfMemory}
use Rattle.implib.specs.declared.flavor.Flavor.TheVariants.{Gnu}
use Rattle.implib.specs.declared.machine.MachineType.{MachineType}
use Rattle.implib.specs.Definition.{ExportView}
use Rattle.implib.specs.Fault.{IfInvalid, MemberTooLong}
use Rattle.implib.specs.Import.{is_alias, is_empty_text}
use Rattle.implib.specs.Members.ExportObjects.{ExportObjectsView}
use Rattle.implib.specs.Views.KeptObjects.{KeepsObjects}
use Rattle.implib.specs.Members.GnuMembers.{alias_specs, export_spec, numbered_specs, numbered_specs_of}
use Rattle.implib.specs.Members.MemberSpec.{MemberSpec, MemberView, member_of}
use Rattle.implib.specs.Members.Members.{has_u16_ordinal, is_too_long}
use Rattle.implib.specs.Members.NameRules.{holds_nul, name_refusal, names_refusal}
use Rattle.implib.specs.Views.MakingKept.{is_public_alias, kept_specs, public_among}
use Rattle.implib.proofs.Members.NotRefused.{first_none}

-- a call that fails
abbrev failed : Error → Result (Unit {0}) Error
failed error = Err error

-- the members so far and those of the exports that are left are all; none so far is too long
pub record LeftToKeep (machine : MachineType) (linked : List ℕ) (all : List MemberView) (long sound : Bool)
    (number : ℕ) (members : List MemberView) (exports : List ExportView) : Type 0 where
  pub named : names_refusal Gnu machine 0 exports ≡ None
  pub plain : list_any is_public_alias exports ≡ false
  pub counted : number ≡ length (public_among exports)
  pub made : members ++ map member_of (kept_specs machine linked exports) ≡ all
  pub fit : list_any is_too_long (kept_specs machine linked exports) ≡ long
  pub ordinals : list_all has_u16_ordinal (public_among exports) ≡ sound

pub public_of : (private : Bool) → not private ≡ true → private ≡ false
public_of true public = cc
public_of false public = refl

pub private_of : (private : Bool) → not private ≡ false → private ≡ true
private_of true private = refl
private_of false private = cc

-- a refusal keeps nothing that is promised
pub keeps_none : (specs : List MemberSpec) (old new : ExportObjectsView) (error : Error)
    → IfInvalid (failed error) (λ cause. (cause ≡ MemberTooLong) × (list_any is_too_long specs ≡ true)) → KeepsObjects specs old new (Err error)
keeps_none specs old new (OutOfMemory refused) is = record { ok = tt; fit = tt; too_long = tt }
keeps_none specs old new (Invalid fault) is = record { ok = tt; fit = tt; too_long = is }

-- what a test of the views of exports says of the exports

pub any_viewed : {X Y : Type 0} (view : X → Y) (p : Y → Bool) (xs : List X) → list_any (λ x. p (view x)) xs ≡ list_any p (map view xs)
any_viewed view p [] = refl
any_viewed view p (x ∷ xs) = ap (λ b. p (view x) || b) (any_viewed view p xs)

pub filter_viewed : {X Y : Type 0} (view : X → Y) (p : Y → Bool) (xs : List X) → length (filter (λ x. p (view x)) xs) ≡ length (filter p (map view xs))
filter_viewed view p [] = refl
filter_viewed view p (x ∷ xs) = grind (arith, filter_viewed view p xs)

module _ (machine : MachineType) where
  others_named : (index : ℕ) (xs : List ExportView) (e : ExportView) → names_refusal Gnu machine index (xs ++ e ∷ []) ≡ None → names_refusal Gnu machine index xs ≡ None
  others_named index [] e none = refl
  others_named index (x ∷ xs) e none =
      let parts = first_none (if x.private then None else name_refusal Gnu machine index x) (names_refusal Gnu machine (index + 1) (xs ++ e ∷ [])) none in
      rw parts.0 (others_named (index + 1) xs e parts.1)

  named_sound : (index : ℕ) (e : ExportView) → name_refusal Gnu machine index e ≡ None → (holds_nul e ≡ false) × (is_empty_text e.name ≡ false)
  named_sound index e none = grind arith

  -- the last export breaks no rule on names
  pub last_sound : (index : ℕ) (xs : List ExportView) (e : ExportView) → e.private ≡ false → names_refusal Gnu machine index (xs ++ e ∷ []) ≡ None
      → (holds_nul e ≡ false) × (is_empty_text e.name ≡ false)
  last_sound index [] e public none = grind (arith, named_sound, first_none)
  last_sound index (x ∷ xs) e public none = grind (arith, last_sound (index + 1) xs e public (first_none (if x.private then None else name_refusal Gnu machine index x) (names_refusal Gnu machine (index + 1) (xs ++ e ∷ [])) none).1, first_none)

plain_last : (xs : List ExportView) (e : ExportView) → list_any is_public_alias (xs ++ e ∷ []) ≡ false → (list_any is_public_alias xs ≡ false) × (is_public_alias e ≡ false)
plain_last xs e none = grind (arith, or_parts, list_any-append)

private_last : (xs : List ExportView) (e : ExportView) → e.private ≡ true → public_among (xs ++ e ∷ []) ≡ public_among xs
private_last xs e private = grind (arith, filter-append, append-nil)

public_last : (xs : List ExportView) (e : ExportView) → e.private ≡ false → public_among (xs ++ e ∷ []) ≡ public_among xs ++ e ∷ []
public_last xs e public = grind (arith, filter-append)

module _ (machine : MachineType) (linked : List ℕ) where
  of_plain : (number : ℕ) (e : ExportView) → is_alias e.alias_target e.name ≡ false → numbered_specs_of machine linked number e ≡ export_spec machine linked number e ∷ []
  unfolding alias_specs
  of_plain number e plain = rw plain refl

  numbered_last : (number : ℕ) (xs : List ExportView) (e : ExportView) → is_alias e.alias_target e.name ≡ false
      → numbered_specs machine linked number (xs ++ e ∷ []) ≡ numbered_specs machine linked number xs ++ export_spec machine linked (number + length xs) e ∷ []
  numbered_last number [] e plain = grind (arith, of_plain, plain, add-zero)
  numbered_last number (x ∷ xs) e plain =
      let index : (number + 1) + length xs ≡ number + suc (length xs) = omega arith in
      ap (λ (specs : List MemberSpec). numbered_specs_of machine linked number x ++ specs) (numbered_last (number + 1) xs e plain)
      ∙ (sym (append_assoc (numbered_specs_of machine linked number x) (numbered_specs machine linked (number + 1) xs) (export_spec machine linked ((number + 1) + length xs) e ∷ []))
      ∙ ap (λ n. (numbered_specs_of machine linked number x ++ numbered_specs machine linked (number + 1) xs) ++ export_spec machine linked n e ∷ []) index)

  kept_last : (xs : List ExportView) (e : ExportView) → e.private ≡ false → is_alias e.alias_target e.name ≡ false
      → kept_specs machine linked (xs ++ e ∷ []) ≡ export_spec machine linked (length (public_among xs)) e ∷ kept_specs machine linked xs
  kept_last xs e public plain = grind (arith, public_last, numbered_last, plain, reverse-append)

module _ (machine : MachineType) (linked : List ℕ) (all : List MemberView) (long sound : Bool) (number : ℕ) (members : List MemberView) (xs : List ExportView) (e : ExportView) where
  -- after a private export
  pub after_private : e.private ≡ true → LeftToKeep machine linked all long sound number members (xs ++ e ∷ []) → LeftToKeep machine linked all long sound number members xs
  after_private private left =
      let same = private_last xs e private in
      record {
        named = others_named machine 0 xs e left.named;
        plain = (plain_last xs e left.plain).0;
        counted = left.counted ∙ ap length same;
        made = sym (ap (λ (x : List ExportView). members ++ map member_of (reverse (numbered_specs machine linked 0 x))) same) ∙ left.made;
        fit = sym (ap (λ (x : List ExportView). list_any is_too_long (reverse (numbered_specs machine linked 0 x))) same) ∙ left.fit;
        ordinals = sym (ap (list_all has_u16_ordinal) same) ∙ left.ordinals;
      }

  -- a public export has a number
  pub counted_last : e.private ≡ false → LeftToKeep machine linked all long sound number members (xs ++ e ∷ []) → number ≡ length (public_among xs) + 1
  counted_last public left = grind (arith, public_last, length-append)

  pub plain_of : e.private ≡ false → LeftToKeep machine linked all long sound number members (xs ++ e ∷ []) → is_alias e.alias_target e.name ≡ false
  plain_of public left = rw public at (plain_last xs e left.plain).1

  kept_next : e.private ≡ false → LeftToKeep machine linked all long sound number members (xs ++ e ∷ [])
      → kept_specs machine linked (xs ++ e ∷ []) ≡ export_spec machine linked (number - 1) e ∷ kept_specs machine linked xs
  kept_next public left = grind (arith, counted_last, kept_last, plain_of)

  -- one that is too long refuses all
  pub long_last : e.private ≡ false → LeftToKeep machine linked all long sound number members (xs ++ e ∷ [])
      → list_any is_too_long (export_spec machine linked (number - 1) e ∷ []) ≡ true → long ≡ true
  long_last public left too_long = grind (arith, kept_next)

  -- after an export that is kept
  pub after_public : (extended : List MemberView) → e.private ≡ false → LeftToKeep machine linked all long sound number members (xs ++ e ∷ [])
      → extended ≡ members ++ map member_of (export_spec machine linked (number - 1) e ∷ []) → list_any is_too_long (export_spec machine linked (number - 1) e ∷ []) ≡ false
      → has_u16_ordinal e ≡ true → LeftToKeep machine linked all long sound (number - 1) extended xs
  after_public extended public left kept short ordinal =
      let next = kept_next public left in
      let counted = counted_last public left in
      let fits = (or_parts (is_too_long (export_spec machine linked (number - 1) e)) false short).0 in
      record {
        named = others_named machine 0 xs e left.named;
        plain = (plain_last xs e left.plain).0;
        counted = omega (arith, counted);
        made = grind (arith, append_assoc);
        fit = grind arith;
        ordinals = grind (arith, last_passes, list_all-append, public_last);
      }
    where
      last_passes : (others last : Bool) → last ≡ true → others && (last && true) ≡ others
      last_passes true last is = rw is refl
      last_passes false last is = refl
