-- The long names and their offsets.
use Rattle.std.proofs.Common.{◌≡◌, ℕ, ◌+◌, ◌^◌, ◌<◌, ◌≤◌, Bool, true, false, List, [], ◌∷◌, ◌++◌, bytes_eq, codes, decimal, get_or, if◌then◌else◌, is_some, length, refl, sym, ap, subst, take, ◌∙◌, append-nil, length-append, arith, unwrap_or}
use Rattle.std.specs.Borrow.{Bor}
use Rattle.std.specs.Map.{lookup}
use Rattle.std.proofs.lemmas.Grind.{flat_map-append}
use Rattle.std.proofs.lemmas.List.{take_more}
use Rattle.std.proofs.lemmas.List.Sums.{fold_push}
use Rattle.implib.specs.Members.MemberSpec.{MemberView}
use Rattle.implib_archive.specs.Archive.{is_long, long_names, member_label, name_end, name_field, names_bytes, offset_of, with_name}
use Rattle.implib_archive.specs.Parts.{Label}
use Rattle.implib_archive.specs.Pushed.{AreMeasured, shown}
use Rattle.implib_archive.specs.declared.kind.Kind.{Kind}

-- the offset that a map of borrowed names has, by the test that finds one
module _ (k : Bor (List ℕ)) (same : Bor (List ℕ) → Bool) (says : (x : Bor (List ℕ)) → same x ≡ bytes_eq k.now x.now) where
  pub offset_found : (entries : List (Bor (List ℕ) × ℕ)) → lookup same entries ≡ offset_of (shown entries) k.now
  unfolding offset_of
  offset_found [] = refl
  offset_found (e ∷ entries) = grind (arith, offset_found entries)

-- the data of one name more
pub names_bytes-push : (kind : Kind) (names : List (List ℕ × ℕ)) (n : List ℕ × ℕ)
    → length (names_bytes kind (names ++ n ∷ [])) ≡ length (names_bytes kind names) + (length n.0 + length (name_end kind))
unfolding names_bytes
names_bytes-push kind names n = grind (arith, flat_map-append, length-append, append-nil)

module _ (kind : Kind) (names : List (List ℕ × ℕ)) (name : List ℕ) where
  -- a short name is not added
  pub with_name-short : is_long name ≡ false → with_name kind names name ≡ names
  unfolding with_name
  with_name-short short = ap (λ b. if b then (if is_some (offset_of names name) then names else names ++ (name, length (names_bytes kind names)) ∷ []) else names) short

  same_both : (b : Bool) → (if b then names else names) ≡ names
  same_both true = refl
  same_both false = refl

  -- nor is one that is there
  pub with_name-found : is_some (offset_of names name) ≡ true → with_name kind names name ≡ names
  unfolding with_name
  with_name-found found = ap (λ b. if is_long name then (if b then names else names ++ (name, length (names_bytes kind names)) ∷ []) else names) found ∙ same_both (is_long name)

  -- any other comes last
  pub with_name-new : is_long name ≡ true → is_some (offset_of names name) ≡ false → with_name kind names name ≡ names ++ (name, length (names_bytes kind names)) ∷ []
  unfolding with_name
  with_name-new long new = grind (arith, is_some)

  longer : (a b : Bool) → length (names_bytes kind names) ≤ length (names_bytes kind (if a then (if b then names else names ++ (name, length (names_bytes kind names)) ∷ []) else names))
  longer true true = omega arith
  longer true false = omega (arith, names_bytes-push kind names (name, length (names_bytes kind names)))
  longer false b = omega arith

  -- the data does not become shorter
  pub with_name-longer : length (names_bytes kind names) ≤ length (names_bytes kind (with_name kind names name))
  unfolding with_name
  with_name-longer = longer (is_long name) (is_some (offset_of names name))

  -- what was measured, after the same names
  pub measured_same : {found : List (List ℕ × ℕ)} {size : ℕ} → with_name kind names name ≡ names → AreMeasured kind names found size → AreMeasured kind (with_name kind names name) found size
  measured_same {found} {size} same m = subst (λ t. AreMeasured kind t found size) (sym same) m

  -- what was measured, where it is too long already
  pub measured_long : {found : List (List ℕ × ℕ)} {size : ℕ} → 2 ^ 32 ≤ size → AreMeasured kind names found size → AreMeasured kind (with_name kind names name) found size
  measured_long far m = grind (arith, with_name-longer)

  -- what was measured, and one name more
  pub measured_more : {found found' : List (List ℕ × ℕ)} {size size' : ℕ} → size < 2 ^ 32 → is_long name ≡ true → is_some (offset_of found name) ≡ false
      → found' ≡ found ++ (name, size) ∷ [] → size' ≡ size + (length name + length (name_end kind))
      → AreMeasured kind names found size → AreMeasured kind (with_name kind names name) found' size'
  measured_more {found} {found'} {size} {size'} near long new after size_after m = grind (arith, with_name-new, is_some, names_bytes-push)

-- the names of one member more
pub long_names-more : (kind : Kind) (members : List MemberView) (i : ℕ) (d : MemberView) → i < length members
    → long_names kind (take (i + 1) members) ≡ with_name kind (long_names kind (take i members)) (get_or members i d).name
unfolding long_names
long_names-more kind members i d within = grind (arith, take_more members i d within, fold_push (λ names m. with_name kind names m.name) [] (take i members) (get_or members i d))

-- the name field of a long name
pub name_field-long : (names : List (List ℕ × ℕ)) (name : List ℕ) → is_long name ≡ true → codes "/" ++ decimal (unwrap_or (offset_of names name) 0) ≡ name_field names name
unfolding name_field
name_field-long names name long = sym (ap (λ b. if b then codes "/" ++ decimal (unwrap_or (offset_of names name) 0) else name ++ codes "/") long)

-- the name field of a short name
pub name_field-short : (names : List (List ℕ × ℕ)) (name : List ℕ) → is_long name ≡ false → name ++ codes "/" ≡ name_field names name
unfolding name_field
name_field-short names name short = sym (ap (λ b. if b then codes "/" ++ decimal (unwrap_or (offset_of names name) 0) else name ++ codes "/") short)

-- the header's texts with this name field
pub label_with : (names : List (List ℕ × ℕ)) (name : List ℕ) {text : List ℕ} {l : Label} → l ≡ record { name = text; date = codes "0"; owner = codes "0"; mode = codes "644" } → text ≡ name_field names name → l ≡ member_label names name
unfolding member_label
label_with names name l t = l ∙ ap (λ x. record { name = x; date = codes "0"; owner = codes "0"; mode = codes "644" }) t
