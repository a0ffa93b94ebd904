-- What is written behind a buffer's bytes, one part after another.
use Rattle.std.proofs.Common.{◌≡◌, ℕ, ◌+◌, ◌-◌, ◌%◌, ◌≤◌, List, [], ◌++◌, Option, Result, Ok, Err, flat_map, length, take, drop, sym, ap, subst, ◌∙◌, append_assoc, append-nil, arith}
use Rattle.std.specs.Borrow.{Bor}
use Rattle.std.specs.Io.KnownBytes.{Appends}
use Rattle.std.specs.Result.{IsErr}
use Rattle.std.proofs.lemmas.Bool.{true≢false}
use Rattle.std.proofs.Math.Seq.{take-add}
use Rattle.std.proofs.lemmas.Grind.{flat_map-append}
use Rattle.std.proofs.lemmas.List.{take-append-drop}
use Rattle.std.proofs.lemmas.List.Folds.{flat_map-map}
use Rattle.implib.specs.Beginning.{AppendsBeginning}
use Rattle.implib_archive.specs.Parts.{Label, header_bytes, padded_part_bytes, padding}
use Rattle.implib_archive.specs.Pushed.{Pushes, shown}
use Rattle.implib_archive.specs.Written.{AppendsBehind, WritesBehind}
use Rattle.implib_archive.proofs.Puts.{appends_nothing, appends_then, begins_more, begins_nothing, begins_then}
use Rattle.implib_archive.proofs.Sized.{padded_is}

-- bytes that the buffer takes
pub behind_pushed : (a : Option (List ℕ)) {old new x : List ℕ} → Pushes old new x → AppendsBehind a a old new x
behind_pushed a p = record { taken = []; whole = sym p.whole; written = appends_nothing a }

-- the same bytes
behind_as : {a b : Option (List ℕ)} {old new x y : List ℕ} → x ≡ y → AppendsBehind a b old new x → AppendsBehind a b old new y
behind_as {a} {b} {old} {new} e p = subst (AppendsBehind a b old new) e p

-- bytes after bytes
pub behind_then : (a b c : Option (List ℕ)) {old mid new x y : List ℕ} → AppendsBehind a b old mid x → AppendsBehind b c mid new y → AppendsBehind a c old new (x ++ y)
behind_then a b c {old} {mid} {new} {x} {y} p q = grind (arith, append_assoc, appends_then)

-- a beginning of the same bytes
pub begins_as : (a b : Option (List ℕ)) (old : List ℕ) {x y : List ℕ} → x ≡ y → AppendsBeginning a b (old ++ x) → AppendsBeginning a b (old ++ y)
begins_as a b old e p = subst (λ t. AppendsBeginning a b (old ++ t)) e p

-- a beginning is one of more bytes
pub begins_longer : (a b : Option (List ℕ)) (old x y : List ℕ) → AppendsBeginning a b (old ++ x) → AppendsBeginning a b (old ++ (x ++ y))
begins_longer a b old x y p = subst (AppendsBeginning a b) (append_assoc old x y) (begins_more a b (old ++ x) y p)

-- a beginning after bytes
pub begins_behind : (a b c : Option (List ℕ)) {old mid x : List ℕ} (y : List ℕ) → AppendsBehind a b old mid x → AppendsBeginning b c (mid ++ y) → AppendsBeginning a c (old ++ (x ++ y))
begins_behind a b c {old} {mid} {x} y p q = grind (arith, append_assoc, begins_then)

-- all bytes are a beginning of more
pub begins_so_far : (a b : Option (List ℕ)) {old mid x : List ℕ} (y : List ℕ) → AppendsBehind a b old mid x → AppendsBeginning a b (old ++ (x ++ y))
begins_so_far a b {old} {mid} y p = begins_behind a b b y p (begins_nothing b (mid ++ y))

-- all bytes are a beginning
pub begins_whole : {a b : Option (List ℕ)} {old new x : List ℕ} → AppendsBehind a b old new x → AppendsBeginning a b (old ++ x)
begins_whole {a} {b} {old} {new} p = record { taken = p.taken; left = new; whole = p.whole; written = p.written }

-- a part whose padding is within its data: whole, and a beginning of it
module _ (a b : Option (List ℕ)) (l : Label) (byte size : ℕ) (contents : List ℕ) {old mid : List ℕ} (long : length contents ≡ size)
    (header : Pushes old mid (header_bytes l (size + size % 2))) where
  pub behind_padded : {last new : List ℕ} → AppendsBehind a b mid last contents → Pushes last new (padding byte size) → AppendsBehind a b old new (padded_part_bytes l byte contents)
  behind_padded inside end' =
      behind_as (padded_is l byte size contents long) (behind_then a b b (behind_then a a b (behind_pushed a header) inside) (behind_pushed b end'))

  pub begins_padded : AppendsBeginning a b (mid ++ contents) → AppendsBeginning a b (old ++ padded_part_bytes l byte contents)
  begins_padded inside =
      begins_as a b old (padded_is l byte size contents long)
      (begins_longer a b old (header_bytes l (size + size % 2) ++ contents) (padding byte size) (begins_behind a a b contents (behind_pushed a header) inside))

-- bytes behind an empty buffer, of which the rest is then written: all, and a beginning
module _ (a b c : Option (List ℕ)) {old mid x slice : List ℕ} (empty : old ≡ []) (inside : AppendsBehind a b old mid x) (same : slice ≡ mid) where
  whole : x ≡ inside.taken ++ slice
  whole = ap (λ t. t ++ x) (sym empty) ∙ inside.whole ∙ ap (λ t. inside.taken ++ t) (sym same)

  pub behind_put : Appends b c slice → Appends a c x
  behind_put put = subst (Appends a c) (sym whole) (appends_then a b c inside.taken slice inside.written put)

  pub begins_put : AppendsBeginning b c slice → AppendsBeginning a c x
  begins_put put = subst (AppendsBeginning a c) (sym whole) (begins_then a b c inside.taken slice inside.written put)

-- a beginning behind an empty buffer
pub begins_first : (a b : Option (List ℕ)) {old : List ℕ} (x : List ℕ) → old ≡ [] → AppendsBeginning a b (old ++ x) → AppendsBeginning a b x
begins_first a b x empty p = subst (λ t. AppendsBeginning a b (t ++ x)) empty p

-- bytes that the buffer takes, and that are written with it
pub behind_emptied : (a b : Option (List ℕ)) {old mid new x : List ℕ} → Pushes old mid x → Appends a b mid → new ≡ [] → AppendsBehind a b old new x
behind_emptied a b {old} {mid} {new} {x} p put empty = record { taken = mid; whole = sym p.whole ∙ (sym (append-nil mid) ∙ ap (λ t. mid ++ t) (sym empty)); written = put }

-- a beginning of them
pub begins_emptied : (a b : Option (List ℕ)) {old mid x : List ℕ} → Pushes old mid x → AppendsBeginning a b mid → AppendsBeginning a b (old ++ x)
begins_emptied a b p put = subst (AppendsBeginning a b) p.whole put

-- an error, after a beginning
pub behind_err : {T E : Type 0} (r : Result T E) (a b : Option (List ℕ)) (old new x : List ℕ) → IsErr r → AppendsBeginning a b (old ++ x) → WritesBehind a b old new x r
behind_err (Ok u) a b old new x is q = absurd (true≢false (sym is))
behind_err (Err e) a b old new x is q = q

-- what a call writes after bytes
pub behind_last : {T E : Type 0} (r : Result T E) (a b c : Option (List ℕ)) {old mid x : List ℕ} (new y : List ℕ) → AppendsBehind a b old mid x → WritesBehind b c mid new y r → WritesBehind a c old new (x ++ y) r
behind_last (Ok u) a b c new y p q = behind_then a b c p q
behind_last (Err e) a b c new y p q = begins_behind a b c y p q

-- the same bytes
pub writes_behind_as : {T E : Type 0} (r : Result T E) (a b : Option (List ℕ)) (old new : List ℕ) {x y : List ℕ} → x ≡ y → WritesBehind a b old new x r → WritesBehind a b old new y r
writes_behind_as r a b old new e q = subst (λ t. WritesBehind a b old new t r) e q

-- the parts of a list, at some elements
module _ {X : Type 0} (f : X → List ℕ) (xs : List X) (lo hi : ℕ) (ordered : lo ≤ hi) where
  some_more : flat_map f (take hi xs) ≡ flat_map f (take lo xs) ++ flat_map f (take (hi - lo) (drop lo xs))
  some_more = grind (arith, take-add lo (hi - lo) xs, flat_map-append f (take lo xs) (take (hi - lo) (drop lo xs)))

  -- some parts more
  pub behind_parts : (a b c : Option (List ℕ)) {old mid new : List ℕ} → AppendsBehind a b old mid (flat_map f (take lo xs)) → AppendsBehind b c mid new (flat_map f (take (hi - lo) (drop lo xs)))
      → AppendsBehind a c old new (flat_map f (take hi xs))
  behind_parts a b c p q = behind_as (sym some_more) (behind_then a b c p q)

  -- a beginning of some parts more
  pub begins_behind_parts : (a b c : Option (List ℕ)) {old mid : List ℕ} → AppendsBehind a b old mid (flat_map f (take lo xs))
      → AppendsBeginning b c (mid ++ flat_map f (take (hi - lo) (drop lo xs))) → AppendsBeginning a c (old ++ flat_map f xs)
  begins_behind_parts a b c {old} p q =
      let rest = flat_map f (drop hi xs) in
      begins_as a c old (ap (λ t. t ++ rest) (sym some_more) ∙ (sym (flat_map-append f (take hi xs) (drop hi xs)) ∙ ap (flat_map f) (take-append-drop hi xs)))
      (begins_longer a c old (flat_map f (take lo xs) ++ flat_map f (take (hi - lo) (drop lo xs))) rest (begins_behind a b c (flat_map f (take (hi - lo) (drop lo xs))) p q))

-- the parts of entries, at some entries
module _ (f : List ℕ × ℕ → List ℕ) (xs : List (Bor (List ℕ) × ℕ)) (lo hi : ℕ) (ordered : lo ≤ hi) where
  of_entry : Bor (List ℕ) × ℕ → List ℕ
  of_entry e = f (e.0.now, e.1)

  parts_are : (ys : List (Bor (List ℕ) × ℕ)) → flat_map f (shown ys) ≡ flat_map of_entry ys
  unfolding of_entry
  parts_are ys = flat_map-map f (λ e. (e.0.now, e.1)) ys

  -- some parts more
  pub behind_entries : (a b c : Option (List ℕ)) {old mid new : List ℕ} → AppendsBehind a b old mid (flat_map f (shown (take lo xs)))
      → AppendsBehind b c mid new (flat_map f (shown (take (hi - lo) (drop lo xs)))) → AppendsBehind a c old new (flat_map f (shown (take hi xs)))
  behind_entries a b c p q =
      behind_as (sym (parts_are (take hi xs)))
      (behind_parts of_entry xs lo hi ordered a b c (behind_as (parts_are (take lo xs)) p) (behind_as (parts_are (take (hi - lo) (drop lo xs))) q))

  -- a beginning of some parts more
  pub begins_behind_entries : (a b c : Option (List ℕ)) {old mid : List ℕ} → AppendsBehind a b old mid (flat_map f (shown (take lo xs)))
      → AppendsBeginning b c (mid ++ flat_map f (shown (take (hi - lo) (drop lo xs)))) → AppendsBeginning a c (old ++ flat_map f (shown xs))
  begins_behind_entries a b c {old} {mid} p q =
      begins_as a c old (sym (parts_are xs))
      (begins_behind_parts of_entry xs lo hi ordered a b c (behind_as (parts_are (take lo xs)) p) (begins_as b c mid (parts_are (take (hi - lo) (drop lo xs))) q))
