-- Loops that read what `each_from` has as a whole, or find its first fault.
use Rattle.std.proofs.Common.{◌≡◌, ℕ, suc, ◌+◌, ◌-◌, ◌<◌, ◌≤◌, List, [], ◌∷◌, ◌++◌, Ok, Err, map, refl, ap, ◌∙◌, sym, append-nil, append_assoc, arith}
use Rattle.std.proofs.lemmas.List.{map-append}
use Rattle.implib_dll.specs.declared.fault.ReadError.{ReadError}
use Rattle.implib_dll.specs.declared.fault.ReadError.TheVariants.{Refused, OutOfMemory}
use Rattle.implib_dll.specs.Outcome.{◌>>=◌, Fails, Read, each_from}

-- what was read before, and what is still read
abbrev pub with_front : {X S : Type 0} → List X → Read (List X × S) → Read (List X × S)
with_front front read = read >>= λ found. Ok (front ++ found.0, found.1)

-- the whole is what was read before, and what is read from an index on
pub record Reads {X S : Type 0} (step : ℕ → S → Read (X × S)) (whole : Read (List X × S)) (front : List X) (index count : ℕ) (state : S) : Type 0 where
  pub so_far : with_front front (each_from step index (count - index) state) ≡ whole

regrouped : {X S : Type 0} (front : List X) (x : X) (read : Read (List X × S))
    → with_front front (read >>= λ others. Ok (x ∷ others.0, others.1)) ≡ with_front (front ++ x ∷ []) read
regrouped front x (Ok found) = ap (λ items. Ok (items, found.1)) (sym (append_assoc front (x ∷ []) found.0))
regrouped front x (Err fault) = refl

pub each_from-step : {X S : Type 0} (step : ℕ → S → Read (X × S)) (index left : ℕ) (state later : S) (x : X) → step index state ≡ Ok (x, later)
    → each_from step index (suc left) state ≡ (each_from step (index + 1) left later >>= λ others. Ok (x ∷ others.0, others.1))
unfolding each_from
each_from-step step index left state later x is = grind arith

-- one more, and what it is seen as
pub reads-more : {A X S : Type 0} (view : A → X) (step : ℕ → S → Read (X × S)) (whole : Read (List X × S)) (items next : List A) (x : A) (index count : ℕ) (state later : S)
    → next ≡ items ++ x ∷ [] → index < count → step index state ≡ Ok (view x, later)
    → Reads step whole (map view items) index count state → Reads step whole (map view next) (index + 1) count later
reads-more view step whole items next x index count state later pushed within is reads = grind (arith, each_from-step step index (count - (index + 1)) state later (view x) is, regrouped (map view items) (view x) (each_from step (index + 1) (count - (index + 1)) later), map-append view items (x ∷ []))

-- a step that finds a fault
pub reads-fault : {X S : Type 0} (error : ReadError) (step : ℕ → S → Read (X × S)) (whole : Read (List X × S)) (front : List X) (index count : ℕ) (state : S)
    → index < count → Fails error (step index state) → Reads step whole front index count state → Fails error whole
unfolding each_from
reads-fault OutOfMemory step whole front index count state within fails reads = tt
reads-fault (Refused fault) step whole front index count state within fails reads =
    let more : count - index ≡ suc (count - (index + 1)) = omega arith in
    sym reads.so_far
    ∙ (ap (λ left. with_front front (each_from step index left state)) more
    ∙ ap (λ found. with_front front (found >>= λ found. each_from step (index + 1) (count - (index + 1)) found.1 >>= λ others. Ok (found.0 ∷ others.0, others.1))) fails)

-- the end
pub reads-end : {X S : Type 0} (step : ℕ → S → Read (X × S)) (whole : Read (List X × S)) (front : List X) (index count : ℕ) (state : S)
    → count ≤ index → Reads step whole front index count state → whole ≡ Ok (front, state)
unfolding each_from
reads-end step whole front index count state past reads = grind (arith, append-nil)
