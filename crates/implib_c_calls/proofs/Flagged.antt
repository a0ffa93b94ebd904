-- The rows whose flag is set.
use Rattle.std.proofs.Common.{◌≡◌, ◌∙◌, ℕ, zero, suc, ◌+◌, ◌<◌, Bool, true, false, List, [], ◌∷◌, ◌++◌, ap, arith, get_or, length, map, refl, sym, take}
use Rattle.std.proofs.lemmas.Simd.{map-map}
use Rattle.implib_c_calls.specs.Check.{flagged}
use Rattle.implib_c_calls.specs.Imports.{Row}

-- of no row none is flagged
pub flagged_none : (flags : List Bool) → flagged flags [] ≡ []
flagged_none [] = refl
flagged_none (flag ∷ flags) = refl

module _ {T : Type 0} (f : T → Row) where
  flagged_next : (flags : List Bool) (items : List T) (i : ℕ) (item : T) → i < length items → item ≡ get_or items i item
      → flagged flags (map f (take (suc i) items)) ≡ flagged flags (map f (take i items)) ++ flagged (get_or flags i false ∷ []) (f item ∷ [])
  flagged_next flags [] i item within is = absurd (omega (arith, within))
  flagged_next [] (x ∷ items) zero item within is = refl
  flagged_next [] (x ∷ items) (suc i) item within is = refl
  flagged_next (true ∷ flags) (x ∷ items) zero item within is = rw (flagged_none flags) (ap (λ t. f t ∷ []) (sym is))
  flagged_next (false ∷ flags) (x ∷ items) zero item within is = rw (flagged_none flags) refl
  flagged_next (true ∷ flags) (x ∷ items) (suc i) item within is = ap (λ t. f x ∷ t) (flagged_next flags items i item (omega (arith, within)) is)
  flagged_next (false ∷ flags) (x ∷ items) (suc i) item within is = flagged_next flags items i item (omega (arith, within)) is

  -- one item more
  pub flagged_more : (flags : List Bool) (items : List T) (i : ℕ) (item : T) → i < length items → item ≡ get_or items i item
      → flagged flags (map f (take (i + 1) items)) ≡ flagged flags (map f (take i items)) ++ flagged (get_or flags i false ∷ []) (f item ∷ [])
  flagged_more flags items i item within is = grind (arith, suc, map, take, get_or, false, flagged_next)

-- flags and items as they are known elsewhere
pub flagged_as : {T V : Type 0} (f : V → Row) (view : T → V) (flags known : List Bool) (items : List T) → flags ≡ known → flagged flags (map (λ t. f (view t)) items) ≡ flagged known (map f (map view items))
flagged_as f view flags known items is = ap (λ t. flagged t (map (λ t. f (view t)) items)) is ∙ ap (flagged known) (sym (map-map f view items))
