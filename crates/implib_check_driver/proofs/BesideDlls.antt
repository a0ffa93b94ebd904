-- What a library or a definition beside a DLL is answered with.
use Rattle.std.proofs.Common.{◌≡◌, ℕ, List, None, Option, Some, ap, refl, subst, sym}
use Rattle.std.specs.Prelude.{IfSome}
use Rattle.std.specs.Option.{option_map}
use Rattle.implib_check_driver.specs.Answers.{native_seen}

-- the bytes of a native definition whose file is given
pub native_read : (seen : List ℕ → Option (List ℕ)) (native : Option (List ℕ)) (path bytes : List ℕ) → native ≡ Some path
    → IfSome (seen path) (λ file. bytes ≡ file) → IfSome (native_seen seen native) (λ x. Some bytes ≡ x)
native_read seen native path bytes given is =
    subst (λ o. IfSome (native_seen seen o) (λ x. Some bytes ≡ x)) (sym given) (by (seen path) is)
  where
    by : (known : Option (List ℕ)) → IfSome known (λ file. bytes ≡ file) → IfSome (option_map Some known) (λ x. Some bytes ≡ x)
    by None same = tt
    by (Some file) same = ap Some same

-- and where none is given
pub native_none : (seen : List ℕ → Option (List ℕ)) (native : Option (List ℕ)) → native ≡ None → IfSome (native_seen seen native) (λ (x : Option (List ℕ)). None ≡ x)
native_none seen native none = subst (λ o. IfSome (native_seen seen o) (λ x. None ≡ x)) (sym none) refl
