-- Numbers that are no status, no machine, no flavour and no option, worked by hand.
use Rattle.std.specs.Prelude.{◌≡◌, ℕ, List, [], ◌∷◌, None, codes, map}
use Rattle.implib.specs.Conversions.{machine_numbered}
use Rattle.implib_c_calls.specs.Answer.{flavor_numbered}
use Rattle.implib_c_calls.specs.LibraryWith.{naming_numbered}
use Rattle.implib_c_calls.specs.Status.{text_for}

-- the numbers between the statuses, and greater ones
abbrev pub gaps : List ℕ
gaps = 7 ∷ 8 ∷ 9 ∷ 10 ∷ 11 ∷ 12 ∷ 13 ∷ 14 ∷ 58 ∷ 100 ∷ 256 ∷ 0x10000 ∷ []

-- the numbers, and flags that C has no option for
pub record WorkedGaps : Type 0 where
  pub statuses : map text_for gaps ≡ map (λ number. codes "unknown status") gaps
  pub flavors : map flavor_numbered (2 ∷ 3 ∷ 256 ∷ 0xFFFFFFFF ∷ []) ≡ None ∷ None ∷ None ∷ None ∷ []
  pub machines : map machine_numbered (0x1C0 ∷ 0xA641 ∷ 0x200 ∷ 0xFFFF ∷ [])
      ≡ None ∷ None ∷ None ∷ None ∷ []
  pub unknown_flag : naming_numbered 16 ≡ None
