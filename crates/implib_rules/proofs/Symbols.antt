-- A symbol is of one word.
use Rattle.std.proofs.Common.{arith, ◌≡◌, ℕ, Bool, List, ◌∷◌, if◌then◌else◌, refl}
use Rattle.implib.specs.declared.machine.MachineType.{MachineType}
use Rattle.implib.specs.Ascii.{underscore}
use Rattle.implib_rules.specs.Linked.{NamingView, gets_underscore, symbol_of}

module _ (machine : MachineType) (naming : NamingView) where
  by_both : (first second : List ℕ) (a b : Bool) → gets_underscore machine naming first ≡ a → gets_underscore machine naming second ≡ b
      → (if a then underscore ∷ first else first) ≡ (if b then underscore ∷ second else second) → first ≡ second
  by_both first second a b gets also same = grind arith

  -- two words that name one symbol are the same
  pub one_word : (first second : List ℕ) → symbol_of machine naming first ≡ symbol_of machine naming second → first ≡ second
  one_word first second same = by_both first second (gets_underscore machine naming first) (gets_underscore machine naming second) refl refl same
