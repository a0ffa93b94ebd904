use Rattle.std.proofs.Common.{arith, ◌≡◌, ◌∷◌, ◌++◌, [], List, append_assoc}
use Rattle.implib_read.proofs.arm64ec.push_three.Goals as goal

-- three symbols that are added one after the other
three : {A : Type 0} (old first second third : List A) (x y z : A) → first ≡ old ++ x ∷ [] → second ≡ first ++ y ∷ [] → third ≡ second ++ z ∷ []
    → third ≡ old ++ x ∷ y ∷ z ∷ []
three old first second third x y z one two more = grind (arith, append_assoc)

pub returns : goal.returns
returns c = three _ _ _ _ _ _ _ c.in_ok-push_symbol.ensures c.in_ok-push_symbol-2.ensures c.in_ok-push_symbol-3.ensures
