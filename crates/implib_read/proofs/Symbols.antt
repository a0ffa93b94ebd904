-- The symbol by which an import is linked.
use Rattle.std.proofs.Common.{arith, ◌≡◌, ℕ, List, [], ◌∷◌, ◌++◌, refl}
use Rattle.std.specs.List.{find}
use Rattle.std.specs.Option.{option_or}
use Rattle.implib.specs.Import.{imp_symbol}
use Rattle.implib_read.specs.Symbols.{begins_imp, linked_symbol}

-- what is found in two lists is found in the first, or else in the second
pub find_both : (xs ys : List (List ℕ)) → find begins_imp (xs ++ ys) ≡ option_or (find begins_imp xs) (find begins_imp ys)
find_both [] ys = refl
find_both (x ∷ xs) ys = grind (arith, find_both xs ys)

-- a short import is linked by its name
pub named : (name : List ℕ) (more : List (List ℕ)) → linked_symbol (imp_symbol name ∷ more) ≡ name
named name more = refl
