use Rattle.std.proofs.Common.{◌≡◌, ℕ, List, map, take}
use Rattle.implib_compare.specs.Partners.{counted, how_many}
use Rattle.implib_compare.proofs.partners.counts_of.Given as goal

abbrev pub invariant-loop-key : goal.invariant-loop-key
invariant-loop-key l = (key : List ℕ) → counted l.counts key ≡ how_many key (map (λ k. k.items) (take l.key-index l.keys))
