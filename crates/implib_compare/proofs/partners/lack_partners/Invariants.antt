use Rattle.std.proofs.Common.{◌≡◌, ◌++◌, ◌-◌, ℕ, List, [], drop, map, take}
use Rattle.implib_compare.specs.Partners.{counted, how_many, lack_partners}
use Rattle.implib_compare.proofs.partners.lack_partners.Given as goal

-- what the map has of a key is what is left of it; the flags so far, and then those of the keys left, are all
abbrev pub invariant-loop-key : goal.invariant-loop-key
invariant-loop-key l = record {
  counts : (key : List ℕ) → counted l.counts key ≡ how_many key (map (λ k. k.items) l.others) - how_many key (map (λ k. k.items) (take l.key-index l.keys));
  flags : l.flags.items ++ lack_partners (map (λ k. k.items) (take l.key-index l.keys)) (map (λ k. k.items) (drop l.key-index l.keys)) (map (λ k. k.items) l.others)
      ≡ lack_partners [] (map (λ k. k.items) l.keys) (map (λ k. k.items) l.others);
}
