use Rattle.std.proofs.Common.{◌≡◌, ◌++◌, map, take}
use Rattle.std.specs.List.{flat_map}
use Rattle.implib_compare.specs.Facts.{listed_if}
use Rattle.implib_compare.proofs.keys.push_held.Given as goal

abbrev pub invariant-loop-text : goal.invariant-loop-text
invariant-loop-text l = l.key.items ≡ l.fn.key.items ++ flat_map (listed_if l.wanted) (map (λ t. t.items) (take l.text-index l.texts))
