-- Names in their records.
use Rattle.std.proofs.Common.{◌≡◌, ◌-◌, ◌∙◌, ℕ, drop, take, replicate, ap, arith}
use Rattle.std.proofs.lemmas.List.{drop-replicate, take_all, length-replicate}

-- what is left of 8 NULs past a name fills its field
pub padding : (count : ℕ) → take (8 - count) (drop count (replicate {A = ℕ} 8 0)) ≡ replicate (8 - count) 0
padding count = ap (take (8 - count)) (drop-replicate count 8 0) ∙ take_all (8 - count) (replicate (8 - count) 0) (omega (arith, length-replicate {A = ℕ} (8 - count) 0))
