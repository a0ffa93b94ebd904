use Rattle.std.proofs.Common.{arith}
use Rattle.std.proofs.lemmas.List.Sorted.{IsPermutation-trans}
use Rattle.implib_archive.proofs.entries.in_order.Goals as goal

pub returns-clause-same : goal.returns-clause-same
returns-clause-same c = grind (arith, IsPermutation-trans, c.in_ok-sorted.ensures, c.in_ok-sort.ensures.permutation)
