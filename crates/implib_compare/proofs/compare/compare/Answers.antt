use Rattle.std.proofs.Common.{map, subst, sym}
use Rattle.implib_read.specs.ClassViews.{member_read_view}
use Rattle.implib_compare.specs.Comparison.{Means}
use Rattle.implib_compare.proofs.Matching.{verdict_means}
use Rattle.implib_compare.proofs.compare.compare.Goals as goal

pub returns-clause-means : goal.returns-clause-means
returns-clause-means c =
    let left = map member_read_view c.args.left.now in
    let right = map member_read_view c.args.right.now in
    subst (λ v. Means v left right) (sym c.verdict_on-verdict.ensures) (verdict_means left right)
