use Rattle.std.proofs.Common.{ℕ, ◌≡◌, ◌+◌, arith, subst}
use Rattle.std.specs.Str.{IsCharBoundary}
use Rattle.std.proofs.lemmas.Str.{IsCharBoundary-before_ascii, IsCharBoundary-after_ascii}
use Rattle.implib_arm64ec.proofs.Marks.{mark_is_at}
use Rattle.implib_arm64ec.proofs.names.without_mark_at.Goals as goal

pub overflow_add-place : goal.overflow_add-place
overflow_add-place c = let found = mark_is_at c.args.name.now c.args.place c.requires in omega (arith, found.within)

pub range_from-rest-requires : goal.range_from-rest-requires
range_from-rest-requires c = λ positive.
    let found = mark_is_at c.args.name.now c.args.place c.requires in
    let three : c.args.place + 2 + 1 ≡ c.args.place + 3 = omega arith in
    subst (λ (i : ℕ). IsCharBoundary c.args.name.now i) three
    (IsCharBoundary-after_ascii c.args.name.now (c.args.place + 2) c.utf8.name (omega (arith, found.within)) (omega (arith, found.letter)))

pub range-requires-clause-end_boundary : goal.range-requires-clause-end_boundary
range-requires-clause-end_boundary c = grind (arith, mark_is_at, IsCharBoundary-before_ascii, c.requires)
