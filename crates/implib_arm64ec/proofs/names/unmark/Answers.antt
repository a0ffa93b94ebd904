use Rattle.std.proofs.Common.{arith, sym, ◌∙◌}
use Rattle.std.proofs.lemmas.Str.{IsCharBoundary-after_ascii}
use Rattle.implib_arm64ec.proofs.Marks.{begins_first}
use Rattle.implib_arm64ec.proofs.names.unmark.Goals as goal

pub range_from-requires : goal.range_from-requires
range_from-requires c = λ positive.
    let first = begins_first 0x23 c.args.name.now (sym c.begins_with.ensures ∙ c.if-begins_with.true) in
    IsCharBoundary-after_ascii c.args.name.now 0 c.utf8.name first.within (omega (arith, first.first))
