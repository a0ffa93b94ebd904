use Rattle.std.proofs.Common.{◌≡◌, ◌++◌, drop, map}
use Rattle.implib_options.specs.Given.{all, given_view}
use Rattle.implib_options.proofs.given.all.Given as goal

abbrev pub invariant-loop-option : goal.invariant-loop-option
invariant-loop-option l =
    map (λ text. text.now) l.values.items ++ all l.meaning (map given_view (drop l.option-index l.given))
    ≡ all l.meaning (map given_view l.given)
