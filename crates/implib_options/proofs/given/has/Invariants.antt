use Rattle.std.proofs.Common.{◌≡◌, drop, map}
use Rattle.implib_options.specs.Given.{given_view, has}
use Rattle.implib_options.proofs.given.has.Given as goal

abbrev pub invariant-loop-option : goal.invariant-loop-option
invariant-loop-option l = has l.meaning (map given_view l.given) ≡ has l.meaning (map given_view (drop l.option-index l.given))
