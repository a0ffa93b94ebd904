use Rattle.std.proofs.Common.{◌≡◌, drop, false, if◌then◌else◌, map, true}
use Rattle.std.specs.List.{fold}
use Rattle.implib_options.specs.Given.{given_view, is_last, means}
use Rattle.implib_options.proofs.given.is_last.Given as goal

abbrev pub invariant-loop-option : goal.invariant-loop-option
invariant-loop-option l =
    is_last l.one l.other (map given_view l.given)
    ≡ fold (λ was option. if means l.one option then true else if means l.other option then false else was) l.is_on (map given_view (drop l.option-index l.given))
