use Rattle.std.proofs.Common.{◌≡◌, Some, drop, map, if◌then◌else◌}
use Rattle.std.specs.List.{fold}
use Rattle.std.specs.Option.{option_map}
use Rattle.implib_options.specs.Given.{given_view, last, means}
use Rattle.implib_options.proofs.given.last.Given as goal

abbrev pub invariant-loop-option : goal.invariant-loop-option
invariant-loop-option l =
    last l.meaning (map given_view l.given)
    ≡ fold (λ earlier option. if means l.meaning option then Some option.1 else earlier)
    (option_map (λ text. text.now) l.last) (map given_view (drop l.option-index l.given))
