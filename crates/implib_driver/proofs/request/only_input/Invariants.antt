use Rattle.std.proofs.Common.{◌≡◌, ◌++◌, map, drop}
use Rattle.std.specs.Option.{option_map, option_to_list}
use Rattle.implib_options.specs.declared.table.Meaning.TheVariants.{Input}
use Rattle.implib_options.specs.Given.{all, given_view}
use Rattle.implib_driver.proofs.request.only_input.Given as goal

abbrev pub invariant-loop-option : goal.invariant-loop-option
invariant-loop-option l =
    all Input (map given_view l.options)
    ≡ option_to_list (option_map (λ text. text.now) l.found) ++ all Input (map given_view (drop l.option-index l.options))
