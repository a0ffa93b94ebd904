use Rattle.std.proofs.Common.{map, ◌≡◌, ◌++◌, drop, Some}
use Rattle.implib.specs.Definition.{export_view}
use Rattle.implib_rules.specs.Additions.{all_prefixed}
use Rattle.implib_rules.specs.Linked.{naming_view}
use Rattle.implib_rules.proofs.additions.all_prefixed.Given as goal

-- the further exports of those passed, and then those of the exports left, are all
abbrev pub invariant-loop-export : goal.invariant-loop-export
invariant-loop-export l =
    map export_view l.further.items
    ++ all_prefixed l.machine (naming_view l.naming) (Some l.prefix) (map export_view (drop l.export-index l.exports))
    ≡ all_prefixed l.machine (naming_view l.naming) (Some l.prefix) (map export_view l.exports)
