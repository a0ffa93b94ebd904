use Rattle.std.proofs.Common.{◌≡◌, drop, map}
use Rattle.std.specs.List.{list_any}
use Rattle.implib.specs.Definition.{export_view}
use Rattle.implib_rules.specs.Linked.{has_target}
use Rattle.implib_rules.proofs.aliases.has_targets.Given as goal

-- what is left says it
abbrev pub invariant-loop-export : goal.invariant-loop-export
invariant-loop-export l =
    list_any has_target (map export_view l.exports) ≡ list_any has_target (map export_view (drop l.export-index l.exports))
