use Rattle.std.proofs.Common.{◌≡◌, ◌++◌, [], drop, map}
use Rattle.std.specs.String.{string_bytes}
use Rattle.implib.specs.Definition.{export_view}
use Rattle.implib_rules.specs.Linked.{naming_view, targets_beside}
use Rattle.implib_rules.proofs.aliases.msvc_targets.Given as goal

-- the targets so far, and those that the exports that are left add, are all
abbrev pub invariant-loop-export : goal.invariant-loop-export
invariant-loop-export l =
    map export_view l.targets.items
    ++ targets_beside l.lookups.machine (naming_view l.lookups.naming) (map export_view l.exports) (map string_bytes l.symbols.keys) (map export_view (drop l.export-index l.exports))
    ≡ targets_beside l.lookups.machine (naming_view l.lookups.naming) (map export_view l.exports) [] (map export_view l.exports)
