use Rattle.std.proofs.Common.{map, ◌≡◌, ◌++◌, take, drop}
use Rattle.std.specs.Option.{option_map}
use Rattle.std.specs.String.{string_bytes}
use Rattle.implib.specs.Definition.{export_view}
use Rattle.implib_rules.specs.Linked.{naming_view}
use Rattle.implib_rules.specs.Views.{linked_by}
use Rattle.implib_rules.proofs.linked.link_exports.Given as goal

-- the exports passed, and then those left as they are linked by the symbols left, are all as they are linked
abbrev pub invariant-loop-export : goal.invariant-loop-export
invariant-loop-export l =
    map export_view (take l.export-index l.export-items)
    ++ linked_by l.fn.machine (naming_view l.fn.naming) (map (option_map string_bytes) l.left.rest.now) (map export_view (drop l.export-index l.export-items))
    ≡ linked_by l.fn.machine (naming_view l.fn.naming) (map (option_map string_bytes) l.fn.targets) (map export_view l.fn.exports.items)
