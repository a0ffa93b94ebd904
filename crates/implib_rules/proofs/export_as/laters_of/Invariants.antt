use Rattle.std.proofs.Common.{map, ◌≡◌, ◌++◌, drop}
use Rattle.std.specs.List.{flat_map, list_any}
use Rattle.implib.specs.Definition.{export_view}
use Rattle.implib.specs.Members.Members.{is_too_long}
use Rattle.implib_rules.specs.ExportAs.{export_as_unless_private, later_unless_private}
use Rattle.implib_rules.specs.ExportAsViews.{later_view}
use Rattle.implib_rules.proofs.export_as.laters_of.Given as goal

-- what the exports passed have, and then what those left have, is all; a short import is too long exactly if one of
-- those left is
abbrev pub invariant-loop-export : goal.invariant-loop-export
invariant-loop-export l = record {
  laters :
      map later_view l.laters.items
      ++ flat_map (later_unless_private l.machine (record { linked = l.linked; text = l.dll })) (map export_view (drop l.export-index l.exports))
      ≡ flat_map (later_unless_private l.machine (record { linked = l.linked; text = l.dll })) (map export_view l.exports);
  fits :
      list_any is_too_long (flat_map (export_as_unless_private l.machine (record { linked = l.linked; text = l.dll })) (map export_view l.exports))
      ≡ list_any is_too_long (flat_map (export_as_unless_private l.machine (record { linked = l.linked; text = l.dll })) (map export_view (drop l.export-index l.exports)));
}
