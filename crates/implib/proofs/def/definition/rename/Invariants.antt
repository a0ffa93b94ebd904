use Rattle.std.proofs.Common.{map, ◌≡◌, ◌++◌, take, drop}
use Rattle.implib.specs.Definition.{export_view}
use Rattle.implib.specs.Renaming.{renamed_export}
use Rattle.implib.proofs.def.definition.rename.Given as goal

-- the exports passed, and then those left under their names to link by, are all under their names to link by
abbrev pub invariant-loop-export : goal.invariant-loop-export
invariant-loop-export l =
    map export_view (take l.export-index l.export-items) ++ map renamed_export (map export_view (drop l.export-index l.export-items))
    ≡ map renamed_export (map export_view l.fn.def.exports.items)
