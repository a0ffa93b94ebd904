-- View: what an export has after all imports, as a record.
use Rattle.std.specs.Option.{option_map}
use Rattle.implib.specs.Library.{member_view}
use Rattle.implib_rules.specs.declared.export_as.Later.{Later}
use Rattle.implib_rules.specs.ExportAs.{LaterView}

-- the view of the program's
abbrev pub later_view : Later → LaterView
later_view l = record { has_code = l.has_code; instead = option_map member_view l.instead }
