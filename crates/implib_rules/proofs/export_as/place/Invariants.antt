use Rattle.std.proofs.Common.{map, ◌≡◌, ◌++◌}
use Rattle.implib.specs.Library.{member_view}
use Rattle.implib_rules.specs.ExportAs.{placed}
use Rattle.implib_rules.specs.ExportAsViews.{later_view}
use Rattle.implib_rules.proofs.export_as.place.Given as goal

-- the members so far, and then those that are left to place, are all
abbrev pub invariant-loop-later : goal.invariant-loop-later
invariant-loop-later l =
    map member_view l.members.items ++ placed (map later_view l.later-iterator.rest.items) (map member_view l.aliases.rest.items)
    ≡ map member_view l.fn.members.items ++ placed (map later_view l.fn.laters.items) (map member_view l.fn.aliases.items)
