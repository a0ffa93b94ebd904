use Rattle.std.proofs.Common.{map, take}
use Rattle.implib.specs.Definition.{export_view}
use Rattle.implib_rules.specs.Firsts.{AreFirstAsking}
use Rattle.implib_rules.specs.Linked.{naming_view}
use Rattle.implib_rules.proofs.firsts.first_asking.Given as goal

-- the first of the exports so far
abbrev pub invariant-loop-index : goal.invariant-loop-index
invariant-loop-index l = AreFirstAsking l.machine (naming_view l.naming) l.firsts (map export_view (take l.index l.exports))
