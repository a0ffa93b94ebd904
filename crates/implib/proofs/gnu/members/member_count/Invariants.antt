use Rattle.std.proofs.Common.{map, ◌≡◌, ◌≤◌, ◌+◌, drop}
use Rattle.std.specs.List.{filter, sum_by}
use Rattle.std.specs.Prelude.{not, min}
use Rattle.implib.specs.Definition.{definition_view, export_view}
use Rattle.implib.specs.Import.{public_exports}
use Rattle.implib.specs.Members.GnuMembers.{gnu_member_count}
use Rattle.implib.proofs.gnu.members.member_count.Given as goal

-- what is counted and what is left are together all, as far as 64 bits can count
abbrev pub invariant-loop-export : goal.invariant-loop-export
invariant-loop-export l = record {
  fits : l.count ≤ 0xFFFF_FFFF_FFFF_FFFF;
  counted : min 0xFFFF_FFFF_FFFF_FFFF (l.count + sum_by gnu_member_count (filter (λ e. not e.private) (map export_view (drop l.export-index l.def.exports.items))))
      ≡ min 0xFFFF_FFFF_FFFF_FFFF (2 + sum_by gnu_member_count (public_exports (definition_view l.def)));
}
