use Rattle.std.proofs.Common.{map, ◌≡◌, ◌++◌, length}
use Rattle.std.specs.List.{list_all, list_any}
use Rattle.implib.specs.Definition.{export_view}
use Rattle.implib.specs.Members.Members.{has_u16_ordinal, is_too_long}
use Rattle.implib.specs.Members.MemberSpec.{member_of}
use Rattle.implib.specs.Views.MakingKept.{kept_specs, public_among}
use Rattle.implib.proofs.Members.KeptLoop.{LeftToKeep}
use Rattle.implib.proofs.gnu.members.keep_exports.Given as goal

-- what is kept, and what the exports that are left keep, are all; none so far is too long
abbrev pub invariant-loop-export : goal.invariant-loop-export
invariant-loop-export l =
    let machine = l.fn.objects.machine in
    let linked = l.fn.objects.linked in
    let all = map export_view l.fn.exports.items in
    record {
      same_machine : l.objects.machine ≡ machine;
      same_library : l.objects.linked ≡ linked;
      left : LeftToKeep machine linked (l.fn.objects.members ++ map member_of (kept_specs machine linked all))
          (list_any is_too_long (kept_specs machine linked all)) (list_all has_u16_ordinal (public_among all))
          l.number l.objects.members (map export_view l.exports.items);
    }

abbrev pub decreases-loop-export : goal.decreases-loop-export
decreases-loop-export l = length l.exports.items
