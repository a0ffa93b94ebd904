use Rattle.implib.specs.Definition.{definition_view}
use Rattle.implib.specs.Members.MemberLists.{lists_view}
use Rattle.implib_rules.proofs.Made.{in_order_of_library}
use Rattle.implib_rules.proofs.library.msvc_members_in_order.Goals as goal

pub returns-clause-ok : goal.returns-clause-ok
returns-clause-ok c =
    in_order_of_library (definition_view c.args.def) c.args.machine c.new.result (lists_view c.in_ok-lists.lists) _ c.new.ensures.held c.in_ok-lists.ensures.ok
    c.in_ok-new.ensures
