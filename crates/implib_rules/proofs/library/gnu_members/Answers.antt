use Rattle.std.proofs.Common.{◌≡◌, ◌∙◌, ◌++◌, List, Ok, ap, append-nil, map}
use Rattle.implib.specs.declared.member.Member.{Member}
use Rattle.implib.specs.Definition.{definition_view}
use Rattle.implib.specs.Library.{member_view}
use Rattle.implib.specs.Members.KeptMembers.{kept_members}
use Rattle.implib.specs.Members.MemberSpec.{MemberView}
use Rattle.implib_rules.proofs.Made.{in_order_of_gnu}
use Rattle.implib_rules.proofs.library.gnu_members.Goals as goal

pub returns-clause-ok : goal.returns-clause-ok
returns-clause-ok c =
    let members = c.in_ok-members.members in
    let before = map member_view members.before.items in
    let is : c.in_ok-new.field-0 ≡ kept_members members =
    c.in_ok-new.ensures {u = tt}
    ∙ ap (λ (after : List Member). before ++ (members.objects.members ++ map member_view after)) c.new-after.ensures.items
    ∙ ap (λ (l : List MemberView). before ++ l) (append-nil members.objects.members) in
    rw is
    (in_order_of_gnu (λ (all : List MemberView). all) (definition_view c.args.def) c.args.machine c.new.result (Ok (kept_members members))
    c.new.ensures.held c.in_ok-members.ensures.ok c.in_ok-members.ensures.reads)
