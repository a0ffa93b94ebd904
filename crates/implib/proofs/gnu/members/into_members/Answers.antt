use Rattle.std.proofs.Common.{rules}
use Rattle.implib.specs.declared.flavor.Flavor.TheVariants.{Gnu}
use Rattle.implib.specs.Definition.{definition_view}
use Rattle.implib.proofs.Members.MembersOfDefinition.{made_of, no_refusal_by_names, read_of, refused_by_length, refused_by_names, same_refusal_by_names}
use Rattle.implib.proofs.Members.Renaming.{renamed_same}
use Rattle.implib.specs.Members.KeptMembers.{kept_members}
use Rattle.implib.specs.Members.Members.{AreMembersOf}
use Rattle.std.specs.Prelude.{IfOk}
use Rattle.implib.proofs.gnu.members.into_members.Goals as goal
use Rattle.implib.proofs.gnu.members.into_members.Goals.{After-named_kept}

pub returns-in-Some-clause-refused : goal.returns-in-Some-clause-refused
returns-in-Some-clause-refused c =
    let d = definition_view c.args.def in
    refused_by_names d c.args.machine Gnu _ (renamed_same d c.requires) (c.in-Some.ensures {u = tt})

pub returns-in-Some-clause-names_refused_always : goal.returns-in-Some-clause-names_refused_always
returns-in-Some-clause-names_refused_always c = λ cause refused.
    let d = definition_view c.args.def in
    same_refusal_by_names d c.args.machine Gnu _ cause (renamed_same d c.requires) (c.in-Some.ensures {u = tt}) refused

made : (c : After-named_kept) → IfOk c.named_kept.result (λ members. AreMembersOf (definition_view c.args.def) c.args.machine Gnu (kept_members members))
made c =
    let d = definition_view c.args.def in
    made_of kept_members d c.args.machine Gnu c.named_kept.result (renamed_same d c.requires) (search rules)
    c.named_kept.ensures.made.ok c.named_kept.ensures.made.fit c.named_kept.ensures.ordinals

pub returns-clause-ok : goal.returns-clause-ok
returns-clause-ok c = made c

pub returns-clause-reads : goal.returns-clause-reads
returns-clause-reads c =
    read_of kept_members (definition_view c.args.def) c.args.machine Gnu c.named_kept.result (made c)

pub returns-clause-refused : goal.returns-clause-refused
returns-clause-refused c =
    let d = definition_view c.args.def in
    refused_by_length d c.args.machine Gnu c.named_kept.result (renamed_same d c.requires) (search rules)
    c.named_kept.ensures.made.too_long

pub returns-clause-names_refused_always : goal.returns-clause-names_refused_always
returns-clause-names_refused_always c =
    let d = definition_view c.args.def in
    no_refusal_by_names d c.args.machine Gnu c.named_kept.result (renamed_same d c.requires) (search rules)
