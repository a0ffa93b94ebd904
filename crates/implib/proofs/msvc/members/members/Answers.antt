use Rattle.std.proofs.Common.{map}
use Rattle.std.specs.Prelude.{IfOk}
use Rattle.implib.specs.declared.flavor.Flavor.TheVariants.{Msvc}
use Rattle.implib.specs.Definition.{definition_view}
use Rattle.implib.specs.Library.{member_view}
use Rattle.implib.specs.Members.Members.{AreMembersOf}
use Rattle.implib.proofs.Members.MembersOfDefinition.{made_of, read_of, no_refusal_by_names, refused_by_length, refused_by_names, same_refusal_by_names}
use Rattle.implib.proofs.Members.Renaming.{renamed_same}
use Rattle.implib.proofs.msvc.members.members.Goals as goal
use Rattle.implib.proofs.msvc.members.members.Goals.{After-named_members}

pub returns-in-Some-clause-refused : goal.returns-in-Some-clause-refused
returns-in-Some-clause-refused c =
    let d = definition_view c.args.def.now in
    refused_by_names d c.args.machine Msvc _ (renamed_same d c.requires) (c.in-Some.ensures {u = tt})

pub returns-in-Some-clause-names_refused_always : goal.returns-in-Some-clause-names_refused_always
returns-in-Some-clause-names_refused_always c = λ cause refused.
    let d = definition_view c.args.def.now in
    same_refusal_by_names d c.args.machine Msvc _ cause (renamed_same d c.requires) (c.in-Some.ensures {u = tt}) refused

made : (c : After-named_members) → IfOk c.named_members.result (λ members.
    AreMembersOf (definition_view c.args.def.now) c.args.machine Msvc (map member_view members.items))
made c =
    let d = definition_view c.args.def.now in
    made_of (λ members. map member_view members.items) d c.args.machine Msvc c.named_members.result
    (renamed_same d c.requires) (c.in-None.ensures {u = tt})
    c.named_members.ensures.made.ok c.named_members.ensures.made.fit c.named_members.ensures.ordinals

pub returns-in-None-clause-ok : goal.returns-in-None-clause-ok
returns-in-None-clause-ok c = made c

pub returns-in-None-clause-reads : goal.returns-in-None-clause-reads
returns-in-None-clause-reads c =
    read_of (λ members. map member_view members.items) (definition_view c.args.def.now) c.args.machine Msvc
    c.named_members.result (made c)

pub returns-in-None-clause-refused : goal.returns-in-None-clause-refused
returns-in-None-clause-refused c =
    let d = definition_view c.args.def.now in
    refused_by_length d c.args.machine Msvc c.named_members.result (renamed_same d c.requires) (c.in-None.ensures {u = tt})
    c.named_members.ensures.made.too_long

pub returns-in-None-clause-names_refused_always : goal.returns-in-None-clause-names_refused_always
returns-in-None-clause-names_refused_always c =
    let d = definition_view c.args.def.now in
    no_refusal_by_names d c.args.machine Msvc c.named_members.result (renamed_same d c.requires) (c.in-None.ensures {u = tt})
