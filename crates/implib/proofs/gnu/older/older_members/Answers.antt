use Rattle.std.proofs.Common.{map}
use Rattle.implib.specs.Definition.{definition_view}
use Rattle.implib.specs.Library.{member_view}
use Rattle.implib.specs.declared.flavor.Flavor.TheVariants.{Gnu}
use Rattle.implib.proofs.Members.MembersOfDefinition.{no_refusal_by_names, same_refusal_by_names}
use Rattle.implib.proofs.Members.OlderMembers.{made_of, refused_by_length, refused_by_names}
use Rattle.implib.proofs.Members.Renaming.{renamed_same}
use Rattle.implib.proofs.Members.OlderReadings.{older_read_of}
use Rattle.implib.specs.Members.OlderSymbols.{AreOlderMembersOf}
use Rattle.std.specs.Prelude.{IfOk}
use Rattle.implib.proofs.gnu.older.older_members.Goals as goal
use Rattle.implib.proofs.gnu.older.older_members.Goals.{After-named_members}

pub returns-in-Some-clause-refused : goal.returns-in-Some-clause-refused
returns-in-Some-clause-refused c =
    let d = definition_view c.args.def.now in
    refused_by_names d c.args.machine (renamed_same d c.requires) _ (c.in-Some.ensures {u = tt})

made : (c : After-named_members) → IfOk c.named_members.result (λ members.
    AreOlderMembersOf (definition_view c.args.def.now) c.args.machine (map member_view members.items))
made c =
    let d = definition_view c.args.def.now in
    made_of d c.args.machine (renamed_same d c.requires) (λ members. map member_view members.items) c.named_members.result
    (c.in-None.ensures {u = tt}) c.named_members.ensures.made.ok c.named_members.ensures.made.fit c.named_members.ensures.ordinals

pub returns-in-None-clause-ok : goal.returns-in-None-clause-ok
returns-in-None-clause-ok c = made c

pub returns-in-None-clause-reads : goal.returns-in-None-clause-reads
returns-in-None-clause-reads c =
    older_read_of (λ members. map member_view members.items) (definition_view c.args.def.now) c.args.machine c.named_members.result (made c)

pub returns-in-None-clause-refused : goal.returns-in-None-clause-refused
returns-in-None-clause-refused c =
    let d = definition_view c.args.def.now in
    refused_by_length d c.args.machine (renamed_same d c.requires) c.named_members.result (c.in-None.ensures {u = tt})
    c.named_members.ensures.made.too_long

pub returns-in-Some-clause-names_refused_always : goal.returns-in-Some-clause-names_refused_always
returns-in-Some-clause-names_refused_always c = λ cause refused.
    let d = definition_view c.args.def.now in
    same_refusal_by_names d c.args.machine Gnu _ cause (renamed_same d c.requires) (c.in-Some.ensures {u = tt}) refused

pub returns-in-None-clause-names_refused_always : goal.returns-in-None-clause-names_refused_always
returns-in-None-clause-names_refused_always c =
    let d = definition_view c.args.def.now in
    no_refusal_by_names d c.args.machine Gnu c.named_members.result (renamed_same d c.requires) (c.in-None.ensures {u = tt})
