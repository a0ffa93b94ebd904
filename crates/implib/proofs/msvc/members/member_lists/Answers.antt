use Rattle.std.proofs.Common.{rules}
use Rattle.implib.specs.declared.flavor.Flavor.TheVariants.{Msvc}
use Rattle.implib.specs.Definition.{definition_view}
use Rattle.implib.proofs.Members.ListReadings.{result_read_back}
use Rattle.implib.proofs.Members.MembersOfDefinition.{lists_of, no_refusal_by_names, refused_by_length, refused_by_names, same_refusal_by_names}
use Rattle.implib.proofs.Members.Renaming.{renamed_same}
use Rattle.implib.proofs.msvc.members.member_lists.Goals as goal

pub returns-in-Some-clause-refused : goal.returns-in-Some-clause-refused
returns-in-Some-clause-refused c =
    let d = definition_view c.args.def in
    refused_by_names d c.args.machine Msvc _ (renamed_same d c.requires) (c.in-Some.ensures {u = tt})

pub returns-in-Some-clause-names_refused_always : goal.returns-in-Some-clause-names_refused_always
returns-in-Some-clause-names_refused_always c = λ cause refused.
    let d = definition_view c.args.def in
    same_refusal_by_names d c.args.machine Msvc _ cause (renamed_same d c.requires) (c.in-Some.ensures {u = tt}) refused

pub returns-clause-ok : goal.returns-clause-ok
returns-clause-ok c =
    let d = definition_view c.args.def in
    lists_of d c.args.machine c.named_lists.result (renamed_same d c.requires) (search rules)
    c.named_lists.ensures.made c.named_lists.ensures.ordinals

pub returns-clause-reads : goal.returns-clause-reads
returns-clause-reads c =
    let d = definition_view c.args.def in
    result_read_back d c.args.machine c.named_lists.result
    (lists_of d c.args.machine c.named_lists.result (renamed_same d c.requires) (search rules)
    c.named_lists.ensures.made c.named_lists.ensures.ordinals)

pub returns-clause-refused : goal.returns-clause-refused
returns-clause-refused c =
    let d = definition_view c.args.def in
    refused_by_length d c.args.machine Msvc c.named_lists.result (renamed_same d c.requires) (search rules)
    c.named_lists.ensures.made.too_long

pub returns-clause-names_refused_always : goal.returns-clause-names_refused_always
returns-clause-names_refused_always c =
    let d = definition_view c.args.def in
    no_refusal_by_names d c.args.machine Msvc c.named_lists.result (renamed_same d c.requires) (search rules)
