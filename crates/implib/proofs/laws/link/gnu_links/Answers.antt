use Rattle.implib.specs.Definition.{definition_view}
use Rattle.implib.specs.Link.LinkedMembers.{bases_of}
use Rattle.implib.proofs.Link.LinkedMembers.{members_among, members_link, members_named, members_read, members_rise}
use Rattle.implib.proofs.laws.link.gnu_links.Goals as goal

pub returns : goal.returns
returns c = record {
  from_members = members_among (definition_view c.args.def.now) c.args.machine _ c.args.chosen.now c.requires.made;
  names = members_named (definition_view c.args.def.now) c.args.machine _ c.args.chosen.now c.requires.made c.requires.numbers;
  rising = members_rise (definition_view c.args.def.now) c.args.machine _ c.args.chosen.now c.requires.made c.requires.numbers c.requires.in_order;
  objects = members_read (definition_view c.args.def.now) c.args.machine _ c.args.chosen.now c.requires.made;
  links = members_link (definition_view c.args.def.now) c.args.machine _ c.args.chosen.now c.requires.made (bases_of c.args.bases) c.requires.distinct c.requires.admissible;
}
