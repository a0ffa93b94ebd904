use Rattle.implib_link.proofs.Parts.Members.{members_are_part, members_store_none, older_held, older_part, older_stores_none}
use Rattle.implib_link.proofs.Parts.Programs.{program_of_parts}
use Rattle.implib_link.proofs.laws.parts.members_are_part.Goals as goal

pub returns : goal.returns
returns c = record {
  part = members_are_part;
  stores = members_store_none;
  program = program_of_parts;
  older = λ machine p older made. older_part machine p made older;
  older_stores = λ machine p older made. older_stores_none machine p made older;
  older_held = older_held;
}
