use Rattle.implib_link.proofs.Search.CommandLines.{taken_as_given}
use Rattle.implib_link.proofs.laws.command_lines.taken_members_are_as_given.Goals as goal

pub returns : goal.returns
returns c = λ reads members own taken is_given first whole takes. taken_as_given reads members own whole is_given taken first takes
