use Rattle.implib_link.proofs.Flavors.Program.{gnu_objects, members_are_objects, members_by_full_names}
use Rattle.implib_link.proofs.laws.program.members_are_program.Goals as goal

pub returns : goal.returns
returns c = record { alone = members_are_objects; beside = gnu_objects; named = members_by_full_names }
