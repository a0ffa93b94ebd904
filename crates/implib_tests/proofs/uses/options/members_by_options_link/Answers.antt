use Rattle.implib_tests.proofs.Using.ByOptions.{link_as_older_part, link_as_part, link_in_programs}
use Rattle.implib_tests.proofs.uses.options.members_by_options_link.Goals as goal

pub returns : goal.returns
returns c = record { part = link_as_part; older = link_as_older_part; programs = link_in_programs }
