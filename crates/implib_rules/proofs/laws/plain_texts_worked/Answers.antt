use Rattle.std.proofs.Common.{rules}
use Rattle.implib_rules.specs.Plain.{begins_sections, begins_statement, first_step, is_system, name_step, plain_from}
use Rattle.implib_rules.proofs.laws.plain_texts_worked.Goals as goal

pub returns : goal.returns
unfolding begins_sections begins_statement first_step is_system name_step plain_from
returns c = search rules
