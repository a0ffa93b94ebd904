use Rattle.std.proofs.Common.{rules}
use Rattle.implib_rules.specs.Forms.{open_quote_from}
use Rattle.implib_rules.specs.Plain.{begins_sections, begins_statement, first_step, is_system, name_step}
use Rattle.implib_rules.proofs.laws.malformed_worked.Goals as goal

pub returns : goal.returns
unfolding begins_sections begins_statement first_step is_system name_step open_quote_from
returns c = search rules
