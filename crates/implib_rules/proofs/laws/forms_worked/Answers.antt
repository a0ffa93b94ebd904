use Rattle.std.proofs.Common.{rules}
use Rattle.implib_rules.specs.PlainLaws.{begins_keyword, has_form}
use Rattle.implib_rules.proofs.laws.forms_worked.Goals as goal

pub returns : goal.returns
unfolding begins_keyword has_form
returns c = search rules
