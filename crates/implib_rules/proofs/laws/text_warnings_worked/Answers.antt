use Rattle.std.proofs.Common.{rules}
use Rattle.implib_rules.specs.Plain.{begins_sections, begins_statement, first_step, is_system, name_step}
use Rattle.implib_rules.specs.TextWarnings.{alone_notice, attribute_in, comment_in, follows_exports, keyword_of, text_warnings_from}
use Rattle.implib_rules.proofs.laws.text_warnings_worked.Goals as goal

pub returns : goal.returns
unfolding alone_notice attribute_in comment_in follows_exports begins_sections begins_statement first_step is_system keyword_of name_step text_warnings_from
returns c = search rules
