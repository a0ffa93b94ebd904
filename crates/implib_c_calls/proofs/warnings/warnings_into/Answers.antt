use Rattle.std.proofs.Common.{rules, arith, inl}
use Rattle.implib_rules.specs.Options.{library_options_view}
use Rattle.implib_c_calls.proofs.Answer.{leaves_encoded, leaves_lacking}
use Rattle.implib_c_calls.proofs.AnswerWith.{with_nothing, with_options}
use Rattle.implib_c_calls.proofs.WarningsAnswers.{within_text}
use Rattle.implib_c_calls.proofs.WarningsBack.{warnings_back}
use Rattle.implib_c_calls.proofs.warnings.warnings_into.Goals as goal

pub failure_in-requires : goal.failure_in-requires
failure_in-requires c = within_text c.args.text.now (library_options_view c.in-Ok.options) c.in-Err-read_warnings.refusal c.in-Err-read_warnings.ensures.refused

pub returns-in-Err-read_warnings : goal.returns-in-Err-read_warnings
returns-in-Err-read_warnings c = search (rules, with_nothing, c.in-Ok.ensures.ok, c.in-Err-read_warnings.ensures.refused, c.failure_in.ensures)

pub returns : goal.returns
returns c = grind (arith, leaves_encoded, warnings_back, with_options, c.in-Ok.ensures.ok, c.in-Ok-read_warnings.ensures.ok, c.as_slice.ensures.value, c.put_encoding.ensures)

pub returns-in-Err : goal.returns-in-Err
returns-in-Err c = leaves_lacking c.in-Err.failure (inl c.in-Err.ensures.fault)
