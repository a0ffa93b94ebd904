use Rattle.std.proofs.Common.{rules, inl}
use Rattle.implib_rules.specs.Options.{library_options_view}
use Rattle.implib_c_calls.proofs.Answer.{leaves_lacking}
use Rattle.implib_c_calls.proofs.AnswerWith.{of_bytes, with_library, with_nothing}
use Rattle.implib_c_calls.proofs.Within.{refusal_within}
use Rattle.implib_c_calls.proofs.library_with.library_with_into.Goals as goal

pub failure_in-requires : goal.failure_in-requires
failure_in-requires c = refusal_within c.args.text.now (library_options_view c.in-Ok.options) c.in-Err-members_for.refusal c.in-Err-members_for.ensures.refused

pub returns-in-Ok-members_for : goal.returns-in-Ok-members_for
returns-in-Ok-members_for c = search (rules, with_library, c.in-Ok-members_for.ensures.made, c.in-Ok.ensures.ok, c.pack_for.ensures)

pub returns-in-Err-members_for : goal.returns-in-Err-members_for
returns-in-Err-members_for c = search (rules, with_nothing, of_bytes, c.in-Ok.ensures.ok, c.in-Err-members_for.ensures.refused, c.failure_in.ensures)

pub returns-in-Err : goal.returns-in-Err
returns-in-Err c = leaves_lacking c.in-Err.failure (inl c.in-Err.ensures.fault)
