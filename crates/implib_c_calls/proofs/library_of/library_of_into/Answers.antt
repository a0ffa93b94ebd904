use Rattle.std.proofs.Common.{rules, arith, inl, map}
use Rattle.implib_c_calls.proofs.Answer.{leaves_lacking}
use Rattle.implib_c_calls.proofs.AnswerOf.{lacks_exports, lacks_refused, with_exports}
use Rattle.implib_c_calls.proofs.AnswerWith.{with_archive, with_nothing}
use Rattle.implib_c_calls.proofs.library_of.library_of_into.Goals as goal

pub returns-in-Err-exports_asked : goal.returns-in-Err-exports_asked
returns-in-Err-exports_asked c = search (rules, map, with_nothing, lacks_exports, c.in-Ok.ensures.ok, c.from.ensures, c.in-Err-exports_asked.ensures.fault)

pub returns-in-Ok-members_of_exports : goal.returns-in-Ok-members_of_exports
returns-in-Ok-members_of_exports c = grind (arith, map, with_archive, with_exports, c.in-Ok-members_of_exports.ensures.made, c.in-Ok-exports_asked.ensures.ok, c.in-Ok.ensures.ok, c.pack_for.ensures)

pub returns-in-Err-members_of_exports : goal.returns-in-Err-members_of_exports
returns-in-Err-members_of_exports c = search (rules, map, with_nothing, lacks_refused, c.in-Ok.ensures.ok, c.failure_of.ensures, c.in-Ok-exports_asked.ensures.ok, c.in-Err-members_of_exports.ensures.refused)

pub returns-in-Err : goal.returns-in-Err
returns-in-Err c = leaves_lacking c.in-Err.failure (inl c.in-Err.ensures.fault)
