use Rattle.std.proofs.Common.{rules, arith, inl}
use Rattle.implib_c_calls.proofs.Answer.{leaves_lacking}
use Rattle.implib_c_calls.proofs.AnswerDll.{lacks_exports, lacks_members}
use Rattle.implib_c_calls.proofs.AnswerWith.{with_archive, with_nothing}
use Rattle.implib_c_calls.proofs.dll_library.dll_library_into.Goals as goal

pub returns-in-Err : goal.returns-in-Err
returns-in-Err c = leaves_lacking c.in-Err.failure (inl c.in-Err.ensures.fault)

pub returns-in-Err-exports_of_file : goal.returns-in-Err-exports_of_file
returns-in-Err-exports_of_file c = search (rules, with_nothing, lacks_exports, c.in-Ok.ensures.ok, c.in-Err-exports_of_file.ensures.lacks)

pub returns-then-exports-arguments : goal.returns-then-exports-arguments
returns-then-exports-arguments c = search (rules, with_nothing, c.in-Ok.ensures.ok, c.in-Ok-exports_of_file.ensures.ok, c.if-exports-arguments.true)

pub returns-in-Ok-members_of_dll : goal.returns-in-Ok-members_of_dll
returns-in-Ok-members_of_dll c = grind (arith, with_archive, c.in-Ok-members_of_dll.ensures.made, c.if-exports-arguments.false, c.in-Ok.ensures.ok, c.in-Ok-exports_of_file.ensures.ok, c.pack_for.ensures)

pub returns : goal.returns
returns c = search (rules, with_nothing, lacks_members, c.in-Ok.ensures.ok, c.failure_unmade.ensures, c.in-Ok-exports_of_file.ensures.ok, c.if-exports-arguments.false, c.in-Err-members_of_dll.ensures.refused)
