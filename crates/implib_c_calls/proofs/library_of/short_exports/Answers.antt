use Rattle.std.proofs.Common.{rules}
use Rattle.implib_c_calls.proofs.GivenExports.{first_fault, given_more}
use Rattle.implib_c_calls.proofs.library_of.short_exports.Goals as goal

pub returns-in-Err-clause-fault : goal.returns-in-Err-clause-fault
returns-in-Err-clause-fault c = search (rules, first_fault, c.loop-index-test.true, c.loop-index.invariant, c.in-Err.ensures.fault)

pub loop-index-preserved : goal.loop-index-preserved
loop-index-preserved c = search (rules, given_more, c.loop-index-test.true, c.loop-index.invariant, c.in-Ok.ensures.accepted, c.in-Ok.ensures.name, c.in-Ok.ensures.target, c.in_ok-push_export-in-Ok.ensures)
