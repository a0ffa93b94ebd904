use Rattle.std.proofs.Common.{arith, append-nil}
use Rattle.std.proofs.lemmas.List.{map-append}
use Rattle.std.proofs.lemmas.Result.{err_from_is_err_and}
use Rattle.implib_tool_driver.specs.Views.{member_views}
use Rattle.implib_tool_driver.proofs.Running.{document_made, document_fault}
use Rattle.implib_tool_driver.proofs.run.members_of_documents.Goals as goal

pub returns-in_err-members_of-clause-fault : goal.returns-in_err-members_of-clause-fault
returns-in_err-members_of-clause-fault c =
    let left = rw c.in-Some.is at c.loop-rest.invariant in
    let p = err_from_is_err_and c.from_residual.result c.from_residual.ensures.1 in
    rw (p.1, p.2) (document_fault c.args.machine c.args.flavor _ _ _ _ _ _ left c.divide.ensures c.in_err-members_of.ensures.fault)

pub loop-rest-preserved : goal.loop-rest-preserved
loop-rest-preserved c =
    let left = rw c.in-Some.is at c.loop-rest.invariant in
    rw (c.in_ok-push.ensures.items, map-append) (document_made c.args.machine c.args.flavor _ _ _ _ _ _ left c.divide.ensures c.in_ok-members_of.ensures.ok)

pub returns-clause-ok : goal.returns-clause-ok
returns-clause-ok c = grind (arith, append-nil (member_views c.loop-rest.lists.items), c.in_default.is, c.loop-rest.invariant)
