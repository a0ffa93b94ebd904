use Rattle.std.proofs.Common.{append-nil, sym, ◌∙◌}
use Rattle.implib_tool_driver.proofs.Running.{beginning_written, passes_as, passes_more}
use Rattle.implib_tool_driver.proofs.run.write_listing.Goals as goal

pub returns-then-has_failed-clause-fault : goal.returns-then-has_failed-clause-fault
returns-then-has_failed-clause-fault g c =
    let all = passes_as _ _ _ _ (append-nil _) (passes_more _ _ _ _ _ c.list_documents.ensures c.flush.ensures.passes) in
    (sym c.has_failed.ensures ∙ c.if-has_failed.true, beginning_written _ _ _ _ _ _ _ c.in_ok-buffer.ensures all)
