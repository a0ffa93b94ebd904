use Rattle.implib_tool_driver.specs.Views.{DocumentsLeft, member_views, size_left}
use Rattle.implib_tool_driver.proofs.run.members_of_documents.Given as goal

abbrev pub invariant-loop-rest : goal.invariant-loop-rest
invariant-loop-rest l = DocumentsLeft l.text l.machine l.flavor (member_views l.lists.items) l.rest

abbrev pub decreases-loop-rest : goal.decreases-loop-rest
decreases-loop-rest l = size_left l.rest
