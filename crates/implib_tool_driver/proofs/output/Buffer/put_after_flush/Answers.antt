use Rattle.std.proofs.Common.{rules}
use Rattle.implib_tool_driver.proofs.Running.{passes_more}
use Rattle.implib_tool_driver.proofs.output.Buffer.put_after_flush.Goals as goal

pub returns-then-bytes-gt-ROOM : goal.returns-then-bytes-gt-ROOM
returns-then-bytes-gt-ROOM g c = search (rules, passes_more, c.flush.ensures.empty, c.write_unless_failed.ensures, c.flush.ensures.passes)

pub returns : goal.returns
returns g c = search (rules, passes_more, c.flush.ensures.passes)
