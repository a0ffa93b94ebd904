use Rattle.implib_check_driver.specs.Text.{finding_text}
use Rattle.implib_check_driver.proofs.finding.FindingDisplay.fmt.Goals as goal

pub returns-in-Stopped-clause-writes : goal.returns-in-Stopped-clause-writes
unfolding finding_text
returns-in-Stopped-clause-writes g c = rw c.in-Stopped.is c.write-in-Stopped.ensures.writes

pub returns-in-Unasked-clause-writes : goal.returns-in-Unasked-clause-writes
unfolding finding_text
returns-in-Unasked-clause-writes g c = rw c.in-Unasked.is c.write-in-Unasked.ensures.writes

pub returns-in-Unmet-clause-writes : goal.returns-in-Unmet-clause-writes
unfolding finding_text
returns-in-Unmet-clause-writes g c = rw c.in-Unmet.is c.write-in-Unmet.ensures.writes
