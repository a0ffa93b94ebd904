use Rattle.std.proofs.Common.{take, map}
use Rattle.implib_driver.specs.Program.{warning_lines}
use Rattle.implib_driver.specs.Reports.{Says}
use Rattle.implib_rules.specs.Warnings.{warning_view}
use Rattle.implib_driver.proofs.warned.say_warnings.Given as goal

-- the warnings up to here are said
abbrev pub invariant-loop-warning : goal.invariant-loop-warning
invariant-loop-warning g l = Says (g.T.Reporter.said l.fn.reporter) (g.T.Reporter.said l.reporter)
    (warning_lines l.path l.lines (map warning_view (take l.warning-index l.warnings)))
