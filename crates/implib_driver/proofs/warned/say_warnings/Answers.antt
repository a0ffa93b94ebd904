use Rattle.implib_driver.proofs.Saying.{says_none, warned_more}
use Rattle.implib_rules.specs.declared.warnings.Notice.TheVariants as notice
use Rattle.implib_rules.specs.declared.warnings.Warning.{Warning}
use Rattle.implib_driver.proofs.warned.say_warnings.Goals as goal

abbrev no_warning : Warning
no_warning = record { notice = notice.NoExport; position = record { offset = 0; line = 0; column = 0 } }

pub loop-warning-init : goal.loop-warning-init
loop-warning-init g c = says_none (g.T.Reporter.said c.args.reporter.now)

pub loop-warning-preserved : goal.loop-warning-preserved
loop-warning-preserved g c =
    warned_more (g.T.Reporter.said c.args.reporter.now) (g.T.Reporter.said c.loop-warning.reporter) (g.T.Reporter.said c.warn.new.self)
    c.args.path.now c.args.lines.now c.args.warnings.now c.loop-warning.warning-index no_warning c.loop-warning-test.true
    c.loop-warning.invariant c.warn.ensures
