use Rattle.std.proofs.lemmas.Result.{err_from_is_err_and}
use Rattle.implib.specs.Definition.{definition_view}
use Rattle.implib.proofs.Text.ParserAnswers.{answer_heard, answer_parses, answer_refused}
use Rattle.implib.proofs.def.parser.Parser.read.Goals as goal

pub returns-in_err-statements-clause-refused : goal.returns-in_err-statements-clause-refused
returns-in_err-statements-clause-refused g c =
    let p = err_from_is_err_and c.from_residual.result c.from_residual.ensures.1 in
    rw (p.1, p.2, ← c.self.view_is) (answer_refused c.self.inside.machine c.self.inside.tokens c.in_err-statements.field-0.0 (rw c.empty-def.ensures at c.in_err-statements.ensures.read))

pub returns-clause-parses : goal.returns-clause-parses
returns-clause-parses g c =
    rw (← c.self.view_is) (answer_parses c.self.inside.machine c.self.inside.tokens c.statements.new.self (definition_view c.statements.new.def) (rw c.empty-def.ensures at c.in_ok-statements.ensures.read))

pub returns-clause-heard : goal.returns-clause-heard
returns-clause-heard g c =
    rw (← c.self.view_is) (answer_heard c.self.inside.machine c.self.inside.tokens c.statements.new.self (definition_view c.statements.new.def) (g.L.Listener.has_heard c.args.listener.now c.args.listener.now) (g.L.Listener.has_heard c.args.listener.now c.statements.new.listener) (rw c.empty-def.ensures at c.in_ok-statements.ensures.read) (c.in_ok-statements.ensures.heard c.args.listener.now))
