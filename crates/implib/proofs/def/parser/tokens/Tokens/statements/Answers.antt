use Rattle.std.proofs.Common.{refl}
use Rattle.std.proofs.lemmas.Result.{err_from_is_err_and}
use Rattle.implib.specs.Definition.{definition_view}
use Rattle.implib.specs.Text.Heard.{statement_roles}
use Rattle.implib.specs.Views.Hearing.{statement_heard, statements_heard}
use Rattle.implib.specs.Views.TokenReader.{statement_read, statements_read, with_statement}
use Rattle.implib.proofs.Text.HeardSteps.{heard_all, heard_more, heard_none, item_of, none_of}
use Rattle.implib.proofs.Text.ParserLoops.{remains_all, remains_err, remains_more, remains_none}
use Rattle.implib.proofs.def.parser.tokens.Tokens.statements.Goals as goal

pub loop-init : goal.loop-init
unfolding statements_read statements_heard
loop-init g c = record {
  remains = remains_all statement_read (with_statement c.args.machine) c.args.self.now (definition_view c.args.def.now);
  heard = λ start. heard_all statement_roles statement_read (g.L.Listener.has_heard start c.args.listener.now) c.args.self.now;
}

pub returns-in_err-statement-clause-read : goal.returns-in_err-statement-clause-read
unfolding statement_read
returns-in_err-statement-clause-read g c =
    let p = err_from_is_err_and c.from_residual.result c.from_residual.ensures.1 in
    rw (p.1, p.2) (remains_err statement_read (with_statement c.args.machine) c.loop.self (definition_view c.loop.def) c.in_err-statement.field-0.0 _ refl c.loop.invariant.remains c.in_err-statement.ensures.read)

pub loop-preserved : goal.loop-preserved
unfolding statement_heard
loop-preserved g c = record {
  remains = remains_more statement_read (with_statement c.args.machine) c.loop.self c.statement.new.self (definition_view c.loop.def) _ _ c.loop.invariant.remains
      (rw c.if-branch.true at c.in_ok-statement.ensures.read) (c.in_ok-statement.ensures.shorter c.if-branch.true);
  heard = λ start.
      let found = item_of (with_statement c.args.machine) (definition_view c.loop.def) _ _ (statement_read c.loop.self) (rw c.if-branch.true at c.in_ok-statement.ensures.read) in
      heard_more statement_roles statement_read (g.L.Listener.has_heard start c.args.listener.now) (g.L.Listener.has_heard start c.loop.listener) (g.L.Listener.has_heard start c.statement.new.listener) c.loop.self c.statement.new.self (statements_heard c.args.self.now) found.0 found.1 (c.in_ok-statement.ensures.shorter c.if-branch.true)
      (c.in_ok-statement.ensures.heard start) (c.loop.invariant.heard start);
}

pub returns-clause-read : goal.returns-clause-read
unfolding statement_read
returns-clause-read g c =
    remains_none statement_read (with_statement c.args.machine) c.loop.self c.statement.new.self (definition_view c.loop.def) _ _ refl c.loop.invariant.remains (rw c.if-branch.false at c.in_ok-statement.ensures.read)

pub returns-clause-heard : goal.returns-clause-heard
unfolding statement_heard
returns-clause-heard g c = λ start.
    let none = none_of (with_statement c.args.machine) (definition_view c.loop.def) _ _ (statement_read c.loop.self) (rw c.if-branch.false at c.in_ok-statement.ensures.read) in
    heard_none statement_roles statement_read (g.L.Listener.has_heard start c.args.listener.now) (g.L.Listener.has_heard start c.loop.listener) (g.L.Listener.has_heard start c.statement.new.listener) c.loop.self c.statement.new.self (statements_heard c.args.self.now) none (c.in_ok-statement.ensures.heard start) (c.loop.invariant.heard start)
