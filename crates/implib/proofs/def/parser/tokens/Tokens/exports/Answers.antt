use Rattle.std.proofs.Common.{arith, refl}
use Rattle.std.proofs.lemmas.Result.{err_from_is_err_and}
use Rattle.std.proofs.Common.{map}
use Rattle.implib.specs.Definition.{export_view}
use Rattle.implib.specs.Text.Heard.{export_roles}
use Rattle.implib.specs.Views.Hearing.{export_heard, exports_heard}
use Rattle.implib.specs.Views.Parser.{with_export}
use Rattle.implib.specs.Views.TokenReader.{export_read, exports_read}
use Rattle.implib.proofs.Text.HeardSteps.{heard_all, heard_more, heard_none, item_of, none_of}
use Rattle.implib.proofs.Text.ParserLoops.{remains_all, remains_err, remains_more, remains_none}
use Rattle.implib.proofs.def.parser.tokens.Tokens.exports.Goals as goal

pub loop-init : goal.loop-init
unfolding exports_read exports_heard
loop-init g c = record {
  shorter = omega arith;
  remains = remains_all export_read (with_export c.args.machine) c.args.self.now (map export_view c.args.exports.now.items);
  heard = λ start. heard_all export_roles export_read (g.L.Listener.has_heard start c.args.listener.now) c.args.self.now;
}

pub returns-in_err-export-clause-read : goal.returns-in_err-export-clause-read
unfolding export_read
returns-in_err-export-clause-read g c =
    let p = err_from_is_err_and c.from_residual.result c.from_residual.ensures.1 in
    rw (p.1, p.2) (remains_err export_read (with_export c.args.machine) c.loop.self (map export_view c.loop.exports.items) c.in_err-export.field-0.0 _ refl c.loop.invariant.remains c.in_err-export.ensures.read)

pub loop-preserved : goal.loop-preserved
unfolding export_heard
loop-preserved g c = record {
  shorter = omega (arith, c.in_ok-export.ensures.no_longer);
  remains = remains_more export_read (with_export c.args.machine) c.loop.self c.export.new.self (map export_view c.loop.exports.items) _ _ c.loop.invariant.remains
      (rw c.if-branch.true at c.in_ok-export.ensures.read) (c.in_ok-export.ensures.shorter c.if-branch.true);
  heard = λ start.
      let found = item_of (with_export c.args.machine) (map export_view c.loop.exports.items) _ _ (export_read c.loop.self) (rw c.if-branch.true at c.in_ok-export.ensures.read) in
      heard_more export_roles export_read (g.L.Listener.has_heard start c.args.listener.now) (g.L.Listener.has_heard start c.loop.listener) (g.L.Listener.has_heard start c.export.new.listener) c.loop.self c.export.new.self (exports_heard c.args.self.now) found.0 found.1 (c.in_ok-export.ensures.shorter c.if-branch.true)
      (c.in_ok-export.ensures.heard start) (c.loop.invariant.heard start);
}

pub returns-clause-read : goal.returns-clause-read
unfolding export_read
returns-clause-read g c =
    remains_none export_read (with_export c.args.machine) c.loop.self c.export.new.self (map export_view c.loop.exports.items) _ _ refl c.loop.invariant.remains (rw c.if-branch.false at c.in_ok-export.ensures.read)

pub returns-clause-heard : goal.returns-clause-heard
unfolding export_heard
returns-clause-heard g c = λ start.
    let none = none_of (with_export c.args.machine) (map export_view c.loop.exports.items) _ _ (export_read c.loop.self) (rw c.if-branch.false at c.in_ok-export.ensures.read) in
    heard_none export_roles export_read (g.L.Listener.has_heard start c.args.listener.now) (g.L.Listener.has_heard start c.loop.listener) (g.L.Listener.has_heard start c.export.new.listener) c.loop.self c.export.new.self (exports_heard c.args.self.now) none (c.in_ok-export.ensures.heard start) (c.loop.invariant.heard start)
