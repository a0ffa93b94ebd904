use Rattle.std.proofs.Common.{length}
use Rattle.implib.specs.Definition.{definition_view}
use Rattle.implib.specs.Text.Heard.{statement_roles}
use Rattle.implib.specs.Views.Hearing.{statements_heard}
use Rattle.implib.specs.Views.Parser.{all_put}
use Rattle.implib.specs.Views.TokenReader.{statement_read, statements_read, with_statement}
use Rattle.implib.proofs.Text.HeardSteps.{HeardRemains}
use Rattle.implib.proofs.Text.ParserLoops.{Remains}
use Rattle.implib.proofs.def.parser.tokens.Tokens.statements.Given as goal

abbrev pub invariant-loop : goal.invariant-loop
invariant-loop g l = record {
  remains : Remains statement_read (with_statement l.machine) l.self (definition_view l.def) (all_put (with_statement l.machine) (definition_view l.initial.def) (statements_read l.initial.self));
  heard : (start : g.row.L.Denot) → HeardRemains statement_roles statement_read (g.L.Listener.has_heard start l.initial.listener) (g.L.Listener.has_heard start l.listener) l.self (statements_heard l.initial.self);
}

abbrev pub decreases-loop : goal.decreases-loop
decreases-loop g l = length l.self
