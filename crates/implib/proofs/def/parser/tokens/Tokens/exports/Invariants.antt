use Rattle.std.proofs.Common.{◌≤◌, length, map}
use Rattle.implib.specs.Definition.{export_view}
use Rattle.implib.specs.Text.Heard.{export_roles}
use Rattle.implib.specs.Views.Hearing.{exports_heard}
use Rattle.implib.specs.Views.Parser.{all_put, with_export}
use Rattle.implib.specs.Views.TokenReader.{export_read, exports_read}
use Rattle.implib.proofs.Text.HeardSteps.{HeardRemains}
use Rattle.implib.proofs.Text.ParserLoops.{Remains}
use Rattle.implib.proofs.def.parser.tokens.Tokens.exports.Given as goal

abbrev pub invariant-loop : goal.invariant-loop
invariant-loop g l = record {
  shorter : length l.self ≤ length l.initial.self;
  remains : Remains export_read (with_export l.machine) l.self (map export_view l.exports.items) (all_put (with_export l.machine) (map export_view l.initial.exports.items) (exports_read l.initial.self));
  heard : (start : g.row.L.Denot) → HeardRemains export_roles export_read (g.L.Listener.has_heard start l.initial.listener) (g.L.Listener.has_heard start l.listener) l.self (exports_heard l.initial.self);
}

abbrev pub decreases-loop : goal.decreases-loop
decreases-loop g l = length l.self
