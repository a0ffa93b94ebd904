use Rattle.std.proofs.Common.{◌≤◌, length}
use Rattle.implib.specs.Definition.{export_view}
use Rattle.implib.specs.Views.Hearing.{HearsOthers}
use Rattle.implib.specs.Views.Parser.{all_put}
use Rattle.implib.specs.Views.TokenReader.{attribute_read, attributes_read, with_attribute}
use Rattle.implib.proofs.Text.ParserLoops.{Remains}
use Rattle.implib.proofs.def.parser.tokens.Tokens.attributes.Given as goal

abbrev pub invariant-loop : goal.invariant-loop
invariant-loop g l = record {
  shorter : length l.self ≤ length l.initial.self;
  remains : Remains attribute_read with_attribute l.self (export_view l.export) (all_put with_attribute (export_view l.initial.export) (attributes_read l.initial.self));
  heard : (start : g.row.L.Denot) → HearsOthers (g.L.Listener.has_heard start l.initial.listener) l.initial.self (g.L.Listener.has_heard start l.listener) l.self;
}

abbrev pub decreases-loop : goal.decreases-loop
decreases-loop g l = length l.self
