use Rattle.std.proofs.Common.{inl, rules}
use Rattle.implib.specs.Definition.{definition_view}
use Rattle.implib_check_driver.proofs.positions.Positions.of.Goals as goal

pub returns : goal.returns
returns c = inl (record {
  meant = definition_view c.in-Some.def;
  places = c.in-Some-2.places.items;
  of_text = search rules;
  in_text = search rules;
  are = λ symbol. search rules;
})
