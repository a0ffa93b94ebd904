use Rattle.std.proofs.Common.{arith, refl}
use Rattle.std.proofs.lemmas.Result.{err_from_is_err_and}
use Rattle.implib.specs.Definition.{export_view}
use Rattle.implib.specs.Views.TokenReader.{attribute_read, attributes_read, with_attribute}
use Rattle.implib.proofs.Text.ParserLoops.{remains_all, remains_err, remains_more, remains_none}
use Rattle.implib.proofs.def.parser.tokens.Tokens.attributes.Goals as goal

pub loop-init : goal.loop-init
unfolding attributes_read
loop-init g c = record {
  shorter = omega arith;
  remains = remains_all attribute_read with_attribute c.args.self.now (export_view c.args.export.now);
  heard = λ start total t. t;
}

pub returns-in_err-attribute-clause-read : goal.returns-in_err-attribute-clause-read
unfolding attribute_read
returns-in_err-attribute-clause-read g c =
    let p = err_from_is_err_and c.from_residual.result c.from_residual.ensures.1 in
    rw (p.1, p.2) (remains_err attribute_read with_attribute c.loop.self (export_view c.loop.export) c.in_err-attribute.field-0.0 _ refl c.loop.invariant.remains c.in_err-attribute.ensures.read)

pub loop-preserved : goal.loop-preserved
loop-preserved g c = record {
  shorter = omega (arith, c.in_ok-attribute.ensures.no_longer);
  remains = remains_more attribute_read with_attribute c.loop.self c.attribute.new.self (export_view c.loop.export) _ _ c.loop.invariant.remains
      (rw c.if-branch.true at c.in_ok-attribute.ensures.read) (c.in_ok-attribute.ensures.shorter c.if-branch.true);
  heard = λ start total t. c.attribute.ensures.heard start total (c.loop.invariant.heard start total t);
}

pub returns-clause-read : goal.returns-clause-read
unfolding attribute_read
returns-clause-read g c =
    remains_none attribute_read with_attribute c.loop.self c.attribute.new.self (export_view c.loop.export) _ _ refl c.loop.invariant.remains (rw c.if-branch.false at c.in_ok-attribute.ensures.read)
