use Rattle.std.proofs.Common.{◌<◌, ◌^◌, subst, length}
use Rattle.std.proofs.lemmas.List.Elements.{All-more}
use Rattle.implib_c_calls.specs.Definition.{encoded_export, stated_of}
use Rattle.implib_c_calls.specs.Encoding.{encoded_number}
use Rattle.implib_c_calls.proofs.Pushes.{pushes_item}
use Rattle.implib_c_calls.proofs.definition.push_exports.Goals as goal

pub loop-export-preserved : goal.loop-export-preserved
loop-export-preserved c = (
  pushes_item encoded_export stated_of c.args.exports.now c.loop-export.export-index (encoded_number (length c.args.exports.now)) c.loop-export.invariant.0
      c.export-item.result c.loop-export-test.true c.export-item.is c.in_ok-push_export.ensures.appended,
  All-more (λ e. e.ordinal < 2 ^ 64) c.args.exports.now c.loop-export.export-index c.export-item.result c.loop-export-test.true c.loop-export.invariant.1
      (subst (λ e. e.ordinal < 2 ^ 64) c.export-item.is c.in_ok-push_export.ensures.fit),
)
