use Rattle.std.proofs.Common.{rules}
use Rattle.implib.specs.Definition.{export_view}
use Rattle.implib_check_driver.proofs.PositionsBySymbol.{positions_more}
use Rattle.implib_check_driver.proofs.positions.positions_by_symbol.Goals as goal

pub loop-i-preserved : goal.loop-i-preserved
loop-i-preserved c = λ symbol.
    positions_more export_view c.args.exports.now c.loop-i.i c.index-exports-i.result c.args.positions.now symbol
    (export_view c.index-exports-i.result) c.position_at.result _ _ (search rules) (search rules) (search rules)
    (c.in_ok-note.ensures symbol) (c.loop-i.invariant symbol)
