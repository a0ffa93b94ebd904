use Rattle.std.proofs.Common.{◌<◌, arith, subst, sym, w8}
use Rattle.std.specs.Simd.Lanes.{Each1}
use Rattle.std.proofs.lemmas.List.{take_all}
use Rattle.std.proofs.lemmas.Simd.{chunk-fits}
use Rattle.implib_tool_driver.proofs.Lanes.{highs_below, line_text}
use Rattle.implib_tool_driver.proofs.listing.line.line_of.Goals as goal

pub digits_of-high-requires : goal.digits_of-high-requires
digits_of-high-requires c = subst (Each1 (λ n. n < 16)) (sym c.high_of.ensures) (highs_below _ (chunk-fits w8 0 16 c.args.bytes.now c.type_inv.bytes))

pub returns : goal.returns
returns c = grind (arith, take_all 16 c.args.bytes.now (omega (arith, c.requires)), line_text c.args.bytes.now c.requires, c.requires, c.digits_of-high.ensures, c.high_of.ensures, c.digits_of-low.ensures, c.low_of.ensures)
