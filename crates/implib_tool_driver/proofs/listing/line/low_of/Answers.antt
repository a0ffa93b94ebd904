use Rattle.std.proofs.Common.{rules}
use Rattle.std.proofs.lemmas.Simd.{Each1-all, Each2-splat, zip2_splat}
use Rattle.implib_tool_driver.proofs.listing.line.low_of.Goals as goal

pub nonzero_rem-result : goal.nonzero_rem-result
nonzero_rem-result c = Each2-splat _ c.args.bytes 16 16 (Each1-all _ (λ a. search rules) c.args.bytes)

pub returns : goal.returns
returns c = zip2_splat _ c.args.bytes 16 16 c.fits-bytes.0
