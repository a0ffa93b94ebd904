use Rattle.std.proofs.Common.{refl, arith, w8}
use Rattle.std.proofs.lemmas.Simd.{SwzOk-from_below}
use Rattle.implib_tool_driver.proofs.Lanes.{looked_up}
use Rattle.implib_tool_driver.proofs.listing.line.digits_of.Goals as goal

pub swizzle : goal.swizzle
swizzle c = SwzOk-from_below w8 16 1 16 0 c.args.values refl (omega (arith, c.fits-values.0)) c.requires

pub returns : goal.returns
returns c = looked_up c.args.values 0 (omega (arith, c.fits-values.0)) c.requires
