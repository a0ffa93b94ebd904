use Rattle.std.proofs.Common.{arith}
use Rattle.implib_archive.specs.Parts.{u32_le}
use Rattle.implib_archive.proofs.Appended.{pushes_more, pushes_nothing}
use Rattle.implib_archive.proofs.front.push_places.Goals as goal

pub loop-place-init : goal.loop-place-init
loop-place-init c = pushes_nothing _

pub loop-place-preserved : goal.loop-place-preserved
loop-place-preserved c = grind (arith, pushes_more u32_le c.args.places.now c.loop-place.place-index 0 c.loop-place-test.true c.loop-place.invariant c.in_ok-push_u32_le.ensures, c.loop-place-test.true, c.loop-place.invariant, c.in_ok-push_u32_le.ensures)
