use Rattle.std.proofs.Common.{arith}
use Rattle.implib_archive.specs.Parts.{padding}
use Rattle.implib_archive.proofs.Appended.{on_as, on_slice, take_replicate}
use Rattle.implib_archive.proofs.bytes.push_padding.Goals as goal

pub returns : goal.returns
unfolding padding
returns c = grind (arith, on_as, take_replicate, on_slice, c.extend_from_slice.ensures.items)
