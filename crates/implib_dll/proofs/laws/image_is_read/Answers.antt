use Rattle.implib_dll.proofs.InMemory.{image_is_read}
use Rattle.implib_dll.proofs.laws.image_is_read.Goals as goal

pub returns : goal.returns
returns c = image_is_read
