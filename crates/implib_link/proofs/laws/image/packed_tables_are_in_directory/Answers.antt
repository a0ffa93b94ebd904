use Rattle.implib_link.proofs.Image.Files.{packed_inside}
use Rattle.implib_link.proofs.laws.image.packed_tables_are_in_directory.Goals as goal

pub returns : goal.returns
returns c = packed_inside
