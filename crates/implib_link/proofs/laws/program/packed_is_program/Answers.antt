use Rattle.implib_link.proofs.Flavors.Program.{packed_admissible, packed_objects}
use Rattle.implib_link.proofs.Gnu.Packed.{packed_eights}
use Rattle.implib_link.proofs.laws.program.packed_is_program.Goals as goal

pub returns : goal.returns
returns c = record { admissible = packed_admissible; program = packed_objects; eights = packed_eights }
