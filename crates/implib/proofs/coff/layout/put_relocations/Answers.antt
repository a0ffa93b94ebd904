use Rattle.std.proofs.Common.{arith, take}
use Rattle.std.proofs.lemmas.List.{length-take}
use Rattle.implib.proofs.Formats.Symbols.{length-relocations}
use Rattle.implib.proofs.coff.layout.put_relocations.Goals as goal

pub put_relocation-requires : goal.put_relocation-requires
put_relocation-requires c =
    omega (arith, length-relocations (take c.loop-relocation.relocation-index c.args.relocations.now), length-take c.loop-relocation.relocation-index c.args.relocations.now)
