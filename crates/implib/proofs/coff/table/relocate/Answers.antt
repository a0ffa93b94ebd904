use Rattle.std.proofs.Common.{ap, get_or, sym, take}
use Rattle.std.proofs.lemmas.List.{take_more}
use Rattle.implib.specs.Formats.Object.{ObjectSection}
use Rattle.implib.proofs.Formats.Defaults.{no_relocation}
use Rattle.implib.proofs.Formats.Table.{next_has_room, with_no_relocation, with_relocation_more}
use Rattle.implib.proofs.coff.table.relocate.Goals as goal
use Rattle.std.specs.Prelude.{List}

pub loop-relocation-init : goal.loop-relocation-init
loop-relocation-init c = ap (λ (ss : List ObjectSection). record c.args.writer.now { sections = ss }) (sym (with_no_relocation c.args.writer.now.sections c.args.number))

pub add_relocation-requires-clause-section : goal.add_relocation-requires-clause-section
add_relocation-requires-clause-section c =
    rw c.loop-relocation.invariant
    (next_has_room c.args.writer.now.symbols c.args.writer.now.sections c.args.number c.args.relocations.now c.loop-relocation.relocation-index no_relocation c.requires c.loop-relocation-test.true)

pub loop-relocation-preserved : goal.loop-relocation-preserved
loop-relocation-preserved c =
    rw (c.in_ok-add_relocation.ensures.ok, c.loop-relocation.invariant, take_more c.args.relocations.now c.loop-relocation.relocation-index no_relocation c.loop-relocation-test.true)
    (ap (λ (ss : List ObjectSection). record c.args.writer.now { sections = ss })
    (with_relocation_more c.args.writer.now.sections c.args.number (take c.loop-relocation.relocation-index c.args.relocations.now) (get_or c.args.relocations.now c.loop-relocation.relocation-index no_relocation)))
