use Rattle.std.proofs.Common.{◌+◌, ◌∙◌, ap, List}
use Rattle.implib.specs.Formats.Object.{ObjectSection}
use Rattle.implib.specs.Views.Table.{HasRoomForAll}
use Rattle.implib.proofs.Formats.Defaults.{no_section_row}
use Rattle.implib.proofs.Formats.Table.{all_relocated, next_numbered, next_relocated, row_has_room}
use Rattle.implib.proofs.coff.table.add_relocations.Goals as goal

pub relocate-requires : goal.relocate-requires
relocate-requires c =
    rw c.loop-row.invariant.sections
    (next_numbered (HasRoomForAll c.args.writer.now.symbols _) c.args.rows.now c.loop-row.row-index c.loop-row.number no_section_row c.loop-row-test.true c.loop-row.invariant.number
    (row_has_room c.args.writer.now.symbols c.args.rows.now c.loop-row.row-index no_section_row c.requires.each c.loop-row-test.true))

pub loop-row-preserved : goal.loop-row-preserved
loop-row-preserved c = record {
  number = ap (λ n. n + 1) c.loop-row.invariant.number;
  sections =
      rw (c.in_ok-relocate.ensures.ok, c.loop-row.invariant.sections)
      (ap (λ (ss : List ObjectSection). record c.args.writer.now { sections = ss })
      (next_relocated c.args.rows.now c.loop-row.row-index c.loop-row.number no_section_row c.loop-row-test.true c.loop-row.invariant.number));
}

pub returns : goal.returns
returns c = record {
  ok =
      c.loop-row.invariant.sections
      ∙ ap (λ (ss : List ObjectSection). record c.args.writer.now { sections = ss }) (all_relocated c.args.rows.now c.loop-row.row-index c.loop-row-test.false);
  memory = tt;
}
