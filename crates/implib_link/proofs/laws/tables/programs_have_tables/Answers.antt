use Rattle.implib_link.proofs.Flavors.Steady.{program_tables_none}
use Rattle.implib_link.proofs.Tables.{lld_steady, lld_tables, program_tables}
use Rattle.implib_link.proofs.laws.tables.programs_have_tables.Goals as goal

pub returns : goal.returns
returns c = record {
  members = λ machine ending bases inputs objects made program.
      (program_tables machine ending bases inputs objects made program, program_tables_none machine ending bases inputs objects made program.held.ended);
  lld = lld_tables;
  lld_steady = lld_steady;
}
