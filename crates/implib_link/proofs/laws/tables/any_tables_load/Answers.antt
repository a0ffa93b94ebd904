use Rattle.implib_link.proofs.Tables.{tables_can_be_written, tables_end, tables_load, tables_read}
use Rattle.implib_link.proofs.laws.tables.any_tables_load.Goals as goal

pub returns : goal.returns
returns c = record {
  loads = λ machine t gives written tables wide. tables_load machine gives wide t written tables;
  reads = tables_read;
  ends = tables_end;
  writes = tables_can_be_written;
}
