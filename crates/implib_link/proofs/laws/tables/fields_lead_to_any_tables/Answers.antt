use Rattle.implib_link.proofs.Tables.{tables_branch_in_memory, tables_end_in_memory, tables_keep_in_memory, tables_lead_in_memory, tables_load_in_memory, tables_stay_in_memory, written_read}
use Rattle.implib_link.proofs.laws.tables.fields_lead_to_any_tables.Goals as goal

pub returns : goal.returns
returns c = record {
  loads = tables_load_in_memory;
  ends = tables_end_in_memory;
  handed = written_read;
  leads = tables_lead_in_memory;
  branches = tables_branch_in_memory;
  stay = tables_stay_in_memory;
  kept = tables_keep_in_memory;
}
