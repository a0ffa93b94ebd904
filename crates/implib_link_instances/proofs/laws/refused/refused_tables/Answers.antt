use Rattle.implib_link_instances.proofs.Refused.Links.{refused_are_tables, refused_are_tables_loaded, refused_fills_by, refused_finds_by, refused_holds_at, refused_is_in_table, refused_loaders}
use Rattle.implib_link_instances.proofs.laws.refused.refused_tables.Goals as goal

pub returns : goal.returns
returns c = record {
  refused_finds_by = refused_finds_by;
  refused_fills_by = refused_fills_by;
  refused_holds_at = refused_holds_at;
  refused_is_in_table = refused_is_in_table;
  refused_are_tables = refused_are_tables;
  refused_are_tables_loaded = refused_are_tables_loaded;
  refused_loaders = refused_loaders;
}
