use Rattle.implib_link_instances.proofs.Refused.Links.{refused_flavor_text_links, refused_flavor_texts_link, refused_input_imports, refused_is_imported_by, refused_is_imported, refused_is_taken, refused_links_closed, refused_lld_links, refused_program_links}
use Rattle.implib_link_instances.proofs.laws.refused.refused_links.Goals as goal

pub returns : goal.returns
returns c = record {
  refused_input_imports = refused_input_imports;
  refused_is_imported_by = refused_is_imported_by;
  refused_lld_links = refused_lld_links;
  refused_is_taken = refused_is_taken;
  refused_program_links = refused_program_links;
  refused_links_closed = refused_links_closed;
  refused_is_imported = refused_is_imported;
  refused_flavor_text_links = refused_flavor_text_links;
  refused_flavor_texts_link = refused_flavor_texts_link;
}
