use Rattle.implib_link_instances.proofs.Refused.Archives.{refused_are_members_at, refused_calls_arrive, refused_has_members_as, refused_in_bytes, refused_is_header_of, refused_is_in_directory, refused_is_search_of, refused_is_wanted_by, refused_leads_to_first, refused_lld_arrives}
use Rattle.implib_link_instances.proofs.laws.refused.refused_archives.Goals as goal

pub returns : goal.returns
returns c = record {
  refused_is_header_of = refused_is_header_of;
  refused_are_members_at = refused_are_members_at;
  refused_is_search_of = refused_is_search_of;
  refused_leads_to_first = refused_leads_to_first;
  refused_calls_arrive = refused_calls_arrive;
  refused_is_wanted_by = refused_is_wanted_by;
  refused_lld_arrives = refused_lld_arrives;
  refused_is_in_directory = refused_is_in_directory;
  refused_has_members_as = refused_has_members_as;
  refused_in_bytes = refused_in_bytes;
}
