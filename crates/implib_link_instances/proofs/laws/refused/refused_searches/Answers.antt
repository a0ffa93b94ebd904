use Rattle.implib_link_instances.proofs.Refused.Searches.{refused_is_weak_data, refused_is_weak_short, refused_pulls_into, refused_searches, refused_takes_into, refused_takes_of_libraries}
use Rattle.implib_link_instances.proofs.laws.refused.refused_searches.Goals as goal

pub returns : goal.returns
returns c = record {
  refused_pulls_into = refused_pulls_into;
  refused_takes_into = refused_takes_into;
  refused_takes_of_libraries = refused_takes_of_libraries;
  refused_is_weak_data = refused_is_weak_data;
  refused_is_weak_short = refused_is_weak_short;
  refused_searches = refused_searches;
}
