use Rattle.implib_link.proofs.Search.FlavorGroups.{named_apart}
use Rattle.implib_link.proofs.laws.search.libraries_named_apart_are_archive.Goals as goal

pub returns : goal.returns
returns c = named_apart
