use Rattle.implib_link.proofs.Search.Ends.{into_ends, search_bounded}
use Rattle.implib_link.proofs.laws.search.search_ends.Goals as goal

pub returns : goal.returns
returns c = record { found = into_ends; bounded = search_bounded }
