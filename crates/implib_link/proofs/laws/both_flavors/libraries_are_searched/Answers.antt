use Rattle.implib_link.specs.Flavors.Expansion.{expanded_in}
use Rattle.implib_link.specs.Search.Libraries.{archive_of_both}
use Rattle.implib_link.specs.Search.Search.{unresolved}
use Rattle.implib_link.proofs.Search.Closing.{takes_apart}
use Rattle.implib_link.proofs.Search.Taken.{both_taken}
use Rattle.implib_link.proofs.laws.both_flavors.libraries_are_searched.Goals as goal

pub returns : goal.returns
returns c = λ machine libraries own taken archive claims names takes.
    both_taken machine libraries archive (unresolved own) taken names (takes_apart (expanded_in machine) (archive_of_both libraries) own taken claims takes)
