use Rattle.implib_link.specs.Search.Search.{TakesIntoAs}
use Rattle.implib_link.proofs.Archives.InBytes.{leads_to_first, search_of, takes_just}
use Rattle.implib_link.proofs.laws.archives.archives_are_searched.Goals as goal

pub returns : goal.returns
returns c = record {
  leads = λ kind linker members name ready. leads_to_first kind linker members ready name;
  takes = λ reads kind linker members own ready. takes_just kind linker members reads own (TakesIntoAs reads members own) ready (λ found takes. takes);
  found = λ reads kind linker members own found ready takes. search_of kind linker members reads own found ready takes;
}
