use Rattle.implib_link.proofs.Search.Wanting.{definitions_same, image_same, names_wanted, program_with, program_without}
use Rattle.implib_link.proofs.laws.search.names_are_wanted_as_by_an_object.Goals as goal

pub returns : goal.returns
returns c = record {
  wants = names_wanted;
  nothing = λ names machine bases objects. (
    image_same names machine bases objects,
    (
      definitions_same names machine bases objects,
      λ ending inputs. (program_without names machine bases objects ending inputs, program_with names machine bases objects ending inputs),
    ),
  );
}
