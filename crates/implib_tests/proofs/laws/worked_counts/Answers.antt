use Rattle.implib_tests.proofs.Counts.{counts_of_objects, counts_of_texts}
use Rattle.implib_tests.proofs.laws.worked_counts.Goals as goal

pub returns : goal.returns
returns c = record { objects = counts_of_objects; texts = counts_of_texts }
