use Rattle.implib_rules.proofs.LibrariesApart.{found_of_text}
use Rattle.implib_rules.proofs.laws.msvc_libraries_are_found.Goals as goal

pub returns : goal.returns
returns c = found_of_text
