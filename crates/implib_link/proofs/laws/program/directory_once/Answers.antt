use Rattle.implib_link.proofs.Gnu.Loaded.{directory_walk, walk_once}
use Rattle.implib_link.proofs.laws.program.directory_once.Goals as goal

pub returns : goal.returns
returns c = record { walk = directory_walk; once = walk_once }
