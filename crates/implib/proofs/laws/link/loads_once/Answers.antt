use Rattle.implib.proofs.Link.Loading.{asks_once, dll_once}
use Rattle.implib.proofs.laws.link.loads_once.Goals as goal

pub returns : goal.returns
returns c = record { dll = dll_once; asks = asks_once }
