use Rattle.implib.proofs.Members.GnuReading.{linkers_ask_alike}
use Rattle.implib.proofs.laws.asked.linkers_ask_alike.Goals as goal

pub returns : goal.returns
returns c = linkers_ask_alike
