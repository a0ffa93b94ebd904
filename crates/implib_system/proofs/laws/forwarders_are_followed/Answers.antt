use Rattle.implib_system.proofs.Followed.{forwarded_reached}
use Rattle.implib_system.proofs.laws.forwarders_are_followed.Goals as goal

pub returns : goal.returns
returns c = forwarded_reached
