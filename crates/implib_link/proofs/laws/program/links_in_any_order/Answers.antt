use Rattle.implib.proofs.Link.LinkedInputs.{gnu_inputs_link}
use Rattle.implib_link.proofs.laws.program.links_in_any_order.Goals as goal

pub returns : goal.returns
returns c = record { links = gnu_inputs_link }
