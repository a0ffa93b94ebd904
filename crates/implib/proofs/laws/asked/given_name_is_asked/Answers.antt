use Rattle.implib.proofs.Members.Asked.{ask_for_given_names}
use Rattle.implib.proofs.laws.asked.given_name_is_asked.Goals as goal

pub returns : goal.returns
returns c = λ definition members made. ask_for_given_names c.args.flavor c.args.machine definition members made
