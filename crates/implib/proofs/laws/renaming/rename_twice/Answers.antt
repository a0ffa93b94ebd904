use Rattle.implib.specs.Definition.{definition_view}
use Rattle.implib.proofs.Members.Renaming.{renamed_twice}
use Rattle.implib.proofs.laws.renaming.rename_twice.Goals as goal

pub returns : goal.returns
returns c = renamed_twice (definition_view c.args.def.now)
