use Rattle.implib.specs.Definition.{definition_view}
use Rattle.implib.proofs.Members.Renaming.{is_renamed_after}
use Rattle.implib.proofs.library.ImportLibrary.from_def.Goals as goal

pub invariant_of-result : goal.invariant_of-result
invariant_of-result c = is_renamed_after c.rename.result (definition_view c.args.def) c.rename.ensures
