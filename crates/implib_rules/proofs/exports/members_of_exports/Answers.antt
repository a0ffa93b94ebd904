use Rattle.std.proofs.Common.{map}
use Rattle.implib.specs.Definition.{definition_view, export_view}
use Rattle.implib_rules.specs.Options.{library_options_view}
use Rattle.implib_rules.proofs.Made.{members_of_exports}
use Rattle.implib_rules.proofs.exports.members_of_exports.Goals as goal

pub returns-in-Ok-clause-made : goal.returns-in-Ok-clause-made
returns-in-Ok-clause-made c =
    members_of_exports (map export_view c.args.exports.items) (library_options_view c.args.options.now) (definition_view c.in_ok-def.def) c.in-Ok.members
    c.in_ok-def.ensures.meant c.in-Ok.ensures.ok
