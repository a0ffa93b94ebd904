use Rattle.std.proofs.Common.{◌∙◌, ap, map}
use Rattle.std.specs.Prelude.{is_some}
use Rattle.implib.specs.Definition.{export_view}
use Rattle.implib_rules.specs.Linked.{declares}
use Rattle.implib_rules.proofs.Targets.{some-first}
use Rattle.implib_rules.proofs.aliases.is_declared.Goals as goal

pub returns : goal.returns
returns c =
    let word = c.args.word.now in
    c.contains_key.ensures ∙ ap is_some (c.args.lookups.now.are_declared word) ∙ some-first (λ x. declares x word) (map export_view c.args.lookups.now.exports.now)
