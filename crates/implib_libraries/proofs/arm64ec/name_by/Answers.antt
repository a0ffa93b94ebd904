use Rattle.std.proofs.Common.{arith, refl, subst}
use Rattle.implib.specs.Definition.{definition_view}
use Rattle.implib_libraries.specs.Arm64ec.{arm64ec_options}
use Rattle.implib_rules.specs.Library.{DefinitionFor}
use Rattle.implib_rules.specs.Options.{library_options_view}
use Rattle.implib_rules.proofs.Made.{found_in}
use Rattle.implib_libraries.proofs.arm64ec.name_by.Goals as goal

pub returns-in-Ok-definition_for-clause-given : goal.returns-in-Ok-definition_for-clause-given
returns-in-Ok-definition_for-clause-given c =
    let bytes = c.args.bytes.now in
    let options = library_options_view c.args.options.now in
    let d = definition_view c.in-Ok-definition_for.def in
    let found = found_in bytes c.in-Ok.text.now c.in_ok-read.read c.in_ok-read.ensures c.in-Ok.ensures in
    let read : DefinitionFor c.in-Ok.text.now (arm64ec_options options) d = grind (arith, c.arm64ec_options.ensures, c.in-Ok-definition_for.ensures.meant) in
    record {
      utf8 = found.1;
      definition = d;
      of_text = subst (λ t. DefinitionFor t (arm64ec_options options) d) found.0 read;
      is = refl;
    }
