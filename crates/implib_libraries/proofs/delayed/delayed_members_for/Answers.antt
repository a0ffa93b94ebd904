use Rattle.std.proofs.Common.{rules}
use Rattle.implib.specs.Definition.{definition_view}
use Rattle.implib_delay.specs.Refusal.{delay_cause}
use Rattle.implib_rules.specs.Options.{library_options_view}
use Rattle.implib_rules.proofs.Made.{found_in}
use Rattle.implib_libraries.proofs.Refusals.{delayed_for, refuses, undelayed}
use Rattle.implib_libraries.proofs.delayed.delayed_members_for.Goals as goal

pub returns-in-Err-Invalid-clause-refused : goal.returns-in-Err-Invalid-clause-refused
returns-in-Err-Invalid-clause-refused c =
    let bytes = c.args.bytes.now in
    let options = library_options_view c.args.options.now in
    let cause = delay_cause c.in-Err-Invalid.fault in
    let found = found_in bytes c.in-Ok.text.now c.in_ok-read.read c.in_ok-read.ensures c.in-Ok.ensures in
    undelayed bytes c.in-Ok.text.now options cause c.refusal_placed.result found.0
    (refuses bytes c.in-Ok.text.now options (library_options_view c.delayed_options.result) (definition_view c.in_ok-def.def) cause found c.delayed_options.ensures c.in_ok-def.ensures.meant (search rules))
    c.refusal_placed.ensures

pub returns-in-Ok-delayed_members-clause-made : goal.returns-in-Ok-delayed_members-clause-made
returns-in-Ok-delayed_members-clause-made c =
    let bytes = c.args.bytes.now in
    let found = found_in bytes c.in-Ok.text.now c.in_ok-read.read c.in_ok-read.ensures c.in-Ok.ensures in
    delayed_for bytes c.in-Ok.text.now (library_options_view c.args.options.now) (library_options_view c.delayed_options.result) (definition_view c.in_ok-def.def)
    (definition_view c.without_data.result) c.in-Ok-delayed_members.members found c.delayed_options.ensures c.in_ok-def.ensures.meant c.without_data.ensures
    c.in-Ok-delayed_members.ensures.ok c.in-Ok-delayed_members.ensures.reads
