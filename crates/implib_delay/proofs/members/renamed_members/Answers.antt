use Rattle.std.proofs.Common.{arith, ◌≡◌, None, ap, sym, ◌∙◌}
use Rattle.std.specs.Option.{option_map}
use Rattle.std.proofs.lemmas.Result.{err_from_is_err_and}
use Rattle.implib.specs.Definition.{definition_view}
use Rattle.implib_delay.specs.Refusal.{delay_cause, input_refusal}
use Rattle.implib_delay.proofs.Refused.{accepted, names_sound, refused_by_input, refused_by_length}
use Rattle.implib_delay.proofs.members.renamed_members.Goals as goal

pub returns-in-Some-clause-refused : goal.returns-in-Some-clause-refused
returns-in-Some-clause-refused c = grind (arith, refused_by_input, c.input_fault.ensures, c.in-Some.is)

pub sound_members-requires : goal.sound_members-requires
sound_members-requires c =
    names_sound (definition_view c.args.def.now) c.args.machine (sym c.input_fault.ensures ∙ ap (option_map delay_cause) c.in_default.is)

pub returns-in_err-members-clause-refused : goal.returns-in_err-members-clause-refused
returns-in_err-members-clause-refused c =
    let input : input_refusal (definition_view c.args.def.now) c.args.machine ≡ None = sym c.input_fault.ensures ∙ ap (option_map delay_cause) c.in_default.is in
    let p = err_from_is_err_and c.from_residual.result c.from_residual.ensures.1 in
    rw (p.1, p.2) (refused_by_length (definition_view c.args.def.now) c.args.machine c.in_err-members.field-0.0 input c.in_err-members.ensures.made.too_long)

pub returns-clause-ok : goal.returns-clause-ok
returns-clause-ok c = grind (arith, accepted, c.input_fault.ensures, c.in_default.is, c.in_ok-members.ensures.made.fit, c.in_ok-members.ensures.made.ok, c.in_ok-members.ensures.ordinals)
