use Rattle.std.proofs.Common.{rules, inl, inr, refl}
use Rattle.implib_archive.specs.declared.kind.Kind.TheVariants as kind
use Rattle.implib_libraries.specs.declared.delayed.DelayRefusal.TheVariants as delay
use Rattle.implib_libraries.proofs.Refusals.{no_archive}
use Rattle.implib_rules.specs.declared.library.Refusal.TheVariants as refusal
use Rattle.implib_rules.specs.Options.{library_options_view}
use Rattle.implib_c_calls.specs.declared.outcome.Failure.TheVariants as failure
use Rattle.implib_c_calls.specs.declared.outcome.NoDelay.TheVariants.{Flavor}
use Rattle.implib_c_calls.proofs.Answer.{leaves_lacking}
use Rattle.implib_c_calls.proofs.AnswerDelayed.{delayed_within, of_bytes}
use Rattle.implib_c_calls.proofs.AnswerWith.{with_archive, with_nothing}
use Rattle.implib_c_calls.proofs.delayed.delayed_into.Goals as goal

pub failure_delayed-requires : goal.failure_delayed-requires
failure_delayed-requires c = delayed_within c.args.text.now (library_options_view c.in-Ok.options) c.in-Err-delayed_members_for.refusal c.in-Err-delayed_members_for.ensures.refused

pub returns-in-Ok-delayed_members_for : goal.returns-in-Ok-delayed_members_for
returns-in-Ok-delayed_members_for c =
    let members = c.in-Ok-delayed_members_for.delayed.members in
    let made = c.in-Ok-delayed_members_for.ensures.made in
    with_archive c.in-Ok.ensures.ok kind.Gnu members
    (λ accepted. (c.in-Gnu.is, record { members = members; members_for = made; accepted = accepted; is = refl }))
    (inr (c.in-Gnu.is, record { cause = delay.Refused refusal.OutOfMemory; is = tt; told_is = refl }))
    (λ fault refused. inr (
      c.in-Gnu.is,
      record {
        cause = delay.Refused (refusal.Archive fault);
        is = no_archive c.args.text.now (library_options_view c.in-Ok.options) members (refusal.Archive fault) made refused;
        told_is = refl;
      },
    ))
    c.pack_into.new.buffer c.pack_into.result c.pack_into.ensures

pub returns-in-Err-delayed_members_for : goal.returns-in-Err-delayed_members_for
returns-in-Err-delayed_members_for c = search (rules, with_nothing, inr, of_bytes, c.in-Ok.ensures.ok, c.in-Gnu.is, c.in-Err-delayed_members_for.ensures.refused, c.failure_delayed.ensures)

pub returns-in-Err : goal.returns-in-Err
returns-in-Err c = leaves_lacking c.in-Err.failure (inl c.in-Err.ensures.fault)

pub returns-in-Msvc : goal.returns-in-Msvc
returns-in-Msvc c = with_nothing c.in-Ok.ensures.ok (failure.NotDelayed Flavor 0) (inl (c.in-Msvc.is, refl))
