use Rattle.std.proofs.Common.{rules, inl, inr, refl}
use Rattle.implib_rules.specs.Library.{kind_of}
use Rattle.implib_rules.specs.Options.{library_options_view}
use Rattle.implib_c_calls.proofs.Answer.{leaves_lacking}
use Rattle.implib_c_calls.proofs.AnswerWith.{with_library, with_nothing}
use Rattle.implib_c_calls.proofs.Within.{named_within}
use Rattle.implib_c_calls.proofs.named.named_library_into.Goals as goal

pub failure_in-requires : goal.failure_in-requires
failure_in-requires c = named_within c.args.text.now (library_options_view c.in-Ok.options) c.in-Err-named_members_for.refusal c.in-Err-named_members_for.ensures.refused

pub returns-in-Ok-named_members_for : goal.returns-in-Ok-named_members_for
returns-in-Ok-named_members_for c =
    let members = c.in-Ok-named_members_for.members in
    let made = c.in-Ok-named_members_for.ensures.made in
    with_library c.in-Ok.ensures.ok c.args.text.now (kind_of c.in-Ok.options.flavor members) members
    (λ accepted. record { members = members; members_for = made; accepted = accepted; is = refl }) (inl (inl tt))
    (λ fault refused. inr (record { members = members; members_for = made; fault = fault; is = refl; refused = refused }))
    c.pack_into.new.buffer c.pack_into.result (rw (c.kind_for-kind.ensures, c.len.ensures) at c.pack_into.ensures)

pub returns-in-Err-named_members_for : goal.returns-in-Err-named_members_for
returns-in-Err-named_members_for c = search (rules, with_nothing, inl, c.in-Ok.ensures.ok, c.in-Err-named_members_for.ensures.refused, c.failure_in.ensures)

pub returns-in-Err : goal.returns-in-Err
returns-in-Err c = leaves_lacking c.in-Err.failure (inl c.in-Err.ensures.fault)
