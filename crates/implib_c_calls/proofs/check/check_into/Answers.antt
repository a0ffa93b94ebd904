use Rattle.std.proofs.Common.{inl, inr, map, sym}
use Rattle.implib_read.specs.ArchiveViews.{archive_view}
use Rattle.implib_read.specs.ClassViews.{member_read_view}
use Rattle.implib_rules.specs.Options.{library_options_view}
use Rattle.implib_c_calls.specs.declared.outcome.Failure.TheVariants as failure
use Rattle.implib_c_calls.specs.Check.{told_of}
use Rattle.implib_c_calls.proofs.Answer.{leaves_encoded, leaves_lacking}
use Rattle.implib_c_calls.proofs.AnswerWith.{with_nothing, with_options}
use Rattle.implib_c_calls.proofs.CheckAnswers.{compares_so, some_read, within_bytes}
use Rattle.implib_c_calls.proofs.ToldBack.{told_back}
use Rattle.implib_c_calls.proofs.check.check_into.Goals as goal

pub failure_in-requires : goal.failure_in-requires
failure_in-requires c = within_bytes c.args.text.now (library_options_view c.in-Ok.options) c.in-Err-read_check.refusal c.in-Err-read_check.ensures.refused

pub returns-in-Err-read_check : goal.returns-in-Err-read_check
returns-in-Err-read_check c =
    let read = rw c.in-Some.is at c.in-Ok-read.ensures.members in
    with_nothing c.in-Ok.ensures.ok c.failure_in.result
    (inr (some_read _ _ read, record { cause = c.in-Err-read_check.refusal; is = c.in-Err-read_check.ensures.refused; told_is = c.failure_in.ensures }))

pub returns : goal.returns
returns c =
    let archive = archive_view c.in-Some.found.archive in
    let members = map member_read_view c.in-Some.found.members.items in
    let encodes = c.in-Ok-read_check.ensures.ok in
    let is_archive = rw c.in-Some.is at c.in-Ok-read.ensures.archive in
    let read = rw c.in-Some.is at c.in-Ok-read.ensures.members in
    leaves_encoded told_back (λ told so. with_options c.in-Ok.ensures.ok so)
    (record {
      what = told_of archive members encodes.on.meant;
      has = compares_so c.args.library.now c.args.text.now (library_options_view c.in-Ok.options) archive members c.in-Ok-read_check.bytes.items is_archive read encodes;
      encoding = encodes.encodes;
    })
    c.as_slice.ensures.value c.put_encoding.new.buffer c.put_encoding.result c.put_encoding.ensures

pub returns-in-Err : goal.returns-in-Err
returns-in-Err c = leaves_lacking c.in-Err.failure (inl c.in-Err.ensures.fault)

pub returns-in_default : goal.returns-in_default
returns-in_default c = with_nothing c.in-Ok.ensures.ok failure.OutOfMemory (inl tt)

pub returns-in_default-found : goal.returns-in_default-found
returns-in_default-found c = with_nothing c.in-Ok.ensures.ok failure.NotALibrary (inl (sym (rw c.in_default-found.is at c.in-Ok-read.ensures.members)))
