use Rattle.std.proofs.Common.{Err, inl, inr, map, refl}
use Rattle.std.specs.String.{string_bytes}
use Rattle.implib_driver.proofs.Calls.{does_task}
use Rattle.implib_driver.proofs.program.perform_call.Goals as goal
use Rattle.implib_options.specs.Saying.{fault_view}

pub returns-in-Err-Refused : goal.returns-in-Err-Refused
returns-in-Err-Refused g c =
    inl (
      Err (fault_view c.in-Err-Refused.fault),
      rw c.in-Err-Refused.field-0-is at c.in-Err-Refused.ensures.refused,
      record { same_disk = refl; same_input = refl; same_output = refl; says = rw (← c.subject_of-name.ensures, ← c.in-Err-Refused.fault-is) c.complain.ensures.said; is_status = c.complain.ensures.status },
    )

pub returns-in-Ok-Help : goal.returns-in-Ok-Help
returns-in-Ok-Help g c =
    let asked = rw (c.in-Ok-Help.field-0-is, c.caller_of-caller.ensures, c.as_slice.ensures.value) at c.in-Ok-Help.ensures.ok in
    elim (rw c.subject_of-name.ensures at c.print_help.ensures) [
      | inl prints ↦ does_task g.D.Disk.is_known _ (map string_bytes c.args.call.words.now) _ c.in-Ok.ensures.ok _ _ _ _ _ _ asked (record { same_disk = refl; same_input = refl; outcome = prints })
      | inr complains ↦ inr (record { same_disk = refl; same_input = refl; same_output = complains.same_output; says = complains.says; is_status = complains.is_status })
    ]

pub returns-in-Ok-Identify : goal.returns-in-Ok-Identify
returns-in-Ok-Identify g c =
    let asked = rw (c.in-Ok-Identify.field-0-is, c.caller_of-caller.ensures, c.as_slice.ensures.value) at c.in-Ok-Identify.ensures.ok in
    does_task g.D.Disk.is_known _ (map string_bytes c.args.call.words.now) _ c.in-Ok.ensures.ok _ _ _ _ _ _ asked (rw c.subject_of-name.ensures at (c.identify_library.ensures (g.I.Read.remaining c.args.input.now)))

pub returns-in-Ok-Make : goal.returns-in-Ok-Make
returns-in-Ok-Make g c =
    let asked = rw (c.in-Ok-Make.field-0-is, c.caller_of-caller.ensures, c.as_slice.ensures.value) at c.in-Ok-Make.ensures.ok in
    does_task g.D.Disk.is_known _ (map string_bytes c.args.call.words.now) _ c.in-Ok.ensures.ok _ _ _ _ _ _ asked
    (rw (c.subject_of-name.ensures, c.caller_of-caller.ensures, c.as_slice-in-Ok-Make.ensures.value) at (c.make_apart.ensures (g.O.Write.contents c.args.printer.now)))
