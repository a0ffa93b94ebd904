use Rattle.std.proofs.Common.{ap, inl, inr, map, refl, subst, sym}
use Rattle.std.specs.String.{string_bytes}
use Rattle.implib_archive.specs.Archive.{archive_of}
use Rattle.implib_rules.specs.Options.{library_options_view}
use Rattle.implib_libraries.specs.declared.delayed.DelayRefusal.TheVariants.{Refused}
use Rattle.implib_libraries.specs.Delayed.{LeavesOut}
use Rattle.implib_libraries.proofs.Refusals.{no_archive}
use Rattle.implib_driver.proofs.definition_program.answer_delaying.Goals as goal

pub returns : goal.returns
returns g c =
    let refusal = c.in-Err-delayed_archive.refusal in
    inr (inl (record {
      refusal = Refused refusal;
      refused = no_archive c.args.bytes.now (library_options_view c.args.request.now.library) c.in-Ok.made.members refusal c.in-Ok.ensures.made c.in-Err-delayed_archive.ensures.refused;
      same_disk = refl;
      says = c.refuse_delay-in-Err-delayed_archive.ensures.said;
      is_status = c.refuse_delay-in-Err-delayed_archive.ensures.status;
    }))

pub returns-in-Ok-delayed_archive : goal.returns-in-Ok-delayed_archive
returns-in-Ok-delayed_archive g c =
    let archive = c.in-Ok-delayed_archive.archive in
    inl (record {
      file = archive_of archive.kind archive.members;
      is_library = record {
        members = c.in-Ok.made.members;
        members_for = c.in-Ok.ensures.made;
        accepted = c.in-Ok-delayed_archive.ensures.accepted;
        is = ap (λ a. archive_of a.kind a.members) c.in-Ok-delayed_archive.ensures.holds;
      };
      left = map string_bytes c.as_slice.result.now;
      leaves = subst (λ l. LeavesOut c.args.bytes.now (library_options_view c.args.request.now.library) (map string_bytes l)) (sym c.as_slice.ensures.value) c.in-Ok.ensures.left;
      warned = _;
      says = c.say_left_out.ensures;
      finishes = c.finish_delayed.ensures;
    })
