use Rattle.std.proofs.Common.{◌≡◌, ◌+◌, ◌<◌, ◌^◌, ap, arith, refl, rules}
use Rattle.std.specs.String.{string_bytes}
use Rattle.implib_archive.proofs.Appended.{pushes_as, pushes_then}
use Rattle.implib_rules.specs.Warnings as rules_of
use Rattle.implib_rules.specs.Warnings.{NoticeView, notice_view, warning_view}
use Rattle.implib_c_calls.specs.Encoding.{encoded_number, encoded_text}
use Rattle.implib_c_calls.specs.Warnings.{Said, encoded_said, kind_number, warned_of}
use Rattle.implib_c_calls.proofs.warnings.push_warning.Goals as goal

kind_fits : (notice : NoticeView) → kind_number notice < 2 ^ 64
kind_fits rules_of.HasNoExport = omega arith
kind_fits _ = omega arith

pub returns : goal.returns
unfolding encoded_said
returns c =
    let said : Said = record { warned = warned_of c.args.mark (warning_view c.args.warning.now); words = string_bytes c.in_ok-words.words } in
    let offset : c.in-Some.offset ≡ c.args.mark + c.args.warning.now.position.offset = omega (arith, c.in-Some.ensures.1) in
    record {
      said = said;
      is = refl;
      fit = record {
        kind = kind_fits (notice_view c.args.warning.now.notice);
        offset = omega (arith, c.in-Some.ensures.0);
        line = search rules;
        column = search rules;
      };
      pushes = pushes_then (pushes_as (ap encoded_number c.kind_number.ensures) c.in_ok-push_number.ensures)
          (pushes_then (pushes_as (ap encoded_number offset) c.in_ok-push_number-2.ensures)
          (pushes_then c.in_ok-push_number-3.ensures
          (pushes_then c.in_ok-push_number-4.ensures
          (pushes_as (ap encoded_text c.as_bytes.ensures.value) c.in_ok-push_text.ensures))));
    }
