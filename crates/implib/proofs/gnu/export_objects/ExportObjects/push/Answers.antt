use Rattle.std.proofs.Common.{◌≡◌, List, ◌||◌, ap, false, min, refl, string_bytes}
use Rattle.implib.specs.Definition.{export_view}
use Rattle.implib.specs.Formats.Layout.{encoded_size}
use Rattle.implib.specs.Formats.Writer.{layout_of}
use Rattle.implib.specs.Members.Gnu.{export_object}
use Rattle.implib.specs.Members.MemberSpec.{MemberView}
use Rattle.implib.specs.Views.KeptObjects.{KeepsExport, kept_export}
use Rattle.implib.proofs.Members.KeptObjects.{all_kept, is_kept, kept_more, kept_short, member_kept, name_free, refused_long}
use Rattle.implib.proofs.gnu.export_objects.ExportObjects.push.Goals as goal

pub returns-then-size-gt-LONGEST_MEMBER-clause-pushed : goal.returns-then-size-gt-LONGEST_MEMBER-clause-pushed
returns-then-size-gt-LONGEST_MEMBER-clause-pushed c =
    let keeps : KeepsExport (string_bytes c.self.inside.library) c.args.number (export_view c.args.export) c.in_ok-kept.kept = rw c.as_str.ensures.value at c.in_ok-kept.ensures in
    let size_is : c.size.result ≡ min 0xFFFF_FFFF_FFFF_FFFF (encoded_size (layout_of (export_object c.self.inside.machine (string_bytes c.self.inside.library) (kept_export c.in_ok-kept.kept)))) =
    c.size.ensures (string_bytes c.self.inside.library) (rw c.as_str-2.ensures.value c.self.invariant.head) in
    rw (← c.self.view_is)
    record {
      ok = tt;
      fit = tt;
      too_long = (
        refl,
        ap (λ b. b || false) (refused_long c.self.inside.machine (string_bytes c.self.inside.library) c.args.number (export_view c.args.export) c.in_ok-kept.kept
            keeps c.size.result size_is c.if-size-gt-LONGEST_MEMBER.true),
      );
    }

pub returns-clause-pushed : goal.returns-clause-pushed
returns-clause-pushed c =
    let keeps : KeepsExport (string_bytes c.self.inside.library) c.args.number (export_view c.args.export) c.in_ok-kept.kept = rw c.as_str.ensures.value at c.in_ok-kept.ensures in
    let size_is : c.size.result ≡ min 0xFFFF_FFFF_FFFF_FFFF (encoded_size (layout_of (export_object c.self.inside.machine (string_bytes c.self.inside.library) (kept_export c.in_ok-kept.kept)))) =
    c.size.ensures (string_bytes c.self.inside.library) (rw c.as_str-2.ensures.value c.self.invariant.head) in
    let inside = c.self.inside in
    let linked = string_bytes inside.library in
    let e = export_view c.args.export in
    rw (← c.self.view_is)
    record {
      ok =
          ap (λ (members : List MemberView). record { machine = inside.machine; linked = linked; members = members })
          (kept_more inside.machine linked c.args.number e inside.objects.items c.push.new.self.items c.in_ok-kept.kept c.in_ok-push.ensures.items
          (member_kept inside.machine linked c.args.number e c.in_ok-kept.kept keeps));
      fit =
          ap (λ b. b || false) (kept_short inside.machine linked c.args.number e c.in_ok-kept.kept keeps c.size.result size_is c.if-size-gt-LONGEST_MEMBER.false);
      too_long = tt;
    }

pub invariant_of-self-2 : goal.invariant_of-self-2
invariant_of-self-2 c =
    let keeps : KeepsExport (string_bytes c.self.inside.library) c.args.number (export_view c.args.export) c.in_ok-kept.kept = rw c.as_str.ensures.value at c.in_ok-kept.ensures in
    let size_is : c.size.result ≡ min 0xFFFF_FFFF_FFFF_FFFF (encoded_size (layout_of (export_object c.self.inside.machine (string_bytes c.self.inside.library) (kept_export c.in_ok-kept.kept)))) =
    c.size.ensures (string_bytes c.self.inside.library) (rw c.as_str-2.ensures.value c.self.invariant.head) in
    let inside = c.self.inside in
    let linked = string_bytes inside.library in
    record {
      head = c.self.invariant.head;
      free = c.self.invariant.free;
      each =
          all_kept inside.machine linked inside.objects.items c.push.new.self.items c.in_ok-kept.kept c.in_ok-push.ensures.items c.self.invariant.each
          (is_kept inside.machine linked c.args.number (export_view c.args.export) c.in_ok-kept.kept keeps c.size.result size_is c.if-size-gt-LONGEST_MEMBER.false
          (name_free (export_view c.args.export) c.requires.nul) c.requires.filled);
    }
