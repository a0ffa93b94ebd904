use Rattle.std.proofs.Common.{arith, ◌≡◌, ◌||◌, ap, false, min, string_bytes}
use Rattle.implib.specs.Definition.{export_view}
use Rattle.implib.specs.Formats.Layout.{encoded_size}
use Rattle.implib.specs.Formats.Writer.{layout_of}
use Rattle.implib.specs.Import.{imp_symbol}
use Rattle.implib_delay.specs.Kept.{KeepsExport}
use Rattle.implib_delay.specs.Names.{export_name}
use Rattle.implib_delay.specs.Objects.{export_object}
use Rattle.implib_delay.proofs.Kept.{all_kept, exact, is_kept, kept_more, kept_short, member_kept, name_free, refused_long}
use Rattle.implib_delay.proofs.exports.DelayedExports.push.Goals as goal

pub returns-then-size-gt-LONGEST_MEMBER-clause-pushed : goal.returns-then-size-gt-LONGEST_MEMBER-clause-pushed
returns-then-size-gt-LONGEST_MEMBER-clause-pushed c = grind (arith, refused_long, c.as_str-library.ensures.value, c.export_size-size.ensures, c.if-size-gt-LONGEST_MEMBER.true)

pub returns-clause-pushed : goal.returns-clause-pushed
returns-clause-pushed c =
    let inside = c.self.inside in
    let linked = string_bytes inside.library in
    let e = export_view c.args.export.now in
    let size = c.export_size-size.result in
    let k = c.in_ok-kept.kept in
    let size_is : size ≡ min 0xFFFF_FFFF_FFFF_FFFF (encoded_size (layout_of (export_object inside.machine linked e))) = rw c.as_str-library.ensures.value at c.export_size-size.ensures in
    let keeps : KeepsExport (export_name linked c.args.number) (imp_symbol e.name) size e k = grind (arith, c.in_ok-name.ensures, c.in_ok-address.ensures, c.as_str-library.ensures.value, c.as_str.ensures.value, c.in_ok-kept.ensures) in
    rw (← c.self.view_is)
    record {
      ok = grind (arith, kept_more, member_kept, c.in_ok-push.ensures.items);
      fit = ap (λ b. b || false) (kept_short inside.machine linked c.args.number e size size_is c.if-size-gt-LONGEST_MEMBER.false);
      too_long = tt;
    }

pub invariant_of-self-2 : goal.invariant_of-self-2
invariant_of-self-2 c =
    let inside = c.self.inside in
    let linked = string_bytes inside.library in
    let e = export_view c.args.export.now in
    let size = c.export_size-size.result in
    let k = c.in_ok-kept.kept in
    let size_is : size ≡ min 0xFFFF_FFFF_FFFF_FFFF (encoded_size (layout_of (export_object inside.machine linked e))) = rw c.as_str-library.ensures.value at c.export_size-size.ensures in
    let keeps : KeepsExport (export_name linked c.args.number) (imp_symbol e.name) size e k = grind (arith, c.in_ok-name.ensures, c.in_ok-address.ensures, c.as_str-library.ensures.value, c.as_str.ensures.value, c.in_ok-kept.ensures) in
    record {
      tail_is = c.self.invariant.tail_is;
      name_is = c.self.invariant.name_is;
      handle_is = c.self.invariant.handle_is;
      free = c.self.invariant.free;
      each =
          all_kept inside.machine linked inside.exports.items c.push.new.self.items k c.in_ok-push.ensures.items c.self.invariant.each
          (is_kept inside.machine linked c.args.number size e k keeps (name_free e c.requires.nul) c.requires.filled
          (exact inside.machine linked c.args.number e size size_is c.if-size-gt-LONGEST_MEMBER.false)
          c.if-size-gt-LONGEST_MEMBER.false);
    }
