use Rattle.std.proofs.Common.{◌-◌, ◌∙◌, ◌++◌, ◌∷◌, [], List, ap, arith, map, refl, subst, sym}
use Rattle.std.proofs.lemmas.Result.{err_from_is_err_and}
use Rattle.std.specs.List.{list_all, list_any}
use Rattle.std.specs.Prelude.{not}
use Rattle.std.proofs.lemmas.List.{map-append}
use Rattle.implib.specs.Members.GnuMembers.{export_spec}
use Rattle.implib.proofs.Members.MembersLoop.{cause_of_long}
use Rattle.implib.specs.Definition.{ExportView, export_view}
use Rattle.implib.specs.Members.ExportObjects.{ExportObjectsView}
use Rattle.implib.specs.Members.Members.{has_u16_ordinal, is_too_long}
use Rattle.implib.specs.Members.MemberSpec.{member_of}
use Rattle.implib.specs.Views.MakingKept.{is_public_alias, kept_specs, public_among}
use Rattle.implib.proofs.Members.KeptLoop.{LeftToKeep, after_private, after_public, any_viewed, counted_last, keeps_none, private_of, public_of, filter_viewed, last_sound, long_last}
use Rattle.implib.proofs.gnu.members.keep_exports.Goals as goal

pub loop-export-init : goal.loop-export-init
loop-export-init c = record {
  same_machine = refl;
  same_library = refl;
  left = record {
    named = c.requires.names;
    plain = sym (any_viewed export_view is_public_alias c.args.exports.items) ∙ c.requires.plain;
    counted = c.requires.count ∙ filter_viewed export_view (λ e. not e.private) c.args.exports.items;
    made = refl;
    fit = refl;
    ordinals = refl;
  };
}

pub push-requires-clause-nul : goal.push-requires-clause-nul
push-requires-clause-nul c =
    let machine = c.args.objects.now.machine in
    let linked = c.args.objects.now.linked in
    let specs = kept_specs machine linked (map export_view c.args.exports.items) in
    let all = c.args.objects.now.members ++ map member_of specs in
    let long = list_any is_too_long specs in
    let sound = list_all has_u16_ordinal (public_among (map export_view c.args.exports.items)) in
    let number = c.loop-export.number in
    let members = c.loop-export.objects.members in
    let others = map export_view c.pop.new.self.items in
    let e = export_view c.in-Some.export in
    let before =
    subst (λ (exports : List ExportView). LeftToKeep machine linked all long sound number members exports)
    (ap (map export_view) (c.in-Some.ensures {u = tt}).items ∙ map-append export_view c.pop.new.self.items (c.in-Some.export ∷ []))
    c.loop-export.invariant.left in
    (last_sound machine 0 others e (public_of e.private c.if-not-export.true) before.named).0

pub push-requires-clause-filled : goal.push-requires-clause-filled
push-requires-clause-filled c =
    let machine = c.args.objects.now.machine in
    let linked = c.args.objects.now.linked in
    let specs = kept_specs machine linked (map export_view c.args.exports.items) in
    let all = c.args.objects.now.members ++ map member_of specs in
    let long = list_any is_too_long specs in
    let sound = list_all has_u16_ordinal (public_among (map export_view c.args.exports.items)) in
    let number = c.loop-export.number in
    let members = c.loop-export.objects.members in
    let others = map export_view c.pop.new.self.items in
    let e = export_view c.in-Some.export in
    let before =
    subst (λ (exports : List ExportView). LeftToKeep machine linked all long sound number members exports)
    (ap (map export_view) (c.in-Some.ensures {u = tt}).items ∙ map-append export_view c.pop.new.self.items (c.in-Some.export ∷ []))
    c.loop-export.invariant.left in
    (last_sound machine 0 others e (public_of e.private c.if-not-export.true) before.named).1

pub overflow_sub-number : goal.overflow_sub-number
overflow_sub-number c =
    let machine = c.args.objects.now.machine in
    let linked = c.args.objects.now.linked in
    let specs = kept_specs machine linked (map export_view c.args.exports.items) in
    let all = c.args.objects.now.members ++ map member_of specs in
    let long = list_any is_too_long specs in
    let sound = list_all has_u16_ordinal (public_among (map export_view c.args.exports.items)) in
    let number = c.loop-export.number in
    let members = c.loop-export.objects.members in
    let others = map export_view c.pop.new.self.items in
    let e = export_view c.in-Some.export in
    let before =
    subst (λ (exports : List ExportView). LeftToKeep machine linked all long sound number members exports)
    (ap (map export_view) (c.in-Some.ensures {u = tt}).items ∙ map-append export_view c.pop.new.self.items (c.in-Some.export ∷ []))
    c.loop-export.invariant.left in
    let counted = counted_last machine linked all long sound number members others e (public_of e.private c.if-not-export.true) before in
    omega (arith, counted)

-- rattle's own name: the end of the loop's body after an export that is kept
pub loop-export-preserved-in-Continue-1 : goal.loop-export-preserved-in-Continue-1
loop-export-preserved-in-Continue-1 c =
    let machine = c.args.objects.now.machine in
    let linked = c.args.objects.now.linked in
    let specs = kept_specs machine linked (map export_view c.args.exports.items) in
    let all = c.args.objects.now.members ++ map member_of specs in
    let long = list_any is_too_long specs in
    let sound = list_all has_u16_ordinal (public_among (map export_view c.args.exports.items)) in
    let number = c.loop-export.number in
    let members = c.loop-export.objects.members in
    let others = map export_view c.pop.new.self.items in
    let e = export_view c.in-Some.export in
    let before =
    subst (λ (exports : List ExportView). LeftToKeep machine linked all long sound number members exports)
    (ap (map export_view) (c.in-Some.ensures {u = tt}).items ∙ map-append export_view c.pop.new.self.items (c.in-Some.export ∷ []))
    c.loop-export.invariant.left in
    let invariant = c.loop-export.invariant in
    let pushed = (c.in_ok-push.ensures {u = tt}).pushed in
    record {
      same_machine = ap (λ (o : ExportObjectsView). o.machine) pushed.ok ∙ invariant.same_machine;
      same_library = ap (λ (o : ExportObjectsView). o.linked) pushed.ok ∙ invariant.same_library;
      left =
          after_public machine linked all long sound number members others e c.push.new.self.members (public_of e.private c.if-not-export.true) before
          (rw (invariant.same_machine, invariant.same_library) at (ap (λ (o : ExportObjectsView). o.members) pushed.ok))
          (rw (invariant.same_machine, invariant.same_library) at pushed.fit)
          (c.in_ok-push.ensures {u = tt}).ordinal;
    }

pub loop-export-preserved : goal.loop-export-preserved
loop-export-preserved c =
    let machine = c.args.objects.now.machine in
    let linked = c.args.objects.now.linked in
    let specs = kept_specs machine linked (map export_view c.args.exports.items) in
    let all = c.args.objects.now.members ++ map member_of specs in
    let long = list_any is_too_long specs in
    let sound = list_all has_u16_ordinal (public_among (map export_view c.args.exports.items)) in
    let number = c.loop-export.number in
    let members = c.loop-export.objects.members in
    let others = map export_view c.pop.new.self.items in
    let e = export_view c.in-Some.export in
    let before =
    subst (λ (exports : List ExportView). LeftToKeep machine linked all long sound number members exports)
    (ap (map export_view) (c.in-Some.ensures {u = tt}).items ∙ map-append export_view c.pop.new.self.items (c.in-Some.export ∷ []))
    c.loop-export.invariant.left in
    record {
      same_machine = c.loop-export.invariant.same_machine;
      same_library = c.loop-export.invariant.same_library;
      left = after_private machine linked all long sound number members others e (private_of e.private c.if-not-export.false) before;
    }

pub returns-in_err-push-clause-kept : goal.returns-in_err-push-clause-kept
returns-in_err-push-clause-kept c =
    let machine = c.args.objects.now.machine in
    let linked = c.args.objects.now.linked in
    let specs = kept_specs machine linked (map export_view c.args.exports.items) in
    let all = c.args.objects.now.members ++ map member_of specs in
    let long = list_any is_too_long specs in
    let sound = list_all has_u16_ordinal (public_among (map export_view c.args.exports.items)) in
    let number = c.loop-export.number in
    let members = c.loop-export.objects.members in
    let others = map export_view c.pop.new.self.items in
    let e = export_view c.in-Some.export in
    let before =
    subst (λ (exports : List ExportView). LeftToKeep machine linked all long sound number members exports)
    (ap (map export_view) (c.in-Some.ensures {u = tt}).items ∙ map-append export_view c.pop.new.self.items (c.in-Some.export ∷ []))
    c.loop-export.invariant.left in
    let invariant = c.loop-export.invariant in
    let p = err_from_is_err_and c.from_residual.result c.from_residual.ensures.1 in
    rw (p.1, p.2)
    (keeps_none specs c.args.objects.now c.push.new.self c.in_err-push.field-0.0
    (cause_of_long c.in_err-push.field-0.0 (list_any is_too_long (export_spec machine linked (number - 1) e ∷ [])) long
    (long_last machine linked all long sound number members others e (public_of e.private c.if-not-export.true) before)
    (rw (invariant.same_machine, invariant.same_library) at c.in_err-push.ensures.pushed.too_long)))
