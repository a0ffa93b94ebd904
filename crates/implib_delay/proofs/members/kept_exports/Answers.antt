use Rattle.std.proofs.Common.{refl, ◌∷◌, [], ◌≡◌, ◌+◌, ◌++◌, ◌∙◌, List, ℕ, map, drop, ap, sym, subst, arith, false}
use Rattle.std.specs.List.{list_all, list_any}
use Rattle.implib.specs.Definition.{ExportView, definition_view, export_view}
use Rattle.implib.specs.Import.{public_exports}
use Rattle.implib.specs.LibraryName.{linked_name}
use Rattle.implib.specs.Members.Members.{has_u16_ordinal, is_too_long}
use Rattle.implib.specs.Members.MemberSpec.{member_of}
use Rattle.implib_delay.specs.Kept.{DelayedExportsView}
use Rattle.implib_delay.specs.Members.{export_spec, numbered_specs}
use Rattle.implib.proofs.Members.GnuLoop.{Left, left_private, left_public}
use Rattle.implib.proofs.Members.MembersLoop.{exports_from}
use Rattle.implib_delay.proofs.members.kept_exports.Goals as goal
use Rattle.implib_delay.proofs.members.kept_exports.Goals.{then-not-export+in_ok-push, else-not-export}

pub loop-export-preserved : goal.loop-export-preserved
loop-export-preserved c =
    let machine = c.args.machine in
    let dll = linked_name (definition_view c.args.def.now) in
    let numbered = numbered_specs machine dll in
    let specs = numbered 0 (public_exports (definition_view c.args.def.now)) in
    let all = map member_of specs in
    let long = list_any is_too_long specs in
    let sound = list_all has_u16_ordinal (public_exports (definition_view c.args.def.now)) in
    let index = c.loop-export.export-index in
    let number = c.loop-export.number in
    let items = c.args.def.now.exports.items in
    let others = map export_view (drop (index + 1) items) in
    let e = export_view c.export-item.result in
    let members = c.loop-export.exports.members in
    let invariant = c.loop-export.invariant in
    let here = exports_from items index c.export-item.result
    (rw c.deref-export-items.ensures.value at c.loop-export-test.true) (rw c.deref-export-items.ensures.value at c.export-item.is) in
    let before = subst (λ (exports : List ExportView). Left machine numbered all long sound index number members exports) here
    (record { named = invariant.named; made = invariant.made; fit = invariant.fit; ordinals = invariant.ordinals }) in
    elim c.if-not-export.branch [
      | then-not-export+in_ok-push w ↦
          let pushed = (w.in_ok-push.ensures {u = tt}).pushed in
          let extended : w.push.new.self.members ≡ members ++ map member_of (export_spec machine dll number e ∷ []) = grind arith in
          let short : list_any is_too_long (export_spec machine dll number e ∷ []) ≡ false = grind arith in
          let after : Left machine numbered all long sound (index + 1) c.if-not-export.number c.if-not-export.exports.members others =
          subst (λ (n : ℕ). Left machine numbered all long sound (index + 1) n c.if-not-export.exports.members others) (sym w.number-is)
          (subst (λ (x : DelayedExportsView). Left machine numbered all long sound (index + 1) (number + 1) x.members others) (sym w.exports-is)
          (left_public machine numbered all long sound index number members e others (export_spec machine dll number e ∷ []) w.push.new.self.members refl
          w.if-not-export.true before extended short (w.in_ok-push.ensures {u = tt}).ordinal)) in
          record {
            same_machine = ap (λ (x : DelayedExportsView). x.machine) (w.exports-is ∙ pushed.ok) ∙ invariant.same_machine;
            same_library = ap (λ (x : DelayedExportsView). x.linked) (w.exports-is ∙ pushed.ok) ∙ invariant.same_library;
            counted = omega (arith, invariant.counted, w.number-is);
            named = after.named;
            made = after.made;
            fit = after.fit;
            ordinals = after.ordinals;
          }
      | else-not-export w ↦
          let after : Left machine numbered all long sound (index + 1) c.if-not-export.number c.if-not-export.exports.members others = grind (arith, left_private) in
          record {
            same_machine = ap (λ (x : DelayedExportsView). x.machine) w.exports-is ∙ invariant.same_machine;
            same_library = ap (λ (x : DelayedExportsView). x.linked) w.exports-is ∙ invariant.same_library;
            counted = omega (arith, invariant.counted, w.number-is);
            named = after.named;
            made = after.made;
            fit = after.fit;
            ordinals = after.ordinals;
          }
    ]
