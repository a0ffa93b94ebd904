use Rattle.std.proofs.Common.{◌≡◌, ◌+◌, ◌++◌, List, map, drop, sym, subst, false}
use Rattle.std.specs.List.{list_all, list_any}
use Rattle.implib.specs.declared.flavor.Flavor.TheVariants.{Msvc}
use Rattle.implib.specs.Definition.{ExportView, definition_view, export_view}
use Rattle.implib.specs.Import.{public_exports}
use Rattle.implib.specs.LibraryName.{names_for}
use Rattle.implib.specs.Library.{member_view}
use Rattle.implib.specs.Members.MsvcMembers.{export_specs}
use Rattle.implib.specs.Members.Members.{has_u16_ordinal, is_too_long, member_specs}
use Rattle.implib.specs.Members.MemberSpec.{member_of}
use Rattle.implib.proofs.Members.MembersLoop.{Left, exports_from, left_private, left_public}
use Rattle.implib.proofs.msvc.members.build.Goals as goal
use Rattle.implib.proofs.msvc.members.build.Goals.{then-not-export+in_ok-push_export, else-not-export}

pub loop-export-preserved : goal.loop-export-preserved
loop-export-preserved c =
    let machine = c.args.machine in
    let dll = names_for Msvc (definition_view c.args.def.now) in
    let specs = member_specs (definition_view c.args.def.now) machine Msvc in
    let all = map member_of specs in
    let long = list_any is_too_long specs in
    let sound = list_all has_u16_ordinal (public_exports (definition_view c.args.def.now)) in
    let index = c.loop-export.export-index in
    let items = c.args.def.now.exports.items in
    let others = map export_view (drop (index + 1) items) in
    let e = export_view c.export-item.result in
    let members = map member_view c.loop-export.members.items in
    let here = exports_from items index c.export-item.result
    (rw c.deref-export-items.ensures.value at c.loop-export-test.true) (rw c.deref-export-items.ensures.value at c.export-item.is) in
    let before = subst (λ (exports : List ExportView). Left machine dll all long sound index members exports) here
    (record { named = c.loop-export.invariant.named; made = c.loop-export.invariant.made; fit = c.loop-export.invariant.fit; ordinals = c.loop-export.invariant.ordinals }) in
    elim c.if-not-export.branch [
      | then-not-export+in_ok-push_export w ↦
          let extended : map member_view w.push_export.new.members.items ≡ members ++ map member_of (export_specs machine dll e) =
          rw (c.as_str-dll.ensures.value, c.requires.library) at (w.in_ok-push_export.ensures {u = tt}).pushed.ok in
          let short : list_any is_too_long (export_specs machine dll e) ≡ false =
          rw (c.as_str-dll.ensures.value, c.requires.library) at (w.in_ok-push_export.ensures {u = tt}).pushed.fit in
          let after : Left machine dll all long sound (index + 1) (map member_view c.if-not-export.members.items) others =
          subst (λ x. Left machine dll all long sound (index + 1) (map member_view x.items) others) (sym w.members-is)
          (left_public machine dll all long sound index members e others (map member_view w.push_export.new.members.items)
          w.if-not-export.true before extended short (w.in_ok-push_export.ensures {u = tt}).ordinal) in
          record { named = after.named; made = after.made; fit = after.fit; ordinals = after.ordinals }
      | else-not-export w ↦
          let after : Left machine dll all long sound (index + 1) (map member_view c.if-not-export.members.items) others =
          subst (λ x. Left machine dll all long sound (index + 1) (map member_view x.items) others) (sym w.members-is)
          (left_private machine dll all long sound index members e others w.if-not-export.false before) in
          record { named = after.named; made = after.made; fit = after.fit; ordinals = after.ordinals }
    ]
