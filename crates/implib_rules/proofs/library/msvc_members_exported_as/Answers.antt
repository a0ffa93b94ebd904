use Rattle.std.proofs.Common.{◌≡◌, ◌∙◌, ◌++◌, List, true, ap, map, Some}
use Rattle.std.specs.List.{flat_map, list_any}
use Rattle.implib.specs.declared.flavor.Flavor.TheVariants.{Msvc}
use Rattle.implib.specs.declared.member.Member.{Member}
use Rattle.implib.specs.Definition.{definition_view, export_view}
use Rattle.implib.specs.Fault.{MemberTooLong}
use Rattle.implib.specs.Library.{member_view}
use Rattle.implib.specs.LibraryName.{NamesOfDll, names_for}
use Rattle.implib.specs.Members.MemberLists.{lists_view}
use Rattle.implib.specs.Members.Members.{is_too_long, refusal}
use Rattle.implib.specs.Renaming.{renamed}
use Rattle.implib_rules.specs.ExportAs.{export_as_refusal, export_as_unless_private, placed}
use Rattle.implib_rules.specs.ExportAsViews.{later_view}
use Rattle.implib_rules.proofs.ExportedAs.{handed_on, held_kept, is_export_as_library, names_refused, too_long_refused}
use Rattle.implib_rules.proofs.library.msvc_members_exported_as.Goals as goal

same_names : (names others : NamesOfDll) → names.linked ≡ others.linked → names.text ≡ others.text → names ≡ others
same_names names others first second =
    ap (λ l. record { linked = l; text = names.text }) first ∙ ap (λ t. record { linked = others.linked; text = t }) second

pub returns-in_err-lists-clause-refused : goal.returns-in_err-lists-clause-refused
returns-in_err-lists-clause-refused c =
    let d = definition_view c.args.def in
    let machine = c.args.machine in
    let library = c.new.result in
    handed_on (λ cause. refusal library.definition library.machine Msvc ≡ Some cause) (λ cause. export_as_refusal (renamed d) machine ≡ Some cause)
    c.in_err-lists.field-0.0 c.from_residual-in_err-lists.result c.from_residual-in_err-lists.ensures.1
    (λ cause. names_refused d machine library cause (held_kept d machine library _ c.new.ensures.held c.in_ok-keep_exports.ensures))
    c.in_err-lists.ensures.refused

pub returns-in_err-laters-clause-refused : goal.returns-in_err-laters-clause-refused
returns-in_err-laters-clause-refused c =
    let d = definition_view c.args.def in
    let machine = c.args.machine in
    let library = c.new.result in
    let lists = c.in_ok-lists.lists in
    let held = held_kept d machine library _ c.new.ensures.held c.in_ok-keep_exports.ensures in
    let names : NamesOfDll = record { linked = c.as_str.result.now; text = c.as_str-2.result.now } in
    let exports = map export_view c.as_slice.result.now in
    let named : names ≡ names_for Msvc d =
    same_names _ _ (c.as_str.ensures.value ∙ c.in_ok-linked.ensures) c.as_str-2.ensures.value in
    let exports_are : exports ≡ d.exports = ap (map export_view) c.as_slice.ensures.value in
    handed_on
    (λ cause. (cause ≡ MemberTooLong) × (list_any is_too_long (flat_map (export_as_unless_private machine names) exports) ≡ true))
    (λ cause. export_as_refusal (renamed d) machine ≡ Some cause)
    c.in_err-laters.field-0.0 c.from_residual-in_err-laters.result c.from_residual-in_err-laters.ensures.1
    (λ cause found. too_long_refused d machine library (lists_view lists) names exports cause named exports_are held c.in_ok-lists.ensures.ok found.0 found.1)
    c.in_err-laters.ensures.too_long

pub returns-clause-ok : goal.returns-clause-ok
returns-clause-ok c =
    let d = definition_view c.args.def in
    let library = c.new.result in
    let lists = c.in_ok-lists.lists in
    is_export_as_library d c.args.machine library (lists_view lists) (record { linked = c.as_str.result.now; text = c.as_str-2.result.now }) (map export_view c.as_slice.result.now) (map later_view c.in_ok-laters.field-0.items) _
    (held_kept d c.args.machine library _ c.new.ensures.held c.in_ok-keep_exports.ensures) c.in_ok-lists.ensures.ok
    (same_names _ _ (c.as_str.ensures.value ∙ c.in_ok-linked.ensures) c.as_str-2.ensures.value) (ap (map export_view) c.as_slice.ensures.value)
    c.in_ok-laters.ensures.ok
    c.in_ok-laters.ensures.fits
    (c.in_ok-new.ensures {u = tt}
    ∙ ap (λ l. map member_view lists.header.items ++ (lists.imports.members ++ l))
    (c.in_ok-place.ensures {u = tt}
    ∙ ap (λ (before : List Member). map member_view before ++ placed (map later_view c.in_ok-laters.field-0.items) (map member_view lists.aliases.items)) c.new-after.ensures.items))
