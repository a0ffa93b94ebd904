use Rattle.std.proofs.Common.{◌≡◌, ◌∙◌, [], ap, map, sym}
use Rattle.std.specs.Prelude.{count_by}
use Rattle.implib.specs.Definition.{export_view}
use Rattle.implib_dll.specs.Exports.{exports_in}
use Rattle.implib_dll.specs.Views.{exports_view}
use Rattle.implib_dll.specs.declared.section.Layout.TheVariants.{File}
use Rattle.implib_compare.specs.DllCheck.Folders.{loaded_view}
use Rattle.implib_compare.specs.DllCheck.Forwarding.{Beside, known_in}
use Rattle.implib_compare.specs.DllCheck.ForwardingViews.{known_view}
use Rattle.implib_compare.specs.DllCheck.Kinds.{is_astray, unknown_dlls}
use Rattle.implib_options.specs.Given.{has_values}
use Rattle.implib_driver.proofs.Searching.{marked_through, no_values}
use Rattle.implib_driver.proofs.search.mark_through.Goals as goal

pub returns : goal.returns
returns c = λ file folders e reads right.
    let names = map (λ name. name.items) c.args.names.now in
    let seen = exports_view c.in-Ok.exports in
    let dlls = map known_view c.deref.result.now in
    let b : Beside = record { exports = seen; names = names; others = known_in dlls } in
    let all = map (λ name. name.items) c.in_ok-unknown.unknown.items in
    let none : all ≡ [] =
    no_values all (ap (λ l. has_values (map (λ name. name.items) l)) (sym c.deref-3.ensures.value) ∙ (sym c.has_names.ensures ∙ c.if-has_names.false)) in
    marked_through file folders (map loaded_view c.args.loaded.now) dlls names (exports_in File c.args.bytes.now) seen e
    (map export_view c.args.list.now.items) (map export_view c.mark_followed.new.list.items) c.in_ok-astray.astray
    all c.known_dlls_decide_kinds.ensures c.right_dlls_extend.ensures
    (ap (map known_view) c.deref.ensures.value ∙ c.in_ok-others.ensures) c.in-Ok.ensures.read reads right
    none
    (c.in_ok-unknown.ensures ∙ ap (λ l. unknown_dlls b (map export_view l)) c.deref-2.ensures.value)
    (c.in_ok-astray.ensures ∙ ap (λ l. count_by (is_astray b) (map export_view l)) c.deref-4.ensures.value)
    c.in_ok-mark_followed.ensures
