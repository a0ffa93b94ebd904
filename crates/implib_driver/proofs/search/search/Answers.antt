use Rattle.std.proofs.Common.{◌≡◌, map, rules, subst, sym}
use Rattle.std.specs.Prelude.{All}
use Rattle.implib.specs.Definition.{export_view}
use Rattle.implib_dll.specs.Views.{exports_view}
use Rattle.implib_compare.specs.DllCheck.Folders.{AreKnown, IsRight, folder_view, listings, loaded_view}
use Rattle.implib_driver.specs.Request.{request_view}
use Rattle.implib_driver.specs.Search.{AreFollowed, beside_folders, own_names}
use Rattle.implib_driver.proofs.search.search.Goals as goal

pub returns-clause-searched : goal.returns-clause-searched
returns-clause-searched g c = λ file names seen listed.
    let e = exports_view c.args.exports.now in
    let request = request_view c.args.request.now in
    let before = map export_view c.args.list.now.items in
    let after = map export_view c.mark_through.new.list.items in
    let folders : map folder_view c.in_ok-folders.folders.items ≡ listings names request.search = search rules in
    let own : map (λ name. name.items) c.in_ok-names.names.items ≡ own_names request e = search rules in
    let known : AreKnown (g.D.Disk.view c.folders_at.new.disk).seen file =
    subst (λ v. AreKnown v.seen file) (sym c.in_ok-folders.ensures.same) seen in
    let right : All (IsRight file (map folder_view c.in_ok-folders.folders.items)) (map loaded_view c.in_ok-loaded.loaded.items) = search rules in
    let through : AreFollowed (beside_folders file (map folder_view c.in_ok-folders.folders.items) (map (λ name. name.items) c.in_ok-names.names.items) e) before after c.in_ok-astray.astray =
    subst (λ ns. AreFollowed (beside_folders file (map folder_view c.in_ok-folders.folders.items) (map (λ name. name.items) ns) e) before after c.in_ok-astray.astray) c.deref-5.ensures.value (
    c.in_ok-astray.ensures file (map folder_view c.in_ok-folders.folders.items) e c.requires (
    subst (λ l. All (IsRight file (map folder_view c.in_ok-folders.folders.items)) (map loaded_view l)) (sym c.deref-6.ensures.value) right)) in
    subst (λ ns. AreFollowed (beside_folders file (listings names request.search) ns e) before after c.in_ok-astray.astray) own (
    subst (λ fs. AreFollowed (beside_folders file fs (map (λ name. name.items) c.in_ok-names.names.items) e) before after c.in_ok-astray.astray) folders through)
