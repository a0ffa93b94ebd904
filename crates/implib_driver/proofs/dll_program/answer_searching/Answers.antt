use Rattle.std.proofs.Common.{inl, map, rules, subst}
use Rattle.implib.specs.Definition.{export_view}
use Rattle.implib_dll.specs.Views.{exports_view}
use Rattle.implib_libraries.specs.FromDll.Definition.{exports_of}
use Rattle.implib_driver.specs.Request.{request_view}
use Rattle.implib_driver.specs.Search.{IsSearched}
use Rattle.implib_driver.proofs.dll_program.answer_searching.Goals as goal

pub returns-in-Ok : goal.returns-in-Ok
returns-in-Ok g c =
    let e = exports_view c.args.exports.now in
    let searched : IsSearched (g.D.Disk.view c.args.disk.now) e (request_view c.args.request.now) (exports_of e) (map export_view c.search.new.list.items) c.in-Ok.astray =
    subst (λ before. IsSearched (g.D.Disk.view c.args.disk.now) e (request_view c.args.request.now) before (map export_view c.search.new.list.items) c.in-Ok.astray)
    c.requires.listed c.in-Ok.ensures.searched in
    inl (record {
      exports = map export_view c.search.new.list.items;
      astray = c.in-Ok.astray;
      searched = searched;
      warned = g.T.Reporter.said c.say_count.new.reporter;
      warns = search rules;
      finishes = search rules;
    })
