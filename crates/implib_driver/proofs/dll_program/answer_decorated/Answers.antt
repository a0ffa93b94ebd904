use Rattle.std.proofs.Common.{◌≡◌, ◌∙◌, ap, inl, inr, map, refl, subst}
use Rattle.std.specs.Prelude.{count_by}
use Rattle.implib.specs.Definition.{export_view}
use Rattle.implib_dll.specs.Views.{exports_view}
use Rattle.implib_libraries.specs.OfDll.Decorated.{is_missing, with_symbols}
use Rattle.implib_libraries.specs.OfDll.Decorations.{decoration_view}
use Rattle.implib_driver.specs.declared.dll.DllRefusal.TheVariants.{OutOfMemory}
use Rattle.implib_driver.specs.DllProgram.{FinishesList}
use Rattle.implib_driver.specs.Request.{request_view}
use Rattle.implib_driver.proofs.dll_program.answer_decorated.Goals as goal

pub returns-in-Ok-decorate : goal.returns-in-Ok-decorate
returns-in-Ok-decorate g c =
    let e = exports_view c.args.exports.now in
    let request = request_view c.args.request.now in
    let naming = request.library.naming in
    let found = map decoration_view c.in-Ok.decorations.items in
    let list = map export_view c.args.decorating.list.items in
    let warned = g.T.Reporter.said c.say_count.new.reporter in
    let made : map export_view c.decorate.new.list.items ≡ with_symbols naming found e.names list =
    c.in-Ok-decorate.ensures ∙ ap (λ d. with_symbols naming (map decoration_view d) e.names list) c.as_slice-decorations.ensures.value in
    inl (record {
      decorations = found;
      are = c.in-Ok.ensures.are;
      warned = warned;
      missing = c.count_missing-count.result;
      counted = c.count_missing-count.ensures
          ∙ (ap (λ d. count_by (is_missing (map decoration_view d)) (map export_view c.as_slice.result.now)) c.as_slice-decorations.ensures.value
          ∙ ap (λ l. count_by (is_missing found) (map export_view l)) c.as_slice.ensures.value);
      warns = c.say_count.ensures;
      finishes = subst (λ xs. FinishesList g.D.Disk.is_known e xs request (g.D.Disk.view c.args.disk.now) (g.D.Disk.view c.answer_list.new.disk) warned
          (g.T.Reporter.said c.answer_list.new.reporter) c.answer_list.result) made c.answer_list.ensures;
    })

pub returns-in-Err-decorate : goal.returns-in-Err-decorate
returns-in-Err-decorate g c =
    let found = map decoration_view c.in-Ok.decorations.items in
    inl (record {
      decorations = found;
      are = c.in-Ok.ensures.are;
      warned = g.T.Reporter.said c.say_count.new.reporter;
      missing = c.count_missing-count.result;
      counted = c.count_missing-count.ensures
          ∙ (ap (λ d. count_by (is_missing (map decoration_view d)) (map export_view c.as_slice.result.now)) c.as_slice-decorations.ensures.value
          ∙ ap (λ l. count_by (is_missing found) (map export_view l)) c.as_slice.ensures.value);
      warns = c.say_count.ensures;
      finishes = inr (inr (record {
        refusal = OutOfMemory;
        is_so = tt;
        same_disk = refl;
        says = c.refuse_dll.ensures.said;
        is_status = c.refuse_dll.ensures.status;
      }));
    })
