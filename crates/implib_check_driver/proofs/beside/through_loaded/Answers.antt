use Rattle.std.proofs.Common.{◌∙◌, inl, inr, map, sym}
use Rattle.implib_dll.specs.Views.{exports_view}
use Rattle.implib_compare.specs.DllCheck.Folders.{loaded_view}
use Rattle.implib_compare.specs.DllCheck.ForwardingViews.{known_view}
use Rattle.implib_read.specs.ClassViews.{member_read_view}
use Rattle.implib_check_driver.specs.Answer.{answer_view}
use Rattle.implib_check_driver.proofs.LoadedDlls.{held_through, leads_further, same_exports}
use Rattle.implib_check_driver.proofs.beside.through_loaded.Goals as goal

pub returns-then-is_any_unknown : goal.returns-then-is_any_unknown
returns-then-is_any_unknown c = λ file folders e is right.
    inl (
      leads_further file folders (map loaded_view c.args.loaded.now) (map known_view c.in_ok-others.others.items) (exports_view c.in-Holds.exports) e
          (map (λ name. name.items) c.args.names.items) (map member_read_view c.args.members.now) _
          (same_exports _ e _ (rw c.in-Holds.is at c.in_ok-exports.ensures) is)
          c.in_ok-others.ensures right
          (rw (c.deref.ensures.value, c.deref-2.ensures.value) at c.in_ok-found.ensures)
          (sym (rw c.deref-3.ensures.value at c.is_any_unknown.ensures) ∙ c.if-is_any_unknown.true),
      c.in_ok-endless.ensures,
    )

pub returns : goal.returns
returns c = λ file folders e is right.
    inr (held_through file folders (map loaded_view c.args.loaded.now) (map known_view c.in_ok-others.others.items) (exports_view c.in-Holds.exports) e
    (map (λ name. name.items) c.args.names.items) (map member_read_view c.args.members.now) _ (answer_view c.in_ok-answer.answer)
    c.known_dlls_decide.ensures c.right_dlls_extend.ensures
    (same_exports _ e _ (rw c.in-Holds.is at c.in_ok-exports.ensures) is)
    c.in_ok-others.ensures right
    (rw (c.deref.ensures.value, c.deref-2.ensures.value) at c.in_ok-found.ensures)
    (sym (rw c.deref-3.ensures.value at c.is_any_unknown.ensures) ∙ c.if-is_any_unknown.false)
    (rw c.deref-4.ensures.value at c.in_ok-answer.ensures))
