use Rattle.std.proofs.Common.{map, subst, sym}
use Rattle.implib_compare.specs.Meant.{IsLibraryFor}
use Rattle.implib_read.specs.ClassViews.{member_read_view}
use Rattle.implib_check_driver.proofs.beside.held.Goals as goal

pub returns-clause-held : goal.returns-clause-held
returns-clause-held g c = λ file known is. record {
  file = c.in_ok-file.file.items;
  is_library =
      subst (λ options. IsLibraryFor c.args.check.now.older_symbols c.args.definition.now options c.in_ok-file.file.items) c.options_against-options.ensures
      c.in_ok-file.ensures.library;
  meant = map member_read_view c.in-Some.meant.members.items;
  read = sym (rw (c.in-Some.is, c.deref.ensures.value) at c.in_ok-meant.ensures.members);
  is = rw c.deref-2.ensures.value at (c.in_ok-members_against.ensures.held file known is);
}
