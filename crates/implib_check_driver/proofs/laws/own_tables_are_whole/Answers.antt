use Rattle.implib_check_driver.proofs.OwnTables.{tables_are_whole}
use Rattle.implib_check_driver.proofs.laws.own_tables_are_whole.Goals as goal

pub returns : goal.returns
returns c = tables_are_whole c.own_members_found.ensures c.same_short_imports.ensures c.same_objects.ensures c.own_gnu_libraries.ensures c.meant_is_made.ensures
