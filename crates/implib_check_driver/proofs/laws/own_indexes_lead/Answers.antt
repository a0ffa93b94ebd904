use Rattle.implib_check_driver.proofs.OwnIndexes.{library_leads}
use Rattle.implib_check_driver.proofs.laws.own_indexes_lead.Goals as goal

pub returns : goal.returns
returns c = library_leads c.same_parts.ensures c.own_members_found.ensures c.same_short_imports.ensures c.same_objects.ensures
