use Rattle.implib_link.proofs.Gnu.FieldsInMemory.{stored_in_memory}
use Rattle.implib_link.proofs.StoredInMemory.{entries_hold, names_hold, stubs_stored, thunks_stored}
use Rattle.implib_link.proofs.laws.stored.fields_hold_addresses.Goals as goal

pub returns : goal.returns
returns c = record { names = names_hold; entries = entries_hold; stubs = stubs_stored; thunks = thunks_stored; plain = stored_in_memory }
