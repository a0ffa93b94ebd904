use Rattle.implib_link.proofs.Tables.{stub_called_in_memory, stub_in_memory, thunk_called_in_memory, thunk_in_memory}
use Rattle.implib_link.proofs.laws.stubs.stubs_of_any_tables_jump.Goals as goal

pub returns : goal.returns
returns c = record { arrives = stub_in_memory; calls = stub_called_in_memory; thunks = thunk_in_memory; branches = thunk_called_in_memory }
