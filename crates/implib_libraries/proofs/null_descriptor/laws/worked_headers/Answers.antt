use Rattle.implib_libraries.proofs.NullDescriptor.Worked as worked
use Rattle.implib_libraries.proofs.null_descriptor.laws.worked_headers.Goals as goal

pub returns : goal.returns
returns c = worked.worked_headers
