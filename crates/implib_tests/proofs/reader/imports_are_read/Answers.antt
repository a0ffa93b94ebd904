use Rattle.implib_tests.proofs.Read.Arm64ecExports.{imports_are_read}
use Rattle.implib_tests.proofs.reader.imports_are_read.Goals as goal

pub returns : goal.returns
returns c = imports_are_read
