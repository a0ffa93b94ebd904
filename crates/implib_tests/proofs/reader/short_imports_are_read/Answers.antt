use Rattle.implib_tests.proofs.Read.Arm64ecImports.{short_imports_are_read}
use Rattle.implib_tests.proofs.reader.short_imports_are_read.Goals as goal

pub returns : goal.returns
returns c = short_imports_are_read
