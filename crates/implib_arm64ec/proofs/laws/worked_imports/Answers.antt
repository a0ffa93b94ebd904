use Rattle.implib_arm64ec.proofs.WorkedImports.{worked_imports, worked_readings, worked_symbols}
use Rattle.implib_arm64ec.proofs.laws.worked_imports.Goals as goal

pub returns : goal.returns
returns c = record { bytes = worked_imports; symbols = worked_symbols; readings = worked_readings }
