use Rattle.implib_arm64ec.proofs.WorkedArchives.{worked_archive_readings, worked_archives, worked_library_refusals}
use Rattle.implib_arm64ec.proofs.laws.worked_archives.Goals as goal

pub returns : goal.returns
returns c = record { archives = worked_archives; readings = worked_archive_readings; refusals = worked_library_refusals }
