use Rattle.implib_archive.proofs.RefusedBytes.{read_names, refused_archives, worked_bounds, worked_fields}
use Rattle.implib_archive.proofs.laws.refused.worked_bounds.Goals as goal

pub returns : goal.returns
returns c = record { fields = worked_fields; names = read_names; archives = refused_archives; bounds = worked_bounds }
