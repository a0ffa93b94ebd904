use Rattle.implib_link_instances.proofs.Worked.Files.{worked_files, worked_headers}
use Rattle.implib_link_instances.proofs.laws.files.worked_files.Goals as goal

pub returns : goal.returns
returns c = record {
  worked_files = worked_files;
  worked_headers = worked_headers;
}
