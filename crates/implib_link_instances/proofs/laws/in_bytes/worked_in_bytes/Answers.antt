use Rattle.implib_link_instances.proofs.Archives.Files.{worked_file_lines, worked_files}
use Rattle.implib_link_instances.proofs.Archives.WorkedBothWay.{worked_both_way as way}
use Rattle.implib_link_instances.proofs.Archives.WorkedLldWay.{worked_lld_way}
use Rattle.implib_link_instances.proofs.laws.in_bytes.worked_in_bytes.Goals as goal

pub returns : goal.returns
returns c = record {
  worked_files = worked_files;
  worked_file_lines = worked_file_lines;
  worked_lld_way = worked_lld_way;
  way = way;
}
