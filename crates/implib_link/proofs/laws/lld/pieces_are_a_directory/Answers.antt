use Rattle.implib_link.proofs.Flavors.LldImports.{built_pieces, pieces_directory}
use Rattle.implib_link.proofs.Tables.{pieces_tables}
use Rattle.implib_link.proofs.laws.lld.pieces_are_a_directory.Goals as goal

pub returns : goal.returns
returns c = record { directory = pieces_directory; pieces = built_pieces; tables = pieces_tables }
