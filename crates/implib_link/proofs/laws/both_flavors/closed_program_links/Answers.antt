use Rattle.implib_link.proofs.Search.BothClosed.{closed_links_of_both, packed_both}
use Rattle.implib_link.proofs.laws.both_flavors.closed_program_links.Goals as goal

pub returns : goal.returns
returns c = record { links = closed_links_of_both; packed = packed_both }
