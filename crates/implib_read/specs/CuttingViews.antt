-- What a caller sees of the values of the search for short imports that linkers cut differently.
use Rattle.implib_read.specs.Archives.{StoredMember as SeenMember}
use Rattle.implib_read.specs.ArchiveViews.{member_view}
use Rattle.implib_read.specs.Cutting.{Cut as SeenCut}
use Rattle.implib_read.specs.declared.cutting.Cut.{Cut}
use Rattle.implib_read.specs.declared.cutting.CutApart.{CutApart}

abbrev pub cut_view : Cut → SeenCut
cut_view c = record { symbol = c.symbol.now; by_lld = c.by_lld.now; by_gnu = c.by_gnu.now }

abbrev pub cut_apart_view : CutApart → SeenMember × SeenCut
cut_apart_view c = (member_view c.member, cut_view c.cut)
