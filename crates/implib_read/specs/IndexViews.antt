-- What a caller sees of indexes.
use Rattle.std.specs.Prelude.{map}
use Rattle.implib_read.specs.Indexes.{IndexEntry as SeenEntry, SecondIndex as SeenIndex}
use Rattle.implib_read.specs.declared.index.IndexEntry.{IndexEntry}
use Rattle.implib_read.specs.declared.index.SecondIndex.{SecondIndex}

abbrev pub index_entry_view : IndexEntry → SeenEntry
index_entry_view e = record { symbol = e.symbol.now; place = e.place }

abbrev pub second_index_view : SecondIndex → SeenIndex
second_index_view i =
    record { offsets = i.offsets.now; entries = map index_entry_view i.entries.items }
