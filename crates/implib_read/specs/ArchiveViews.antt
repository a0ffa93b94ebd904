-- What a caller sees of the values that borrow an archive's bytes.
use Rattle.std.specs.Prelude.{map}
use Rattle.implib_read.specs.Archives.{Archive as SeenArchive, Part as SeenPart}
use Rattle.implib_read.specs.Archives.{StoredMember as SeenMember}
use Rattle.implib_read.specs.NameViews.{name_view}
use Rattle.implib_read.specs.declared.archive.Archive.{Archive}
use Rattle.implib_read.specs.declared.archive.Part.{Part}
use Rattle.implib_read.specs.declared.archive.StoredMember.{StoredMember}

abbrev pub part_view : Part → SeenPart
part_view p = record { offset = p.offset; name = name_view p.name; contents = p.contents.now }

abbrev pub member_view : StoredMember → SeenMember
member_view m = record { name = m.name.now; bytes = m.bytes.now; offset = m.offset }

abbrev pub archive_view : Archive → SeenArchive
archive_view a =
    record { parts = map part_view a.parts.items; members = map member_view a.members.items }
