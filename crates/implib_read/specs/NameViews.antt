-- What a caller sees of a member's name.
use Rattle.implib_read.specs.MemberNames.{MemberName as Seen, LinkerMember, LongNamesMember, NameAt}
use Rattle.implib_read.specs.MemberNames.{Named, Special}
use Rattle.implib_read.specs.declared.names.MemberName.{MemberName}
use Rattle.implib_read.specs.declared.names.MemberName.TheVariants.{Linker, LongNames, LongAt, Text}
use Rattle.implib_read.specs.declared.names.MemberName.TheVariants.{Special as AsSpecial}

abbrev pub name_view : MemberName → Seen
name_view Linker = LinkerMember
name_view LongNames = LongNamesMember
name_view (LongAt offset) = NameAt offset
name_view (Text text) = Named text.now
name_view (AsSpecial text) = Special text.now
