-- What a caller sees of what members are for.
use Rattle.implib_read.specs.AliasViews.{alias_view}
use Rattle.implib_read.specs.Classes.{Class, AnImport, AnAlias, Descriptor as ADescriptor}
use Rattle.implib_read.specs.Classes.{NullDescriptor as ANullDescriptor, NullThunk as ANullThunk}
use Rattle.implib_read.specs.Classes.{Head as AHead, Tail as ATail, DelayImport as ADelayImport}
use Rattle.implib_read.specs.Classes.{Other as AnOther, NotUnderstood as NotOne, Imported}
use Rattle.implib_read.specs.Classes.{MemberRead as SeenMember}
use Rattle.implib_read.specs.ImportViews.{import_view}
use Rattle.implib_read.specs.declared.import.ImportFound.{ImportFound}
use Rattle.implib_read.specs.declared.class.MemberClass.{MemberClass}
use Rattle.implib_read.specs.declared.class.MemberClass.TheVariants.{Import, Alias, Descriptor}
use Rattle.implib_read.specs.declared.class.MemberClass.TheVariants.{NullDescriptor, NullThunk}
use Rattle.implib_read.specs.declared.class.MemberClass.TheVariants.{Head, Tail, DelayImport, Other}
use Rattle.implib_read.specs.declared.class.MemberClass.TheVariants.{NotUnderstood}
use Rattle.implib_read.specs.declared.class.MemberRead.{MemberRead}

abbrev pub imported_view : ImportFound → Imported
imported_view i = record { imports = import_view i; kind = i.kind; machine = i.machine }

abbrev pub class_view : MemberClass → Class
class_view (Import i) = AnImport (imported_view i)
class_view (Alias a) = AnAlias (alias_view a)
class_view Descriptor = ADescriptor
class_view NullDescriptor = ANullDescriptor
class_view NullThunk = ANullThunk
class_view Head = AHead
class_view Tail = ATail
class_view DelayImport = ADelayImport
class_view Other = AnOther
class_view NotUnderstood = NotOne

abbrev pub member_read_view : MemberRead → SeenMember
member_read_view m = record { name = m.name.now; offset = m.offset; class = class_view m.class }
