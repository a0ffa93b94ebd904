-- The members for GNU's linker, of which the program makes some and keeps the others as what they
-- say (docs/FORMATS.md, "Objects of exports that are kept").
use Rattle.std.specs.Prelude.{List, ◌++◌, map}
use Rattle.implib.specs.declared.gnu.members.GnuMembers.{GnuMembers}
use Rattle.implib.specs.Library.{member_view}
use Rattle.implib.specs.Members.MemberSpec.{MemberView}

-- what they show: the members that are made, and then those that are kept
abbrev pub kept_members : GnuMembers → List MemberView
kept_members members = map member_view members.before.items ++ members.objects.members
