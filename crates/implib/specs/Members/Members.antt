-- The members of a definition, each specified before it is encoded, and the definitions that are
-- refused.
use Rattle.std.specs.Prelude.{◌≡◌, Bool, true, nat_lt, List, ◌++◌, map, Option, Some, None}
use Rattle.std.specs.Prelude.{if◌then◌else◌}
use Rattle.std.specs.List.{flat_map, list_all, list_any}
use Rattle.implib.specs.declared.flavor.Flavor.{Flavor}
use Rattle.implib.specs.declared.flavor.Flavor.TheVariants.{Msvc, Gnu}
use Rattle.implib.specs.declared.machine.MachineType.{MachineType}
use Rattle.implib.specs.Definition.{DefinitionView, ExportView}
use Rattle.implib.specs.Fault.{Cause, MemberTooLong}
use Rattle.implib.specs.Import.{public_exports}
use Rattle.implib.specs.LibraryName.{names_for}
use Rattle.implib.specs.Renaming.{renamed}
use Rattle.implib.specs.Members.GnuMembers.{gnu_specs}
use Rattle.implib.specs.Members.MemberSpec.{MemberSpec, MemberView, file_size, member_of}
use Rattle.implib.specs.Members.MsvcMembers.{export_specs, header_specs}
use Rattle.implib.specs.Members.NameRules.{definition_names_refusal, first_of_both}

-- the members of a definition whose exports are under their names to link by
abbrev pub member_specs : DefinitionView → MachineType → Flavor → List MemberSpec
member_specs d machine Msvc =
    header_specs machine (names_for Msvc d)
    ++ flat_map (export_specs machine (names_for Msvc d)) (public_exports d)
member_specs d machine Gnu = gnu_specs machine (names_for Gnu d) (public_exports d)

-- whether a member would be longer than a u32 can say
abbrev pub is_too_long : MemberSpec → Bool
is_too_long p = nat_lt 0xFFFF_FFFF (file_size p.contents)

-- a member that is too long
abbrev pub length_refusal : List MemberSpec → Option Cause
length_refusal specs = if list_any is_too_long specs then Some MemberTooLong else None

-- the first rule that such a definition breaks: on the import name, on the library's name, on the
-- exports' names, on lengths
unfoldable pub renamed_refusal : DefinitionView → MachineType → Flavor → Option Cause
renamed_refusal d machine flavor =
    first_of_both (definition_names_refusal d machine flavor)
    (length_refusal (member_specs d machine flavor))

-- the first rule that refuses a definition
unfoldable pub refusal : DefinitionView → MachineType → Flavor → Option Cause
refusal d machine flavor = renamed_refusal (renamed d) machine flavor

-- whether an ordinal is a 16-bit number, as every ordinal of the program is
abbrev pub has_u16_ordinal : ExportView → Bool
has_u16_ordinal e = nat_lt e.ordinal 0x1_0000

-- The members are those of the definition, which is not refused. For example, foo.dll with bar on
-- AMD64 has four members for Microsoft's linker, of 358, 127, 159 and 32 bytes, and three for
-- GNU's, of 356, 450 and 474.
pub record AreMembersOf (d : DefinitionView) (machine : MachineType) (flavor : Flavor)
    (members : List MemberView) : Type 0 where
  pub accepted : refusal d machine flavor ≡ None
  pub made : members ≡ map member_of (member_specs (renamed d) machine flavor)
  pub ordinals : list_all has_u16_ordinal (public_exports (renamed d)) ≡ true
