-- The library of a definition whose null descriptor is named after it.
use Rattle.std.specs.Prelude.{◌≡◌, ℕ, true, List, ◌++◌, drop, map, ◌⊎◌, None, Some}
use Rattle.std.specs.List.{list_any}
use Rattle.implib.specs.declared.def.position.Position.{Position}
use Rattle.implib.specs.declared.error.Fault.{Fault}
use Rattle.implib.specs.declared.flavor.Flavor.{Flavor}
use Rattle.implib.specs.declared.flavor.Flavor.TheVariants.{Gnu, Msvc}
use Rattle.implib.specs.declared.machine.MachineType.{MachineType}
use Rattle.implib.specs.Definition.{DefinitionView}
use Rattle.implib.specs.Fault.{MemberTooLong, cause_of}
use Rattle.implib.specs.LibraryName.{NamesOfDll, names_for}
use Rattle.implib.specs.Members.MemberSpec.{MemberView, member_of}
use Rattle.implib.specs.Members.Members.{is_too_long}
use Rattle.implib_archive.specs.declared.error.Fault.{Fault as ArchiveFault}
use Rattle.implib_archive.specs.Archive.{archive_of}
use Rattle.implib_archive.specs.Refusal.{refusal_of}
use Rattle.implib_rules.specs.declared.library.Refusal.{Refusal}
use Rattle.implib_rules.specs.declared.library.Refusal.TheVariants.{Archive, Members}
use Rattle.implib_rules.specs.Library.{DefinitionFor, IsRefusalOfMembers, MembersFor}
use Rattle.implib_rules.specs.Library.{definition_text, kind_of}
use Rattle.implib_rules.specs.Options.{LibraryOptionsView}
use Rattle.implib_rules.specs.Places.{IsAtFault}
use Rattle.implib_libraries.specs.NullDescriptor.Named.{named_specs}

-- members with the two in front of the others; a library for GNU's linker has no null descriptor
-- and stays as it is
abbrev pub with_named_null : MachineType → Flavor → NamesOfDll → List MemberView → List MemberView
with_named_null machine Msvc dll ordinary =
    map member_of (named_specs machine dll) ++ drop 2 ordinary
with_named_null machine Gnu dll ordinary = ordinary

-- the two are those of the library of a definition
pub record AreHeadersFor (bytes : List ℕ) (options : LibraryOptionsView)
    (headers : List MemberView) : Type 0 where
  pub definition : DefinitionView
  pub of_text : DefinitionFor (definition_text bytes) options definition
  pub are : headers ≡ map member_of (named_specs options.machine (names_for Msvc definition))

-- the members: those of the library that is asked for, but for the two
pub record NamedMembersFor (bytes : List ℕ) (options : LibraryOptionsView)
    (members : List MemberView) : Type 0 where
  pub ordinary : List MemberView
  pub members_for : MembersFor bytes options ordinary
  pub is : members
      ≡ with_named_null options.machine options.flavor
      (names_for options.flavor members_for.definition) ordinary

-- the library has members, but the longer symbol makes one of the two too long
pub record IsTooLong (bytes : List ℕ) (options : LibraryOptionsView) (why : Refusal) : Type 0 where
  pub ordinary : List MemberView
  pub members_for : MembersFor bytes options ordinary
  pub msvc : options.flavor ≡ Msvc
  pub too_long : list_any is_too_long
      (named_specs options.machine (names_for Msvc members_for.definition)) ≡ true
  pub fault : Fault
  pub position : Position
  pub is : why ≡ Members fault position
  pub cause : cause_of fault ≡ MemberTooLong
  pub at : IsAtFault (definition_text bytes) MemberTooLong position

-- why there are none
abbrev pub IsRefusalOfNamed : List ℕ → LibraryOptionsView → Refusal → Type 0
IsRefusalOfNamed bytes options why =
    IsRefusalOfMembers bytes options why ⊎ IsTooLong bytes options why

-- the bytes of the library: the archive of the members
pub record IsNamedLibrary (bytes : List ℕ) (options : LibraryOptionsView)
    (file : List ℕ) : Type 0 where
  pub members : List MemberView
  pub members_for : NamedMembersFor bytes options members
  pub accepted : refusal_of (kind_of options.flavor members) members ≡ None
  pub is : file ≡ archive_of (kind_of options.flavor members) members

-- the bytes have members for this, which an archive cannot carry
pub record RefusesNamedArchive (bytes : List ℕ) (options : LibraryOptionsView)
    (why : Refusal) : Type 0 where
  pub members : List MemberView
  pub members_for : NamedMembersFor bytes options members
  pub fault : ArchiveFault
  pub is : why ≡ Archive fault
  pub refused : refusal_of (kind_of options.flavor members) members ≡ Some fault

-- why there is no library
abbrev pub IsRefusalOfNamedLibrary : List ℕ → LibraryOptionsView → Refusal → Type 0
IsRefusalOfNamedLibrary bytes options why =
    IsRefusalOfNamed bytes options why ⊎ RefusesNamedArchive bytes options why
