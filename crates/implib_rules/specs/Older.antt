-- The library that has the older symbols of addresses too, where it is asked for (this project's
-- own).
use Rattle.std.specs.Prelude.{◌≡◌, ℕ, Bool, true, false, ◌&&◌, List, Option, None, Some, length}
use Rattle.std.specs.Str.{IsUtf8}
use Rattle.implib.specs.declared.flavor.Flavor.{Flavor}
use Rattle.implib.specs.declared.flavor.Flavor.TheVariants.{Msvc, Gnu}
use Rattle.implib.specs.declared.machine.MachineType.{MachineType}
use Rattle.implib.specs.Definition.{DefinitionView}
use Rattle.implib.specs.Fault.{Cause, cause_of}
use Rattle.implib.specs.Members.MemberSpec.{MemberView}
use Rattle.implib.specs.Members.OlderSymbols.{AreOlderMembersOf, OlderReadBack, older_refusal}
use Rattle.implib.specs.Renaming.{renamed}
use Rattle.implib_archive.specs.declared.error.Fault.{Fault as ArchiveFault}
use Rattle.implib_archive.specs.Archive.{archive_of}
use Rattle.implib_archive.specs.Refusal.{refusal_of}
use Rattle.implib_rules.specs.declared.library.Refusal.{Refusal}
use Rattle.implib_rules.specs.declared.library.Refusal.TheVariants.{NotUtf8, Syntax, NoName}
use Rattle.implib_rules.specs.declared.library.Refusal.TheVariants.{Members, Archive, OutOfMemory}
use Rattle.implib_rules.specs.ExportAs.{AreMadeFor, refusal_made}
use Rattle.implib_rules.specs.Library.{DefinitionFor, MembersFor, RefusesMembers, RefusesText}
use Rattle.implib_rules.specs.Library.{definition_text, kind_for}
use Rattle.implib_rules.specs.Options.{LibraryOptionsView}
use Rattle.implib_rules.specs.Places.{IsAtFault}
use Rattle.implib_rules.specs.Utf8.{IsNotUtf8At}

-- whether a flavour has older symbols: GNU's alone, since no short import can declare them
abbrev pub may_have_older : Flavor → Bool
may_have_older Msvc = false
may_have_older Gnu = true

-- whether a library has older symbols, where they are asked for or not
abbrev pub has_older : Bool → Flavor → Bool
has_older asked flavor = asked && may_have_older flavor

-- the members of a definition with older symbols, and what they are read as
pub record AreOlderMade (definition : DefinitionView) (machine : MachineType)
    (members : List MemberView) : Type 0 where
  pub made : AreOlderMembersOf definition machine members
  pub reads : OlderReadBack definition machine members

-- the members of a definition, with older symbols or without
abbrev pub AreMadeWith : Bool → LibraryOptionsView → DefinitionView → List MemberView → Type 0
AreMadeWith true options definition members = AreOlderMade definition options.machine members
AreMadeWith false options definition members =
    AreMadeFor options.naming definition options.machine options.flavor members

-- why a definition has no such members, if it has none
abbrev pub refusal_with : Bool → LibraryOptionsView → DefinitionView → Option Cause
refusal_with true options definition = older_refusal definition options.machine
refusal_with false options definition =
    refusal_made options.naming options.machine options.flavor definition

-- the members of the library that is asked for, with older symbols: those of the definition of the
-- bytes; they are read as its imports, each with its older symbol
pub record OlderMembersFor (bytes : List ℕ) (options : LibraryOptionsView)
    (members : List MemberView) : Type 0 where
  pub utf8 : IsUtf8 (definition_text bytes)
  pub definition : DefinitionView
  pub of_text : DefinitionFor (definition_text bytes) options definition
  pub made : AreOlderMade (renamed definition) options.machine members

-- the bytes have a definition for this, whose members with older symbols are refused
pub record RefusesOlderMembers (bytes : List ℕ) (options : LibraryOptionsView)
    (cause : Cause) : Type 0 where
  pub utf8 : IsUtf8 (definition_text bytes)
  pub definition : DefinitionView
  pub of_text : DefinitionFor (definition_text bytes) options definition
  pub refused : older_refusal (renamed definition) options.machine ≡ Some cause

-- the members of the library that is asked for, with older symbols or without
abbrev pub MembersWith : Bool → List ℕ → LibraryOptionsView → List MemberView → Type 0
MembersWith true bytes options members = OlderMembersFor bytes options members
MembersWith false bytes options members = MembersFor bytes options members

-- the members of the library that is asked for
abbrev pub MembersAsked : Bool → List ℕ → LibraryOptionsView → List MemberView → Type 0
MembersAsked asked bytes options members =
    MembersWith (has_older asked options.flavor) bytes options members

-- the bytes have a definition for this, whose members, with older symbols or without, are refused
abbrev pub RefusesWith : Bool → List ℕ → LibraryOptionsView → Cause → Type 0
RefusesWith true bytes options cause = RefusesOlderMembers bytes options cause
RefusesWith false bytes options cause = RefusesMembers bytes options cause

-- why bytes have no members, with older symbols or without
abbrev pub IsRefusalWith : Bool → List ℕ → LibraryOptionsView → Refusal → Type 0
IsRefusalWith older bytes options (NotUtf8 position) = IsNotUtf8At (definition_text bytes) position
IsRefusalWith older bytes options (Syntax fault position) =
    RefusesText bytes options (Syntax fault position)
IsRefusalWith older bytes options NoName = RefusesText bytes options NoName
IsRefusalWith older bytes options (Members fault position) =
    RefusesWith older bytes options (cause_of fault)
    × IsAtFault (definition_text bytes) (cause_of fault) position
IsRefusalWith older bytes options (Archive fault) = ⊥
IsRefusalWith older bytes options OutOfMemory = Unit {0}

-- why bytes have no members for what is asked for
abbrev pub IsRefusalOfAsked : Bool → List ℕ → LibraryOptionsView → Refusal → Type 0
IsRefusalOfAsked asked bytes options why =
    IsRefusalWith (has_older asked options.flavor) bytes options why

-- the bytes of the library that is asked for: the archive of the members
pub record IsLibraryAsked (asked : Bool) (bytes : List ℕ) (options : LibraryOptionsView)
    (file : List ℕ) : Type 0 where
  pub members : List MemberView
  pub members_asked : MembersAsked asked bytes options members
  pub accepted : refusal_of (kind_for options.flavor (length members)) members ≡ None
  pub is : file ≡ archive_of (kind_for options.flavor (length members)) members

-- the bytes have members for this, which an archive cannot carry
pub record RefusesArchiveAsked (asked : Bool) (bytes : List ℕ) (options : LibraryOptionsView)
    (fault : ArchiveFault) : Type 0 where
  pub members : List MemberView
  pub members_asked : MembersAsked asked bytes options members
  pub refused : refusal_of (kind_for options.flavor (length members)) members ≡ Some fault

-- why bytes have no library for what is asked for
abbrev pub IsRefusalOfBytesAsked : Bool → List ℕ → LibraryOptionsView → Refusal → Type 0
IsRefusalOfBytesAsked asked bytes options (NotUtf8 position) =
    IsRefusalOfAsked asked bytes options (NotUtf8 position)
IsRefusalOfBytesAsked asked bytes options (Syntax fault position) =
    IsRefusalOfAsked asked bytes options (Syntax fault position)
IsRefusalOfBytesAsked asked bytes options NoName = IsRefusalOfAsked asked bytes options NoName
IsRefusalOfBytesAsked asked bytes options (Members fault position) =
    IsRefusalOfAsked asked bytes options (Members fault position)
IsRefusalOfBytesAsked asked bytes options (Archive fault) =
    RefusesArchiveAsked asked bytes options fault
IsRefusalOfBytesAsked asked bytes options OutOfMemory = Unit {0}
