-- The library of delayed imports of a definition (this project's own; docs/DLLTOOL.md, "Delayed
-- imports").
use Rattle.std.specs.Prelude.{◌≡◌, ℕ, Bool, ◌&&◌, ◌||◌, not, true, List, [], ◌∷◌, Option, None, Some}
use Rattle.std.specs.Prelude.{if◌then◌else◌, map}
use Rattle.std.specs.List.{flat_map}
use Rattle.std.specs.Str.{IsUtf8}
use Rattle.implib.specs.declared.def.position.Position.{Position}
use Rattle.implib.specs.Definition.{DefinitionView, ExportView}
use Rattle.implib.specs.Fault.{cause_of}
use Rattle.implib.specs.Members.MemberSpec.{MemberView}
use Rattle.implib.specs.Renaming.{renamed}
use Rattle.implib_archive.specs.declared.kind.Kind.TheVariants as kind
use Rattle.implib_archive.specs.Archive.{archive_of}
use Rattle.implib_archive.specs.Refusal.{refusal_of}
use Rattle.implib_delay.specs.Members.{AreDelayedMembersOf, delay_refusal}
use Rattle.implib_delay.specs.Reader.{DelayedReadBack}
use Rattle.implib_delay.specs.Refusal.{DelayCause, IsAlias, IsData, NoMachine, OfNames}
use Rattle.implib_libraries.specs.declared.delayed.DelayRefusal.{DelayRefusal}
use Rattle.implib_libraries.specs.declared.delayed.DelayRefusal.TheVariants.{Refused}
use Rattle.implib_libraries.specs.declared.delayed.DelayRefusal.TheVariants.{Undelayed as CannotDelay}
use Rattle.implib_libraries.specs.declared.delayed.Undelayed.{Undelayed}
use Rattle.implib_libraries.specs.declared.delayed.Undelayed.TheVariants.{Alias, Data, Machine}
use Rattle.implib_rules.specs.declared.library.Refusal.{Refusal}
use Rattle.implib_rules.specs.declared.library.Refusal.TheVariants.{Archive, Members, NoName}
use Rattle.implib_rules.specs.declared.library.Refusal.TheVariants.{NotUtf8, OutOfMemory, Syntax}
use Rattle.implib_rules.specs.Library.{DefinitionFor, RefusesText, definition_text}
use Rattle.implib_rules.specs.Options.{LibraryOptionsView}
use Rattle.implib_rules.specs.Places.{IsAtFault, IsAtName}
use Rattle.implib_rules.specs.Utf8.{IsNotUtf8At}

-- The options under which a delayed library is made: its names are asked for as under `-k`,
-- whether that is given or not (GNU dlltool 2.40 and 2.47, which set it for `-y`).
abbrev pub delayed_options : LibraryOptionsView → LibraryOptionsView
delayed_options options = record options { naming = record options.naming { kills_at = true } }

-- whether an export is left out: it is public, and no function that a first call could load
abbrev pub is_left_out : ExportView → Bool
is_left_out e = not e.private && (e.is_data || e.constant)

-- a definition without its data and constants: they are private there
abbrev pub leaving_out : ExportView → ExportView
leaving_out e = record e { private = e.private || (e.is_data || e.constant) }

abbrev pub without_data : DefinitionView → DefinitionView
without_data d = record d { exports = map leaving_out d.exports }

-- the symbol of an export, if it is left out
abbrev pub symbol_left_out : ExportView → List (List ℕ)
symbol_left_out e = if is_left_out e then e.name ∷ [] else []

-- the symbols of the exports that the library of delayed imports of the bytes leaves out
pub record LeavesOut (bytes : List ℕ) (options : LibraryOptionsView) (symbols : List (List ℕ))
    : Type 0 where
  pub definition : DefinitionView
  pub of_text : DefinitionFor (definition_text bytes) (delayed_options options) definition
  pub are : symbols ≡ flat_map symbol_left_out definition.exports

-- The members of the library of delayed imports: those of the definition of the bytes, without its
-- data and constants. By their bytes alone they are read as its imports.
pub record DelayedMembersFor (bytes : List ℕ) (options : LibraryOptionsView)
    (members : List MemberView) : Type 0 where
  pub utf8 : IsUtf8 (definition_text bytes)
  pub definition : DefinitionView
  pub of_text : DefinitionFor (definition_text bytes) (delayed_options options) definition
  pub made : AreDelayedMembersOf (renamed (without_data definition)) options.machine members
  pub reads : DelayedReadBack (without_data definition) options.machine members

-- the bytes of the library of delayed imports: the archive of the members, of GNU's kind
pub record IsDelayedLibrary (bytes : List ℕ) (options : LibraryOptionsView) (file : List ℕ)
    : Type 0 where
  pub members : List MemberView
  pub members_for : DelayedMembersFor bytes options members
  pub accepted : refusal_of kind.Gnu members ≡ None
  pub is : file ≡ archive_of kind.Gnu members

-- the bytes have a definition for this, whose imports cannot be delayed for this cause
pub record RefusesDelay (bytes : List ℕ) (options : LibraryOptionsView) (cause : DelayCause)
    : Type 0 where
  pub utf8 : IsUtf8 (definition_text bytes)
  pub definition : DefinitionView
  pub of_text : DefinitionFor (definition_text bytes) (delayed_options options) definition
  pub refused : delay_refusal (renamed (without_data definition)) options.machine ≡ Some cause

-- the refusal is that of a cause, and its position that of the export, if it is of one
abbrev pub IsRefusalPlaced : List ℕ → DelayCause → DelayRefusal → Type 0
IsRefusalPlaced text cause (Refused (NotUtf8 position)) = ⊥
IsRefusalPlaced text cause (Refused (Syntax fault position)) = ⊥
IsRefusalPlaced text cause (Refused NoName) = ⊥
IsRefusalPlaced text cause (Refused (Members fault position)) =
    (cause ≡ OfNames (cause_of fault)) × IsAtFault text (cause_of fault) position
IsRefusalPlaced text cause (Refused (Archive fault)) = ⊥
IsRefusalPlaced text cause (Refused OutOfMemory) = Unit {0}
IsRefusalPlaced text cause (CannotDelay (Data position)) =
    (index : ℕ) × ((cause ≡ IsData index) × IsAtName text index position)
IsRefusalPlaced text cause (CannotDelay (Alias position)) =
    (index : ℕ) × ((cause ≡ IsAlias index) × IsAtName text index position)
IsRefusalPlaced text cause (CannotDelay Machine) = cause ≡ NoMachine

-- a definition whose imports cannot be delayed, with the place of that in the text
pub record IsUndelayed (bytes : List ℕ) (options : LibraryOptionsView) (why : DelayRefusal)
    : Type 0 where
  pub cause : DelayCause
  pub refuses : RefusesDelay bytes options cause
  pub placed : IsRefusalPlaced (definition_text bytes) cause why

-- why bytes have no members of delayed imports
abbrev pub IsRefusalOfDelayedMembers : List ℕ → LibraryOptionsView → DelayRefusal → Type 0
IsRefusalOfDelayedMembers bytes options (Refused (NotUtf8 position)) =
    IsNotUtf8At (definition_text bytes) position
IsRefusalOfDelayedMembers bytes options (Refused (Syntax fault position)) =
    RefusesText bytes (delayed_options options) (Syntax fault position)
IsRefusalOfDelayedMembers bytes options (Refused NoName) =
    RefusesText bytes (delayed_options options) NoName
IsRefusalOfDelayedMembers bytes options (Refused (Members fault position)) =
    IsUndelayed bytes options (Refused (Members fault position))
IsRefusalOfDelayedMembers bytes options (Refused (Archive fault)) = ⊥
IsRefusalOfDelayedMembers bytes options (Refused OutOfMemory) = Unit {0}
IsRefusalOfDelayedMembers bytes options (CannotDelay why) =
    IsUndelayed bytes options (CannotDelay why)

-- why members have no archive of GNU's kind
abbrev pub IsRefusalOfDelayedArchive : List MemberView → Refusal → Type 0
IsRefusalOfDelayedArchive members (Archive fault) = refusal_of kind.Gnu members ≡ Some fault
IsRefusalOfDelayedArchive members OutOfMemory = Unit {0}
IsRefusalOfDelayedArchive members _ = ⊥

-- the bytes have members of delayed imports, which an archive cannot carry
pub record HasNoDelayedArchive (bytes : List ℕ) (options : LibraryOptionsView) (refusal : Refusal)
    : Type 0 where
  pub members : List MemberView
  pub members_for : DelayedMembersFor bytes options members
  pub refused : IsRefusalOfDelayedArchive members refusal

-- why bytes have no library of delayed imports
abbrev pub IsRefusalOfDelayed : List ℕ → LibraryOptionsView → DelayRefusal → Type 0
IsRefusalOfDelayed bytes options (Refused (Archive fault)) =
    HasNoDelayedArchive bytes options (Archive fault)
IsRefusalOfDelayed bytes options why = IsRefusalOfDelayedMembers bytes options why

-- where the cause of a refusal is, if it is not of the whole definition
abbrev pub position_of_undelayed : Undelayed → Option Position
position_of_undelayed (Data position) = Some position
position_of_undelayed (Alias position) = Some position
position_of_undelayed Machine = None
