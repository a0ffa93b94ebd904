-- The members of a DLL's library (this project's own; docs/DLLTOOL.md, "From a DLL").
use Rattle.std.specs.Prelude.{◌≡◌, ℕ, true, List, [], Option, None, Some, if◌then◌else◌}
use Rattle.std.specs.Str.{IsUtf8}
use Rattle.implib.specs.Definition.{ExportView}
use Rattle.implib.specs.Fault.{cause_of}
use Rattle.implib.specs.Import.{is_empty_text}
use Rattle.implib.specs.Members.MemberSpec.{MemberView}
use Rattle.implib_dll.specs.Exports.{Exports}
use Rattle.implib_libraries.specs.declared.of_dll.members.Unmade.{Unmade}
use Rattle.implib_libraries.specs.declared.of_dll.members.Unmade.TheVariants.{NameNotUtf8, Unsaid}
use Rattle.implib_libraries.specs.declared.of_dll.members.Unmade.TheVariants.{NoName, Members}
use Rattle.implib_libraries.specs.declared.of_dll.members.Unmade.TheVariants.{OutOfMemory}
use Rattle.implib_libraries.specs.FromDll.Definition.{exports_of}
use Rattle.implib_libraries.specs.FromDll.Unsaid.{IsUnsaid}
use Rattle.implib_rules.specs.Exports.{MembersOfExports, RefusesExports}
use Rattle.implib_rules.specs.Names.{lacks_name}
use Rattle.implib_rules.specs.Options.{LibraryOptionsView}

-- the name of a DLL: the one that is given, or else that of its export directory, or that of its
-- file where that is empty
abbrev pub dll_named : List ℕ → List ℕ → Option (List ℕ) → List ℕ
dll_named path own (Some given) = given
dll_named path own None = if is_empty_text own then path else own

-- what the library of a DLL is made for: with the name of the DLL
abbrev pub options_for : Exports → List ℕ → LibraryOptionsView → LibraryOptionsView
options_for e path options = record options { dll = Some (dll_named path e.dll options.dll) }

-- The members of the library of these exports of a DLL.
abbrev pub MembersOfList : List ExportView → Exports → List ℕ → LibraryOptionsView →
    List MemberView → Type 0
MembersOfList exports e path options members =
    MembersOfExports exports (options_for e path options) members

-- The members of the library of a DLL: those of its exports.
abbrev pub MembersOfDll : Exports → List ℕ → LibraryOptionsView → List MemberView → Type 0
MembersOfDll e path options members = MembersOfList (exports_of e) e path options members

-- Why these exports of a DLL have no members.
abbrev pub IsListUnmade : List ExportView → Exports → List ℕ → LibraryOptionsView → Unmade → Type 0
IsListUnmade exports e path options NameNotUtf8 = (options.dll ≡ None) × (¬ (IsUtf8 e.dll))
IsListUnmade exports e path options (Unsaid why) = ⊥
IsListUnmade exports e path options NoName = lacks_name (options_for e path options).dll [] ≡ true
IsListUnmade exports e path options (Members fault) =
    RefusesExports exports (options_for e path options) (cause_of fault)
IsListUnmade exports e path options OutOfMemory = Unit {0}

-- Why a DLL has no members.
abbrev pub IsUnmade : Exports → List ℕ → LibraryOptionsView → Unmade → Type 0
IsUnmade e path options NameNotUtf8 = IsListUnmade (exports_of e) e path options NameNotUtf8
IsUnmade e path options (Unsaid why) = IsUnsaid e why
IsUnmade e path options NoName = IsListUnmade (exports_of e) e path options NoName
IsUnmade e path options (Members fault) = IsListUnmade (exports_of e) e path options (Members fault)
IsUnmade e path options OutOfMemory = Unit {0}
