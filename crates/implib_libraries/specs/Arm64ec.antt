-- The library for ARM64EC of a definition (LLVM, "COFFImportFile.cpp"; docs/DLLTOOL.md, "ARM64EC").
use Rattle.std.specs.Prelude.{◌≡◌, ◌⊎◌, ℕ, true, List, [], ◌∷◌, if◌then◌else◌, Option, None, Some}
use Rattle.std.specs.Prelude.{drop, take, unwrap_or}
use Rattle.std.specs.List.{AllByRecursion}
use Rattle.std.specs.Str.{IsUtf8}
use Rattle.implib.specs.declared.def.position.Position.{Position}
use Rattle.implib.specs.declared.flavor.Flavor.TheVariants.{Gnu, Msvc}
use Rattle.implib.specs.declared.machine.MachineType.TheVariants.{AMD64, ARM64}
use Rattle.implib.specs.Definition.{DefinitionView, ExportView}
use Rattle.implib.specs.Fault as cause
use Rattle.implib.specs.Fault.{Cause, cause_of}
use Rattle.implib.specs.Import.{is_empty_text}
use Rattle.implib.specs.LibraryName.{names_for}
use Rattle.implib.specs.Text.Parses.{Parses}
use Rattle.implib.specs.Members.MemberSpec.{MemberView}
use Rattle.implib.specs.Renaming.{renamed}
use Rattle.implib_arm64ec.specs.Archive.{library_refusal}
use Rattle.implib_arm64ec.specs.Library.{LibraryView}
use Rattle.implib_arm64ec.specs.LibraryImports.{imports_fault, imports_of}
use Rattle.implib_arm64ec.specs.declared.library.ImportsFault.{ImportsFault}
use Rattle.implib_arm64ec.specs.declared.library.ImportsFault.TheVariants.{MemberTooLong}
use Rattle.implib_arm64ec.specs.declared.library.ImportsFault.TheVariants.{NulInDllName}
use Rattle.implib_arm64ec.specs.declared.library.ImportsFault.TheVariants.{NulInExport, Unreadable}
use Rattle.implib_libraries.specs.declared.arm64ec.Arm64ecRefusal.{Arm64ecRefusal}
use Rattle.implib_libraries.specs.declared.arm64ec.Arm64ecRefusal.TheVariants as refusal
use Rattle.implib_libraries.specs.declared.arm64ec.Unimported.{Unimported}
use Rattle.implib_rules.specs.declared.library.Refusal.{Refusal}
use Rattle.implib_rules.specs.declared.library.Refusal.TheVariants.{Archive, Members, NoName}
use Rattle.implib_rules.specs.declared.library.Refusal.TheVariants.{NotUtf8, OutOfMemory, Syntax}
use Rattle.implib_rules.specs.LibraryName.{with_library_name}
use Rattle.implib_rules.specs.Library.{DefinitionFor, IsRefusalOfMembers, MembersFor, RefusesText}
use Rattle.implib_rules.specs.Library.{definition_text}
use Rattle.implib_rules.specs.Options.{LibraryOptionsView}
use Rattle.implib_rules.specs.Places.{IsAtFault, IsAtName}
use Rattle.implib_rules.specs.Utf8.{IsNotUtf8At}

-- The options under which the definition is read: for ARM64, and as for GNU's linker, so that each
-- export asks for its name itself. None is weak for another, since each linker that knows ARM64EC
-- reads a third text.
abbrev pub arm64ec_options : LibraryOptionsView → LibraryOptionsView
arm64ec_options options = record options { machine = ARM64; flavor = Gnu }

-- The options of the native definition, which is of the same DLL: those of an ordinary library for
-- ARM64 and Microsoft's linkers, with third texts.
abbrev pub native_options : LibraryOptionsView → List ℕ → LibraryOptionsView
native_options options dll = record options {
  machine = ARM64;
  flavor = Msvc;
  dll = Some dll;
  naming = record options.naming { exports_as = true };
}

-- the name that an export gives, or else its word after `==`, if it has one
abbrev pub asked_or : Option (List ℕ) → List ℕ → Option (List ℕ)
asked_or (Some name) word = Some name
asked_or None word = if is_empty_text word then None else Some word

-- an export that asks for its word after `==`, which the first of these has, also where that is its
-- symbol
abbrev pub asking_by : List ExportView → ExportView → ExportView
asking_by [] e = e
asking_by (written ∷ rest) e = record e { asked_name = asked_or e.asked_name written.alias_target }

-- Exports, each asking for the word after `==` that it has in the text. For example, `#f == #f`
-- asks for `#f`, and `#f` for f.
abbrev pub asking : List ExportView → List ExportView → List ExportView
asking written [] = []
asking written (e ∷ exports) = asking_by written e ∷ asking (drop 1 written) exports

-- the definition of these written exports, with the library's name for Microsoft's linkers, each
-- export under the name to link by
abbrev pub for_linkers : List ExportView → DefinitionView → DefinitionView
for_linkers written d =
    renamed (with_library_name ARM64 Msvc (record d { exports = asking written d.exports }))

-- Each export of a definition that is read so asks for its own name: none is an alias, which is
-- weak for the symbol of another, and asks for nothing.
abbrev pub NoneIsWeak : Type 0
NoneIsWeak = (text : List ℕ) (options : LibraryOptionsView) (d : DefinitionView)
    → DefinitionFor text (arm64ec_options options) d →
    AllByRecursion (λ e. e.alias_target ≡ []) d.exports

-- The headers and the native members: those of an ordinary library for ARM64, of the native
-- definition or of none.
pub record AreOrdinary (native : Option (List ℕ)) (options : LibraryOptionsView) (dll : List ℕ)
    (headers natives : List MemberView) : Type 0 where
  pub ordinary : List MemberView
  pub of_native : MembersFor (unwrap_or native []) (native_options options dll) ordinary
  pub headers_are : headers ≡ take 3 ordinary
  pub natives_are : natives ≡ drop 3 ordinary

-- The library of a definition, and of a native one, where the name of the DLL is the one given, or
-- the definition's: headers and native members are those of an ordinary library, and between them
-- are the short imports of the definition.
pub record IsLibraryNamed (bytes : List ℕ) (native : Option (List ℕ)) (options : LibraryOptionsView)
    (l : LibraryView) : Type 0 where
  pub utf8 : IsUtf8 (definition_text bytes)
  pub definition : DefinitionView
  pub of_text : DefinitionFor (definition_text bytes) (arm64ec_options options) definition
  -- the text's exports as they are written
  pub written : DefinitionView
  pub parses : Parses (definition_text bytes) AMD64 written
  pub ordinary : AreOrdinary native options definition.import_name l.headers l.natives
  pub imports : l.imports ≡ imports_of (names_for Msvc (for_linkers written.exports definition))
      (for_linkers written.exports definition).exports
  pub accepted : imports_fault (names_for Msvc (for_linkers written.exports definition))
      (for_linkers written.exports definition).exports ≡ None

-- the bytes have a definition for this, whose short imports are refused
pub record RefusesImports (bytes : List ℕ) (options : LibraryOptionsView)
    (fault : ImportsFault) : Type 0 where
  pub utf8 : IsUtf8 (definition_text bytes)
  pub definition : DefinitionView
  pub of_text : DefinitionFor (definition_text bytes) (arm64ec_options options) definition
  pub written : DefinitionView
  pub parses : Parses (definition_text bytes) AMD64 written
  pub refused : imports_fault (names_for Msvc (for_linkers written.exports definition))
      (for_linkers written.exports definition).exports ≡ Some fault

-- the fault of short imports is told so: its export, if it is of one, is at this position of the
-- text
abbrev pub IsUnimported : List ℕ → ImportsFault → Unimported → Type 0
IsUnimported text NulInDllName why = why.fault ≡ NulInDllName
IsUnimported text (NulInExport index) why =
    (why.fault ≡ NulInExport index) × IsAtName text index why.position
IsUnimported text (Unreadable index place) why =
    (why.fault ≡ Unreadable index place) × IsAtName text index why.position
IsUnimported text (MemberTooLong index) why =
    (why.fault ≡ MemberTooLong index) × IsAtName text index why.position

-- a definition whose short imports are refused, with the place of that in the text
pub record HasNoImports (bytes : List ℕ) (options : LibraryOptionsView)
    (why : Unimported) : Type 0 where
  pub fault : ImportsFault
  pub refuses : RefusesImports bytes options fault
  pub told : IsUnimported (definition_text bytes) fault why

-- the bytes have a definition, and the native one is refused
pub record RefusesNative (bytes : List ℕ) (native : Option (List ℕ)) (options : LibraryOptionsView)
    (why : Refusal) : Type 0 where
  pub utf8 : IsUtf8 (definition_text bytes)
  pub definition : DefinitionView
  pub of_text : DefinitionFor (definition_text bytes) (arm64ec_options options) definition
  pub refused : IsRefusalOfMembers (unwrap_or native [])
      (native_options options definition.import_name) why

-- why a text has no definition
abbrev pub IsRefusalOfDefinition : List ℕ → LibraryOptionsView → Refusal → Type 0
IsRefusalOfDefinition bytes options (NotUtf8 position) =
    IsNotUtf8At (definition_text bytes) position
IsRefusalOfDefinition bytes options (Syntax fault position) =
    RefusesText bytes (arm64ec_options options) (Syntax fault position)
IsRefusalOfDefinition bytes options NoName = RefusesText bytes (arm64ec_options options) NoName
IsRefusalOfDefinition bytes options (Members fault position) = ⊥
IsRefusalOfDefinition bytes options (Archive fault) = ⊥
IsRefusalOfDefinition bytes options OutOfMemory = Unit {0}

-- why there is no library under the name that is given, or the definition's
abbrev pub IsRefusalNamed : List ℕ → Option (List ℕ) → LibraryOptionsView → Arm64ecRefusal → Type 0
IsRefusalNamed bytes native options (refusal.OfDefinition why) =
    IsRefusalOfDefinition bytes options why
IsRefusalNamed bytes native options (refusal.OfNative why) = RefusesNative bytes native options why
IsRefusalNamed bytes native options (refusal.OfImports why) = HasNoImports bytes options why
IsRefusalNamed bytes native options refusal.OutOfMemory = Unit {0}

-- the bytes have a definition, and by it the DLL has this name
pub record NamesDll (bytes : List ℕ) (options : LibraryOptionsView) (name : List ℕ) : Type 0 where
  pub utf8 : IsUtf8 (definition_text bytes)
  pub definition : DefinitionView
  pub of_text : DefinitionFor (definition_text bytes) (arm64ec_options options) definition
  pub is : name ≡ definition.import_name

-- the bytes give this name, or are a definition without one
abbrev pub GivesName : List ℕ → LibraryOptionsView → Option (List ℕ) → Type 0
GivesName bytes options (Some name) = NamesDll bytes options name
GivesName bytes options None = IsRefusalOfDefinition bytes options NoName

-- The name that the native definition gives, if there is one, and no other name is given.
abbrev pub NativeNameBy : Option (List ℕ) → LibraryOptionsView → Option (List ℕ) → Option (List ℕ) →
    Type 0
NativeNameBy None options dll name = name ≡ None
NativeNameBy (Some bytes) options (Some given) name = name ≡ None
NativeNameBy (Some bytes) options None name = GivesName bytes options name

abbrev pub IsNativeName : Option (List ℕ) → LibraryOptionsView → Option (List ℕ) → Type 0
IsNativeName native options name = NativeNameBy native options options.dll name

-- The options with the name of the DLL: the one given; else that of the native definition; else
-- none is given, and it is the definition's (LLVM, "LibDriver.cpp" and "DlltoolDriver.cpp").
abbrev pub named : LibraryOptionsView → Option (List ℕ) → LibraryOptionsView
named options None = options
named options (Some name) = record options { dll = Some name }

-- The library of a definition, and of a native one.
pub record IsLibraryOfTexts (bytes : List ℕ) (native : Option (List ℕ))
    (options : LibraryOptionsView) (l : LibraryView) : Type 0 where
  pub own : Option (List ℕ)
  pub is_own : IsNativeName native options own
  pub library : IsLibraryNamed bytes native (named options own) l

-- the native definition has no meaning, so that it can give no name
pub record RefusesName (native : Option (List ℕ)) (options : LibraryOptionsView)
    (why : Refusal) : Type 0 where
  pub bytes : List ℕ
  pub given : native ≡ Some bytes
  pub none : options.dll ≡ None
  pub refused : IsRefusalOfDefinition bytes options why

-- the texts have no library under the name of the DLL
pub record RefusesTexts (bytes : List ℕ) (native : Option (List ℕ)) (options : LibraryOptionsView)
    (why : Arm64ecRefusal) : Type 0 where
  pub own : Option (List ℕ)
  pub is_own : IsNativeName native options own
  pub refused : IsRefusalNamed bytes native (named options own) why

-- a native definition is refused before the other is read, where it could give the name, or after
-- it
abbrev pub IsRefusalOfNative : List ℕ → Option (List ℕ) → LibraryOptionsView → Refusal → Type 0
IsRefusalOfNative bytes native options why =
    RefusesName native options why ⊎ RefusesTexts bytes native options (refusal.OfNative why)

-- why there is no library
abbrev pub IsRefusalOfTexts : List ℕ → Option (List ℕ) → LibraryOptionsView → Arm64ecRefusal →
    Type 0
IsRefusalOfTexts bytes native options (refusal.OfDefinition why) =
    RefusesTexts bytes native options (refusal.OfDefinition why)
IsRefusalOfTexts bytes native options (refusal.OfNative why) =
    IsRefusalOfNative bytes native options why
IsRefusalOfTexts bytes native options (refusal.OfImports why) =
    RefusesTexts bytes native options (refusal.OfImports why)
IsRefusalOfTexts bytes native options refusal.OutOfMemory = Unit {0}

-- why members have no archive
abbrev pub IsRefusalOfArchive : LibraryView → Refusal → Type 0
IsRefusalOfArchive l (Archive fault) = library_refusal l ≡ Some fault
IsRefusalOfArchive l OutOfMemory = Unit {0}
IsRefusalOfArchive l _ = ⊥
