-- The symbols that a file has for names, which a DLL for I386 does not say (this project's own;
-- docs/DLLTOOL.md, "From a DLL").
use Rattle.std.specs.Prelude.{◌≡◌, ℕ, Bool, true, false, ◌&&◌, ◌||◌, not, List, [], ◌∷◌, Option}
use Rattle.std.specs.Prelude.{None, Some, bytes_eq, codes, drop, if◌then◌else◌, map, take}
use Rattle.std.specs.List.{filter, flat_map}
use Rattle.std.specs.Str.{IsUtf8}
use Rattle.implib.specs.declared.flavor.Flavor.TheVariants.{Gnu}
use Rattle.implib.specs.declared.machine.MachineType.TheVariants.{I386}
use Rattle.implib.specs.Ascii.{begins_with, underscore}
use Rattle.implib.specs.Definition.{DefinitionView, ExportView}
use Rattle.implib.specs.Import.{Ask, Import, Name, Ordinal}
use Rattle.implib_libraries.specs.declared.of_dll.decorations.Decoration.{Decoration}
use Rattle.implib_libraries.specs.declared.of_dll.decorations.NotDecorations.{NotDecorations}
use Rattle.implib_libraries.specs.declared.of_dll.decorations.NotDecorations.TheVariants.{NoLibrary}
use Rattle.implib_libraries.specs.declared.of_dll.decorations.NotDecorations.TheVariants.{Text}
use Rattle.implib_read.specs.Classes.{AnAlias, AnImport, Class, DelayImport, Descriptor, Head}
use Rattle.implib_read.specs.Classes.{MemberRead, NotUnderstood, NullDescriptor, NullThunk, Other}
use Rattle.implib_read.specs.Classes.{Tail, library_in}
use Rattle.implib_read.specs.Symbols.{begins_imp}
use Rattle.implib_rules.specs.declared.library.Refusal.{Refusal}
use Rattle.implib_rules.specs.declared.library.Refusal.TheVariants.{Archive, Members, NoName}
use Rattle.implib_rules.specs.declared.library.Refusal.TheVariants.{NotUtf8, OutOfMemory, Syntax}
use Rattle.implib_rules.specs.Additions.{no_additions}
use Rattle.implib_rules.specs.Library.{DefinitionFor, IsRefusalOfText, definition_text}
use Rattle.implib_rules.specs.Linked.{NamingView}
use Rattle.implib_rules.specs.Options.{LibraryOptionsView}
use Rattle.implib_rules.specs.Utf8.{IsNotUtf8At}

-- a name that a DLL is asked for, and the symbol of a function that asks for it
pub record DecorationView : Type 0 where
  pub name : List ℕ
  pub symbol : List ℕ

-- the view of one of the program
abbrev pub decoration_view : Decoration → DecorationView
decoration_view d = record { name = d.name.items; symbol = d.symbol.items }

abbrev pub decoration : List ℕ → List ℕ → DecorationView
decoration name symbol = record { name = name; symbol = symbol }

-- those of a name, by each of these symbols
abbrev pub named : List ℕ → List (List ℕ) → List DecorationView
named name symbols = map (decoration name) symbols

-- the symbols of an import that are no addresses': data has none
abbrev pub functions : List (List ℕ) → List (List ℕ)
functions declared = filter (λ symbol. not (begins_imp symbol)) declared

-- those of what an import asks for
abbrev pub of_ask : List (List ℕ) → Ask → List DecorationView
of_ask symbols (Ordinal ordinal) = []
of_ask symbols (Name name hint) = named name symbols

-- those of an import
abbrev pub of_import : Import → List DecorationView
of_import i = of_ask (functions i.declared) i.ask

-- those of a member of a library
abbrev pub of_class : Class → List DecorationView
of_class (AnImport i) = of_import i.imports
of_class (AnAlias a) = []
of_class Descriptor = []
of_class NullDescriptor = []
of_class NullThunk = []
of_class Head = []
of_class Tail = []
of_class DelayImport = []
of_class Other = []
of_class NotUnderstood = []

-- those of the members of a library
abbrev pub of_members : List MemberRead → List DecorationView
of_members members = flat_map (λ m. of_class m.class) members

-- One of a definition, as it is read by dlltool's rules, and the one by LIB's, whose words are
-- symbols as they are. For example, of the word `_f@8` the symbol is `__f@8` by the first, for the
-- name `_f`; and `_f@8` by the second, for f.
abbrev pub both_ways : List ℕ → List ℕ → List DecorationView
both_ways name symbol =
    decoration name symbol
    ∷ (if begins_with underscore name && begins_with underscore symbol
    then decoration (drop 1 name) (drop 1 symbol) ∷ [] else [])

-- those of a symbol that asks for a name, if it is given
abbrev pub of_asked : List ℕ → Option (List ℕ) → List DecorationView
of_asked symbol None = []
of_asked symbol (Some name) = both_ways name symbol

-- those of an export that is linked, if it is an import of a function by name
abbrev pub of_export : ExportView → List DecorationView
of_export e = if e.private || (e.no_name || e.is_data) then [] else of_asked e.name e.asked_name

-- what a definition is read for: I386, under `-k`; its DLL may have any name
abbrev pub killing : NamingView
killing = record { is_plain = false; kills_at = true; exports_as = false; keeps_decorated = false }

abbrev pub reading : LibraryOptionsView
reading = record {
  machine = I386;
  flavor = Gnu;
  dll = Some (codes "a.dll");
  naming = killing;
  additions = no_additions;
}

-- those of a library
pub record OfLibrary (bytes : List ℕ) (decorations : List DecorationView) : Type 0 where
  pub members : List MemberRead
  pub read : library_in bytes ≡ Some members
  pub are : decorations ≡ of_members members

-- those of a definition
pub record OfDefinition (bytes : List ℕ) (decorations : List DecorationView) : Type 0 where
  pub utf8 : IsUtf8 (definition_text bytes)
  pub definition : DefinitionView
  pub of_text : DefinitionFor (definition_text bytes) reading definition
  pub are : decorations ≡ flat_map of_export definition.exports

-- whether bytes begin as an archive does
abbrev pub begins_archive : List ℕ → Bool
begins_archive bytes = bytes_eq (take 8 bytes) (codes "!<arch>\n")

-- those of a file that begins as an archive does, or does not
abbrev pub OfFile : Bool → List ℕ → List DecorationView → Type 0
OfFile true bytes decorations = OfLibrary bytes decorations
OfFile false bytes decorations = OfDefinition bytes decorations

-- The names of a file with their symbols, in its order: of a library where it begins as an archive
-- does, else of a definition.
abbrev pub AreDecorations : List ℕ → List DecorationView → Type 0
AreDecorations bytes decorations = OfFile (begins_archive bytes) bytes decorations

-- the text of the bytes is no definition, for this
pub record RefusesDefinition (bytes : List ℕ) (why : Refusal) : Type 0 where
  pub utf8 : IsUtf8 (definition_text bytes)
  pub refused : IsRefusalOfText (definition_text bytes) reading why

-- why bytes are no definition
abbrev pub IsNoDefinition : List ℕ → Refusal → Type 0
IsNoDefinition bytes (NotUtf8 position) = IsNotUtf8At (definition_text bytes) position
IsNoDefinition bytes (Syntax fault position) = RefusesDefinition bytes (Syntax fault position)
IsNoDefinition bytes NoName = RefusesDefinition bytes NoName
IsNoDefinition bytes (Members fault position) = RefusesDefinition bytes (Members fault position)
IsNoDefinition bytes (Archive fault) = RefusesDefinition bytes (Archive fault)
IsNoDefinition bytes OutOfMemory = Unit {0}

-- why a file has none: it begins as an archive does, and is none; or it is no definition; or memory
-- was refused
abbrev pub IsNoFile : Bool → List ℕ → NotDecorations → Type 0
IsNoFile true bytes NoLibrary = library_in bytes ≡ None
IsNoFile false bytes NoLibrary = ⊥
IsNoFile begins bytes (Text OutOfMemory) = Unit {0}
IsNoFile true bytes (Text why) = ⊥
IsNoFile false bytes (Text why) = IsNoDefinition bytes why

abbrev pub HasNoDecorations : List ℕ → NotDecorations → Type 0
HasNoDecorations bytes why = IsNoFile (begins_archive bytes) bytes why
