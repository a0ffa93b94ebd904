-- Texts of module definition files with their members, and what they state of the exports that are
-- chosen.
use Rattle.std.specs.Prelude.{ℕ, not, List, [], ◌∷◌, slice_get, if◌then◌else◌, ◌≡◌, ◌+◌, ◌*◌, map}
use Rattle.std.specs.Prelude.{Some}
use Rattle.std.specs.List.{filter, filter_map}
use Rattle.implib.specs.Asked.{external_word, exports_of_text}
use Rattle.implib.specs.Definition.{DefinitionView, ExportView}
use Rattle.implib.specs.Text.Grammar.{Export}
use Rattle.implib.specs.Import.{Ask, Name, Ordinal}
use Rattle.implib.specs.Library.{LibraryView, LibraryOf}
use Rattle.implib.specs.Link.LinkedMembers.{LinkInput, chosen_exports}
use Rattle.implib.specs.Members.MemberSpec.{MemberView}
use Rattle.implib.specs.Renaming.{renamed}
use Rattle.implib.specs.declared.flavor.Flavor.{Flavor}
use Rattle.implib.specs.declared.machine.MachineType.{MachineType}
use Rattle.implib.specs.Link.Image.{Range, image_of}
use Rattle.implib.specs.Members.ImportTables.{thunk_width}
use Rattle.implib.specs.Members.Members.{AreMembersOf}
use Rattle.implib.specs.Formats.Object.{Object}
use Rattle.implib.specs.Text.Parses.{Parses}
use Rattle.implib.specs.Link.Placement.{Bases, Placed, placed_from}
use Rattle.implib_link.specs.Flavors.Program.{Ending, FlavorInput, InputImports, ask_in, symbol_in}
use Rattle.implib_link.specs.Flavors.Program.{thunks_of, ProgramLinks, IsProgramOf}

-- a text, the library that holds its definition, the library's members, and the numbers of the
-- exports that are chosen
pub record Source : Type 0 where
  pub text : List ℕ
  pub library : LibraryView
  pub members : List MemberView
  pub chosen : List ℕ

-- what is linked of a source
abbrev pub link_input_of : Source → LinkInput
link_input_of s =
    record { definition = s.library.definition; members = s.members; chosen = s.chosen }

-- an export, and what the text states of it
pub record Stated : Type 0 where
  pub export : ExportView
  pub statement : Export

-- exports and what is stated of them, at one index each
abbrev pub stated : List ExportView → List Export → List Stated
stated [] statements = []
stated (e ∷ exports) [] = []
stated (e ∷ exports) (s ∷ statements) =
    record { export = e; statement = s } ∷ stated exports statements

-- the exports of these numbers, which count those that are not private, with their statements
abbrev pub chosen_stated : DefinitionView → List Export → List ℕ → List Stated
chosen_stated d statements chosen =
    filter_map (slice_get
    (filter (λ s. not s.export.private) (stated (renamed d).exports statements))) chosen

-- what a statement asks the DLL for: an ordinal, or its first word with the ordinal as hint
abbrev pub ask_stated : Stated → Ask
ask_stated s =
    if s.export.no_name then Ordinal s.export.ordinal
    else Name (external_word s.statement) s.export.ordinal

abbrev pub source_of : List ℕ → LibraryView → List MemberView → List ℕ → Source
source_of text library members chosen =
    record { text = text; library = library; members = members; chosen = chosen }

-- Programs from texts: what linking the members of module definition files gives, in the
-- words of their statements.

-- a source in a flavour
pub record FlavorSource : Type 0 where
  pub flavor : Flavor
  pub source : Source

-- what `ImportLibrary::new` and then `members` promise when they succeed, for a flavour
pub record IsFlavorSource (machine : MachineType) (s : FlavorSource) : Type 0 where
  pub of_text : LibraryOf s.source.text machine s.flavor s.source.library
  pub made : AreMembersOf s.source.library.definition s.source.library.machine
      s.source.library.flavor
      s.source.members

-- what is linked of a source
abbrev pub input_of : FlavorSource → FlavorInput
input_of s = record { flavor = s.flavor; input = link_input_of s.source }

-- the same of a definition that its text means
abbrev pub input_parsed : DefinitionView → FlavorSource → FlavorInput
input_parsed d s = record {
  flavor = s.flavor;
  input = record { definition = d; members = s.source.members; chosen = s.source.chosen };
}

-- A text's chosen exports are imported by the descriptor at an address, with the address table at
-- this address, each under its name, and each asks for the word of its own statement.
pub record FlavorTextLinks (machine : MachineType) (image : List Range) (linked : List Placed)
    (descriptor table : ℕ) (s : FlavorSource) : Type 0 where
  pub parsed : DefinitionView
  pub parses : Parses s.source.text machine parsed
  pub imports : InputImports machine image linked descriptor table (input_parsed parsed s)
  pub statements : map (λ t. t.export)
      (chosen_stated parsed (exports_of_text parses.statements) s.source.chosen)
      ≡ chosen_exports parsed s.source.chosen
  pub names : map (symbol_in s.flavor) (chosen_exports parsed s.source.chosen)
      ≡ map (λ e. e.name) (chosen_exports parsed s.source.chosen)
  pub asks : map (ask_in s.flavor machine) (chosen_exports parsed s.source.chosen)
      ≡ map ask_stated (chosen_stated parsed (exports_of_text parses.statements) s.source.chosen)

-- What linking texts' members among objects gives: the program's link, and that of each text.
pub record FlavorTextsLink (machine : MachineType) (ending : Ending) (bases : Bases)
    (sources : List FlavorSource) (objects : List Object) : Type 0 where
  pub among : ProgramLinks machine ending bases (map input_of sources) objects
  pub imports : (i : ℕ) (s : FlavorSource) → slice_get sources i ≡ Some s →
      FlavorTextLinks machine (image_of machine bases (placed_from bases objects))
      (placed_from bases objects)
      (bases.descriptors + 20 * i)
      (bases.addresses + thunk_width machine * thunks_of i (map input_of sources)) s

-- a text with its library, its members and the chosen exports, in a flavour
abbrev pub flavor_source : Flavor → List ℕ → LibraryView → List MemberView → List ℕ → FlavorSource
flavor_source flavor text library members chosen =
    record { flavor = flavor; source = source_of text library members chosen }

-- Members are those of a text for a flavour's linker, and link as it says: whichever exports are
-- chosen, at whichever bases, among whichever objects of a program.
abbrev pub LinkInFlavor : List ℕ → MachineType → Flavor → List MemberView → Type 0
LinkInFlavor text machine flavor members =
    (library : LibraryView) × (LibraryOf text machine flavor library ×
    ((ending : Ending) (chosen : List ℕ) (bases : Bases) (objects : List Object) →
    IsProgramOf machine ending bases
    (input_of (flavor_source flavor text library members chosen) ∷ []) objects →
    FlavorTextsLink machine ending bases (flavor_source flavor text library members chosen ∷ [])
    objects))
