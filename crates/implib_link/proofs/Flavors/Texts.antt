-- Programs of both flavours from texts link as the texts state.
use Rattle.std.proofs.Common.{arith, ◌≡◌, ℕ, true, List, [], ◌∷◌, map, Some, refl, ap, sym, ◌∙◌, subst}
use Rattle.std.specs.Prelude.{not}
use Rattle.std.specs.List.{AllByRecursion, filter, list_all}
use Rattle.std.proofs.lemmas.Option.{slice_get-map}
use Rattle.implib.specs.declared.flavor.Flavor.{Flavor}
use Rattle.implib.specs.declared.flavor.Flavor.TheVariants.{Gnu, Msvc}
use Rattle.implib.specs.declared.machine.MachineType.{MachineType}
use Rattle.implib.specs.Asked.{EachAsksForItsWord, exports_of_text}
use Rattle.implib.specs.Definition.{DefinitionView, ExportView}
use Rattle.implib.specs.Text.Grammar.{Export}
use Rattle.implib.specs.Link.Image.{Range}
use Rattle.implib.specs.Import.{imp_symbol, is_empty_text, public_exports}
use Rattle.implib.specs.Members.ImportTables.{thunk_width}
use Rattle.implib.specs.Link.LinkedMembers.{chosen_exports}
use Rattle.implib.specs.Link.Load.{LoadsStrictly}
use Rattle.implib.specs.Members.Msvc.{short_import_symbol}
use Rattle.implib.specs.Formats.Object.{Object}
use Rattle.implib.specs.Link.Placement.{Bases, Placed}
use Rattle.implib.specs.Renaming.{renamed}
use Rattle.implib.specs.Link.Resolution.{definitions_of}
use Rattle.implib.proofs.Members.Asked.{asks_for_words}
use Rattle.implib.proofs.Link.LinkedMembers.{all_at}
use Rattle.implib.proofs.Text.SymbolNames.{parsed_lacks}
use Rattle.implib_link.specs.Flavors.Program.{Ending, FlavorInput, InputImports, IsMadeFor, SymbolsAt, SymbolsGet, ask_in, descriptor_in, dll_names_in, exports_chosen, symbol_in, IsProgramOf}
use Rattle.implib_link.specs.Flavors.Texts.{FlavorSource, FlavorTextLinks, FlavorTextsLink, IsFlavorSource, input_parsed, input_of, Stated, ask_stated, chosen_stated, stated}
use Rattle.implib_link.proofs.Flavors.Program.{program_links}
use Rattle.implib_link.proofs.Gnu.Texts.{all_chosen, all_filter, chosen_renamed, statements_are}
use Rattle.implib.specs.LibraryName.{NamesOfDll, names_for}
use Rattle.implib_link.proofs.Search.Lists.{all_from, each_of}

-- each asks for the word of its statement, in each flavour
AsksInFlavor : Flavor → MachineType → Stated → Type 0
AsksInFlavor flavor machine s = ask_in flavor machine s.export ≡ ask_stated s

each_asks : (flavor : Flavor) (machine : MachineType) (exports : List ExportView) (statements : List Export) → EachAsksForItsWord machine exports statements →
    AllByRecursion (AsksInFlavor flavor machine) (stated exports statements)
unfolding AsksInFlavor
each_asks flavor machine (e ∷ exports) (s ∷ statements) each = grind (arith, each_asks flavor machine exports statements each.1)
each_asks flavor machine exports statements each = cc

same_asks : (flavor : Flavor) (machine : MachineType) (xs : List Stated) → AllByRecursion (AsksInFlavor flavor machine) xs →
    map (ask_in flavor machine) (map (λ (s : Stated). s.export) xs) ≡ map ask_stated xs
unfolding AsksInFlavor
same_asks flavor machine [] all = refl
same_asks flavor machine (x ∷ xs) all = grind (arith, same_asks flavor machine xs all.1)

asks_are : (flavor : Flavor) (machine : MachineType) (d : DefinitionView) (statements : List Export) → EachAsksForItsWord machine (renamed d).exports statements → (chosen : List ℕ) →
    map (ask_in flavor machine) (chosen_exports d chosen) ≡ map ask_stated (chosen_stated d statements chosen)
asks_are flavor machine d statements each chosen =
    ap (map (ask_in flavor machine)) (sym (statements_are machine d statements each chosen))
    ∙ same_asks flavor machine (chosen_stated d statements chosen)
    (all_chosen (AsksInFlavor flavor machine) (filter (λ s. not s.export.private) (stated (renamed d).exports statements)) chosen
    (all_filter (AsksInFlavor flavor machine) (λ s. not s.export.private) (stated (renamed d).exports statements) (each_asks flavor machine (renamed d).exports statements each)))

-- Exports without symbol names are linked by their names.

all_empty : (exports : List ExportView) → list_all (λ e. is_empty_text e.symbol_name) exports ≡ true → AllByRecursion (λ e. e.symbol_name ≡ []) exports
all_empty exports all = all_from (λ (e : ExportView). e.symbol_name ≡ []) exports (λ e held. (grind (arith, each_of (λ (x : ExportView). is_empty_text x.symbol_name) e exports all held)))

plain_names : (exports : List ExportView) → AllByRecursion (λ e. e.symbol_name ≡ []) exports → map short_import_symbol exports ≡ map (λ e. e.name) exports
plain_names [] all = refl
plain_names (e ∷ exports) all = grind (arith, plain_names exports all.1)

names_are : (flavor : Flavor) (exports : List ExportView) → AllByRecursion (λ e. e.symbol_name ≡ []) exports → map (symbol_in flavor) exports ≡ map (λ e. e.name) exports
names_are Msvc exports all = plain_names exports all
names_are Gnu exports all = refl

-- A source's input is made.

sources_made : (machine : MachineType) (sources : List FlavorSource) → AllByRecursion (IsFlavorSource machine) sources → AllByRecursion (IsMadeFor machine) (map input_of sources)
sources_made machine [] are = tt
sources_made machine (s ∷ sources) are = (grind (arith, are.0), sources_made machine sources are.1)

-- an input's imports, by its exports and its DLL's name
record ImportsOf (machine : MachineType) (image : List Range) (linked : List Placed) (descriptor table : ℕ) (flavor : Flavor) (dll : NamesOfDll) (es : List ExportView) : Type 0 where
  top : definitions_of (descriptor_in flavor machine dll) linked ≡ record { name = descriptor_in flavor machine dll; address = Some descriptor } ∷ []
  loads : LoadsStrictly image (thunk_width machine) descriptor dll.text (map (ask_in flavor machine) es)
  table_located : loads.plain.addresses ≡ table
  entries : SymbolsAt linked (thunk_width machine) table (map (λ e. imp_symbol (symbol_in flavor e)) es)
  gets : SymbolsGet linked (thunk_width machine) table (map (λ e. imp_symbol (symbol_in flavor e)) es)

from_parts : (machine : MachineType) (image : List Range) (linked : List Placed) (descriptor table : ℕ) (p : FlavorInput) →
    ImportsOf machine image linked descriptor table p.flavor (dll_names_in p) (exports_chosen p) → InputImports machine image linked descriptor table p
from_parts machine image linked descriptor table p i = record { top = i.top; loads = i.loads; table_located = i.table_located; entries = i.entries; gets = i.gets }

same_imports : (machine : MachineType) (image : List Range) (linked : List Placed) (descriptor table : ℕ) (s : FlavorSource) (parsed : DefinitionView) →
    s.source.library ≡ record { definition = renamed parsed; machine = machine; flavor = s.flavor } →
    InputImports machine image linked descriptor table (input_of s) → InputImports machine image linked descriptor table (input_parsed parsed s)
same_imports machine image linked descriptor table s parsed held imports =
    let exports_same : chosen_exports s.source.library.definition s.source.chosen ≡ chosen_exports parsed s.source.chosen = chosen_renamed s.source.library parsed machine s.flavor s.source.chosen held in
    from_parts machine image linked descriptor table (input_parsed parsed s)
    (subst (λ (es : List ExportView). ImportsOf machine image linked descriptor table s.flavor (names_for s.flavor parsed) es) exports_same
    (subst (λ (names : NamesOfDll). ImportsOf machine image linked descriptor table s.flavor names (chosen_exports s.source.library.definition s.source.chosen)) (grind arith)
    (record { top = imports.top; loads = imports.loads; table_located = imports.table_located; entries = imports.entries; gets = imports.gets })))

text_links : (machine : MachineType) (image : List Range) (linked : List Placed) (descriptor table : ℕ) (s : FlavorSource) → IsFlavorSource machine s →
    InputImports machine image linked descriptor table (input_of s) → FlavorTextLinks machine image linked descriptor table s
text_links machine image linked descriptor table s is imports =
    let parsed : DefinitionView = is.of_text.parsed in
    let words = asks_for_words s.source.text machine parsed is.of_text.parses in
    let lacks = parsed_lacks s.source.text machine parsed is.of_text.parses in
    record {
      parsed = parsed;
      parses = is.of_text.parses;
      imports = same_imports machine image linked descriptor table s parsed is.of_text.held imports;
      statements = statements_are machine parsed (exports_of_text is.of_text.parses.statements) words s.source.chosen;
      names = names_are s.flavor (chosen_exports parsed s.source.chosen)
          (all_chosen (λ (e : ExportView). e.symbol_name ≡ []) (public_exports (renamed parsed)) s.source.chosen
          (all_filter (λ (e : ExportView). e.symbol_name ≡ []) (λ e. not e.private) (renamed parsed).exports (all_empty (renamed parsed).exports lacks.renamed)));
      asks = asks_are s.flavor machine parsed (exports_of_text is.of_text.parses.statements) words s.source.chosen;
    }

pub texts_link : (machine : MachineType) (ending : Ending) (bases : Bases) (sources : List FlavorSource) (objects : List Object) → AllByRecursion (IsFlavorSource machine) sources →
    IsProgramOf machine ending bases (map input_of sources) objects → FlavorTextsLink machine ending bases sources objects
texts_link machine ending bases sources objects are program =
    grind (arith, program_links machine ending bases (map input_of sources) objects (sources_made machine sources are) program, text_links, all_at, slice_get-map)
