-- The import tables of both flavours without the address tables: what a loader reads that writes there.
use Rattle.std.proofs.Common.{◌≡◌, ℕ, suc, ◌+◌, ◌*◌, ◌<◌, ◌^◌, List, [], ◌∷◌, ◌++◌, length, map, refl, ap, sym, ◌∙◌, subst, arith, ◌⊎◌, false, None, inr, Some, codes, ◌-◌, ◌%◌}
use Rattle.std.specs.List.{AllByRecursion, filter}
use Rattle.std.proofs.lemmas.List.{length-map, append-nil, append_cancel_left, append_assoc}
use Rattle.implib.specs.declared.machine.MachineType.{MachineType}
use Rattle.implib.specs.declared.flavor.Flavor.TheVariants.{Gnu, Msvc}
use Rattle.implib.specs.declared.flavor.Flavor.{Flavor}
use Rattle.implib.specs.Definition.{ExportView}
use Rattle.implib.specs.Formats.Layout.{HasNoNul, entries_of, name_text, object_of}
use Rattle.implib.specs.Formats.Object.{Object, ObjectSection, ASymbol}
use Rattle.implib.specs.Import.{Ask}
use Rattle.implib.specs.Link.Image.{Range, contributions, filled, range_end, IsAdmissible, image_of}
use Rattle.implib.specs.Link.Load.{BytesAt}
use Rattle.implib.specs.Link.Placement.{Addresses, Bases, Placed, next_multiple, placed_from, SectionAddress, end_after, ends_after, group_named, section_address_of, section_addresses_of, Descriptors, DirectoryEnds, DllNames, Group, HintNames, Lookups, base_of, same_group}
use Rattle.implib.specs.Link.Resolution.{SymbolDefinition, definitions, definitions_of}
use Rattle.implib.specs.Members.Gnu.{head_object, export_object, relocations_of_thunk, tail_object}
use Rattle.implib.specs.Members.ImportTables.{thunk_width, zeros}
use Rattle.implib.specs.Members.MsvcObjects.{descriptor, null_thunk, null_descriptor}
use Rattle.implib.proofs.Link.Placement.{export, head}
use Rattle.implib.proofs.Link.Ranges.{Among, among_back, among_front}
use Rattle.implib_link.specs.Flavors.Expansion.{import_object, with_section_symbols}
use Rattle.implib_link.specs.Flavors.Program.{Ending, ask_in, has_tables, AreEnded, FlavorInput, IsMadeFor, imported_in, thunks_of, IsProgramOf, group_end, sections_end}
use Rattle.implib_link.proofs.Gnu.Filling.{LocatedBeside, block_beside, rest_beside, descriptor_beside, table_bounds, DescriptorBeside, DirectoryBeside, avoids_addresses, beside_of, keeps_beside, descriptors_beside, directory_ends_beside, dll_names_beside, ends_beside, hint_names_beside, lookups_beside, starts_beside, all_filled, can_run, left_alike, runs_once}
use Rattle.implib_link.proofs.Flavors.Block.{AreEven, FitsIn, Suits, behind_descriptor, definitions-in, definitions_in, ends_in, even_aligned, even_in, even_wide, objects_of, askings_stand, AllSuit, BlocksIn, CanLink, FlavorBlock, addresses_one, all_objects, descriptors_one, ends_all, ends_one, imported_of, rest_of, thunks_in, definitions-all, definitions_all, table_sum}
use Rattle.implib_link.proofs.Flavors.Expanded.{AreWide, ends_of_descriptor, wide_descriptor, descriptor_stands, taken_null}
use Rattle.implib.specs.LibraryName.{NamesOfDll}
use Rattle.implib_link.proofs.Gnu.Loaded.{Keeps, memory_can_be_read, memory_read, thunks_asked}
use Rattle.implib.specs.declared.coff.object.Relocation.{Relocation}
use Rattle.implib.specs.Formats.Constants.{image_relative, class_external}
use Rattle.implib_link.specs.Gnu.Fields.{absolute_width, places_at, table_places, table_places_in, LinkedCode}
use Rattle.implib_link.proofs.Gnu.Others.{no_group}
use Rattle.implib_link.proofs.Search.Lists.{all_from, none_among}
use Rattle.implib_link.proofs.Flavors.Inputs.{block_in, inputs_link, objects_behind}
use Rattle.implib_link.proofs.Flavors.Program.{kept_all, definitions_are, each, even, null_there, only, program_links, stand, suit, thunks_are, imported_are as imports_same, all_sized}
use Rattle.implib_link.specs.Directory.{DirectoryAt, Imported}
use Rattle.implib_link.specs.Gnu.Writing.{Writes, ReadsAndWrites, AreAlike, WritesAsItGoes}
use Rattle.implib.proofs.Link.LinkedBlocks.{ends, starts}
use Rattle.implib_link.specs.Gnu.Moves.{AreInMemory}
use Rattle.implib_link.proofs.Gnu.FieldsInMemory.{rests}
use Rattle.std.proofs.lemmas.Grind.{flat_map-append}
use Rattle.implib_link.proofs.Gnu.Packed.{ends_behind, end_behind, placed_parts, fills_objects, span}
use Rattle.implib_link.proofs.Flavors.NullDescriptor.{group_end-append}

module _ (machine : MachineType) (dll : NamesOfDll) (linked : List Placed) (beside : List Range)
    (starts : AllByRecursion (λ r. 0 < r.start) beside) (ends : AllByRecursion (λ r. range_end r < 2 ^ 31) beside) where
  -- one DLL's members for Microsoft's linker
  msvc_beside : (es : List ExportView) (b : Bases) (rest : List Object) → HasNoNul dll.text → AllByRecursion (FitsIn Msvc machine) es → AreWide machine b → (0 < b.addresses) → (b.addresses < 2 ^ 31) →
      LocatedBeside machine linked beside b (objects_of machine Msvc dll es rest) →
      DescriptorBeside beside (thunk_width machine) b.descriptors b.addresses (record { dll = dll.text; asks = map (ask_in Msvc machine) es })
      × LocatedBeside machine linked beside (ends_in machine Msvc dll b es) rest
  msvc_beside es b rest dll_text fit even above below located =
      let one = descriptor_stands machine dll linked beside starts ends b (behind_descriptor machine dll es rest) even located in
      let tables = askings_stand machine dll linked beside starts ends dll_text es (ends_of_descriptor dll b) rest fit (wide_descriptor machine dll b even) one.behind in (
        descriptor_beside machine beside starts ends b.descriptors b.lookups (next_multiple 2 b.hint_names) b.addresses dll.text (map (ask_in Msvc machine) es) dll_text above below
            one.bytes tables.lookups.plain one.name,
        tables.behind,
      )

  -- one DLL's members in a flavour
  one_beside : (ending : Ending) (flavor : Flavor) (es : List ExportView) (b : Bases) (rest : List Object) → HasNoNul dll.text → AllByRecursion (FitsIn flavor machine) es → Suits ending flavor → AreEven ending machine b → (0 < b.addresses) → (b.addresses < 2 ^ 31) →
      ((d : SymbolDefinition) → Among d (definitions_in machine flavor dll b es) → definitions_of d.name linked ≡ d ∷ []) →
      LocatedBeside machine linked beside b (objects_of machine flavor dll es rest) →
      DescriptorBeside beside (thunk_width machine) b.descriptors b.addresses (record { dll = dll.text; asks = map (ask_in flavor machine) es })
      × LocatedBeside machine linked beside (ends_in machine flavor dll b es) rest
  unfolding FitsIn
  one_beside ending Msvc es b rest dll_text fit suits even above below only located = msvc_beside es b rest dll_text fit (even_wide machine ending b suits even) above below located
  one_beside ending Gnu es b rest dll_text fit suits even above below only located = (
    block_beside machine dll es b rest linked beside starts ends dll_text fit (even_aligned machine ending b even) only located above below,
    rest_beside machine dll es b rest linked beside starts ends dll_text fit (even_aligned machine ending b even) only located,
  )

-- The objects of several DLLs, and zeros after their descriptors.
module _ (machine : MachineType) (ending : Ending) (rest : List Object) (linked : List Placed) (image beside : List Range)
    (image_starts : AllByRecursion (λ r. 0 < r.start) image) (image_ends : AllByRecursion (λ r. range_end r < 2 ^ 31) image)
    (starts : AllByRecursion (λ r. 0 < r.start) beside) (ends : AllByRecursion (λ r. range_end r < 2 ^ 31) beside) where
  pub all_beside : (blocks : List FlavorBlock) (b : Bases) → AllByRecursion (CanLink machine ending) blocks → AreEven ending machine b →
      ((d : SymbolDefinition) → Among d (definitions (placed_from b (all_objects machine blocks rest))) → definitions_of d.name linked ≡ d ∷ []) →
      BlocksIn machine linked image rest b blocks → LocatedBeside machine linked beside b (all_objects machine blocks rest) →
      (LocatedBeside machine linked beside (ends_all machine b blocks) rest → BytesAt beside (ends_all machine b blocks).descriptors (zeros 20)) →
      DirectoryBeside beside (thunk_width machine) b.descriptors b.addresses (map (imported_of machine) blocks)
  unfolding DirectoryBeside BlocksIn ends_all
  all_beside [] b fit even only links located null = null located
  all_beside (k ∷ blocks) b fit even only links located null =
      let es : List ExportView = k.exports in
      let behind : List Object = all_objects machine blocks rest in
      let last : Bases = ends_one machine b k in
      let own : List SymbolDefinition = definitions_in machine k.flavor k.dll b k.exports in
      let are : definitions (placed_from b (objects_of machine k.flavor k.dll es behind)) ≡ own ++ definitions (placed_from last behind) = definitions-in machine ending k.flavor k.dll b es behind fit.0.suits even in
      let every : (d : SymbolDefinition) → Among d (own ++ definitions (placed_from last behind)) → definitions_of d.name linked ≡ d ∷ [] = λ d m. only d (subst (Among d) (sym are) m) in
      let bounds = table_bounds machine image image_starts image_ends (map (ask_in k.flavor machine) es) links.0.loads.plain.addresses links.0.loads.plain.address_table in
      let begins : links.0.loads.plain.addresses ≡ b.addresses = links.0.table_located in
      let one = one_beside machine k.dll linked beside starts ends ending k.flavor es b behind fit.0.dll fit.0.exports fit.0.suits even
      (subst (λ n. 0 < n) begins bounds.0) (subst (λ n. n < 2 ^ 31) begins bounds.1)
      (λ d m. every d (among_front d own (definitions (placed_from last behind)) m)) located in
      let others = all_beside blocks last fit.1 (even_in machine ending k.flavor k.dll b es fit.0.suits even)
      (λ d m. every d (among_back d own (definitions (placed_from last behind)) m)) links.1 one.1 null in
      grind (arith, addresses_one, length-map, imported_of, descriptors_one)

-- How long the address tables are: an object behind those of DLLs, in the same group, is where they end.

abbrev behind_tables : Object
behind_tables = record {
  machine = 0;
  time = 0;
  optional_header_size = 0;
  characteristics = 0;
  sections = record { name = codes ".idata$5"; flags = 0; bytes = []; relocations = [] } ∷ [];
  entries = ASymbol (record { name = []; value = 0; section = 1; kind = 0; class = class_external }) ∷ [];
}

abbrev at_address : ℕ → List SymbolDefinition
at_address n = record { name = []; address = Some n } ∷ []

begins_at : (b : Bases) → definitions (placed_from b (behind_tables ∷ [])) ≡ at_address b.addresses
unfolding next_multiple
begins_at b = let same : b.addresses + (1 - b.addresses % 1) % 1 + 0 ≡ b.addresses = omega arith in ap at_address same

objects_split : (machine : MachineType) (blocks : List FlavorBlock) (rest : List Object) → all_objects machine blocks rest ≡ all_objects machine blocks [] ++ rest
objects_split machine [] rest = refl
objects_split machine (k ∷ blocks) rest = grind (arith, objects_split machine blocks rest, objects_behind, all_objects, objects_of, append_assoc)

addresses_all : (machine : MachineType) (b : Bases) (blocks : List FlavorBlock) → (ends_all machine b blocks).addresses ≡ b.addresses + thunk_width machine * thunks_in (length blocks) blocks
unfolding ends_all
addresses_all machine b [] = omega arith
addresses_all machine b (k ∷ blocks) = grind (arith, addresses_all machine (ends_one machine b k) blocks, ends_one, thunks_in, addresses_one, table_sum)

tables_end : (machine : MachineType) (ending : Ending) (blocks : List FlavorBlock) (b : Bases) → AllSuit ending blocks → AreEven ending machine b →
    group_end Addresses b.addresses (all_objects machine blocks (rest_of ending)) ≡ b.addresses + thunk_width machine * thunks_in (length blocks) blocks
unfolding group_end sections_end
tables_end machine ending blocks b suit even =
    let own : List Object = all_objects machine blocks [] in
    let defined : List SymbolDefinition = definitions_all machine b blocks in
    let last : Bases = ends_behind b own in
    let parts : definitions (placed_from b (all_objects machine blocks (behind_tables ∷ []))) ≡ defined ++ at_address last.addresses = grind (arith, objects_split, placed_parts, flat_map-append, definitions-all, suit, even, append-nil, begins_at) in
    let ends : last.addresses ≡ (ends_all machine b blocks).addresses = grind (arith, definitions-all, suit, even, begins_at, ends_all, ends_all, append_cancel_left) in
    (grind (arith, objects_split, rest_of, group_end-append, all_objects)) ∙ sym (end_behind Addresses b own) ∙ ends ∙ addresses_all machine b blocks

all_long : (machine : MachineType) (linked : List Placed) (ending : Ending) (blocks : List FlavorBlock) (b : Bases) → AllSuit ending blocks → AreEven ending machine b →
    length (filled b.addresses (contributions machine linked Addresses (placed_from b (all_objects machine blocks (rest_of ending))))) ≡ thunk_width machine * thunks_in (length blocks) blocks
unfolding span
all_long machine linked ending blocks b suit even = grind (arith, tables_end, fills_objects machine linked Addresses b (all_objects machine blocks (rest_of ending)) (all_sized machine ending blocks))

-- The import tables have no base relocations: members for GNU's linker.

-- none of the relocations stores an address whole
abbrev pub NoneAbsolute : MachineType → List Relocation → Type 0
NoneAbsolute machine relocations = AllByRecursion (λ r. absolute_width machine r.kind ≡ None) relocations

-- a section is of no group of the import tables, or none of its relocations stores an address whole
abbrev pub IsSteady : MachineType → ObjectSection → Type 0
IsSteady machine s = (group_named s.name ≡ None) ⊎ NoneAbsolute machine s.relocations

abbrev pub AllSteady : MachineType → Object → Type 0
AllSteady machine o = AllByRecursion (IsSteady machine) o.sections

none_placed : (machine : MachineType) (address : ℕ) (relocations : List Relocation) → NoneAbsolute machine relocations → places_at machine address relocations ≡ []
none_placed machine address [] all = refl
none_placed machine address (r ∷ relocations) all = rw all.0 (none_placed machine address relocations all.1)

first_none : (machine : MachineType) (b : Bases) (s : ObjectSection) (addresses : List SectionAddress) (sections : List ObjectSection) → IsSteady machine s → table_places_in machine addresses sections ≡ [] →
    table_places_in machine (section_address_of b s ∷ addresses) (s ∷ sections) ≡ []
first_none machine b s addresses sections h5 rest = grind (arith, none_placed)

sections_none : (machine : MachineType) (b : Bases) (sections : List ObjectSection) → AllByRecursion (IsSteady machine) sections →
    table_places_in machine (section_addresses_of b sections) sections ≡ []
sections_none machine b [] all = refl
sections_none machine b (s ∷ sections) all = cc (first_none machine b s (section_addresses_of (end_after b (section_address_of b s) (length s.bytes)) sections) sections all.0 (sections_none machine (end_after b (section_address_of b s) (length s.bytes)) sections all.1))

pub tables_none : (machine : MachineType) (b : Bases) (objects : List Object) → AllByRecursion (AllSteady machine) objects → table_places machine (placed_from b objects) ≡ []
tables_none machine b [] all = refl
tables_none machine b (o ∷ objects) all = rw (sections_none machine b o.sections all.0) (tables_none machine (ends_after b o.sections) objects all.1)

-- Objects without import tables are steady.

pub all_steady : (machine : MachineType) (objects : List Object) → AllByRecursion (AllSteady machine) (filter has_tables objects) → AllByRecursion (AllSteady machine) objects
unfolding has_tables
all_steady machine [] all = tt
all_steady machine (o ∷ objects) all = grind (arith, all_steady machine objects, all_from, no_group, none_among)

-- Members are steady.

pub relative_steady : (machine : MachineType) → absolute_width machine (image_relative machine) ≡ None
relative_steady machine = grind arith

pub head_steady : (machine : MachineType) (dll : NamesOfDll) → AllSteady machine (head machine dll)
unfolding head_object
head_steady machine dll = grind arith

pub exports_steady : (machine : MachineType) (dll : NamesOfDll) (es : List ExportView) (rest : List Object) → AllByRecursion (AllSteady machine) rest →
    AllByRecursion (AllSteady machine) (map (export machine dll) es ++ rest)
unfolding export_object relocations_of_thunk
exports_steady machine dll [] rest all = all
exports_steady machine dll (e ∷ es) rest all = (grind (arith, relative_steady), exports_steady machine dll es rest all)

-- The import tables of both flavours have no base relocations.

askings_steady : (machine : MachineType) (dll : NamesOfDll) (es : List ExportView) (rest : List Object) → AllByRecursion (AllSteady machine) rest → AllByRecursion (AllSteady machine) (behind_descriptor machine dll es rest)
unfolding with_section_symbols object_of null_thunk entries_of name_text import_object
askings_steady machine dll [] rest all = ((inr tt, (inr tt, tt)), all)
askings_steady machine dll (e ∷ es) rest all = (grind (arith, relative_steady), askings_steady machine dll es rest all)

blocks_steady : (machine : MachineType) (ending : Ending) (blocks : List FlavorBlock) → AllByRecursion (AllSteady machine) (all_objects machine blocks (rest_of ending))
unfolding with_section_symbols object_of descriptor entries_of name_text tail_object
blocks_steady machine ending [] = grind arith
blocks_steady machine ending (k ∷ blocks) = grind (arith, askings_steady, head_steady, exports_steady, blocks_steady machine ending blocks)

null_steady : (machine : MachineType) → AllSteady machine (taken_null machine)
unfolding with_section_symbols object_of null_descriptor entries_of name_text
null_steady machine = (inr tt, tt)

pub program_tables_none : (machine : MachineType) (ending : Ending) (bases : Bases) (inputs : List FlavorInput) (objects : List Object) → AllByRecursion (IsMadeFor machine) inputs →
    AreEnded ending machine inputs objects → table_places machine (placed_from bases objects) ≡ []
program_tables_none machine ending bases inputs objects made ended = cc (tables_none machine bases objects (all_steady machine objects (kept_all machine ending inputs objects made ended (AllSteady machine) (null_steady machine) (blocks_steady machine ending (map block_in inputs)))))

-- A loader that writes as it goes loads a program, as one that reads first.

keeps_twice : (first second third : List Range) → Keeps first second → Keeps second third → Keeps first third
unfolding Keeps
keeps_twice first second third one two a byte is = two a byte (one a byte is)

-- Whatever the flavours: the tables that a loader reads are beside the address tables, in memory that keeps the image.
module _ (machine : MachineType) (b : Bases) (objects : List Object) (admissible : IsAdmissible machine b objects) (imports : List Imported)
    (long : length (filled b.addresses (contributions machine (placed_from b objects) Addresses (placed_from b objects))) ≡ thunk_width machine * thunks_asked (length imports) imports)
    (directory : DirectoryBeside (beside_of machine b objects admissible) (thunk_width machine) b.descriptors b.addresses imports)
    (gives : List ℕ → Ask → List ℕ) (wide : (dll : List ℕ) (ask : Ask) → length (gives dll ask) ≡ thunk_width machine)
    (memory : List Range) (keeps : Keeps (image_of machine b (placed_from b objects)) memory) where
  abbrev beside : List Range
  beside = beside_of machine b objects admissible

  abbrev high : ℕ
  high = b.addresses + thunk_width machine * thunks_asked (length imports) imports

  kept : Keeps beside memory
  kept = keeps_twice beside (image_of machine b (placed_from b objects)) memory (keeps_beside machine b objects admissible) keeps

  pub run_once : (found : List Imported) (after : List Range) → WritesAsItGoes (thunk_width machine) gives b.descriptors memory found after →
      (found ≡ imports) × (after ≡ all_filled (thunk_width machine) gives b.addresses imports memory)
  run_once found after runs =
      runs_once beside b.addresses high (thunk_width machine) (avoids_addresses machine b objects admissible high (omega arith)) gives wide imports found b.descriptors b.addresses memory after kept
      (omega arith) (omega arith) directory runs

  pub run_can : WritesAsItGoes (thunk_width machine) gives b.descriptors memory imports (all_filled (thunk_width machine) gives b.addresses imports memory)
  run_can =
      can_run beside b.addresses high (thunk_width machine) (avoids_addresses machine b objects admissible high (omega arith)) gives wide imports b.descriptors b.addresses memory kept
      (omega arith) (omega arith) directory

  run_alike : (written : List Range) → Writes (image_of machine b (placed_from b objects)) (thunk_width machine) gives b.descriptors imports written →
      AreAlike (all_filled (thunk_width machine) gives b.addresses imports memory) (written ++ memory)
  run_alike written writes = grind (arith, keeps_beside machine b objects admissible, left_alike)

  -- and so it leaves what one does that reads first
  pub run_reads : (n : ℕ) → length imports ≡ n → DirectoryAt (image_of machine b (placed_from b objects)) (thunk_width machine) b.descriptors imports → (found : List Imported) (after : List Range) →
      WritesAsItGoes (thunk_width machine) gives b.descriptors memory found after →
      (found ≡ imports) × ((written : List Range) × (ReadsAndWrites memory (thunk_width machine) gives n b.descriptors written × AreAlike after (written ++ memory)))
  run_reads n count is_directory found after runs =
      grind (arith, run_once found after runs, memory_can_be_read (image_of machine b (placed_from b objects)) memory keeps (thunk_width machine) gives b.descriptors imports is_directory, memory_read, run_alike)

-- A loader that writes as it goes loads a program, as one that reads first.

thunks_same : (machine : MachineType) (i : ℕ) (inputs : List FlavorInput) → thunks_asked i (map (imported_in machine) inputs) ≡ thunks_of i inputs
thunks_same machine (suc i) (p ∷ inputs) = grind (arith, thunks_same machine i inputs, thunks_asked, length-map)
thunks_same machine i inputs = cc

module _ (machine : MachineType) (ending : Ending) (b : Bases) (inputs : List FlavorInput) (objects : List Object) (made : AllByRecursion (IsMadeFor machine) inputs) (program : IsProgramOf machine ending b inputs objects) where
  abbrev linked : List Placed
  linked = placed_from b objects

  abbrev dlls : List FlavorBlock
  dlls = map block_in inputs

  group_of : (group : Group) → same_group group DirectoryEnds ≡ false →
      BytesAt (beside_of machine b objects program.admissible) (base_of group b) (filled (base_of group b) (contributions machine linked group linked)) →
      BytesAt (beside_of machine b objects program.admissible) (base_of group b) (filled (base_of group b) (contributions machine linked group (placed_from b (all_objects machine dlls (rest_of ending)))))
  group_of group other located =
      subst (λ cs. BytesAt (beside_of machine b objects program.admissible) (base_of group b) (filled (base_of group b) cs)) ((stand machine ending b inputs objects made program).contributed group other) located

  located : LocatedBeside machine linked (beside_of machine b objects program.admissible) b (all_objects machine dlls (rest_of ending))
  located = grind (
    arith,
    group_of Descriptors refl (descriptors_beside machine b objects program.admissible),
    group_of Lookups refl (lookups_beside machine b objects program.admissible),
    group_of HintNames refl (hint_names_beside machine b objects program.admissible),
    group_of DllNames refl (dll_names_beside machine b objects program.admissible),
  )

  pub program_beside : DirectoryBeside (beside_of machine b objects program.admissible) (thunk_width machine) b.descriptors b.addresses (map (imported_in machine) inputs)
  program_beside =
      subst (DirectoryBeside (beside_of machine b objects program.admissible) (thunk_width machine) b.descriptors b.addresses) (imports_same machine inputs)
      (all_beside machine ending (rest_of ending) linked (image_of machine b linked) (beside_of machine b objects program.admissible) (starts machine b objects program.admissible) (ends machine b objects program.admissible)
      (starts_beside machine b objects program.admissible) (ends_beside machine b objects program.admissible) dlls b
      (inputs_link machine ending inputs made program.held.found (suit machine ending b inputs objects made program)) (even machine ending b inputs objects made program)
      (λ d m. only machine ending b inputs objects made program d (subst (Among d) (definitions_are machine ending b inputs objects made program) m))
      (each machine ending b inputs objects made program).imports located
      (λ last. null_there machine ending b inputs objects made program (beside_of machine b objects program.admissible) (directory_ends_beside machine b objects program.admissible) last.descriptors))

  -- the address tables' length
  pub table_filled : length (filled b.addresses (contributions machine (placed_from b objects) Addresses (placed_from b objects))) ≡ thunk_width machine * thunks_of (length inputs) inputs
  table_filled =
      ap (λ cs. length (filled b.addresses cs)) ((stand machine ending b inputs objects made program).contributed Addresses refl)
      ∙ all_long machine linked ending dlls b (suit machine ending b inputs objects made program) (even machine ending b inputs objects made program)
      ∙ ap (λ n. thunk_width machine * n) (ap (λ n. thunks_in n dlls) (length-map inputs block_in) ∙ thunks_are (length inputs) inputs)

  pub program_long : length (filled b.addresses (contributions machine (placed_from b objects) Addresses (placed_from b objects)))
      ≡ thunk_width machine * thunks_asked (length (map (imported_in machine) inputs)) (map (imported_in machine) inputs)
  program_long = grind (arith, table_filled, thunks_asked, length-map, thunks_same)

module _ (machine : MachineType) (ending : Ending) (image_base : ℕ) (b : Bases) (inputs : List FlavorInput) (objects : List Object) (codes : List LinkedCode) (targets : LinkedCode → ℕ → ℕ) (memory : List Range)
    (gives : List ℕ → Ask → List ℕ) (made : AllByRecursion (IsMadeFor machine) inputs) (program : IsProgramOf machine ending b inputs objects)
    (at : AreInMemory machine image_base (image_of machine b (placed_from b objects)) (placed_from b objects) codes targets memory)
    (wide_given : (dll : List ℕ) (ask : Ask) → length (gives dll ask) ≡ thunk_width machine) where
  keeps_program : Keeps (image_of machine b (placed_from b objects)) memory
  keeps_program = (rests machine image_base (image_of machine b (placed_from b objects)) (placed_from b objects) codes targets memory at (program_tables_none machine ending b inputs objects made program.held.ended)).image_kept

  pub writer_loads : (found : List Imported) (after : List Range) → WritesAsItGoes (thunk_width machine) gives b.descriptors memory found after →
      (found ≡ map (imported_in machine) inputs) × ((written : List Range) × (ReadsAndWrites memory (thunk_width machine) gives (length inputs) b.descriptors written × AreAlike after (written ++ memory)))
  writer_loads =
      run_reads machine b objects program.admissible (map (imported_in machine) inputs) (program_long machine ending b inputs objects made program) (program_beside machine ending b inputs objects made program) gives wide_given
      memory keeps_program (length inputs) (length-map inputs (imported_in machine)) (program_links machine ending b inputs objects made program).directory

  pub writer_ends : (after : List Range) × WritesAsItGoes (thunk_width machine) gives b.descriptors memory (map (imported_in machine) inputs) after
  writer_ends = (
    all_filled (thunk_width machine) gives b.addresses (map (imported_in machine) inputs) memory,
    run_can machine b objects program.admissible (map (imported_in machine) inputs) (program_long machine ending b inputs objects made program) (program_beside machine ending b inputs objects made program) gives wide_given
        memory keeps_program,
  )
