-- Where the descriptors and the address tables of blocks are, and the null descriptor after them.
use Rattle.std.proofs.Common.{◌≡◌, ℕ, suc, ◌+◌, ◌*◌, List, [], ◌∷◌, ◌++◌, length, map, refl, ap, sym, subst, arith, false, Some, inl, inr, ◌<◌, ◌^◌, None, if◌then◌else◌, zero}
use Rattle.std.proofs.Math.Nat.{mul-add}
use Rattle.std.proofs.lemmas.List.{append_assoc, map-append}
use Rattle.implib.specs.declared.machine.MachineType.{MachineType}
use Rattle.implib.specs.Definition.{ExportView}
use Rattle.implib.specs.Link.Image.{Range, range_end}
use Rattle.implib.specs.Link.Load.{BytesAt, LoadsStrictly, TextAt}
use Rattle.implib.specs.Members.ImportTables.{thunk_width, zeros}
use Rattle.implib.specs.Formats.Object.{Object}
use Rattle.implib.specs.Link.Placement.{Bases, Placed, next_multiple, ends_after, placed_from}
use Rattle.implib.proofs.Link.LinkedBlocks.{Block, blocks_objects}
use Rattle.implib.proofs.Link.Linked.{LocatedFrom, ends_of_block, aligned_block, all_of_stub, block_defined, block_definitions, block_links, block_targets, definitions-block, head_definition, rest_located}
use Rattle.implib.proofs.Link.Placement.{AreAligned, aligned, descriptors_end, ends_of_all, ends_of_export, ends_of_exports, ends_of_head, export, head, tail, after_head, names-after}
use Rattle.implib_link.specs.Flavors.Program.{null_descriptor, ClaimsNone, GetsAddress, claimed_names, names_claimed_in, Ending, IsFoundByName, OfLinker, OfMember, SymbolsAt, WhereMember, ask_in, descriptor_in, symbol_in}
use Rattle.implib.specs.LibraryName.{NamesOfDll}
use Rattle.std.specs.Prelude.{bytes_eq, slice_get}
use Rattle.std.specs.List.{AllByRecursion, list_any, flat_map}
use Rattle.implib.specs.Link.Linked.{IsDefinedOnce, AllFind, EntriesAt, FindsTarget, IsDefinedAt, undefined_names}
use Rattle.implib.specs.Link.Resolution.{SymbolDefinition, definitions_of, defined_by, definitions}
use Rattle.implib.proofs.Link.Ranges.{Among, among_first, among_later, among_back, among_front}
use Rattle.std.proofs.lemmas.Bool.{cases_Bool}
use Rattle.implib.specs.Members.Gnu.{archive_symbols, export_object, head_object, head_symbol, iname_symbol, tail_object}
use Rattle.implib.specs.declared.flavor.Flavor.{Flavor}
use Rattle.implib.specs.declared.flavor.Flavor.TheVariants.{Gnu, Msvc}
use Rattle.implib.specs.Import.{Ask, Name, Ordinal, imp_symbol}
use Rattle.implib.specs.Formats.Layout.{HasNoNul, entries_of, name_text, object_of}
use Rattle.implib.specs.Members.Msvc.{short_import_symbols, short_import_symbol}
use Rattle.implib.specs.Members.MsvcObjects.{descriptor, descriptor_symbol, null_descriptor_symbol, null_thunk, null_thunk_symbol}
use Rattle.implib.proofs.Link.Descriptors.{descriptor_loads}
use Rattle.implib.proofs.Link.Tables.{CanBeAsked}
use Rattle.implib.proofs.Link.Thunks.{StrictTableAt}
use Rattle.implib_link.specs.Flavors.Expansion.{Code, Constant, Data, Use, import_object, descriptor_symbol_by_name, stub_relocations_for, with_section_symbols}
use Rattle.implib_link.proofs.Flavors.Expanded.{AreWide, AskFits, ends_of_asking, ends_of_descriptor, ends_of_null_thunk, placed-asking, placed-descriptor, placed-null_thunk, placed_asking, placed_descriptor, taken_descriptor, taken_null_thunk, wide_aligned, wide_asking, wide_descriptor, wide_next, wide_null_thunk, TableFrom, asking_stands, descriptor_stands, null_thunk_stands}
use Rattle.implib_link.proofs.Gnu.Filling.{LocatedBeside, zero_table, table_with}
use Rattle.implib_link.specs.Directory.{DirectoryAt, Imported}

-- objects after blocks
pub objects_behind : (machine : MachineType) (blocks : List Block) (rest : List Object) →
    blocks_objects machine blocks [] ++ rest ≡ blocks_objects machine blocks rest
objects_behind machine [] rest = refl
objects_behind machine (k ∷ blocks) rest = grind (arith, head, append_assoc, export, tail, blocks_objects, objects_behind machine blocks rest)

-- the address tables' end after a block's thunks and its null thunk
pub addresses_after : (machine : MachineType) (dll : NamesOfDll) (b : Bases) (es : List ExportView) →
    (ends_of_all machine dll b es).addresses ≡ b.addresses + thunk_width machine * (length es + 1)
unfolding ends_of_exports
addresses_after machine dll b [] = omega arith
addresses_after machine dll b (e ∷ es) = grind (arith, addresses_after machine dll (ends_of_export machine dll b e) es)

-- the null descriptor is where the descriptors end
pub null_located : (machine : MachineType) (linked : List Placed) (image : List Range) (b : Bases) → AreAligned b →
    LocatedFrom machine linked image b (null_descriptor ∷ []) → BytesAt image b.descriptors (zeros 20)
null_located machine linked image b even located = grind (arith, aligned)

pub plus_sum : (a n : ℕ) → a + 20 + 20 * n ≡ a + 20 * suc n
plus_sum a n = omega arith

pub table_sum : (a w n m : ℕ) → a + w * n + w * m ≡ a + w * (n + m)
table_sum a w n m = let split : w * (n + m) ≡ w * n + w * m = mul-add w n m in omega arith

-- Names that objects do not claim, and the address of a name that is defined once.

claims_of : (name : List ℕ) (names : List (List ℕ)) → Among name names → (o : Object) → ClaimsNone names o → list_any (bytes_eq name) (claimed_names o) ≡ false
unfolding Among
claims_of name [] m o none = absurd m
claims_of name (n ∷ names) (inl e) o none = subst (λ t. list_any (bytes_eq t) (claimed_names o) ≡ false) (sym e) none.0
claims_of name (n ∷ names) (inr m) o none = claims_of name names m o none.1

pub all_claim : (name : List ℕ) (names : List (List ℕ)) → Among name names → (objects : List Object) → AllByRecursion (ClaimsNone names) objects →
    AllByRecursion (λ o. list_any (bytes_eq name) (claimed_names o) ≡ false) objects
all_claim name names m [] none = tt
all_claim name names m (o ∷ objects) none = (claims_of name names m o none.0, all_claim name names m objects none.1)

pub once_of : (linked : List Placed) (ds : List SymbolDefinition) → ((d : SymbolDefinition) → Among d ds → definitions_of d.name linked ≡ d ∷ []) →
    AllByRecursion (IsDefinedOnce linked) (map (λ (d : SymbolDefinition). d.name) ds)
once_of linked [] only = tt
once_of linked (d ∷ ds) only = ((d, only d (among_first d ds)), once_of linked ds (λ other m. only other (among_later other d ds m)))

-- an undefined symbol has the address of the only definition of its name
pub gets_address : (linked : List Placed) (name : List ℕ) (address : ℕ) →
    definitions_of name linked ≡ record { name = name; address = Some address } ∷ [] → GetsAddress linked name address
gets_address linked name address once p s held entry undefined named = rw (undefined, named, once) refl

-- The names that the members claim: those that they are listed for.

pub claimed_tail : (machine : MachineType) (dll : NamesOfDll) → claimed_names (tail machine dll) ≡ iname_symbol machine dll.linked ∷ []
unfolding tail_object
claimed_tail machine dll = refl

pub claimed_head : (machine : MachineType) (dll : NamesOfDll) → claimed_names (head machine dll) ≡ head_symbol machine dll.linked ∷ []
unfolding head_object
claimed_head machine dll = refl

pub claimed_export : (machine : MachineType) (dll : NamesOfDll) (e : ExportView) → claimed_names (export machine dll e) ≡ archive_symbols e
unfolding export_object
claimed_export machine dll e = elim (cases_Bool e.is_data) [ inl is ↦ rw is refl | inr is ↦ rw is refl ]

pub claimed_after : (machine : MachineType) (dll : NamesOfDll) (es : List ExportView) (rest : List Object) →
    flat_map claimed_names (after_head machine dll es rest) ≡ (flat_map archive_symbols es ++ iname_symbol machine dll.linked ∷ []) ++ flat_map claimed_names rest
claimed_after machine dll [] rest = ap (λ names. names ++ flat_map claimed_names rest) (claimed_tail machine dll)
claimed_after machine dll (e ∷ es) rest = grind (arith, claimed_after machine dll es rest, after_head, dll, claimed_export, append_assoc)

-- the names that placed objects claim are those of the objects
pub claimed_placed : (b : Bases) (objects : List Object) → names_claimed_in (placed_from b objects) ≡ flat_map claimed_names objects
claimed_placed b [] = refl
claimed_placed b (o ∷ objects) = ap (λ names. claimed_names o ++ names) (claimed_placed (ends_after b o.sections) objects)

-- The objects of one DLL, in either flavour, link among others.

-- Where tables may begin, by what ends the directory: at multiples of 4, or of a thunk's width.
abbrev pub AreEven : Ending → MachineType → Bases → Type 0
AreEven OfLinker machine b = AreAligned b
AreEven OfMember machine b = AreWide machine b

-- which members may be, and what is known of a library's null descriptor
abbrev pub Suits : Ending → Flavor → Type 0
Suits OfLinker flavor = flavor ≡ Gnu
Suits OfMember flavor = Unit {0}

abbrev pub NullDefined : Ending → List Placed → Type 0
NullDefined ending linked = WhereMember ending (IsDefinedAt linked null_descriptor_symbol)

pub even_aligned : (machine : MachineType) (ending : Ending) (b : Bases) → AreEven ending machine b → AreAligned b
even_aligned machine ending b even = grind (arith, wide_aligned)

pub even_wide : (machine : MachineType) (ending : Ending) (b : Bases) → Suits ending Msvc → AreEven ending machine b → AreWide machine b
even_wide machine ending b suits even = grind arith

-- what an export is used for
abbrev pub use_for : ExportView → Use
use_for e = if e.is_data then Data else if e.constant then Constant else Code

-- the object that an export's short import stands for
abbrev pub asking : MachineType → NamesOfDll → ExportView → Object
asking machine dll e = import_object machine dll.text (short_import_symbol e) (ask_in Msvc machine e) (use_for e)

-- the short imports' objects, the null thunk's after them, and other objects
abbrev pub behind_descriptor : MachineType → NamesOfDll → List ExportView → List Object → List Object
behind_descriptor machine dll es rest = map (asking machine dll) es ++ taken_null_thunk machine dll ∷ rest

-- the ends after them
unfoldable pub ends_of_askings : MachineType → Bases → List ExportView → Bases
ends_of_askings machine b [] = ends_of_null_thunk machine b
ends_of_askings machine b (e ∷ es) = ends_of_askings machine (ends_of_asking machine b (ask_in Msvc machine e)) es

pub wide_askings : (machine : MachineType) (b : Bases) (es : List ExportView) → AreWide machine b → AreWide machine (ends_of_askings machine b es)
unfolding ends_of_askings
wide_askings machine b [] even = wide_null_thunk machine b even
wide_askings machine b (e ∷ es) even = grind (arith, wide_askings machine (ends_of_asking machine b (ask_in Msvc machine e)) es (wide_asking machine b (ask_in Msvc machine e) even))

-- What they define.

abbrev pub use_definitions : ℕ → List ℕ → Use → List SymbolDefinition
use_definitions address symbol Code = record { name = symbol; address = None } ∷ []
use_definitions address symbol Data = []
use_definitions address symbol Constant = record { name = symbol; address = Some (address + 0) } ∷ []

abbrev pub imp_definition : Bases → List ℕ → SymbolDefinition
imp_definition b symbol = record { name = imp_symbol symbol; address = Some (b.addresses + 0) }

unfoldable pub defined_behind : MachineType → NamesOfDll → Bases → List ExportView → List SymbolDefinition
defined_behind machine dll b [] = record { name = null_thunk_symbol dll.linked; address = Some (b.addresses + 0) } ∷ []
defined_behind machine dll b (e ∷ es) =
    imp_definition b (short_import_symbol e)
    ∷ (use_definitions b.addresses (short_import_symbol e) (use_for e) ++ defined_behind machine dll (ends_of_asking machine b (ask_in Msvc machine e)) es)

defined_by_asking : (machine : MachineType) (dll : NamesOfDll) (b : Bases) (symbol : List ℕ) (ask : Ask) (use_kind : Use) →
    defined_by (placed_asking machine dll b symbol ask use_kind) ≡ imp_definition b symbol ∷ use_definitions b.addresses symbol use_kind
unfolding import_object
defined_by_asking machine dll b symbol ask use_kind = grind arith

definitions-behind : (machine : MachineType) (dll : NamesOfDll) (b : Bases) (es : List ExportView) (rest : List Object) → AreWide machine b →
    definitions (placed_from b (behind_descriptor machine dll es rest)) ≡ defined_behind machine dll b es ++ definitions (placed_from (ends_of_askings machine b es) rest)
unfolding defined_behind ends_of_askings with_section_symbols object_of null_thunk entries_of name_text
definitions-behind machine dll b [] rest even = ap definitions (placed-null_thunk machine dll b rest even)
definitions-behind machine dll b (e ∷ es) rest even = grind (arith, placed-asking, defined_by_asking, wide_asking, append_assoc, definitions-behind machine dll (ends_of_asking machine b (ask_in Msvc machine e)) es rest (wide_asking machine b (ask_in Msvc machine e) even))

names-behind : (machine : MachineType) (dll : NamesOfDll) (b : Bases) (es : List ExportView) →
    map (λ (d : SymbolDefinition). d.name) (defined_behind machine dll b es) ≡ flat_map short_import_symbols es ++ null_thunk_symbol dll.linked ∷ []
unfolding defined_behind
names-behind machine dll b [] = refl
names-behind machine dll b (e ∷ es) = grind (arith, ends_of_asking, append_assoc, names-behind machine dll (ends_of_asking machine b (ask_in Msvc machine e)) es)

unfoldable pub descriptor_definition : NamesOfDll → Bases → SymbolDefinition
descriptor_definition dll b = record { name = descriptor_symbol dll.linked; address = Some (b.descriptors + 0) }

-- One DLL's objects, in its flavour.

abbrev pub objects_of : MachineType → Flavor → NamesOfDll → List ExportView → List Object → List Object
objects_of machine Msvc dll es rest = taken_descriptor machine dll ∷ behind_descriptor machine dll es rest
objects_of machine Gnu dll es rest = head machine dll ∷ after_head machine dll es rest

abbrev pub ends_in : MachineType → Flavor → NamesOfDll → Bases → List ExportView → Bases
ends_in machine Msvc dll b es = ends_of_askings machine (ends_of_descriptor dll b) es
ends_in machine Gnu dll b es = ends_of_block machine dll b es

abbrev pub definitions_in : MachineType → Flavor → NamesOfDll → Bases → List ExportView → List SymbolDefinition
definitions_in machine Msvc dll b es = descriptor_definition dll b ∷ defined_behind machine dll (ends_of_descriptor dll b) es
definitions_in machine Gnu dll b es = block_definitions machine dll b es

-- the symbols that its members are listed for
abbrev pub symbols_of : MachineType → Flavor → NamesOfDll → List ExportView → List (List ℕ)
symbols_of machine Msvc dll es = descriptor_symbol dll.linked ∷ (flat_map short_import_symbols es ++ null_thunk_symbol dll.linked ∷ [])
symbols_of machine Gnu dll es = head_symbol machine dll.linked ∷ (flat_map archive_symbols es ++ iname_symbol machine dll.linked ∷ [])

pub definitions-in : (machine : MachineType) (ending : Ending) (flavor : Flavor) (dll : NamesOfDll) (b : Bases) (es : List ExportView) (rest : List Object) → Suits ending flavor → AreEven ending machine b →
    definitions (placed_from b (objects_of machine flavor dll es rest)) ≡ definitions_in machine flavor dll b es ++ definitions (placed_from (ends_in machine flavor dll b es) rest)
unfolding descriptor_definition with_section_symbols object_of descriptor entries_of name_text
definitions-in machine ending flavor dll b es rest suits even = grind (arith, even_wide, placed-descriptor, definitions-behind, ends_of_descriptor, wide_descriptor, definitions-block, even_aligned)

gnu_exports_wide : (machine : MachineType) (dll : NamesOfDll) (b : Bases) (es : List ExportView) → AreWide machine b → AreWide machine (ends_of_all machine dll b es)
unfolding ends_of_exports
gnu_exports_wide machine dll b [] even = grind arith
gnu_exports_wide machine dll b (e ∷ es) even =
    grind (arith, gnu_exports_wide machine dll (ends_of_export machine dll b e) es (record { descriptors = even.descriptors; lookups = wide_next machine b.lookups even.lookups; addresses = wide_next machine b.addresses even.addresses }))

pub even_in : (machine : MachineType) (ending : Ending) (flavor : Flavor) (dll : NamesOfDll) (b : Bases) (es : List ExportView) → Suits ending flavor → AreEven ending machine b →
    AreEven ending machine (ends_in machine flavor dll b es)
even_in machine ending flavor dll b es suits even = grind (arith, aligned_block, wide_askings, ends_of_descriptor, wide_descriptor, gnu_exports_wide, ends_of_head)

-- what an export asks can be asked
unfoldable pub FitsIn : Flavor → MachineType → ExportView → Type 0
FitsIn Msvc machine e = AskFits (ask_in Msvc machine e)
FitsIn Gnu machine e = CanBeAsked machine e

-- the symbols of GNU's entries
symbols_from : (linked : List Placed) (width address : ℕ) (es : List ExportView) → EntriesAt linked width address es →
    SymbolsAt linked width address (map (λ e. imp_symbol (symbol_in Gnu e)) es)
unfolding EntriesAt SymbolsAt
symbols_from linked width address [] entries = tt
symbols_from linked width address (e ∷ es) entries = (entries.0, symbols_from linked width (address + width) es entries.1)

-- What is known of one DLL's objects among all that is linked, with other objects after them.
pub record OneLinks (machine : MachineType) (linked : List Placed) (image : List Range) (flavor : Flavor) (dll : NamesOfDll) (es : List ExportView) (b : Bases) (rest : List Object) : Type 0 where
  pub top : definitions_of (descriptor_in flavor machine dll) linked ≡ record { name = descriptor_in flavor machine dll; address = Some b.descriptors } ∷ []
  pub loads : LoadsStrictly image (thunk_width machine) b.descriptors dll.text (map (ask_in flavor machine) es)
  pub table_located : loads.plain.addresses ≡ b.addresses
  pub entries : SymbolsAt linked (thunk_width machine) b.addresses (map (λ e. imp_symbol (symbol_in flavor e)) es)
  pub rest_located : LocatedFrom machine linked image (ends_in machine flavor dll b es) rest
  pub defined : AllByRecursion (IsDefinedAt linked) (undefined_names (placed_from (ends_in machine flavor dll b es) rest)) →
      AllByRecursion (IsDefinedAt linked) (undefined_names (placed_from b (objects_of machine flavor dll es rest)))
  pub targets : AllByRecursion (AllFind linked) (placed_from (ends_in machine flavor dll b es) rest) →
      AllByRecursion (AllFind linked) (placed_from b (objects_of machine flavor dll es rest))

module _ (machine : MachineType) (dll : NamesOfDll) (linked : List Placed) (image : List Range)
    (starts : AllByRecursion (λ r. 0 < r.start) image) (ends : AllByRecursion (λ r. range_end r < 2 ^ 31) image) (dll_text : HasNoNul dll.text) where
  -- the tables of the short imports and the null thunk
  pub record AskingsStand (b : Bases) (es : List ExportView) (rest : List Object) : Type 0 where
    pub lookups : StrictTableAt image (thunk_width machine) b.lookups (map (ask_in Msvc machine) es)
    pub behind : LocatedBeside machine linked image (ends_of_askings machine b es) rest
    pub table : TableFrom machine linked image b (behind_descriptor machine dll es rest) →
        StrictTableAt image (thunk_width machine) b.addresses (map (ask_in Msvc machine) es) × TableFrom machine linked image (ends_of_askings machine b es) rest

  pub askings_stand : (es : List ExportView) (b : Bases) (rest : List Object) → AllByRecursion (FitsIn Msvc machine) es → AreWide machine b →
      LocatedBeside machine linked image b (behind_descriptor machine dll es rest) → AskingsStand b es rest
  unfolding ends_of_askings FitsIn
  askings_stand [] b rest fit even located =
      let null = null_thunk_stands machine dll linked image starts ends b rest even located in
      record { lookups = zero_table machine image b.lookups null.lookup; behind = null.behind; table = λ table. let addresses = null.table table in (zero_table machine image b.addresses addresses.0, addresses.1) }
  askings_stand (e ∷ es) b rest fit even located =
      let ask : Ask = ask_in Msvc machine e in
      let one = asking_stands machine dll linked image starts ends b (short_import_symbol e) ask (use_for e) (behind_descriptor machine dll es rest) fit.0 even located in
      let others = askings_stand es (ends_of_asking machine b ask) rest fit.1 (wide_asking machine b ask even) one.behind in
      record {
        lookups = table_with image (thunk_width machine) b.lookups ask (map (ask_in Msvc machine) es) one.lookup others.lookups;
        behind = others.behind;
        table = λ table. grind (arith, table_with image (thunk_width machine) b.addresses ask (map (ask_in Msvc machine) es) (one.table table).0 (others.table (one.table table).1).0);
      }

  -- each export's address is its own entry
  imps_at : (es : List ExportView) (b : Bases) → ((d : SymbolDefinition) → Among d (defined_behind machine dll b es) → definitions_of d.name linked ≡ d ∷ []) →
      SymbolsAt linked (thunk_width machine) b.addresses (map (λ e. imp_symbol (symbol_in Msvc e)) es)
  unfolding SymbolsAt defined_behind
  imps_at [] b only = tt
  imps_at (e ∷ es) b only =
      let own : SymbolDefinition = imp_definition b (short_import_symbol e) in
      let plain : b.addresses + 0 ≡ b.addresses = omega arith in (
        subst (λ n. definitions_of (imp_symbol (short_import_symbol e)) linked ≡ record { name = imp_symbol (short_import_symbol e); address = Some n } ∷ []) plain
            (only own (among_first own _)),
        imps_at es (ends_of_asking machine b (ask_in Msvc machine e))
            (λ d m. only d (among_later d own _ (among_back d (use_definitions b.addresses (short_import_symbol e) (use_for e)) _ m))),
      )

  -- the null thunk's definition is the last one
  thunk_defined : (es : List ExportView) (b : Bases) →
      (address : ℕ) × Among (record { name = null_thunk_symbol dll.linked; address = Some address }) (defined_behind machine dll b es)
  unfolding defined_behind
  thunk_defined [] b = (b.addresses + 0, among_first _ _)
  thunk_defined (e ∷ es) b = grind (arith, thunk_defined es (ends_of_asking machine b (ask_in Msvc machine e)), ends_of_asking, among_later, among_back)

  -- each short import's object needs the descriptor's symbol alone, and the null thunk's none
  undefined_by_asking : (b : Bases) (symbol : List ℕ) (ask : Ask) (use_kind : Use) (others : List Placed) →
      undefined_names (placed_asking machine dll b symbol ask use_kind ∷ others) ≡ descriptor_symbol_by_name dll.text ∷ undefined_names others
  unfolding import_object
  undefined_by_asking b symbol ask use_kind others = grind arith

  undefined_behind : (es : List ExportView) (b : Bases) (rest : List Object) → AreWide machine b → IsDefinedAt linked (descriptor_symbol_by_name dll.text) →
      AllByRecursion (IsDefinedAt linked) (undefined_names (placed_from (ends_of_askings machine b es) rest)) →
      AllByRecursion (IsDefinedAt linked) (undefined_names (placed_from b (behind_descriptor machine dll es rest)))
  unfolding ends_of_askings with_section_symbols object_of null_thunk entries_of name_text
  undefined_behind [] b rest even once others = subst (AllByRecursion (IsDefinedAt linked)) (sym (ap undefined_names (placed-null_thunk machine dll b rest even))) others
  undefined_behind (e ∷ es) b rest even once others = grind (
    arith,
    ends_of_asking machine b (ask_in Msvc machine e),
    placed-asking machine dll b (short_import_symbol e) (ask_in Msvc machine e) (use_for e) (behind_descriptor machine dll es rest) even,
    undefined_by_asking b (short_import_symbol e) (ask_in Msvc machine e) (use_for e) (placed_from (ends_of_asking machine b (ask_in Msvc machine e)) (behind_descriptor machine dll es rest)),
    undefined_behind es (ends_of_asking machine b (ask_in Msvc machine e)) rest (wide_asking machine b (ask_in Msvc machine e) even) once others,
  )

  -- The relocations find their targets in the sections of their own objects.

  stub_finds : (b : Bases) (symbol : List ℕ) (ask : Ask) (use_kind : Use) (relocated_for : Use) →
      AllByRecursion (FindsTarget linked (placed_asking machine dll b symbol ask use_kind)) (stub_relocations_for machine relocated_for)
  unfolding import_object
  stub_finds b symbol ask use_kind Code =
      all_of_stub machine dll linked machine (FindsTarget linked (placed_asking machine dll b symbol ask use_kind)) (λ offset number. (b.addresses + 0, refl))
  stub_finds b symbol ask use_kind relocated_for = tt

  asking_finds : (b : Bases) (symbol : List ℕ) (ask : Ask) (use_kind : Use) → AllFind linked (placed_asking machine dll b symbol ask use_kind)
  unfolding import_object
  asking_finds b symbol (Ordinal n) use_kind = (stub_finds b symbol (Ordinal n) use_kind use_kind, (tt, (tt, tt)))
  asking_finds b symbol (Name text hint) use_kind = (
    stub_finds b symbol (Name text hint) use_kind use_kind,
    (((next_multiple 2 b.hint_names + 0, refl), tt), (((next_multiple 2 b.hint_names + 0, refl), tt), (tt, tt))),
  )

  targets_behind : (es : List ExportView) (b : Bases) (rest : List Object) → AreWide machine b →
      AllByRecursion (AllFind linked) (placed_from (ends_of_askings machine b es) rest) →
      AllByRecursion (AllFind linked) (placed_from b (behind_descriptor machine dll es rest))
  unfolding ends_of_askings with_section_symbols object_of null_thunk entries_of name_text
  targets_behind [] b rest even others = grind (arith, placed-null_thunk machine dll b rest even)
  targets_behind (e ∷ es) b rest even others =
      let ask : Ask = ask_in Msvc machine e in
      subst (AllByRecursion (AllFind linked)) (sym (placed-asking machine dll b (short_import_symbol e) ask (use_for e) (behind_descriptor machine dll es rest) even))
      (asking_finds b (short_import_symbol e) ask (use_for e), targets_behind es (ends_of_asking machine b ask) rest (wide_asking machine b ask even) others)

  descriptor_finds : (b : Bases) → AllFind linked (placed_descriptor machine dll b)
  unfolding with_section_symbols object_of descriptor entries_of name_text
  descriptor_finds b = (((next_multiple 2 b.hint_names + 0, refl), ((b.lookups + 0, refl), ((b.addresses + 0, refl), tt))), (tt, (tt, (tt, tt))))

  -- one DLL's members for Microsoft's linker
  msvc_links : (es : List ExportView) (b : Bases) (rest : List Object) → AllByRecursion (FitsIn Msvc machine) es → AreWide machine b →
      descriptor_symbol_by_name dll.text ≡ descriptor_symbol dll.linked → IsDefinedAt linked null_descriptor_symbol →
      ((d : SymbolDefinition) → Among d (definitions_in machine Msvc dll b es) → definitions_of d.name linked ≡ d ∷ []) →
      LocatedFrom machine linked image b (objects_of machine Msvc dll es rest) → OneLinks machine linked image Msvc dll es b rest
  unfolding descriptor_definition with_section_symbols object_of descriptor entries_of name_text
  msvc_links es b rest fit even found null only located =
      let later : Bases = ends_of_descriptor dll b in
      let wide : AreWide machine (ends_of_descriptor dll b) = wide_descriptor machine dll b even in
      let one = descriptor_stands machine dll linked image starts ends b (behind_descriptor machine dll es rest) even
      (record { descriptors = located.descriptors; lookups = located.lookups; hint_names = located.hint_names; dll_names = located.dll_names }) in
      let tables = askings_stand es later rest fit wide one.behind in
      let addresses = tables.table (one.table located.addresses) in
      let plain : b.descriptors + 0 ≡ b.descriptors = omega arith in
      let own : SymbolDefinition = descriptor_definition dll b in
      let behind_only = λ (d : SymbolDefinition) (m : Among d (defined_behind machine dll (ends_of_descriptor dll b) es)). only d (among_later d own (defined_behind machine dll (ends_of_descriptor dll b) es) m) in
      let top : definitions_of (descriptor_symbol dll.linked) linked ≡ record { name = descriptor_symbol dll.linked; address = Some b.descriptors } ∷ [] = rw (only own (among_first own _), plain) in
      let thunk = thunk_defined es later in
      let name_text : TextAt image (next_multiple 2 b.hint_names) dll.text = record { no_nul = dll_text; located = one.name } in
      let loaded = descriptor_loads machine image starts ends b.descriptors b.lookups b.addresses (next_multiple 2 b.hint_names) dll.text (map (ask_in Msvc machine) es)
      one.bytes tables.lookups addresses.0 name_text in
      record {
        top = top;
        loads = loaded.loads;
        table_located = loaded.table_located;
        entries = imps_at es later behind_only;
        rest_located = record { descriptors = tables.behind.descriptors; lookups = tables.behind.lookups; addresses = addresses.1; hint_names = tables.behind.hint_names; dll_names = tables.behind.dll_names };
        defined = λ others. grind (
          arith,
          placed-descriptor machine dll b (behind_descriptor machine dll es rest) even,
          refl,
          undefined_behind es later rest wide (subst (IsDefinedAt linked) (sym found) (b.descriptors, top)) others,
        );
        targets = λ others. grind (arith, placed-descriptor machine dll b (behind_descriptor machine dll es rest) even, descriptor_finds b, targets_behind es later rest wide others);
      }

  -- one DLL's members for GNU's linker
  gnu_links : (es : List ExportView) (b : Bases) (rest : List Object) → AllByRecursion (FitsIn Gnu machine) es → AreAligned b →
      ((d : SymbolDefinition) → Among d (definitions_in machine Gnu dll b es) → definitions_of d.name linked ≡ d ∷ []) →
      LocatedFrom machine linked image b (objects_of machine Gnu dll es rest) → OneLinks machine linked image Gnu dll es b rest
  unfolding FitsIn
  gnu_links es b rest fit even only located =
      let block = block_links machine dll es b rest linked image starts ends dll_text fit even only located in
      record {
        top = block.strictly.head;
        loads = block.strictly.loads;
        table_located = block.addresses;
        entries = grind (arith, symbols_from);
        rest_located = rest_located machine dll es b rest linked image starts ends dll_text fit even only located;
        defined = block_defined machine dll es b rest linked image starts ends dll_text fit even only located;
        targets = block_targets machine dll es b rest linked image starts ends dll_text fit even only located;
      }

  -- one DLL's members in a flavour
  pub one_links : (ending : Ending) (flavor : Flavor) (es : List ExportView) (b : Bases) (rest : List Object) → AllByRecursion (FitsIn flavor machine) es → Suits ending flavor → AreEven ending machine b →
      IsFoundByName flavor dll → NullDefined ending linked →
      ((d : SymbolDefinition) → Among d (definitions_in machine flavor dll b es) → definitions_of d.name linked ≡ d ∷ []) →
      LocatedFrom machine linked image b (objects_of machine flavor dll es rest) → OneLinks machine linked image flavor dll es b rest
  one_links ending Msvc es b rest fit suits even found null only located =
      msvc_links es b rest fit (even_wide machine ending b suits even) found (grind arith) only located
  one_links ending Gnu es b rest fit suits even found null only located = gnu_links es b rest fit (even_aligned machine ending b even) only located

-- The objects of several DLLs, each in its flavour, link among others.

-- what a DLL's objects are made of
pub record FlavorBlock : Type 0 where
  pub flavor : Flavor
  pub dll : NamesOfDll
  pub exports : List ExportView

-- the objects of DLLs, and others after them
abbrev pub all_objects : MachineType → List FlavorBlock → List Object → List Object
all_objects machine [] rest = rest
all_objects machine (k ∷ blocks) rest = objects_of machine k.flavor k.dll k.exports (all_objects machine blocks rest)

-- what is behind the objects of all DLLs
abbrev pub rest_of : Ending → List Object
rest_of OfLinker = null_descriptor ∷ []
rest_of OfMember = []

-- a block whose texts have no NUL, whose exports can be asked, and whose descriptor linkers find
pub record CanLink (machine : MachineType) (ending : Ending) (k : FlavorBlock) : Type 0 where
  pub dll : HasNoNul k.dll.text
  pub exports : AllByRecursion (FitsIn k.flavor machine) k.exports
  pub found : IsFoundByName k.flavor k.dll
  pub suits : Suits ending k.flavor

-- linkers of this kind take all members
abbrev pub AllSuit : Ending → List FlavorBlock → Type 0
AllSuit ending blocks = AllByRecursion (λ k. Suits ending k.flavor) blocks

abbrev pub ends_one : MachineType → Bases → FlavorBlock → Bases
ends_one machine b k = ends_in machine k.flavor k.dll b k.exports

-- the ends after the objects of DLLs
unfoldable pub ends_all : MachineType → Bases → List FlavorBlock → Bases
ends_all machine b [] = b
ends_all machine b (k ∷ blocks) = ends_all machine (ends_one machine b k) blocks

unfoldable pub definitions_all : MachineType → Bases → List FlavorBlock → List SymbolDefinition
definitions_all machine b [] = []
definitions_all machine b (k ∷ blocks) = definitions_in machine k.flavor k.dll b k.exports ++ definitions_all machine (ends_one machine b k) blocks

pub definitions-all : (machine : MachineType) (ending : Ending) (b : Bases) (blocks : List FlavorBlock) (rest : List Object) → AllSuit ending blocks → AreEven ending machine b →
    definitions (placed_from b (all_objects machine blocks rest)) ≡ definitions_all machine b blocks ++ definitions (placed_from (ends_all machine b blocks) rest)
unfolding definitions_all ends_all
definitions-all machine ending b [] rest suit even = refl
definitions-all machine ending b (k ∷ blocks) rest suit even = grind (arith, definitions-in, even_in, append_assoc, definitions-all machine ending (ends_one machine b k) blocks rest suit.1 (even_in machine ending k.flavor k.dll b k.exports suit.0 even))

pub names-all : (machine : MachineType) (b : Bases) (blocks : List FlavorBlock) →
    map (λ (d : SymbolDefinition). d.name) (definitions_all machine b blocks) ≡ flat_map (λ (k : FlavorBlock). symbols_of machine k.flavor k.dll k.exports) blocks
unfolding definitions_all descriptor_definition block_definitions head_definition
names-all machine b [] = refl
names-all machine b (k ∷ blocks) = grind (arith, map-append, names-all machine (ends_one machine b k) blocks, names-behind, ends_of_descriptor, names-after)

-- The ends of one block.

askings_descriptors : (machine : MachineType) (b : Bases) (es : List ExportView) → b.descriptors ≡ (ends_of_askings machine b es).descriptors
unfolding ends_of_askings
askings_descriptors machine b [] = refl
askings_descriptors machine b (e ∷ es) = askings_descriptors machine (ends_of_asking machine b (ask_in Msvc machine e)) es

pub descriptors_one : (machine : MachineType) (flavor : Flavor) (dll : NamesOfDll) (b : Bases) (es : List ExportView) → b.descriptors + 20 ≡ (ends_in machine flavor dll b es).descriptors
descriptors_one machine flavor dll b es = grind (arith, askings_descriptors, ends_of_descriptor, descriptors_end, ends_of_head)

askings_addresses : (machine : MachineType) (b : Bases) (es : List ExportView) → (ends_of_askings machine b es).addresses ≡ b.addresses + thunk_width machine * (length es + 1)
unfolding ends_of_askings
askings_addresses machine b [] = omega arith
askings_addresses machine b (e ∷ es) = grind (arith, askings_addresses machine (ends_of_asking machine b (ask_in Msvc machine e)) es)

pub addresses_one : (machine : MachineType) (flavor : Flavor) (dll : NamesOfDll) (b : Bases) (es : List ExportView) →
    (ends_in machine flavor dll b es).addresses ≡ b.addresses + thunk_width machine * (length es + 1)
addresses_one machine flavor dll b es = grind (arith, askings_addresses, ends_of_descriptor, addresses_after, ends_of_head)

unfoldable pub BlocksIn : MachineType → List Placed → List Range → List Object → Bases → List FlavorBlock → Type 0
BlocksIn machine linked image rest b [] = Unit {0}
BlocksIn machine linked image rest b (k ∷ blocks) =
    OneLinks machine linked image k.flavor k.dll k.exports b (all_objects machine blocks rest) × BlocksIn machine linked image rest (ends_one machine b k) blocks

-- what is known of DLLs' objects among all that is linked, with other objects after them
pub record EachIn (machine : MachineType) (linked : List Placed) (image : List Range) (b : Bases) (blocks : List FlavorBlock) (rest : List Object) : Type 0 where
  pub imports : BlocksIn machine linked image rest b blocks
  pub defined : AllByRecursion (IsDefinedAt linked) (undefined_names (placed_from (ends_all machine b blocks) rest)) →
      AllByRecursion (IsDefinedAt linked) (undefined_names (placed_from b (all_objects machine blocks rest)))
  pub targets : AllByRecursion (AllFind linked) (placed_from (ends_all machine b blocks) rest) →
      AllByRecursion (AllFind linked) (placed_from b (all_objects machine blocks rest))
  pub located : LocatedFrom machine linked image (ends_all machine b blocks) rest

module _ (machine : MachineType) (ending : Ending) (linked : List Placed) (image : List Range) (rest : List Object)
    (starts : AllByRecursion (λ r. 0 < r.start) image) (ends : AllByRecursion (λ r. range_end r < 2 ^ 31) image) (null : NullDefined ending linked) where
  pub each_in : (blocks : List FlavorBlock) (b : Bases) → AllByRecursion (CanLink machine ending) blocks → AreEven ending machine b →
      ((d : SymbolDefinition) → Among d (definitions_all machine b blocks) → definitions_of d.name linked ≡ d ∷ []) →
      LocatedFrom machine linked image b (all_objects machine blocks rest) → EachIn machine linked image b blocks rest
  unfolding definitions_all ends_all BlocksIn
  each_in [] b fit even only located = record { imports = tt; defined = λ all. all; targets = λ all. all; located = located }
  each_in (k ∷ blocks) b fit even only located =
      let later : Bases = ends_one machine b k in
      let own : List SymbolDefinition = definitions_in machine k.flavor k.dll b k.exports in
      let one = one_links machine k.dll linked image starts ends fit.0.dll ending k.flavor k.exports b (all_objects machine blocks rest) fit.0.exports fit.0.suits even fit.0.found null
      (λ d m. only d (among_front d own (definitions_all machine later blocks) m)) located in
      grind (arith, each_in blocks later fit.1 (even_in machine ending k.flavor k.dll b k.exports fit.0.suits even) (λ d m. only d (among_back d own (definitions_all machine later blocks) m)) one.rest_located)

-- the thunks of the first few blocks, with the null thunks that end them
abbrev pub thunks_in : ℕ → List FlavorBlock → ℕ
thunks_in zero blocks = 0
thunks_in (suc i) [] = 0
thunks_in (suc i) (k ∷ blocks) = length k.exports + 1 + thunks_in i blocks

-- what is known of the i-th block
pub nth_in : (machine : MachineType) (linked : List Placed) (image : List Range) (rest : List Object) (blocks : List FlavorBlock) (b : Bases) →
    BlocksIn machine linked image rest b blocks → (i : ℕ) (k : FlavorBlock) → slice_get blocks i ≡ Some k →
    (c : Bases) × ((c.descriptors ≡ b.descriptors + 20 * i) × ((c.addresses ≡ b.addresses + thunk_width machine * thunks_in i blocks)
    × ((behind : List Object) × OneLinks machine linked image k.flavor k.dll k.exports c behind)))
unfolding BlocksIn
nth_in machine linked image rest (q ∷ blocks) b links (suc i) k is = grind (arith, descriptors_one, plus_sum, addresses_one, table_sum, nth_in machine linked image rest blocks)
nth_in machine linked image rest blocks b links by k is = grind arith

-- what a block imports
abbrev pub imported_of : MachineType → FlavorBlock → Imported
imported_of machine k = record { dll = k.dll.text; asks = map (ask_in k.flavor machine) k.exports }

-- blocks, and zeros after their descriptors, are a directory
pub directory_in : (machine : MachineType) (linked : List Placed) (image : List Range) (rest : List Object) (blocks : List FlavorBlock) (b : Bases) →
    BlocksIn machine linked image rest b blocks → BytesAt image (ends_all machine b blocks).descriptors (zeros 20) →
    DirectoryAt image (thunk_width machine) b.descriptors (map (imported_of machine) blocks)
unfolding BlocksIn DirectoryAt ends_all
directory_in machine linked image rest [] b links null = null
directory_in machine linked image rest (k ∷ blocks) b links null = grind (arith, descriptors_one, directory_in machine linked image rest blocks (ends_one machine b k) links.1 null)

-- the ends after blocks stay even
pub even_all : (machine : MachineType) (ending : Ending) (b : Bases) (blocks : List FlavorBlock) → AllSuit ending blocks → AreEven ending machine b → AreEven ending machine (ends_all machine b blocks)
unfolding ends_all
even_all machine ending b [] suit even = even
even_all machine ending b (k ∷ blocks) suit even = even_all machine ending (ends_one machine b k) blocks suit.1 (even_in machine ending k.flavor k.dll b k.exports suit.0 even)

-- where the descriptors of blocks end
pub descriptors_all : (machine : MachineType) (b : Bases) (blocks : List FlavorBlock) → (ends_all machine b blocks).descriptors ≡ b.descriptors + 20 * length blocks
unfolding ends_all
descriptors_all machine b [] = omega arith
descriptors_all machine b (k ∷ blocks) = grind (arith, descriptors_all machine (ends_one machine b k) blocks, descriptors_one machine k.flavor k.dll b k.exports, plus_sum b.descriptors (length blocks))
