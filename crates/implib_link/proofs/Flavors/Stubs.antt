-- Placed code that defines the name of an export of code is its stub.
use Rattle.std.proofs.Common.{◌≡◌, ℕ, List, Option, Some, refl, sym, ◌∙◌, subst, zero, suc, ◌+◌, ◌*◌, [], ◌∷◌, length, map, ap, inl, inr, arith, ◌≤◌}
use Rattle.std.specs.Prelude.{slice_get, option_map}
use Rattle.std.specs.Option.{option_and_then}
use Rattle.implib.specs.Formats.Object.{ASymbol, Entry, ObjectSection, ObjectSymbol, section_numbered, Object}
use Rattle.std.specs.List.{AllByRecursion, flat_map, Contains}
use Rattle.implib.specs.declared.machine.MachineType.{MachineType}
use Rattle.implib.specs.declared.flavor.Flavor.{Flavor}
use Rattle.implib.specs.declared.flavor.Flavor.TheVariants.{Gnu, Msvc}
use Rattle.implib.specs.Formats.Constants.{align_4bytes, class_external, cnt_code, mem_execute_read}
use Rattle.implib.specs.Definition.{ExportView}
use Rattle.implib.specs.Members.Gnu.{archive_symbols, section, stub_bytes, stub_relocations, text_name}
use Rattle.implib.specs.Import.{Ask}
use Rattle.implib.specs.Members.ImportTables.{thunk_width}
use Rattle.implib.specs.Link.Linked.{IsDefinedOnce}
use Rattle.implib.specs.Members.Msvc.{short_import_symbols, short_import_symbol}
use Rattle.implib.specs.Link.Placement.{Bases, Placed, placed_from}
use Rattle.implib.specs.Link.Resolution.{symbol_address, target_address, definitions_of}
use Rattle.implib.proofs.Link.Linked.{address_found}
use Rattle.implib.proofs.Link.LinkedMembers.{among_map}
use Rattle.implib.proofs.Link.Placement.{AreAligned, after_head, aligned_head, ends_of_head, placed-head, placed_export}
use Rattle.implib.proofs.Link.Ranges.{Among, all_among, among_first, among_front, among_later, among_flat}
use Rattle.implib_link.specs.Flavors.Expansion.{Code, Use, import_object}
use Rattle.implib_link.specs.Flavors.Program.{Ending, FlavorInput, IsCode, IsMadeFor, all_members, ask_in, exports_chosen, symbol_in, symbols_listed, IsProgramOf, dll_names_in, thunks_of, has_tables}
use Rattle.implib_link.proofs.Flavors.Block.{table_sum, AreEven, Suits, behind_descriptor, ends_in, ends_of_askings, even_aligned, even_in, even_wide, objects_of, symbols_of, use_for, AllSuit, FlavorBlock, addresses_one, all_objects, ends_one, thunks_in, rest_of}
use Rattle.implib_link.proofs.Flavors.Inputs.{block_in, inputs_symbols}
use Rattle.implib_link.proofs.Flavors.Program.{even, program_links, suit, placed_among, thunks_are}
use Rattle.implib_link.proofs.Gnu.Loaded.{times_next, times_none}
use Rattle.implib_link.proofs.Search.Lists.{among_at, among_filter, contains_among}
use Rattle.implib_link.proofs.Gnu.Stubs.{behind_exports, code_bytes, code_defined, code_here, code_relocations, export_placed, first_sum, later_sum, target_is}
use Rattle.implib_link.proofs.Flavors.Expanded.{AreWide, ends_of_asking, ends_of_descriptor, placed-asking, placed-descriptor, placed-null_thunk, placed_asking, wide_asking, wide_descriptor}
use Rattle.implib.specs.LibraryName.{NamesOfDll}
use Rattle.std.proofs.lemmas.Option.{slice_get-map}
use Rattle.implib_link.specs.Gnu.Fields.{Defines, PlacedCode, StubAt}
use Rattle.implib_link.proofs.Gnu.Others.{one_definer}

pub found_entry : (f : Entry → Option ℕ) (o : Option Entry) (a : ℕ) → option_and_then f o ≡ Some a → (x : Entry) × ((o ≡ Some x) × (f x ≡ Some a))
found_entry f o a is = grind arith

pub same_section : (sections : List ObjectSection) (n : ℕ) (first second : ObjectSection) → n ≡ 1 → section_numbered sections n ≡ Some first → slice_get sections 0 ≡ Some second → first ≡ second
same_section sections n first second one numbered at = grind arith

pub symbol_of_entry : (t u : ObjectSymbol) → ASymbol t ≡ ASymbol u → t ≡ u
symbol_of_entry t u same = cc

-- Stubs of both flavours jump through their own entries.

-- Each export's object is placed, with its entry where the addresses have come to.

abbrev pub placed_in : MachineType → Flavor → NamesOfDll → Bases → ExportView → Placed
placed_in machine Msvc dll b e = placed_asking machine dll b (short_import_symbol e) (ask_in Msvc machine e) (use_for e)
placed_in machine Gnu dll b e = placed_export machine dll b e

asking_placed : (machine : MachineType) (dll : NamesOfDll) (es : List ExportView) (b : Bases) (rest : List Object) → AreWide machine b → (j : ℕ) (e : ExportView) → slice_get es j ≡ Some e →
    (c : Bases) × (Among (placed_in machine Msvc dll c e) (placed_from b (behind_descriptor machine dll es rest)) × (c.addresses ≡ b.addresses + thunk_width machine * j))
asking_placed machine dll [] b rest even j e is = cc
asking_placed machine dll (x ∷ es) b rest even zero e is =
    grind (arith, behind_descriptor machine dll es rest, use_for x, ends_of_asking machine b (ask_in Msvc machine x), times_none b.addresses (thunk_width machine), placed-asking, even, among_first)
asking_placed machine dll (x ∷ es) b rest even (suc j) e is =
    grind (arith, placed-asking, among_later, times_next, asking_placed machine dll es (ends_of_asking machine b (ask_in Msvc machine x)) rest (wide_asking machine b (ask_in Msvc machine x) even) j e is)

one_placed : (machine : MachineType) (ending : Ending) (flavor : Flavor) (dll : NamesOfDll) (es : List ExportView) (b : Bases) (rest : List Object) → Suits ending flavor → AreEven ending machine b → (j : ℕ) (e : ExportView) →
    slice_get es j ≡ Some e →
    (c : Bases) × (Among (placed_in machine flavor dll c e) (placed_from b (objects_of machine flavor dll es rest)) × (c.addresses ≡ b.addresses + thunk_width machine * j))
one_placed machine ending Msvc dll es b rest suits even j e is =
    let wide : AreWide machine b = even_wide machine ending b suits even in
    let found = asking_placed machine dll es (ends_of_descriptor dll b) rest (wide_descriptor machine dll b wide) j e is in
    (found.0, (subst (Among (placed_in machine Msvc dll found.0 e)) (sym (placed-descriptor machine dll b (behind_descriptor machine dll es rest) wide)) (among_later _ _ _ found.1.0), found.1.1))
one_placed machine ending Gnu dll es b rest suits even j e is =
    let all : AreAligned b = even_aligned machine ending b even in
    let found = export_placed machine dll es (ends_of_head machine dll b) rest (aligned_head machine dll b all) j e is in
    (found.0, (subst (Among (placed_in machine Gnu dll found.0 e)) (sym (placed-head machine dll b (after_head machine dll es rest) all)) (among_later _ _ _ found.1.0), found.1.1))

behind_askings : (machine : MachineType) (dll : NamesOfDll) (es : List ExportView) (b : Bases) (rest : List Object) (q : Placed) → AreWide machine b → Among q (placed_from (ends_of_askings machine b es) rest) →
    Among q (placed_from b (behind_descriptor machine dll es rest))
unfolding ends_of_askings
behind_askings machine dll [] b rest q even m = subst (Among q) (sym (placed-null_thunk machine dll b rest even)) (among_later q _ _ m)
behind_askings machine dll (e ∷ es) b rest q even m = grind (arith, behind_askings machine dll es, placed-asking, use_for, behind_descriptor, even, among_later, ends_of_asking, wide_asking)

behind_one : (machine : MachineType) (ending : Ending) (flavor : Flavor) (dll : NamesOfDll) (es : List ExportView) (b : Bases) (rest : List Object) (q : Placed) → Suits ending flavor → AreEven ending machine b →
    Among q (placed_from (ends_in machine flavor dll b es) rest) → Among q (placed_from b (objects_of machine flavor dll es rest))
behind_one machine ending flavor dll es b rest q suits even m = grind (arith, even_aligned, even, placed-head, after_head, among_later, behind_exports, ends_of_head, aligned_head, even_wide, placed-descriptor, behind_descriptor, behind_askings, ends_of_descriptor, wide_descriptor)

pub all_placed : (machine : MachineType) (ending : Ending) (rest : List Object) (blocks : List FlavorBlock) (b : Bases) → AllSuit ending blocks → AreEven ending machine b → (i j : ℕ) (k : FlavorBlock) (e : ExportView) → slice_get blocks i ≡ Some k → slice_get k.exports j ≡ Some e →
    (c : Bases) × (Among (placed_in machine k.flavor k.dll c e) (placed_from b (all_objects machine blocks rest))
    × (c.addresses ≡ b.addresses + thunk_width machine * thunks_in i blocks + thunk_width machine * j))
all_placed machine ending rest [] b suit even i j k e is chosen = cc
all_placed machine ending rest (q ∷ blocks) b suit even zero j k e is chosen =
    let same : q ≡ k = cc in
    let found = one_placed machine ending q.flavor q.dll q.exports b (all_objects machine blocks rest) suit.0 even j e (subst (λ (x : FlavorBlock). slice_get x.exports j ≡ Some e) (sym same) chosen) in (
      found.0,
      (
        subst (λ (x : FlavorBlock). Among (placed_in machine x.flavor x.dll found.0 e) (placed_from b (all_objects machine (q ∷ blocks) rest))) same found.1.0,
        first_sum found.0.addresses b.addresses (thunk_width machine) j found.1.1,
      ),
    )
all_placed machine ending rest (q ∷ blocks) b suit even (suc i) j k e is chosen =
    grind (arith, all_placed machine ending rest blocks, ends_one machine b q, even_in machine ending q.flavor q.dll b q.exports suit.0 even, thunks_in i blocks, addresses_one machine q.flavor q.dll b q.exports, table_sum b.addresses (thunk_width machine) (length q.exports + 1) (thunks_in i blocks), all_objects machine blocks rest, suit, even, behind_one, later_sum)

-- The code of an export for Microsoft's linker.

asking_defined : (machine : MachineType) (dll : NamesOfDll) (b : Bases) (symbol : List ℕ) (ask : Ask) →
    Among (ASymbol (record { name = symbol; value = 0; section = 1; kind = 0; class = class_external })) (placed_asking machine dll b symbol ask Code).object.entries
unfolding import_object Among
asking_defined machine dll b symbol ask = grind arith

asking_target : (machine : MachineType) (dll : NamesOfDll) (linked : List Placed) (b : Bases) (symbol : List ℕ) (ask : Ask) (use_kind : Use) (entry : ℕ) → b.addresses ≡ entry →
    target_address linked (placed_asking machine dll b symbol ask use_kind) 2 ≡ entry
unfolding import_object
asking_target machine dll linked b symbol ask use_kind entry same = grind arith

asking_found : (machine : MachineType) (dll : NamesOfDll) (linked : List Placed) (b : Bases) (symbol : List ℕ) (ask : Ask) (use_kind : Use) (entry : ℕ) → b.addresses ≡ entry →
    option_and_then (symbol_address linked (placed_asking machine dll b symbol ask use_kind)) (slice_get (placed_asking machine dll b symbol ask use_kind).object.entries 2) ≡ Some entry
unfolding import_object
asking_found machine dll linked b symbol ask use_kind entry same = grind arith

-- what a jump needs, in either flavour
pub record CodeOf (machine : MachineType) (linked : List Placed) (symbol : List ℕ) (own : Placed) (entry : ℕ) : Type 0 where
  pub defined : Among (ASymbol (record { name = symbol; value = 0; section = 1; kind = 0; class = class_external })) own.object.entries
  pub here : slice_get own.object.sections 0 ≡ Some (section text_name (cnt_code + align_4bytes + mem_execute_read) (stub_bytes machine) (stub_relocations machine 2))
  pub target : target_address linked own 2 ≡ entry
  pub found : option_and_then (symbol_address linked own) (slice_get own.object.entries 2) ≡ Some entry

msvc_code : (machine : MachineType) (dll : NamesOfDll) (linked : List Placed) (b : Bases) (symbol : List ℕ) (ask : Ask) (use_kind : Use) (entry : ℕ) → use_kind ≡ Code → b.addresses ≡ entry →
    CodeOf machine linked symbol (placed_asking machine dll b symbol ask use_kind) entry
unfolding import_object
msvc_code machine dll linked b symbol ask use_kind entry is same = grind (
  arith,
  placed_asking,
  asking_defined machine dll b symbol ask,
  refl,
  asking_target machine dll linked b symbol ask Code entry same,
  asking_found machine dll linked b symbol ask Code entry same,
)

pub code_in : (machine : MachineType) (flavor : Flavor) (dll : NamesOfDll) (linked : List Placed) (b : Bases) (e : ExportView) (entry : ℕ) → IsCode flavor e → b.addresses ≡ entry →
    CodeOf machine linked (symbol_in flavor e) (placed_in machine flavor dll b e) entry
code_in machine Msvc dll linked b e entry is same = msvc_code machine dll linked b (short_import_symbol e) (ask_in Msvc machine e) (use_for e) entry (cc) same
code_in machine Gnu dll linked b e entry is same = grind (
  arith,
  code_defined machine dll b e is,
  code_here machine dll b e,
  code_bytes machine e is,
  code_relocations machine e is,
  target_is machine dll linked b e entry is same,
  address_found machine dll linked b e is,
)

-- the name of code is one that its member is listed for
listed_in : (machine : MachineType) (flavor : Flavor) (dll : NamesOfDll) (es : List ExportView) (j : ℕ) (e : ExportView) → slice_get es j ≡ Some e → IsCode flavor e →
    Among (symbol_in flavor e) (symbols_of machine flavor dll es)
unfolding Among
listed_in machine Msvc dll es j e at is =
    let own : Among (short_import_symbol e) (short_import_symbols e) = rw is.0 (inr (inl refl)) in
    among_later _ _ _ (among_front (short_import_symbol e) (flat_map short_import_symbols es) _ (among_flat short_import_symbols e es (short_import_symbol e) (among_at e es j at) own))
listed_in machine Gnu dll es j e at is =
    among_later _ _ _ (among_front e.name (flat_map archive_symbols es) _ (among_flat archive_symbols e es e.name (among_at e es j at) (rw is (inl refl))))

name_listed : (machine : MachineType) (inputs : List FlavorInput) (i j : ℕ) (p : FlavorInput) (e : ExportView) → AllByRecursion (IsMadeFor machine) inputs →
    slice_get inputs i ≡ Some p → slice_get (exports_chosen p) j ≡ Some e → IsCode p.flavor e → Among (symbol_in p.flavor e) (symbols_listed (all_members machine inputs))
name_listed machine inputs i j p e made input chosen is =
    subst (Among (symbol_in p.flavor e)) (sym (inputs_symbols machine inputs made))
    (among_flat (λ (k : FlavorBlock). symbols_of machine k.flavor k.dll k.exports) (block_in p) (map block_in inputs) (symbol_in p.flavor e)
    (among_map block_in p inputs (among_at p inputs i input)) (listed_in machine p.flavor (dll_names_in p) (exports_chosen p) j e chosen is))

pub name_once : (machine : MachineType) (ending : Ending) (bases : Bases) (inputs : List FlavorInput) (objects : List Object) (i j : ℕ) (p : FlavorInput) (e : ExportView) → AllByRecursion (IsMadeFor machine) inputs →
    IsProgramOf machine ending bases inputs objects → slice_get inputs i ≡ Some p → slice_get (exports_chosen p) j ≡ Some e → IsCode p.flavor e → IsDefinedOnce (placed_from bases objects) (symbol_in p.flavor e)
name_once machine ending bases inputs objects i j p e made program input chosen is = grind (arith, name_listed machine inputs i j p e made input chosen is, program_links machine ending bases inputs objects made program, all_among)

-- In a program of both flavours, placed code that defines the name of an export of code is its stub.

pub stub_at : (machine : MachineType) (ending : Ending) (bases : Bases) (inputs : List FlavorInput) (objects : List Object) (i j : ℕ) (p : FlavorInput) (e : ExportView) (d : PlacedCode) (t : ObjectSymbol) →
    AllByRecursion (IsMadeFor machine) inputs → IsProgramOf machine ending bases inputs objects → slice_get inputs i ≡ Some p → slice_get (exports_chosen p) j ≡ Some e → IsCode p.flavor e →
    Contains (placed_from bases objects) d.from → section_numbered d.from.object.sections d.number ≡ Some d.code → Defines d t → t.name ≡ symbol_in p.flavor e →
    StubAt machine (placed_from bases objects) d t (bases.addresses + thunk_width machine * thunks_of i inputs + thunk_width machine * j)
stub_at machine ending bases inputs objects i j p e d t made program input chosen is d_from d_section defines named =
    let linked : List Placed = placed_from bases objects in
    let symbol : List ℕ = symbol_in p.flavor e in
    let entry : ℕ = bases.addresses + thunk_width machine * thunks_of i inputs + thunk_width machine * j in
    let found = all_placed machine ending (rest_of ending) (map block_in inputs) bases (suit machine ending bases inputs objects made program) (even machine ending bases inputs objects made program) i j (block_in p) e (slice_get-map block_in inputs i ∙ ap (option_map block_in) input) chosen in
    let own : Placed = placed_in machine p.flavor (dll_names_in p) found.0 e in
    let own_symbol : ObjectSymbol = record { name = symbol; value = 0; section = 1; kind = 0; class = class_external } in
    let own_held : Among own linked = among_filter (λ (q : Placed). has_tables q.object) own linked (placed_among machine ending bases inputs objects made program own found.1.0) in
    let code = code_in machine p.flavor (dll_names_in p) linked found.0 e entry is (found.1.1 ∙ ap (λ n. bases.addresses + thunk_width machine * n + thunk_width machine * j) (thunks_are i inputs)) in
    let most : length (definitions_of symbol linked) ≤ 1 = rw (name_once machine ending bases inputs objects i j p e made program input chosen is).1 (omega arith) in
    let d_linked : Among d.from linked = contains_among d.from linked d_from in
    let one = one_definer symbol linked d.from own t own_symbol most d_linked (contains_among (ASymbol t) d.from.object.entries defines.held) defines.external named own_held code.defined refl refl in
    grind (arith, symbol_of_entry t own_symbol one.1, same_section, found_entry (symbol_address linked own) (slice_get own.object.entries 2) entry code.found)
