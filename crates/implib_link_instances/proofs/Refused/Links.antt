-- What is said of no import tables, by computing.
use Rattle.std.proofs.Common.{List, None, Some, [], ap, arith, codes, inl, inr, length, refl, subst, sym, ℕ, ◌*◌, ◌++◌, ◌+◌, ◌<◌, ◌∷◌, ◌≡◌, ◌≤◌, ◌⊎◌, map, suc, zero, ◌∙◌}
use Rattle.std.specs.Prelude.{slice_index, bytes_eq, slice_get}
use Rattle.std.specs.List.{Contains}
use Rattle.implib.specs.Formats.Constants.{class_external}
use Rattle.implib.specs.Formats.Object.{ASymbol}
use Rattle.implib.specs.Import.{Ordinal}
use Rattle.implib.specs.Link.Load.{NumberAt, TableAt}
use Rattle.implib.specs.Link.Placement.{next_multiple}
use Rattle.implib.specs.Link.Resolution.{symbol_address, SymbolDefinition}
use Rattle.implib.specs.Members.ImportTables.{zeros}
use Rattle.implib.proofs.Link.Loading.{number_once}
use Rattle.implib_link.specs.Directory.{DirectoryAt, WalkFinds}
use Rattle.implib_link.specs.Flavors.Program.{SymbolsAt, SymbolsGet, FlavorInput, OfMember, exports_chosen, gnu_input, members_linked, objects_taken, own_names}
use Rattle.implib_link.specs.Gnu.Writing.{Writes, ReadsAndWrites, FillsTable, WritesAsItGoes}
use Rattle.implib_link.specs.Tables.{RiseFrom, Table}
use Rattle.implib_link.proofs.Search.Lists.{contains_among, any_among}
use Rattle.implib_link_instances.proofs.Refused.Code.{absent, nothing_there}
use Rattle.implib_link_instances.proofs.Worked.Calls.{one_of}
use Rattle.implib_link_instances.proofs.Worked.Lemmas.{differ, none_in, number, no_definition, none_at, none_passes}
use Rattle.implib_link_instances.specs.Refused.Links.{RefusedAreTables, RefusedAreTablesLoaded, RefusedFillsBy, RefusedFindsBy, RefusedHoldsAt, RefusedIsInTable, RefusedLoaders, asking, table_at, table_of_f, zero_image, RefusedFlavorTextLinks, RefusedFlavorTextsLink, RefusedInputImports, RefusedIsImportedBy, RefusedIsImported, RefusedIsTaken, RefusedLinksClosed, RefusedLldLinks, RefusedProgramLinks, asking_entry, f_input, f_library, f_short, for_gnu, later_short, listing, nul_within, unchosen}
use Rattle.implib_link_instances.specs.Worked.Programs.{symbol_of_class, touching_8}
use Rattle.implib.specs.declared.flavor.Flavor.TheVariants.{Gnu}
use Rattle.implib.specs.declared.machine.MachineType.TheVariants.{AMD64}
use Rattle.implib.specs.Formats.ShortImport.{ShortImport}
use Rattle.implib.specs.Members.MemberSpec.{MemberView}
use Rattle.implib.proofs.Link.LinkedMembers.{among_contains}
use Rattle.implib_link.specs.Flavors.Expansion.{expanded_in}
use Rattle.implib_link.specs.Flavors.LldImports.{grouped}
use Rattle.implib_link.specs.Search.Libraries.{IsImported, archive_of_both, IsWeakTaken}
use Rattle.implib_link.specs.Search.Search.{listed_in}
use Rattle.implib_link_instances.proofs.Worked.Programs.{lld_opened}
use Rattle.implib_link_instances.proofs.Worked.Search.{searched}
use Rattle.implib_link_instances.specs.Worked.Flavors.{source_in, zed_meant, zed_text}

-- a field that is 0 leads to nothing
zero_field : (a n : ℕ) → NumberAt zero_image 4 a n → NumberAt zero_image 4 a 0 → 0 < n → ⊥
zero_field a n there none some = differ 0 n (number_once zero_image 4 a 0 n none there) some

name_zero : NumberAt zero_image 4 0x100C 0
name_zero = number zero_image 4 0x100C 0 (0 ∷ 0 ∷ 0 ∷ 0 ∷ []) refl refl refl

addresses_zero : NumberAt zero_image 4 0x1010 0
addresses_zero = number zero_image 4 0x1010 0 (0 ∷ 0 ∷ 0 ∷ 0 ∷ []) refl refl refl

either_absent : (a b n : ℕ) → NumberAt [] 4 a n ⊎ NumberAt [] 4 b n → ⊥
either_absent a b n (inl there) = absent a 4 n (omega arith) there
either_absent a b n (inr there) = absent b 4 n (omega arith) there

pub refused_finds_by : RefusedFindsBy
unfolding TableAt
refused_finds_by = record {
  name_field = λ x. absent 0x100C 4 x.name (omega arith) x.name_field;
  has_name = λ x. zero_field 0x100C x.name x.name_field name_zero x.has_name;
  name_text = λ x. nothing_there (codes "f.dll" ++ 0 ∷ []) x.name (omega arith) x.name_text.located;
  addresses_field = λ x. absent 0x1010 4 x.addresses (omega arith) x.addresses_field;
  has_addresses = λ x. zero_field 0x1010 x.addresses x.addresses_field addresses_zero x.has_addresses;
  table_field = λ x. either_absent 0x1000 0x1010 x.table x.table_field;
  thunks = λ x. absent x.table 8 x.thunks.0.thunk (omega arith) x.thunks.0.located;
}

pub refused_fills_by : RefusedFillsBy
unfolding FillsTable
refused_fills_by = record {
  name_field = λ x. absent 0x100C 4 x.name (omega arith) x.name_field;
  has_name = λ x. zero_field 0x100C x.name x.name_field name_zero x.has_name;
  name_text = λ x. nothing_there (codes "f.dll" ++ 0 ∷ []) x.name (omega arith) x.name_text.located;
  addresses_field = λ x. absent 0x1010 4 x.addresses (omega arith) x.addresses_field;
  has_addresses = λ x. zero_field 0x1010 x.addresses x.addresses_field addresses_zero x.has_addresses;
  lookups_field = λ x. absent 0x1000 4 x.lookups (omega arith) x.lookups_field;
  fills = λ x. absent x.lookups 8 x.fills.0.thunk (omega arith) x.fills.0.located;
}

pub refused_holds_at : RefusedHoldsAt
refused_holds_at = record {
  once = λ x. let none : [] ≡ record { name = codes "f"; address = Some x.address } ∷ [] = x.once in cc;
  located = λ x. nothing_there (zeros 8) x.address (omega arith) x.located;
}

only_table : (x : Table) → Contains (table_at 0x1000 ∷ []) x → x ≡ table_at 0x1000
only_table x held = one_of x (table_at 0x1000) (contains_among x (table_at 0x1000 ∷ []) held)

pub refused_is_in_table : RefusedIsInTable
refused_is_in_table = record {
  held = λ x. none_in x.table x.held;
  from = λ x. let from : 0x1000 ≤ 0xFFF = subst (λ (t : Table). t.address ≤ 0xFFF) (only_table x.table x.held) x.from in omega arith;
  to = λ x. let to : 0x1001 ≤ 0x1000 = subst (λ (t : Table). 0x1001 ≤ t.address + 8 * length t.entries) (only_table x.table x.held) x.to in omega arith;
}

pub refused_are_tables : RefusedAreTables
unfolding DirectoryAt RiseFrom
refused_are_tables = record {
  starts = λ x. let some : 0 < 0 = x.starts.0 in omega arith;
  ends = λ x. let below : 0x8000_0000 < 0x8000_0000 = x.ends.0 in omega arith;
  directory = λ x. nothing_there (zeros 20) 0x1000 (omega arith) x.directory;
  addresses = λ x. absent 0x1010 4 0x1000 (omega arith) (x.addresses 0 (table_at 0x1000) refl);
  rise = λ x. let low : 0x1000 ≤ 0xFFF = x.rise.1.0 in omega arith;
  symbols = λ x.
      let none : [] ≡ record { name = codes "f"; address = Some 0x1000 } ∷ [] = x.symbols 0 0 table_of_f (record { ask = Ordinal 5; symbol = Some (codes "f") }) (codes "f") refl refl refl in
      cc;
}

pub refused_are_tables_loaded : RefusedAreTablesLoaded
refused_are_tables_loaded = record {
  entries = λ x.
      let held = x.entries 0 0 table_of_f (record { ask = Ordinal 5; symbol = Some (codes "f") }) (codes "f") refl refl refl in
      let none : [] ≡ record { name = codes "f"; address = Some held.address } ∷ [] = held.once in
      cc;
  within = λ x. none_in x.within.0.table x.within.0.held;
}

-- an object that leaves `f` to others gets no address
pub gets_none : (address : ℕ) → symbol_address (asking ∷ []) asking (ASymbol (symbol_of_class (codes "f") 0 class_external)) ≡ Some address → ⊥
gets_none address is = let none : None ≡ Some address = is in cc

pub refused_loaders : RefusedLoaders
unfolding DirectoryAt WalkFinds Writes ReadsAndWrites FillsTable WritesAsItGoes SymbolsAt SymbolsGet RiseFrom next_multiple
refused_loaders = record {
  directory_at = λ x. nothing_there (zeros 20) 0x1000 (omega arith) x;
  stops_at = λ x. either_absent 0x100C 0x1010 0 x;
  walk_finds = λ x. either_absent 0x100C 0x1010 0 x;
  writes = λ x. differ 0 1 (sym (ap length x)) (omega arith);
  reads_and_writes = λ x. either_absent 0x100C 0x1010 0 x.0;
  fills_table = λ x. absent 0x1000 8 0 (omega arith) x.0;
  writes_as_it_goes = λ x. either_absent 0x100C 0x1010 0 x.0;
  are_alike = λ x. let none : None ≡ Some 0 = x 0x1000 in cc;
  symbols_at = λ x. let none : [] ≡ record { name = codes "f"; address = Some 0x1000 } ∷ [] = x.0 in cc;
  symbols_get = λ x. gets_none 0x1000 (x.0 asking (symbol_of_class (codes "f") 0 class_external) (0, omega arith, refl) (0, omega arith, refl) refl refl);
  gets_address = λ x. gets_none 0x1000 (x asking (symbol_of_class (codes "f") 0 class_external) (0, omega arith, refl) (0, omega arith, refl) refl refl);
  rise_from = λ x. let low : 0x1001 ≤ 0x1000 = x.0 in omega arith;
  are_steady = λ x. differ 0 1 (sym (ap length x)) (omega arith);
  where_member = λ x. differ 102 103 (ap (λ (text : List ℕ). slice_index text 0) x) (omega arith);
  are_claimed = λ x. differ 0 1 (ap length x) (omega arith);
}

-- What no link gives, by computing.

nowhere : (address : ℕ) → None ≡ Some address → ⊥
nowhere address is = cc

abbrev pub first_letter : List ℕ → ℕ
first_letter text = slice_index text 0

-- the addresses of the descriptor of no DLL
no_addresses : (n : ℕ) → NumberAt zero_image 4 0x1010 n → n ≡ 0
no_addresses n there = number_once zero_image 4 0x1010 n 0 there (number zero_image 4 0x1010 0 (0 ∷ 0 ∷ 0 ∷ 0 ∷ []) refl refl refl)

pub refused_input_imports : RefusedInputImports
unfolding searched SymbolsAt SymbolsGet
refused_input_imports = record {
  top = λ x. no_definition _ x.top;
  loads = λ x. absent 0x1000 4 x.loads.plain.lookups (omega arith) x.loads.plain.lookups_field;
  table_located = λ x. differ 0 0x1000 (sym (no_addresses x.loads.plain.addresses x.loads.plain.addresses_field) ∙ x.table_located) (omega arith);
  entries = λ x. no_definition _ x.entries.0;
  gets = λ x. nowhere 0x1000 (x.gets.0 asking_entry (symbol_of_class (codes "__imp_f") 0 class_external) (0, omega arith, refl) (0, omega arith, refl) refl refl);
}

-- there is one group, of one short import
first_group : (i : ℕ) (group : List ShortImport) → slice_get (grouped (f_short ∷ [])) i ≡ Some group → (i ≡ 0) × (group ≡ f_short ∷ [])
unfolding lld_opened
first_group zero group is = (refl, (let same : f_short ∷ [] ≡ group = cc in sym same))
first_group (suc i) group is = absurd (none_at i group is)

no_other_time : (j : ℕ) → slice_get (f_short ∷ []) j ≡ Some later_short → ⊥
no_other_time zero is = let same : f_short ≡ later_short = cc in differ 0 1 (ap (λ (r : ShortImport). r.time) same) (omega arith)
no_other_time (suc j) is = none_at j later_short is

pub refused_is_imported_by : RefusedIsImportedBy
unfolding lld_opened
refused_is_imported_by = record {
  its_group = λ x. no_other_time x.j (subst (λ g. slice_get g x.j ≡ Some later_short) (first_group x.i x.group x.its_group).1 x.its_place);
  its_place = λ x. no_other_time x.j (subst (λ g. slice_get g x.j ≡ Some later_short) (first_group x.i x.group x.its_group).1 x.its_place);
  loads = λ x. absent (0x1000 + 20 * x.i) 4 x.loads.plain.lookups (omega arith) x.loads.plain.lookups_field;
  its_table = λ x.
      let first : x.i ≡ 0 = (first_group x.i x.group x.its_group).0 in
      let zero : x.loads.plain.addresses ≡ 0 = no_addresses x.loads.plain.addresses (subst (λ i. NumberAt zero_image 4 (0x1000 + 20 * i + 16) x.loads.plain.addresses) first x.loads.plain.addresses_field) in
      let table = x.its_table in
      omega arith;
  once = λ x. no_definition _ x.once;
  gets = λ x. nowhere _ (x.gets asking_entry (symbol_of_class (codes "__imp_f") 0 class_external) (0, omega arith, refl) (0, omega arith, refl) refl refl);
}

pub refused_lld_links : RefusedLldLinks
unfolding lld_opened DirectoryAt
refused_lld_links = record {
  directory = λ x. nothing_there (zeros 20) 0x1000 (omega arith) x.directory;
  imported = λ x. no_definition _ (x.imported f_short (0, omega arith, refl)).once;
  only = λ x. differ 70 102 (ap first_letter x.only.0.1.0.1) (omega arith);
}

-- three members, of which two are read
few_read : length (map (λ (m : MemberView). expanded_in AMD64 m.bytes) (members_linked AMD64 nul_within)) ≡ length (map Some (objects_taken AMD64 (members_linked AMD64 nul_within))) → ⊥
unfolding searched
few_read is = differ 2 3 (sym is) (omega arith)

pub refused_is_taken : RefusedIsTaken
unfolding searched
refused_is_taken = record {
  from_members = λ x. none_in _ x.from_members.0;
  read = λ x. few_read (ap length x.read);
  null = λ x. none_in _ (x.null refl);
}

pub refused_program_links : RefusedProgramLinks
unfolding searched DirectoryAt
refused_program_links = record {
  linked = λ x. none_in _ x.linked.0.from_members.0;
  imports = λ x. no_definition _ (x.imports 0 (gnu_input f_input) refl).top;
  directory = λ x. nothing_there (zeros 20) 4 (omega arith) x.directory;
  null = λ x. no_definition _ x.null;
  ended = λ x. differ 4 5 (sym x.ended) (omega arith);
  targets = λ x. nowhere x.targets.0.0.0.0 x.targets.0.0.0.1;
  defined = λ x. no_definition _ x.defined.0.1;
  listed = λ x. no_definition _ x.listed.0.1;
  claimed = λ x. none_passes (bytes_eq (codes "more")) (codes "more") (own_names OfMember AMD64 []) refl ((x.claimed (codes "more")).0 (0, omega arith, refl)) refl;
}

f_listed_for_both : Contains (listed_in (archive_of_both (for_gnu f_library))) (codes "f")
unfolding searched
f_listed_for_both = among_contains (codes "f") (listed_in (archive_of_both (for_gnu f_library))) (any_among (codes "f") (listed_in (archive_of_both (for_gnu f_library))) refl)

not_resolved_for_both : IsImported AMD64 [] touching_8 [] (codes "f") ⊎ IsWeakTaken AMD64 [] (codes "f") → ⊥
unfolding searched
not_resolved_for_both (inl x) = none_at x.number x.input x.input_is
not_resolved_for_both (inr x) = none_in x.0 x.1

pub refused_links_closed : RefusedLinksClosed
unfolding searched
refused_links_closed = record {
  taken_is = λ x. none_in listing ((x.taken_is.inputs listing).0 (0, omega arith, refl));
  program = λ x. none_in x.program.held.ended.null_from x.program.held.ended.null_held;
  links = λ x. none_in _ x.links.linked.0.from_members.0;
  resolved = λ x. not_resolved_for_both (x.resolved (codes "f") (0, omega arith, refl) f_listed_for_both);
  closed = λ x. x.closed (codes "f") (0, omega arith, refl) f_listed_for_both;
}

-- the only input
only_one : {X : Type 0} (only x : X) (n : ℕ) → slice_get (only ∷ []) n ≡ Some x → only ≡ x
only_one only x zero is = cc
only_one only x (suc n) is = absurd (none_at n x is)

undefined : {A : Type 0} (name : List ℕ) (address : ℕ) {B C : Type 0} → (A × (◌≡◌ {A = List SymbolDefinition} [] (record { name = name; address = Some address } ∷ []))) ⊎ (B × C × ((d : SymbolDefinition) × ([] ≡ d ∷ []))) → ⊥
undefined name address (inl x) = no_definition _ x.1
undefined name address (inr x) = no_definition _ x.2.1

pub refused_is_imported : RefusedIsImported
refused_is_imported = record {
  input_is = λ x. none_at x.number x.input x.input_is;
  export_is = λ x. none_at x.index x.export (subst (λ (p : FlavorInput). slice_get (exports_chosen p) x.index ≡ Some x.export) (sym (only_one (gnu_input unchosen) x.input x.number x.input_is)) x.export_is);
  by = λ x. undefined (codes "f") _ x.by;
}

pub refused_flavor_text_links : RefusedFlavorTextLinks
refused_flavor_text_links = record {
  imports = λ x. no_definition _ x.imports.top;
}

pub refused_flavor_texts_link : RefusedFlavorTextsLink
unfolding DirectoryAt
refused_flavor_texts_link = record {
  among = λ x. nothing_there (zeros 20) 4 (omega arith) x.among.directory;
  imports = λ x. no_definition _ (x.imports 0 (source_in Gnu AMD64 zed_text (zed_meant AMD64) (0 ∷ [])) refl).imports.top;
}
