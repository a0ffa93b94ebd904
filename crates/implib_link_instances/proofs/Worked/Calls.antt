-- Worked code with its linked bytes computed is linked beside the tables.
use Rattle.std.proofs.Common.{Bool, List, None, Option, Some, [], ap, arith, codes, false, length, map, refl, subst, sym, true, true≢false, ℕ, ◌++◌, ◌+◌, ◌^◌, ◌∙◌, ◌∷◌, ◌≡◌, ◌≤◌}
use Rattle.std.specs.Prelude.{bytes_eq, if◌then◌else◌, not, slice_get, ◌&&◌, ◌==◌}
use Rattle.std.specs.List.{AllByRecursion, Contains, list_all}
use Rattle.std.proofs.lemmas.Bool.{and_from, and_parts, eq-eqb, eqb-true, not-true}
use Rattle.implib.specs.declared.machine.MachineType.{MachineType}
use Rattle.implib.specs.Formats.Object.{ASymbol, Auxiliary, Entry, Object, ObjectSymbol, before_nul, bytes_at, data_at, each_at, entries_at, name_of, object_in, object_of_header, relocation_at, relocation_of, section_at, section_numbered, section_of, strings_at, symbol_of, u16_at, u32_at, up_to_nul}
use Rattle.implib.specs.Link.Image.{AllApart, Range, image_of, with_address}
use Rattle.implib.specs.Link.Placement.{Bases, Placed, next_multiple, placed_from}
use Rattle.implib_link.specs.Gnu.Fields.{Defines, PlacedCode, Resolves, TakesSymbols, IsRelocated, LinkedCode, placed_code, range_of_code, ranges_of_codes}
use Rattle.implib_link_instances.specs.Worked.Operands.{CodesBeside, WorkedReading, as_placed, code_ranges, code_relocated_by, given_on, linked_by, linked_codes}
use Rattle.implib_link_instances.proofs.Worked.Programs.{relocated_by, relocated_test, worked_programs}
use Rattle.implib.proofs.Members.MemberReadings.{map_after}
use Rattle.implib_link.specs.Gnu.Writing.{HoldsAt, ReadsAndWrites}
use Rattle.implib_link.proofs.Tables.{tables_end, tables_read, program_count, program_entry, program_tables}
use Rattle.implib_link.specs.Tables.{block_of_flavor, tables_at}
use Rattle.std.specs.Fmt.{digits}
use Rattle.implib.specs.declared.machine.MachineType.TheVariants.{AMD64, I386}
use Rattle.implib.specs.Definition.{ExportView}
use Rattle.implib.specs.Formats.Bytes.{u16_bytes, u32_bytes}
use Rattle.implib.specs.Formats.File.{is_defined_external}
use Rattle.implib.specs.Import.{Ask, Name, Ordinal, imp_symbol}
use Rattle.implib.specs.Members.Gnu.{export_object, five_digits, head_name, head_object, head_symbol, hint_name, iname_symbol, mangled_name, numbered_name, relocations_of_stub, relocations_of_thunk, stub, tail_name, tail_object, thunk}
use Rattle.implib.specs.Link.Load.{BytesAt}
use Rattle.implib.specs.Members.GnuMembers.{alias_specs, export_spec, head_spec, tail_spec}
use Rattle.implib.specs.Members.ImportTables.{thunk_width}
use Rattle.implib.specs.Members.Members.{refusal, renamed_refusal}
use Rattle.implib.specs.Members.WeakExternal.{weak_object}
use Rattle.implib.specs.Formats.Layout.{auxiliary_bytes, auxiliary_count, contents, contents_offset, contents_size, encoded, encoded_size, header_bytes, name_field, offsets_from, pointer_or_zero, record_count, records, relocation_bytes, section_header, section_headers, string_bytes_of, string_offsets, string_size, string_table, strings_size, symbol_bytes, symbol_table_offset}
use Rattle.implib.specs.Link.Resolution.{definitions_of, is_undefined_external, symbol_address}
use Rattle.implib.specs.Formats.Writer.{layout_of, long_names, name_location, symbol_written, with_long_name, with_name}
use Rattle.implib.proofs.Link.LinkedMembers.{among_contains, among_map}
use Rattle.implib.proofs.Link.Ranges.{Among}
use Rattle.implib.specs.Worked.Statements.{plain_export}
use Rattle.implib_link.specs.Flavors.Program.{Ending, FlavorInput, IsMadeFor, IsProgramOf, OfLinker, ask_in, dll_of, exports_chosen, gnu_input, symbol_in, has_tables}
use Rattle.implib_link_instances.specs.Worked.Programs.{both_inputs, foo_input, program_image, program_objects, program_placed, symbol_on, touching_4, touching_8}
use Rattle.implib_link.proofs.Gnu.Stubs.{same_address}
use Rattle.implib_link.proofs.Search.Lists.{among_at, contains_among, each_of}
use Rattle.implib_link_instances.proofs.Worked.Lemmas.{image_base}
use Rattle.implib.proofs.Link.Definitions.{same_text}
pub use Rattle.implib_link.proofs.Search.ArchiveMembers.{only_one as one_of}

-- What is computed of placed code beside the tables.

pub record ByHand (machine : MachineType) (image_base : ℕ) (bases : Bases) (objects : List Object) (codes : List PlacedCode) (targets : PlacedCode → ℕ → ℕ) : Type 0 where
  pub held : AllByRecursion (λ c. Contains (placed_from bases objects) c.from) codes
  pub sections : AllByRecursion (λ c. section_numbered c.from.object.sections c.number ≡ Some c.code) codes
  pub ends : AllByRecursion (λ c. c.position + length c.code.bytes + 16 ≤ 2 ^ 31) codes
  pub apart : AllApart (image_of machine bases (placed_from bases objects) ++ code_ranges machine image_base targets codes)
  pub resolved : Resolves (placed_from bases objects) codes targets

-- each code's computed bytes are such as a linker makes
unfoldable pub codes_tested : MachineType → ℕ → (PlacedCode → ℕ → ℕ) → List PlacedCode → Bool
codes_tested machine image_base targets [] = true
codes_tested machine image_base targets (c ∷ codes) =
    relocated_test machine image_base (targets c) c.position c.code (code_relocated_by machine image_base (targets c) c.position c.code.relocations c.code.bytes) && codes_tested machine image_base targets codes

module _ (machine : MachineType) (image_base : ℕ) (targets : PlacedCode → ℕ → ℕ) where
  all_relocated : (codes : List PlacedCode) → codes_tested machine image_base targets codes ≡ true →
      AllByRecursion (λ (x : LinkedCode). IsRelocated machine image_base (as_placed targets x) x.position x.code x.bytes) (linked_codes machine image_base targets codes)
  unfolding codes_tested
  all_relocated [] test = tt
  all_relocated (c ∷ codes) test = grind (arith, all_relocated codes, image_base, and_parts, relocated_test, relocated_by)

  all_linked : (P : LinkedCode → Type 0) (codes : List PlacedCode) → AllByRecursion (λ (c : PlacedCode). P (linked_by machine image_base targets c)) codes → AllByRecursion P (linked_codes machine image_base targets codes)
  all_linked P [] all = tt
  all_linked P (c ∷ codes) all = (all.0, all_linked P codes all.1)

  pub ranges_are : (codes : List PlacedCode) → ranges_of_codes (linked_codes machine image_base targets codes) ≡ code_ranges machine image_base targets codes
  ranges_are codes = map_after range_of_code (linked_by machine image_base targets) codes

  placed_again : (codes : List PlacedCode) → map placed_code (linked_codes machine image_base targets codes) ≡ codes
  placed_again [] = refl
  placed_again (c ∷ codes) = ap (λ cs. c ∷ cs) (placed_again codes)

-- addresses for the symbols of placed code are those of what is linked of it
takes_from : (linked : List Placed) (placed : List PlacedCode) (codes : List LinkedCode) (targets : PlacedCode → ℕ → ℕ) → map placed_code codes ≡ placed → Resolves linked placed targets →
    TakesSymbols linked codes (λ c. targets (placed_code c))
takes_from linked placed codes targets same resolves =
    let held : (c : LinkedCode) → Contains codes c → Contains placed (placed_code c) = λ c m.
    among_contains (placed_code c) placed (subst (Among (placed_code c)) same (among_map placed_code c codes (contains_among c codes m))) in
    record {
      tables = λ c index address entry m at is. resolves.tables (placed_code c) index address entry (held c m) at is;
      code = λ c d index s t m n at undefined defines named.
          resolves.code (placed_code c) (placed_code d) index s t (held c m) (held d n) at undefined (record { held = defines.held; external = defines.external; here = defines.here }) named;
    }

-- however placed code is relocated with addresses that its symbols can have, it is linked beside the tables

pub beside_by : (machine : MachineType) (image_base : ℕ) (bases : Bases) (objects : List Object) (codes : List PlacedCode) (targets : PlacedCode → ℕ → ℕ) → ByHand machine image_base bases objects codes targets →
    codes_tested machine image_base targets codes ≡ true → CodesBeside machine image_base bases objects codes targets
beside_by machine image_base bases objects codes targets by test =
    let linked : List Placed = placed_from bases objects in
    record {
      held = all_linked machine image_base targets (λ (c : LinkedCode). Contains linked c.from) codes by.held;
      sections = all_linked machine image_base targets (λ (c : LinkedCode). section_numbered c.from.object.sections c.number ≡ Some c.code) codes by.sections;
      ends = all_linked machine image_base targets (λ (c : LinkedCode). c.position + length c.code.bytes + 16 ≤ 2 ^ 31) codes by.ends;
      apart = subst (λ rs. AllApart (image_of machine bases linked ++ rs)) (sym (ranges_are machine image_base targets codes)) by.apart;
      relocated = all_relocated machine image_base targets codes test;
      resolved = takes_from linked codes (linked_codes machine image_base targets codes) targets (placed_again machine image_base targets codes) by.resolved;
    }

-- what the computing has to open
abbrev opened : Unit {0}
unfolding digits u16_bytes u32_bytes export_object five_digits head_name head_object head_symbol hint_name iname_symbol numbered_name relocations_of_stub relocations_of_thunk mangled_name stub tail_name tail_object thunk next_multiple with_address export_spec head_spec tail_spec before_nul bytes_at data_at each_at entries_at name_of object_in object_of_header relocation_at relocation_of section_at section_of strings_at symbol_of u16_at u32_at up_to_nul auxiliary_bytes auxiliary_count contents contents_offset contents_size header_bytes encoded name_field offsets_from pointer_or_zero record_count records relocation_bytes section_header section_headers string_bytes_of string_offsets string_size string_table strings_size symbol_bytes symbol_table_offset long_names name_location layout_of symbol_written with_long_name with_name
opened = tt

pub wide : (machine : MachineType) (dll : List ℕ) (ask : Ask) → length (given_on machine dll ask) ≡ thunk_width machine
unfolding u32_bytes
wide I386 dll (Ordinal n) = refl
wide machine dll (Ordinal n) = refl
wide I386 dll (Name text hint) = refl
wide machine dll (Name text hint) = refl

-- the export that is called
abbrev pub open_export : MachineType → ExportView
open_export machine = record (plain_export (symbol_on machine (codes "open"))) { ordinal = 258 }

-- a loader that reads the image leaves at an entry what the DLL gives
program_read : (machine : MachineType) (ending : Ending) (bases : Bases) (inputs : List FlavorInput) (objects : List Object) (gives : List ℕ → Ask → List ℕ) (n : ℕ) (written : List Range) (i j : ℕ) (p : FlavorInput) (e : ExportView) →
    AllByRecursion (IsMadeFor machine) inputs → IsProgramOf machine ending bases inputs objects → ((dll : List ℕ) (ask : Ask) → length (gives dll ask) ≡ thunk_width machine) →
    ReadsAndWrites (image_of machine bases (placed_from bases objects)) (thunk_width machine) gives n bases.descriptors written → slice_get inputs i ≡ Some p → slice_get (exports_chosen p) j ≡ Some e →
    (n ≡ length inputs) × HoldsAt (written ++ image_of machine bases (placed_from bases objects)) (placed_from bases objects) (imp_symbol (symbol_in p.flavor e)) (gives (dll_of p) (ask_in p.flavor machine e))
program_read machine ending bases inputs objects gives n written i j p e made program wide_given reads input chosen =
    let memory : List Range = written ++ image_of machine bases (placed_from bases objects) in
    let name : List ℕ = imp_symbol (symbol_in p.flavor e) in
    let read = tables_read machine (tables_at machine bases objects (map (block_of_flavor machine) inputs)) gives n written (program_tables machine ending bases inputs objects made program) wide_given reads in
    let own = program_entry machine bases inputs objects i j p e input chosen in (
      read.0 ∙ program_count machine bases inputs objects,
      subst (λ dll. HoldsAt memory (placed_from bases objects) name (gives dll (ask_in p.flavor machine e))) own.of_dll
          (subst (λ ask. HoldsAt memory (placed_from bases objects) name (gives own.table.dll ask)) own.of_ask (read.1.entries own.i j own.table own.entry name own.is own.asked own.symbol)),
    )

amd64_reading : (n : ℕ) (written : List Range) → ReadsAndWrites (program_image AMD64 touching_8) 8 (given_on AMD64) n 4 written → (n ≡ 2) × BytesAt (written ++ program_image AMD64 touching_8) 0x80 (0x40 ∷ 0 ∷ 0 ∷ 0x10 ∷ 0 ∷ 0 ∷ 0 ∷ 0 ∷ [])
unfolding opened refusal renamed_refusal alias_specs encoded_size weak_object has_tables
amd64_reading n written reads =
    let all = program_read AMD64 OfLinker touching_8 (map gnu_input (both_inputs AMD64)) (program_objects AMD64) (given_on AMD64) n written 0 1 (gnu_input (foo_input AMD64)) (open_export AMD64) worked_programs.amd64.made worked_programs.amd64.program (wide AMD64) reads refl refl in
    let holds = all.1 in
    let name : List ℕ = imp_symbol (symbol_on AMD64 (codes "open")) in
    let same : holds.address ≡ 0x80 = same_address name holds.address 0x80 (definitions_of name (program_placed AMD64 touching_8)) holds.once refl in
    (all.0, subst (λ a. BytesAt (written ++ program_image AMD64 touching_8) a (0x40 ∷ 0 ∷ 0 ∷ 0x10 ∷ 0 ∷ 0 ∷ 0 ∷ 0 ∷ [])) same holds.located)

i386_reading : (n : ℕ) (written : List Range) → ReadsAndWrites (program_image I386 touching_4) 4 (given_on I386) n 4 written → (n ≡ 2) × BytesAt (written ++ program_image I386 touching_4) 0x60 (0x40 ∷ 0 ∷ 0 ∷ 0x10 ∷ [])
unfolding opened refusal renamed_refusal alias_specs encoded_size weak_object has_tables
i386_reading n written reads =
    let all = program_read I386 OfLinker touching_4 (map gnu_input (both_inputs I386)) (program_objects I386) (given_on I386) n written 0 1 (gnu_input (foo_input I386)) (open_export I386) worked_programs.i386.made worked_programs.i386.program (wide I386) reads refl refl in
    let holds = all.1 in
    let name : List ℕ = imp_symbol (symbol_on I386 (codes "open")) in
    let same : holds.address ≡ 0x60 = same_address name holds.address 0x60 (definitions_of name (program_placed I386 touching_4)) holds.once refl in
    (all.0, subst (λ a. BytesAt (written ++ program_image I386 touching_4) a (0x40 ∷ 0 ∷ 0 ∷ 0x10 ∷ [])) same holds.located)

pub worked_reading : WorkedReading
worked_reading = record {
  amd64 = amd64_reading;
  i386 = i386_reading;
  amd64_ends = tables_end AMD64 (tables_at AMD64 touching_8 (program_objects AMD64) (map (block_of_flavor AMD64) (map gnu_input (both_inputs AMD64)))) (given_on AMD64)
      (program_tables AMD64 OfLinker touching_8 (map gnu_input (both_inputs AMD64)) (program_objects AMD64) worked_programs.amd64.made worked_programs.amd64.program);
}

abbrev pub is_none : Option ℕ → Bool
is_none None = true
is_none (Some n) = false

-- whether an entry is an undefined symbol of this name
abbrev pub is_wanted : List ℕ → Entry → Bool
is_wanted name (Auxiliary bytes) = false
is_wanted name (ASymbol s) = is_undefined_external s && bytes_eq s.name name

-- Code whose symbols no code of another object defines is resolved by the tables.

-- what code defines is wanted by no entry
abbrev unwanted : List Entry → PlacedCode → Entry → Bool
unwanted wanted d (Auxiliary bytes) = true
unwanted wanted d (ASymbol t) =
    if is_defined_external t && (t.section == d.number) then list_all (λ x. not (is_wanted t.name x)) wanted else true

abbrev pub all_unwanted : List PlacedCode → List Entry → Bool
all_unwanted codes wanted = list_all (λ (d : PlacedCode). list_all (unwanted wanted d) d.from.object.entries) codes

pub none_wanted : (codes : List PlacedCode) → list_all (λ (c : PlacedCode). all_unwanted codes c.from.object.entries) codes ≡ true → (c d : PlacedCode) (index : ℕ) (s t : ObjectSymbol) →
    Contains codes c → Contains codes d → slice_get c.from.object.entries index ≡ Some (ASymbol s) → is_undefined_external s ≡ true → Defines d t → t.name ≡ s.name → ⊥
none_wanted codes all c d index s t c_held d_held at undefined defines named =
    let wanted : List Entry = c.from.object.entries in
    let one : all_unwanted codes wanted ≡ true = each_of (λ (x : PlacedCode). all_unwanted codes x.from.object.entries) c codes all (contains_among c codes c_held) in
    let two : list_all (unwanted wanted d) d.from.object.entries ≡ true = grind (arith, contains_among d codes d_held, each_of) in
    let three : unwanted wanted d (ASymbol t) ≡ true = each_of (unwanted wanted d) (ASymbol t) d.from.object.entries two (contains_among (ASymbol t) d.from.object.entries defines.held) in
    let external : is_defined_external t ≡ true = defines.external in
    let here : (t.section == d.number) ≡ true = eq-eqb t.section d.number defines.here in
    let none : list_all (λ x. not (is_wanted t.name x)) wanted ≡ true = rw (external, here) at three in
    let four : not (is_wanted t.name (ASymbol s)) ≡ true = each_of (λ x. not (is_wanted t.name x)) (ASymbol s) wanted none (among_at (ASymbol s) wanted index at) in
    let same : bytes_eq s.name t.name ≡ true = subst (λ n. bytes_eq s.name n ≡ true) (sym named) (same_text s.name) in
    let is : is_wanted t.name (ASymbol s) ≡ true = and_from (is_undefined_external s) (bytes_eq s.name t.name) undefined same in
    true≢false (sym is ∙ not-true (is_wanted t.name (ASymbol s)) four)

-- whether an address is this, if there is one
abbrev pub is_at : ℕ → Option ℕ → Bool
is_at address None = true
is_at address (Some n) = address == n

-- whether each symbol of code that the tables define is at one address
abbrev pub all_at_one : (PlacedCode → ℕ) → List Placed → PlacedCode → Bool
all_at_one at linked c = list_all (λ x. is_at (at c) (symbol_address linked c.from x)) c.from.object.entries

-- Code whose symbols no placed code defines, and the tables at one address for each code, if at all, is resolved by these.
pub resolved_at : (linked : List Placed) (codes : List PlacedCode) (at : PlacedCode → ℕ) → list_all (all_at_one at linked) codes ≡ true →
    list_all (λ (c : PlacedCode). all_unwanted codes c.from.object.entries) codes ≡ true → Resolves linked codes (λ c index. at c)
resolved_at linked codes at inside unwanted = record {
  tables = λ c index address entry held there is.
      let all : all_at_one at linked c ≡ true = each_of (all_at_one at linked) c codes inside (contains_among c codes held) in
      let one : is_at (at c) (symbol_address linked c.from entry) ≡ true =
      each_of (λ x. is_at (at c) (symbol_address linked c.from x)) entry c.from.object.entries all (among_at entry c.from.object.entries index there) in
      eqb-true (at c) address (subst (λ o. is_at (at c) o ≡ true) is one);
  code = λ c d index s t c_held d_held there undefined defines named. absurd (none_wanted codes unwanted c d index s t c_held d_held there undefined defines named);
}
