-- What the members for Microsoft's linker declare and mean.
use Rattle.std.proofs.Common.{◌≡◌, ℕ, Bool, true, false, if◌then◌else◌, List, [], ◌∷◌, ◌++◌, drop, map, Some, refl, ap, sym, ◌∙◌, Result, Ok, Err, Global, arith, ◌<◌, ◌^◌}
use Rattle.std.specs.Prelude.{IfOk, OnOk, Vec}
use Rattle.std.specs.Prelude.{not, slice_get}
use Rattle.std.specs.List.{AllByRecursion, filter, filter_map, flat_map, list_all}
use Rattle.std.specs.Option.{option_and_then, option_map}
use Rattle.std.proofs.lemmas.Bool.{and_parts}
use Rattle.std.proofs.lemmas.List.{append-nil, map-append}
use Rattle.std.proofs.lemmas.List.Elements.{filter_map-append}
use Rattle.implib.specs.declared.flavor.Flavor.TheVariants.{Msvc}
use Rattle.implib.specs.declared.machine.MachineType.{MachineType}
use Rattle.implib.specs.Formats.Bytes.{u32_bytes}
use Rattle.implib.specs.Definition.{DefinitionView, ExportView}
use Rattle.implib.specs.Formats.File.{ObjectFile, AnImport, AnAlias, declared_by, dll_in, dll_of, file_in, meaning_in, meaning_of}
use Rattle.implib.specs.Import.{Alias, imp_symbol, aliases_for, holds, expected_import, import_symbols, is_empty_text, public_exports}
use Rattle.implib.specs.Members.MemberSpec.{AShortImport, AnObject, MemberSpec, MemberView, member_of, file_bytes}
use Rattle.implib.specs.Members.Members.{AreMembersOf, member_specs}
use Rattle.implib.specs.Members.MsvcMembers.{descriptor_spec, null_descriptor_spec, null_thunk_spec, header_specs, weak_specs, export_specs, short_import_spec}
use Rattle.implib.specs.Members.WeakExternal.{weak_spec}
use Rattle.implib.specs.Members.Msvc.{short_import_of, short_import_symbol}
use Rattle.implib.specs.Members.MsvcObjects.{descriptor, null_descriptor, null_thunk}
use Rattle.implib.specs.Members.WeakExternal.{weak_object}
use Rattle.implib.specs.Formats.Object.{u32_at}
use Rattle.implib.specs.Formats.Layout.{entries_of, encoded, encoded_size, name_text, object_of}
use Rattle.implib.specs.Members.ReadBack.{MsvcReadBack, MatchesDefinition, MsvcReadings, file_of, has_no_symbol_names, import_among, alias_among, import_written, meanings_written}
use Rattle.implib.specs.Renaming.{renamed, renamed_export}
use Rattle.implib.proofs.Members.Import.{import_of_short_import-short_import_of, import_written-expected, import_type_is_data}
use Rattle.implib.proofs.Members.MemberReadings.{ReadsBack, machine_number_nonzero, object_reads, all_append, files_read, lengths_read, map_after, map_same, of_members, member_specs_read_back}
use Rattle.implib.proofs.Members.MsvcObjects.{Fits-weak_object}
use Rattle.implib.proofs.Members.NotRefused.{AsksNoOther, exports_ask, import_name_is_free}
use Rattle.implib.proofs.Formats.Symbols.{before_nul-ended}
use Rattle.implib.specs.LibraryName.{NamesOfDll, names_for}

-- What is declared.

-- the file of the specification declares what the specification lists
abbrev pub DeclaresListed : MemberSpec → Type 0
DeclaresListed p = declared_by (file_of p.contents) ≡ p.symbols

header_declares : (machine : MachineType) (dll : NamesOfDll) → AllByRecursion DeclaresListed (header_specs machine dll)
unfolding header_specs descriptor_spec null_descriptor_spec null_thunk_spec descriptor null_descriptor null_thunk object_of entries_of name_text
header_declares machine dll = (refl, (refl, (refl, tt)))

pub weak_declares : (machine : MachineType) (dll weak target : List ℕ) → DeclaresListed (weak_spec machine dll weak target)
unfolding weak_object object_of entries_of name_text
weak_declares machine dll weak target = refl

short_import_declares : (machine : MachineType) (dll : NamesOfDll) (e : ExportView) → DeclaresListed (short_import_spec machine dll e)
short_import_declares machine dll e = ap (λ is_data. import_symbols is_data (short_import_symbol e)) (import_type_is_data e.is_data e.constant)

chosen_declare : (machine : MachineType) (dll : List ℕ) (e : ExportView) (test : Bool) →
    AllByRecursion DeclaresListed (if test then weak_spec machine dll (short_import_symbol e) e.alias_target ∷ weak_spec machine dll (imp_symbol (short_import_symbol e)) (imp_symbol e.alias_target) ∷ [] else [])
chosen_declare machine dll e false = tt
chosen_declare machine dll e true = grind (arith, weak_declares)

exports_declare : (machine : MachineType) (dll : NamesOfDll) (exports : List ExportView) → AllByRecursion DeclaresListed (flat_map (export_specs machine dll) exports)
unfolding weak_specs
exports_declare machine dll [] = tt
exports_declare machine dll (e ∷ exports) = grind (arith, exports_declare machine dll exports, all_append, chosen_declare, short_import_declares)

pub read_declares : (specs : List MemberSpec) → AllByRecursion (λ p. ReadsBack p.contents) specs → AllByRecursion DeclaresListed specs →
    AllByRecursion (λ p. option_map declared_by (file_in (file_bytes p.contents)) ≡ Some p.symbols) specs
read_declares [] reads declares = tt
read_declares (p ∷ specs) reads declares = grind (arith, read_declares specs reads.1 declares.1)

-- What is expected.

pub weak_means : (machine : MachineType) (weak target : List ℕ) → meaning_of (file_of (AnObject (weak_object machine weak target))) ≡ Some (AnAlias (record { weak = weak; target = target }))
unfolding weak_object object_of entries_of name_text u32_at u32_bytes
weak_means machine weak target = refl

-- the object of a weak external reads as its pair
pub weak_object_means : (machine : MachineType) (weak target : List ℕ) → holds 0 weak ≡ false → holds 0 target ≡ false → encoded_size (weak_object machine weak target) < 2 ^ 32 →
    meaning_in (encoded (weak_object machine weak target)) ≡ Some (AnAlias (record { weak = weak; target = target }))
unfolding weak_object
weak_object_means machine weak target weak_free target_free short = grind (arith, object_reads, Fits-weak_object, machine_number_nonzero, weak_means)

-- and so do the bytes that are its layout
pub weak_bytes_mean : {E : Type 0} (machine : MachineType) (weak target : List ℕ) (result : Result (Vec ℕ Global) E) → holds 0 weak ≡ false → holds 0 target ≡ false →
    IfOk result (λ bytes. bytes.items ≡ encoded (weak_object machine weak target)) → OnOk result (encoded_size (weak_object machine weak target) < 2 ^ 32) →
    IfOk result (λ bytes. meaning_in bytes.items ≡ Some (AnAlias (record { weak = weak; target = target })))
weak_bytes_mean machine weak target (Err error) weak_free target_free same short = tt
weak_bytes_mean machine weak target (Ok bytes) weak_free target_free same short = grind (arith, weak_object_means)

pub short_import_means : (machine : MachineType) (dll : List ℕ) (e : ExportView) → meaning_of (file_of (AShortImport (short_import_of machine dll e))) ≡ Some (AnImport (import_written machine dll e))
short_import_means machine dll e = ap (option_map AnImport) (import_of_short_import-short_import_of machine dll e)

pub chosen_mean : (machine : MachineType) (dll : List ℕ) (e : ExportView) (test : Bool) →
    map (λ (p : MemberSpec). meaning_of (file_of p.contents)) (if test then weak_spec machine dll (short_import_symbol e) e.alias_target ∷ weak_spec machine dll (imp_symbol (short_import_symbol e)) (imp_symbol e.alias_target) ∷ [] else [])
    ≡ map (λ a. Some (AnAlias a)) (if test then record { weak = short_import_symbol e; target = e.alias_target } ∷ record { weak = imp_symbol (short_import_symbol e); target = imp_symbol e.alias_target } ∷ [] else [])
chosen_mean machine dll e false = refl
chosen_mean machine dll e true = grind (arith, weak_means)

export_means : (machine : MachineType) (dll : NamesOfDll) (e : ExportView) →
    map (λ (p : MemberSpec). meaning_of (file_of p.contents)) (export_specs machine dll e) ≡ map (λ m. Some m) (meanings_written machine dll.text e)
unfolding weak_specs
export_means machine dll e = grind (arith, map-append, chosen_mean, short_import_means, map_after)

exports_mean : (machine : MachineType) (dll : NamesOfDll) (exports : List ExportView) →
    map (λ (p : MemberSpec). meaning_of (file_of p.contents)) (flat_map (export_specs machine dll) exports) ≡ map (λ m. Some m) (flat_map (meanings_written machine dll.text) exports)
exports_mean machine dll [] = refl
exports_mean machine dll (e ∷ exports) = grind (arith, exports_mean machine dll exports, map-append, export_means)

-- Without symbol names.

pub no_imports : (aliases : List Alias) → filter_map import_among (map AnAlias aliases) ≡ []
no_imports [] = refl
no_imports (a ∷ aliases) = no_imports aliases

pub all_aliases : (aliases : List Alias) → filter_map alias_among (map AnAlias aliases) ≡ aliases
all_aliases [] = refl
all_aliases (a ∷ aliases) = ap (λ x. a ∷ x) (all_aliases aliases)

-- the import among what an export's members mean
import_of_export : (machine : MachineType) (dll : List ℕ) (e : ExportView) → e.symbol_name ≡ [] → AsksNoOther Msvc machine e →
    filter_map import_among (meanings_written machine dll e) ≡ expected_import machine dll e ∷ []
import_of_export machine dll e plain asks =
    filter_map-append import_among (map AnAlias (aliases_for (short_import_symbol e) e.alias_target)) (AnImport (import_written machine dll e) ∷ [])
    ∙ (ap (λ x. x ++ import_written machine dll e ∷ []) (no_imports (aliases_for (short_import_symbol e) e.alias_target))
    ∙ ap (λ x. x ∷ []) (import_written-expected machine dll e plain asks))

-- the aliases among them
aliases_of_export : (machine : MachineType) (dll : List ℕ) (e : ExportView) → e.symbol_name ≡ [] →
    filter_map alias_among (meanings_written machine dll e) ≡ aliases_for e.name e.alias_target
aliases_of_export machine dll e plain = grind (arith, filter_map-append, all_aliases, append-nil)

imports_expected : (machine : MachineType) (dll : List ℕ) (exports : List ExportView) → AllByRecursion (λ e. e.symbol_name ≡ []) exports →
    AllByRecursion (AsksNoOther Msvc machine) exports →
    filter_map import_among (flat_map (meanings_written machine dll) exports) ≡ map (expected_import machine dll) exports
imports_expected machine dll [] plain ask = refl
imports_expected machine dll (e ∷ exports) plain ask = grind (arith, imports_expected machine dll exports plain.1 ask.1, filter_map-append, import_of_export)

aliases_expected : (machine : MachineType) (dll : List ℕ) (exports : List ExportView) → AllByRecursion (λ e. e.symbol_name ≡ []) exports →
    filter_map alias_among (flat_map (meanings_written machine dll) exports) ≡ flat_map (λ e. aliases_for e.name e.alias_target) exports
aliases_expected machine dll [] plain = refl
aliases_expected machine dll (e ∷ exports) plain = grind (arith, aliases_expected machine dll exports plain.1, filter_map-append, aliases_of_export)

empty_text : (text : List ℕ) → is_empty_text text ≡ true → text ≡ []
empty_text [] empty = refl
empty_text (b ∷ text) empty = cc

kept_plain : (e : ExportView) (exports : List ExportView) (private : Bool) → e.symbol_name ≡ [] → AllByRecursion (λ (x : ExportView). x.symbol_name ≡ []) exports →
    AllByRecursion (λ (x : ExportView). x.symbol_name ≡ []) (if not private then renamed_export e ∷ exports else exports)
kept_plain e exports true plain others = others
kept_plain e exports false plain others = (plain, others)

public_plain : (exports : List ExportView) → list_all (λ e. is_empty_text e.symbol_name) exports ≡ true →
    AllByRecursion (λ (e : ExportView). e.symbol_name ≡ []) (filter (λ e. not e.private) (map renamed_export exports))
public_plain [] plain = tt
public_plain (e ∷ exports) plain =
    let parts = and_parts (is_empty_text e.symbol_name) (list_all (λ (x : ExportView). is_empty_text x.symbol_name) exports) plain in
    kept_plain e (filter (λ e. not e.private) (map renamed_export exports)) e.private (empty_text e.symbol_name parts.0) (public_plain exports parts.1)

-- The whole.

pub dll_of_descriptor : (machine : MachineType) (dll : NamesOfDll) → holds 0 dll.text ≡ false → dll_of (ObjectFile (object_of (descriptor machine dll))) ≡ Some dll.text
unfolding descriptor object_of
dll_of_descriptor machine dll free = before_nul-ended dll.text [] free

-- what all specifications after the first three mean
after_header : (machine : MachineType) (dll : NamesOfDll) (specs : List MemberSpec) → AllByRecursion (λ p. ReadsBack p.contents) (header_specs machine dll ++ specs) →
    AllByRecursion (λ p. ReadsBack p.contents) specs
unfolding header_specs descriptor_spec null_descriptor_spec null_thunk_spec
after_header machine dll specs reads = reads.1.1.1

drop_header : (machine : MachineType) (dll : NamesOfDll) (specs : List MemberSpec) → drop 3 (map member_of (header_specs machine dll ++ specs)) ≡ map member_of specs
unfolding header_specs descriptor_spec null_descriptor_spec null_thunk_spec
drop_header machine dll specs = refl

pub first_reads : (machine : MachineType) (dll : NamesOfDll) (specs : List MemberSpec) → AllByRecursion (λ p. ReadsBack p.contents) (header_specs machine dll ++ specs) →
    option_and_then (λ (m : MemberView). dll_in m.bytes) (slice_get (map member_of (header_specs machine dll ++ specs)) 0) ≡ dll_of (ObjectFile (object_of (descriptor machine dll)))
unfolding header_specs descriptor_spec null_descriptor_spec null_thunk_spec
first_reads machine dll specs reads = ap (option_and_then dll_of) reads.0.read

pub member_specs_mean : (specs : List MemberSpec) → AllByRecursion (λ p. ReadsBack p.contents) specs →
    map (λ (m : MemberView). meaning_in m.bytes) (map member_of specs) ≡ map (λ (p : MemberSpec). meaning_of (file_of p.contents)) specs
member_specs_mean [] reads = refl
member_specs_mean (p ∷ specs) reads = grind (arith, member_specs_mean specs reads.1)

-- the members of a definition that is not refused are read as the definition means
module _ (d : DefinitionView) (machine : MachineType) (members : List MemberView) (made : AreMembersOf d machine Msvc members) where
  meanings_read : map (λ (m : MemberView). meaning_in m.bytes) (drop 3 members) ≡ map (λ m. Some m) (flat_map (meanings_written machine d.import_name) (public_exports (renamed d)))
  meanings_read = grind (arith, drop_header, member_specs_mean, after_header, member_specs_read_back, exports_mean)

  pub reads_for_msvc : MsvcReadBack d machine members
  reads_for_msvc = record {
    files = files_read d machine members made;
    lengths = lengths_read d machine members made;
    declared =
        of_members d machine members made (λ m. option_map declared_by (file_in m.bytes))
        ∙ (map_same (λ (p : MemberSpec). option_map declared_by (file_in (file_bytes p.contents))) (λ (p : MemberSpec). Some p.symbols) (member_specs (renamed d) machine Msvc)
        (read_declares (member_specs (renamed d) machine Msvc) (member_specs_read_back d machine members made)
        (all_append DeclaresListed (header_specs machine (names_for Msvc d)) (flat_map (export_specs machine (names_for Msvc d)) (public_exports (renamed d)))
        (header_declares machine (names_for Msvc d)) (exports_declare machine (names_for Msvc d) (public_exports (renamed d)))))
        ∙ sym (of_members d machine members made (λ m. Some m.symbols)));
    dll = grind (arith, first_reads, member_specs_read_back, dll_of_descriptor, import_name_is_free);
    meanings = meanings_read;
  }

  pub matches_definition : has_no_symbol_names d ≡ true → MatchesDefinition d machine members
  matches_definition plain = grind (arith, public_plain, meanings_read, imports_expected, exports_ask, aliases_expected)

  pub reads_as_msvc : MsvcReadings d machine members
  reads_as_msvc = record { files = reads_for_msvc; matches = matches_definition }
