-- What the members for Microsoft's linker in three lists are read as: each list is a part of all members.
use Rattle.std.proofs.Common.{arith, ◌≡◌, ◌∙◌, ℕ, Bool, true, false, Err, List, [], ◌∷◌, ◌++◌, Ok, Option, Result, Some, ap, append-nil, drop, if◌then◌else◌, map, refl, slice_get, sym}
use Rattle.std.specs.Prelude.{IfOk, not}
use Rattle.std.specs.List.{AllByRecursion, filter, flat_map}
use Rattle.std.specs.Option.{option_and_then}
use Rattle.std.proofs.lemmas.List.{map-append}
use Rattle.implib.specs.declared.flavor.Flavor.TheVariants.{Msvc}
use Rattle.implib.specs.declared.machine.MachineType.{MachineType}
use Rattle.implib.specs.declared.error.Error.{Error}
use Rattle.implib.specs.declared.msvc.members.MemberLists.{MemberLists}
use Rattle.implib.specs.Definition.{DefinitionView, ExportView}
use Rattle.implib.specs.Formats.File.{AnAlias, AnImport, Meaning, dll_in, file_in, meaning_of}
use Rattle.implib.specs.Import.{Alias, aliases_for, is_alias, public_exports}
use Rattle.implib.specs.LibraryName.{NamesOfDll, names_for}
use Rattle.implib.specs.Members.ListsReadBack.{AreReadAs, ListsReadBack, aliases_kept}
use Rattle.implib.specs.Members.MemberLists.{AreListsOf, ListsView, alias_specs, all_alias_specs, all_import_specs, has_code, import_specs, is_weak, lists_view}
use Rattle.implib.specs.Members.Members.{AreMembersOf, member_specs}
use Rattle.implib.specs.Members.MemberSpec.{MemberSpec, MemberView, file_bytes, member_of}
use Rattle.implib.specs.Members.Msvc.{short_import_symbol}
use Rattle.implib.specs.Members.MsvcMembers.{export_specs, header_specs, short_import_spec, weak_specs}
use Rattle.implib.specs.Members.ReadBack.{file_of, import_written}
use Rattle.implib.specs.Renaming.{renamed}
use Rattle.implib.proofs.Members.MemberMeanings.{chosen_mean, dll_of_descriptor, first_reads, member_specs_mean, short_import_means}
use Rattle.implib.proofs.Members.MemberReadings.{ReadsBack, all_append, each_read, map_after, map_same, member_specs_read_back}
use Rattle.implib.proofs.Members.NotRefused.{import_name_is_free}

-- each specification is read back
abbrev Read : List MemberSpec → Type 0
Read specs = AllByRecursion (λ (p : MemberSpec). ReadsBack p.contents) specs

front_read : (xs ys : List MemberSpec) → Read (xs ++ ys) → Read xs
front_read [] ys reads = tt
front_read (x ∷ xs) ys reads = (reads.0, front_read xs ys reads.1)

back_read : (xs ys : List MemberSpec) → Read (xs ++ ys) → Read ys
back_read [] ys reads = reads
back_read (x ∷ xs) ys reads = back_read xs ys reads.1

rest_read : (xs : List MemberSpec) → Read xs → Read (drop 1 xs)
rest_read [] reads = tt
rest_read (x ∷ xs) reads = reads.1

-- of an export its short import, or none where it is an alias
import_read : (machine : MachineType) (dll : NamesOfDll) (e : ExportView) (weak : Bool) → Read (short_import_spec machine dll e ∷ [])
    → Read (if weak then [] else short_import_spec machine dll e ∷ [])
import_read machine dll e true reads = tt
import_read machine dll e false reads = reads

imports_read : (machine : MachineType) (dll : NamesOfDll) (exports : List ExportView) → Read (flat_map (export_specs machine dll) exports)
    → Read (flat_map (import_specs machine dll) exports)
imports_read machine dll [] reads = tt
imports_read machine dll (e ∷ exports) reads =
    let own = front_read (export_specs machine dll e) (flat_map (export_specs machine dll) exports) reads in
    all_append (λ (p : MemberSpec). ReadsBack p.contents) (import_specs machine dll e) (flat_map (import_specs machine dll) exports)
    (import_read machine dll e (is_weak e) (back_read (weak_specs machine dll.linked e) (short_import_spec machine dll e ∷ []) own))
    (imports_read machine dll exports (back_read (export_specs machine dll e) (flat_map (export_specs machine dll) exports) reads))

-- of an export its weak externals, for data that of its address
kept_read : (specs : List MemberSpec) (code : Bool) → Read specs → Read (if code then specs else drop 1 specs)
kept_read specs true reads = reads
kept_read specs false reads = rest_read specs reads

aliases_read : (machine : MachineType) (dll : NamesOfDll) (exports : List ExportView) → Read (flat_map (export_specs machine dll) exports)
    → Read (flat_map (alias_specs machine dll.linked) exports)
aliases_read machine dll [] reads = tt
aliases_read machine dll (e ∷ exports) reads =
    let own = front_read (export_specs machine dll e) (flat_map (export_specs machine dll) exports) reads in
    all_append (λ (p : MemberSpec). ReadsBack p.contents) (alias_specs machine dll.linked e) (flat_map (alias_specs machine dll.linked) exports)
    (kept_read (weak_specs machine dll.linked e) (has_code e) (front_read (weak_specs machine dll.linked e) (short_import_spec machine dll e ∷ []) own))
    (aliases_read machine dll exports (back_read (export_specs machine dll e) (flat_map (export_specs machine dll) exports) reads))

-- the files of such members
files_read : (specs : List MemberSpec) (members : List MemberView) → members ≡ map member_of specs → Read specs → AreReadAs specs members
files_read specs members are reads =
    ap (map (λ (m : MemberView). file_in m.bytes)) are
    ∙ (map_after (λ (m : MemberView). file_in m.bytes) member_of specs
    ∙ map_same (λ (p : MemberSpec). file_in (file_bytes p.contents)) (λ (p : MemberSpec). Some (file_of p.contents)) specs (each_read specs reads))

-- what specifications mean
abbrev meant : MemberSpec → Option Meaning
meant p = meaning_of (file_of p.contents)

one_import : (machine : MachineType) (dll : NamesOfDll) (e : ExportView) (exports : List ExportView) (weak : Bool)
    → map meant (if weak then [] else short_import_spec machine dll e ∷ []) ++ map (λ (x : ExportView). Some (AnImport (import_written machine dll.text x))) exports
    ≡ map (λ (x : ExportView). Some (AnImport (import_written machine dll.text x))) (if not weak then e ∷ exports else exports)
one_import machine dll e exports true = refl
one_import machine dll e exports false = grind (arith, short_import_means)

imports_mean : (machine : MachineType) (dll : NamesOfDll) (exports : List ExportView)
    → map meant (flat_map (import_specs machine dll) exports)
    ≡ map (λ (e : ExportView). Some (AnImport (import_written machine dll.text e))) (filter (λ (e : ExportView). not (is_weak e)) exports)
imports_mean machine dll [] = refl
imports_mean machine dll (e ∷ exports) = grind (arith, imports_mean machine dll exports, map-append, one_import)

map_rest : {X Y : Type 0} (f : X → Y) (xs : List X) → map f (drop 1 xs) ≡ drop 1 (map f xs)
map_rest f [] = refl
map_rest f (x ∷ xs) = refl

map_kept : {X Y : Type 0} (f : X → Y) (xs : List X) (code : Bool) → map f (if code then xs else drop 1 xs) ≡ (if code then map f xs else drop 1 (map f xs))
map_kept f xs true = refl
map_kept f xs false = map_rest f xs

weak_mean : (machine : MachineType) (linked : List ℕ) (e : ExportView)
    → map meant (weak_specs machine linked e) ≡ map (λ (a : Alias). Some (AnAlias a)) (aliases_for (short_import_symbol e) e.alias_target)
unfolding weak_specs
weak_mean machine linked e = chosen_mean machine linked e (is_alias e.alias_target (short_import_symbol e))

one_alias : (machine : MachineType) (linked : List ℕ) (e : ExportView) → map meant (alias_specs machine linked e) ≡ map (λ (a : Alias). Some (AnAlias a)) (aliases_kept e)
one_alias machine linked e = grind (arith, map_kept, weak_mean)

aliases_mean : (machine : MachineType) (linked : List ℕ) (exports : List ExportView)
    → map meant (flat_map (alias_specs machine linked) exports) ≡ map (λ (a : Alias). Some (AnAlias a)) (flat_map aliases_kept exports)
aliases_mean machine linked [] = refl
aliases_mean machine linked (e ∷ exports) = grind (arith, aliases_mean machine linked exports, map-append, one_alias)

module _ (d : DefinitionView) (machine : MachineType) (lists : ListsView) (are : AreListsOf d machine lists) where
  -- all members of the definition, of which the lists are parts
  made : AreMembersOf d machine Msvc (map member_of (member_specs (renamed d) machine Msvc))
  made = record { accepted = are.accepted; made = refl; ordinals = are.ordinals }

  all_read : Read (header_specs machine (names_for Msvc d) ++ flat_map (export_specs machine (names_for Msvc d)) (public_exports (renamed d)))
  all_read = member_specs_read_back d machine (map member_of (member_specs (renamed d) machine Msvc)) made

  behind_read : Read (flat_map (export_specs machine (names_for Msvc d)) (public_exports (renamed d)))
  behind_read = back_read (header_specs machine (names_for Msvc d)) (flat_map (export_specs machine (names_for Msvc d)) (public_exports (renamed d))) all_read

  pub lists_read_back : ListsReadBack d machine lists
  lists_read_back =
      let dll = names_for Msvc d in
      let exports = public_exports (renamed d) in
      let header = front_read (header_specs machine dll) (flat_map (export_specs machine dll) exports) all_read in
      let imports = imports_read machine dll exports behind_read in
      let aliases = aliases_read machine dll exports behind_read in
      record {
        header = files_read (header_specs machine dll) lists.header are.header header;
        imports = files_read (all_import_specs machine (renamed d)) lists.imports are.imports imports;
        aliases = files_read (all_alias_specs machine (renamed d)) lists.aliases are.aliases aliases;
        dll =
            ap (λ (x : List MemberView). option_and_then (λ (m : MemberView). dll_in m.bytes) (slice_get x 0)) are.header
            ∙ (ap (λ (x : List MemberSpec). option_and_then (λ (m : MemberView). dll_in m.bytes) (slice_get (map member_of x) 0)) (sym (append-nil _))
            ∙ (first_reads machine dll [] (rw (append-nil (header_specs machine dll)) header)
            ∙ dll_of_descriptor machine dll (import_name_is_free d machine Msvc (map member_of (member_specs (renamed d) machine Msvc)) made)));
        imported = grind (arith, member_specs_mean, imports_mean);
        weak = grind (arith, member_specs_mean, aliases_mean);
      }

-- of a result
pub result_read_back : (d : DefinitionView) (machine : MachineType) (result : Result MemberLists Error)
    → IfOk result (λ lists. AreListsOf d machine (lists_view lists)) → IfOk result (λ lists. ListsReadBack d machine (lists_view lists))
result_read_back d machine (Err error) are = tt
result_read_back d machine (Ok lists) are = lists_read_back d machine (lists_view lists) are
