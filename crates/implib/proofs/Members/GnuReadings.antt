-- What the members for GNU's linker are read as.
use Rattle.std.proofs.Common.{arith, ◌≡◌, ℕ, ◌+◌, ◌<◌, ◌≤◌, ◌^◌, Bool, true, false, if◌then◌else◌, ◌||◌, List, [], ◌∷◌, ◌++◌, length, drop, map, reverse, Option, Some, None, refl, ap, sym, ◌∙◌, codes, subst}
use Rattle.std.specs.Prelude.{bytes_eq}
use Rattle.std.specs.List.{AllByRecursion, filter_map, flat_map, list_any}
use Rattle.std.specs.Option.{option_and_then, option_map}
use Rattle.std.proofs.lemmas.Bool.{ltb-true, or_parts}
use Rattle.std.proofs.lemmas.List.{append-nil, map-append, reverse-append, reverse-reverse}
use Rattle.std.proofs.lemmas.List.Elements.{filter_map-append}
use Rattle.std.proofs.lemmas.List.Folds.{list_any-append}
use Rattle.std.proofs.lemmas.Nat.{from_le_bytes-to_le_bytes_2}
use Rattle.std.proofs.lemmas.Slice.Eq.{bytes_eq-Decides}
use Rattle.implib.specs.declared.flavor.Flavor.TheVariants.{Gnu}
use Rattle.implib.specs.declared.machine.MachineType.{MachineType}
use Rattle.implib.specs.declared.machine.MachineType.TheVariants.{I386, ARMNT, AMD64, ARM64}
use Rattle.implib.specs.Formats.Bytes.{u16_bytes, u32_bytes}
use Rattle.implib.specs.Definition.{DefinitionView, ExportView}
use Rattle.implib.specs.Formats.File.{File, ObjectFile, Meaning, AnImport, AnAlias, alias_of_object, declared_by, file_in}
use Rattle.implib.specs.Members.Gnu.{export_name, export_object, archive_symbols, head_object, head_symbol, hint_name, iname_symbol, relocations_of_stub, relocations_of_thunk, stub, tail_object, thunk}
use Rattle.implib.specs.Members.GnuReader.{CodeRelocation, ask_of_export, code_of_export, code_relocations, dll_by_names, externals_in, import_of, meaning_with, text_section}
use Rattle.implib.specs.Import.{Import, Ordinal, imp_symbol, aliases_for, expected_ask, holds, expected_import, import_symbols, is_alias, name_asked, public_exports}
use Rattle.implib.specs.Members.MemberSpec.{AnObject, MemberSpec, MemberView, file_bytes, file_size, member_of}
use Rattle.implib.specs.Members.Members.{AreMembersOf, is_too_long, member_specs}
use Rattle.implib.specs.Members.GnuMembers.{alias_specs, export_spec, head_spec, numbered_specs, tail_spec}
use Rattle.implib.specs.Members.WeakExternal.{weak_spec}
use Rattle.implib.specs.Members.WeakExternal.{weak_object}
use Rattle.implib.specs.Formats.Object.{u16_at, u32_at}
use Rattle.implib.specs.Formats.Layout.{Fits, entries_of, encoded_size, name_text, object_of}
use Rattle.implib.specs.Members.ReadBack.{GnuReadBack, alias_among, expected_code, file_at, file_of, import_among, expected_meanings}
use Rattle.implib.specs.Renaming.{renamed}
use Rattle.implib.specs.Formats.Writer.{WriterState, written_object, layout_of}
use Rattle.implib.proofs.Members.GnuLoop.{list_any-reverse, map-reverse}
use Rattle.implib.proofs.Members.GnuObjects.{Fits-export_object, Fits-head_object, Fits-tail_object}
use Rattle.implib.proofs.Members.MemberMeanings.{DeclaresListed, all_aliases, no_imports, read_declares, weak_declares}
use Rattle.implib.proofs.Members.MemberReadings.{ReadsBack, all_append, each_length, each_read, machine_number_nonzero, map_after, map_same, object_reads, weak_reads}
use Rattle.implib.proofs.Members.NotRefused.{Sound, exports_sound, import_name_is_free, linked_is_free, name_asked_free, none_long, short_enough}
use Rattle.implib.proofs.Formats.Symbols.{before_nul-ended}
use Rattle.implib.proofs.Formats.WriterLayout.{object_of-layout_of}
use Rattle.implib.specs.LibraryName.{NamesOfDll, names_for}

-- The specifications read back.

held_reads : (h : WriterState) → Fits (layout_of h) → encoded_size (layout_of h) ≤ 0xFFFF_FFFF → ReadsBack (AnObject (layout_of h))
unfolding layout_of
held_reads h fits short = object_reads (layout_of h) fits (machine_number_nonzero h.machine) short

-- Exports' objects of one kind: each fits, declares these symbols, and is read as this import, with the code of its machine.
pub record AreRead (machine : MachineType) (dll : NamesOfDll) (object : ExportView → WriterState) (listed : ExportView → List (List ℕ)) (import : ExportView → Import) : Type 0 where
  pub fits : (e : ExportView) → Sound e → Fits (layout_of (object e))
  pub declares : (e : ExportView) → declared_by (ObjectFile (written_object (object e))) ≡ listed e
  pub no_alias : (e : ExportView) → alias_of_object (written_object (object e)) ≡ None
  pub imports : (e : ExportView) → Sound e → import_of (written_object (object e)) (written_object (head_object machine dll.linked)) (written_object (tail_object machine dll)) ≡ Some (import e)
  pub code : (e : ExportView) → code_relocations (written_object (object e)) ≡ Some (expected_code machine e)

-- the specification of the member of such an object
abbrev pub spec_by : MachineType → NamesOfDll → (ExportView → WriterState) → (ExportView → List (List ℕ)) → ℕ → ExportView → MemberSpec
spec_by machine dll object listed number e = record { name = export_name dll.linked number; contents = AnObject (layout_of (object e)); symbols = listed e }

-- those of an export, with its weak externals
abbrev pub specs_by : MachineType → NamesOfDll → (ExportView → WriterState) → (ExportView → List (List ℕ)) → ℕ → ExportView → List MemberSpec
specs_by machine dll object listed number e = alias_specs machine dll.linked number e ++ spec_by machine dll object listed number e ∷ []

-- and those of exports that are numbered from a number
pub record AreNumbered (of : ℕ → ExportView → List MemberSpec) (numbered : ℕ → List ExportView → List MemberSpec) : Type 0 where
  pub none : (number : ℕ) → numbered number [] ≡ []
  pub more : (number : ℕ) (e : ExportView) (exports : List ExportView) → numbered number (e ∷ exports) ≡ of number e ++ numbered (number + 1) exports

chosen_read : (machine : MachineType) (e : ExportView) → Sound e → (test : Bool) (first second : List ℕ) →
    list_any is_too_long (if test then weak_spec machine first e.name e.alias_target ∷ weak_spec machine second (imp_symbol e.name) (imp_symbol e.alias_target) ∷ [] else []) ≡ false →
    AllByRecursion (λ p. ReadsBack p.contents) (if test then weak_spec machine first e.name e.alias_target ∷ weak_spec machine second (imp_symbol e.name) (imp_symbol e.alias_target) ∷ [] else [])
chosen_read machine e sound false first second short = tt
chosen_read machine e sound true first second short =
    let of_name = weak_spec machine first e.name e.alias_target in
    let of_address = weak_spec machine second (imp_symbol e.name) (imp_symbol e.alias_target) in
    let one = or_parts (is_too_long of_name) _ short in
    let two = or_parts (is_too_long of_address) false one.1 in (
      weak_reads machine e.name e.alias_target sound.name sound.alias_target (short_enough of_name one.0),
      (weak_reads machine (imp_symbol e.name) (imp_symbol e.alias_target) sound.name sound.alias_target (short_enough of_address two.0), tt),
    )

module _ (machine : MachineType) (dll : NamesOfDll) (object : ExportView → WriterState) (listed : ExportView → List (List ℕ)) (import : ExportView → Import) (read : AreRead machine dll object listed import)
    (numbered : ℕ → List ExportView → List MemberSpec) (steps : AreNumbered (specs_by machine dll object listed) numbered) where
  of_export_read : (number : ℕ) (e : ExportView) → Sound e → list_any is_too_long (specs_by machine dll object listed number e) ≡ false →
      AllByRecursion (λ p. ReadsBack p.contents) (specs_by machine dll object listed number e)
  unfolding alias_specs
  of_export_read number e sound short = grind (arith, or_parts, list_any-append, short, all_append, chosen_read, sound, held_reads, short_enough)

  pub numbered_read : (number : ℕ) (exports : List ExportView) → AllByRecursion Sound exports → list_any is_too_long (numbered number exports) ≡ false →
      AllByRecursion (λ p. ReadsBack p.contents) (numbered number exports)
  numbered_read number [] sound short = subst (AllByRecursion (λ (p : MemberSpec). ReadsBack p.contents)) (sym (steps.none number)) tt
  numbered_read number (e ∷ exports) sound short =
      let own = specs_by machine dll object listed number e in
      let others = numbered (number + 1) exports in
      let parts = or_parts (list_any is_too_long own) (list_any is_too_long others)
      (sym (list_any-append is_too_long own others) ∙ (sym (ap (list_any is_too_long) (steps.more number e exports)) ∙ short)) in
      subst (AllByRecursion (λ (p : MemberSpec). ReadsBack p.contents)) (sym (steps.more number e exports))
      (all_append (λ p. ReadsBack p.contents) own others (of_export_read number e sound.0 parts.0) (numbered_read (number + 1) exports sound.1 parts.1))

-- What is declared.

held_declares : (h : WriterState) (listed : List (List ℕ)) → declared_by (ObjectFile (written_object h)) ≡ listed → declared_by (ObjectFile (object_of (layout_of h))) ≡ listed
held_declares h listed declares = ap (λ o. declared_by (ObjectFile o)) (object_of-layout_of h) ∙ declares

tail_declares : (machine : MachineType) (dll : NamesOfDll) → DeclaresListed (tail_spec machine dll)
unfolding tail_spec tail_object
tail_declares machine dll = held_declares (tail_object machine dll) (iname_symbol machine dll.linked ∷ []) refl

head_declares : (machine : MachineType) (dll : List ℕ) → DeclaresListed (head_spec machine dll)
unfolding head_spec head_object
head_declares machine dll = held_declares (head_object machine dll) (head_symbol machine dll ∷ []) refl

export_declares_by : (machine : MachineType) (dll : List ℕ) (e : ExportView) (is_data : Bool) →
    declared_by (ObjectFile (written_object (export_object machine dll (record e { is_data = is_data })))) ≡ archive_symbols (record e { is_data = is_data })
unfolding export_object
export_declares_by machine dll e true = refl
export_declares_by machine dll e false = refl

chosen_declare : (machine : MachineType) (e : ExportView) (test : Bool) (first second : List ℕ) →
    AllByRecursion DeclaresListed (if test then weak_spec machine first e.name e.alias_target ∷ weak_spec machine second (imp_symbol e.name) (imp_symbol e.alias_target) ∷ [] else [])
chosen_declare machine e false first second = tt
chosen_declare machine e true first second = grind (arith, weak_declares)

module _ (machine : MachineType) (dll : NamesOfDll) (object : ExportView → WriterState) (listed : ExportView → List (List ℕ)) (import : ExportView → Import) (read : AreRead machine dll object listed import)
    (numbered : ℕ → List ExportView → List MemberSpec) (steps : AreNumbered (specs_by machine dll object listed) numbered) where
  pub numbered_declare : (number : ℕ) (exports : List ExportView) → AllByRecursion DeclaresListed (numbered number exports)
  unfolding alias_specs
  numbered_declare number [] = subst (AllByRecursion DeclaresListed) (sym (steps.none number)) tt
  numbered_declare number (e ∷ exports) = grind (arith, numbered_declare (number + 1) exports, all_append, chosen_declare, held_declares)

-- What an export means.

pub same_bytes : (text : List ℕ) → bytes_eq text text ≡ true
same_bytes text = (bytes_eq-Decides text text).1 refl

asks_by : (machine : MachineType) (dll : List ℕ) (e : ExportView) → e.ordinal < 2 ^ 16 → holds 0 (name_asked machine e) ≡ false → (is_data no_name : Bool) →
    ask_of_export (written_object (export_object machine dll (record e { is_data = is_data; no_name = no_name }))) ≡ Some (expected_ask machine (record e { is_data = is_data; no_name = no_name }))
unfolding export_object thunk relocations_of_thunk hint_name stub relocations_of_stub u16_at u16_bytes
asks_by I386 dll e fits free true true = ap (λ n. Some (Ordinal n)) (from_le_bytes-to_le_bytes_2 e.ordinal fits)
asks_by I386 dll e fits free false true = ap (λ n. Some (Ordinal n)) (from_le_bytes-to_le_bytes_2 e.ordinal fits)
asks_by ARMNT dll e fits free true true = ap (λ n. Some (Ordinal n)) (from_le_bytes-to_le_bytes_2 e.ordinal fits)
asks_by ARMNT dll e fits free false true = ap (λ n. Some (Ordinal n)) (from_le_bytes-to_le_bytes_2 e.ordinal fits)
asks_by AMD64 dll e fits free true true = ap (λ n. Some (Ordinal n)) (from_le_bytes-to_le_bytes_2 e.ordinal fits)
asks_by AMD64 dll e fits free false true = ap (λ n. Some (Ordinal n)) (from_le_bytes-to_le_bytes_2 e.ordinal fits)
asks_by ARM64 dll e fits free true true = ap (λ n. Some (Ordinal n)) (from_le_bytes-to_le_bytes_2 e.ordinal fits)
asks_by ARM64 dll e fits free false true = ap (λ n. Some (Ordinal n)) (from_le_bytes-to_le_bytes_2 e.ordinal fits)
asks_by machine dll e fits free true false = grind (arith, before_nul-ended, free, from_le_bytes-to_le_bytes_2, fits)
asks_by machine dll e fits free false false = grind (arith, before_nul-ended, free, from_le_bytes-to_le_bytes_2, fits)

declared_by_import : (machine : MachineType) (dll : List ℕ) (e : ExportView) (is_data : Bool) →
    (let o = written_object (export_object machine dll (record e { is_data = is_data })) in externals_in o (codes ".idata$5") ++ externals_in o text_section) ≡ import_symbols is_data e.name
unfolding export_object
declared_by_import machine dll e true = refl
declared_by_import machine dll e false = refl

no_alias : (machine : MachineType) (dll : List ℕ) (e : ExportView) (is_data : Bool) → alias_of_object (written_object (export_object machine dll (record e { is_data = is_data }))) ≡ None
unfolding export_object
no_alias machine dll e true = refl
no_alias machine dll e false = refl

dll_found : (machine : MachineType) (dll : NamesOfDll) (e : ExportView) → holds 0 dll.text ≡ false →
    dll_by_names (written_object (export_object machine dll.linked e)) (written_object (head_object machine dll.linked)) (written_object (tail_object machine dll)) ≡ Some dll.text
unfolding export_object head_object tail_object
dll_found machine dll e free = grind (arith, same_bytes, before_nul-ended, free)

code_by : (machine : MachineType) (dll : List ℕ) (e : ExportView) (is_data : Bool) →
    code_relocations (written_object (export_object machine dll (record e { is_data = is_data }))) ≡ Some (expected_code machine (record e { is_data = is_data }))
unfolding export_object stub relocations_of_stub
code_by machine dll e true = refl
code_by I386 dll e false = refl
code_by ARMNT dll e false = refl
code_by AMD64 dll e false = refl
code_by ARM64 dll e false = refl

pub import_found : (machine : MachineType) (dll : NamesOfDll) (export : WriterState) (e : ExportView) (symbols : List (List ℕ)) →
    dll_by_names (written_object export) (written_object (head_object machine dll.linked)) (written_object (tail_object machine dll)) ≡ Some dll.text →
    ask_of_export (written_object export) ≡ Some (expected_ask machine e) →
    externals_in (written_object export) (codes ".idata$5") ++ externals_in (written_object export) text_section ≡ symbols →
    import_of (written_object export) (written_object (head_object machine dll.linked)) (written_object (tail_object machine dll)) ≡ Some (record { dll = dll.text; declared = symbols; ask = expected_ask machine e })
import_found machine dll export e symbols named asks declared = grind (arith, declared)

pub export_reads : (machine : MachineType) (dll : NamesOfDll) → holds 0 dll.linked ≡ false → holds 0 dll.text ≡ false →
    AreRead machine dll (export_object machine dll.linked) archive_symbols (expected_import machine dll.text)
export_reads machine dll linked_free text_free = record {
  fits = λ e sound. Fits-export_object machine dll.linked e linked_free sound.name sound.filled;
  declares = λ e. export_declares_by machine dll.linked e e.is_data;
  no_alias = λ e. no_alias machine dll.linked e e.is_data;
  imports = λ e sound.
      import_found machine dll (export_object machine dll.linked e) e (import_symbols e.is_data e.name) (dll_found machine dll e text_free)
      (asks_by machine dll.linked e (ltb-true e.ordinal 0x1_0000 sound.ordinal) (name_asked_free machine e sound) e.is_data e.no_name)
      (declared_by_import machine dll.linked e e.is_data);
  code = λ e. code_by machine dll.linked e e.is_data;
}

-- What the specifications mean.

module _ (machine : MachineType) (dll : NamesOfDll) (object : ExportView → WriterState) (listed : ExportView → List (List ℕ)) (import : ExportView → Import) (read : AreRead machine dll object listed import)
    (numbered : ℕ → List ExportView → List MemberSpec) (steps : AreNumbered (specs_by machine dll object listed) numbered) where
  abbrev head_file : File
  head_file = ObjectFile (object_of (layout_of (head_object machine dll.linked)))

  abbrev tail_file : File
  tail_file = ObjectFile (object_of (layout_of (tail_object machine dll)))

  -- what an export's members mean
  abbrev meanings : ExportView → List Meaning
  meanings e = map AnAlias (aliases_for e.name e.alias_target) ++ AnImport (import e) ∷ []

  -- what a specification's file means
  abbrev specified : MemberSpec → Option Meaning
  specified p = meaning_with head_file tail_file (file_of p.contents)

  export_specified : (number : ℕ) (e : ExportView) → Sound e → specified (spec_by machine dll object listed number e) ≡ Some (AnImport (import e))
  export_specified number e sound = grind (arith, object_of-layout_of, sound)

  weak_specified : (weak target : List ℕ) → meaning_with head_file tail_file (ObjectFile (object_of (weak_object machine weak target))) ≡ Some (AnAlias (record { weak = weak; target = target }))
  unfolding weak_object object_of entries_of name_text u32_at u32_bytes
  weak_specified weak target = refl

  chosen_specified : (e : ExportView) (test : Bool) (first second : List ℕ) →
      map specified (if test then weak_spec machine first e.name e.alias_target ∷ weak_spec machine second (imp_symbol e.name) (imp_symbol e.alias_target) ∷ [] else [])
      ≡ map (λ a. Some (AnAlias a)) (if test then record { weak = e.name; target = e.alias_target } ∷ record { weak = imp_symbol e.name; target = imp_symbol e.alias_target } ∷ [] else [])
  chosen_specified e false first second = refl
  chosen_specified e true first second = grind (arith, weak_specified)

  of_export_specified : (number : ℕ) (e : ExportView) → Sound e → map specified (specs_by machine dll object listed number e) ≡ map (λ m. Some m) (meanings e)
  unfolding alias_specs
  of_export_specified number e sound =
      let own = spec_by machine dll object listed number e in
      map-append specified (alias_specs machine dll.linked number e) (own ∷ [])
      ∙ (ap (λ x. x ++ specified own ∷ []) (chosen_specified e (is_alias e.alias_target e.name) _ _)
      ∙ (ap (λ x. map (λ a. Some (AnAlias a)) (aliases_for e.name e.alias_target) ++ x ∷ []) (export_specified number e sound)
      ∙ sym (map-append (λ m. Some m) (map AnAlias (aliases_for e.name e.alias_target)) (AnImport (import e) ∷ [])
      ∙ ap (λ x. x ++ Some (AnImport (import e)) ∷ []) (map_after (λ m. Some m) AnAlias (aliases_for e.name e.alias_target)))))

  pub numbered_specified : (number : ℕ) (exports : List ExportView) → AllByRecursion Sound exports →
      map specified (numbered number exports) ≡ map (λ m. Some m) (flat_map meanings exports)
  numbered_specified number [] sound = ap (map specified) (steps.none number)
  numbered_specified number (e ∷ exports) sound = grind (arith, numbered_specified (number + 1) exports sound.1, map-append, of_export_specified)

  -- the code of a specification's file
  abbrev specified_code : MemberSpec → Option (List CodeRelocation)
  specified_code p = code_of_export (file_of p.contents)

  weak_code : (weak target : List ℕ) → code_of_export (ObjectFile (object_of (weak_object machine weak target))) ≡ None
  unfolding weak_object object_of entries_of name_text u32_at u32_bytes
  weak_code weak target = refl

  chosen_code : (e : ExportView) (test : Bool) (first second : List ℕ) →
      filter_map specified_code (if test then weak_spec machine first e.name e.alias_target ∷ weak_spec machine second (imp_symbol e.name) (imp_symbol e.alias_target) ∷ [] else []) ≡ []
  chosen_code e false first second = refl
  chosen_code e true first second = rw (weak_code e.name e.alias_target, weak_code (imp_symbol e.name) (imp_symbol e.alias_target)) refl

  export_code : (number : ℕ) (e : ExportView) → specified_code (spec_by machine dll object listed number e) ≡ Some (expected_code machine e)
  export_code number e = grind (arith, object_of-layout_of)

  one_kept : {X Y : Type 0} (f : X → Option Y) (x : X) (y : Y) → f x ≡ Some y → filter_map f (x ∷ []) ≡ y ∷ []
  one_kept f x y same = rw same refl

  of_export_code : (number : ℕ) (e : ExportView) → filter_map specified_code (specs_by machine dll object listed number e) ≡ expected_code machine e ∷ []
  unfolding alias_specs
  of_export_code number e =
      let own = spec_by machine dll object listed number e in
      filter_map-append specified_code (alias_specs machine dll.linked number e) (own ∷ [])
      ∙ (ap (λ x. x ++ filter_map specified_code (own ∷ [])) (chosen_code e (is_alias e.alias_target e.name) _ _)
      ∙ one_kept specified_code own (expected_code machine e) (export_code number e))

  pub numbered_code : (number : ℕ) (exports : List ExportView) → filter_map specified_code (numbered number exports) ≡ map (expected_code machine) exports
  numbered_code number [] = ap (filter_map specified_code) (steps.none number)
  numbered_code number (e ∷ exports) = grind (arith, numbered_code (number + 1) exports, filter_map-append, of_export_code)

-- The imports and the aliases among what is expected.

module _ (machine : MachineType) (dll : List ℕ) where
  one_import : (e : ExportView) → filter_map import_among (expected_meanings machine dll e) ≡ expected_import machine dll e ∷ []
  one_import e = grind (arith, filter_map-append, no_imports)

  pub all_imports : (exports : List ExportView) → filter_map import_among (flat_map (expected_meanings machine dll) exports) ≡ map (expected_import machine dll) exports
  all_imports [] = refl
  all_imports (e ∷ exports) = grind (arith, all_imports exports, filter_map-append, one_import)

  its_aliases : (e : ExportView) → filter_map alias_among (expected_meanings machine dll e) ≡ aliases_for e.name e.alias_target
  its_aliases e = grind (arith, filter_map-append, all_aliases, append-nil)

  pub aliases_among : (exports : List ExportView) → filter_map alias_among (flat_map (expected_meanings machine dll) exports) ≡ flat_map (λ e. aliases_for e.name e.alias_target) exports
  aliases_among [] = refl
  aliases_among (e ∷ exports) = grind (arith, aliases_among exports, filter_map-append, its_aliases)

-- The members.

read_meaning : (head tail : File) (specs : List MemberSpec) → AllByRecursion (λ p. ReadsBack p.contents) specs →
    map (λ (m : MemberView). option_and_then (meaning_with head tail) (file_in m.bytes)) (map member_of specs) ≡ map (λ (p : MemberSpec). meaning_with head tail (file_of p.contents)) specs
read_meaning head tail [] reads = refl
read_meaning head tail (p ∷ specs) reads = grind (arith, read_meaning head tail specs reads.1)

read_code : (specs : List MemberSpec) → AllByRecursion (λ p. ReadsBack p.contents) specs →
    filter_map (λ (m : MemberView). option_and_then code_of_export (file_in m.bytes)) (map member_of specs) ≡ filter_map (λ (p : MemberSpec). code_of_export (file_of p.contents)) specs
read_code [] reads = refl
read_code (p ∷ specs) reads = rw (reads.0.read, read_code specs reads.1) refl

reversed_all : {X : Type 0} (P : X → Type 0) (xs : List X) → AllByRecursion P xs → AllByRecursion P (reverse xs)
reversed_all P [] all = tt
reversed_all P (x ∷ xs) all = subst (AllByRecursion P) (sym (reverse-append (x ∷ []) xs)) (all_append P (reverse xs) (x ∷ []) (reversed_all P xs all.1) (all.0, tt))

-- the tail, the head, and the members of exports' objects of one kind, none of them too long, are read as they are specified
module _ (machine : MachineType) (dll : NamesOfDll) (linked_free : holds 0 dll.linked ≡ false) (object : ExportView → WriterState) (listed : ExportView → List (List ℕ)) (import : ExportView → Import) (read : AreRead machine dll object listed import)
    (numbered : ℕ → List ExportView → List MemberSpec) (steps : AreNumbered (specs_by machine dll object listed) numbered)
    (exports : List ExportView) (sound : AllByRecursion Sound exports) (members : List MemberView)
    (made : members ≡ map member_of (tail_spec machine dll ∷ head_spec machine dll.linked ∷ reverse (numbered 0 exports)))
    (short : list_any is_too_long (tail_spec machine dll ∷ head_spec machine dll.linked ∷ reverse (numbered 0 exports)) ≡ false) where
  abbrev built : List MemberSpec
  built = numbered 0 exports

  abbrev all : List MemberSpec
  all = tail_spec machine dll ∷ head_spec machine dll.linked ∷ reverse built

  abbrev pub head : File
  head = head_file machine dll object listed import read numbered steps

  abbrev pub tail : File
  tail = tail_file machine dll object listed import read numbered steps

  tail_short : (is_too_long (tail_spec machine dll) ≡ false) × (is_too_long (head_spec machine dll.linked) || list_any is_too_long (reverse built) ≡ false)
  tail_short = or_parts (is_too_long (tail_spec machine dll)) _ short

  head_short : (is_too_long (head_spec machine dll.linked) ≡ false) × (list_any is_too_long (reverse built) ≡ false)
  head_short = or_parts (is_too_long (head_spec machine dll.linked)) (list_any is_too_long (reverse built)) tail_short.1

  built_read : AllByRecursion (λ p. ReadsBack p.contents) built
  built_read = numbered_read machine dll object listed import read numbered steps 0 exports sound (sym (list_any-reverse is_too_long built) ∙ head_short.1)

  tail_back : ReadsBack (AnObject (layout_of (tail_object machine dll)))
  unfolding tail_spec
  tail_back = held_reads (tail_object machine dll) (Fits-tail_object machine dll linked_free) (short_enough (tail_spec machine dll) tail_short.0)

  head_back : ReadsBack (AnObject (layout_of (head_object machine dll.linked)))
  unfolding head_spec
  head_back = held_reads (head_object machine dll.linked) (Fits-head_object machine dll.linked linked_free) (short_enough (head_spec machine dll.linked) head_short.0)

  pub all_read : AllByRecursion (λ p. ReadsBack p.contents) all
  unfolding tail_spec head_spec
  all_read = (tail_back, (head_back, reversed_all (λ (p : MemberSpec). ReadsBack p.contents) built built_read))

  of_members : {Y : Type 0} (f : MemberView → Y) → map f members ≡ map (λ p. f (member_of p)) all
  of_members f = ap (map f) made ∙ map_after f member_of all

  -- the members after the tail and the head, turned round, are those that were built
  behind : reverse (drop 2 members) ≡ map member_of built
  behind = grind (arith, map-reverse, reverse-reverse)

  pub files : map (λ m. file_in m.bytes) members ≡ map (λ p. Some (file_of p.contents)) all
  files = grind (arith, of_members, map_same, each_read, all_read)

  pub lengths : map (λ m. length m.bytes) members ≡ map (λ p. file_size p.contents) all
  lengths = grind (arith, of_members, map_same, each_length, all_read)

  pub declared : map (λ m. option_map declared_by (file_in m.bytes)) members ≡ map (λ m. Some m.symbols) members
  declared =
      of_members (λ m. option_map declared_by (file_in m.bytes))
      ∙ (map_same (λ (p : MemberSpec). option_map declared_by (file_in (file_bytes p.contents))) (λ (p : MemberSpec). Some p.symbols) all
      (read_declares all all_read
      (tail_declares machine dll, (head_declares machine dll.linked, reversed_all DeclaresListed built (numbered_declare machine dll object listed import read numbered steps 0 exports))))
      ∙ sym (of_members (λ m. Some m.symbols)))

  pub tail_read : file_at members 0 ≡ Some tail
  unfolding tail_spec
  tail_read = ap (λ (x : List MemberView). file_at x 0) made ∙ tail_back.read

  pub head_read : file_at members 1 ≡ Some head
  unfolding head_spec
  head_read = ap (λ (x : List MemberView). file_at x 1) made ∙ head_back.read

  pub meanings_read : map (λ m. option_and_then (meaning_with head tail) (file_in m.bytes)) (reverse (drop 2 members))
      ≡ map (λ m. Some m) (flat_map (meanings machine dll object listed import read numbered steps) exports)
  meanings_read =
      ap (map (λ (m : MemberView). option_and_then (meaning_with head tail) (file_in m.bytes))) behind
      ∙ (read_meaning head tail built built_read ∙ numbered_specified machine dll object listed import read numbered steps 0 exports sound)

  pub code_read : filter_map (λ m. option_and_then code_of_export (file_in m.bytes)) (reverse (drop 2 members)) ≡ map (expected_code machine) exports
  code_read = grind (arith, behind, read_code, built_read, numbered_code, read, steps)

-- the members of a definition that is not refused are read as the definition means
module _ (d : DefinitionView) (machine : MachineType) (members : List MemberView) (made : AreMembersOf d machine Gnu members) where
  abbrev exports : List ExportView
  exports = public_exports (renamed d)

  abbrev dll : NamesOfDll
  dll = names_for Gnu d

  abbrev numbered : ℕ → List ExportView → List MemberSpec
  numbered = numbered_specs machine dll.linked

  free : holds 0 dll.linked ≡ false
  free = linked_is_free d machine Gnu members made

  read : AreRead machine dll (export_object machine dll.linked) archive_symbols (expected_import machine dll.text)
  read = export_reads machine dll free (import_name_is_free d machine Gnu members made)

  steps : AreNumbered (specs_by machine dll (export_object machine dll.linked) archive_symbols) numbered
  unfolding export_spec
  steps = record { none = λ number. refl; more = λ number e exports. refl }

  sound : AllByRecursion Sound exports
  sound = exports_sound d machine Gnu members made

  short : list_any is_too_long (member_specs (renamed d) machine Gnu) ≡ false
  short = none_long d machine Gnu members made

  pub member_specs_read : AllByRecursion (λ p. ReadsBack p.contents) (member_specs (renamed d) machine Gnu)
  member_specs_read = all_read machine dll free (export_object machine dll.linked) archive_symbols (expected_import machine dll.text) read numbered steps exports sound members made.made short

  pub reads_for_gnu : GnuReadBack d machine members
  reads_for_gnu =
      let object = export_object machine dll.linked in
      let import = expected_import machine dll.text in record {
        files = files machine dll free object archive_symbols import read numbered steps exports sound members made.made short;
        lengths = lengths machine dll free object archive_symbols import read numbered steps exports sound members made.made short;
        declared = declared machine dll free object archive_symbols import read numbered steps exports sound members made.made short;
        tail = tail machine dll free object archive_symbols import read numbered steps exports sound members made.made short;
        head = head machine dll free object archive_symbols import read numbered steps exports sound members made.made short;
        tail_read = tail_read machine dll free object archive_symbols import read numbered steps exports sound members made.made short;
        head_read = head_read machine dll free object archive_symbols import read numbered steps exports sound members made.made short;
        meanings = flat_map (expected_meanings machine d.import_name) exports;
        meanings_read = meanings_read machine dll free object archive_symbols import read numbered steps exports sound members made.made short;
        by_export = refl;
        imports = all_imports machine d.import_name exports;
        aliases = aliases_among machine d.import_name exports;
        code = code_read machine dll free object archive_symbols import read numbered steps exports sound members made.made short;
      }
