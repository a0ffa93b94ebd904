-- What is linked of a definition for GNU's linker is a part, and parts that store no address whole are steady.
use Rattle.std.proofs.Common.{rules, ◌≡◌, ℕ, ◌+◌, ◌*◌, ◌-◌, ◌%◌, ◌/◌, ◌^◌, ◌<◌, true, false, List, [], ◌∷◌, ◌++◌, codes, map, Option, Some, None, refl, ap, sym, ◌∙◌, subst, inl, inr, arith, ◌≤◌, zero, suc, length}
use Rattle.std.specs.Prelude.{Bool, bytes_eq, not, slice_get, take, if◌then◌else◌}
use Rattle.std.specs.List.{AllByRecursion, filter_map, list_all, list_any, Contains, cons_option}
use Rattle.std.proofs.lemmas.List.{append_assoc}
use Rattle.std.proofs.lemmas.Bool.{and_from, cases_Bool, lt-ltb, ltb-true, and_parts, eqb-true}
use Rattle.implib.specs.declared.coff.object.Place.TheVariants.{Section, Undefined}
use Rattle.implib.specs.declared.coff.object.Relocation.{Relocation}
use Rattle.implib.specs.declared.machine.MachineType.{MachineType}
use Rattle.implib.specs.Definition.{ExportView}
use Rattle.implib.specs.Formats.Bytes.{u16_bytes}
use Rattle.implib.specs.Formats.Constants.{class_external, class_static, align_4bytes, cnt_code, mem_execute_read}
use Rattle.implib.specs.Formats.Layout.{HasNoNul, Fits, encoded, encoded_size}
use Rattle.implib.specs.Formats.Object.{Entry, Object, ObjectSection, object_in, ASymbol, Auxiliary, ObjectSymbol, section_numbered}
use Rattle.implib.specs.Formats.Writer.{AddedSymbol, all_entries, written_object, WriterState, layout_of}
use Rattle.implib.specs.Import.{Name, Ordinal, expected_ask, imp_symbol, name_asked, holds, public_exports}
use Rattle.implib.specs.LibraryName.{NamesOfDll, names_for}
use Rattle.implib.specs.declared.flavor.Flavor.TheVariants.{Gnu}
use Rattle.implib.specs.Link.LinkedMembers.{IsMade, LinkInput, chosen_exports, objects_in}
use Rattle.implib.specs.Link.Load.{number_in}
use Rattle.implib.specs.Link.Placement.{Addresses, Bases, Lookups, placed_from, Placed, SectionAddress, section_addresses_of}
use Rattle.implib.specs.Members.Gnu.{added, code_symbol, export_object, head_object, head_symbol, hint_name, hint_name_symbol, relocations_of_thunk, tail_object, thunk, relocations_of_stub, section, stub, stub_bytes, stub_relocations, text_name}
use Rattle.implib.specs.Members.ImportTables.{relocation, thunk_width, zeros}
use Rattle.implib.specs.Members.OlderSymbols.{object_with, AreOlderMembersOf, numbered_older_specs, older_object, older_refusal, older_renamed_refusal, older_spec, older_specs, older_specs_of, older_symbol}
use Rattle.implib.proofs.Formats.Symbols.{before_nul-ended}
use Rattle.implib.proofs.Link.Definitions.{same_text}
use Rattle.implib.proofs.Link.Linked.{all_append}
use Rattle.implib.proofs.Link.LinkedMembers.{dll_free, exports_fit, objects_are, all_at, among_contains, among_map, among_reverse}
use Rattle.implib.proofs.Link.Placement.{head, tail}
use Rattle.implib.proofs.Link.Tables.{CanBeAsked}
use Rattle.implib_link.specs.Flavors.Program.{null_descriptor}
use Rattle.implib_link.specs.Gnu.Fields.{absolute_width, Defines, PlacedCode, StubAt}
use Rattle.implib_link.specs.Parts.{AreEntries, BeginWithHead, HoldsFields, IsEntry, IsPart, IsProgramOfParts, Part, ask_of, begins, entry_name, hint_and_name, is_whole, named_bytes, names_entry, objects_of_parts, ordinal_with, own_bytes, part_of, row_in, stores_none, older_linked, older_numbered, older_part_of, is_in_group, leads_to}
use Rattle.implib_link.specs.Tables.{AreSteady, TableEntry, Table, tables_at}
use Rattle.implib_link.proofs.Gnu.Others.{no_group, one_definer}
use Rattle.implib_link.proofs.Flavors.Steady.{AllSteady, NoneAbsolute, all_steady, tables_none}
use Rattle.implib_link.proofs.Gnu.Packed.{export_sized, head_sized, tail_sized}
use Rattle.implib_link.proofs.Search.Lists.{all_from, each_of, none_among, contains_among}
use Rattle.implib.specs.Fault.{MemberTooLong}
use Rattle.implib.specs.Members.GnuMembers.{head_spec, tail_spec}
use Rattle.implib.specs.Members.MemberSpec.{MemberSpec, file_size, member_of}
use Rattle.implib.specs.Members.Members.{is_too_long, length_refusal}
use Rattle.implib.specs.Members.NameRules.{definition_names_refusal}
use Rattle.implib.specs.Renaming.{renamed}
use Rattle.implib.proofs.Formats.ObjectReading.{object_in-encoded}
use Rattle.implib.proofs.Formats.WriterLayout.{object_of-layout_of}
use Rattle.implib.proofs.Link.Ranges.{Among, among_back, among_first, among_front, among_later}
use Rattle.implib.proofs.Members.GnuObjects.{Fits-head_object, Fits-older_object, Fits-tail_object}
use Rattle.implib.proofs.Members.NotRefused.{Sound, first_none, if_none, linked_free_by_names, name_asked_free, short_enough, sound_by_names, text_free_by_names}
use Rattle.implib.specs.Formats.File.{is_defined_external}
use Rattle.implib.specs.Link.Resolution.{SymbolDefinition, address_in, defined_by_entry, definitions_of, symbol_address}
use Rattle.implib_link.proofs.Flavors.LldImports.{get_map}
use Rattle.implib_link.proofs.Flavors.Stubs.{symbol_of_entry}
use Rattle.implib_link.proofs.Tables.{packed_at}
use Rattle.implib_link.proofs.Parts.Heads.{group_address}
use Rattle.implib_link.proofs.Parts.Programs.{defined_once, entry_placed, kept_is_linked}
use Rattle.implib_link.proofs.Gnu.Loaded.{plus_none}

-- The object of an export, whose last symbols are these, and such objects with the tail.

abbrev pub exported : MachineType → NamesOfDll → List AddedSymbol → ExportView → Object
exported machine dll more e = written_object (object_with machine e
    (added (head_symbol machine dll.linked) Undefined class_external
    ∷ (code_symbol e ++ added (imp_symbol e.name) (Section 5) class_external ∷ added (codes ".idata$6") (Section 7) class_static ∷ more)))

abbrev pub after_by : MachineType → NamesOfDll → (ExportView → List AddedSymbol) → List ExportView → List Object
after_by machine dll more es = map (λ e. exported machine dll (more e) e) es ++ tail machine dll ∷ []

-- The head.

head_row : (machine : MachineType) (dll : NamesOfDll) → row_in machine (head machine dll) ≡ Some (record { lookups = 3; name = 5; addresses = 2 })
unfolding head_object
head_row machine dll = grind arith

head_lookups : (machine : MachineType) (dll : NamesOfDll) → begins Lookups (head machine dll) 3 ≡ true
unfolding head_object
head_lookups machine dll = refl

last_named : (machine : MachineType) (dll : NamesOfDll) (more : ExportView → List AddedSymbol) (name : List ℕ) (es : List ExportView) → named_bytes name (after_by machine dll more es) ≡ named_bytes name (tail machine dll ∷ [])
last_named machine dll more name (e ∷ f ∷ es) = last_named machine dll more name (f ∷ es)
last_named machine dll more name es = cc

-- An export.

-- the names at its entry, by whether it is of data
abbrev names_at : MachineType → NamesOfDll → List AddedSymbol → ExportView → List Entry → List (List ℕ)
names_at machine dll more e entries = filter_map (entry_name (exported machine dll more e).sections) entries

pub names_are : (machine : MachineType) (dll : NamesOfDll) (more : List AddedSymbol) (e : ExportView) → names_at machine dll more e (exported machine dll more e).entries ≡ imp_symbol e.name ∷ names_at machine dll more e (all_entries more)
names_are machine dll more e = grind arith

hint_read : (n : ℕ) (text : List ℕ) → n < 2 ^ 16 → HasNoNul text → hint_and_name (u16_bytes n ++ (text ++ 0 ∷ [])) ≡ Some (Name text n)
unfolding u16_bytes
hint_read n text small free = grind (arith, lt-ltb, before_nul-ended, free)

number_read : (n : ℕ) (rest : List ℕ) → n < 2 ^ 16 → number_in (take 2 (u16_bytes n ++ rest)) ≡ n
unfolding u16_bytes
number_read n rest small = let plain : n % 256 + 256 * (n / 256 % 256 + 256 * 0) ≡ n = omega arith in plain

ordinal_read : (machine : MachineType) (n : ℕ) → n < 2 ^ 16 → ordinal_with machine (u16_bytes n ++ (zeros (thunk_width machine - 3) ++ 0x80 ∷ [])) n ≡ Some (Ordinal n)
ordinal_read machine n small = rw (same_text (u16_bytes n ++ (zeros (thunk_width machine - 3) ++ 0x80 ∷ [])), lt-ltb n (2 ^ 16) small) refl

same_zeros : (machine : MachineType) → bytes_eq (zeros (thunk_width machine)) (zeros (thunk_width machine)) ≡ true
same_zeros machine = same_text (zeros (thunk_width machine))

module _ (machine : MachineType) (dll : NamesOfDll) (more : List AddedSymbol) (e : ExportView) (fits : CanBeAsked machine e) where
  own_hint : e.no_name ≡ false → own_bytes (exported machine dll more e) (slice_get (exported machine dll more e).entries (hint_name_symbol e)) ≡ Some (u16_bytes e.ordinal ++ (name_asked machine e ++ 0 ∷ []))
  unfolding hint_name
  own_hint is = elim (cases_Bool e.is_data) [ inl of_data ↦ rw (of_data, is) refl | inr of_code ↦ rw (of_code, is) refl ]

  named_thunk : e.no_name ≡ false → thunk machine e ≡ zeros (thunk_width machine)
  unfolding thunk
  named_thunk is = rw is refl

  named_field : e.no_name ≡ false → relocations_of_thunk machine e ≡ relocation machine 0 (hint_name_symbol e) ∷ []
  unfolding relocations_of_thunk
  named_field is = rw is refl

  ordinal_thunk_is : e.no_name ≡ true → thunk machine e ≡ u16_bytes e.ordinal ++ (zeros (thunk_width machine - 3) ++ 0x80 ∷ [])
  unfolding thunk
  ordinal_thunk_is is = rw is refl

  no_field : e.no_name ≡ true → relocations_of_thunk machine e ≡ []
  unfolding relocations_of_thunk
  no_field is = rw is refl

  asks : ask_of machine (exported machine dll more e) (thunk machine e) (relocations_of_thunk machine e) ≡ Some (expected_ask machine e)
  asks = grind (arith, no_field, ordinal_thunk_is, number_read, ordinal_read, named_field, named_thunk, own_hint, hint_read)

  export_entry : (name : List ℕ) → names_entry (exported machine dll more e) (Some name) ≡ true → IsEntry machine (exported machine dll more e) (record { ask = expected_ask machine e; symbol = Some name })
  export_entry name named = record { descriptors = refl; lookup = asks; address = asks; symbol = named }

-- Exports whose objects have these further symbols, and whose entries have these names.
module _ (machine : MachineType) (dll : NamesOfDll) (more : ExportView → List AddedSymbol) (name : ExportView → List ℕ)
    (named : (e : ExportView) → names_entry (exported machine dll (more e) e) (Some (name e)) ≡ true) where
  abbrev entry_for : ExportView → TableEntry
  entry_for e = record { ask = expected_ask machine e; symbol = Some (name e) }

  entries_are : (es : List ExportView) → AllByRecursion (CanBeAsked machine) es → AreEntries machine (after_by machine dll more es) (map entry_for es)
  unfolding AreEntries tail_object
  entries_are [] fit = record { descriptors = refl; lookup = rw (same_zeros machine) refl; address = rw (same_zeros machine) refl }
  entries_are (e ∷ es) fit = (export_entry machine dll (more e) e fit.0 (name e) (named e), entries_are es fit.1)

  begin_with_head : (es : List ExportView) → HasNoNul dll.text → AllByRecursion (CanBeAsked machine) es →
      BeginWithHead machine (head machine dll ∷ after_by machine dll more es) (record { dll = dll.text; entries = map entry_for es })
  unfolding BeginWithHead head_object tail_object
  begin_with_head es free fit = grind (arith, head_row machine dll, head_lookups machine dll, entries_are es fit, free, last_named, before_nul-ended, same_text)

  sized : (es : List ExportView) → AllByRecursion HoldsFields (after_by machine dll more es)
  unfolding export_object
  sized [] = (tail_sized machine dll, tt)
  sized (e ∷ es) = (export_sized machine dll e, sized es)

  pub part_is : (objects : List Object) (es : List ExportView) → objects ≡ head machine dll ∷ after_by machine dll more es → HasNoNul dll.text → AllByRecursion (CanBeAsked machine) es →
      IsPart machine (record { objects = objects; table = record { dll = dll.text; entries = map entry_for es } })
  part_is objects es are free fit = grind (arith, objects, begin_with_head, free, fit, sized, head_sized)

-- Today's members.

today_named : (machine : MachineType) (dll : NamesOfDll) (e : ExportView) → names_entry (exported machine dll [] e) (Some (imp_symbol e.name)) ≡ true
today_named machine dll e = ap (list_any (bytes_eq (imp_symbol e.name))) (names_are machine dll [] e) ∙ rw (same_text (imp_symbol e.name)) refl

pub members_objects : (machine : MachineType) (p : LinkInput) → IsMade machine p →
    (part_of machine p).objects ≡ head machine (names_for Gnu p.definition) ∷ after_by machine (names_for Gnu p.definition) (λ e. []) (chosen_exports p.definition p.chosen)
unfolding export_object
members_objects machine p made = grind (arith, objects_are p.definition machine p.members p.chosen made, head)

pub members_are_part : (machine : MachineType) (p : LinkInput) → IsMade machine p → IsPart machine (part_of machine p)
members_are_part machine p made =
    let dll : NamesOfDll = names_for Gnu p.definition in
    part_is machine dll (λ e. []) (λ e. imp_symbol e.name) (today_named machine dll) (part_of machine p).objects (chosen_exports p.definition p.chosen)
    (members_objects machine p made) (dll_free p.definition machine p.members p.chosen made) (exports_fit p.definition machine p.members p.chosen made)

-- Parts that store no address whole.

fields_none : (machine : MachineType) (relocations : List Relocation) → list_all (λ r. not (is_whole (absolute_width machine r.kind))) relocations ≡ true → NoneAbsolute machine relocations
fields_none machine relocations all = grind (arith, all_from, each_of)

each_steady : (machine : MachineType) (parts : List Part) → AllByRecursion (λ (p : Part). list_all (stores_none machine) p.objects ≡ true) parts → AllByRecursion (AllSteady machine) (objects_of_parts parts ++ null_descriptor ∷ [])
each_steady machine [] all = ((inr tt, tt), tt)
each_steady machine (p ∷ parts) all =
    subst (AllByRecursion (AllSteady machine)) (sym (append_assoc p.objects (objects_of_parts parts) (null_descriptor ∷ [])))
    (all_append (AllSteady machine) p.objects (objects_of_parts parts ++ null_descriptor ∷ [])
    (all_from (AllSteady machine) p.objects (λ o held. (grind (arith, all_from, each_of, fields_none, no_group, each_of (stores_none machine) o p.objects all.0 held)))) (each_steady machine parts all.1))

pub parts_steady : (machine : MachineType) (bases : Bases) (parts : List Part) (objects : List Object) → IsProgramOfParts machine bases parts objects →
    AllByRecursion (λ (p : Part). list_all (stores_none machine) p.objects ≡ true) parts → AreSteady machine (placed_from bases objects)
parts_steady machine bases parts objects program all = grind (arith, tables_none, objects, all_steady, each_steady)

-- Members store none.

module _ (machine : MachineType) (dll : NamesOfDll) (more : ExportView → List AddedSymbol) where
  exports_none : (es : List ExportView) → list_all (stores_none machine) (after_by machine dll more es) ≡ true
  unfolding tail_object relocations_of_thunk
  exports_none [] = refl
  exports_none (e ∷ es) = grind (arith, exports_none es, and_from)

  pub part_stores_none : (objects : List Object) (es : List ExportView) → objects ≡ head machine dll ∷ after_by machine dll more es → list_all (stores_none machine) objects ≡ true
  unfolding head_object
  part_stores_none objects es are = grind (arith, and_from, head, exports_none)

pub members_store_none : (machine : MachineType) (p : LinkInput) → IsMade machine p → list_all (stores_none machine) (part_of machine p).objects ≡ true
members_store_none machine p made = search (rules, part_stores_none, members_objects)

-- What is linked of a definition whose members have older symbols: members of it, and a part.

-- what a writer wrote reads as what it holds
held_reads : (h : WriterState) → Fits (layout_of h) → encoded_size (layout_of h) ≤ 0xFFFF_FFFF → object_in (encoded (layout_of h)) ≡ Some (written_object h)
held_reads h fits short = grind (arith, object_in-encoded, object_of-layout_of)

-- the specification of each export is among those of the definition
numbered_among : (machine : MachineType) (dll : List ℕ) (exports : List ExportView) (start n : ℕ) (e : ExportView) → slice_get exports n ≡ Some e →
    Among (older_spec machine dll (start + n) e) (numbered_older_specs machine dll start exports)
numbered_among machine dll (x ∷ exports) start (suc n) e is =
    among_back _ (older_specs_of machine dll start x) (numbered_older_specs machine dll (start + 1) exports)
    (subst (λ n. Among (older_spec machine dll n e) (numbered_older_specs machine dll (start + 1) exports)) (omega arith) (numbered_among machine dll exports (start + 1) n e is))
numbered_among machine dll exports start n e is = grind (arith, among_front, among_back, among_first)

-- the further symbol of each export
abbrev pub further : ExportView → List AddedSymbol
further e = added (older_symbol e.name) (Section 5) class_external ∷ []

abbrev pub name_by : (ExportView → Bool) → ExportView → List ℕ
name_by older e = if older e then older_symbol e.name else imp_symbol e.name

-- each of the two names is at the entry
both_named : (machine : MachineType) (dll : NamesOfDll) (older : ExportView → Bool) (e : ExportView) → names_entry (exported machine dll (further e) e) (Some (name_by older e)) ≡ true
both_named machine dll older e = grind (arith, names_are, same_text)

module _ (machine : MachineType) (p : LinkInput) (made : AreOlderMembersOf p.definition machine p.members) where
  abbrev dll : NamesOfDll
  dll = names_for Gnu p.definition

  abbrev exports : List ExportView
  exports = public_exports (renamed p.definition)

  abbrev specs : List MemberSpec
  specs = older_specs (renamed p.definition) machine

  refusals : (definition_names_refusal (renamed p.definition) machine Gnu ≡ None) × (length_refusal specs ≡ None)
  unfolding older_refusal older_renamed_refusal
  refusals = first_none (definition_names_refusal (renamed p.definition) machine Gnu) (length_refusal specs) made.accepted

  free : holds 0 dll.linked ≡ false
  free = linked_free_by_names p.definition machine Gnu refusals.0

  text_free : holds 0 dll.text ≡ false
  text_free = text_free_by_names p.definition machine Gnu refusals.0

  sound : AllByRecursion Sound exports
  sound = sound_by_names p.definition machine Gnu refusals.0 made.ordinals

  size_of : (s : MemberSpec) → Among s specs → file_size s.contents ≤ 0xFFFF_FFFF
  size_of s m = short_enough s (none_among is_too_long s specs m (if_none (list_any is_too_long specs) MemberTooLong None refusals.1).0)

  tail_among : Among (tail_spec machine dll) specs
  tail_among = among_first _ _

  head_among : Among (head_spec machine dll.linked) specs
  head_among = among_later _ _ _ (among_first _ _)

  export_among : (n : ℕ) (e : ExportView) → slice_get exports n ≡ Some e → Among (older_spec machine dll.linked n e) specs
  export_among n e is = grind (arith, numbered_among machine dll.linked exports 0 n e is, among_later, among_reverse)

  tail_reads : object_in (member_of (tail_spec machine dll)).bytes ≡ Some (tail machine dll)
  unfolding tail_spec
  tail_reads = held_reads (tail_object machine dll) (Fits-tail_object machine dll free) (size_of (tail_spec machine dll) tail_among)

  head_reads : object_in (member_of (head_spec machine dll.linked)).bytes ≡ Some (head machine dll)
  unfolding head_spec
  head_reads = held_reads (head_object machine dll.linked) (Fits-head_object machine dll.linked free) (size_of (head_spec machine dll.linked) head_among)

  export_reads : (n : ℕ) (e : ExportView) → slice_get exports n ≡ Some e → object_in (member_of (older_spec machine dll.linked n e)).bytes ≡ Some (exported machine dll (further e) e)
  unfolding older_spec older_object
  export_reads n e is =
      let good = all_at Sound exports n e sound is in
      held_reads (older_object machine dll.linked e) (Fits-older_object machine dll.linked e free good.name good.filled) (size_of (older_spec machine dll.linked n e) (export_among n e is))

  fit : (n : ℕ) (e : ExportView) → slice_get exports n ≡ Some e → CanBeAsked machine e
  fit n e is = (let good = all_at Sound exports n e sound is in record { ordinal = ltb-true e.ordinal 0x1_0000 good.ordinal; name = name_asked_free machine e good })

  -- what is linked after the head
  abbrev behind : List ℕ → List MemberSpec
  behind ns = filter_map (older_numbered machine dll.linked exports) ns ++ tail_spec machine dll ∷ []

  -- what is known of chosen exports
  record AreChosen (ns : List ℕ) : Type 0 where
    objects : objects_in (map member_of (behind ns)) ≡ after_by machine dll further (filter_map (slice_get exports) ns)
    held : AllByRecursion (Contains p.members) (map member_of (behind ns))
    asked : AllByRecursion (CanBeAsked machine) (filter_map (slice_get exports) ns)

  held_by : (s : MemberSpec) → Among s specs → Contains p.members (member_of s)
  held_by s m = subst (λ ms. Contains ms (member_of s)) (sym made.made) (among_contains (member_of s) (map member_of specs) (among_map member_of s specs m))

  all_chosen : (ns : List ℕ) → AreChosen ns
  all_chosen [] = record { objects = ap (λ o. cons_option o []) tail_reads; held = (held_by (tail_spec machine dll) tail_among, tt); asked = tt }
  all_chosen (n ∷ ns) = grind (arith, all_chosen ns, export_reads, held_by, export_among, fit)

  pub older_held : AllByRecursion (Contains p.members) (older_linked p.definition machine p.chosen)
  older_held = (held_by (head_spec machine dll.linked) head_among, (all_chosen p.chosen).held)

  pub older_objects : objects_in (older_linked p.definition machine p.chosen) ≡ head machine dll ∷ after_by machine dll further (chosen_exports p.definition p.chosen)
  older_objects = ap (λ o. cons_option o (objects_in (map member_of (behind p.chosen)))) head_reads ∙ ap (λ os. head machine dll ∷ os) (all_chosen p.chosen).objects

  pub older_part : (older : ExportView → Bool) → IsPart machine (older_part_of machine older p)
  older_part older =
      part_is machine dll further (name_by older) (both_named machine dll older) (objects_in (older_linked p.definition machine p.chosen)) (chosen_exports p.definition p.chosen) older_objects text_free (all_chosen p.chosen).asked

  pub older_stores_none : (older : ExportView → Bool) → list_all (stores_none machine) (older_part_of machine older p).objects ≡ true
  older_stores_none older = part_stores_none machine dll further (objects_in (older_linked p.definition machine p.chosen)) (chosen_exports p.definition p.chosen) older_objects

-- The code of a member's export is the stub of its entry, beside libraries of any makers.

-- an external that an object defines is a definition
definition_held : (addresses : List SectionAddress) (s : ObjectSymbol) (entries : List Entry) → is_defined_external s ≡ true → Among (ASymbol s) entries →
    Among (record { name = s.name; address = address_in addresses s.section s.value }) (filter_map (defined_by_entry addresses) entries)
unfolding Among
definition_held addresses s [] external m = absurd m
definition_held addresses s (x ∷ entries) external (inl same) = subst (λ y. Among (record { name = s.name; address = address_in addresses s.section s.value }) (filter_map (defined_by_entry addresses) (y ∷ entries))) same (rw external (inl refl))
definition_held addresses s (Auxiliary bytes ∷ entries) external (inr m) = definition_held addresses s entries external m
definition_held addresses s (ASymbol t ∷ entries) external (inr m) = grind (arith, definition_held addresses s entries external m)

-- An object has the stub of its entry under a name, at the beginning of its first section.
abbrev named_code : List ℕ → ObjectSymbol
named_code name = record { name = name; value = 0; section = 1; kind = 0; class = class_external }

abbrev stub_section : MachineType → ObjectSection
stub_section machine = section text_name (cnt_code + align_4bytes + mem_execute_read) (stub_bytes machine) (stub_relocations machine 2)

record HasStub (machine : MachineType) (o : Object) (name : List ℕ) : Type 0 where
  defined : Among (ASymbol (named_code name)) o.entries
  code : slice_get o.sections 0 ≡ Some (stub_section machine)
  entry : leads_to Addresses o (slice_get o.entries 2) ≡ true

-- a symbol at the entry has its address
entry_found : (linked : List Placed) (o : Object) (b : Bases) → ((number value : ℕ) → is_in_group Addresses (section_numbered o.sections number) ≡ true → address_in (section_addresses_of b o.sections) number value ≡ Some (b.addresses + value)) →
    (found : Option Entry) → leads_to Addresses o found ≡ true →
    (x : Entry) × ((found ≡ Some x) × (symbol_address linked (record { object = o; section_addresses = section_addresses_of b o.sections }) x ≡ Some b.addresses))
entry_found linked o b place _ led = grind (arith, and_parts, cases_Bool, eqb-true, plus_none)

module _ (machine : MachineType) (bases : Bases) (parts : List Part) (objects : List Object) (are : AllByRecursion (IsPart machine) parts) (program : IsProgramOfParts machine bases parts objects) where
  abbrev linked : List Placed
  linked = placed_from bases objects

  stub_of_part : (i j : ℕ) (x : Table) (p : Part) (o : Object) (e : TableEntry) (name : List ℕ) (d : PlacedCode) (t : ObjectSymbol) → slice_get parts i ≡ Some p → slice_get p.objects (suc j) ≡ Some o →
      slice_get p.table.entries j ≡ Some e → HasStub machine o name → slice_get (tables_at machine bases objects (map (λ (q : Part). q.table) parts)).tables i ≡ Some x →
      Contains linked d.from → section_numbered d.from.object.sections d.number ≡ Some d.code → Defines d t → t.name ≡ name → StubAt machine linked d t (x.address + thunk_width machine * j)
  stub_of_part i j x p o e name d t own_part own_object own_entry stub own_table d_from d_section defines named =
      let packed = packed_at (thunk_width machine) (map (λ (q : Part). q.table) parts) bases.addresses i x own_table in
      let place = entry_placed machine bases parts objects are program i j p o e own_part own_object own_entry in
      let own : Placed = record { object = o; section_addresses = section_addresses_of place.bases o.sections } in
      let symbol : ObjectSymbol = named_code name in
      let definition : SymbolDefinition = record { name = name; address = address_in own.section_addresses 1 0 } in
      let once : definitions_of name linked ≡ definition ∷ [] = defined_once machine bases parts objects are program own definition place.held (definition_held own.section_addresses symbol o.entries refl stub.defined) in
      let most : length (definitions_of name linked) ≤ 1 = rw once (omega arith) in
      let one = one_definer name linked d.from own t symbol most (contains_among d.from linked d_from) (contains_among (ASymbol t) d.from.object.entries defines.held) defines.external named
      (kept_is_linked machine bases parts objects are program own place.held) stub.defined refl refl in
      grind (arith, symbol_of_entry t symbol one.1, entry_found linked o place.bases (group_address Addresses o place.bases place.section place.only place.aligned.addresses) (slice_get o.entries 2) stub.entry)

-- The object of an export of code has its stub.

has_stub : (machine : MachineType) (dll : NamesOfDll) (more : List AddedSymbol) (e : ExportView) → e.is_data ≡ false → HasStub machine (exported machine dll more e) e.name
unfolding stub relocations_of_stub
has_stub machine dll more e is =
    subst (λ b. HasStub machine (exported machine dll more (record e { is_data = b })) e.name) (sym is) (record { defined = among_later _ _ _ (among_first _ _); code = refl; entry = refl })

after_get : (machine : MachineType) (dll : NamesOfDll) (more : ExportView → List AddedSymbol) (es : List ExportView) (j : ℕ) (e : ExportView) → slice_get es j ≡ Some e → slice_get (after_by machine dll more es) j ≡ Some (exported machine dll (more e) e)
after_get machine dll more [] j e is = cc
after_get machine dll more (x ∷ es) zero e is = let same : x ≡ e = cc in ap (λ y. Some (exported machine dll (more y) y)) same
after_get machine dll more (x ∷ es) (suc j) e is = after_get machine dll more es j e is

pub stub_beside : (machine : MachineType) (bases : Bases) (parts : List Part) (objects : List Object) (i j : ℕ) (x : Table) (p : LinkInput) (e : ExportView) (d : PlacedCode) (t : ObjectSymbol) →
    AllByRecursion (IsPart machine) parts → IsProgramOfParts machine bases parts objects → IsMade machine p → slice_get parts i ≡ Some (part_of machine p) →
    slice_get (tables_at machine bases objects (map (λ (q : Part). q.table) parts)).tables i ≡ Some x → slice_get (chosen_exports p.definition p.chosen) j ≡ Some e → e.is_data ≡ false →
    Contains (placed_from bases objects) d.from → section_numbered d.from.object.sections d.number ≡ Some d.code → Defines d t → t.name ≡ e.name →
    StubAt machine (placed_from bases objects) d t (x.address + thunk_width machine * j)
stub_beside machine bases parts objects i j x p e d t are program made own_part own_table chosen is =
    let dll : NamesOfDll = names_for Gnu p.definition in
    let es : List ExportView = chosen_exports p.definition p.chosen in
    let object_is : slice_get (part_of machine p).objects (suc j) ≡ Some (exported machine dll [] e) = ap (λ os. slice_get os (suc j)) (members_objects machine p made) ∙ after_get machine dll (λ e. []) es j e chosen in
    stub_of_part machine bases parts objects are program i j x (part_of machine p) (exported machine dll [] e) (record { ask = expected_ask machine e; symbol = Some (imp_symbol e.name) }) e.name d t own_part object_is
    (get_map (λ (y : ExportView). record { ask = expected_ask machine y; symbol = Some (imp_symbol y.name) }) es j e chosen) (has_stub machine dll [] e is) own_table

pub older_stub_beside : (machine : MachineType) (bases : Bases) (parts : List Part) (objects : List Object) (i j : ℕ) (x : Table) (p : LinkInput) (older : ExportView → Bool) (e : ExportView) (d : PlacedCode) (t : ObjectSymbol) →
    AllByRecursion (IsPart machine) parts → IsProgramOfParts machine bases parts objects → AreOlderMembersOf p.definition machine p.members → slice_get parts i ≡ Some (older_part_of machine older p) →
    slice_get (tables_at machine bases objects (map (λ (q : Part). q.table) parts)).tables i ≡ Some x → slice_get (chosen_exports p.definition p.chosen) j ≡ Some e → e.is_data ≡ false →
    Contains (placed_from bases objects) d.from → section_numbered d.from.object.sections d.number ≡ Some d.code → Defines d t → t.name ≡ e.name →
    StubAt machine (placed_from bases objects) d t (x.address + thunk_width machine * j)
older_stub_beside machine bases parts objects i j x p older e d t are program made own_part own_table chosen is =
    let dll : NamesOfDll = names_for Gnu p.definition in
    let es : List ExportView = chosen_exports p.definition p.chosen in
    let object_is : slice_get (older_part_of machine older p).objects (suc j) ≡ Some (exported machine dll (further e) e) = ap (λ os. slice_get os (suc j)) (older_objects machine p made) ∙ after_get machine dll further es j e chosen in
    stub_of_part machine bases parts objects are program i j x (older_part_of machine older p) (exported machine dll (further e) e) (record { ask = expected_ask machine e; symbol = Some (name_by older e) }) e.name d t own_part object_is
    (get_map (λ (y : ExportView). record { ask = expected_ask machine y; symbol = Some (name_by older y) }) es j e chosen) (has_stub machine dll (further e) e is) own_table
