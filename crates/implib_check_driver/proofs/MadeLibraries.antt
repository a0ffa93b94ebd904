-- What is read of the library of a definition, with third texts or without.
use Rattle.std.proofs.Common.{◌≡◌, ◌∙◌, ℕ, ◌≤◌, Bool, true, false, List, [], ◌∷◌, ◌++◌, Option, None, Some, ap, drop, if◌then◌else◌, map, refl, subst, sym, take}
use Rattle.std.specs.Prelude.{◌&&◌, not}
use Rattle.std.specs.List.{AllByRecursion, filter, filter_map, flat_map, list_any}
use Rattle.std.specs.Option.{option_and_then, option_map}
use Rattle.std.proofs.lemmas.Bool.{or_parts}
use Rattle.std.proofs.lemmas.List.{length-map, map-append}
use Rattle.std.proofs.lemmas.List.Folds.{list_any-append}
use Rattle.std.proofs.lemmas.Option.{same_Some}
use Rattle.implib.specs.declared.flavor.Flavor.{Flavor}
use Rattle.implib.specs.declared.flavor.Flavor.TheVariants.{Gnu, Msvc}
use Rattle.implib.specs.declared.machine.MachineType.{MachineType}
use Rattle.implib.specs.Definition.{DefinitionView, ExportView}
use Rattle.implib.specs.Fault.{MemberTooLong}
use Rattle.implib.specs.Formats.File.{Meaning, AnAlias as MeansAlias, AnImport as MeansImport, file_in, meaning_in, meaning_of}
use Rattle.implib.specs.Import.{expected_import, public_exports}
use Rattle.implib.specs.LibraryName.{NamesOfDll, names_for}
use Rattle.implib.specs.Members.MemberLists.{alias_specs, all_import_specs, is_weak}
use Rattle.implib.specs.Members.Members.{AreMembersOf, is_too_long, length_refusal, refusal}
use Rattle.implib.specs.Members.MemberSpec.{MemberSpec, MemberView, member_of}
use Rattle.implib.specs.Members.Msvc.{short_import_size}
use Rattle.implib.specs.Members.MsvcMembers.{header_specs}
use Rattle.implib.specs.Members.ReadBack.{ReadBack, alias_among, file_of, import_among}
use Rattle.implib.specs.Renaming.{renamed, renamed_export}
use Rattle.implib.proofs.Members.NotRefused.{Sound, exports_sound, first_none, import_name_is_free, short_enough}
use Rattle.implib.proofs.Members.Renaming.{renamed_twice}
use Rattle.implib_archive.specs.Archive.{archive_of}
use Rattle.implib_archive.specs.Refusal.{refusal_of}
use Rattle.implib_archive.specs.declared.kind.Kind.{Kind}
use Rattle.implib_read.specs.Archives.{archive_in}
use Rattle.implib_read.specs.Classes.{Class, Descriptor, MemberRead, NullDescriptor, NullThunk, class_of_file, files_of, library_in, members_read}
use Rattle.implib_read.specs.Files.{definer_among, file_found}
use Rattle.implib_read.specs.Following.{Place}
use Rattle.implib_read.specs.Objects.{SameObjects}
use Rattle.implib_read.specs.OwnLibraries.{OwnGnuLibraries, OwnMembersFound, classes_in, meaning_of_class}
use Rattle.implib_read.specs.ShortImports.{SameShortImports}
use Rattle.implib_read.proofs.OwnMembers.{drop_mapped, drop_plain, files_as, files_of_specs, found_of, meanings_as, read_meanings}
use Rattle.implib_read.proofs.OwnMsvc.{archive_by, classes_read, map_twice}
use Rattle.implib_rules.specs.ExportAs.{AreMadeFor, all_export_as_specs, definition_made, export_as_import, export_as_library, export_as_refusal, export_as_spec, export_as_specs, export_as_specs_by, exported_name, kept, kept_by, kept_definition, later_specs}
use Rattle.implib_rules.specs.Library.{definition_text}
use Rattle.implib_rules.specs.Linked.{NamingView}
use Rattle.implib_rules.specs.Order.{msvc_specs, own_aliases, own_imports}
use Rattle.implib_rules.proofs.ExportedAs.{kept_renamed}
use Rattle.implib_rules.proofs.OrderedReadings.{reads_in_order}
use Rattle.implib_rules.proofs.PlainNames.{plain_of}
use Rattle.implib_compare.specs.Comparison.{has_other, has_unread, verdict}
use Rattle.implib_check_driver.specs.OwnExportAs.{IsMadeBy, MadeLibrariesAreTheSame, MeantIsMade, SameSaysTheMade, SaysWhatIsMade, has_third_text, imports_by_texts, imports_made}
use Rattle.implib_check_driver.specs.OwnLibraries.{MeantIsDefined, imports_meant, meanings_read}
use Rattle.implib_check_driver.proofs.LaterMeanings.{ThirdMeans, WeakForText, aliases_after, aliases_named, all_later, cut, first_imports, imports_then, kept_symbol_name, later_aliases, later_meanings, length_imports, means_alias, public_kept, text_imports}
use Rattle.implib_rules.proofs.OneDefinition.{one_library}
use Rattle.implib_check_driver.proofs.OwnLibraries.{HasHeader, after_header, files_plain, files_read, header_read, says}
use Rattle.implib_check_driver.proofs.SameLibraries.{verdict_itself}
use Rattle.implib_check_driver.proofs.ThirdTexts.{asks_by_text, text_means}

-- the members of a library with third texts
pub record MadeByTexts (d : DefinitionView) (machine : MachineType) (members : List MemberView) : Type 0 where
  pub all : List MemberView
  pub made : AreMembersOf (kept_definition machine d) machine Msvc all
  pub reads : ReadBack (kept_definition machine d) machine Msvc all
  pub is : members ≡ map member_of (export_as_library machine d)
  pub fit : list_any is_too_long (all_export_as_specs machine d) ≡ false

none_too_long : (specs : List MemberSpec) → length_refusal specs ≡ None → list_any is_too_long specs ≡ false
none_too_long specs none = by (list_any is_too_long specs) none
  where
    by : (b : Bool) → (if b then Some MemberTooLong else None) ≡ None → b ≡ false
    by true is = cc
    by false is = refl

pub made_by_texts : (naming : NamingView) (d : DefinitionView) (machine : MachineType) (members : List MemberView)
    → AreMadeFor naming d machine Msvc members → naming.exports_as ≡ true → MadeByTexts d machine members
made_by_texts naming d machine members made on =
    let is_made : definition_made naming machine Msvc d ≡ kept_definition machine d = ap (λ b. if b then kept_definition machine d else d) on in
    let refused : export_as_refusal d machine ≡ None = sym (ap (λ b. if b then export_as_refusal d machine else refusal d machine Msvc) on) ∙ made.accepted in
    record {
      all = made.all;
      made = subst (λ (x : DefinitionView). AreMembersOf x machine Msvc made.all) is_made made.made;
      reads = subst (λ (x : DefinitionView). ReadBack x machine Msvc made.all) is_made made.reads;
      is = made.is ∙ ap (λ b. map member_of (if b then export_as_library machine d else msvc_specs machine d)) on;
      fit = none_too_long (all_export_as_specs machine d) (first_none (refusal (kept_definition machine d) machine Msvc) (length_refusal (all_export_as_specs machine d)) refused).1;
    }

-- what the members of a library are for, where any member may define the externals of another
abbrev class_of_spec : (List ℕ → Option Place) → MemberSpec → Class
class_of_spec defined p = class_of_file defined (file_found (member_of p).bytes)

record ClassesOf (specs : List MemberSpec) (meant : List MemberRead) : Type 0 where
  pub defined : List ℕ → Option Place
  pub are : map (λ m. m.class) meant ≡ map (class_of_spec defined) specs

classes_of : OwnMembersFound → (kind : Kind) (specs : List MemberSpec) (members : List MemberView) (meant : List MemberRead) → members ≡ map member_of specs
    → refusal_of kind members ≡ None → library_in (archive_of kind members) ≡ Some meant → ClassesOf specs meant
unfolding library_in
classes_of own kind specs members meant is accepted there =
    let bytes = archive_of kind members in
    let contents = map (λ (m : MemberView). m.bytes) members in
    let found = archive_by bytes contents (archive_in bytes) refl (own kind members accepted) in
    let stored = found.archive.members in
    let defined = definer_among (files_of stored) in
    let classes = map (class_of_file defined) (map file_found contents) in
    let has : classes_in bytes ≡ Some classes =
    ap (λ o. option_map (map (λ m. m.class)) (option_map (λ archive. members_read archive.members) o)) found.is
    ∙ ap Some (classes_read stored ∙ ap (λ bs. map (class_of_file defined) (map file_found bs)) found.same) in
    let same : classes ≡ map (λ (m : MemberRead). m.class) meant = same_Some _ _ (sym has ∙ ap (option_map (map (λ m. m.class))) there) in
    record {
      defined = defined;
      are =
          sym same
          ∙ ap (λ ms. map (class_of_file defined) (map file_found (map (λ (m : MemberView). m.bytes) ms))) is
          ∙ ap (λ bs. map (class_of_file defined) (map file_found bs)) (map_twice (λ (m : MemberView). m.bytes) member_of specs)
          ∙ ap (map (class_of_file defined)) (map_twice file_found (λ (p : MemberSpec). (member_of p).bytes) specs)
          ∙ map_twice (class_of_file defined) (λ (p : MemberSpec). file_found (member_of p).bytes) specs;
    }

-- each of the exports is linked by its name, and is weak for its text
weak_for_texts : (machine : MachineType) (exports : List ExportView) → AllByRecursion (WeakForText machine) (filter (λ e. not e.private) (map renamed_export exports))
weak_for_texts machine [] = tt
weak_for_texts machine (e ∷ exports) = by e.private (weak_for_texts machine exports)
  where
    by : (b : Bool) → AllByRecursion (WeakForText machine) (filter (λ x. not x.private) (map renamed_export exports))
        → AllByRecursion (WeakForText machine) (if not b then renamed_export e ∷ filter (λ x. not x.private) (map renamed_export exports) else filter (λ x. not x.private) (map renamed_export exports))
    by true rest = rest
    by false rest = ((λ name is. (asks_by_text machine (renamed_export e) name is).other), rest)

plain_kept : (machine : MachineType) (exports : List ExportView) → AllByRecursion (λ e. e.symbol_name ≡ []) exports → AllByRecursion (λ e. e.symbol_name ≡ []) (map (kept machine) exports)
plain_kept machine [] plain = tt
plain_kept machine (e ∷ exports) plain = (kept_symbol_name (exported_name machine e) e plain.0, plain_kept machine exports plain.1)

pub plain_public_kept : (machine : MachineType) (d : DefinitionView) → AllByRecursion (λ e. e.symbol_name ≡ []) (public_exports d) → AllByRecursion (λ e. e.symbol_name ≡ []) (public_exports (kept_definition machine d))
plain_public_kept machine d plain = subst (λ (x : List ExportView). AllByRecursion (λ e. e.symbol_name ≡ []) x) (sym (public_kept machine d.exports)) (plain_kept machine (public_exports d) plain)

-- Short imports with third texts.

-- such a short import of an export is sound and short enough
pub record IsTextOf (machine : MachineType) (dll : NamesOfDll) (e : ExportView) (name : List ℕ) : Type 0 where
  pub is : exported_name machine e ≡ Some name
  pub plain : e.symbol_name ≡ []
  pub sound : Sound (kept_by (Some name) e)
  pub fits : short_import_size (export_as_import machine dll.text e name) ≤ 0xFFFF_FFFF

-- each of the exports has such a short import, if it has a third text
abbrev pub HasTexts : MachineType → NamesOfDll → ExportView → Type 0
HasTexts machine dll e = (name : List ℕ) → exported_name machine e ≡ Some name → IsTextOf machine dll e name

have_texts : (machine : MachineType) (dll : NamesOfDll) (exports : List ExportView) → AllByRecursion (λ e. e.symbol_name ≡ []) exports → AllByRecursion Sound (map (kept machine) exports)
    → list_any is_too_long (flat_map (export_as_specs machine dll) exports) ≡ false → AllByRecursion (HasTexts machine dll) exports
have_texts machine dll [] plain sound fit = tt
have_texts machine dll (e ∷ exports) plain sound fit =
    let specs = flat_map (export_as_specs machine dll) exports in
    let parts = or_parts (list_any is_too_long (export_as_specs machine dll e)) (list_any is_too_long specs)
    (sym (list_any-append is_too_long (export_as_specs machine dll e) specs) ∙ fit) in
    (here parts.0, have_texts machine dll exports plain.1 sound.1 parts.1)
  where
    here : list_any is_too_long (export_as_specs machine dll e) ≡ false → HasTexts machine dll e
    here short name is =
        let own = ap (λ o. list_any is_too_long (export_as_specs_by machine dll e o)) (sym is) ∙ short in record {
          is = is;
          plain = plain.0;
          sound = subst (λ o. Sound (kept_by o e)) is sound.0;
          fits = short_enough (export_as_spec machine dll e name) (or_parts (is_too_long (export_as_spec machine dll e name)) false own).0;
        }

-- what all such short imports are, by what each is
pub texts_are : (machine : MachineType) (dll : NamesOfDll) (P : ExportView → List ℕ → Type 0) → ((e : ExportView) (name : List ℕ) → IsTextOf machine dll e name → P e name)
    → (exports : List ExportView) → AllByRecursion (HasTexts machine dll) exports → AllByRecursion (λ e. (name : List ℕ) → exported_name machine e ≡ Some name → P e name) exports
texts_are machine dll P each [] texts = tt
texts_are machine dll P each (e ∷ exports) texts = ((λ name is. each e name (texts.0 name is)), texts_are machine dll P each exports texts.1)

-- those of a library
pub texts_of : (d : DefinitionView) (machine : MachineType) (members : List MemberView) → MadeByTexts d machine members → renamed (kept_definition machine d) ≡ kept_definition machine d
    → AllByRecursion (λ e. e.symbol_name ≡ []) (public_exports d) → AllByRecursion (HasTexts machine (names_for Msvc d)) (public_exports d)
texts_of d machine members made once plain =
    let k = kept_definition machine d in
    let sound : AllByRecursion Sound (map (kept machine) (public_exports d)) =
    subst (λ (x : List ExportView). AllByRecursion Sound x) (public_kept machine d.exports)
    (subst (λ (x : DefinitionView). AllByRecursion Sound (public_exports x)) once (exports_sound k machine Msvc made.all made.made)) in
    have_texts machine (names_for Msvc d) (public_exports d) plain sound made.fit

module _ (defined : List ℕ → Option Place) where
  -- what a member means
  abbrev means : MemberSpec → Option Meaning
  means p = meaning_of_class (class_of_spec defined p)

  module _ (imports : SameShortImports) (objects : SameObjects) (d : DefinitionView) (machine : MachineType) (members : List MemberView)
      (made : MadeByTexts d machine members) (once : renamed (kept_definition machine d) ≡ kept_definition machine d) (plain : AllByRecursion (λ e. e.symbol_name ≡ []) (public_exports d)) where
    abbrev k : DefinitionView
    k = kept_definition machine d

    abbrev specs : List MemberSpec
    specs = msvc_specs machine k

    abbrev kept_meanings : List Meaning
    kept_meanings = map MeansImport (own_imports machine k) ++ map MeansAlias (own_aliases k)

    files_there : map file_in (map (λ p. (member_of p).bytes) specs) ≡ map Some (files_of_specs specs)
    files_there =
        map_twice file_in (λ (p : MemberSpec). (member_of p).bytes) specs
        ∙ files_read machine k made.all made.made made.reads.files once
        ∙ sym (map_twice Some (λ (p : MemberSpec). file_of p.contents) specs)

    -- the classes of the definition with aliases in the place of third texts
    kept_classes : map (class_of_spec defined) specs ≡ map (class_of_file defined) (map found_of (files_of_specs specs))
    kept_classes =
        sym (map_twice (class_of_file defined) (λ (p : MemberSpec). file_found (member_of p).bytes) specs)
        ∙ ap (map (class_of_file defined))
        (sym (map_twice file_found (λ (p : MemberSpec). (member_of p).bytes) specs)
        ∙ files_as imports objects (map (λ (p : MemberSpec). (member_of p).bytes) specs) (files_of_specs specs) files_there (files_plain machine k))

    kept_means : map meaning_of_class (drop 3 (map (class_of_spec defined) specs)) ≡ map Some kept_meanings
    kept_means =
        let own = map member_of specs in
        let reads = reads_in_order k machine made.all own made.made made.reads.files once (plain_public_kept machine d plain) refl in
        let fs = files_of_specs specs in
        let means_these : map meaning_of (drop 3 fs) ≡ map Some kept_meanings =
        sym (read_meanings (drop 3 fs))
        ∙ ap (map (option_and_then meaning_of)) (sym (drop_mapped Some fs))
        ∙ ap (λ xs. map (option_and_then meaning_of) (drop 3 xs)) (sym files_there)
        ∙ ap (λ bs. map (option_and_then meaning_of) (drop 3 (map file_in bs))) (sym (map_twice (λ (m : MemberView). m.bytes) member_of specs))
        ∙ ap (map (option_and_then meaning_of)) (drop_mapped file_in (map (λ (m : MemberView). m.bytes) own) ∙ ap (map file_in) (drop_mapped (λ (m : MemberView). m.bytes) own))
        ∙ map_twice (option_and_then meaning_of) file_in (map (λ (m : MemberView). m.bytes) (drop 3 own))
        ∙ map_twice meaning_in (λ (m : MemberView). m.bytes) (drop 3 own)
        ∙ reads.meanings in
        ap (λ cs. map meaning_of_class (drop 3 cs)) kept_classes
        ∙ ap (map meaning_of_class) (drop_mapped (class_of_file defined) (map found_of fs) ∙ ap (map (class_of_file defined)) (drop_mapped found_of fs))
        ∙ meanings_as defined (drop 3 fs) kept_meanings (drop_plain fs (files_plain machine k)) means_these

    -- what the members mean that have a place of their own
    after_header_specs : (ps : List MemberSpec) → map meaning_of_class (drop 3 (map (class_of_spec defined) (header_specs machine (names_for Msvc d) ++ ps))) ≡ map means ps
    unfolding header_specs
    after_header_specs ps = map_twice meaning_of_class (class_of_spec defined) ps

    kept_parts : (map means (all_import_specs machine k) ≡ map (λ i. Some (MeansImport i)) (own_imports machine k))
        × (map means (flat_map (alias_specs machine (names_for Msvc d).linked) (map (kept machine) (public_exports d))) ≡ map means_alias (flat_map aliases_named (map (kept machine) (public_exports d))))
    kept_parts =
        let i = all_import_specs machine k in
        let a = flat_map (alias_specs machine (names_for Msvc d).linked) (public_exports k) in
        let both : map means (i ++ a) ≡ map Some kept_meanings = sym (after_header_specs (i ++ a)) ∙ kept_means in
        let parts = cut means Some i a (map MeansImport (own_imports machine k)) (map MeansAlias (own_aliases k))
        (length_imports machine (names_for Msvc d) (public_exports k) ∙ sym (length-map (own_imports machine k) MeansImport)) both in (
          parts.0 ∙ map_twice Some MeansImport (own_imports machine k),
          subst (λ (x : List ExportView). map means (flat_map (alias_specs machine (names_for Msvc d).linked) x) ≡ map means_alias (flat_map aliases_named x)) (public_kept machine d.exports)
              (parts.1 ∙ map_twice Some MeansAlias (own_aliases k)),
        )

    abbrev meanings : List Meaning
    meanings = map MeansImport (own_imports machine k) ++ flat_map (later_meanings machine d.import_name) (public_exports d)

    header_there : (ps : List MemberSpec) → take 3 (map (class_of_spec defined) (header_specs machine (names_for Msvc d) ++ ps)) ≡ take 3 (map (class_of_spec defined) specs)
    unfolding header_specs
    header_there ps = refl

    has_header : (meant : List MemberRead) → map (λ m. m.class) meant ≡ map (class_of_spec defined) (export_as_library machine d)
        → HasHeader 3 (Descriptor ∷ NullDescriptor ∷ NullThunk ∷ []) meant meanings
    has_header meant are =
        let i = all_import_specs machine k in
        let later = flat_map (later_specs machine (names_for Msvc d)) (public_exports d) in
        let dll = names_for Msvc d in
        let third : AllByRecursion (ThirdMeans machine dll means) (public_exports d) =
        texts_are machine dll (λ e name. means (export_as_spec machine dll e name) ≡ Some (MeansImport (expected_import machine dll.text e)))
        (λ e name text. text_means defined machine dll.text e name text.is text.plain text.sound (import_name_is_free k machine Msvc made.all made.made) text.fits)
        (public_exports d) (texts_of d machine members made once plain) in
        record {
          first = ap (take 3) are ∙ header_there (i ++ later) ∙ ap (take 3) kept_classes ∙ header_read defined machine k;
          rest =
              ap (λ cs. map meaning_of_class (drop 3 cs)) are
              ∙ after_header_specs (i ++ later)
              ∙ map-append means i later
              ∙ ap (λ l. l ++ map means later) (kept_parts.0 ∙ sym (map_twice Some MeansImport (own_imports machine k)))
              ∙ ap (λ l. map Some (map MeansImport (own_imports machine k)) ++ l) (all_later machine (names_for Msvc d) means (public_exports d) plain third kept_parts.1)
              ∙ sym (map-append Some (map MeansImport (own_imports machine k)) (flat_map (later_meanings machine d.import_name) (public_exports d)));
        }

-- Libraries with third texts.

-- what is read of one: the classes of its tables, and after them what its members mean
pub header_by_texts : OwnMembersFound → SameShortImports → SameObjects → (kind : Kind) (d : DefinitionView) (machine : MachineType) (members : List MemberView) (meant : List MemberRead)
    → MadeByTexts (renamed d) machine members → AllByRecursion (λ e. e.symbol_name ≡ []) (public_exports (renamed d))
    → refusal_of kind members ≡ None → library_in (archive_of kind members) ≡ Some meant
    → HasHeader 3 (Descriptor ∷ NullDescriptor ∷ NullThunk ∷ []) meant
    (map MeansImport (own_imports machine (kept_definition machine (renamed d))) ++ flat_map (later_meanings machine (renamed d).import_name) (public_exports (renamed d)))
header_by_texts own imports objects kind d machine members meant made plain accepted there =
    let x = renamed d in
    let once : renamed (kept_definition machine x) ≡ kept_definition machine x = kept_renamed machine x ∙ ap (kept_definition machine) (renamed_twice d) in
    let cs = classes_of own kind (export_as_library machine x) members meant made.is accepted there in
    has_header cs.defined imports objects x machine members made once plain meant cs.are

says_by_texts : OwnMembersFound → SameShortImports → SameObjects → (kind : Kind) (d : DefinitionView) (machine : MachineType) (members : List MemberView) (meant : List MemberRead)
    → MadeByTexts (renamed d) machine members → AllByRecursion (λ e. e.symbol_name ≡ []) (public_exports (renamed d))
    → refusal_of kind members ≡ None → library_in (archive_of kind members) ≡ Some meant
    → (filter_map import_among (meanings_read meant) ≡ imports_by_texts machine (renamed d))
    × ((filter_map alias_among (meanings_read meant) ≡ own_aliases (renamed d)) × ((has_unread meant ≡ false) × (has_other meant ≡ false)))
says_by_texts own imports objects kind d machine members meant made plain accepted there =
    let x = renamed d in
    let k = kept_definition machine x in
    let exports = public_exports x in
    let has = header_by_texts own imports objects kind d machine members meant made plain accepted there in
    let later = flat_map (later_meanings machine x.import_name) exports in
    let whole = after_header 3 (Descriptor ∷ NullDescriptor ∷ NullThunk ∷ []) meant (map MeansImport (own_imports machine k) ++ later) refl refl refl has.first has.rest in
    let expected = expected_import machine x.import_name in
    let first : own_imports machine k ≡ map expected (filter (λ e. not (has_third_text machine e) && not (is_weak e)) exports) =
    ap (λ l. map expected (filter (λ e. not (is_weak e)) l)) (public_kept machine x.exports)
    ∙ first_imports expected machine exports (weak_for_texts machine d.exports) in (
      ap (filter_map import_among) whole.meanings
          ∙ imports_then (own_imports machine k) later
          ∙ ap (λ l. l ++ filter_map import_among later) first
          ∙ ap (λ l. map expected (filter (λ e. not (has_third_text machine e) && not (is_weak e)) exports) ++ l) (text_imports machine x.import_name exports),
      (
        ap (filter_map alias_among) whole.meanings
            ∙ aliases_after (own_imports machine k) later
            ∙ later_aliases machine x.import_name exports,
        (whole.read, whole.alone),
      ),
    )

-- Libraries of either flavour.

made_with : OwnMembersFound → SameShortImports → SameObjects → OwnGnuLibraries → (kind : Kind) (naming : NamingView) (d : DefinitionView) (machine : MachineType) (flavor : Flavor) (members : List MemberView) (meant : List MemberRead)
    → naming.exports_as ≡ true → AreMadeFor naming (renamed d) machine flavor members → AllByRecursion (λ e. e.symbol_name ≡ []) (public_exports (renamed d))
    → refusal_of kind members ≡ None → library_in (archive_of kind members) ≡ Some meant → SaysWhatIsMade naming (renamed d) machine flavor meant
made_with own imports objects law kind naming d machine Msvc members meant on made plain accepted there =
    let both = says_by_texts own imports objects kind d machine members meant (made_by_texts naming (renamed d) machine members made on) plain accepted there in
    record {
      imports = both.0 ∙ sym (ap (λ b. if b then imports_by_texts machine (renamed d) else own_imports machine (renamed d)) on);
      aliases = both.1.0;
      read = both.1.1.0;
      alone = both.1.1.1;
    }
made_with own imports objects law kind naming d machine Gnu members meant on made plain accepted there =
    let plainly = says own imports objects law kind d machine Gnu made.all members meant made.made made.reads made.is tt accepted there in
    record { imports = plainly.imports; aliases = plainly.aliases; read = plainly.read; alone = plainly.alone }

-- without third texts the imports that are made are those that are meant
made_without : (naming : NamingView) (machine : MachineType) (flavor : Flavor) (d : DefinitionView) → naming.exports_as ≡ false → imports_meant flavor machine d ≡ imports_made naming flavor machine d
made_without naming machine Msvc d off = sym (ap (λ b. if b then imports_by_texts machine d else own_imports machine d) off)
made_without naming machine Gnu d off = refl

pub meant_is_made : OwnMembersFound → SameShortImports → SameObjects → OwnGnuLibraries → MeantIsDefined → MeantIsMade
meant_is_made own imports objects gnu law definition options file meant is there = by options.naming.exports_as refl
  where
    by : (b : Bool) → options.naming.exports_as ≡ b → IsMadeBy definition options meant
    by false off =
        let defined = law definition options file meant off is there in
        record {
          d = defined.d;
          of_text = defined.of_text;
          says = record {
            imports = defined.says.imports ∙ made_without options.naming options.machine options.flavor (renamed defined.d) off;
            aliases = defined.says.aliases;
            read = defined.says.read;
            alone = defined.says.alone;
          };
        }
    by true on =
        let made = is.members_for in
        record {
          d = made.definition;
          of_text = made.of_text;
          says = made_with own imports objects gnu _ options.naming made.definition options.machine options.flavor is.members meant on made.made_for
              (plain_of (definition_text definition) options made.definition made.of_text) is.accepted (sym (ap library_in is.is) ∙ there);
        }

-- the library of a definition is the same as the definition
pub made_libraries_are_the_same : MeantIsMade → MadeLibrariesAreTheSame
made_libraries_are_the_same law definition options file members v is there on =
    let says = (law definition options file members is there).says in
    let same : on.meant ≡ members = same_Some _ _ (sym on.read ∙ ap library_in (one_library definition options on.file file on.is_library is) ∙ there) in
    on.is ∙ ap (verdict members) same ∙ verdict_itself members says.read says.alone

-- a library that is the same as a definition says what is made
pub same_says_the_made : MeantIsMade → SameSaysTheMade
same_says_the_made law definition options members on = record {
  meant = on.meant;
  made = law definition options on.file on.meant on.is_library on.read;
  same = on.means;
}
