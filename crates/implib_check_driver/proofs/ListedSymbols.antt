-- The symbols that the members of the library of a definition list: this reader has the same of their files.
use Rattle.std.proofs.Common.{◌≡◌, ◌∙◌, ◌==◌, ℕ, suc, not, Bool, true, false, List, [], ◌∷◌, ◌++◌, Option, None, Some, ap, arith, length, map, nat_lt, refl, subst, sym}
use Rattle.std.specs.List.{AllByRecursion, flat_map, list_all}
use Rattle.std.specs.Option.{option_map}
use Rattle.std.proofs.lemmas.Bool.{lt-ltb}
use Rattle.std.proofs.lemmas.List.{map-append}
use Rattle.std.proofs.lemmas.Option.{same_Some}
use Rattle.implib.specs.declared.flavor.Flavor.{Flavor}
use Rattle.implib.specs.declared.flavor.Flavor.TheVariants.{Gnu, Msvc}
use Rattle.implib.specs.declared.machine.MachineType.{MachineType}
use Rattle.implib.specs.Definition.{DefinitionView, ExportView}
use Rattle.implib.specs.Formats.File.{File, ShortImportFile, ObjectFile, declared_by, file_in}
use Rattle.implib.specs.Import.{public_exports}
use Rattle.implib.specs.LibraryName.{NamesOfDll, names_for}
use Rattle.implib.specs.Members.GnuMembers.{tail_spec}
use Rattle.implib.specs.Members.MemberLists.{alias_specs, all_import_specs}
use Rattle.implib.specs.Members.Members.{AreMembersOf, member_specs}
use Rattle.implib.specs.Members.MemberSpec.{MemberSpec, MemberView, member_of}
use Rattle.implib.specs.Members.MsvcMembers.{descriptor_spec, header_specs}
use Rattle.implib.specs.Members.ReadBack.{GnuReadBack, MsvcReadBack, ReadBack, file_of}
use Rattle.implib.specs.Renaming.{renamed}
use Rattle.implib.proofs.Members.MemberReadings.{map_after}
use Rattle.implib.proofs.Members.NotRefused.{import_name_is_free}
use Rattle.implib.proofs.Members.Renaming.{renamed_twice}
use Rattle.implib_archive.specs.Archive.{entries_from, entries_of}
use Rattle.implib_archive.specs.declared.kind.Kind.TheVariants.{Gnu as OfGnu}
use Rattle.implib_read.specs.Files.{file_found}
use Rattle.implib_read.specs.Leads.{declared_by_found}
use Rattle.implib_read.specs.Objects.{SameObjects}
use Rattle.implib_read.specs.ShortImports.{SameShortImports, arm64ec}
use Rattle.implib_read.proofs.OwnGnuLibrary.{gnu_files_plain, gnu_files_read, own_gnu_files}
use Rattle.implib_read.proofs.OwnMembers.{both_true, declares_plainly, files_as, files_of_specs, found_of, is_plain, not_true}
use Rattle.implib_read.proofs.OwnMsvc.{map_twice}
use Rattle.implib_rules.specs.ExportAs.{AreMadeFor, export_as_library, export_as_spec, exported_name, kept, kept_by, kept_definition, later_specs, later_specs_by}
use Rattle.implib_rules.specs.Linked.{NamingView}
use Rattle.implib_rules.specs.Order.{LibraryReads, ReadsInOrder, library_specs, msvc_specs}
use Rattle.implib_rules.proofs.ExportedAs.{kept_renamed}
use Rattle.implib_rules.proofs.OrderedReadings.{reads_in_order}
use Rattle.implib_check_driver.proofs.LaterMeanings.{cut, public_kept}
use Rattle.implib_check_driver.proofs.MadeLibraries.{MadeByTexts, made_by_texts, plain_public_kept, texts_are, texts_of}
use Rattle.implib_check_driver.proofs.OwnLibraries.{files_plain, files_read, made_plainly}
use Rattle.implib_check_driver.proofs.ThirdTexts.{text_declares}

-- Files that both readers have.

declared_of : (fs : List File) → list_all is_plain fs ≡ true → map declared_by_found (map found_of fs) ≡ map declared_by fs
unfolding found_of is_plain
declared_of [] plain = refl
declared_of (ShortImportFile r ∷ fs) plain =
    let tests = both_true (is_plain (ShortImportFile r)) (list_all is_plain fs) plain in
    let own = both_true (not (r.machine == arm64ec)) (not (r.name_type == 4)) tests.0 in
    ap (λ s. s ∷ map declared_by_found (map found_of fs)) (declares_plainly r (not_true (r.machine == arm64ec) own.0))
    ∙ ap (λ others. declared_by (ShortImportFile r) ∷ others) (declared_of fs tests.1)
declared_of (ObjectFile o ∷ fs) plain =
    let tests = both_true (is_plain (ObjectFile o)) (list_all is_plain fs) plain in
    ap (λ others. declared_by (ObjectFile o) ∷ others) (declared_of fs tests.1)

listed_of : (members : List MemberView) (fs : List File) → map (λ m. file_in m.bytes) members ≡ map Some fs
    → map (λ m. option_map declared_by (file_in m.bytes)) members ≡ map (λ m. Some m.symbols) members → map declared_by fs ≡ map (λ m. m.symbols) members
listed_of [] [] files declared = refl
listed_of [] (f ∷ fs) files declared = cc
listed_of (m ∷ members) [] files declared = cc
listed_of (m ∷ members) (f ∷ fs) files declared =
    let file : file_in m.bytes ≡ Some f = cc in
    let files' : map (λ m. file_in m.bytes) members ≡ map Some fs = cc in
    let symbols : option_map declared_by (file_in m.bytes) ≡ Some m.symbols = cc in
    let declared' : map (λ m. option_map declared_by (file_in m.bytes)) members ≡ map (λ m. Some m.symbols) members = cc in
    let first : declared_by f ≡ m.symbols = same_Some _ _ (sym (ap (option_map declared_by) file) ∙ symbols) in
    ap (λ s. s ∷ map declared_by fs) first ∙ ap (λ others. m.symbols ∷ others) (listed_of members fs files' declared')

-- what is read of members: files that both readers have, with the symbols that the members list
record HasFiles (members : List MemberView) : Type 0 where
  fs : List File
  files : map (λ m. file_in m.bytes) members ≡ map Some fs
  plain : list_all is_plain fs ≡ true
  declared : map (λ m. option_map declared_by (file_in m.bytes)) members ≡ map (λ m. Some m.symbols) members

msvc_files : (d : DefinitionView) (machine : MachineType) (all members : List MemberView) → AreMembersOf d machine Msvc all → MsvcReadBack d machine all → renamed d ≡ d
    → members ≡ map member_of (msvc_specs machine d) → ReadsInOrder d machine members → HasFiles members
msvc_files d machine all members made back once is reads =
    let specs = msvc_specs machine d in
    record {
      fs = files_of_specs specs;
      files = ap (map (λ (m : MemberView). file_in m.bytes)) is
          ∙ map_after (λ (m : MemberView). file_in m.bytes) member_of specs
          ∙ files_read machine d all made back once
          ∙ sym (map_twice Some (λ (p : MemberSpec). file_of p.contents) specs);
      plain = files_plain machine d;
      declared = reads.declared;
    }

has_files : (d : DefinitionView) (machine : MachineType) (flavor : Flavor) (all members : List MemberView) → AreMembersOf (renamed d) machine flavor all → ReadBack (renamed d) machine flavor all
    → members ≡ map member_of (library_specs (renamed d) machine flavor) → LibraryReads (renamed d) machine flavor members → HasFiles members
has_files d machine Msvc all members made back is reads = msvc_files (renamed d) machine all members made back.files (renamed_twice d) is reads
has_files d machine Gnu all members made back is reads =
    let same : all ≡ members = made.made ∙ ap (λ (x : DefinitionView). map member_of (member_specs x machine Gnu)) (renamed_twice d) ∙ sym is in
    let read = subst (GnuReadBack (renamed d) machine) same back in
    record {
      fs = own_gnu_files (renamed d) machine;
      files = gnu_files_read (renamed d) machine members read;
      plain = gnu_files_plain (renamed d) machine;
      declared = read.declared;
    }

-- so this reader has the symbols that the members list
files_declare : SameShortImports → SameObjects → (members : List MemberView) → HasFiles members
    → map (λ (m : MemberView). declared_by_found (file_found m.bytes)) members ≡ map (λ m. m.symbols) members
files_declare imports objects members has =
    let contents = map (λ (m : MemberView). m.bytes) members in
    let files : map file_in contents ≡ map Some has.fs = map_twice file_in (λ (m : MemberView). m.bytes) members ∙ has.files in
    sym (map_twice (λ b. declared_by_found (file_found b)) (λ (m : MemberView). m.bytes) members)
    ∙ sym (map_twice declared_by_found file_found contents)
    ∙ ap (map declared_by_found) (files_as imports objects contents has.fs files has.plain)
    ∙ declared_of has.fs has.plain
    ∙ listed_of members has.fs has.files has.declared

-- what this reader has of a member's symbols, and those that the member lists
abbrev declared_by_spec : MemberSpec → List (List ℕ)
declared_by_spec p = declared_by_found (file_found (member_of p).bytes)

abbrev listed_by_spec : MemberSpec → List (List ℕ)
listed_by_spec p = p.symbols

-- both are the same of all that these are members of
abbrev Declare : List MemberSpec → Type 0
Declare specs = map declared_by_spec specs ≡ map listed_by_spec specs

by_members : (members : List MemberView) (specs : List MemberSpec) → members ≡ map member_of specs
    → (map (λ (m : MemberView). declared_by_found (file_found m.bytes)) members ≡ map (λ m. m.symbols) members) → Declare specs
by_members members specs is same =
    sym (map_twice (λ (m : MemberView). declared_by_found (file_found m.bytes)) member_of specs)
    ∙ sym (ap (map (λ (m : MemberView). declared_by_found (file_found m.bytes))) is)
    ∙ same
    ∙ ap (map (λ (m : MemberView). m.symbols)) is
    ∙ map_twice (λ (m : MemberView). m.symbols) member_of specs

by_specs : (members : List MemberView) (specs : List MemberSpec) → members ≡ map member_of specs → Declare specs
    → map (λ (m : MemberView). declared_by_found (file_found m.bytes)) members ≡ map (λ m. m.symbols) members
by_specs members specs is same =
    ap (map (λ (m : MemberView). declared_by_found (file_found m.bytes))) is
    ∙ map_twice (λ (m : MemberView). declared_by_found (file_found m.bytes)) member_of specs
    ∙ same
    ∙ sym (map_twice (λ (m : MemberView). m.symbols) member_of specs)
    ∙ sym (ap (map (λ (m : MemberView). m.symbols)) is)

-- Short imports with third texts.

both_declare : (specs others : List MemberSpec) → Declare specs → Declare others → Declare (specs ++ others)
both_declare specs others first second =
    map-append declared_by_spec specs others
    ∙ ap (λ l. l ++ map declared_by_spec others) first
    ∙ ap (λ l. map listed_by_spec specs ++ l) second
    ∙ sym (map-append listed_by_spec specs others)

parts_declare : (specs others : List MemberSpec) → Declare (specs ++ others) → Declare specs × Declare others
parts_declare specs others same = cut declared_by_spec listed_by_spec specs others specs others refl same

module _ (machine : MachineType) (dll : NamesOfDll) where
  -- the short import with the third text of an export does
  abbrev ThirdDeclares : ExportView → List ℕ → Type 0
  ThirdDeclares e name = declared_by_spec (export_as_spec machine dll e name) ≡ listed_by_spec (export_as_spec machine dll e name)

  one_declares : (o : Option (List ℕ)) (e : ExportView) → ((name : List ℕ) → o ≡ Some name → ThirdDeclares e name)
      → Declare (alias_specs machine dll.linked (kept_by o e)) → Declare (later_specs_by machine dll e o)
  one_declares None e third same = same
  one_declares (Some name) e third same = ap (λ symbols. symbols ∷ []) (third name refl)

  later_declare : (exports : List ExportView) → AllByRecursion (λ e. (name : List ℕ) → exported_name machine e ≡ Some name → ThirdDeclares e name) exports
      → Declare (flat_map (alias_specs machine dll.linked) (map (kept machine) exports)) → Declare (flat_map (later_specs machine dll) exports)
  later_declare [] third same = refl
  later_declare (e ∷ exports) third same =
      let parts = parts_declare (alias_specs machine dll.linked (kept machine e)) (flat_map (alias_specs machine dll.linked) (map (kept machine) exports)) same in
      both_declare (later_specs machine dll e) (flat_map (later_specs machine dll) exports)
      (one_declares (exported_name machine e) e third.0 parts.0) (later_declare exports third.1 parts.1)

texts_declare : SameShortImports → SameObjects → (d : DefinitionView) (machine : MachineType) (members : List MemberView)
    → MadeByTexts (renamed d) machine members → AllByRecursion (λ e. e.symbol_name ≡ []) (public_exports (renamed d)) → Declare (export_as_library machine (renamed d))
texts_declare imports objects d machine members made plain =
    let x = renamed d in
    let k = kept_definition machine x in
    let dll = names_for Msvc x in
    let once : renamed k ≡ k = kept_renamed machine x ∙ ap (kept_definition machine) (renamed_twice d) in
    let own = map member_of (msvc_specs machine k) in
    let reads = reads_in_order k machine made.all own made.made made.reads.files once (plain_public_kept machine x plain) refl in
    let has = msvc_files k machine made.all own made.made made.reads.files once refl reads in
    let all = by_members own (msvc_specs machine k) refl (files_declare imports objects own has) in
    let header = header_specs machine dll in
    let i = all_import_specs machine k in
    let aliases = flat_map (alias_specs machine dll.linked) (public_exports k) in
    let parts = parts_declare header (i ++ aliases) all in
    let others = parts_declare i aliases parts.1 in
    let kept_aliases : Declare (flat_map (alias_specs machine dll.linked) (map (kept machine) (public_exports x))) =
    subst (λ (exports : List ExportView). Declare (flat_map (alias_specs machine dll.linked) exports)) (public_kept machine x.exports) others.1 in
    let third = texts_are machine dll (ThirdDeclares machine dll)
    (λ e name text. text_declares machine dll.text e name text.plain text.sound (import_name_is_free k machine Msvc made.all made.made) text.fits)
    (public_exports x) (texts_of x machine members made once plain) in
    both_declare header (i ++ flat_map (later_specs machine dll) (public_exports x)) parts.0
    (both_declare i (flat_map (later_specs machine dll) (public_exports x)) others.0 (later_declare machine dll (public_exports x) third kept_aliases))

-- Libraries of either flavour.

-- the first member lists a symbol
some_listed : (d : DefinitionView) (machine : MachineType) (flavor : Flavor) → nat_lt 0 (length (entries_of OfGnu (map member_of (library_specs d machine flavor)))) ≡ true
unfolding entries_of entries_from header_specs descriptor_spec tail_spec
some_listed d machine Msvc = lt-ltb 0 (suc _) (omega arith)
some_listed d machine Gnu = lt-ltb 0 (suc _) (omega arith)

some_by_texts : (d : DefinitionView) (machine : MachineType) → nat_lt 0 (length (entries_of OfGnu (map member_of (export_as_library machine d)))) ≡ true
unfolding entries_of entries_from header_specs descriptor_spec
some_by_texts d machine = lt-ltb 0 (suc _) (omega arith)

-- the files of members declare the symbols that the members list, and there is one
pub record ListSymbols (members : List MemberView) : Type 0 where
  pub declared : map (λ (m : MemberView). declared_by_found (file_found m.bytes)) members ≡ map (λ m. m.symbols) members
  pub some : nat_lt 0 (length (entries_of OfGnu members)) ≡ true

listed_plainly : SameShortImports → SameObjects → (d : DefinitionView) (machine : MachineType) (flavor : Flavor) (all members : List MemberView) → AreMembersOf (renamed d) machine flavor all
    → ReadBack (renamed d) machine flavor all → members ≡ map member_of (library_specs (renamed d) machine flavor) → LibraryReads (renamed d) machine flavor members → ListSymbols members
listed_plainly imports objects d machine flavor all members made back is reads = record {
  declared = files_declare imports objects members (has_files d machine flavor all members made back is reads);
  some = ap (λ (ms : List MemberView). nat_lt 0 (length (entries_of OfGnu ms))) is ∙ some_listed (renamed d) machine flavor;
}

listed_with : SameShortImports → SameObjects → (naming : NamingView) (d : DefinitionView) (machine : MachineType) (flavor : Flavor) (members : List MemberView)
    → naming.exports_as ≡ true → AreMadeFor naming (renamed d) machine flavor members → AllByRecursion (λ e. e.symbol_name ≡ []) (public_exports (renamed d)) → ListSymbols members
listed_with imports objects naming d machine Msvc members on made plain =
    let by_texts = made_by_texts naming (renamed d) machine members made on in
    record {
      declared = by_specs members (export_as_library machine (renamed d)) by_texts.is (texts_declare imports objects d machine members by_texts plain);
      some = ap (λ (ms : List MemberView). nat_lt 0 (length (entries_of OfGnu ms))) by_texts.is ∙ some_by_texts (renamed d) machine;
    }
listed_with imports objects naming d machine Gnu members on made plain = listed_plainly imports objects d machine Gnu made.all members made.made made.reads made.is tt

pub symbols_listed : SameShortImports → SameObjects → (naming : NamingView) (d : DefinitionView) (machine : MachineType) (flavor : Flavor) (members : List MemberView)
    → AreMadeFor naming (renamed d) machine flavor members → AllByRecursion (λ e. e.symbol_name ≡ []) (public_exports (renamed d))
    → (naming.exports_as ≡ false → LibraryReads (renamed d) machine flavor members) → ListSymbols members
symbols_listed imports objects naming d machine flavor members made plain reads = by naming.exports_as refl
  where
    by : (b : Bool) → naming.exports_as ≡ b → ListSymbols members
    by true on = listed_with imports objects naming d machine flavor members on made plain
    by false off =
        let plainly = made_plainly naming (renamed d) machine flavor members made off in
        listed_plainly imports objects d machine flavor plainly.all members plainly.made plainly.reads plainly.is (reads off)
