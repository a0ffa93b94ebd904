-- What is read of the library of a definition.
use Rattle.std.proofs.Common.{◌≡◌, ◌∙◌, ℕ, Bool, true, false, ◌&&◌, ◌||◌, List, [], ◌∷◌, ◌++◌, Option, None, Some, ap, drop, map, refl, reverse, subst, sym, take}
use Rattle.std.specs.List.{cons_option, filter_map, flat_map, list_all, list_any}
use Rattle.std.specs.Option.{option_and_then, option_map}
use Rattle.std.proofs.lemmas.Bool.{true≢false}
use Rattle.std.proofs.lemmas.List.{map-append, reverse-reverse, take-append-drop}
use Rattle.std.proofs.lemmas.List.Elements.{filter_map-append}
use Rattle.std.proofs.lemmas.List.Folds.{list_all-map, list_any-append}
use Rattle.std.proofs.lemmas.Option.{same_Some}
use Rattle.implib.specs.declared.flavor.Flavor.{Flavor}
use Rattle.implib.specs.declared.flavor.Flavor.TheVariants.{Gnu, Msvc}
use Rattle.implib.specs.declared.machine.MachineType.{MachineType}
use Rattle.implib.specs.Definition.{DefinitionView, ExportView}
use Rattle.implib.specs.Formats.File.{Meaning, file_in, meaning_in, meaning_of}
use Rattle.implib.specs.Formats.File.{AnAlias as MeansAlias, AnImport as MeansImport}
use Rattle.implib.specs.Import.{Alias, Import, public_exports}
use Rattle.implib.specs.LibraryName.{NamesOfDll, names_for}
use Rattle.implib.specs.Members.MemberLists.{alias_specs, import_specs}
use Rattle.implib.specs.Members.Members.{AreMembersOf, member_specs}
use Rattle.implib.specs.Members.MemberSpec.{MemberSpec, MemberView, member_of}
use Rattle.implib.specs.Members.MsvcMembers.{export_specs, header_specs, short_import_spec, weak_specs}
use Rattle.implib.specs.Members.ReadBack.{GnuReadBack, MsvcReadBack, ReadBack, alias_among, file_of, import_among}
use Rattle.implib.specs.Renaming.{renamed}
use Rattle.implib.proofs.Members.GnuLoop.{map-reverse}
use Rattle.implib.proofs.Members.MemberReadings.{map_after}
use Rattle.implib.proofs.Members.Renaming.{renamed_twice}
use Rattle.implib_archive.specs.Archive.{archive_of}
use Rattle.implib_archive.specs.Refusal.{refusal_of}
use Rattle.implib_archive.specs.declared.kind.Kind.{Kind}
use Rattle.implib_read.specs.Archives.{archive_in}
use Rattle.implib_read.specs.Classes.{Class, AnImport, AnAlias, Descriptor, NullDescriptor, NullThunk, Head, Tail, DelayImport, Other, NotUnderstood, Imported, MemberRead, class_of_file, files_of, library_in, members_read}
use Rattle.implib_read.specs.Files.{definer_among, file_found}
use Rattle.implib_read.specs.Following.{Place}
use Rattle.implib_read.specs.Objects.{SameObjects}
use Rattle.implib_read.specs.OwnLibraries.{IsGnuLibraryOf, OwnGnuLibraries, OwnMembersFound, classes_in, meaning_of_class}
use Rattle.implib_read.specs.ShortImports.{SameShortImports}
use Rattle.implib_read.proofs.OwnMembers.{drop_mapped, drop_plain, files_as, files_of_specs, found_of, header_classes, is_plain, meanings_as, read_meanings, specs_plain}
use Rattle.implib_read.proofs.OwnMsvc.{archive_by, classes_read, map_twice}
use Rattle.implib_rules.specs.ExportAs.{AreMadeFor}
use Rattle.implib_rules.specs.Linked.{NamingView}
use Rattle.implib_rules.proofs.Made.{made_is, specs_are}
use Rattle.implib_rules.specs.Order.{LibraryReads, ReadsInOrder, library_specs, msvc_specs, own_aliases, own_imports}
use Rattle.implib_rules.proofs.OrderedReadings.{shown_in_order}
use Rattle.implib_compare.specs.Comparison.{has_other, has_unread, is_other, is_unread}
use Rattle.implib_check_driver.specs.OwnLibraries.{MeantIsDefined, SaysWhatIsDefined, meanings_read}

-- What members mean.

-- classes that all mean something mean this
read_all : (cs : List Class) (ms : List Meaning) → map meaning_of_class cs ≡ map Some ms → filter_map meaning_of_class cs ≡ ms
read_all [] [] same = refl
read_all [] (m ∷ ms) same = cc
read_all (c ∷ cs) [] same = cc
read_all (c ∷ cs) (m ∷ ms) same =
    let first : meaning_of_class c ≡ Some m = cc in
    let rest : map meaning_of_class cs ≡ map Some ms = cc in
    ap (λ o. cons_option o (filter_map meaning_of_class cs)) first ∙ ap (λ xs. m ∷ xs) (read_all cs ms rest)

read_members : (members : List MemberRead) → meanings_read members ≡ filter_map meaning_of_class (map (λ m. m.class) members)
read_members [] = refl
read_members (m ∷ members) = ap (cons_option (meaning_of_class m.class)) (read_members members)

pub any_members : (test : Class → Bool) (members : List MemberRead) → list_any (λ m. test m.class) members ≡ list_any test (map (λ m. m.class) members)
any_members test [] = refl
any_members test (m ∷ members) = ap (λ b. test m.class || b) (any_members test members)

-- a class that means something passes no test that imports and aliases fail
told : (test : Class → Bool) → ((i : Imported) → test (AnImport i) ≡ false) → ((a : Alias) → test (AnAlias a) ≡ false) → (c : Class) (m : Meaning) → meaning_of_class c ≡ Some m → test c ≡ false
told test import alias (AnImport i) m is = import i
told test import alias (AnAlias a) m is = alias a
told test import alias Descriptor m is = cc
told test import alias NullDescriptor m is = cc
told test import alias NullThunk m is = cc
told test import alias Head m is = cc
told test import alias Tail m is = cc
told test import alias DelayImport m is = cc
told test import alias Other m is = cc
told test import alias NotUnderstood m is = cc

pub all_told : (test : Class → Bool) → ((i : Imported) → test (AnImport i) ≡ false) → ((a : Alias) → test (AnAlias a) ≡ false) → (cs : List Class) (ms : List Meaning)
    → map meaning_of_class cs ≡ map Some ms → list_any test cs ≡ false
all_told test import alias [] ms same = refl
all_told test import alias (c ∷ cs) [] same = cc
all_told test import alias (c ∷ cs) (m ∷ ms) same =
    let first : meaning_of_class c ≡ Some m = cc in
    let rest : map meaning_of_class cs ≡ map Some ms = cc in
    ap (λ b. b || list_any test cs) (told test import alias c m first) ∙ all_told test import alias cs ms rest

-- what is read of members: these imports and aliases, and nothing that leaves a comparison open
pub record AreRead (members : List MemberRead) (ms : List Meaning) : Type 0 where
  pub meanings : meanings_read members ≡ ms
  pub read : has_unread members ≡ false
  pub alone : has_other members ≡ false

-- after the first members
none_after : (n : ℕ) (test : Class → Bool) (cs : List Class) → list_any test (take n cs) ≡ false → list_any test (drop n cs) ≡ false → list_any test cs ≡ false
none_after n test cs first second =
    ap (list_any test) (sym (take-append-drop n cs))
    ∙ list_any-append test (take n cs) (drop n cs)
    ∙ ap (λ b. b || list_any test (drop n cs)) first
    ∙ second

pub after_header : (n : ℕ) (header : List Class) (members : List MemberRead) (ms : List Meaning)
    → list_any is_unread header ≡ false → list_any is_other header ≡ false → filter_map meaning_of_class header ≡ []
    → take n (map (λ m. m.class) members) ≡ header → map meaning_of_class (drop n (map (λ m. m.class) members)) ≡ map Some ms → AreRead members ms
after_header n header members ms unread other none is means =
    let cs = map (λ (m : MemberRead). m.class) members in
    record {
      meanings =
          read_members members
          ∙ ap (filter_map meaning_of_class) (sym (take-append-drop n cs))
          ∙ filter_map-append meaning_of_class (take n cs) (drop n cs)
          ∙ ap (λ xs. xs ++ filter_map meaning_of_class (drop n cs)) (ap (filter_map meaning_of_class) is ∙ none)
          ∙ read_all (drop n cs) ms means;
      read =
          any_members is_unread members
          ∙ none_after n is_unread cs (ap (list_any is_unread) is ∙ unread) (all_told is_unread (λ i. refl) (λ a. refl) (drop n cs) ms means);
      alone =
          any_members is_other members
          ∙ none_after n is_other cs (ap (list_any is_other) is ∙ other) (all_told is_other (λ i. refl) (λ a. refl) (drop n cs) ms means);
    }

-- the first classes of members are these, and those after them mean this
pub record HasHeader (n : ℕ) (header : List Class) (members : List MemberRead) (ms : List Meaning) : Type 0 where
  pub first : take n (map (λ m. m.class) members) ≡ header
  pub rest : map meaning_of_class (drop n (map (λ m. m.class) members)) ≡ map Some ms

-- Libraries for GNU's linker.

says_gnu : OwnGnuLibraries → (kind : Kind) (d : DefinitionView) (machine : MachineType) (members : List MemberView) (meant : List MemberRead)
    → GnuReadBack d machine members → refusal_of kind members ≡ None → library_in (archive_of kind members) ≡ Some meant → SaysWhatIsDefined d machine Gnu meant
says_gnu law kind d machine members meant back accepted there =
    let own = law kind d machine members back accepted in
    let cs = map (λ (m : MemberRead). m.class) meant in
    let same : own.classes ≡ cs = same_Some _ _ (sym own.found ∙ ap (option_map (map (λ m. m.class))) there) in
    let means = subst (IsGnuLibraryOf d machine) same own.means in
    let forwards : map meaning_of_class (drop 2 cs) ≡ map Some (reverse means.meanings) =
    sym (reverse-reverse (map meaning_of_class (drop 2 cs)))
    ∙ ap reverse (sym (map-reverse meaning_of_class (drop 2 cs)) ∙ means.read)
    ∙ sym (map-reverse Some means.meanings) in
    let all = after_header 2 (Tail ∷ Head ∷ []) meant (reverse means.meanings) refl refl refl means.header forwards in
    let back : reverse (meanings_read meant) ≡ means.meanings = ap reverse all.meanings ∙ reverse-reverse means.meanings in
    record {
      imports = ap (filter_map import_among) back ∙ means.imports;
      aliases = ap (filter_map alias_among) back ∙ means.aliases;
      read = all.read;
      alone = all.alone;
    }

-- Libraries for Microsoft's linker.

pub no_imports : (aliases : List Alias) → filter_map import_among (map MeansAlias aliases) ≡ []
no_imports [] = refl
no_imports (a ∷ aliases) = no_imports aliases

imports_first : (imports : List Import) (aliases : List Alias) → filter_map import_among (map MeansImport imports ++ map MeansAlias aliases) ≡ imports
imports_first [] aliases = no_imports aliases
imports_first (i ∷ imports) aliases = ap (λ is. i ∷ is) (imports_first imports aliases)

pub all_aliases : (aliases : List Alias) → filter_map alias_among (map MeansAlias aliases) ≡ aliases
all_aliases [] = refl
all_aliases (a ∷ aliases) = ap (λ rest. a ∷ rest) (all_aliases aliases)

aliases_last : (imports : List Import) (aliases : List Alias) → filter_map alias_among (map MeansImport imports ++ map MeansAlias aliases) ≡ aliases
aliases_last [] aliases = all_aliases aliases
aliases_last (i ∷ imports) aliases = aliases_last imports aliases

-- lists that begin with three items
behind_three : {Y : Type 0} (a b c x y z : Y) (more others : List Y) → a ∷ b ∷ c ∷ more ≡ x ∷ y ∷ z ∷ others → more ≡ others
behind_three a b c x y z more others same = cc

with_three : {Y : Type 0} (a b c x y z : Y) (more others front back : List Y) → a ∷ b ∷ c ∷ more ≡ x ∷ y ∷ z ∷ others → front ≡ back
    → a ∷ b ∷ c ∷ front ≡ x ∷ y ∷ z ∷ back
with_three a b c x y z more others front back same rest = cc

-- what all members show, those of the library do
shown_whole : {Y : Type 0} (F G : MemberSpec → Y) (machine : MachineType) (dll : NamesOfDll) (exports : List ExportView)
    → map F (header_specs machine dll ++ flat_map (export_specs machine dll) exports) ≡ map G (header_specs machine dll ++ flat_map (export_specs machine dll) exports)
    → map F (header_specs machine dll ++ (flat_map (import_specs machine dll) exports ++ flat_map (alias_specs machine dll.linked) exports))
    ≡ map G (header_specs machine dll ++ (flat_map (import_specs machine dll) exports ++ flat_map (alias_specs machine dll.linked) exports))
unfolding header_specs
shown_whole F G machine dll exports same =
    let each = flat_map (export_specs machine dll) exports in
    let imports = flat_map (import_specs machine dll) exports in
    let aliases = flat_map (alias_specs machine dll.linked) exports in
    let rest : map F each ≡ map G each = behind_three _ _ _ _ _ _ _ _ same in
    let parts = shown_in_order F G machine dll (weak_specs machine dll.linked) (λ e. short_import_spec machine dll e ∷ []) (λ e. refl) (λ e. refl) exports rest in
    let both : map F (imports ++ aliases) ≡ map G (imports ++ aliases) =
    map-append F imports aliases ∙ ap (λ xs. xs ++ map F aliases) parts.0 ∙ ap (λ xs. map G imports ++ xs) parts.1 ∙ sym (map-append G imports aliases) in
    with_three _ _ _ _ _ _ (map F each) (map G each) (map F (imports ++ aliases)) (map G (imports ++ aliases)) same both

-- a test that all items pass
and_parts : (a b : Bool) → (a && b) ≡ true → (a ≡ true) × (b ≡ true)
and_parts true b is = (refl, is)
and_parts false b is = absurd (true≢false (sym is))

all_true : {A : Type 0} (test : A → Bool) (xs : List A) → list_all test xs ≡ true → map test xs ≡ map (λ x. true) xs
all_true test [] is = refl
all_true test (x ∷ xs) is =
    let parts = and_parts (test x) (list_all test xs) is in
    ap (λ b. b ∷ map test xs) parts.0 ∙ ap (λ bs. true ∷ bs) (all_true test xs parts.1)

true_all : {A : Type 0} (test : A → Bool) (xs : List A) → map test xs ≡ map (λ x. true) xs → list_all test xs ≡ true
true_all test [] same = refl
true_all {A = A} test (x ∷ xs) same =
    let first : test x ≡ true = cc in
    let rest : map test xs ≡ map (λ (x : A). true) xs = cc in
    ap (λ b. b && list_all test xs) first ∙ true_all test xs rest

pub files_plain : (machine : MachineType) (d : DefinitionView) → list_all is_plain (files_of_specs (msvc_specs machine d)) ≡ true
files_plain machine d =
    let test : MemberSpec → Bool = λ p. is_plain (file_of p.contents) in
    list_all-map is_plain (λ (p : MemberSpec). file_of p.contents) (msvc_specs machine d)
    ∙ true_all test (msvc_specs machine d)
    (shown_whole test (λ p. true) machine (names_for Msvc d) (public_exports d)
    (all_true test (member_specs d machine Msvc) (sym (list_all-map is_plain (λ (p : MemberSpec). file_of p.contents) (member_specs d machine Msvc)) ∙ specs_plain d machine)))

pub files_read : (machine : MachineType) (d : DefinitionView) (all : List MemberView) → AreMembersOf d machine Msvc all → MsvcReadBack d machine all → renamed d ≡ d
    → map (λ (p : MemberSpec). file_in (member_of p).bytes) (msvc_specs machine d) ≡ map (λ (p : MemberSpec). Some (file_of p.contents)) (msvc_specs machine d)
files_read machine d all made reads once =
    let specs = member_specs d machine Msvc in
    let whole : all ≡ map member_of specs = made.made ∙ ap (λ (x : DefinitionView). map member_of (member_specs x machine Msvc)) once in
    shown_whole (λ (p : MemberSpec). file_in (member_of p).bytes) (λ (p : MemberSpec). Some (file_of p.contents)) machine (names_for Msvc d) (public_exports d)
    (sym (map_after (λ (m : MemberView). file_in m.bytes) member_of specs)
    ∙ sym (ap (map (λ (m : MemberView). file_in m.bytes)) whole)
    ∙ reads.files
    ∙ ap (λ (x : DefinitionView). map (λ (p : MemberSpec). Some (file_of p.contents)) (member_specs x machine Msvc)) once)

pub header_read : (defined : List ℕ → Option Place) (machine : MachineType) (d : DefinitionView)
    → take 3 (map (class_of_file defined) (map found_of (files_of_specs (msvc_specs machine d)))) ≡ Descriptor ∷ NullDescriptor ∷ NullThunk ∷ []
unfolding header_specs
header_read defined machine d = header_classes defined d machine

pub header_msvc : OwnMembersFound → SameShortImports → SameObjects → (kind : Kind) (d : DefinitionView) (machine : MachineType) (all members : List MemberView) (meant : List MemberRead)
    → AreMembersOf d machine Msvc all → MsvcReadBack d machine all → renamed d ≡ d → members ≡ map member_of (msvc_specs machine d) → ReadsInOrder d machine members
    → refusal_of kind members ≡ None → library_in (archive_of kind members) ≡ Some meant
    → HasHeader 3 (Descriptor ∷ NullDescriptor ∷ NullThunk ∷ []) meant (map MeansImport (own_imports machine d) ++ map MeansAlias (own_aliases d))
unfolding library_in
header_msvc own imports objects kind d machine all members meant made back once is reads accepted there =
    let bytes = archive_of kind members in
    let specs = msvc_specs machine d in
    let contents = map (λ (m : MemberView). m.bytes) members in
    let fs = files_of_specs specs in
    let ms = map MeansImport (own_imports machine d) ++ map MeansAlias (own_aliases d) in
    let plain = files_plain machine d in
    let found = archive_by bytes contents (archive_in bytes) refl (own kind members accepted) in
    let stored = found.archive.members in
    let defined = definer_among (files_of stored) in
    let files : map file_in contents ≡ map Some fs =
    map_twice file_in (λ (m : MemberView). m.bytes) members
    ∙ ap (map (λ (m : MemberView). file_in m.bytes)) is
    ∙ map_after (λ (m : MemberView). file_in m.bytes) member_of specs
    ∙ files_read machine d all made back once
    ∙ sym (map_twice Some (λ (p : MemberSpec). file_of p.contents) specs) in
    let read : map file_found (map (λ m. m.bytes) stored) ≡ map found_of fs = ap (map file_found) found.same ∙ files_as imports objects contents fs files plain in
    let classes = map (class_of_file defined) (map found_of fs) in
    let has : classes_in bytes ≡ Some classes =
    ap (λ o. option_map (map (λ m. m.class)) (option_map (λ archive. members_read archive.members) o)) found.is
    ∙ ap Some (classes_read stored ∙ ap (map (class_of_file defined)) read) in
    let same : classes ≡ map (λ (m : MemberRead). m.class) meant = same_Some _ _ (sym has ∙ ap (option_map (map (λ m. m.class))) there) in
    let means : map meaning_of (drop 3 fs) ≡ map Some ms =
    sym (read_meanings (drop 3 fs))
    ∙ ap (map (option_and_then meaning_of)) (sym (drop_mapped Some fs))
    ∙ ap (λ xs. map (option_and_then meaning_of) (drop 3 xs)) (sym files)
    ∙ ap (map (option_and_then meaning_of)) (drop_mapped file_in contents ∙ ap (map file_in) (drop_mapped (λ (m : MemberView). m.bytes) members))
    ∙ map_twice (option_and_then meaning_of) file_in (map (λ (m : MemberView). m.bytes) (drop 3 members))
    ∙ map_twice meaning_in (λ (m : MemberView). m.bytes) (drop 3 members)
    ∙ reads.meanings in
    let meanings : map meaning_of_class (drop 3 classes) ≡ map Some ms =
    ap (map meaning_of_class) (drop_mapped (class_of_file defined) (map found_of fs) ∙ ap (map (class_of_file defined)) (drop_mapped found_of fs))
    ∙ meanings_as defined (drop 3 fs) ms (drop_plain fs plain) means in
    record {
      first = ap (take 3) (sym same) ∙ header_read defined machine d;
      rest = ap (λ cs. map meaning_of_class (drop 3 cs)) (sym same) ∙ meanings;
    }

says_msvc : OwnMembersFound → SameShortImports → SameObjects → (kind : Kind) (d : DefinitionView) (machine : MachineType) (all members : List MemberView) (meant : List MemberRead)
    → AreMembersOf d machine Msvc all → MsvcReadBack d machine all → renamed d ≡ d → members ≡ map member_of (msvc_specs machine d) → ReadsInOrder d machine members
    → refusal_of kind members ≡ None → library_in (archive_of kind members) ≡ Some meant → SaysWhatIsDefined d machine Msvc meant
says_msvc own imports objects kind d machine all members meant made back once is reads accepted there =
    let has = header_msvc own imports objects kind d machine all members meant made back once is reads accepted there in
    let ms = map MeansImport (own_imports machine d) ++ map MeansAlias (own_aliases d) in
    let whole = after_header 3 (Descriptor ∷ NullDescriptor ∷ NullThunk ∷ []) meant ms refl refl refl has.first has.rest in
    record {
      imports = ap (filter_map import_among) whole.meanings ∙ imports_first (own_imports machine d) (own_aliases d);
      aliases = ap (filter_map alias_among) whole.meanings ∙ aliases_last (own_imports machine d) (own_aliases d);
      read = whole.read;
      alone = whole.alone;
    }

-- Libraries of either flavour.

pub says : OwnMembersFound → SameShortImports → SameObjects → OwnGnuLibraries → (kind : Kind) (d : DefinitionView) (machine : MachineType) (flavor : Flavor) (all members : List MemberView) (meant : List MemberRead)
    → AreMembersOf (renamed d) machine flavor all → ReadBack (renamed d) machine flavor all → members ≡ map member_of (library_specs (renamed d) machine flavor)
    → LibraryReads (renamed d) machine flavor members → refusal_of kind members ≡ None → library_in (archive_of kind members) ≡ Some meant
    → SaysWhatIsDefined (renamed d) machine flavor meant
says own imports objects law kind d machine Msvc all members meant made back is reads accepted there =
    says_msvc own imports objects kind (renamed d) machine all members meant made back.files (renamed_twice d) is reads accepted there
says own imports objects law kind d machine Gnu all members meant made back is reads accepted there =
    let same : all ≡ members = made.made ∙ ap (λ (x : DefinitionView). map member_of (member_specs x machine Gnu)) (renamed_twice d) ∙ sym is in
    says_gnu law kind (renamed d) machine members meant (subst (GnuReadBack (renamed d) machine) same back) accepted there

-- the members of a library without third texts: those of its definition, read back, in order
pub record MadePlainly (d : DefinitionView) (machine : MachineType) (flavor : Flavor) (members : List MemberView) : Type 0 where
  pub all : List MemberView
  pub made : AreMembersOf d machine flavor all
  pub reads : ReadBack d machine flavor all
  pub is : members ≡ map member_of (library_specs d machine flavor)

pub made_plainly : (naming : NamingView) (d : DefinitionView) (machine : MachineType) (flavor : Flavor) (members : List MemberView)
    → AreMadeFor naming d machine flavor members → naming.exports_as ≡ false → MadePlainly d machine flavor members
made_plainly naming d machine flavor members made off =
    let is_made = made_is naming machine flavor d off in
    record {
      all = made.all;
      made = subst (λ (x : DefinitionView). AreMembersOf x machine flavor made.all) is_made made.made;
      reads = subst (λ (x : DefinitionView). ReadBack x machine flavor made.all) is_made made.reads;
      is = made.is ∙ ap (map member_of) (specs_are naming machine flavor d off);
    }

pub meant_is_defined : OwnMembersFound → SameShortImports → SameObjects → OwnGnuLibraries → MeantIsDefined
meant_is_defined own imports objects law definition options file meant off is there =
    let made = is.members_for in
    let plainly = made_plainly options.naming (renamed made.definition) options.machine options.flavor is.members made.made_for off in
    record {
      d = made.definition;
      of_text = made.of_text;
      says = says own imports objects law _ made.definition options.machine options.flavor plainly.all is.members meant plainly.made plainly.reads plainly.is (made.library_reads off) is.accepted (sym (ap library_in is.is) ∙ there);
    }
