-- The archives of a definition's members for GNU's linker, as this reader has them.
use Rattle.std.proofs.Common.{◌≡◌, ◌∙◌, ℕ, ◌+◌, Bool, true, false, ◌&&◌, List, [], ◌∷◌, ◌==◌, Option, None, Some, ap, drop, if◌then◌else◌, length, map, nat_le, not, refl, reverse, sym}
use Rattle.std.specs.List.{AllByRecursion, list_all}
use Rattle.std.specs.Option.{option_and_then, option_map}
use Rattle.std.proofs.lemmas.List.{reverse-reverse}
use Rattle.implib.specs.declared.flavor.Flavor.TheVariants.{Gnu}
use Rattle.implib.specs.declared.machine.MachineType.{MachineType}
use Rattle.implib.specs.Definition.{DefinitionView, ExportView}
use Rattle.implib.specs.Formats.File.{File, ObjectFile, Meaning, file_in}
use Rattle.implib.specs.Formats.Layout.{entries_of, object_of}
use Rattle.implib.specs.Formats.Writer.{layout_of, written_object}
use Rattle.implib.specs.Import.{imp_symbol, is_alias, public_exports}
use Rattle.implib.specs.LibraryName.{NamesOfDll, names_for}
use Rattle.implib.specs.Machine.{machine_number}
use Rattle.implib.specs.Renaming.{renamed}
use Rattle.implib.specs.Members.Gnu.{export_object, head_object, tail_object, weak_address_name, weak_name}
use Rattle.implib.specs.Members.GnuMembers.{alias_specs, export_spec, head_spec, numbered_specs, numbered_specs_of, tail_spec}
use Rattle.implib.specs.Members.GnuReader.{meaning_with}
use Rattle.implib.specs.Members.Members.{member_specs}
use Rattle.implib.specs.Members.MemberSpec.{MemberSpec, MemberView}
use Rattle.implib.specs.Members.ReadBack.{GnuReadBack, file_at, file_of}
use Rattle.implib.specs.Members.WeakExternal.{weak_object, weak_spec}
use Rattle.implib.proofs.Formats.WriterLayout.{object_of-layout_of}
use Rattle.implib.proofs.Members.GnuLoop.{map-reverse}
use Rattle.implib.proofs.Members.MemberReadings.{all_append}
use Rattle.implib_archive.specs.Archive.{archive_of}
use Rattle.implib_archive.specs.Refusal.{refusal_of}
use Rattle.implib_archive.specs.declared.kind.Kind.{Kind}
use Rattle.implib_read.specs.Archives.{archive_in}
use Rattle.implib_read.specs.Classes.{Class, Head, Tail, class_of_file, files_of, library_in, members_read}
use Rattle.implib_read.specs.Delayed.{delayed_import}
use Rattle.implib_read.specs.Files.{definer_among, file_found}
use Rattle.implib_read.specs.Files.{File as FoundFile, ObjectFile as FoundObject}
use Rattle.implib_read.specs.Following.{Place, pointed}
use Rattle.implib_read.specs.Imports.{dll_of_object, import_of_object}
use Rattle.implib_read.specs.Objects.{SameObjects}
use Rattle.implib_read.specs.OwnLibraries.{OwnMembersFound, ReadsAsGnuLibrary, classes_in, meaning_of_class}
use Rattle.implib_read.specs.ShortImports.{SameShortImports}
use Rattle.implib_read.proofs.OwnGnu.{IsGood, good_numbered, reversed_all}
use Rattle.implib_read.proofs.OwnMembers.{files_as, files_of_specs, found_of, is_plain, machine_plain}
use Rattle.implib_read.proofs.OwnMsvc.{archive_by, classes_read, map_twice}

-- Each member is plain.

abbrev ArePlain : List MemberSpec → Type 0
ArePlain specs = AllByRecursion (λ p. is_plain (file_of p.contents) ≡ true) specs

export_few : (machine : MachineType) (dll : List ℕ) (e : ExportView) (is_data : Bool)
    → nat_le (length (written_object (export_object machine dll (record e { is_data = is_data }))).entries) 16 ≡ true
unfolding export_object
export_few machine dll e false = refl
export_few machine dll e true = refl

export_plain : (machine : MachineType) (dll : List ℕ) (number : ℕ) (e : ExportView) → is_plain (file_of (export_spec machine dll number e).contents) ≡ true
unfolding export_spec export_object is_plain
export_plain machine dll number e = ap (λ o. is_plain (ObjectFile o)) (object_of-layout_of (export_object machine dll e))
    ∙ ap (λ b. b && not (machine_number machine == 0)) (export_few machine dll e e.is_data) ∙ (machine_plain machine).1

aliases_plain : (machine : MachineType) (dll : List ℕ) (number : ℕ) (e : ExportView) → ArePlain (alias_specs machine dll number e)
unfolding alias_specs is_plain object_of weak_object entries_of
aliases_plain machine dll number e = by (is_alias e.alias_target e.name)
  where
    by : (b : Bool) → ArePlain (if b then weak_spec machine (weak_name dll number) e.name e.alias_target
        ∷ weak_spec machine (weak_address_name dll number) (imp_symbol e.name) (imp_symbol e.alias_target) ∷ [] else [])
    by false = tt
    by true = ((machine_plain machine).1, ((machine_plain machine).1, tt))

numbered_plain : (machine : MachineType) (dll : List ℕ) (number : ℕ) (exports : List ExportView) → ArePlain (numbered_specs machine dll number exports)
numbered_plain machine dll number [] = tt
numbered_plain machine dll number (e ∷ exports) =
    all_append (λ p. is_plain (file_of p.contents) ≡ true) (numbered_specs_of machine dll number e) (numbered_specs machine dll (number + 1) exports)
    (all_append (λ p. is_plain (file_of p.contents) ≡ true) (alias_specs machine dll number e) (export_spec machine dll number e ∷ []) (aliases_plain machine dll number e) (export_plain machine dll number e, tt))
    (numbered_plain machine dll (number + 1) exports)

files_plain : (specs : List MemberSpec) → ArePlain specs → list_all is_plain (files_of_specs specs) ≡ true
files_plain [] plain = refl
files_plain (p ∷ specs) plain = ap (λ b. b && list_all is_plain (files_of_specs specs)) plain.0 ∙ files_plain specs plain.1

-- The first two members.

tail_class : (defined : List ℕ → Option Place) (machine : MachineType) (linked text : List ℕ)
    → class_of_file defined (FoundObject (written_object (tail_object machine (record { linked = linked; text = text })))) ≡ Tail
unfolding tail_object import_of_object dll_of_object delayed_import pointed
tail_class defined machine linked [] = refl
tail_class defined machine linked (x ∷ text) = refl

head_class : (defined : List ℕ → Option Place) (machine : MachineType) (linked : List ℕ)
    → class_of_file defined (FoundObject (written_object (head_object machine linked))) ≡ Head
unfolding head_object import_of_object dll_of_object delayed_import pointed
head_class defined machine linked = refl

-- The files.

drop_two : {A B : Type 0} (f : A → B) (xs : List A) → drop 2 (map f xs) ≡ map f (drop 2 xs)
drop_two f [] = refl
drop_two f (a ∷ []) = refl
drop_two f (a ∷ b ∷ xs) = refl

with_some : {A B : Type 0} (f : A → Option B) (xs : List A) → map (option_and_then f) (map Some xs) ≡ map f xs
with_some f [] = refl
with_some f (x ∷ xs) = ap (λ ys. f x ∷ ys) (with_some f xs)

first_file : (members : List MemberView) (a b : File) (rest : List (Option File)) → map (λ (m : MemberView). file_in m.bytes) members ≡ Some a ∷ Some b ∷ rest → file_at members 0 ≡ Some a
first_file [] a b rest same = cc
first_file (m ∷ members) a b rest same = cc

second_file : (members : List MemberView) (a b : File) (rest : List (Option File)) → map (λ (m : MemberView). file_in m.bytes) members ≡ Some a ∷ Some b ∷ rest → file_at members 1 ≡ Some b
second_file [] a b rest same = cc
second_file (m ∷ []) a b rest same = cc
second_file (m ∷ n ∷ members) a b rest same = cc

same_some : (a b : File) → Some a ≡ Some b → a ≡ b
same_some a b same = cc

heads_of : (a b : Option Meaning) (xs ys : List (Option Meaning)) → a ∷ xs ≡ b ∷ ys → a ≡ b
heads_of a b xs ys same = cc

tails_of : (a b : Option Meaning) (xs ys : List (Option Meaning)) → a ∷ xs ≡ b ∷ ys → xs ≡ ys
tails_of a b xs ys same = cc

two_plain : (a b c : Bool) → a ≡ true → b ≡ true → c ≡ true → (a && (b && c)) ≡ true
two_plain a b c first second third = ap (λ x. x && (b && c)) first ∙ ap (λ x. x && c) second ∙ third

tables_plain : (machine : MachineType) (dll : NamesOfDll) (rest : List File) → list_all is_plain rest ≡ true
    → list_all is_plain (ObjectFile (written_object (tail_object machine dll)) ∷ ObjectFile (written_object (head_object machine dll.linked)) ∷ rest) ≡ true
unfolding is_plain tail_object head_object
tables_plain machine dll rest plain = two_plain _ _ _ (machine_plain machine).1 (machine_plain machine).1 plain

-- what the specifications' files mean
good_list : (machine : MachineType) (dll : NamesOfDll) (others : List FoundFile) (ps : List MemberSpec) (ms : List Meaning)
    → AllByRecursion (λ p. IsGood machine dll others (file_of p.contents)) ps
    → map (meaning_with (ObjectFile (written_object (head_object machine dll.linked))) (ObjectFile (written_object (tail_object machine dll)))) (files_of_specs ps) ≡ map Some ms
    → map meaning_of_class (map (class_of_file (definer_among (FoundObject (written_object (tail_object machine dll)) ∷ FoundObject (written_object (head_object machine dll.linked)) ∷ others))) (map found_of (files_of_specs ps))) ≡ map Some ms
good_list machine dll others [] [] good same = refl
good_list machine dll others [] (m ∷ ms) good same = cc
good_list machine dll others (p ∷ ps) [] good same = cc
good_list machine dll others (p ∷ ps) (m ∷ ms) good same =
    let defined = definer_among (FoundObject (written_object (tail_object machine dll)) ∷ FoundObject (written_object (head_object machine dll.linked)) ∷ others) in
    let read = meaning_with (ObjectFile (written_object (head_object machine dll.linked))) (ObjectFile (written_object (tail_object machine dll))) in
    let first : read (file_of p.contents) ≡ Some m = heads_of (read (file_of p.contents)) (Some m) (map read (files_of_specs ps)) (map Some ms) same in
    let rest : map read (files_of_specs ps) ≡ map Some ms = tails_of (read (file_of p.contents)) (Some m) (map read (files_of_specs ps)) (map Some ms) same in
    ap (λ x. x ∷ map meaning_of_class (map (class_of_file defined) (map found_of (files_of_specs ps)))) (good.0 m first)
    ∙ ap (λ xs. Some m ∷ xs) (good_list machine dll others ps ms good.1 rest)

-- the files of a definition's members
abbrev pub own_gnu_files : DefinitionView → MachineType → List File
own_gnu_files d machine =
    ObjectFile (written_object (tail_object machine (names_for Gnu (renamed d)))) ∷ ObjectFile (written_object (head_object machine (names_for Gnu (renamed d)).linked))
    ∷ files_of_specs (reverse (numbered_specs machine (names_for Gnu (renamed d)).linked 0 (public_exports (renamed d))))

pub gnu_files_plain : (d : DefinitionView) (machine : MachineType) → list_all is_plain (own_gnu_files d machine) ≡ true
gnu_files_plain d machine =
    let dll = names_for Gnu (renamed d) in
    let built = reverse (numbered_specs machine dll.linked 0 (public_exports (renamed d))) in
    tables_plain machine dll (files_of_specs built)
    (files_plain built (reversed_all (λ p. is_plain (file_of p.contents) ≡ true) _ (numbered_plain machine dll.linked 0 (public_exports (renamed d)))))

-- they are those that are read
pub gnu_files_read : (d : DefinitionView) (machine : MachineType) (members : List MemberView) → GnuReadBack d machine members
    → map (λ (m : MemberView). file_in m.bytes) members ≡ map Some (own_gnu_files d machine)
unfolding tail_spec head_spec
gnu_files_read d machine members back =
    let dll = names_for Gnu (renamed d) in
    let rest = files_of_specs (reverse (numbered_specs machine dll.linked 0 (public_exports (renamed d)))) in
    let written : ObjectFile (object_of (layout_of (tail_object machine dll))) ∷ ObjectFile (object_of (layout_of (head_object machine dll.linked))) ∷ rest ≡ own_gnu_files d machine =
    ap (λ o. ObjectFile o ∷ ObjectFile (object_of (layout_of (head_object machine dll.linked))) ∷ rest) (object_of-layout_of (tail_object machine dll))
    ∙ ap (λ o. ObjectFile (written_object (tail_object machine dll)) ∷ ObjectFile o ∷ rest) (object_of-layout_of (head_object machine dll.linked)) in
    back.files ∙ sym (map_twice Some (λ (p : MemberSpec). file_of p.contents) (member_specs (renamed d) machine Gnu)) ∙ ap (map Some) written

pub own_gnu : OwnMembersFound → SameShortImports → SameObjects → (kind : Kind) (d : DefinitionView) (machine : MachineType) (members : List MemberView)
    → GnuReadBack d machine members → refusal_of kind members ≡ None → ReadsAsGnuLibrary d machine (archive_of kind members)
unfolding library_in found_of tail_spec head_spec
own_gnu own imports objects kind d machine members back accepted =
    let bytes = archive_of kind members in
    let dll = names_for Gnu (renamed d) in
    let built = reverse (numbered_specs machine dll.linked 0 (public_exports (renamed d))) in
    let rest = files_of_specs built in
    let tail = written_object (tail_object machine dll) in
    let head = written_object (head_object machine dll.linked) in
    let fs : List File = ObjectFile tail ∷ ObjectFile head ∷ rest in
    let contents = map (λ (m : MemberView). m.bytes) members in
    let members_files : map (λ (m : MemberView). file_in m.bytes) members ≡ map Some fs = gnu_files_read d machine members back in
    let files : map file_in contents ≡ map Some fs = map_twice file_in (λ (m : MemberView). m.bytes) members ∙ members_files in
    let plain = gnu_files_plain d machine in
    let found = archive_by bytes contents (archive_in bytes) refl (own kind members accepted) in
    let stored = found.archive.members in
    let read : map file_found (map (λ m. m.bytes) stored) ≡ map found_of fs = ap (map file_found) found.same ∙ files_as imports objects contents fs files plain in
    let seen : files_of stored ≡ map found_of fs = sym (map_twice file_found (λ m. m.bytes) stored) ∙ read in
    let others = map found_of rest in
    let defined = definer_among (FoundObject tail ∷ FoundObject head ∷ others) in
    let classes = map (class_of_file defined) (map found_of fs) in
    let there : classes_in bytes ≡ Some classes =
    ap (λ o. option_map (map (λ m. m.class)) (option_map (λ archive. members_read archive.members) o)) found.is
    ∙ ap Some (classes_read stored ∙ ap (λ s. map (class_of_file (definer_among s)) (map file_found (map (λ m. m.bytes) stored))) seen ∙ ap (map (class_of_file defined)) read) in
    let is_head : back.head ≡ ObjectFile head = same_some back.head (ObjectFile head) (sym back.head_read ∙ second_file members (ObjectFile tail) (ObjectFile head) (map Some rest) members_files) in
    let is_tail : back.tail ≡ ObjectFile tail = same_some back.tail (ObjectFile tail) (sym back.tail_read ∙ first_file members (ObjectFile tail) (ObjectFile head) (map Some rest) members_files) in
    let with_both : File → Option Meaning = meaning_with (ObjectFile head) (ObjectFile tail) in
    let backwards : map (λ (m : MemberView). option_and_then with_both (file_in m.bytes)) (reverse (drop 2 members)) ≡ map Some back.meanings =
    sym (ap (λ h. map (λ (m : MemberView). option_and_then (meaning_with h back.tail) (file_in m.bytes)) (reverse (drop 2 members))) is_head
    ∙ ap (λ t. map (λ (m : MemberView). option_and_then (meaning_with (ObjectFile head) t) (file_in m.bytes)) (reverse (drop 2 members))) is_tail) ∙ back.meanings_read in
    let each : map (λ (m : MemberView). option_and_then with_both (file_in m.bytes)) (drop 2 members) ≡ map with_both rest =
    sym (map_twice (option_and_then with_both) (λ (m : MemberView). file_in m.bytes) (drop 2 members))
    ∙ ap (map (option_and_then with_both)) (sym (drop_two (λ (m : MemberView). file_in m.bytes) members) ∙ ap (drop 2) members_files)
    ∙ with_some with_both rest in
    let forwards : map with_both rest ≡ map Some (reverse back.meanings) =
    sym (reverse-reverse (map with_both rest))
    ∙ ap reverse (ap reverse (sym each) ∙ sym (map-reverse (λ (m : MemberView). option_and_then with_both (file_in m.bytes)) (drop 2 members)) ∙ backwards)
    ∙ sym (map-reverse Some back.meanings) in
    let good = reversed_all (λ p. IsGood machine dll others (file_of p.contents)) _ (good_numbered machine dll others 0 (public_exports (renamed d))) in
    let means = good_list machine dll others built (reverse back.meanings) good forwards in
    record {
      classes = classes;
      found = there;
      means = record {
        header = ap (λ (c : Class). c ∷ class_of_file defined (FoundObject head) ∷ []) (tail_class defined machine dll.linked dll.text) ∙ ap (λ (c : Class). Tail ∷ c ∷ []) (head_class defined machine dll.linked);
        meanings = back.meanings;
        read = map-reverse meaning_of_class (map (class_of_file defined) others) ∙ ap reverse means ∙ sym (map-reverse Some (reverse back.meanings)) ∙ ap (map Some) (reverse-reverse back.meanings);
        imports = back.imports;
        aliases = back.aliases;
      };
    }
