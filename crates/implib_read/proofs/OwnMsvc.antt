-- The archives of a definition's members for Microsoft's linker, as this reader has them.
use Rattle.std.proofs.Common.{arith, ◌≡◌, ◌∙◌, ℕ, ◌==◌, true, List, [], ◌∷◌, Option, None, Some, ap, drop, map, refl}
use Rattle.std.specs.List.{list_all}
use Rattle.std.specs.Option.{option_map}
use Rattle.implib.specs.declared.flavor.Flavor.TheVariants.{Msvc}
use Rattle.implib.specs.declared.machine.MachineType.{MachineType}
use Rattle.implib.specs.Definition.{DefinitionView}
use Rattle.implib.specs.Formats.File.{file_in, meaning_of}
use Rattle.implib.specs.Import.{public_exports}
use Rattle.implib.specs.LibraryName.{names_for}
use Rattle.implib.specs.Machine.{machine_number}
use Rattle.implib.specs.Renaming.{renamed}
use Rattle.implib.specs.Members.MemberSpec.{MemberView}
use Rattle.implib.specs.Members.ReadBack.{MsvcReadings, has_no_symbol_names}
use Rattle.implib_archive.specs.Archive.{archive_of}
use Rattle.implib_archive.specs.Refusal.{refusal_of}
use Rattle.implib_archive.specs.declared.kind.Kind.{Kind}
use Rattle.implib_read.specs.Archives.{Archive, StoredMember, archive_in}
use Rattle.implib_read.specs.Classes.{class_of_file, files_of, library_in, members_read}
use Rattle.implib_read.specs.Files.{definer_among, file_found}
use Rattle.implib_read.specs.Objects.{SameObjects}
use Rattle.implib_read.specs.OwnLibraries.{OwnMembersFound, ReadsAsMsvcLibrary, classes_in}
use Rattle.implib_read.specs.ShortImports.{SameShortImports}
use Rattle.implib_read.proofs.OwnMembers.{drop_mapped, drop_plain, files_as, found_of, header_classes, kinds_of, machines_of, meanings_as, own_files, own_imports, read_meanings, specs_plain}

pub map_twice : {A B C : Type 0} (f : B → C) (g : A → B) (xs : List A) → map f (map g xs) ≡ map (λ x. f (g x)) xs
map_twice f g [] = refl
map_twice f g (x ∷ xs) = ap (λ ys. f (g x) ∷ ys) (map_twice f g xs)

-- the archive, with the bytes of its members
pub record FoundArchive (bytes : List ℕ) (contents : List (List ℕ)) : Type 0 where
  pub archive : Archive
  pub is : archive_in bytes ≡ Some archive
  pub same : map (λ m. m.bytes) archive.members ≡ contents

pub archive_by : (bytes : List ℕ) (contents : List (List ℕ)) (o : Option Archive) → archive_in bytes ≡ o → option_map (λ a. map (λ m. m.bytes) a.members) o ≡ Some contents → FoundArchive bytes contents
archive_by bytes contents None is same = cc
archive_by bytes contents (Some a) is same = record { archive = a; is = is; same = cc }

-- the classes of members, by their bytes
pub classes_read : (members : List StoredMember)
    → map (λ m. m.class) (members_read members) ≡ map (class_of_file (definer_among (files_of members))) (map file_found (map (λ m. m.bytes) members))
unfolding members_read
classes_read members = simp map_twice

pub own_msvc : OwnMembersFound → SameShortImports → SameObjects → (kind : Kind) (d : DefinitionView) (machine : MachineType) (members : List MemberView)
    → MsvcReadings d machine members → has_no_symbol_names d ≡ true → refusal_of kind members ≡ None → ReadsAsMsvcLibrary d machine (archive_of kind members)
unfolding library_in
own_msvc own imports objects kind d machine members readings plain_names accepted =
    let bytes = archive_of kind members in
    let contents = map (λ (m : MemberView). m.bytes) members in
    let matches = readings.matches plain_names in
    let fs = own_files (renamed d) machine in
    let found = archive_by bytes contents (archive_in bytes) refl (own kind members accepted) in
    let stored = found.archive.members in
    let defined = definer_among (files_of stored) in
    let files : map file_in contents ≡ map Some fs = grind (arith, map_twice) in
    let read : map file_found (map (λ m. m.bytes) stored) ≡ map found_of fs = ap (map file_found) found.same ∙ files_as imports objects contents fs files (specs_plain (renamed d) machine) in
    let classes = map (class_of_file defined) (map found_of fs) in
    let there : classes_in bytes ≡ Some classes = cc (classes_read stored) in
    let all = own_imports defined (renamed d) machine in
    let means : map meaning_of (drop 3 fs) ≡ map Some matches.meanings = grind (arith, read_meanings, drop_mapped, map_twice) in
    record {
      classes = classes;
      found = there;
      means = record {
        header = header_classes defined (renamed d) machine;
        meanings = matches.meanings;
        read = cc (drop_mapped (class_of_file defined) (map found_of fs), drop_mapped found_of fs, meanings_as defined (drop 3 fs) matches.meanings (drop_plain fs (specs_plain (renamed d) machine)) means);
        imports = matches.imports;
        aliases = matches.aliases;
        kinds = ap (map (λ i. i.kind)) all ∙ kinds_of machine (names_for Msvc (renamed d)).text (public_exports (renamed d));
        machines = ap (list_all (λ i. i.machine == machine_number machine)) all ∙ machines_of machine (names_for Msvc (renamed d)).text (public_exports (renamed d));
      };
    }
