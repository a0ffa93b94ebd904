-- The members that `implib` makes for Microsoft's linker, as this reader has them.
use Rattle.std.proofs.Common.{arith, ◌≡◌, ◌∙◌, ℕ, ◌==◌, Bool, true, false, not, ◌&&◌, List, [], ◌∷◌, ◌++◌, Option, None, Some, ap, append_assoc, drop, if◌then◌else◌, length, map, nat_le, refl, take}
use Rattle.std.specs.List.{filter_map, flat_map, list_all}
use Rattle.std.specs.Option.{option_and_then, option_map}
use Rattle.std.proofs.lemmas.Bool.{leb-true, true≢false}
use Rattle.implib.specs.declared.flavor.Flavor.TheVariants.{Msvc}
use Rattle.implib.specs.declared.machine.MachineType.{MachineType}
use Rattle.implib.specs.Definition.{DefinitionView, ExportView}
use Rattle.implib.specs.Formats.File.{File, ShortImportFile, ObjectFile, Meaning, file_in, meaning_of, short_import_or_object}
use Rattle.implib.specs.Formats.File.{AnAlias as MeansAlias, AnImport as MeansImport}
use Rattle.implib.specs.Formats.Bytes.{u32_bytes}
use Rattle.implib.specs.Formats.Layout.{object_of, entries_of, name_text}
use Rattle.implib.specs.Formats.Object.{Entry, Object, ObjectSection, bytes_at, object_in, object_of_header, object_with, u16_at, u32_at}
use Rattle.implib.specs.Formats.ShortImport.{ShortImport, ask_of_short_import, import_data, short_import_in}
use Rattle.implib.specs.Import.{Alias, Ask, Import, imp_symbol, import_symbols, public_exports}
use Rattle.implib.specs.LibraryName.{NamesOfDll, names_for}
use Rattle.implib.specs.Machine.{machine_number}
use Rattle.implib.specs.Members.Members.{member_specs}
use Rattle.implib.specs.Members.MemberSpec.{MemberSpec}
use Rattle.implib.specs.Members.Msvc.{import_type_of, name_type_asking, name_type_of, short_import_of, short_import_symbol}
use Rattle.implib.specs.Members.MsvcMembers.{descriptor_spec, export_specs, header_specs, null_descriptor_spec, null_thunk_spec, weak_specs}
use Rattle.implib.specs.Members.MsvcObjects.{descriptor, null_descriptor, null_thunk}
use Rattle.implib.specs.Members.ReadBack.{file_of}
use Rattle.implib.specs.Members.WeakExternal.{weak_object}
use Rattle.implib_read.specs.Classes.{AnImport, AnAlias, Descriptor, NullDescriptor, NullThunk, Imported, class_of_file, class_of_import, class_with, kind_of_type}
use Rattle.implib_read.specs.Files.{file_found}
use Rattle.implib_read.specs.Files.{File as FoundFile, ShortImportFile as FoundShortImport, ObjectFile as FoundObject}
use Rattle.implib_read.specs.Delayed.{delayed_import}
use Rattle.implib_read.specs.Following.{Place, pointed}
use Rattle.implib_read.specs.Imports.{dll_of_object, import_of_object}
use Rattle.implib_read.specs.Objects.{SameObjects, room_in}
use Rattle.implib_read.specs.Arm64ec.{arm64ec_symbols}
use Rattle.implib_read.specs.ShortImports.{SameShortImports, arm64ec, declared_by_short_import, short_import_found}
use Rattle.implib_read.specs.OwnLibraries.{expected_kind, import_of_class, meaning_of_class}
use Rattle.implib_read.specs.declared.import.ImportKind.TheVariants.{Code, Const, Data}
use Rattle.implib_read.proofs.Room.{few-have_room}

-- a file that `implib`'s reader has, as this reader has it
unfoldable pub found_of : File → FoundFile
found_of (ShortImportFile r) = FoundShortImport (record { fields = r; exported = None })
found_of (ObjectFile o) = FoundObject o

-- whether a file is of no machine, name type or number of entries that the two readers see with other eyes
unfoldable pub is_plain : File → Bool
is_plain (ShortImportFile r) = not (r.machine == arm64ec) && not (r.name_type == 4)
is_plain (ObjectFile o) = nat_le (length o.entries) 16 && not (o.machine == 0)

pub not_true : (b : Bool) → not b ≡ true → b ≡ false
not_true b is = grind (arith, true≢false)

pub both_true : (a b : Bool) → (a && b) ≡ true → (a ≡ true) × (b ≡ true)
both_true a b is = grind (arith, true≢false)

-- the machine of an object is in its first two bytes
front_of : (bytes : List ℕ) → u16_at (take 20 (drop 0 bytes)) 0 ≡ u16_at bytes 0
unfolding u16_at
front_of bytes = grind arith

machine_with : (header : List ℕ) (sections : Option (List ObjectSection)) (entries : Option (List Entry)) (o : Object)
    → option_and_then (λ ss. option_map (λ es. object_with header ss es) entries) sections ≡ Some o → o.machine ≡ u16_at header 0
machine_with header sections entries o is = grind arith

machine_at : (bytes : List ℕ) (o : Object) → object_in bytes ≡ Some o → o.machine ≡ u16_at bytes 0
unfolding object_in object_of_header bytes_at
machine_at bytes o is = grind (arith, machine_with, front_of)

no_machine : (long : Bool) (n m size : Bool) → n ≡ false → (long && n && m && size) ≡ false
no_machine long n m size is = grind (arith, true≢false)

-- an object of a machine is no short import
no_short_import : (bytes : List ℕ) (o : Object) → object_in bytes ≡ Some o → (o.machine == 0) ≡ false → short_import_found bytes ≡ None
unfolding short_import_found
no_short_import bytes o is some = grind (arith, machine_at, no_machine)

-- a file that `implib`'s reader has in bytes
by_both : (bytes : List ℕ) (f : File) (r : Option ShortImport) (o : Option Object) → SameShortImports → SameObjects → short_import_in bytes ≡ r → object_in bytes ≡ o
    → short_import_or_object r o ≡ Some f → is_plain f ≡ true → file_found bytes ≡ found_of f
unfolding found_of is_plain
by_both bytes f (Some r) o imports objects is is_o found plain = grind (arith, both_true, not_true)
by_both bytes f None (Some o) imports objects is is_o found plain =
    let whole : ObjectFile o ≡ f = cc in
    let tests = both_true (nat_le (length o.entries) 16) (not (o.machine == 0)) (ap is_plain whole ∙ plain) in
    grind (arith, no_short_import bytes o is_o (not_true (o.machine == 0) tests.1), few-have_room (room_in (length bytes)) 0 o.entries (omega (arith, leb-true (length o.entries) 16 tests.0)))
by_both bytes f None None imports objects is is_o found plain = cc

file_as : SameShortImports → SameObjects → (bytes : List ℕ) (f : File) → file_in bytes ≡ Some f → is_plain f ≡ true → file_found bytes ≡ found_of f
file_as imports objects bytes f found plain = by_both bytes f (short_import_in bytes) (object_in bytes) imports objects refl refl found plain

-- the files of a list
pub files_as : SameShortImports → SameObjects → (bs : List (List ℕ)) (fs : List File) → map file_in bs ≡ map Some fs → list_all is_plain fs ≡ true → map file_found bs ≡ map found_of fs
files_as imports objects [] [] same plain = refl
files_as imports objects [] (f ∷ fs) same plain = cc
files_as imports objects (b ∷ bs) [] same plain = cc
files_as imports objects (b ∷ bs) (f ∷ fs) same plain = grind (arith, both_true, file_as, files_as imports objects bs fs (cc) (both_true (is_plain f) (list_all is_plain fs) plain).1)

-- what a short import means, by the tests of its types
import_by : (type name : Bool) (i : Import) (ask : Ask) (make : Ask → Import) (kind : Import → Imported) (m : Meaning)
    → make ask ≡ i → ((x : Import) → (kind x).imports ≡ x)
    → option_map MeansImport (if type && name then Some i else None) ≡ Some m
    → meaning_of_class (class_of_import (option_map kind (option_map make (if type then (if name then Some ask else None) else None)))) ≡ Some m
import_by type name i ask make kind m made kept is = grind arith

-- an import of these fields and symbols
with_symbols : ShortImport → List (List ℕ) → Import
with_symbols r symbols = record { dll = r.dll; declared = symbols; ask = ask_of_short_import r }

-- a short import of another machine than ARM64EC declares what `implib`'s reader says
pub declares_plainly : (r : ShortImport) → (r.machine == arm64ec) ≡ false → declared_by_short_import r ≡ import_symbols (r.import_type == import_data) r.symbol
declares_plainly r other = ap (λ b. if b then arm64ec_symbols r.import_type r.symbol else import_symbols (r.import_type == import_data) r.symbol) other

alias_by : (o : Object) (a : Option Alias) (i delayed : Option Imported) (m : Meaning) → option_map MeansAlias a ≡ Some m → meaning_of_class (class_with o a i delayed) ≡ Some m
alias_by o a i delayed m is = grind arith

-- a member that means something to `implib`'s reader means it to this one
meaning_as : (defined : List ℕ → Option Place) (f : File) (m : Meaning) → is_plain f ≡ true → meaning_of f ≡ Some m → meaning_of_class (class_of_file defined (found_of f)) ≡ Some m
unfolding found_of is_plain with_symbols
meaning_as defined f m plain is = grind (arith, both_true, import_by, declares_plainly, not_true, alias_by)

pub meanings_as : (defined : List ℕ → Option Place) (fs : List File) (ms : List Meaning) → list_all is_plain fs ≡ true → map meaning_of fs ≡ map Some ms
    → map meaning_of_class (map (class_of_file defined) (map found_of fs)) ≡ map Some ms
meanings_as defined [] [] plain same = refl
meanings_as defined [] (m ∷ ms) plain same = cc
meanings_as defined (f ∷ fs) [] plain same = cc
meanings_as defined (f ∷ fs) (m ∷ ms) plain same = grind (arith, both_true, meaning_as, meanings_as defined fs ms (both_true (is_plain f) (list_all is_plain fs) plain).1 (cc))

-- The first three members.

descriptor_class : (defined : List ℕ → Option Place) (machine : MachineType) (dll : NamesOfDll) → class_of_file defined (FoundObject (object_of (descriptor machine dll))) ≡ Descriptor
unfolding object_of descriptor entries_of import_of_object dll_of_object delayed_import pointed
descriptor_class defined machine dll = refl

null_descriptor_class : (defined : List ℕ → Option Place) (machine : MachineType) → class_of_file defined (FoundObject (object_of (null_descriptor machine))) ≡ NullDescriptor
unfolding object_of null_descriptor entries_of import_of_object dll_of_object delayed_import pointed
null_descriptor_class defined machine = refl

null_thunk_class : (defined : List ℕ → Option Place) (machine : MachineType) (dll : List ℕ) → class_of_file defined (FoundObject (object_of (null_thunk machine dll))) ≡ NullThunk
unfolding object_of null_thunk entries_of import_of_object dll_of_object delayed_import pointed
null_thunk_class defined machine dll = refl

-- Each member is plain.

pub machine_plain : (machine : MachineType) → (not (machine_number machine == arm64ec) ≡ true) × (not (machine_number machine == 0) ≡ true)
machine_plain machine = grind arith

-- of two name types neither is 4
either_name_type : (b : Bool) (x y : ℕ) → (x == 4) ≡ false → (y == 4) ≡ false → ((if b then x else y) == 4) ≡ false
either_name_type b x y first second = grind arith

asking_plain : (machine : MachineType) (symbol name : List ℕ) → (name_type_asking machine symbol name == 4) ≡ false
asking_plain machine symbol name = simp either_name_type

name_type_plain : (machine : MachineType) (e : ExportView) → (name_type_of machine e == 4) ≡ false
name_type_plain machine e = grind (arith, either_name_type, asking_plain)

-- the files of specifications
abbrev pub files_of_specs : List MemberSpec → List File
files_of_specs specs = map (λ p. file_of p.contents) specs

object_plain : (n : ℕ) (rest : Bool) → not (n == 0) ≡ true → rest ≡ true → (not (n == 0) && rest) ≡ true
object_plain n rest some others = ap (λ b. b && rest) some ∙ others

short_plain : (ec name rest : Bool) → ec ≡ true → name ≡ true → rest ≡ true → ((ec && name) && rest) ≡ true
short_plain ec name rest first second others = cc

weak_plain : (machine : MachineType) (dll : List ℕ) (e : ExportView) (others : List MemberSpec) → list_all is_plain (files_of_specs others) ≡ true
    → list_all is_plain (files_of_specs (weak_specs machine dll e ++ others)) ≡ true
unfolding weak_specs is_plain object_of weak_object entries_of
weak_plain machine dll e others rest = grind (arith, object_plain, machine_plain)

exports_plain : (machine : MachineType) (dll : NamesOfDll) (exports : List ExportView) → list_all is_plain (files_of_specs (flat_map (export_specs machine dll) exports)) ≡ true
unfolding is_plain
exports_plain machine dll [] = refl
exports_plain machine dll (e ∷ exports) = grind (arith, append_assoc, weak_plain, short_plain _ _ _ ((machine_plain machine).0) (ap not (name_type_plain machine e)) (exports_plain machine dll exports))

-- the files of the members of a definition
abbrev pub own_files : DefinitionView → MachineType → List File
own_files d machine = files_of_specs (member_specs d machine Msvc)

pub specs_plain : (d : DefinitionView) (machine : MachineType) → list_all is_plain (own_files d machine) ≡ true
unfolding header_specs descriptor_spec null_descriptor_spec null_thunk_spec object_of entries_of descriptor null_descriptor null_thunk is_plain
specs_plain d machine = grind (arith, machine_plain, object_plain, exports_plain)

-- the first three members are those of the import tables
pub header_classes : (defined : List ℕ → Option Place) (d : DefinitionView) (machine : MachineType)
    → take 3 (map (class_of_file defined) (map found_of (own_files d machine))) ≡ Descriptor ∷ NullDescriptor ∷ NullThunk ∷ []
unfolding header_specs descriptor_spec null_descriptor_spec null_thunk_spec found_of
header_classes defined d machine = grind (arith, descriptor_class, null_descriptor_class, null_thunk_class)

-- what is left after three items
pub drop_mapped : {A B : Type 0} (f : A → B) (xs : List A) → drop 3 (map f xs) ≡ map f (drop 3 xs)
drop_mapped f xs = grind arith

-- plain files without the first three
pub drop_plain : (fs : List File) → list_all is_plain fs ≡ true → list_all is_plain (drop 3 fs) ≡ true
drop_plain fs plain = grind (arith, both_true)

-- the meanings of files that are read
pub read_meanings : (fs : List File) → map (option_and_then meaning_of) (map Some fs) ≡ map meaning_of fs
read_meanings [] = refl
read_meanings (f ∷ fs) = ap (λ xs. meaning_of f ∷ xs) (read_meanings fs)

-- The kinds of the imports.

-- the imports of files
abbrev pub imports_of_files : (List ℕ → Option Place) → List File → List Imported
imports_of_files defined fs = filter_map import_of_class (map (class_of_file defined) (map found_of fs))

weak_class : (defined : List ℕ → Option Place) (machine : MachineType) (weak target : List ℕ)
    → class_of_file defined (FoundObject (object_of (weak_object machine weak target))) ≡ AnAlias (record { weak = weak; target = target })
unfolding object_of weak_object entries_of u32_at u32_bytes name_text
weak_class defined machine weak target = refl

-- the import of an export
pub imported_for : MachineType → List ℕ → ExportView → Imported
imported_for machine dll e =
    let r = short_import_of machine dll e in
    record {
      imports = record { dll = dll; declared = import_symbols (r.import_type == import_data) r.symbol; ask = ask_of_short_import r };
      kind = kind_of_type r.import_type;
      machine = machine_number machine;
    }

import_with : (type name : Bool) (ask : Ask) (make : Ask → Import) (kind : Import → Imported) → type ≡ true → name ≡ true
    → class_of_import (option_map kind (option_map make (if type then (if name then Some ask else None) else None))) ≡ AnImport (kind (make ask))
import_with type name ask make kind a b = cc

-- each of two numbers is at most 3 or 2
either_at_most : (b : Bool) (x y n : ℕ) → nat_le x n ≡ true → nat_le y n ≡ true → nat_le (if b then x else y) n ≡ true
either_at_most b x y n first second = grind arith

import_type_low : (e : ExportView) → nat_le (import_type_of e) 2 ≡ true
import_type_low e = either_at_most e.is_data 1 (if e.constant then 2 else 0) 2 refl (either_at_most e.constant 2 0 2 refl refl)

asking_low : (machine : MachineType) (symbol name : List ℕ) → nat_le (name_type_asking machine symbol name) 3 ≡ true
asking_low machine symbol name = simp either_at_most

name_type_low : (machine : MachineType) (e : ExportView) → nat_le (name_type_of machine e) 3 ≡ true
name_type_low machine e = grind (arith, either_at_most, asking_low)

short_class : (defined : List ℕ → Option Place) (machine : MachineType) (dll : List ℕ) (e : ExportView)
    → class_of_file defined (found_of (ShortImportFile (short_import_of machine dll e))) ≡ AnImport (imported_for machine dll e)
unfolding found_of imported_for with_symbols
short_class defined machine dll e = grind (arith, import_with, import_type_low, name_type_low, declares_plainly, not_true, machine_plain)

-- the imports of the members of an export, and of those after it
export_imports : (defined : List ℕ → Option Place) (machine : MachineType) (dll : NamesOfDll) (e : ExportView) (others : List MemberSpec)
    → imports_of_files defined (files_of_specs (export_specs machine dll e ++ others)) ≡ imported_for machine dll.text e ∷ imports_of_files defined (files_of_specs others)
unfolding weak_specs found_of
export_imports defined machine dll e others = grind (arith, short_class defined machine dll.text e, weak_class defined machine (short_import_symbol e) e.alias_target, weak_class defined machine (imp_symbol (short_import_symbol e)) (imp_symbol e.alias_target))

-- the imports of the members of exports
exports_imports : (defined : List ℕ → Option Place) (machine : MachineType) (dll : NamesOfDll) (exports : List ExportView)
    → imports_of_files defined (files_of_specs (flat_map (export_specs machine dll) exports)) ≡ map (imported_for machine dll.text) exports
exports_imports defined machine dll [] = refl
exports_imports defined machine dll (e ∷ exports) = cc (export_imports defined machine dll e (flat_map (export_specs machine dll) exports), exports_imports defined machine dll exports)

-- the imports of the members of a definition
pub own_imports : (defined : List ℕ → Option Place) (d : DefinitionView) (machine : MachineType)
    → imports_of_files defined (own_files d machine) ≡ map (imported_for machine (names_for Msvc d).text) (public_exports d)
unfolding header_specs descriptor_spec null_descriptor_spec null_thunk_spec found_of
own_imports defined d machine = cc (descriptor_class defined machine (names_for Msvc d), null_descriptor_class defined machine, null_thunk_class defined machine (names_for Msvc d).linked, exports_imports defined machine (names_for Msvc d) (public_exports d))

kind_by : (is_data constant : Bool)
    → kind_of_type (if is_data then 1 else if constant then 2 else 0) ≡ (if is_data then Data else if constant then Const else Code)
kind_by is_data constant = grind arith

pub kinds_of : (machine : MachineType) (dll : List ℕ) (exports : List ExportView) → map (λ i. i.kind) (map (imported_for machine dll) exports) ≡ map expected_kind exports
unfolding imported_for
kinds_of machine dll [] = refl
kinds_of machine dll (e ∷ exports) = grind (arith, kind_by, kinds_of machine dll exports)

same_number : (machine : MachineType) → (machine_number machine == machine_number machine) ≡ true
same_number machine = grind arith

pub machines_of : (machine : MachineType) (dll : List ℕ) (exports : List ExportView) → list_all (λ i. i.machine == machine_number machine) (map (imported_for machine dll) exports) ≡ true
unfolding imported_for
machines_of machine dll [] = refl
machines_of machine dll (e ∷ exports) = ap (λ b. b && list_all (λ i. i.machine == machine_number machine) (map (imported_for machine dll) exports)) (same_number machine) ∙ machines_of machine dll exports
