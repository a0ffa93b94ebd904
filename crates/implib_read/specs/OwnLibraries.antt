-- What this reader has of the libraries that `implib` and `implib_archive` make.
use Rattle.std.specs.Prelude.{◌≡◌, ℕ, ◌==◌, true, if◌then◌else◌, List, [], ◌∷◌, Option, None, Some}
use Rattle.std.specs.Prelude.{drop, map, reverse, take}
use Rattle.std.specs.List.{filter_map, list_all}
use Rattle.std.specs.Option.{option_map}
use Rattle.implib.specs.declared.flavor.Flavor.TheVariants.{Gnu, Msvc}
use Rattle.implib.specs.declared.machine.MachineType.{MachineType}
use Rattle.implib.specs.Definition.{DefinitionView, ExportView}
use Rattle.implib.specs.Formats.File.{Meaning, AnAlias as MeansAlias, AnImport as MeansImport}
use Rattle.implib.specs.Import.{aliases_of, imports_of, public_exports}
use Rattle.implib.specs.Machine.{machine_number}
use Rattle.implib.specs.Renaming.{renamed}
use Rattle.implib.specs.Members.MemberSpec.{MemberView}
use Rattle.implib.specs.Members.ReadBack.{ReadBack, alias_among, has_no_symbol_names, import_among}
use Rattle.implib_archive.specs.Archive.{archive_of}
use Rattle.implib_archive.specs.Refusal.{refusal_of}
use Rattle.implib_archive.specs.declared.kind.Kind.{Kind}
use Rattle.implib_read.specs.Archives.{archive_in}
use Rattle.implib_read.specs.Classes.{Class, AnImport, AnAlias, Descriptor, NullDescriptor}
use Rattle.implib_read.specs.Classes.{NullThunk, Head, Tail, DelayImport, Other, NotUnderstood}
use Rattle.implib_read.specs.Classes.{Imported, library_in}
use Rattle.implib_read.specs.declared.import.ImportKind.{ImportKind}
use Rattle.implib_read.specs.declared.import.ImportKind.TheVariants.{Code, Const, Data}

-- the bytes of the members of an archive, in order
abbrev pub member_bytes_in : List ℕ → Option (List (List ℕ))
member_bytes_in bytes = option_map (λ a. map (λ m. m.bytes) a.members) (archive_in bytes)

-- In an archive of `implib_archive` the bytes of its members are found, in order, and of nothing
-- else.
abbrev pub OwnMembersFound : Type 0
OwnMembersFound = (kind : Kind) (members : List MemberView) → refusal_of kind members ≡ None
    → member_bytes_in (archive_of kind members) ≡ Some (map (λ m. m.bytes) members)

-- what each member of a library is for, in order
abbrev pub classes_in : List ℕ → Option (List Class)
classes_in bytes = option_map (map (λ m. m.class)) (library_in bytes)

-- what a member means to a linker: an import, an alias, or neither
abbrev pub meaning_of_class : Class → Option Meaning
meaning_of_class (AnImport i) = Some (MeansImport i.imports)
meaning_of_class (AnAlias a) = Some (MeansAlias a)
meaning_of_class Descriptor = None
meaning_of_class NullDescriptor = None
meaning_of_class NullThunk = None
meaning_of_class Head = None
meaning_of_class Tail = None
meaning_of_class DelayImport = None
meaning_of_class Other = None
meaning_of_class NotUnderstood = None

-- the import that a member is
abbrev pub import_of_class : Class → Option Imported
import_of_class (AnImport i) = Some i
import_of_class (AnAlias a) = None
import_of_class Descriptor = None
import_of_class NullDescriptor = None
import_of_class NullThunk = None
import_of_class Head = None
import_of_class Tail = None
import_of_class DelayImport = None
import_of_class Other = None
import_of_class NotUnderstood = None

-- the kind of an export: data, or else constant, or else code
abbrev pub expected_kind : ExportView → ImportKind
expected_kind e = if e.is_data then Data else if e.constant then Const else Code

-- The members of a library for Microsoft's linker are for what a definition means: the first three
-- are the import descriptor, the null descriptor and the null thunk; each after them is an import
-- or an alias, and these are those of the definition, in its order.
pub record IsMsvcLibraryOf (d : DefinitionView) (machine : MachineType)
    (classes : List Class) : Type 0 where
  pub header : take 3 classes ≡ Descriptor ∷ NullDescriptor ∷ NullThunk ∷ []
  pub meanings : List Meaning
  pub read : map meaning_of_class (drop 3 classes) ≡ map Some meanings
  pub imports : filter_map import_among meanings ≡ imports_of machine d
  pub aliases : filter_map alias_among meanings ≡ aliases_of d
  -- the kinds and the machines of the imports are those of the exports, in order
  pub kinds : map (λ i. i.kind) (filter_map import_of_class classes)
      ≡ map expected_kind (public_exports (renamed d))
  pub machines : list_all (λ i. i.machine == machine_number machine)
      (filter_map import_of_class classes) ≡ true

-- what the members in these bytes are for is what the definition means
pub record ReadsAsMsvcLibrary (d : DefinitionView) (machine : MachineType)
    (bytes : List ℕ) : Type 0 where
  pub classes : List Class
  pub found : classes_in bytes ≡ Some classes
  pub means : IsMsvcLibraryOf d machine classes

-- An archive of a definition's members for Microsoft's linker reads as a library of that
-- definition.
abbrev pub OwnMsvcLibraries : Type 0
OwnMsvcLibraries =
    (kind : Kind) (d : DefinitionView) (machine : MachineType) (members : List MemberView)
    → ReadBack d machine Msvc members → has_no_symbol_names d ≡ true →
    refusal_of kind members ≡ None
    → ReadsAsMsvcLibrary d machine (archive_of kind members)

-- The members of a library for GNU's linker are for what a definition means: the first two are the
-- tail and the head;
-- each after them, from the last to the first, is an import or an alias, and these are those of the
-- definition, in its order.
pub record IsGnuLibraryOf (d : DefinitionView) (machine : MachineType)
    (classes : List Class) : Type 0 where
  pub header : take 2 classes ≡ Tail ∷ Head ∷ []
  pub meanings : List Meaning
  pub read : map meaning_of_class (reverse (drop 2 classes)) ≡ map Some meanings
  pub imports : filter_map import_among meanings ≡ imports_of machine d
  pub aliases : filter_map alias_among meanings ≡ aliases_of d

-- what the members in these bytes are for is what the definition means
pub record ReadsAsGnuLibrary (d : DefinitionView) (machine : MachineType)
    (bytes : List ℕ) : Type 0 where
  pub classes : List Class
  pub found : classes_in bytes ≡ Some classes
  pub means : IsGnuLibraryOf d machine classes

-- An archive of a definition's members for GNU's linker reads as a library of that definition.
abbrev pub OwnGnuLibraries : Type 0
OwnGnuLibraries =
    (kind : Kind) (d : DefinitionView) (machine : MachineType) (members : List MemberView)
    → ReadBack d machine Gnu members → refusal_of kind members ≡ None →
    ReadsAsGnuLibrary d machine (archive_of kind members)
