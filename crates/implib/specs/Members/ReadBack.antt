-- What the members' bytes are read as.
use Rattle.std.specs.Prelude.{◌≡◌, ℕ, ◌<◌, ◌^◌, Bool, true, List, [], ◌∷◌, ◌++◌, map, reverse, drop}
use Rattle.std.specs.Prelude.{length, slice_get, Option, Some, None, if◌then◌else◌}
use Rattle.std.specs.List.{filter_map, flat_map, list_all}
use Rattle.std.specs.Option.{option_and_then, option_map}
use Rattle.implib.specs.declared.flavor.Flavor.{Flavor}
use Rattle.implib.specs.declared.flavor.Flavor.TheVariants.{Msvc, Gnu}
use Rattle.implib.specs.declared.machine.MachineType.{MachineType}
use Rattle.implib.specs.Definition.{DefinitionView, ExportView}
use Rattle.implib.specs.Formats.File.{File, ShortImportFile, ObjectFile, Meaning, AnImport, AnAlias}
use Rattle.implib.specs.Formats.File.{declared_by, dll_in, file_in, meaning_in}
use Rattle.implib.specs.Members.Gnu.{stub_relocations}
use Rattle.implib.specs.Members.GnuReader.{CodeRelocation, code_of_export, meaning_with}
use Rattle.implib.specs.Import.{Alias, imp_symbol, expected_import, Ask, Ordinal, Name, Import}
use Rattle.implib.specs.Import.{aliases_for, aliases_of, imports_of, is_empty_text, public_exports}
use Rattle.implib.specs.Members.MemberSpec.{Contents, AShortImport, AnObject, MemberView, file_size}
use Rattle.implib.specs.Members.Members.{member_specs}
use Rattle.implib.specs.Members.Msvc.{asked_by_short_import, short_import_symbols}
use Rattle.implib.specs.Members.Msvc.{short_import_symbol}
use Rattle.implib.specs.Formats.Layout.{HasNoNul, object_of}
use Rattle.implib.specs.Formats.ShortImport.{ShortImport}
use Rattle.implib.specs.Renaming.{renamed}

-- the fields of a short import have their ranges
pub record FitsShortImport (r : ShortImport) : Type 0 where
  pub version : r.version < 2 ^ 16
  pub machine : r.machine < 2 ^ 16
  pub time : r.time < 2 ^ 32
  pub ordinal : r.ordinal < 2 ^ 16
  pub import_type : r.import_type < 4
  pub name_type : r.name_type < 8
  pub symbol : HasNoNul r.symbol
  pub dll : HasNoNul r.dll

-- what an export's short import asks for, with its symbol name
abbrev pub ask_written : MachineType → ExportView → Ask
ask_written machine e =
    if e.no_name then Ordinal e.ordinal else Name (asked_by_short_import machine e) e.ordinal

-- the import that an export's short import is, with its symbol name
abbrev pub import_written : MachineType → List ℕ → ExportView → Import
import_written machine dll e = record {
  dll = dll;
  declared = short_import_symbols e;
  ask = ask_written machine e;
}

-- the file that a specification is read as
abbrev pub file_of : Contents → File
file_of (AShortImport r) = ShortImportFile r
file_of (AnObject p) = ObjectFile (object_of p)

-- what an export's members mean, with its symbol name: its aliases, then its import
abbrev pub meanings_written : MachineType → List ℕ → ExportView → List Meaning
meanings_written machine dll e =
    map AnAlias (aliases_for (short_import_symbol e) e.alias_target)
    ++ AnImport (import_written machine dll e) ∷ []

-- the import among meanings
abbrev pub import_among : Meaning → Option Import
import_among (AnImport i) = Some i
import_among (AnAlias a) = None

-- the alias among meanings
abbrev pub alias_among : Meaning → Option Alias
alias_among (AnImport i) = None
alias_among (AnAlias a) = Some a

-- whether no export has a symbol name, as after parsing
abbrev pub has_no_symbol_names : DefinitionView → Bool
has_no_symbol_names d = list_all (λ e. is_empty_text e.symbol_name) d.exports

-- What the members for Microsoft's linker are read as. For example, of foo.dll with bar: the import
-- descriptor of foo.dll, the null descriptor, the null thunk, and the import of bar.
pub record MsvcReadBack (d : DefinitionView) (machine : MachineType) (members : List MemberView)
    : Type 0 where
  -- each file reads as specified: each object as its table, each short import as its fields
  pub files : map (λ m. file_in m.bytes) members
      ≡ map (λ p. Some (file_of p.contents)) (member_specs (renamed d) machine Msvc)
  -- each file has the specified length
  pub lengths : map (λ m. length m.bytes) members
      ≡ map (λ p. file_size p.contents) (member_specs (renamed d) machine Msvc)
  -- each member declares exactly its archive symbols
  pub declared : map (λ m. option_map declared_by (file_in m.bytes)) members
      ≡ map (λ m. Some m.symbols) members
  -- the first member, the import descriptor, names the DLL
  pub dll : option_and_then (λ m. dll_in m.bytes) (slice_get members 0) ≡ Some d.import_name
  -- after the first three, the members mean, export by export, its aliases and its import
  pub meanings : map (λ m. meaning_in m.bytes) (drop 3 members)
      ≡ map Some (flat_map (meanings_written machine d.import_name) (public_exports (renamed d)))

-- Where no export has a symbol name, the members mean the imports and the aliases of the
-- definition.
pub record MatchesDefinition (d : DefinitionView) (machine : MachineType)
    (members : List MemberView) : Type 0 where
  pub meanings : List Meaning
  -- after the first three, each member is an import or an alias
  pub read : map (λ m. meaning_in m.bytes) (drop 3 members) ≡ map Some meanings
  -- the imports are those that are expected, in order
  pub imports : filter_map import_among meanings ≡ imports_of machine d
  -- the aliases are those that are expected, in order
  pub aliases : filter_map alias_among meanings ≡ aliases_of d

-- what the members for Microsoft's linker are read as, and mean
pub record MsvcReadings (d : DefinitionView) (machine : MachineType) (members : List MemberView)
    : Type 0 where
  pub files : MsvcReadBack d machine members
  pub matches : has_no_symbol_names d ≡ true → MatchesDefinition d machine members

-- what an export's members for GNU's linker mean: its aliases, then its import
abbrev pub expected_meanings : MachineType → List ℕ → ExportView → List Meaning
expected_meanings machine dll e =
    map AnAlias (aliases_for e.name e.alias_target) ++ AnImport (expected_import machine dll e) ∷ []

-- the relocations that an export's code is to have: those of its machine, to the export's address
abbrev pub expected_code : MachineType → ExportView → List CodeRelocation
expected_code machine e =
    if e.is_data then []
    else map (λ r. record { offset = r.offset; kind = r.kind; target = Some (imp_symbol e.name) })
    (stub_relocations machine 0)

-- the file of the member of an index
abbrev pub file_at : List MemberView → ℕ → Option File
file_at members index = option_and_then (λ m. file_in m.bytes) (slice_get members index)

-- What the members for GNU's linker are read as; the first is the tail, the second the head.
pub record GnuReadBack (d : DefinitionView) (machine : MachineType)
    (members : List MemberView) : Type 0 where
  -- each file reads as specified
  pub files : map (λ m. file_in m.bytes) members
      ≡ map (λ p. Some (file_of p.contents)) (member_specs (renamed d) machine Gnu)
  -- each file has the specified length
  pub lengths : map (λ m. length m.bytes) members
      ≡ map (λ p. file_size p.contents) (member_specs (renamed d) machine Gnu)
  -- each member declares exactly its archive symbols
  pub declared : map (λ m. option_map declared_by (file_in m.bytes)) members
      ≡ map (λ m. Some m.symbols) members
  pub tail : File
  pub head : File
  pub tail_read : file_at members 0 ≡ Some tail
  pub head_read : file_at members 1 ≡ Some head
  -- what the members after these two mean with them, read backwards
  pub meanings : List Meaning
  pub meanings_read : map (λ m. option_and_then (meaning_with head tail) (file_in m.bytes))
      (reverse (drop 2 members)) ≡ map Some meanings
  -- export by export, its aliases and its import
  pub by_export : meanings
      ≡ flat_map (expected_meanings machine d.import_name) (public_exports (renamed d))
  -- the imports are those that are expected, in order
  pub imports : filter_map import_among meanings ≡ imports_of machine d
  -- the aliases are those that are expected, in order
  pub aliases : filter_map alias_among meanings ≡ aliases_of d
  -- the code of each export is relocated as its machine's stub, to the address of that export
  pub code : filter_map (λ m. option_and_then code_of_export (file_in m.bytes))
      (reverse (drop 2 members))
      ≡ map (expected_code machine) (public_exports (renamed d))

-- what the members of a flavour are read as
abbrev pub ReadBack : DefinitionView → MachineType → Flavor → List MemberView → Type 0
ReadBack d machine Msvc members = MsvcReadings d machine members
ReadBack d machine Gnu members = GnuReadBack d machine members
