-- Reading a member's file, as a short import or as an object. The reader takes what it finds in the
-- bytes, and knows nothing of who wrote them.
use Rattle.std.specs.Prelude.{ℕ, Bool, ◌&&◌, ◌==◌, nat_le, List, [], ◌∷◌, slice_get, bytes_eq}
use Rattle.std.specs.Prelude.{codes, Option, Some, None, if◌then◌else◌}
use Rattle.std.specs.List.{filter_map, find}
use Rattle.std.specs.Option.{option_and_then, option_map}
use Rattle.implib.specs.Formats.Constants.{class_external, class_weak_external}
use Rattle.implib.specs.Import.{Alias, Import, import_symbols}
use Rattle.implib.specs.Formats.Object.{Entry, ASymbol, Auxiliary, Object, ObjectSection}
use Rattle.implib.specs.Formats.Object.{ObjectSymbol, object_in, u32_at, before_nul}
use Rattle.implib.specs.Formats.ShortImport.{ShortImport, import_data, import_of_short_import}
use Rattle.implib.specs.Formats.ShortImport.{short_import_in}

-- a file that has been read
pub data File : Type 0 where
  ShortImportFile : ShortImport → File
  ObjectFile : Object → File

-- a short import, or otherwise what is read as an object
abbrev pub short_import_or_object : Option ShortImport → Option Object → Option File
short_import_or_object (Some r) o = Some (ShortImportFile r)
short_import_or_object None o = option_map ObjectFile o

-- the file in these bytes
abbrev pub file_in : List ℕ → Option File
file_in bytes = short_import_or_object (short_import_in bytes) (object_in bytes)

-- whether a symbol is an external that its own object defines: sections count from 1, and numbers
-- from 0x8000 on are negative
abbrev pub is_defined_external : ObjectSymbol → Bool
is_defined_external s = (s.class == class_external) && nat_le 1 s.section && nat_le s.section 0x7FFF

-- the name that an entry declares: that of a defined external, or of a weak one
abbrev pub declared_by_entry : Entry → Option (List ℕ)
declared_by_entry (Auxiliary bytes) = None
declared_by_entry (ASymbol s) =
    if is_defined_external s then Some s.name
    else if s.class == class_weak_external then Some s.name
    else None

-- The symbols that a file declares, in order. For example, the short import of bar declares
-- `__imp_bar` and `bar`, and that of data `__imp_bar` alone.
abbrev pub declared_by : File → List (List ℕ)
declared_by (ShortImportFile r) = import_symbols (r.import_type == import_data) r.symbol
declared_by (ObjectFile o) = filter_map declared_by_entry o.entries

-- the tag index of a weak external: the symbol that replaces it, in the auxiliary record after it
abbrev pub tag_index : List Entry → Option ℕ
tag_index [] = None
tag_index (ASymbol s ∷ entries) = None
tag_index (Auxiliary bytes ∷ entries) = Some (u32_at bytes 0)

-- the weak externals, each with that index
abbrev pub weak_symbols : List Entry → List (List ℕ × Option ℕ)
weak_symbols [] = []
weak_symbols (Auxiliary bytes ∷ entries) = weak_symbols entries
weak_symbols (ASymbol s ∷ entries) =
    if s.class == class_weak_external then (s.name, tag_index entries) ∷ weak_symbols entries
    else weak_symbols entries

-- the name of an entry that is a symbol
abbrev pub symbol_name : Entry → Option (List ℕ)
symbol_name (ASymbol s) = Some s.name
symbol_name (Auxiliary bytes) = None

-- the name of the symbol of an index, auxiliary records counted
abbrev pub name_at : List Entry → ℕ → Option (List ℕ)
name_at entries index = option_and_then symbol_name (slice_get entries index)

-- the alias that the only weak external makes
abbrev pub only_alias : List Entry → List (List ℕ × Option ℕ) → Option Alias
only_alias entries [] = None
only_alias entries ((weak, None) ∷ others) = None
only_alias entries ((weak, Some index) ∷ other ∷ others) = None
only_alias entries ((weak, Some index) ∷ []) =
    option_map (λ target. record { weak = weak; target = target }) (name_at entries index)

-- The alias that an object makes, where exactly one of its symbols is a weak external. For example,
-- that foo is weak for baz.
abbrev pub alias_of_object : Object → Option Alias
alias_of_object o = only_alias o.entries (weak_symbols o.entries)

-- what a file means to a linker: an import, or an alias
pub data Meaning : Type 0 where
  AnImport : Import → Meaning
  AnAlias : Alias → Meaning

-- what a file means, where it means one of the two
abbrev pub meaning_of : File → Option Meaning
meaning_of (ShortImportFile r) = option_map AnImport (import_of_short_import r)
meaning_of (ObjectFile o) = option_map AnAlias (alias_of_object o)

-- what the file in these bytes means
abbrev pub meaning_in : List ℕ → Option Meaning
meaning_in bytes = option_and_then meaning_of (file_in bytes)

-- the data of the first section of a name
abbrev pub section_data : List ℕ → List ObjectSection → Option (List ℕ)
section_data name sections = option_map (λ s. s.bytes) (find (λ s. bytes_eq s.name name) sections)

-- the DLL that a descriptor's file names: the text in its section of names
abbrev pub dll_of : File → Option (List ℕ)
dll_of (ShortImportFile r) = None
dll_of (ObjectFile o) = option_and_then before_nul (section_data (codes ".idata$6") o.sections)

-- the DLL that the descriptor in these bytes names
abbrev pub dll_in : List ℕ → Option (List ℕ)
dll_in bytes = option_and_then dll_of (file_in bytes)
