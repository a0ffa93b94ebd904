-- Where the index of an archive ought to lead: each symbol to the first member that declares it, as
-- a linker that goes by the index takes it.
use Rattle.std.specs.Prelude.{ℕ, ◌==◌, Bool, true, false, not, ◌&&◌, ◌||◌, List, [], ◌∷◌, Option}
use Rattle.std.specs.Prelude.{None, Some, bytes_eq, codes, eqb, if◌then◌else◌}
use Rattle.std.specs.List.{ends_with, filter, filter_map, starts_with}
use Rattle.std.specs.Option.{option_or}
use Rattle.implib.specs.Formats.File.{declared_by_entry}
use Rattle.implib_read.specs.Archives.{StoredMember}
use Rattle.implib_read.specs.Files.{File, ShortImportFile, ObjectFile, NotRead, file_found}
use Rattle.implib_read.specs.Indexes.{IndexEntry}
use Rattle.implib_read.specs.ShortImports.{declared_by_short_import}

-- the symbols that a file declares, in order
abbrev pub declared_by_found : File → List (List ℕ)
declared_by_found (ShortImportFile r) = declared_by_short_import r.fields
declared_by_found (ObjectFile o) = filter_map declared_by_entry o.entries
declared_by_found NotRead = []

-- the symbols that a short import declares, or none of another file
abbrev pub import_names : File → List (List ℕ)
import_names (ShortImportFile r) = declared_by_short_import r.fields
import_names (ObjectFile o) = []
import_names NotRead = []

-- an offset, if a symbol is among some
abbrev pub offset_if_listed : ℕ → List (List ℕ) → List ℕ → Option ℕ
offset_if_listed offset [] symbol = None
offset_if_listed offset (s ∷ ss) symbol =
    option_or (if bytes_eq s symbol then Some offset else None) (offset_if_listed offset ss symbol)

-- the offset of the first member that declares a symbol
abbrev pub first_declarer : List StoredMember → List ℕ → Option ℕ
first_declarer [] symbol = None
first_declarer (m ∷ members) symbol =
    option_or (offset_if_listed m.offset (declared_by_found (file_found m.bytes)) symbol)
    (first_declarer members symbol)

-- an entry, unless it leads to this offset
abbrev pub unless_at : Option ℕ → IndexEntry → Option IndexEntry
unless_at None e = Some e
unless_at (Some offset) e = if e.place == offset then None else Some e

-- an entry, unless it leads to the first member that declares its symbol
abbrev pub wrong_entry : (List ℕ → Option ℕ) → IndexEntry → Option IndexEntry
wrong_entry declarer e = unless_at (declarer e.symbol) e

-- The entries of a first linker member that do not lead to the first member that declares their
-- symbol
abbrev pub wrong_entries : (List ℕ → Option ℕ) → List IndexEntry → List IndexEntry
wrong_entries declarer entries = filter_map (wrong_entry declarer) entries

-- The EC index (LLVM, "ArchiveWriter.cpp"; docs/FORMATS.md, "Archives"). It is for the members that
-- are not of ARM64, and for the import tables, which both kinds of code share; the linker members
-- are then for ARM64's alone.

-- the machine ARM64 ("Machine Types")
abbrev pub arm64 : ℕ
arm64 = 0xAA64

-- whether a file is of ARM64
abbrev pub is_arm64 : File → Bool
is_arm64 (ShortImportFile r) = r.fields.machine == arm64
is_arm64 (ObjectFile o) = o.machine == arm64
is_arm64 NotRead = false

-- whether a file is of ARM64, or is not
abbrev pub is_for : Bool → File → Bool
is_for true file = is_arm64 file
is_for false file = not (is_arm64 file)

-- the members of ARM64, or those that are not
abbrev pub members_for : Bool → List StoredMember → List StoredMember
members_for wanted members = filter (λ m. is_for wanted (file_found m.bytes)) members

-- Whether a symbol is of the import tables: of a descriptor, of the null descriptor or of a null
-- thunk. For example, `__IMPORT_DESCRIPTOR_foo`.
abbrev pub is_table_symbol : List ℕ → Bool
is_table_symbol symbol =
    starts_with eqb symbol (codes "__IMPORT_DESCRIPTOR_")
    || (bytes_eq symbol (codes "__NULL_IMPORT_DESCRIPTOR")
    || (starts_with eqb symbol (codes "\u{7f}") && ends_with eqb symbol (codes "_NULL_THUNK_DATA")))

-- where the EC index ought to lead, by where members of ARM64 and others declare a symbol first
abbrev pub ec_declarer : (List ℕ → Option ℕ) → (List ℕ → Option ℕ) → List ℕ → Option ℕ
ec_declarer tables others symbol =
    if is_table_symbol symbol then option_or (tables symbol) (others symbol) else others symbol

-- The offset of the member to which the EC index ought to lead a symbol: of import tables the first
-- of ARM64 that declares it, and else the first that is not of ARM64.
abbrev pub first_ec_declarer : List StoredMember → List ℕ → Option ℕ
first_ec_declarer members =
    ec_declarer (first_declarer (members_for true members))
    (first_declarer (members_for false members))
