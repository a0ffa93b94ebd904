-- The import tables that lld makes of short imports, which it does not expand: in one piece, or in
-- five among the tables of other objects. As lld-link 14 and 19 write them; docs/LINKERS.md.
use Rattle.std.specs.Prelude.{ℕ, zero, suc, ◌+◌, ◌*◌, ◌-◌, ◌%◌, ◌^◌, ◌<◌, List, [], ◌∷◌, ◌++◌}
use Rattle.std.specs.Prelude.{length, ◌≡◌, Some, Bool, ◌&&◌, true, false, bytes_eq, codes, map}
use Rattle.std.specs.Prelude.{nat_le, nat_lt, slice_get, Option, None, if◌then◌else◌}
use Rattle.std.specs.List.{AllByRecursion, Contains, IsDistinct}
use Rattle.implib.specs.declared.machine.MachineType.{MachineType}
use Rattle.implib.specs.Formats.Bytes.{u16_bytes, u32_bytes}
use Rattle.implib.specs.Formats.Layout.{HasNoNul}
use Rattle.implib.specs.Import.{Ask, Name, Ordinal, imp_symbol}
use Rattle.implib.specs.Link.Image.{Range, range_end}
use Rattle.implib.specs.Link.Load.{BytesAt, LoadsStrictly}
use Rattle.implib.specs.Link.Placement.{next_multiple, Placed, Unplaced, Addresses, At}
use Rattle.implib.specs.Members.ImportTables.{thunk_width, zeros, thunk_flags}
use Rattle.implib_link.specs.Directory.{Imported, DirectoryAt}
use Rattle.implib_link.specs.Flavors.Expansion.{thunk_asking, entry, is_import_for}
use Rattle.implib.specs.declared.coff.object.Relocation.{Relocation}
use Rattle.implib.specs.declared.machine.MachineType.TheVariants.{I386, ARMNT, AMD64, ARM64}
use Rattle.implib.specs.Formats.Constants.{align_4bytes, amd64_rel32, arm64_pagebase_rel21}
use Rattle.implib.specs.Formats.Constants.{arm64_pageoffset_12l, class_external, cnt_code}
use Rattle.implib.specs.Formats.Constants.{i386_dir32, mem_execute_read, section_undefined}
use Rattle.implib.specs.Formats.Object.{Object, ObjectSection, ASymbol, Entry}
use Rattle.implib.specs.Formats.ShortImport.{ShortImport, ask_of_short_import, short_import_in}
use Rattle.implib.specs.Machine.{machine_number}
use Rattle.implib.specs.Members.Gnu.{section, text_name}
use Rattle.implib_link.specs.Gnu.Fields.{LinkedCode, BranchArrives, JumpArrives}
use Rattle.std.specs.Option.{option_and_then}
use Rattle.implib.specs.Link.Resolution.{definitions_of}
use Rattle.implib_link.specs.Flavors.Program.{GetsAddress}

-- what a thunk, and a hint and name, have room for: an ordinal or a hint of 16 bits, a name without
-- NUL
unfoldable pub IsAskable : Ask → Type 0
IsAskable (Ordinal n) = n < 2 ^ 16
IsAskable (Name text hint) = (hint < 2 ^ 16) × HasNoNul text

-- a DLL of such asks, whose name has no NUL
pub record IsImportable (i : Imported) : Type 0 where
  pub name : HasNoNul i.dll
  pub asks : AllByRecursion IsAskable i.asks

-- a hint, and a name with its NUL
abbrev pub hint_and_text : List ℕ → ℕ → List ℕ
hint_and_text text hint = u16_bytes hint ++ (text ++ 0 ∷ [])

-- what is written for an ask beside the tables: a hint and a name, filled to an even number of
-- bytes
unfoldable pub hint_built : Ask → List ℕ
hint_built (Ordinal n) = []
hint_built (Name text hint) =
    hint_and_text text hint ++ zeros (length (hint_and_text text hint) % 2)

unfoldable pub hints_built : List Ask → List ℕ
hints_built [] = []
hints_built (ask ∷ asks) = hint_built ask ++ hints_built asks

-- a thunk whose hint and name are at an address
unfoldable pub thunk_built : MachineType → ℕ → Ask → List ℕ
thunk_built machine place (Ordinal n) = thunk_asking machine (Ordinal n)
thunk_built machine place (Name text hint) = u32_bytes place ++ zeros (thunk_width machine - 4)

-- the thunks of a DLL, whose hints are from an address on, and the null thunk
unfoldable pub thunks_built : MachineType → ℕ → List Ask → List ℕ
thunks_built machine place [] = zeros (thunk_width machine)
thunks_built machine place (ask ∷ asks) =
    thunk_built machine place ask ++ thunks_built machine (place + length (hint_built ask)) asks

-- those of all DLLs
unfoldable pub tables_built : MachineType → ℕ → List Imported → List ℕ
tables_built machine place [] = []
tables_built machine place (i ∷ imports) =
    thunks_built machine place i.asks
    ++ tables_built machine (place + length (hints_built i.asks)) imports

-- the hints and names of all DLLs, and the names of the DLLs
unfoldable pub all_hints : List Imported → List ℕ
all_hints [] = []
all_hints (i ∷ imports) = hints_built i.asks ++ all_hints imports

unfoldable pub all_names : List Imported → List ℕ
all_names [] = []
all_names (i ∷ imports) = (i.dll ++ 0 ∷ []) ++ all_names imports

-- a descriptor with the addresses of its lookup table, of the DLL's name and of its address table;
-- time and forwarder chain are 0
unfoldable pub descriptor_built : ℕ → ℕ → ℕ → List ℕ
descriptor_built lookups name addresses =
    u32_bytes lookups ++ (zeros 4 ++ (zeros 4 ++ (u32_bytes name ++ u32_bytes addresses)))

-- the descriptors of all DLLs, whose tables and names are from these addresses on, and the null
-- descriptor
unfoldable pub directory_built : MachineType → ℕ → ℕ → ℕ → List Imported → List ℕ
directory_built machine lookups name addresses [] = zeros 20
directory_built machine lookups name addresses (i ∷ imports) =
    descriptor_built lookups name addresses
    ++ directory_built machine (lookups + thunk_width machine * (length i.asks + 1))
    (name + length (i.dll ++ 0 ∷ [])) (addresses + thunk_width machine * (length i.asks + 1))
    imports

-- the thunks of the first few DLLs, with the null thunks that end them
abbrev pub thunks_until : ℕ → List Imported → ℕ
thunks_until zero imports = 0
thunks_until (suc i) [] = 0
thunks_until (suc i) (p ∷ imports) = length p.asks + 1 + thunks_until i imports

-- The five pieces, each at an address of its own: descriptors, lookup tables, address tables, hints
-- and names, and names of DLLs.
pub record ArePiecesAt (machine : MachineType) (image : List Range)
    (descriptors lookups addresses hints names : ℕ) (imports : List Imported) : Type 0 where
  pub directory : BytesAt image descriptors
      (directory_built machine lookups names addresses imports)
  pub lookup_tables : BytesAt image lookups (tables_built machine hints imports)
  pub address_tables : BytesAt image addresses (tables_built machine hints imports)
  pub hint_names : BytesAt image hints (all_hints imports)
  pub dll_names : BytesAt image names (all_names imports)

-- Where the pieces are if nothing else has import tables: one after another from a base on, the
-- lookup tables at the first multiple of a thunk's width.
abbrev pub directory_end : ℕ → List Imported → ℕ
directory_end base imports = base + 20 * (length imports + 1)

abbrev pub lookups_at : MachineType → ℕ → List Imported → ℕ
lookups_at machine base imports = next_multiple (thunk_width machine) (directory_end base imports)

abbrev pub addresses_at : MachineType → ℕ → List Imported → ℕ
addresses_at machine base imports =
    lookups_at machine base imports + thunk_width machine * thunks_until (length imports) imports

abbrev pub hints_at : MachineType → ℕ → List Imported → ℕ
hints_at machine base imports =
    addresses_at machine base imports + thunk_width machine * thunks_until (length imports) imports

abbrev pub names_at : MachineType → ℕ → List Imported → ℕ
names_at machine base imports = hints_at machine base imports + length (all_hints imports)

-- all bytes from the base on
unfoldable pub built_bytes : MachineType → ℕ → List Imported → List ℕ
built_bytes machine base imports =
    directory_built machine (lookups_at machine base imports) (names_at machine base imports)
    (addresses_at machine base imports) imports
    ++ (zeros (lookups_at machine base imports - directory_end base imports)
    ++ (tables_built machine (hints_at machine base imports) imports
    ++ (tables_built machine (hints_at machine base imports) imports
    ++ (all_hints imports ++ all_names imports))))

abbrev pub built : MachineType → ℕ → List Imported → Range
built machine base imports = record { start = base; bytes = built_bytes machine base imports }

-- The thunks of lld: a call of an import's bare name goes through its entry by one. Their code as
-- lld-link 14 and 19 write it; docs/LINKERS.md. Addresses of code count from the image's base.

-- A thunk's code, with empty fields: I386 `jmp [disp32]`; ARMNT `movw ip`, `movt ip`, `ldr pc,
-- [ip]`; AMD64 `jmp [rip + disp32]`; ARM64 `adrp x16`, `ldr x16, [x16]`, `br x16`.
abbrev pub thunk_code : MachineType → List ℕ
thunk_code I386 = 0xFF ∷ 0x25 ∷ 0 ∷ 0 ∷ 0 ∷ 0 ∷ []
thunk_code ARMNT = 0x40 ∷ 0xF2 ∷ 0 ∷ 0x0C ∷ 0xC0 ∷ 0xF2 ∷ 0 ∷ 0x0C ∷ 0xDC ∷ 0xF8 ∷ 0 ∷ 0xF0 ∷ []
thunk_code AMD64 = 0xFF ∷ 0x25 ∷ 0 ∷ 0 ∷ 0 ∷ 0 ∷ []
thunk_code ARM64 = 0x10 ∷ 0 ∷ 0 ∷ 0x90 ∷ 0x10 ∷ 2 ∷ 0x40 ∷ 0xF9 ∷ 0 ∷ 2 ∷ 0x1F ∷ 0xD6 ∷ []

-- ARMNT's relocation of `movw` and `movt` ("Type Indicators", IMAGE_REL_ARM_MOV32T)
abbrev pub armnt_mov32t : ℕ
armnt_mov32t = 0x11

-- how its fields are filled, as relocations against the symbol of an index
abbrev pub thunk_relocations : MachineType → ℕ → List Relocation
thunk_relocations I386 index = record { offset = 2; symbol = index; kind = i386_dir32 } ∷ []
thunk_relocations ARMNT index = record { offset = 0; symbol = index; kind = armnt_mov32t } ∷ []
thunk_relocations AMD64 index = record { offset = 2; symbol = index; kind = amd64_rel32 } ∷ []
thunk_relocations ARM64 index =
    record { offset = 0; symbol = index; kind = arm64_pagebase_rel21 }
    ∷ record { offset = 4; symbol = index; kind = arm64_pageoffset_12l }
    ∷ []

abbrev pub thunk_section : MachineType → ObjectSection
thunk_section machine =
    section text_name (cnt_code + align_4bytes + mem_execute_read) (thunk_code machine)
    (thunk_relocations machine 1)

-- The thunk of a short import, as an object whose one section it is: it defines the bare name, and
-- leaves the `__imp_` symbol to the tables.
abbrev pub thunk_object : MachineType → ShortImport → Object
thunk_object machine r = record {
  machine = machine_number machine;
  time = 0;
  optional_header_size = 0;
  characteristics = 0;
  sections = thunk_section machine ∷ [];
  entries = entry r.symbol 1 class_external  -- 0
      ∷ entry (imp_symbol r.symbol) section_undefined class_external  -- 1
      ∷ [];
}

-- it is beside the import tables
abbrev pub placed_thunk : MachineType → ShortImport → Placed
placed_thunk machine r =
    record { object = thunk_object machine r; section_addresses = Unplaced ∷ [] }

-- linked code is the thunk of a short import
pub record IsThunk (machine : MachineType) (d : LinkedCode) (r : ShortImport) : Type 0 where
  pub from : d.from ≡ placed_thunk machine r
  pub number : d.number ≡ 1

-- a thunk in memory arrives at these bytes
abbrev pub ThunkArrives : MachineType → ℕ → List Range → ℕ → List ℕ → Type 0
ThunkArrives machine = JumpArrives machine (length (thunk_code machine))

-- At an address of memory is the field of a branch that leads to a thunk, which arrives at these
-- bytes.
pub record BranchArrivesByThunk (machine : MachineType) (image_base : ℕ) (memory : List Range)
    (address after : ℕ) (bytes : List ℕ) : Type 0 where
  pub thunk : ℕ
  pub leads : BranchArrives machine image_base memory address after thunk
  pub jumps : ThunkArrives machine image_base memory thunk bytes

-- What lld imports by the short imports that it took, and where their `__imp_` symbols are: grouped
-- by DLL in the order of the first of each, and within a DLL in the order of symbols, as lld-link
-- 14 and 19 do; docs/LINKERS.md.

-- the short import in some bytes, if it is for a machine
abbrev pub if_for : MachineType → ShortImport → Option ShortImport
if_for machine r = if is_import_for machine r then Some r else None

unfoldable pub short_for : MachineType → List ℕ → Option ShortImport
short_for machine bytes = option_and_then (if_for machine) (short_import_in bytes)

-- a name with small letters of ASCII
abbrev pub small_letter : ℕ → ℕ
small_letter byte = if nat_le 0x41 byte && nat_le byte 0x5A then byte + 0x20 else byte

abbrev pub in_small : List ℕ → List ℕ
in_small name = map small_letter name

-- whether a text is before another in the order of bytes
unfoldable pub comes_first : List ℕ → List ℕ → Bool
comes_first first [] = false
comes_first [] (y ∷ second) = true
comes_first (x ∷ first) (y ∷ second) =
    if nat_lt x y then true else if nat_lt y x then false else comes_first first second

-- a short import put into its place among sorted ones
unfoldable pub put_in : ShortImport → List ShortImport → List ShortImport
put_in r [] = r ∷ []
put_in r (s ∷ group) = if comes_first s.symbol r.symbol then s ∷ put_in r group else r ∷ s ∷ group

-- the DLL of a group is that of its first short import
abbrev pub dll_of_group : List ShortImport → List ℕ
dll_of_group [] = []
dll_of_group (r ∷ group) = r.dll

-- whether a short import is of a group's DLL; case does not count
abbrev pub is_of_group : ShortImport → List ShortImport → Bool
is_of_group r group = bytes_eq (in_small r.dll) (in_small (dll_of_group group))

-- a short import put into the group of its DLL, or into a new one after all others
unfoldable pub put_into : ShortImport → List (List ShortImport) → List (List ShortImport)
put_into r [] = (r ∷ []) ∷ []
put_into r (group ∷ groups) =
    if is_of_group r group then put_in r group ∷ groups else group ∷ put_into r groups

-- the groups of short imports; the list has the one that was taken last in front
unfoldable pub grouped : List ShortImport → List (List ShortImport)
grouped [] = []
grouped (r ∷ earlier) = put_into r (grouped earlier)

-- what is imported by a group, and by all
abbrev pub imported_by : List ShortImport → Imported
imported_by group = record { dll = dll_of_group group; asks = map ask_of_short_import group }

abbrev pub imports_of_lld : List ShortImport → List Imported
imports_of_lld taken = map imported_by (grouped taken)

-- the `__imp_` symbols of groups, each at its entry of the address tables
unfoldable pub group_entries : ℕ → ℕ → List ShortImport → List Entry
group_entries width offset [] = []
group_entries width offset (r ∷ group) =
    ASymbol (record {
      name = imp_symbol r.symbol;
      value = offset;
      section = 1;
      kind = 0;
      class = class_external;
    })
    ∷ group_entries width (offset + width) group

unfoldable pub entries_of_groups : ℕ → ℕ → List (List ShortImport) → List Entry
entries_of_groups width offset [] = []
entries_of_groups width offset (group ∷ groups) =
    group_entries width offset group
    ++ entries_of_groups width (offset + width * (length (imported_by group).asks + 1)) groups

-- what lld defines, as an object whose one section is the address tables
abbrev pub placed_by_lld : MachineType → ℕ → List ShortImport → Placed
placed_by_lld machine addresses taken = record {
  object = record {
    machine = machine_number machine;
    time = 0;
    optional_header_size = 0;
    characteristics = 0;
    sections = section (codes ".idata$5") (thunk_flags machine) [] [] ∷ [];
    entries = entries_of_groups (thunk_width machine) 0 (grouped taken);
  };
  section_addresses = At Addresses addresses ∷ [];
}

-- the `__imp_` symbols of short imports
abbrev pub imp_symbols_of : List ShortImport → List (List ℕ)
imp_symbols_of taken = map (λ r. imp_symbol r.symbol) taken

-- What lld links, of the short imports that it took, among other objects:
-- `writable`: the tables have room for what they ask for;
-- `distinct`: no two have one symbol;
-- `agree`: DLLs whose names differ by case alone are called alike;
-- `placed`, `none_before`, `none_behind`: no other object defines one of their `__imp_` symbols;
-- `pieces`: the image has the tables.
pub record IsLldProgram (machine : MachineType) (descriptors addresses : ℕ)
    (taken : List ShortImport) (image : List Range) (linked : List Placed) : Type 0 where
  pub writable : AllByRecursion
      (λ r. IsImportable (record { dll = r.dll; asks = ask_of_short_import r ∷ [] })) taken
  pub distinct : IsDistinct bytes_eq (imp_symbols_of taken)
  pub agree : (r s : ShortImport) → Contains taken r → Contains taken s →
      in_small r.dll ≡ in_small s.dll →
      r.dll ≡ s.dll
  pub before : List Placed
  pub behind : List Placed
  pub placed : linked ≡ before ++ placed_by_lld machine addresses taken ∷ behind
  pub none_before : AllByRecursion (λ name. definitions_of name before ≡ []) (imp_symbols_of taken)
  pub none_behind : AllByRecursion (λ name. definitions_of name behind ≡ []) (imp_symbols_of taken)
  pub lookups : ℕ
  pub hints : ℕ
  pub names : ℕ
  pub pieces : ArePiecesAt machine image descriptors lookups addresses hints names
      (imports_of_lld taken)
  pub starts : AllByRecursion (λ r. 0 < r.start) image
  pub ends : AllByRecursion (λ r. range_end r < 2 ^ 31) image

-- A short import is imported by the i-th descriptor, at the j-th entry of its table: a strict
-- loader finds its DLL there, the j-th ask is its own, and its `__imp_` symbol has the address of
-- this entry, also where any object leaves it undefined.
pub record IsImportedBy (machine : MachineType) (descriptors addresses : ℕ)
    (taken : List ShortImport)
    (image : List Range) (linked : List Placed) (r : ShortImport) : Type 0 where
  pub i : ℕ
  pub j : ℕ
  pub group : List ShortImport
  pub its_group : slice_get (grouped taken) i ≡ Some group
  pub its_place : slice_get group j ≡ Some r
  pub loads : LoadsStrictly image (thunk_width machine) (descriptors + 20 * i) r.dll
      (map ask_of_short_import group)
  pub its_table : loads.plain.addresses
      ≡ addresses + thunk_width machine * thunks_until i (imports_of_lld taken)
  pub once : definitions_of (imp_symbol r.symbol) linked
      ≡ record {
        name = imp_symbol r.symbol;
        address = Some (loads.plain.addresses + thunk_width machine * j);
      } ∷ []
  pub gets : GetsAddress linked (imp_symbol r.symbol)
      (loads.plain.addresses + thunk_width machine * j)

-- What lld's tables give:
-- `directory`: at the descriptors is a directory of exactly these imports;
-- `imported`: each short import is one of them, at an entry of its own;
-- `only`: each of them is a short import, of the group's DLL.
pub record LldLinks (machine : MachineType) (descriptors addresses : ℕ) (taken : List ShortImport)
    (image : List Range) (linked : List Placed) : Type 0 where
  pub directory : DirectoryAt image (thunk_width machine) descriptors (imports_of_lld taken)
  pub imported : (r : ShortImport) → Contains taken r →
      IsImportedBy machine descriptors addresses taken image linked r
  pub only : AllByRecursion
      (λ group. AllByRecursion (λ r. Contains taken r × (r.dll ≡ dll_of_group group)) group)
      (grouped taken)
