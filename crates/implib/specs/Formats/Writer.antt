-- The state of an object writer, and the layout that it encodes (this project's layout,
-- docs/FORMATS.md, "The layout of an object").
use Rattle.std.specs.Prelude.{ℕ, zero, suc, ◌+◌, ◌<◌, ◌≤◌, Bool, List, [], ◌∷◌, ◌++◌, Option, None}
use Rattle.std.specs.Prelude.{Some, IsSomeAnd, length, map, fold, flat_map, slice_get, nat_lt}
use Rattle.std.specs.Prelude.{string_bytes, if◌then◌else◌, bytes_eq}
use Rattle.std.specs.List.{list_any, position_or_len}
use Rattle.implib.specs.declared.coff.object.Place.{Place}
use Rattle.implib.specs.declared.coff.object.Place.TheVariants.{Undefined, Section, Absolute, Debug}
use Rattle.implib.specs.declared.coff.object.Relocation.{Relocation}
use Rattle.implib.specs.declared.coff.object.Section.{Section as Held}
use Rattle.implib.specs.declared.coff.object.Symbol.{Symbol}
use Rattle.implib.specs.declared.machine.MachineType.{MachineType}
use Rattle.implib.specs.Machine.{machine_number}
use Rattle.implib.specs.Formats.Object.{ASymbol, Auxiliary, Entry, Object, ObjectSection}
use Rattle.implib.specs.Formats.Layout.{InRecord, InStringTable, ObjectLayout, LayoutSymbol}
use Rattle.implib.specs.Formats.Layout.{SymbolName}

-- a symbol that was added
pub record AddedSymbol : Type 0 where
  pub name : List ℕ
  pub value : ℕ
  pub place : Place
  pub class : ℕ
  pub aux : Option (List ℕ)

-- what a section of the program holds
abbrev pub section_view : Held → ObjectSection
section_view s = record {
  name = s.name;
  flags = s.flags;
  bytes = s.bytes.items;
  relocations = s.relocations.items;
}

-- what a symbol of the program holds
abbrev pub added_view : Symbol → AddedSymbol
added_view s = record {
  name = string_bytes s.name;
  value = s.value;
  place = s.place;
  class = s.class;
  aux = s.aux;
}

-- what a writer holds: all that was added, in order
pub record WriterState : Type 0 where
  pub machine : MachineType
  pub sections : List ObjectSection
  pub symbols : List AddedSymbol

-- the section number of a symbol, in 16 bits ("Section Number Values"): -1 is absolute, -2 debug
abbrev pub section_number : Place → ℕ
section_number Undefined = 0
section_number (Section number) = number
section_number Absolute = 0xFFFF
section_number Debug = 0xFFFE

-- the entries of the symbol table that a symbol makes: its own, and the auxiliary one
abbrev pub entries_added : AddedSymbol → List Entry
entries_added s =
    ASymbol (record {
      name = s.name;
      value = s.value;
      section = section_number s.place;
      kind = 0;
      class = s.class;
    }) ∷ elim s.aux [ None ↦ [] | Some aux ↦ Auxiliary aux ∷ [] ]

-- the entries of the symbol table, in order
abbrev pub all_entries : List AddedSymbol → List Entry
all_entries symbols = flat_map entries_added symbols

-- the object that a writer holds
abbrev pub written_object : WriterState → Object
written_object h = record {
  machine = machine_number h.machine;
  time = 0;
  optional_header_size = 0;
  characteristics = 0;
  sections = h.sections;
  entries = all_entries h.symbols;
}

-- the entry is a symbol
abbrev pub IsSymbol : Entry → Type 0
IsSymbol (ASymbol symbol) = Unit {0}
IsSymbol (Auxiliary bytes) = ⊥

-- the index is that of a symbol, and of no auxiliary record
abbrev pub IsSymbolIndex : List AddedSymbol → ℕ → Type 0
IsSymbolIndex symbols index = IsSomeAnd (slice_get (all_entries symbols) index) IsSymbol

-- the symbol is in no section, or in one of `count` sections
abbrev pub IsPlaceAmong : ℕ → Place → Type 0
IsPlaceAmong count Undefined = Unit {0}
IsPlaceAmong count (Section number) = (0 < number) × (number ≤ count)
IsPlaceAmong count Absolute = Unit {0}
IsPlaceAmong count Debug = Unit {0}

-- one section more
abbrev pub with_section : WriterState → ObjectSection → WriterState
with_section h s = record h { sections = h.sections ++ s ∷ [] }

-- one symbol more
abbrev pub with_symbol : WriterState → AddedSymbol → WriterState
with_symbol h s = record h { symbols = h.symbols ++ s ∷ [] }

-- the section has room for the relocation, and data where it is
pub record HasRoomFor (r : Relocation) (s : ObjectSection) : Type 0 where
  pub count : length s.relocations < 65535
  pub within : r.offset + 4 ≤ length s.bytes

-- one relocation more, in the section of a number, which counts from 1
abbrev pub sections_with_relocation : List ObjectSection → ℕ → Relocation → List ObjectSection
sections_with_relocation [] number r = []
sections_with_relocation (s ∷ rest) zero r = s ∷ rest
sections_with_relocation (s ∷ rest) (suc zero) r =
    record s { relocations = s.relocations ++ r ∷ [] } ∷ rest
sections_with_relocation (s ∷ rest) (suc (suc number)) r =
    s ∷ sections_with_relocation rest (suc number) r

-- the writer's state after one relocation more
abbrev pub with_relocation : WriterState → ℕ → Relocation → WriterState
with_relocation h number r = record h { sections = sections_with_relocation h.sections number r }

-- a name of more than 8 bytes is in the string table
abbrev pub is_long : List ℕ → Bool
is_long name = nat_lt 8 (length name)

-- the names, and this one after them if it is not among them
unfoldable pub with_name : List (List ℕ) → List ℕ → List (List ℕ)
with_name names name = if list_any (bytes_eq name) names then names else names ++ name ∷ []

-- the names, and this one if it is long
unfoldable pub with_long_name : List (List ℕ) → List ℕ → List (List ℕ)
with_long_name names name = if is_long name then with_name names name else names

-- the different long names, in the order of their first use
unfoldable pub long_names : List AddedSymbol → List (List ℕ)
long_names symbols = fold with_long_name [] (map (λ s. s.name) symbols)

-- The location of a name. For example, `abcdefgh` is in its record, and `abcdefghi` in the string
-- table.
unfoldable pub name_location : List (List ℕ) → List ℕ → SymbolName
name_location names name =
    if is_long name then InStringTable (position_or_len (bytes_eq name) names) else InRecord name

-- a symbol as it is written
unfoldable pub symbol_written : List (List ℕ) → AddedSymbol → LayoutSymbol
symbol_written names s = record {
  name = name_location names s.name;
  value = s.value;
  section = section_number s.place;
  class = s.class;
  aux = s.aux;
}

-- the layout that a writer encodes: long names in the string table, each once
unfoldable pub layout_of : WriterState → ObjectLayout
layout_of h = record {
  machine = machine_number h.machine;
  characteristics = 0;
  sections = h.sections;
  symbols = map (symbol_written (long_names h.symbols)) h.symbols;
  strings = long_names h.symbols;
}
