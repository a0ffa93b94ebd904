-- An object as a table: what its rows hold, and what a writer asks of them before it takes them.
use Rattle.std.specs.Prelude.{ℕ, zero, suc, ◌+◌, ◌<◌, ◌≤◌, ◌^◌, List, [], ◌∷◌, ◌++◌, length, map}
use Rattle.std.specs.List.{AllByRecursion}
use Rattle.implib.specs.declared.coff.object.Relocation.{Relocation}
use Rattle.implib.specs.declared.coff.table.SectionRow.{SectionRow}
use Rattle.implib.specs.declared.coff.table.SymbolRow.{SymbolRow}
use Rattle.implib.specs.declared.machine.MachineType.{MachineType}
use Rattle.implib.specs.Formats.Object.{ObjectSection}
use Rattle.implib.specs.Formats.Layout.{HasNoNul}
use Rattle.implib.specs.Formats.Writer.{AddedSymbol, WriterState, IsPlaceAmong, IsSymbolIndex}
use Rattle.implib.specs.Formats.Writer.{all_entries}

-- the section that a row is
abbrev pub section_row : SectionRow → ObjectSection
section_row row = record {
  name = row.name;
  flags = row.flags;
  bytes = row.bytes.now;
  relocations = row.relocations.now;
}

-- the section as it is added; its relocations follow
abbrev pub bare_row : SectionRow → ObjectSection
bare_row row = record {
  name = row.name;
  flags = row.flags;
  bytes = row.bytes.now;
  relocations = [];
}

-- the symbol that a row is; its value is 0
abbrev pub symbol_row : SymbolRow → AddedSymbol
symbol_row row = record {
  name = row.name.now;
  value = 0;
  place = row.place;
  class = row.class;
  aux = row.aux;
}

-- what a writer holds once it has taken all rows of a table
abbrev pub table_view : MachineType → List SectionRow → List SymbolRow → WriterState
table_view machine sections symbols = record {
  machine = machine;
  sections = map section_row sections;
  symbols = map symbol_row symbols;
}

-- the sections, with these relocations more in the one of a number
unfoldable pub with_relocations : List ObjectSection → ℕ → List Relocation → List ObjectSection
with_relocations [] number more = []
with_relocations (s ∷ rest) zero more = s ∷ rest
with_relocations (s ∷ rest) (suc zero) more =
    record s { relocations = s.relocations ++ more } ∷ rest
with_relocations (s ∷ rest) (suc (suc number)) more = s ∷ with_relocations rest (suc number) more

-- a symbol has a name, and is defined in none or one of `sections` sections
pub record CanBeAdded (sections : ℕ) (s : AddedSymbol) : Type 0 where
  pub named : 0 < length s.name
  pub no_nul : HasNoNul s.name
  pub place : IsPlaceAmong sections s.place

-- a relocation lies in the data of a section, and leads to one of the symbols
pub record LiesIn (symbols : List AddedSymbol) (s : ObjectSection) (r : Relocation) : Type 0 where
  pub within : r.offset + 4 ≤ length s.bytes
  pub symbol : IsSymbolIndex symbols r.symbol

-- a section has room for these relocations more, and each of them lies in it
pub record HasRoomForAll (symbols : List AddedSymbol) (more : List Relocation) (s : ObjectSection)
    : Type 0 where
  pub count : length s.relocations + length more ≤ 65535
  pub each : AllByRecursion (LiesIn symbols s) more

-- a writer can take all that it is to hold: the sections, the symbols, the relocations
pub record CanBeHeld (h : WriterState) : Type 0 where
  pub few : length h.sections ≤ 32767
  pub records : length (all_entries h.symbols) < 2 ^ 32
  pub symbols : AllByRecursion (CanBeAdded (length h.sections)) h.symbols
  pub relocations :
      AllByRecursion (λ s. HasRoomForAll h.symbols s.relocations (record s { relocations = [] }))
      h.sections
