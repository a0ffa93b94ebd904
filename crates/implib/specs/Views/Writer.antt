-- Views of the code's state: a writer of objects.
use Rattle.std.specs.Prelude.{◌≡◌, ℕ, ◌<◌, ◌≤◌, ◌^◌, List, length, map}
use Rattle.std.specs.List.{AllByRecursion}
use Rattle.implib.specs.declared.coff.object.Section.{Section}
use Rattle.implib.specs.declared.coff.object.Symbol.{Symbol}
use Rattle.implib.specs.declared.machine.MachineType.{MachineType}
use Rattle.implib.specs.Formats.Object.{ObjectSection}
use Rattle.implib.specs.Formats.Layout.{FitsAuxiliary, FitsSection, HasNoNul}
use Rattle.implib.specs.Formats.Writer.{AddedSymbol, added_view, section_view, WriterState}
use Rattle.implib.specs.Formats.Writer.{IsPlaceAmong, IsSymbolIndex, all_entries}

-- what the lists of a writer hold
abbrev pub writer_state : MachineType → List Section → List Symbol → WriterState
writer_state machine sections symbols = record {
  machine = machine;
  sections = map section_view sections;
  symbols = map added_view symbols;
}

-- a section can be written, and each of its relocations names a symbol
pub record IsSoundSection (symbols : List AddedSymbol) (s : ObjectSection) : Type 0 where
  pub fits : FitsSection s
  pub relocations : AllByRecursion (λ r. IsSymbolIndex symbols r.symbol) s.relocations

-- a symbol can be written beside `sections` sections
pub record IsSoundSymbol (sections : ℕ) (s : AddedSymbol) : Type 0 where
  pub named : 0 < length s.name
  pub no_nul : HasNoNul s.name
  pub value : s.value < 2 ^ 32
  pub place : IsPlaceAmong sections s.place
  pub aux : FitsAuxiliary s.aux

-- what a writer keeps
pub record IsSound (h : WriterState) (count : ℕ) : Type 0 where
  pub few : length h.sections ≤ 32767
  pub records : count ≡ length (all_entries h.symbols)
  pub sections : AllByRecursion (IsSoundSection h.symbols) h.sections
  pub symbols : AllByRecursion (IsSoundSymbol (length h.sections)) h.symbols
