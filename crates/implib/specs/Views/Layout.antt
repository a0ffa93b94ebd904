-- Views of the code's state: a borrowed object layout.
use Rattle.std.specs.Prelude.{◌≡◌, ℕ, ◌<◌, ◌≤◌, ◌^◌, length, map}
use Rattle.implib.specs.declared.coff.layout.Measure.{Measure}
use Rattle.implib.specs.declared.coff.layout.ObjectLayout.{ObjectLayout as Borrowed}
use Rattle.implib.specs.declared.coff.layout.LayoutSymbol.{LayoutSymbol as BorrowedSymbol}
use Rattle.implib.specs.declared.coff.layout.SymbolName.{SymbolName as BorrowedName}
use Rattle.implib.specs.declared.coff.layout.SymbolName.TheVariants as borrowed
use Rattle.implib.specs.Formats.Writer.{section_view}
use Rattle.implib.specs.Formats.Layout.{InRecord, InStringTable, ObjectLayout, LayoutSymbol}
use Rattle.implib.specs.Formats.Layout.{SymbolName, encoded_size, records, strings_size}
use Rattle.implib.specs.Formats.Layout.{symbol_table_offset}

-- the view of a name's location
abbrev pub name_view : BorrowedName → SymbolName
name_view (borrowed.InRecord text) = InRecord text.now
name_view (borrowed.InStringTable index) = InStringTable index

-- a symbol of the program
abbrev pub symbol_view : BorrowedSymbol → LayoutSymbol
symbol_view s = record {
  name = name_view s.name;
  value = s.value;
  section = s.section;
  class = s.class;
  aux = s.aux;
}

-- the view of an object layout of the program
abbrev pub layout_view : Borrowed → ObjectLayout
layout_view p = record {
  machine = p.machine;
  characteristics = p.characteristics;
  sections = map section_view p.sections.now;
  symbols = map symbol_view p.symbols.now;
  strings = map (λ text. text.now) p.strings.now;
}

-- a name in its record has at most 8 bytes, and one in the string table is one of the strings
abbrev pub FitsField : ℕ → SymbolName → Type 0
FitsField strings (InRecord text) = length text ≤ 8
FitsField strings (InStringTable index) = index < strings

-- the offsets and sizes of an object, all below 2^32
pub record Measured (p : ObjectLayout) (m : Measure) : Type 0 where
  pub symbol_table_offset : m.symbol_table_offset ≡ symbol_table_offset p
  pub records : m.records ≡ records p
  pub strings_size : m.strings_size ≡ strings_size p.strings
  pub length : m.length ≡ encoded_size p
  pub short : encoded_size p < 2 ^ 32
