-- What a caller sees of the values that borrow an object's bytes.
use Rattle.std.specs.Prelude.{map}
use Rattle.implib.specs.Formats.Object.{Entry as FileEntry, ASymbol, Auxiliary as AnAuxiliary}
use Rattle.implib.specs.Formats.Object.{Object as FileObject, ObjectSection, ObjectSymbol}
use Rattle.implib_read.specs.Objects.{relocations_of}
use Rattle.implib_read.specs.declared.object.Section.{Section}
use Rattle.implib_read.specs.declared.object.Symbol.{Symbol}
use Rattle.implib_read.specs.declared.object.Entry.{Entry}
use Rattle.implib_read.specs.declared.object.Entry.TheVariants.{Symbol as SymbolEntry, Auxiliary}
use Rattle.implib_read.specs.declared.object.Object.{Object}

abbrev pub section_view : Section → ObjectSection
section_view s = record {
  name = s.name.now;
  flags = s.flags;
  bytes = s.bytes.now;
  relocations = relocations_of s.relocations.now;
}

abbrev pub symbol_view : Symbol → ObjectSymbol
symbol_view s = record {
  name = s.name.now;
  value = s.value;
  section = s.section;
  kind = s.kind;
  class = s.class;
}

abbrev pub entry_view : Entry → FileEntry
entry_view (SymbolEntry s) = ASymbol (symbol_view s)
entry_view (Auxiliary bytes) = AnAuxiliary bytes.now

abbrev pub object_view : Object → FileObject
object_view o = record {
  machine = o.machine;
  time = o.time;
  optional_header_size = o.optional_header_size;
  characteristics = o.characteristics;
  sections = map section_view o.sections.items;
  entries = map entry_view o.entries.items;
}
