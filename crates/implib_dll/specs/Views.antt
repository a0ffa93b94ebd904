-- What a caller sees of the values that borrow an image's bytes.
use Rattle.std.specs.Prelude.{ℕ, List, map}
use Rattle.implib_dll.specs.declared.exports.Exports.{Exports}
use Rattle.implib_dll.specs.declared.imports.Ask.{Ask}
use Rattle.implib_dll.specs.declared.imports.Ask.TheVariants.{Name as NameAsked, Ordinal}
use Rattle.implib_dll.specs.declared.imports.ImportedDll.{ImportedDll}
use Rattle.implib_dll.specs.declared.imports.Imports.{Imports}
use Rattle.implib_dll.specs.declared.name.Name.{Name}
use Rattle.implib_dll.specs.declared.rows.Row.{Row}
use Rattle.implib_dll.specs.declared.section.Part.{Part}
use Rattle.implib_dll.specs.declared.section.Section.{Section}
use Rattle.implib_dll.specs.declared.target.Target.{Target}
use Rattle.implib_dll.specs.declared.target.Target.TheVariants.{Empty, Address, Forwarder}
use Rattle.implib_dll.specs.Exports as seen
use Rattle.implib_dll.specs.Exports.{NameEntry, Exports as SeenExports, Target as SeenTarget}
use Rattle.implib_dll.specs.Imports.{Ask as SeenAsk, ByName, ByOrdinal}
use Rattle.implib_dll.specs.Imports.{ImportedDll as SeenImportedDll, Imports as SeenImports}
use Rattle.implib_dll.specs.Rows.{Row as SeenRow}
use Rattle.implib_dll.specs.Sections.{Section as SeenSection}

abbrev pub section_view : Section → SeenSection
section_view s = record {
  address = s.address;
  size = s.size;
  flags = s.flags;
  place = s.place;
  contents =
      s.contents.now;
}

abbrev pub part_view : Part → ℕ × List ℕ
part_view p = (p.place, p.bytes.now)

abbrev pub target_view : Target → SeenTarget
target_view Empty = seen.Empty
target_view (Address address kind) = seen.Address address kind
target_view (Forwarder text) = seen.Forwarder text.now

abbrev pub name_view : Name → NameEntry
name_view n = record { text = n.text.now; index = n.index }

abbrev pub exports_view : Exports → SeenExports
exports_view e = record {
  machine = e.machine;
  is_pe32_plus = e.is_pe32_plus;
  dll = e.dll.now;
  base = e.base;
  targets = map target_view e.targets.items;
  names = map name_view e.names.items;
}

abbrev pub row_view : Row → SeenRow
row_view r = record {
  ordinal = r.ordinal;
  target = target_view r.target;
  names =
      map (λ name. name.now) r.names.items;
}

abbrev pub ask_view : Ask → SeenAsk
ask_view (NameAsked text hint) = ByName text.now hint
ask_view (Ordinal ordinal) = ByOrdinal ordinal

abbrev pub imported_view : ImportedDll → SeenImportedDll
imported_view i = record { dll = i.dll.now; asks = map ask_view i.asks.items }

abbrev pub imports_view : Imports → SeenImports
imports_view i = record { machine = i.machine; dlls = map imported_view i.dlls.items }
