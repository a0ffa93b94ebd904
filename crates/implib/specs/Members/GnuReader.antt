-- Reading an export's object for GNU's linker, with the head and the tail of its DLL: by the names
-- of symbols and sections, whoever wrote them (docs/FORMATS.md, "Reading an export's object"). The
-- reader states the names of sections and the offsets of fields itself, and takes none from the
-- tables.
use Rattle.std.specs.Prelude.{ℕ, ◌-◌, Bool, false, ◌&&◌, ◌==◌, nat_le, List, [], ◌∷◌, ◌++◌, map}
use Rattle.std.specs.Prelude.{drop, length, slice_get, slice_index, bytes_eq, codes, Option, Some}
use Rattle.std.specs.Prelude.{None, if◌then◌else◌}
use Rattle.std.specs.List.{filter_map, find}
use Rattle.std.specs.Option.{option_and_then, option_map}
use Rattle.implib.specs.declared.coff.object.Relocation.{Relocation}
use Rattle.implib.specs.Formats.File.{File, ShortImportFile, ObjectFile, Meaning, AnImport, AnAlias}
use Rattle.implib.specs.Formats.File.{alias_of_object, is_defined_external}
use Rattle.implib.specs.Import.{Alias, Ask, Ordinal, Name, Import}
use Rattle.implib.specs.Formats.Object.{Entry, ASymbol, Auxiliary, Object, ObjectSection}
use Rattle.implib.specs.Formats.Object.{ObjectSymbol, before_nul, section_numbered, u16_at}

-- the symbol that an entry is
abbrev pub symbol_in : Entry → Option ObjectSymbol
symbol_in (ASymbol s) = Some s
symbol_in (Auxiliary bytes) = None

-- the symbol of an index, auxiliary records counted
abbrev pub symbol_at : Object → ℕ → Option ObjectSymbol
symbol_at o index = option_and_then symbol_in (slice_get o.entries index)

-- the section that a symbol is defined in
abbrev pub section_of_symbol : Object → ObjectSymbol → Option ObjectSection
section_of_symbol o s = section_numbered o.sections s.section

-- the first section of a name
abbrev pub section_named : Object → List ℕ → Option ObjectSection
section_named o name = find (λ s. bytes_eq s.name name) o.sections

-- whether the symbol is defined in a section of a name
abbrev pub is_defined_in : Object → List ℕ → ObjectSymbol → Bool
is_defined_in o name s =
    elim (section_of_symbol o s) [ None ↦ false | Some section ↦ bytes_eq section.name name ]

-- the name of an entry that is an external defined in a section of a name
abbrev pub external_in : Object → List ℕ → Entry → Option (List ℕ)
external_in o section (Auxiliary bytes) = None
external_in o section (ASymbol s) =
    if is_defined_external s && is_defined_in o section s then Some s.name else None

-- the names of the externals that are defined in sections of a name
abbrev pub externals_in : Object → List ℕ → List (List ℕ)
externals_in o section = filter_map (external_in o section) o.entries

-- whether an entry is the external of a name, and defined
abbrev pub defines : List ℕ → Entry → Bool
defines name (Auxiliary bytes) = false
defines name (ASymbol s) = is_defined_external s && bytes_eq s.name name

-- a section, if it has this name
abbrev pub only_named : List ℕ → ObjectSection → Option ObjectSection
only_named name section = if bytes_eq section.name name then Some section else None

-- the section of a name in which an object defines the external of a name
abbrev pub section_defining : Object → List ℕ → List ℕ → Option ObjectSection
section_defining o section_name name =
    let symbol : Option ObjectSymbol = option_and_then symbol_in (find (defines name) o.entries) in
    let section : Option ObjectSection = option_and_then (section_of_symbol o) symbol in
    option_and_then (only_named section_name) section

-- the name of the symbol that a section is relocated to at an offset
abbrev pub relocated_to : Object → ℕ → ObjectSection → Option (List ℕ)
relocated_to o offset section =
    let relocation : Option Relocation = find (λ r. r.offset == offset) section.relocations in
    let symbol : Option ObjectSymbol = option_and_then (λ r. symbol_at o r.symbol) relocation in
    option_map (λ s. s.name) symbol

-- The DLL of an export, found by names: the export's `.idata$7` is relocated to a symbol of the
-- head's descriptor; the descriptor, at 12, to a symbol of the tail's `.idata$7`, which holds the
-- DLL's name.
abbrev pub dll_by_names : Object → Object → Object → Option (List ℕ)
dll_by_names export head tail =
    let to_head = section_named export (codes ".idata$7") in
    let head_symbol = option_and_then (relocated_to export 0) to_head in
    let descriptor = option_and_then (section_defining head (codes ".idata$2")) head_symbol in
    let iname_symbol = option_and_then (relocated_to head 12) descriptor in
    let dll_name = option_and_then (section_defining tail (codes ".idata$7")) iname_symbol in
    option_and_then (λ section. before_nul section.bytes) dll_name

-- A hint and a name, ended by NUL. For example, `00 00 62 61 72 00` asks for the name bar with the
-- hint 0.
abbrev pub ask_by_name : ObjectSection → Option Ask
ask_by_name section =
    option_map (λ name. Name name (u16_at section.bytes 0)) (before_nul (drop 2 section.bytes))

-- The ordinal in a thunk whose top bit is set. For example, `02 01 00 80` asks for the ordinal 258.
abbrev pub ask_by_ordinal : List ℕ → Option Ask
ask_by_ordinal thunk =
    if nat_le 0x80 (slice_index thunk (length thunk - 1)) then Some (Ordinal (u16_at thunk 0))
    else None

-- what the entry of the address table asks for: where it is relocated, by the hint and the name in
-- the section of the symbol that it is relocated to
abbrev pub ask_of_entry : Object → List ℕ → List Relocation → Option Ask
ask_of_entry o thunk [] = ask_by_ordinal thunk
ask_of_entry o thunk (r ∷ others) =
    let hint_name : Option ObjectSection =
    option_and_then (section_of_symbol o) (symbol_at o r.symbol) in
    option_and_then ask_by_name hint_name

-- what an export's object asks for
abbrev pub ask_of_export : Object → Option Ask
ask_of_export o =
    option_and_then (λ s. ask_of_entry o s.bytes s.relocations) (section_named o (codes ".idata$5"))

-- the name of the section of code, filled with NUL (a reader's own, beside that of the tables)
abbrev pub text_section : List ℕ
text_section = codes ".text" ++ 0 ∷ 0 ∷ 0 ∷ []

-- an import from a DLL that an export's object declares: the symbols of `.idata$5`, and then those
-- of `.text`
abbrev pub import_from : Object → List ℕ → Ask → Import
import_from export dll ask = record {
  dll = dll;
  declared = externals_in export (codes ".idata$5") ++ externals_in export text_section;
  ask = ask;
}

-- The import that an export's object is. For example, the object of bar in foo.dll on AMD64 is the
-- import of `foo.dll` that declares `__imp_bar` and `bar` and asks for the name bar with the hint
-- 0.
abbrev pub import_of : Object → Object → Object → Option Import
import_of export head tail =
    let dll : Option (List ℕ) = dll_by_names export head tail in
    let ask : Option Ask = ask_of_export export in
    option_and_then (λ name. option_map (import_from export name) ask) dll

-- what an object after the tail and the head means: an alias, or otherwise an import
abbrev pub alias_or_import : Option Alias → Option Import → Option Meaning
alias_or_import (Some a) i = Some (AnAlias a)
alias_or_import None i = option_map AnImport i

-- the object in a file
abbrev pub object_in_file : File → Option Object
object_in_file (ShortImportFile r) = None
object_in_file (ObjectFile o) = Some o

-- the import that an object is, with the files of the head and the tail
abbrev pub import_in : File → File → Object → Option Import
import_in head tail export = option_and_then
    (λ h. option_and_then (λ t. import_of export h t) (object_in_file tail))
    (object_in_file head)

-- what a file means, with the head and the tail
abbrev pub meaning_with : File → File → File → Option Meaning
meaning_with head tail file =
    option_and_then
    (λ export. alias_or_import (alias_of_object export) (import_in head tail export))
    (object_in_file file)

-- a relocation of an export's code: its offset, its type, and the name of its symbol where that is
-- defined in `.idata$5`
pub record CodeRelocation : Type 0 where
  pub offset : ℕ
  pub kind : ℕ
  pub target : Option (List ℕ)

-- the name of a symbol that is defined in `.idata$5`
abbrev pub name_in_address_table : Object → ObjectSymbol → Option (List ℕ)
name_in_address_table o s = if is_defined_in o (codes ".idata$5") s then Some s.name else None

-- the view of a relocation of an object's code
abbrev pub code_relocation : Object → Relocation → CodeRelocation
code_relocation o r = record {
  offset = r.offset;
  kind = r.kind;
  target = option_and_then (name_in_address_table o) (symbol_at o r.symbol);
}

-- the relocations of an object's code
abbrev pub code_relocations : Object → Option (List CodeRelocation)
code_relocations o =
    option_map (λ s. map (code_relocation o) s.relocations) (section_named o text_section)

-- the same, of an object that makes no alias
abbrev pub code_unless_alias : Object → Option (List CodeRelocation)
code_unless_alias o = elim (alias_of_object o) [ None ↦ code_relocations o | Some a ↦ None ]

-- the relocations of the code of a file that makes no alias
abbrev pub code_of_export : File → Option (List CodeRelocation)
code_of_export file = option_and_then code_unless_alias (object_in_file file)
