-- A short import with the third text that name type 4 has. The PE/COFF specification knows name
-- types 0 to 3 and two texts ("Import Library Format"); IMPORT_NAME_EXPORTAS of Microsoft's headers
-- is the fourth, and gives after the DLL the name that is asked for. `implib`'s reader has no value
-- where a third text stands.
use Rattle.std.specs.Prelude.{◌≡◌, ℕ, ◌/◌, ◌%◌, ◌==◌, false, nat_le, List, [], ◌∷◌, drop, Option}
use Rattle.std.specs.Prelude.{Some, None, if◌then◌else◌}
use Rattle.std.specs.Option.{option_map}
use Rattle.implib.specs.Formats.Object.{u16_at, u32_at}
use Rattle.implib.specs.Formats.ShortImport.{ShortImport, ask_of_short_import, import_const}
use Rattle.implib.specs.Formats.ShortImport.{import_data, import_name_undecorate, is_short_import}
use Rattle.implib.specs.Formats.ShortImport.{short_import_header_size, short_import_in, text_in}
use Rattle.implib.specs.Import.{Ask, Name, Import, import_symbols}
use Rattle.implib_read.specs.Arm64ec.{arm64ec_symbols}
use Rattle.implib_read.specs.declared.short_import.ShortImport.{ShortImport as Found}

-- what is read of a short import: its fields, and by name type 4 the name that it asks for
pub record WithExported : Type 0 where
  pub fields : ShortImport
  pub exported : Option (List ℕ)

-- the fields of a short import of these two texts
abbrev pub fields_with : List ℕ → List ℕ → List ℕ → ShortImport
fields_with bytes symbol dll = record {
  version = u16_at bytes 4;
  machine = u16_at bytes 6;
  time = u32_at bytes 8;
  ordinal = u16_at bytes 16;
  import_type = u16_at bytes 18 % 4;
  name_type = u16_at bytes 18 / 4 % 8;
  symbol = symbol;
  dll = dll;
}

-- the name type with a third text, the name that the DLL is asked for
abbrev pub import_name_exportas : ℕ
import_name_exportas = 4

-- a text that nothing follows
abbrev pub last_text : Option (List ℕ × List ℕ) → Option (Option (List ℕ))
last_text None = None
last_text (Some (text, [])) = Some (Some text)
last_text (Some (text, byte ∷ rest)) = None

-- no text
abbrev pub no_text : List ℕ → Option (Option (List ℕ))
no_text [] = Some None
no_text (byte ∷ rest) = None

-- what stands after the DLL's name: a third text by name type 4, and nothing by any other
abbrev pub exported_in : ℕ → List ℕ → Option (Option (List ℕ))
exported_in name_type rest =
    if name_type == import_name_exportas then last_text (text_in rest) else no_text rest

-- the short import, from what follows its symbol
abbrev pub found_with : List ℕ → List ℕ → Option (List ℕ × List ℕ) → Option WithExported
found_with bytes symbol None = None
found_with bytes symbol (Some (dll, rest)) = option_map
    (λ exported. record { fields = fields_with bytes symbol dll; exported = exported })
    (exported_in (u16_at bytes 18 / 4 % 8) rest)

-- the short import, from its first text and what follows it
abbrev pub found_from : List ℕ → Option (List ℕ × List ℕ) → Option WithExported
found_from bytes None = None
found_from bytes (Some (symbol, rest)) = found_with bytes symbol (text_in rest)

-- The short import that these bytes are: as `short_import_in` has it, and where name type 4 has its
-- third text.
unfoldable pub short_import_found : List ℕ → Option WithExported
short_import_found bytes =
    if is_short_import bytes then found_from bytes (text_in (drop short_import_header_size bytes))
    else None

-- what a caller sees of a short import
abbrev pub short_import_view : Found → WithExported
short_import_view i = record {
  fields = record {
    version = i.version;
    machine = i.machine;
    time = i.time;
    ordinal = i.ordinal;
    import_type = i.import_type;
    name_type = i.name_type;
    symbol = i.symbol.now;
    dll = i.dll.now;
  };
  exported = option_map (λ text. text.now) i.exported;
}

-- what is asked for by a short import that gives its exported name, or otherwise by its name type
abbrev pub ask_with : ShortImport → Option (List ℕ) → Option Ask
ask_with r (Some name) = Some (Name name r.ordinal)
ask_with r None =
    if nat_le r.name_type import_name_undecorate then Some (ask_of_short_import r) else None

-- the machine of code for ARM64 that calls code for AMD64 ("Machine Types": ARM64EC)
abbrev pub arm64ec : ℕ
arm64ec = 0xA641

-- what a short import asks for, where its types have a meaning
abbrev pub ask_of_found : WithExported → Option Ask
ask_of_found r =
    if nat_le r.fields.import_type import_const then ask_with r.fields r.exported else None

-- the symbols that a short import declares, in order
abbrev pub declared_by_short_import : ShortImport → List (List ℕ)
declared_by_short_import r =
    if r.machine == arm64ec then arm64ec_symbols r.import_type r.symbol
    else import_symbols (r.import_type == import_data) r.symbol

-- The import that a short import is, where its types have a meaning. For example, name type 4 with
-- the third text `bar` asks for bar, whatever the symbol is.
abbrev pub import_of_found : WithExported → Option Import
import_of_found r = option_map
    (λ ask. record { dll = r.fields.dll; declared = declared_by_short_import r.fields; ask = ask })
    (ask_of_found r)

-- What `implib`'s reader has of a short import, this one has, with no exported name; only name type
-- 4 without its third text is refused.
abbrev pub SameShortImports : Type 0
SameShortImports = (bytes : List ℕ) (r : ShortImport) → short_import_in bytes ≡ Some r →
    (r.name_type == import_name_exportas) ≡ false
    → short_import_found bytes ≡ Some (record { fields = r; exported = None })
