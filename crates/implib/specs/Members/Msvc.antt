-- The short import of an export, as a table (docs/FORMATS.md, "Short imports" and "Members for
-- Microsoft's linker").
use Rattle.std.specs.Prelude.{ℕ, Bool, ◌+◌, ◌*◌, ◌&&◌, ◌||◌, not, List, [], ◌∷◌, ◌++◌, Option, None, Some}
use Rattle.std.specs.Prelude.{length, bytes_eq, if◌then◌else◌, is_some, option_map}
use Rattle.implib.specs.declared.machine.MachineType.{MachineType}
use Rattle.implib.specs.declared.msvc.short_import.ShortImport.{ShortImport as Written}
use Rattle.implib.specs.Formats.Bytes.{u16_bytes, u32_bytes}
use Rattle.implib.specs.Machine.{has_leading_underscore, machine_number}
use Rattle.implib.specs.Definition.{ExportView, given_name}
use Rattle.implib.specs.Import.{holds, underscore, at_sign, import_symbols}
use Rattle.implib.specs.Ascii.{begins_with}
use Rattle.implib.specs.Formats.ShortImport.{ShortImport, short_import_header_size, import_code}
use Rattle.implib.specs.Formats.ShortImport.{import_data, import_const, import_ordinal, import_name}
use Rattle.implib.specs.Formats.ShortImport.{import_name_noprefix, import_name_undecorate}
use Rattle.implib.specs.Formats.ShortImport.{asked_by_name_type, without_prefix}

-- the symbol name or, where that is empty, the name
abbrev pub symbol_or_name : List ℕ → List ℕ → List ℕ
symbol_or_name [] name = name
symbol_or_name (first ∷ rest) name = first ∷ rest

-- the symbol of an export's short import
abbrev pub short_import_symbol : ExportView → List ℕ
short_import_symbol e = symbol_or_name e.symbol_name e.name

-- Whether linkers take the same prefix off a symbol: where symbols have no underscore, lld takes one
-- off and GNU `ld` does not; `?` and `@` both take off.
abbrev pub is_cut_alike : MachineType → List ℕ → Bool
is_cut_alike machine symbol = has_leading_underscore machine || not (begins_with underscore symbol)

-- The first of the name types name, no prefix and undecorate by which a symbol asks for a name. For
-- example, on I386 `_f@8` asks for `_f@8` by name (1), for `f@8` by no prefix (2) and for f by
-- undecorate (3). Where symbols have no underscore, no prefix is for `?` and `@` alone, so that all
-- linkers ask for one name, and there is no undecorate. A name that no such type makes is refused.
abbrev pub name_type_asking : MachineType → List ℕ → List ℕ → ℕ
name_type_asking machine symbol name =
    if bytes_eq symbol name then import_name
    else if is_cut_alike machine symbol && bytes_eq (without_prefix symbol) name
    then import_name_noprefix
    else if has_leading_underscore machine then import_name_undecorate
    else import_name

-- The name type, by the first rule that holds. For example, of `_f` it is no prefix (2) on I386 and
-- name (1) on AMD64; of the symbol name `_f@8` of f, undecorate (3).
abbrev pub name_type_of : MachineType → ExportView → ℕ
name_type_of machine e =
    if e.no_name then import_ordinal
    else if is_some e.asked_name
    then name_type_asking machine (short_import_symbol e) (given_name e)
    else if begins_with underscore e.name && holds at_sign e.name then import_name
    else if not (bytes_eq (short_import_symbol e) e.name) then import_name_undecorate
    else if has_leading_underscore machine && begins_with underscore (short_import_symbol e)
    then import_name_noprefix
    else import_name

-- the import type: data (1) for an export with DATA, else const (2) for one with CONSTANT, else
-- code (0)
abbrev pub import_type_of : ExportView → ℕ
import_type_of e =
    if e.is_data then import_data else if e.constant then import_const else import_code

-- the short import of an export
abbrev pub short_import_of : MachineType → List ℕ → ExportView → ShortImport
short_import_of machine dll e = record {
  version = 0;
  machine = machine_number machine;
  time = 0;
  ordinal = e.ordinal;
  import_type = import_type_of e;
  name_type = name_type_of machine e;
  symbol = short_import_symbol e;
  dll = dll;
}

-- the size in bytes of what follows the header: two texts, each with its NUL
abbrev pub short_import_data_size : ShortImport → ℕ
short_import_data_size r = length r.symbol + length r.dll + 2

-- the size in bytes of a short import
abbrev pub short_import_size : ShortImport → ℕ
short_import_size r = short_import_header_size + short_import_data_size r

-- the header, 20 bytes
abbrev pub short_import_header : ShortImport → List ℕ
short_import_header r =
    u16_bytes 0  -- 0
    ++ (u16_bytes 0xFFFF  -- 2
    ++ (u16_bytes r.version  -- 4
    ++ (u16_bytes r.machine  -- 6
    ++ (u32_bytes r.time  -- 8
    ++ (u32_bytes (short_import_data_size r)  -- 12
    ++ (u16_bytes r.ordinal  -- 16
    ++ u16_bytes (r.import_type + 4 * r.name_type)))))))  -- 18

-- The bytes of a short import. For example, bar of foo.dll on AMD64 is
-- `00 00 ff ff 00 00 64 86 00 00 00 00 0c 00 00 00 00 00 04 00`, `bar`, NUL, `foo.dll` and NUL.
abbrev pub short_import_bytes : ShortImport → List ℕ
short_import_bytes r = short_import_header r ++ (r.symbol ++ 0 ∷ (r.dll ++ 0 ∷ []))

-- the DLL's name and, where there is a third text, its NUL and that text
abbrev pub dll_texts : List ℕ → Option (List ℕ) → List ℕ
dll_texts dll None = dll
dll_texts dll (Some name) = dll ++ 0 ∷ name

-- the short import that the code writes
abbrev pub short_import_view : Written → ShortImport
short_import_view s = record {
  version = 0;
  machine = machine_number s.machine;
  time = 0;
  ordinal = s.ordinal;
  import_type = s.import_type;
  name_type = s.name_type;
  symbol = s.symbol.now;
  dll = dll_texts s.dll.now (option_map (λ name. name.now) s.third);
}

-- the archive symbols of a short import
abbrev pub short_import_symbols : ExportView → List (List ℕ)
short_import_symbols e = import_symbols e.is_data (short_import_symbol e)

-- the name that an export's short import asks for
abbrev pub asked_by_short_import : MachineType → ExportView → List ℕ
asked_by_short_import machine e =
    asked_by_name_type (name_type_of machine e) (short_import_symbol e)
