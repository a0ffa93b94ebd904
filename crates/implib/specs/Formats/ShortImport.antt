-- Reading a short import (PE/COFF specification, "Import Library Format"; docs/FORMATS.md, "Short
-- imports"):
-- a header of 20 bytes, then two texts with a NUL each: the symbol and the DLL's name. The reader
-- takes what it finds in the bytes, and knows nothing of who wrote them.
use Rattle.std.specs.Prelude.{ℕ, ◌-◌, ◌/◌, ◌%◌, Bool, ◌&&◌, ◌==◌, nat_le, List, [], ◌∷◌, length}
use Rattle.std.specs.Prelude.{drop, Option, Some, None, if◌then◌else◌}
use Rattle.std.specs.List.{before_first}
use Rattle.implib.specs.Ascii.{question_mark}
use Rattle.implib.specs.Import.{Ask, Ordinal, Name, Import, import_symbols}
use Rattle.implib.specs.Ascii.{without_first, begins_with}
use Rattle.implib.specs.Import.{underscore, at_sign}
use Rattle.implib.specs.Formats.Object.{u16_at, u32_at}

-- the fields of a short import
pub record ShortImport : Type 0 where
  pub version : ℕ
  pub machine : ℕ
  pub time : ℕ
  pub ordinal : ℕ
  pub import_type : ℕ
  pub name_type : ℕ
  pub symbol : List ℕ
  pub dll : List ℕ

-- the size in bytes of the header
abbrev pub short_import_header_size : ℕ
short_import_header_size = 20

-- "Import Type"
abbrev pub import_code : ℕ
import_code = 0

abbrev pub import_data : ℕ
import_data = 1

abbrev pub import_const : ℕ
import_const = 2

-- "Import Name Type"
abbrev pub import_ordinal : ℕ
import_ordinal = 0

abbrev pub import_name : ℕ
import_name = 1

abbrev pub import_name_noprefix : ℕ
import_name_noprefix = 2

abbrev pub import_name_undecorate : ℕ
import_name_undecorate = 3

-- one more byte at the front of the text that was found
abbrev pub text_longer : ℕ → Option (List ℕ × List ℕ) → Option (List ℕ × List ℕ)
text_longer byte None = None
text_longer byte (Some (text, rest)) = Some (byte ∷ text, rest)

-- the text up to the first NUL, and what follows that NUL, where the next text begins
abbrev pub text_in : List ℕ → Option (List ℕ × List ℕ)
text_in [] = None
text_in (byte ∷ rest) = if byte == 0 then Some ([], rest) else text_longer byte (text_in rest)

-- whether the bytes begin with a header whose size field is that of all that follows it
abbrev pub is_short_import : List ℕ → Bool
is_short_import bytes =
    nat_le short_import_header_size (length bytes) && (u16_at bytes 0 == 0)
    && (u16_at bytes 2 == 0xFFFF)
    && (u32_at bytes 12 == length bytes - short_import_header_size)

-- the short import, where nothing follows the second text
abbrev pub short_import_with : List ℕ → List ℕ → Option (List ℕ × List ℕ) → Option ShortImport
short_import_with bytes symbol None = None
short_import_with bytes symbol (Some (dll, byte ∷ rest)) = None
short_import_with bytes symbol (Some (dll, [])) = Some record {
  version = u16_at bytes 4;
  machine = u16_at bytes 6;
  time = u32_at bytes 8;
  ordinal = u16_at bytes 16;
  import_type = u16_at bytes 18 % 4;
  name_type = u16_at bytes 18 / 4 % 8;
  symbol = symbol;
  dll = dll;
}

-- the short import, from its first text and what follows it
abbrev pub short_import_from : List ℕ → Option (List ℕ × List ℕ) → Option ShortImport
short_import_from bytes None = None
short_import_from bytes (Some (symbol, rest)) = short_import_with bytes symbol (text_in rest)

-- The short import that these bytes are. For example,
-- `00 00 ff ff 00 00 64 86 00 00 00 00 0c 00 00 00 00 00 04 00`, `bar`, NUL, `foo.dll` and NUL: of
-- the symbol bar and the DLL foo.dll on AMD64, with the import type 0 and the name type 1.
unfoldable pub short_import_in : List ℕ → Option ShortImport
short_import_in bytes =
    if is_short_import bytes
    then short_import_from bytes (text_in (drop short_import_header_size bytes))
    else None

-- A symbol without its first byte, where that is `?`, `@` or `_`. For example, `__f` gives `_f`.
abbrev pub without_prefix : List ℕ → List ℕ
without_prefix symbol =
    if begins_with question_mark symbol then without_first symbol
    else if begins_with at_sign symbol then without_first symbol
    else if begins_with underscore symbol then without_first symbol
    else symbol

-- A symbol up to its first `@`. For example, `f@@YAXXZ` gives `f`.
abbrev pub before_at_sign : List ℕ → List ℕ
before_at_sign symbol = before_first (λ byte. byte == at_sign) symbol

-- The name that a short import asks for, by its name type. The specification leaves open what the
-- last two cut off; this is this project's reading of it. For example, undecorate takes `f` of
-- `?f@@YAXXZ`, and no prefix `_f` of `__f`.
abbrev pub asked_by_name_type : ℕ → List ℕ → List ℕ
asked_by_name_type name_type symbol =
    if name_type == import_name then symbol
    else if name_type == import_name_noprefix then without_prefix symbol
    else before_at_sign (without_prefix symbol)

-- what a short import asks of its DLL
abbrev pub ask_of_short_import : ShortImport → Ask
ask_of_short_import r =
    if r.name_type == import_ordinal then Ordinal r.ordinal
    else Name (asked_by_name_type r.name_type r.symbol) r.ordinal

-- the import that a short import is, where its types have a meaning
abbrev pub import_of_short_import : ShortImport → Option Import
import_of_short_import r =
    if nat_le r.import_type import_const && nat_le r.name_type import_name_undecorate
    then Some record {
      dll = r.dll;
      declared = import_symbols (r.import_type == import_data) r.symbol;
      ask = ask_of_short_import r;
    } else None
