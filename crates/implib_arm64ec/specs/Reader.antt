-- Reading a short import of ARM64EC by its bytes, whoever wrote it: a header of 20 bytes, and two
-- texts or three with a NUL each. The reader states the number of the machine and the name types
-- itself.
use Rattle.std.specs.Prelude.{ℕ, ◌/◌, ◌%◌, ◌==◌, ◌&&◌, List, [], ◌∷◌, drop, Option, Some, None}
use Rattle.std.specs.Prelude.{if◌then◌else◌}
use Rattle.implib.specs.Formats.Object.{u16_at}
use Rattle.implib.specs.Formats.ShortImport.{is_short_import, text_in}
use Rattle.implib.specs.Import.{Ask, Name, Ordinal}

-- what is read
pub record ReadImport : Type 0 where
  pub symbol : List ℕ
  pub dll : List ℕ
  pub import_type : ℕ
  pub ask : Ask

-- an import of the fields of a header
abbrev pub read_with : List ℕ → List ℕ → List ℕ → Ask → ReadImport
read_with bytes symbol dll ask =
    record { symbol = symbol; dll = dll; import_type = u16_at bytes 18 % 4; ask = ask }

-- where nothing follows the second text: by ordinal, or by the symbol
abbrev pub read_two : List ℕ → List ℕ → List ℕ → Option ReadImport
read_two bytes symbol dll =
    if u16_at bytes 18 / 4 == 0 then Some (read_with bytes symbol dll (Ordinal (u16_at bytes 16)))
    else if u16_at bytes 18 / 4 == 1
    then Some (read_with bytes symbol dll (Name symbol (u16_at bytes 16)))
    else None

-- with a third text, by that, where nothing follows it
abbrev pub read_three : List ℕ → List ℕ → List ℕ → Option (List ℕ × List ℕ) → Option ReadImport
read_three bytes symbol dll None = None
read_three bytes symbol dll (Some (name, byte ∷ rest)) = None
read_three bytes symbol dll (Some (name, [])) =
    if u16_at bytes 18 / 4 == 4 then Some (read_with bytes symbol dll (Name name (u16_at bytes 16)))
    else None

abbrev pub read_after_dll : List ℕ → List ℕ → Option (List ℕ × List ℕ) → Option ReadImport
read_after_dll bytes symbol None = None
read_after_dll bytes symbol (Some (dll, [])) = read_two bytes symbol dll
read_after_dll bytes symbol (Some (dll, byte ∷ rest)) =
    read_three bytes symbol dll (text_in (byte ∷ rest))

abbrev pub read_after_symbol : List ℕ → Option (List ℕ × List ℕ) → Option ReadImport
read_after_symbol bytes None = None
read_after_symbol bytes (Some (symbol, rest)) = read_after_dll bytes symbol (text_in rest)

-- The import that these bytes are. For example, `00 00 ff ff 00 00 41 a6 00 00 00 00 0b 00 00 00 00
-- 00 10 00`, `#f`, NUL, `t.dll`, NUL, `f` and NUL: `#f` of t.dll, which asks for f.
abbrev pub import_in : List ℕ → Option ReadImport
import_in bytes =
    if is_short_import bytes && u16_at bytes 6 == 0xA641
    then read_after_symbol bytes (text_in (drop 20 bytes)) else None
