-- A short import reads back as its fields.
use Rattle.std.proofs.Common.{◌≡◌, ℕ, ◌≤◌, true, false, nat_le, List, [], ◌∷◌, ◌++◌, length, Some, refl, arith, length-append, eq-eqb}
use Rattle.std.specs.Prelude.{◌==◌}
use Rattle.std.proofs.lemmas.Bool.{or_parts, le-leb}
use Rattle.std.proofs.lemmas.Nat.{from_le_bytes-to_le_bytes_2, from_le_bytes-to_le_bytes_4}
use Rattle.implib.specs.Formats.Bytes.{u16_bytes, u32_bytes}
use Rattle.implib.specs.Import.{holds}
use Rattle.implib.specs.Members.Msvc.{short_import_bytes, short_import_header, short_import_data_size, short_import_size}
use Rattle.implib.specs.Members.ReadBack.{FitsShortImport}
use Rattle.implib.specs.Formats.Object.{u16_at, u32_at}
use Rattle.implib.specs.Formats.ShortImport.{ShortImport, text_in, is_short_import, short_import_with, short_import_in}

-- a text without NUL is read up to the NUL after it
pub text_in-append : (text rest : List ℕ) → holds 0 text ≡ false → text_in (text ++ 0 ∷ rest) ≡ Some (text, rest)
text_in-append [] rest none = refl
text_in-append (b ∷ text) rest none = grind (arith, text_in-append text rest (or_parts (b == 0) (holds 0 text) none).1, or_parts)

length-short_import_header : (r : ShortImport) → length (short_import_header r) ≡ 20
unfolding u16_bytes u32_bytes
length-short_import_header r = refl

-- the length of a short import's bytes
pub length-short_import_bytes : (r : ShortImport) → length (short_import_bytes r) ≡ short_import_size r
length-short_import_bytes r = grind (arith, length-append, length-short_import_header)

data_size_fits : (r : ShortImport) → short_import_size r ≤ 0xFFFF_FFFF → u32_at (short_import_bytes r) 12 ≡ short_import_data_size r
unfolding u32_at u16_bytes u32_bytes
data_size_fits r fits = from_le_bytes-to_le_bytes_4 (short_import_data_size r) (omega arith)

is_short_import-short_import_bytes : (r : ShortImport) → short_import_size r ≤ 0xFFFF_FFFF → is_short_import (short_import_bytes r) ≡ true
unfolding u16_at u16_bytes u32_bytes
is_short_import-short_import_bytes r fits = grind (arith, nat_le, le-leb, length-short_import_bytes, eq-eqb, data_size_fits)

same_short_import : (r : ShortImport) (version machine time ordinal import_type name_type : ℕ) →
    version ≡ r.version → machine ≡ r.machine → time ≡ r.time → ordinal ≡ r.ordinal → import_type ≡ r.import_type → name_type ≡ r.name_type →
    Some record { version = version; machine = machine; time = time; ordinal = ordinal; import_type = import_type; name_type = name_type; symbol = r.symbol; dll = r.dll } ≡ Some r
same_short_import r version machine time ordinal import_type name_type v m t o k n = rw (v, m, t, o, k, n) refl

-- the fields of a short import, read at their positions
fields_read : (r : ShortImport) → FitsShortImport r → short_import_with (short_import_bytes r) r.symbol (Some (r.dll, [])) ≡ Some r
unfolding u16_at u32_at u16_bytes u32_bytes
fields_read r fits = grind (arith, from_le_bytes-to_le_bytes_2, same_short_import, from_le_bytes-to_le_bytes_4)

-- a short import reads back as its fields
pub short_import_in-short_import_bytes : (r : ShortImport) → FitsShortImport r → short_import_size r ≤ 0xFFFF_FFFF → short_import_in (short_import_bytes r) ≡ Some r
unfolding short_import_in u16_bytes u32_bytes
short_import_in-short_import_bytes r fits short = grind (arith, is_short_import-short_import_bytes, text_in-append, fields_read)
