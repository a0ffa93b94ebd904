-- A short import is read as the import of its export.
use Rattle.std.proofs.Common.{◌≡◌, ◌∙◌, ℕ, ◌+◌, ◌*◌, ◌/◌, ◌%◌, ◌<◌, ◌≤◌, ◌^◌, Bool, true, false, List, [], ◌∷◌, ◌++◌, None, Some, Option, ap, append_assoc, arith, drop, eq-eqb, if◌then◌else◌, nat_le, refl}
use Rattle.std.specs.Prelude.{◌==◌, ◌&&◌, unwrap_or}
use Rattle.std.proofs.lemmas.Bool.{le-leb}
use Rattle.std.proofs.lemmas.Nat.{from_le_bytes-to_le_bytes_2, from_le_bytes-to_le_bytes_4}
use Rattle.implib.specs.Definition.{ExportView}
use Rattle.implib.specs.Formats.Bytes.{u16_bytes, u32_bytes}
use Rattle.implib.specs.Formats.Object.{u16_at, u32_at}
use Rattle.implib.specs.Formats.ShortImport.{ShortImport, is_short_import, text_in}
use Rattle.implib.specs.Import.{Name, Ordinal, holds}
use Rattle.implib.specs.Members.Msvc.{dll_texts, import_type_of, short_import_bytes, short_import_data_size, short_import_size}
use Rattle.implib.proofs.Members.ShortImport.{length-short_import_bytes, text_in-append}
use Rattle.implib_arm64ec.specs.Reader.{read_after_dll, read_after_symbol, read_three, read_two}
use Rattle.implib_arm64ec.specs.ReadBack.{CanBeRead, ReadsBack}
use Rattle.implib_arm64ec.specs.ShortImports.{import_of, name_type_of, third_text}

size_read : (r : ShortImport) → short_import_size r ≤ 0xFFFF_FFFF → u32_at (short_import_bytes r) 12 ≡ short_import_data_size r
unfolding u32_at u16_bytes u32_bytes
size_read r fits = from_le_bytes-to_le_bytes_4 (short_import_data_size r) (omega arith)

is_short : (r : ShortImport) → short_import_size r ≤ 0xFFFF_FFFF → is_short_import (short_import_bytes r) ≡ true
unfolding u16_at u16_bytes u32_bytes
is_short r fits = grind (arith, nat_le, le-leb, length-short_import_bytes, eq-eqb, size_read)

-- the fields of a header
pub record Fields (r : ShortImport) : Type 0 where
  pub machine : u16_at (short_import_bytes r) 6 ≡ r.machine
  pub ordinal : u16_at (short_import_bytes r) 16 ≡ r.ordinal
  pub types : u16_at (short_import_bytes r) 18 ≡ r.import_type + 4 * r.name_type

fields_of : (r : ShortImport) → r.machine < 2 ^ 16 → r.ordinal < 2 ^ 16 → r.import_type + 4 * r.name_type < 2 ^ 16 → Fields r
unfolding u16_at u16_bytes u32_bytes
fields_of r m o t = grind (arith, from_le_bytes-to_le_bytes_2)

-- the texts behind the header
texts_of : (r : ShortImport) → drop 20 (short_import_bytes r) ≡ r.symbol ++ 0 ∷ (r.dll ++ 0 ∷ [])
unfolding u16_bytes u32_bytes
texts_of r = refl

-- the number of the types, and its parts
record Types (import_type name_type n : ℕ) : Type 0 where
  low : n % 4 ≡ import_type
  high : n / 4 ≡ name_type

split : (import_type name_type n : ℕ) → import_type < 4 → n ≡ import_type + 4 * name_type → Types import_type name_type n
split import_type name_type n small is = record { low = omega arith; high = omega arith }

type_small : (e : ExportView) → import_type_of e < 4
type_small e = grind arith

-- two texts
read_ordinal : (bytes symbol dll : List ℕ) (import_type ordinal : ℕ) → Types import_type 0 (u16_at bytes 18) → u16_at bytes 16 ≡ ordinal
    → read_two bytes symbol dll ≡ Some (record { symbol = symbol; dll = dll; import_type = import_type; ask = Ordinal ordinal })
read_ordinal bytes symbol dll import_type ordinal t o = rw (t.high, t.low, o) refl

read_name : (bytes symbol dll : List ℕ) (import_type ordinal : ℕ) → Types import_type 1 (u16_at bytes 18) → u16_at bytes 16 ≡ ordinal
    → read_two bytes symbol dll ≡ Some (record { symbol = symbol; dll = dll; import_type = import_type; ask = Name symbol ordinal })
read_name bytes symbol dll import_type ordinal t o = rw (t.high, t.low, o) refl

read_third : (bytes symbol dll name : List ℕ) (import_type ordinal : ℕ) → Types import_type 4 (u16_at bytes 18) → u16_at bytes 16 ≡ ordinal
    → read_three bytes symbol dll (Some (name, [])) ≡ Some (record { symbol = symbol; dll = dll; import_type = import_type; ask = Name name ordinal })
read_third bytes symbol dll name import_type ordinal t o = rw (t.high, t.low, o) refl

after_third : (bytes symbol dll : List ℕ) (import_type ordinal : ℕ) → Types import_type 4 (u16_at bytes 18) → u16_at bytes 16 ≡ ordinal
    → (text : List ℕ) → holds 0 text ≡ false → read_after_dll bytes symbol (Some (dll, text ++ 0 ∷ []))
    ≡ Some (record { symbol = symbol; dll = dll; import_type = import_type; ask = Name text ordinal })
after_third bytes symbol dll import_type ordinal t o [] none = read_third bytes symbol dll [] import_type ordinal t o
after_third bytes symbol dll import_type ordinal t o (b ∷ text) none = grind (arith, text_in-append, read_third, ordinal)

-- behind the DLL's name there is nothing, or the third text
after_dll : (bytes symbol dll : List ℕ) (import_type ordinal : ℕ) (no_name : Bool) (third : Option (List ℕ))
    → holds 0 dll ≡ false → holds 0 (unwrap_or third symbol) ≡ false → (no_name ≡ true → third ≡ None)
    → Types import_type (name_type_of no_name third) (u16_at bytes 18) → u16_at bytes 16 ≡ ordinal
    → read_after_dll bytes symbol (text_in (dll_texts dll third ++ 0 ∷ []))
    ≡ Some (record { symbol = symbol; dll = dll; import_type = import_type; ask = if no_name then Ordinal ordinal else Name (unwrap_or third symbol) ordinal })
after_dll bytes symbol dll import_type ordinal true None d f n t o = rw (text_in-append dll [] d) (read_ordinal bytes symbol dll import_type ordinal t o)
after_dll bytes symbol dll import_type ordinal true (Some name) d f n t o = absurd (let none : Some name ≡ None = n refl in cc)
after_dll bytes symbol dll import_type ordinal false None d f n t o = rw (text_in-append dll [] d) (read_name bytes symbol dll import_type ordinal t o)
after_dll bytes symbol dll import_type ordinal false (Some name) d f n t o =
    let second : text_in ((dll ++ 0 ∷ name) ++ 0 ∷ []) ≡ Some (dll, name ++ 0 ∷ []) = grind (arith, append_assoc, text_in-append) in
    ap (read_after_dll bytes symbol) second ∙ after_third bytes symbol dll import_type ordinal t o name f

-- by ordinal there is no third text
no_third : (e : ExportView) (symbol : List ℕ) → e.no_name ≡ true → third_text e symbol ≡ None
no_third e symbol n = rw n refl

type_of_small : (no_name : Bool) (third : Option (List ℕ)) → name_type_of no_name third < 8
type_of_small true None = omega arith
type_of_small false None = omega arith
type_of_small no_name (Some name) = omega arith

pub reads_back : (dll : List ℕ) (e : ExportView) (symbol : List ℕ) → CanBeRead dll e symbol → ReadsBack dll e symbol
reads_back dll e symbol can =
    let r = import_of dll e symbol in
    let bytes = short_import_bytes r in
    let third = third_text e symbol in
    let number : import_type_of e + 4 * name_type_of e.no_name third < 2 ^ 16 = omega (arith, type_small e, type_of_small e.no_name third) in
    let known = fields_of r (omega arith) can.ordinal number in
    let is : (is_short_import bytes && u16_at bytes 6 == 0xA641) ≡ true = rw (is_short r can.size, known.machine) refl in
    let first : text_in (drop 20 bytes) ≡ Some (symbol, dll_texts dll third ++ 0 ∷ []) = grind (arith, texts_of r, text_in-append symbol (dll_texts dll third ++ 0 ∷ []) can.symbol_free) in
    ap (λ test. if test then read_after_symbol bytes (text_in (drop 20 bytes)) else None) is
    ∙ (ap (read_after_symbol bytes) first
    ∙ after_dll bytes symbol dll (import_type_of e) e.ordinal e.no_name third can.dll_free can.third_free (no_third e symbol)
    (split (import_type_of e) (name_type_of e.no_name third) (u16_at bytes 18) (type_small e) known.types) known.ordinal)
