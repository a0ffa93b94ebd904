-- What `implib_arm64ec` makes of an export is read as what the export means.
use Rattle.std.proofs.Common.{◌≡◌, ◌∙◌, ℕ, suc, ◌+◌, ◌-◌, ◌*◌, ◌/◌, ◌%◌, ◌<◌, ◌≤◌, ◌^◌, ◌⊎◌, inl, inr, Bool, true, false, List, [], ◌∷◌, ◌++◌, None, Some, Option, ap, append_assoc, arith, bytes_eq, codes, drop, eq-eqb, if◌then◌else◌, length, length-append, length-drop, nat_eq, nat_le, refl, subst, sym, take}
use Rattle.std.specs.Prelude.{◌==◌, eqb, unwrap_or}
use Rattle.std.specs.List.{starts_with}
use Rattle.std.specs.Option.{option_map}
use Rattle.std.proofs.lemmas.Bool.{le-leb}
use Rattle.std.proofs.lemmas.List.{length-take}
use Rattle.std.proofs.lemmas.Nat.{from_le_bytes-to_le_bytes_2, from_le_bytes-to_le_bytes_4}
use Rattle.std.proofs.lemmas.Slice.Eq.{bytes_eq-Decides}
use Rattle.implib.specs.Definition.{ExportView}
use Rattle.implib.specs.Formats.Bytes.{u16_bytes, u32_bytes}
use Rattle.implib.specs.Formats.Object.{u16_at, u32_at}
use Rattle.implib.specs.Formats.ShortImport.{ShortImport, is_short_import, short_import_header_size, text_in}
use Rattle.implib.specs.Import.{Name, Ordinal, holds, imp_symbol, is_empty_text}
use Rattle.implib.specs.Members.Msvc.{dll_texts, import_type_of, short_import_bytes, short_import_data_size, short_import_size}
use Rattle.implib.proofs.Members.ShortImport.{length-short_import_bytes, text_in-append}
use Rattle.implib_arm64ec.specs.Marks.{mark_position, without_mark_at}
use Rattle.implib_arm64ec.specs.ReadBack.{ask_of}
use Rattle.implib_arm64ec.specs.ShortImports.{import_of, import_symbols, name_type_of, plain_symbol, symbol_apart, symbols_with, third_text}
use Rattle.implib_read.specs.Arm64ec.{arm64ec_symbols, around_mark, auxiliary_symbol, inner_mark_in, text_apart, unmarked, without_inner}
use Rattle.implib_read.specs.Classes.{AnImport, class_of_file, class_of_import, imported_by_short_import, kind_of_type}
use Rattle.implib_read.specs.Files.{short_import_or_object}
use Rattle.implib_read.specs.Objects.{object_found}
use Rattle.implib_read.specs.OwnLibraries.{expected_kind}
use Rattle.implib_read.specs.ShortImports.{exported_in, fields_with, found_from, found_with, short_import_found}
use Rattle.implib_read.specs.declared.import.ImportKind.TheVariants.{Code, Const, Data}
use Rattle.implib_tests.specs.Read.Arm64ecImports.{ShortImportsAreRead}

-- Marks: both readers take the same away.

same_place : (text : List ℕ) → inner_mark_in text ≡ mark_position text
same_place [] = refl
same_place (c ∷ text) = ap (λ found. if starts_with eqb (c ∷ text) (codes "$$h") then Some 0 else option_map suc found) (same_place text)

same_around : (name : List ℕ) (place : ℕ) (rest : List ℕ) → around_mark name place rest ≡ unwrap_or (if is_empty_text rest then None else Some (take place name ++ rest)) name
same_around name place [] = refl
same_around name place (c ∷ rest) = refl

same_inner : (name : List ℕ) (found : Option ℕ) → without_inner name found ≡ unwrap_or (without_mark_at name found) name
same_inner name None = refl
same_inner name (Some place) = same_around name place (drop (place + 3) name)

same_by : (first second : Bool) (text rest inner : List ℕ) (found : Option (List ℕ)) → inner ≡ unwrap_or found text
    → (if first then rest else if second then inner else text) ≡ unwrap_or (if first then Some rest else if second then found else None) text
same_by true second text rest inner found is = refl
same_by false true text rest inner found is = is
same_by false false text rest inner found is = refl

same_plain : (text : List ℕ) → unmarked text ≡ plain_symbol text
same_plain [] = refl
same_plain (c ∷ text) =
    same_by (nat_eq c 0x23) (nat_eq c 0x3F) (c ∷ text) text (without_inner (c ∷ text) (inner_mark_in (c ∷ text))) (without_mark_at (c ∷ text) (mark_position (c ∷ text)))
    (ap (without_inner (c ∷ text)) (same_place (c ∷ text)) ∙ same_inner (c ∷ text) (mark_position (c ∷ text)))

-- A text with a mark is longer than without it.

shorter_around : (name : List ℕ) (place : ℕ) (rest : List ℕ) → drop (place + 3) name ≡ rest
    → (around_mark name place rest ≡ name) ⊎ (length (around_mark name place rest) < length name)
shorter_around name place [] is = inl refl
shorter_around name place (c ∷ rest) is =
    let all : length name - (place + 3) ≡ length (c ∷ rest) = sym (length-drop (place + 3) name) ∙ ap length is in
    inr (omega (arith, all, length-append (take place name) (c ∷ rest), length-take place name))

shorter_inner : (name : List ℕ) (found : Option ℕ) → (without_inner name found ≡ name) ⊎ (length (without_inner name found) < length name)
shorter_inner name None = inl refl
shorter_inner name (Some place) = shorter_around name place (drop (place + 3) name) refl

shorter_by : (first second : Bool) (c : ℕ) (text inner : List ℕ) → (inner ≡ c ∷ text) ⊎ (length inner < length (c ∷ text))
    → ((if first then text else if second then inner else c ∷ text) ≡ c ∷ text) ⊎ (length (if first then text else if second then inner else c ∷ text) < length (c ∷ text))
shorter_by true second c text inner is = inr (omega arith)
shorter_by false true c text inner is = is
shorter_by false false c text inner is = inl refl

shorter : (text : List ℕ) → (unmarked text ≡ text) ⊎ (length (unmarked text) < length text)
shorter [] = inl refl
shorter (c ∷ text) =
    shorter_by (nat_eq c 0x23) (nat_eq c 0x3F) c text (without_inner (c ∷ text) (inner_mark_in (c ∷ text))) (shorter_inner (c ∷ text) (inner_mark_in (c ∷ text)))

other_length : (m n : ℕ) → m < n → (m == n) ≡ false
other_length m n less = by (m == n) refl
  where
    by : (b : Bool) → (m == n) ≡ b → b ≡ false
    by false is = refl
    by true is = absurd (grind (arith, less, is))

other_bytes : (xs ys : List ℕ) → length ys < length xs → bytes_eq xs ys ≡ false
other_bytes xs ys less = by (bytes_eq xs ys) refl
  where
    by : (b : Bool) → bytes_eq xs ys ≡ b → b ≡ false
    by false is = refl
    by true is = let same : length xs ≡ length ys = ap length ((bytes_eq-Decides xs ys).0 is) in absurd (omega arith)

apart_by : (text plain : List ℕ) → (plain ≡ text) ⊎ (length plain < length text) → text_apart text plain ≡ symbol_apart text plain
apart_by text plain (inl same) =
    subst (λ (x : List ℕ). text_apart text x ≡ symbol_apart text x) (sym same)
    (ap (λ (b : Bool). if b then [] else text ∷ []) (eq-eqb (length text) (length text) refl)
    ∙ sym (ap (λ (b : Bool). if b then [] else text ∷ []) ((bytes_eq-Decides text text).1 refl)))
apart_by text plain (inr less) =
    ap (λ (b : Bool). if b then [] else text ∷ []) (other_length (length plain) (length text) less)
    ∙ sym (ap (λ (b : Bool). if b then [] else text ∷ []) (other_bytes text plain less))

same_symbols : (e : ExportView) (symbol : List ℕ) → arm64ec_symbols (import_type_of e) symbol ≡ import_symbols e symbol
same_symbols e symbol = by e.is_data e.constant
  where
    three : imp_symbol (unmarked symbol) ∷ unmarked symbol ∷ auxiliary_symbol (unmarked symbol) ∷ text_apart symbol (unmarked symbol) ≡ symbols_with false symbol (plain_symbol symbol)
    three =
        ap (λ more. imp_symbol (unmarked symbol) ∷ unmarked symbol ∷ auxiliary_symbol (unmarked symbol) ∷ more) (apart_by symbol (unmarked symbol) (shorter symbol))
        ∙ ap (symbols_with false symbol) (same_plain symbol)

    by : (variable constant : Bool) → arm64ec_symbols (if variable then 1 else if constant then 2 else 0) symbol ≡ symbols_with variable symbol (plain_symbol symbol)
    by true constant = ap (λ plain. imp_symbol plain ∷ []) (same_plain symbol)
    by false true = three
    by false false = three

-- The fields.

size_read : (r : ShortImport) → short_import_size r ≤ 0xFFFF_FFFF → u32_at (short_import_bytes r) 12 ≡ short_import_data_size r
unfolding u32_at u16_bytes u32_bytes
size_read r fits = from_le_bytes-to_le_bytes_4 (short_import_data_size r) (omega arith)

is_short : (r : ShortImport) → short_import_size r ≤ 0xFFFF_FFFF → is_short_import (short_import_bytes r) ≡ true
unfolding u16_at u16_bytes u32_bytes
is_short r fits =
    let long : nat_le 20 (length (short_import_bytes r)) ≡ true = le-leb 20 (length (short_import_bytes r)) (omega (arith, length-short_import_bytes r)) in
    let size : (u32_at (short_import_bytes r) 12 == length (short_import_bytes r) - short_import_header_size) ≡ true =
    eq-eqb (u32_at (short_import_bytes r) 12) (length (short_import_bytes r) - short_import_header_size) (omega (arith, size_read r fits, length-short_import_bytes r)) in
    rw (long, size) refl

record Fields (r : ShortImport) (bytes : List ℕ) : Type 0 where
  machine : u16_at bytes 6 ≡ r.machine
  ordinal : u16_at bytes 16 ≡ r.ordinal
  import_type : u16_at bytes 18 % 4 ≡ r.import_type
  name_type : u16_at bytes 18 / 4 % 8 ≡ r.name_type

types_at : (import_type name_type n : ℕ) → import_type < 4 → name_type < 8 → n ≡ import_type + 4 * name_type → (n % 4 ≡ import_type) × (n / 4 % 8 ≡ name_type)
types_at import_type name_type n small few is = (omega arith, omega arith)

fields_of : (r : ShortImport) → r.machine < 2 ^ 16 → r.ordinal < 2 ^ 16 → r.import_type < 4 → r.name_type < 8 → Fields r (short_import_bytes r)
unfolding u16_at u16_bytes u32_bytes
fields_of r m o t n =
    let types = types_at r.import_type r.name_type (u16_at (short_import_bytes r) 18) t n (from_le_bytes-to_le_bytes_2 (r.import_type + 4 * r.name_type) (omega arith)) in
    record {
      machine = from_le_bytes-to_le_bytes_2 r.machine m;
      ordinal = from_le_bytes-to_le_bytes_2 r.ordinal o;
      import_type = types.0;
      name_type = types.1;
    }

-- The texts.

texts_of : (r : ShortImport) → drop 20 (short_import_bytes r) ≡ r.symbol ++ 0 ∷ (r.dll ++ 0 ∷ [])
unfolding u16_bytes u32_bytes
texts_of r = refl

-- what follows the first text
found_behind : (bytes symbol dll : List ℕ) (no_name : Bool) (third : Option (List ℕ)) → holds 0 dll ≡ false → holds 0 (unwrap_or third symbol) ≡ false
    → u16_at bytes 18 / 4 % 8 ≡ name_type_of no_name third
    → found_with bytes symbol (text_in (dll_texts dll third ++ 0 ∷ [])) ≡ Some (record { fields = fields_with bytes symbol dll; exported = third })
found_behind bytes symbol dll true None d f n =
    ap (found_with bytes symbol) (text_in-append dll [] d) ∙ ap (λ t. option_map (λ (x : Option (List ℕ)). record { fields = fields_with bytes symbol dll; exported = x }) (exported_in t [])) n
found_behind bytes symbol dll false None d f n =
    ap (found_with bytes symbol) (text_in-append dll [] d) ∙ ap (λ t. option_map (λ (x : Option (List ℕ)). record { fields = fields_with bytes symbol dll; exported = x }) (exported_in t [])) n
found_behind bytes symbol dll no_name (Some name) d f n =
    let second : text_in ((dll ++ 0 ∷ name) ++ 0 ∷ []) ≡ Some (dll, name ++ 0 ∷ []) =
    ap text_in (append_assoc dll (0 ∷ name) (0 ∷ [])) ∙ text_in-append dll (name ++ 0 ∷ []) d in
    let third : exported_in 4 (name ++ 0 ∷ []) ≡ Some (Some name) = rw (text_in-append name [] f) refl in
    ap (found_with bytes symbol) second
    ∙ (ap (λ t. option_map (λ (x : Option (List ℕ)). record { fields = fields_with bytes symbol dll; exported = x }) (exported_in t (name ++ 0 ∷ []))) n
    ∙ ap (option_map (λ (x : Option (List ℕ)). record { fields = fields_with bytes symbol dll; exported = x })) third)

-- what is read of the fields and the third text
imported_by : (bytes symbol dll : List ℕ) (import_type ordinal : ℕ) (no_name : Bool) (third : Option (List ℕ)) → nat_le import_type 2 ≡ true
    → (no_name ≡ true → third ≡ None) → u16_at bytes 6 ≡ 0xA641 → u16_at bytes 16 ≡ ordinal → u16_at bytes 18 % 4 ≡ import_type
    → u16_at bytes 18 / 4 % 8 ≡ name_type_of no_name third
    → imported_by_short_import (record { fields = fields_with bytes symbol dll; exported = third }) ≡ Some (record {
      imports = record { dll = dll; declared = arm64ec_symbols import_type symbol; ask = if no_name then Ordinal ordinal else Name (unwrap_or third symbol) ordinal };
      kind = kind_of_type import_type;
      machine = 0xA641;
    })
imported_by bytes symbol dll import_type ordinal true None small none m o t n = rw (t, small, n, m, o) refl
imported_by bytes symbol dll import_type ordinal false None small none m o t n = rw (t, small, n, m, o) refl
imported_by bytes symbol dll import_type ordinal true (Some name) small none m o t n = absurd (let third : Some name ≡ None = none refl in cc)
imported_by bytes symbol dll import_type ordinal false (Some name) small none m o t n = rw (t, small, m, o) refl

-- what exports have
no_third : (e : ExportView) (symbol : List ℕ) → e.no_name ≡ true → third_text e symbol ≡ None
no_third e symbol n = rw n refl

name_type_small : (no_name : Bool) (third : Option (List ℕ)) → name_type_of no_name third < 8
name_type_small true None = omega arith
name_type_small false None = omega arith
name_type_small no_name (Some name) = omega arith

type_small : (e : ExportView) → (nat_le (import_type_of e) 2 ≡ true) × (import_type_of e < 4)
type_small e = by e.is_data e.constant
  where
    by : (variable constant : Bool) → (nat_le (if variable then 1 else if constant then 2 else 0) 2 ≡ true) × ((if variable then 1 else if constant then 2 else 0) < 4)
    by true constant = (refl, omega arith)
    by false true = (refl, omega arith)
    by false false = (refl, omega arith)

kind_is : (e : ExportView) → kind_of_type (import_type_of e) ≡ expected_kind e
kind_is e = by e.is_data e.constant
  where
    by : (variable constant : Bool) → kind_of_type (if variable then 1 else if constant then 2 else 0) ≡ (if variable then Data else if constant then Const else Code)
    by true constant = refl
    by false true = refl
    by false false = refl

pub short_imports_are_read : ShortImportsAreRead
unfolding short_import_found
short_imports_are_read defined dll e symbol can =
    let r = import_of dll e symbol in
    let bytes = short_import_bytes r in
    let third = third_text e symbol in
    let fields = fields_of r (omega arith) can.ordinal (type_small e).1 (name_type_small e.no_name third) in
    let first : text_in (drop 20 bytes) ≡ Some (symbol, dll_texts dll third ++ 0 ∷ []) =
    ap text_in (texts_of r) ∙ text_in-append symbol (dll_texts dll third ++ 0 ∷ []) can.symbol_free in
    let found : short_import_found bytes ≡ Some (record { fields = fields_with bytes symbol dll; exported = third }) =
    ap (λ (b : Bool). if b then found_from bytes (text_in (drop 20 bytes)) else None) (is_short r can.size)
    ∙ (ap (found_from bytes) first ∙ found_behind bytes symbol dll e.no_name third can.dll_free can.third_free fields.name_type) in
    ap (λ o. class_of_file defined (short_import_or_object o (object_found bytes))) found
    ∙ (ap class_of_import (imported_by bytes symbol dll (import_type_of e) e.ordinal e.no_name third (type_small e).0 (no_third e symbol)
    fields.machine fields.ordinal fields.import_type fields.name_type)
    ∙ (ap (λ symbols. AnImport (record {
      imports = record { dll = dll; declared = symbols; ask = ask_of e symbol };
      kind = kind_of_type (import_type_of e);
      machine = 0xA641;
    })) (same_symbols e symbol)
    ∙ ap (λ kind. AnImport (record { imports = record { dll = dll; declared = import_symbols e symbol; ask = ask_of e symbol }; kind = kind; machine = 0xA641 })) (kind_is e)))
