-- A short import with a third text is read as the import of its export.
use Rattle.std.proofs.Common.{◌≡◌, ◌∙◌, ℕ, ◌+◌, ◌*◌, ◌<◌, ◌≤◌, ◌^◌, Bool, true, List, [], ◌∷◌, ◌++◌, None, Some, ap, append_assoc, arith, drop, if◌then◌else◌, nat_le, refl}
use Rattle.std.specs.Prelude.{◌==◌, ◌&&◌}
use Rattle.std.proofs.lemmas.Nat.{from_le_bytes-to_le_bytes_2}
use Rattle.implib.specs.declared.machine.MachineType.{MachineType}
use Rattle.implib.specs.Definition.{ExportView}
use Rattle.implib.specs.Formats.Bytes.{u16_bytes, u32_bytes}
use Rattle.implib.specs.Formats.Object.{u16_at, u32_at}
use Rattle.implib.specs.Formats.ShortImport.{ShortImport, import_data, is_short_import, short_import_header_size, text_in}
use Rattle.implib.specs.Import.{Name, import_symbols}
use Rattle.implib.specs.Machine.{machine_number}
use Rattle.implib.specs.Members.Msvc.{import_type_of, short_import_bytes, short_import_size, short_import_symbol}
use Rattle.implib.proofs.Members.ShortImport.{length-short_import_bytes, text_in-append}
use Rattle.implib_rules.specs.ExportAs.{ExportAsRead, export_as_after_dll, export_as_after_symbol, export_as_import, export_as_of}
use Rattle.implib_rules.specs.WorkedExportAs.{ExportAsReads}

is_short : (r : ShortImport) → short_import_size r ≤ 0xFFFF_FFFF → is_short_import (short_import_bytes r) ≡ true
unfolding u16_at u16_bytes u32_bytes u32_at
is_short r fits = grind (arith, length-short_import_bytes r)

-- the types' number says what is data
types_tell : (e : ExportView) (n : ℕ) → n ≡ import_type_of e + 4 * 4
    → ((n == 4 * 4 + import_data) ≡ e.is_data) × ((nat_le 16 n ≡ true) × (nat_le n 18 ≡ true))
types_tell e n is = grind arith

type_small : (e : ExportView) → import_type_of e + 4 * 4 < 2 ^ 16
type_small e = grind arith

machine_small : (machine : MachineType) → machine_number machine < 2 ^ 16
machine_small machine = grind arith

abbrev read_as : ℕ → ℕ → List ℕ → List ℕ → List ℕ → Bool → ExportAsRead
read_as machine ordinal symbol dll name variable = record {
  machine = machine;
  symbol = symbol;
  import = record { dll = dll; declared = import_symbols variable symbol; ask = Name name ordinal };
}

same_read : (machine machine' ordinal ordinal' : ℕ) (symbol dll name : List ℕ) (d d' : Bool) → machine ≡ machine' → ordinal ≡ ordinal' → d ≡ d'
    → Some (read_as machine ordinal symbol dll name d) ≡ Some (read_as machine' ordinal' symbol dll name d')
same_read machine machine' ordinal ordinal' symbol dll name d d' m o is = rw (m, o, is) refl

pub export_as_reads : ExportAsReads
unfolding u16_at u32_at u16_bytes u32_bytes
export_as_reads machine dll e name symbol_free dll_free name_free ordinal fits =
    let r = export_as_import machine dll e name in
    let bytes = short_import_bytes r in
    let types : u16_at bytes 18 ≡ import_type_of e + 4 * 4 = from_le_bytes-to_le_bytes_2 (import_type_of e + 4 * 4) (type_small e) in
    let told = types_tell e (u16_at bytes 18) types in
    let is : (is_short_import bytes && nat_le 16 (u16_at bytes 18) && nat_le (u16_at bytes 18) 18) ≡ true =
    rw (is_short r fits, told.1.0, told.1.1) refl in
    let last = dll ++ 0 ∷ (name ++ 0 ∷ []) in
    let first : text_in (drop short_import_header_size bytes) ≡ Some (short_import_symbol e, (dll ++ 0 ∷ name) ++ 0 ∷ []) =
    text_in-append (short_import_symbol e) ((dll ++ 0 ∷ name) ++ 0 ∷ []) symbol_free in
    let second : text_in ((dll ++ 0 ∷ name) ++ 0 ∷ []) ≡ Some (dll, name ++ 0 ∷ []) =
    ap text_in (append_assoc dll (0 ∷ name) (0 ∷ [])) ∙ text_in-append dll (name ++ 0 ∷ []) dll_free in
    let third : text_in (name ++ 0 ∷ []) ≡ Some (name, []) = text_in-append name [] name_free in
    ap (λ test. if test then export_as_after_symbol bytes (text_in (drop short_import_header_size bytes)) else None) is
    ∙ ap (export_as_after_symbol bytes) first
    ∙ ap (export_as_after_dll bytes (short_import_symbol e)) second
    ∙ ap (export_as_of bytes (short_import_symbol e) dll) third
    ∙ same_read (u16_at bytes 6) (machine_number machine) (u16_at bytes 16) e.ordinal (short_import_symbol e) dll name (u16_at bytes 18 == 4 * 4 + import_data) e.is_data
    (from_le_bytes-to_le_bytes_2 (machine_number machine) (machine_small machine)) (from_le_bytes-to_le_bytes_2 e.ordinal ordinal) told.0
