-- The import that an export's short import stands for.
use Rattle.std.proofs.Common.{◌≡◌, ℕ, ◌<◌, ◌≤◌, ◌^◌, Bool, true, false, if◌then◌else◌, nat_le, nat_lt, List, [], ◌∷◌, Option, None, Some, refl, ap, arith}
use Rattle.std.specs.Prelude.{◌==◌, bytes_eq, is_some, unwrap_or}
use Rattle.std.proofs.lemmas.Bool.Decides.{nat_tests}
use Rattle.std.proofs.lemmas.Bool.{eqb-true, le-leb, ltb-true}
use Rattle.implib.specs.declared.flavor.Flavor.TheVariants.{Msvc}
use Rattle.implib.specs.declared.machine.MachineType.{MachineType}
use Rattle.implib.specs.declared.machine.MachineType.TheVariants.{I386, ARMNT, AMD64, ARM64}
use Rattle.implib.specs.Definition.{ExportView}
use Rattle.implib.specs.Import.{Ordinal, Name, holds, underscore, import_symbols, expected_import, expected_ask}
use Rattle.implib.specs.Underscore.{asked_name}
use Rattle.implib.specs.Ascii.{begins_with, without_first}
use Rattle.implib.specs.Machine.{machine_number}
use Rattle.implib.specs.Members.Msvc.{asked_by_short_import, short_import_of, symbol_or_name, import_type_of, name_type_of}
use Rattle.implib.specs.Members.ReadBack.{FitsShortImport, import_written, ask_written}
use Rattle.implib.specs.Formats.ShortImport.{ShortImport, import_of_short_import, asked_by_name_type, import_ordinal, import_name_undecorate, import_code, import_data, import_const, without_prefix}
use Rattle.std.proofs.lemmas.Slice.Eq.{bytes_eq-Decides}
use Rattle.implib.proofs.Members.NotRefused.{AsksNoOther, given_asked}

machine_number_fits : (machine : MachineType) → machine_number machine < 2 ^ 16
machine_number_fits I386 = omega arith
machine_number_fits ARMNT = omega arith
machine_number_fits AMD64 = omega arith
machine_number_fits ARM64 = omega arith

import_type_of_fits : (e : ExportView) → import_type_of e ≤ import_const
import_type_of_fits e = grind arith

pub name_type_of_fits : (machine : MachineType) (e : ExportView) → name_type_of machine e ≤ import_name_undecorate
name_type_of_fits machine e = grind arith

pub symbol_without_nul : (symbol name : List ℕ) → holds 0 symbol ≡ false → holds 0 name ≡ false → holds 0 (symbol_or_name symbol name) ≡ false
symbol_without_nul [] name symbol_free name_free = name_free
symbol_without_nul (b ∷ symbol) name symbol_free name_free = symbol_free

-- the short import of an export without NULs has room for its fields
pub FitsShortImport-short_import_of : (machine : MachineType) (dll : List ℕ) (e : ExportView) → holds 0 e.name ≡ false → holds 0 e.symbol_name ≡ false →
    holds 0 dll ≡ false → nat_lt e.ordinal 0x1_0000 ≡ true → FitsShortImport (short_import_of machine dll e)
FitsShortImport-short_import_of machine dll e name_free symbol_free dll_free ordinal = grind (arith, machine_number_fits, ltb-true, import_type_of_fits, name_type_of_fits, symbol_without_nul)

-- a short import whose types have a meaning stands for the import that they say
import_by_types : (r : ShortImport) (is_data no_name : Bool) → nat_le r.import_type import_const ≡ true → nat_le r.name_type import_name_undecorate ≡ true →
    (r.import_type == import_data) ≡ is_data → (r.name_type == import_ordinal) ≡ no_name →
    import_of_short_import r ≡ Some record {
      dll = r.dll;
      declared = import_symbols is_data r.symbol;
      ask = if no_name then Ordinal r.ordinal else Name (asked_by_name_type r.name_type r.symbol) r.ordinal;
    }
import_by_types r is_data no_name import_type name_type data' ordinal = rw (import_type, name_type, data', ordinal) refl

pub import_type_is_data : (is_data constant : Bool) → ((if is_data then import_data else if constant then import_const else import_code) == import_data) ≡ is_data
import_type_is_data true constant = refl
import_type_is_data false true = refl
import_type_is_data false false = refl

pub name_type_is_ordinal : (machine : MachineType) (e : ExportView) → (name_type_of machine e == import_ordinal) ≡ e.no_name
name_type_is_ordinal machine e = grind (arith, nat_tests)

-- the import that the short import of an export stands for
pub import_of_short_import-short_import_of : (machine : MachineType) (dll : List ℕ) (e : ExportView) → import_of_short_import (short_import_of machine dll e) ≡ Some (import_written machine dll e)
import_of_short_import-short_import_of machine dll e = grind (arith, import_by_types, le-leb, import_type_of_fits, name_type_of_fits, import_type_is_data, name_type_is_ordinal)

without_prefix-underscore : (name : List ℕ) → begins_with underscore name ≡ true → without_prefix name ≡ without_first name
without_prefix-underscore [] begins = cc
without_prefix-underscore (b ∷ name) begins = let same : b ≡ underscore = eqb-true b underscore begins in rw same refl

-- by its name type, the short import of an export without a symbol name asks for what is expected
asked-expected : (machine : MachineType) (e : ExportView) → e.symbol_name ≡ [] → e.no_name ≡ false → is_some e.asked_name ≡ false → bytes_eq e.name e.name ≡ true →
    asked_by_short_import machine e ≡ asked_name machine e.name
asked-expected machine e plain named own same = grind (arith, nat_tests, without_prefix-underscore e.name, plain, named, own, same)

-- and with a name that it gives, for that one
name_expected : (machine : MachineType) (e : ExportView) (given : Option (List ℕ)) → e.symbol_name ≡ [] → AsksNoOther Msvc machine e → e.no_name ≡ false → e.asked_name ≡ given →
    asked_by_short_import machine e ≡ unwrap_or given (asked_name machine e.name)
name_expected machine e None plain asks named is = asked-expected machine e plain named (ap is_some is) ((bytes_eq-Decides e.name e.name).1 refl)
name_expected machine e (Some name) plain asks named is = given_asked Msvc machine e name asks is named

same_ask : (no_name : Bool) (ordinal : ℕ) (written expected : List ℕ) → (no_name ≡ false → written ≡ expected) →
    (if no_name then Ordinal ordinal else Name written ordinal) ≡ (if no_name then Ordinal ordinal else Name expected ordinal)
same_ask true ordinal written expected same = refl
same_ask false ordinal written expected same = ap (λ x. Name x ordinal) (same refl)

-- an export without a symbol name, and with no other name than it gives, asks for what it means to ask for
pub ask_written-expected : (machine : MachineType) (e : ExportView) → e.symbol_name ≡ [] → AsksNoOther Msvc machine e → ask_written machine e ≡ expected_ask machine e
ask_written-expected machine e plain asks = grind (arith, same_ask, name_expected)

-- and its short import stands for the import that it means
pub import_written-expected : (machine : MachineType) (dll : List ℕ) (e : ExportView) → e.symbol_name ≡ [] → AsksNoOther Msvc machine e →
    import_written machine dll e ≡ expected_import machine dll e
import_written-expected machine dll e plain asks = grind (arith, ask_written-expected)
