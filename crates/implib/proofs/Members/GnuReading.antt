-- What GNU `ld` asks the DLL for by a short import, and lld.
use Rattle.std.proofs.Common.{◌≡◌, ◌≤◌, ℕ, Bool, true, false, List, [], ap, arith, bytes_eq, if◌then◌else◌, inl, inr, refl, suc, zero}
use Rattle.std.specs.Prelude.{◌==◌, ◌&&◌, not}
use Rattle.std.proofs.lemmas.Bool.{cases_Bool}
use Rattle.std.proofs.lemmas.Slice.Eq.{bytes_eq-Decides}
use Rattle.implib.specs.declared.machine.MachineType.{MachineType}
use Rattle.implib.specs.declared.machine.MachineType.TheVariants.{I386, ARMNT, AMD64, ARM64}
use Rattle.implib.specs.Ascii.{begins_with}
use Rattle.implib.specs.Asked.{LinkersAskAlike}
use Rattle.implib.specs.Definition.{ExportView}
use Rattle.implib.specs.Formats.GnuReading.{ask_by_gnu, without_prefix_by_gnu}
use Rattle.implib.specs.Formats.ShortImport.{ask_of_short_import, before_at_sign, without_prefix}
use Rattle.implib.specs.Import.{Name, Ordinal, underscore}
use Rattle.implib.specs.Machine.{has_leading_underscore}
use Rattle.implib.specs.Members.Msvc.{name_type_asking, name_type_of, short_import_of, short_import_symbol, symbol_or_name}

-- by ordinal, or by the whole symbol, nothing depends on what is cut
uncut : (n ordinal : ℕ) (symbol this that : List ℕ) → n ≤ 1
    → (if n == 0 then Ordinal ordinal else Name (if n == 1 then symbol else this) ordinal)
    ≡ (if n == 0 then Ordinal ordinal else Name (if n == 1 then symbol else that) ordinal)
uncut zero ordinal symbol this that small = refl
uncut (suc zero) ordinal symbol this that small = refl
uncut (suc (suc n)) ordinal symbol this that small = absurd (omega (arith, small))

-- where symbols have no underscore, such is the name type of an export that gives no symbol name, if
-- its symbol begins with an underscore
by_tests : (no given decorated same led : Bool) (name cut : ℕ) → same ≡ true
    → name ≤ 1
    → (if no then 0 else if given then name else if decorated then 1 else if not same then 3 else if false && led then cut else 1) ≤ 1
by_tests true given decorated same led name cut is one = omega arith
by_tests false true decorated same led name cut is one = omega (arith, one)
by_tests false false true same led name cut is one = omega arith
by_tests false false false true led name cut is one = omega arith
by_tests false false false false led name cut is one = cc

one_of : (b : Bool) → (if b then 1 else 1) ≤ 1
one_of true = omega arith
one_of false = omega arith

same_name : (e : ExportView) → e.symbol_name ≡ [] → bytes_eq (short_import_symbol e) e.name ≡ true
same_name e plain = (bytes_eq-Decides (short_import_symbol e) e.name).1 (ap (λ s. symbol_or_name s e.name) plain)

-- nothing is cut of a symbol that linkers cut in two ways
whole_asking : (machine : MachineType) (symbol name : List ℕ) → has_leading_underscore machine ≡ false → begins_with underscore symbol ≡ true
    → name_type_asking machine symbol name ≤ 1
whole_asking machine symbol name none led = rw (none, led) (one_of (bytes_eq symbol name))

whole_on : (machine : MachineType) (e : ExportView) → has_leading_underscore machine ≡ false → e.symbol_name ≡ [] → begins_with underscore (short_import_symbol e) ≡ true
    → name_type_of machine e ≤ 1
whole_on I386 e none plain led = cc
whole_on ARMNT e none plain led = grind (arith, by_tests, same_name, whole_asking)
whole_on AMD64 e none plain led = grind (arith, by_tests, same_name, whole_asking)
whole_on ARM64 e none plain led = grind (arith, by_tests, same_name, whole_asking)

and_false : (b : Bool) (x y : List ℕ) → (if b && false then x else y) ≡ y
and_false true x y = refl
and_false false x y = refl

-- on I386 both take off the same prefixes
prefix_on_i386 : (symbol : List ℕ) → without_prefix_by_gnu 0x14C symbol ≡ without_prefix symbol
prefix_on_i386 symbol = and_false (begins_with underscore symbol) symbol (without_prefix symbol)

same_prefix : (machine : ℕ) (symbol : List ℕ) → begins_with underscore symbol ≡ false → without_prefix_by_gnu machine symbol ≡ without_prefix symbol
same_prefix machine symbol other = rw other refl

cut_alike : (n ordinal : ℕ) (symbol this that : List ℕ) → this ≡ that
    → (if n == 0 then Ordinal ordinal else Name (if n == 1 then symbol else if n == 2 then this else before_at_sign this) ordinal)
    ≡ (if n == 0 then Ordinal ordinal else Name (if n == 1 then symbol else if n == 2 then that else before_at_sign that) ordinal)
cut_alike n ordinal symbol this that same = ap (λ x. if n == 0 then Ordinal ordinal else Name (if n == 1 then symbol else if n == 2 then x else before_at_sign x) ordinal) same

alike_without : (machine : MachineType) (dll : List ℕ) (e : ExportView) → has_leading_underscore machine ≡ false → e.symbol_name ≡ []
    → ask_by_gnu (short_import_of machine dll e) ≡ ask_of_short_import (short_import_of machine dll e)
alike_without machine dll e none plain = grind (arith, cases_Bool, uncut, whole_on, cut_alike, same_prefix)

alike_on_i386 : (dll : List ℕ) (e : ExportView)
    → ask_by_gnu (short_import_of I386 dll e) ≡ ask_of_short_import (short_import_of I386 dll e)
alike_on_i386 dll e = grind (arith, cut_alike, prefix_on_i386)

pub linkers_ask_alike : LinkersAskAlike
linkers_ask_alike I386 dll e why = alike_on_i386 dll e
linkers_ask_alike ARMNT dll e (inl plain) = alike_without ARMNT dll e refl plain
linkers_ask_alike ARMNT dll e (inr led) = cc
linkers_ask_alike AMD64 dll e (inl plain) = alike_without AMD64 dll e refl plain
linkers_ask_alike AMD64 dll e (inr led) = cc
linkers_ask_alike ARM64 dll e (inl plain) = alike_without ARM64 dll e refl plain
linkers_ask_alike ARM64 dll e (inr led) = cc
