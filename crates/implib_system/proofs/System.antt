-- What DLLs in memory give.
use Rattle.std.proofs.Common.{◌≡◌, ◌∙◌, ℕ, zero, suc, ◌/◌, Bool, true, false, not, List, Option, None, Some, ap, arith, if◌then◌else◌, length, nat_eq, refl, replicate}
use Rattle.std.proofs.lemmas.List.{length-replicate}
use Rattle.std.specs.Option.{option_and_then, option_map_or}
use Rattle.implib.specs.Import.{Ask}
use Rattle.implib_dll.specs.Exports.{Target, Empty, Address, Forwarder}
use Rattle.implib_compare.specs.DllCheck.Imports.{is_called, is_lost, is_of_data, judged_by}
use Rattle.implib_compare.specs.DllCheck.Verdict.{verdict_of}
use Rattle.implib_compare.specs.declared.dll_check.import.Judgement.TheVariants.{Lost}
use Rattle.implib_compare.specs.declared.dll_check.import.Loss.TheVariants.{OtherDll, OtherMachine}
use Rattle.implib_libraries.specs.FromDll.Laws.{found}
use Rattle.implib_system.specs.Laws.{BytesAreNumbers, FoundImportsAreReached, OneAddress}
use Rattle.implib_system.specs.System.{DllInMemory, address_by, address_of, asked_of, bytes_of, called, forwarded, given, in_dll}

-- bytes: as many as are asked for, and their number

length_bytes : (width number : ℕ) → length (bytes_of width number) ≡ width
unfolding bytes_of
length_bytes zero number = refl
length_bytes (suc width) number = ap suc (length_bytes width (number / 256))

pub length_given : (n width : ℕ) (dlls : List DllInMemory) (name : List ℕ) (ask : Ask) → length (given n width dlls name ask) ≡ width
length_given n width dlls name ask = by (address_of n dlls name ask)
  where
    by : (o : Option ℕ) → length (option_map_or (bytes_of width) o (replicate width 0)) ≡ width
    by None = length-replicate width 0
    by (Some place) = length_bytes width place

pub given_is : (n width : ℕ) (dlls : List DllInMemory) (name : List ℕ) (ask : Ask) (place : ℕ) → address_of n dlls name ask ≡ Some place
    → given n width dlls name ask ≡ bytes_of width place
given_is n width dlls name ask place is = ap (λ o. option_map_or (bytes_of width) o (replicate width 0)) is

pub numbers : BytesAreNumbers
unfolding bytes_of
numbers zero number low = omega (arith, low)
numbers (suc width) number low =
    let rest = numbers width (number / 256) (omega (arith, low)) in
    omega (arith, rest)

-- one address, however many forwarders are followed

pub agree : OneAddress
unfolding address_by
agree m n dlls d Empty place other first second = absurd cc
agree m n dlls d (Address address kind) place other first second = cc
agree zero n dlls d (Forwarder text) place other first second = absurd cc
agree (suc m) zero dlls d (Forwarder text) place other first second = absurd cc
agree (suc m) (suc n) dlls d (Forwarder text) place other first second = by (forwarded dlls text) (agree m n dlls) first second
  where
    by : (f : Option (DllInMemory × Target))
        → ((e : DllInMemory) (target : Target) (p q : ℕ) → address_by m dlls e target ≡ Some p → address_by n dlls e target ≡ Some q → p ≡ q)
        → option_and_then (λ next. address_by m dlls next.0 next.1) f ≡ Some place
        → option_and_then (λ next. address_by n dlls next.0 next.1) f ≡ Some other → place ≡ other
    by None later one two = absurd cc
    by (Some next) later one two = later next.0 next.1 place other one two

-- what is not lost is found

found_by : (is_known fits : Bool) (target : Option Target) (at_once fits_kind : Bool)
    → is_lost (if not is_known then Lost OtherDll else if not fits then Lost OtherMachine
    else judged_by (record { target = target; at_once = at_once; fits_kind = fits_kind })) ≡ false
    → (t : Target) × (target ≡ Some t)
found_by false fits target at_once fits_kind kept = absurd cc
found_by true false target at_once fits_kind kept = absurd cc
found_by true true None at_once fits_kind kept = absurd cc
found_by true true (Some t) at_once fits_kind kept = (t, refl)

asked_is : (dlls : List DllInMemory) (name : List ℕ) (ask : Ask) (d : DllInMemory) (t : Target) → called dlls name ≡ Some d
    → found d.exports ask ≡ Some t → asked_of dlls name ask ≡ Some (d, t)
asked_is dlls name ask d t is at =
    ap (λ o. option_and_then (λ (e : DllInMemory). in_dll e (found e.exports ask)) o) is ∙ ap (in_dll d) at

pub found_reached : FoundImportsAreReached
unfolding address_by
found_reached dlls d names i is kept =
    let e = d.exports in
    let v = verdict_of e i.imports.ask (is_of_data i.kind) in
    let there = found_by (is_called names i.imports.dll) (nat_eq i.machine e.machine) v.target v.at_once v.fits_kind kept in (
      record {
        target = there.0;
        asked = asked_is dlls i.imports.dll i.imports.ask d there.0 is there.1;
        found = there.1;
      },
      λ n address kind at. ap (λ o. option_and_then (λ (next : DllInMemory × Target). address_by n dlls next.0 next.1) o)
          (asked_is dlls i.imports.dll i.imports.ask d (Address address kind) is at),
    )
