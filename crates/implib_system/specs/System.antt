-- DLLs in memory, and the addresses that they give for what a program asks (the loader of Wine,
-- `dlls/ntdll/loader.c`:
-- load_dll, find_ordinal_export, find_named_export, find_forwarded_export).
use Rattle.std.specs.Prelude.{ℕ, zero, suc, ◌+◌, ◌/◌, ◌%◌, List, [], ◌∷◌, Option, None, Some}
use Rattle.std.specs.Prelude.{bytes_eq, if◌then◌else◌, replicate}
use Rattle.std.specs.Option.{option_and_then, option_map, option_map_or}
use Rattle.implib.specs.Import.{Ask}
use Rattle.implib_dll.specs.Exports.{Exports, Target, Empty, Address, Forwarder}
use Rattle.implib_compare.specs.DllCheck.DllName.{loader_name}
use Rattle.implib_compare.specs.DllCheck.Forwarding.{found_behind, split_last}
use Rattle.implib_libraries.specs.FromDll.Laws.{found}

-- a DLL in memory: the name by which a loader knows it, its base, and what it exports
pub record DllInMemory : Type 0 where
  pub name : List ℕ
  pub base : ℕ
  pub exports : Exports

-- the DLL that a loader knows by a name, the first one
abbrev pub called : List DllInMemory → List ℕ → Option DllInMemory
called [] name = None
called (d ∷ dlls) name = if bytes_eq (loader_name name) d.name then Some d else called dlls name

-- a target of a DLL
abbrev pub in_dll : DllInMemory → Option Target → Option (DllInMemory × Target)
in_dll d target = option_map (λ t. (d, t)) target

-- The export that a forwarder leads to: the DLL of the name before its last full stop, and the
-- target there.
abbrev pub forwarded : List DllInMemory → List ℕ → Option (DllInMemory × Target)
forwarded dlls text = option_and_then
    (λ parts. option_and_then (λ d. in_dll d (found_behind d.exports parts.1))
    (called dlls parts.0)) (split_last text)

-- The address of a target of a DLL, where at most a number of forwarders are followed. A circle of
-- forwarders has none.
unfoldable pub address_by : ℕ → List DllInMemory → DllInMemory → Target → Option ℕ
address_by n dlls d Empty = None
address_by n dlls d (Address address kind) = Some (d.base + address)
address_by zero dlls d (Forwarder text) = None
address_by (suc n) dlls d (Forwarder text) =
    option_and_then (λ next. address_by n dlls next.0 next.1) (forwarded dlls text)

-- the export that a program asks for: the DLL of the name, and the target there
abbrev pub asked_of : List DllInMemory → List ℕ → Ask → Option (DllInMemory × Target)
asked_of dlls name ask = option_and_then (λ d. in_dll d (found d.exports ask)) (called dlls name)

-- The address that a program reaches by an ask, where at most a number of forwarders are followed.
abbrev pub address_of : ℕ → List DllInMemory → List ℕ → Ask → Option ℕ
address_of n dlls name ask =
    option_and_then (λ next. address_by n dlls next.0 next.1) (asked_of dlls name ask)

-- a number as so many bytes, the lowest first
unfoldable pub bytes_of : ℕ → ℕ → List ℕ
bytes_of zero number = []
bytes_of (suc width) number = number % 256 ∷ bytes_of width (number / 256)

-- What DLLs in memory give for an ask, in so many bytes: the address that it reaches, and zeros
-- where there is none.
abbrev pub given : ℕ → ℕ → List DllInMemory → List ℕ → Ask → List ℕ
given n width dlls name ask =
    option_map_or (bytes_of width) (address_of n dlls name ask) (replicate width 0)
