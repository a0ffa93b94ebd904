-- Forwarders worked by hand: of `w.dll`, whose gamma, at ordinal 8, is forwarded to `K.f`, beside
-- `k.dll`, which forwards f by an ordinal to `Deep.Name.drv`; that, which has a function and a
-- variable; `round.dll`, whose exports are forwarded in a circle and to what is not there; and DLLs
-- that no folder has, that are refused, that export nothing, and for another machine.
use Rattle.std.specs.Prelude.{◌≡◌, ℕ, true, false, List, [], ◌∷◌, None, Some, codes}
use Rattle.implib.specs.Import.{Name, Ordinal}
use Rattle.implib_dll.specs.Exports.{Address, Empty, Exports, Forwarder}
use Rattle.implib_dll.specs.WorkedFiles.{named, worked_exports}
use Rattle.implib_dll.specs.declared.section.AddressKind.TheVariants.{Code as OfCode}
use Rattle.implib_dll.specs.declared.section.AddressKind.TheVariants.{Data as OfData}
use Rattle.implib_compare.specs.DllCheck.Forwarding.{NoFile, Refused, NoExports, Holds, End, Arrives}
use Rattle.implib_compare.specs.DllCheck.Forwarding.{Stops, Unknown, Beside, Known, end_by, end_of}
use Rattle.implib_compare.specs.DllCheck.Forwarding.{found_behind, known_by, known_in}
use Rattle.implib_compare.specs.DllCheck.Forwarding.{number_of, split_last}
use Rattle.implib_compare.specs.DllCheck.WorkedImports.{import_of, known}
use Rattle.implib_compare.specs.declared.dll_check.forwarder.Stop.TheVariants as stop
use Rattle.implib_read.specs.declared.import.ImportKind.TheVariants.{Code}

abbrev pub k_exports : Exports
k_exports = record worked_exports {
  base = 1;
  targets = Forwarder (codes "Deep.Name.drv.#7") ∷ [];
  names = named (codes "f") 0 ∷ [];
}

abbrev pub deep_exports : Exports
deep_exports = record worked_exports
    { base = 6; targets = Empty ∷ Address 0x1040 OfCode ∷ Address 0x2000 OfData ∷ []; names = [] }

abbrev pub round_exports : Exports
round_exports = record worked_exports {
  base = 1;
  targets = Forwarder (codes "round.b") ∷ Forwarder (codes "ROUND.a") ∷ Forwarder (codes "k.f")
      ∷ [];
  names = named (codes "a") 0 ∷ named (codes "b") 1 ∷ named (codes "c") 2 ∷ [];
}

abbrev pub other_exports : Exports
other_exports = record k_exports { machine = 0x8664 }

abbrev pub others : List Known
others =
    record { name = codes "k.dll"; content = Holds k_exports }
    ∷ record { name = codes "deep.name.drv"; content = Holds deep_exports }
    ∷ record { name = codes "round.dll"; content = Holds round_exports }
    ∷ record { name = codes "gone.dll"; content = NoFile }
    ∷ record { name = codes "bad.dll"; content = Refused }
    ∷ record { name = codes "empty.dll"; content = NoExports }
    ∷ record { name = codes "other.dll"; content = Holds other_exports }
    -- of two of one name the first counts
    ∷ record { name = codes "k.dll"; content = NoFile } ∷ []

abbrev pub beside : Beside
beside = record { exports = worked_exports; names = known; others = known_in others }

-- where a forwarder leads, where at most a number are followed, for an import of code, and for one
-- of data
abbrev pub for_code : ℕ → List ℕ → End
for_code n text = end_by n (known_by beside) 0x14C false text

abbrev pub for_data : ℕ → List ℕ → End
for_data n text = end_by n (known_by beside) 0x14C true text

-- the same where nothing is known of other DLLs
abbrev pub beside_none : Beside
beside_none = record beside { others = λ name. None }

pub record WorkedForwarding : Type 0 where
  -- texts
  pub last_stop : split_last (codes "a.b.c") ≡ Some (codes "a.b", codes "c")
  pub first_stop : split_last (codes ".c") ≡ Some ([], codes "c")
  pub at_end : split_last (codes "a.b.") ≡ Some (codes "a.b", [])
  pub no_stop : split_last (codes "abc") ≡ None
  pub number : number_of (codes "107x") ≡ 107
  pub no_number : number_of (codes "x") ≡ 0
  -- what is asked for: by an ordinal, and by names that are almost ordinals
  pub by_ordinal : found_behind deep_exports (codes "#7") ≡ Some (Address 0x1040 OfCode)
  pub hole : found_behind deep_exports (codes "#6") ≡ None
  pub past : found_behind deep_exports (codes "#9") ≡ None
  pub no_hash : found_behind deep_exports (codes "7") ≡ None
  pub nothing : found_behind deep_exports [] ≡ None
  -- a forwarder that leads to a function through two DLLs, and to its own DLL, in letters of any
  -- case
  pub through_two : for_code 2 (codes "K.f") ≡ Arrives
  pub through_three : for_code 3 (codes "round.c") ≡ Arrives
  pub to_itself : for_code 1 (codes "W.alpha") ≡ Arrives
  pub through_itself : for_code 3 (codes "w.dll.gamma") ≡ Arrives
  -- too few are followed
  pub one_of_two : for_code 1 (codes "K.f") ≡ Stops (codes "Deep.Name.drv.#7") stop.Endless
  -- data as data, and a function as data
  pub to_data : for_data 1 (codes "deep.name.drv.#8") ≡ Arrives
  pub code_as_data : for_data 2 (codes "K.f") ≡ Arrives
  -- to nothing
  pub circle : for_code 50 (codes "round.a") ≡ Stops (codes "ROUND.a") stop.Endless
  pub no_such_ordinal : for_code 9 (codes "k.#2") ≡ Stops (codes "k.#2") stop.NotExported
  pub to_hole : for_code 9 (codes "w.#7") ≡ Stops (codes "w.#7") stop.NotExported
  -- another ending is another DLL, of which nothing is known
  pub unknown : for_code 9 (codes "k.drv.f") ≡ Unknown (codes "k.drv")
  pub not_known : end_of beside_none (import_of (codes "w.dll") (Ordinal 8) Code 0x14C)
      ≡ Some (Unknown (codes "K"))
