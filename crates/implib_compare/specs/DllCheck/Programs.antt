-- What a program asks of the DLLs that it imports from, and whether it is found there. Of an ask an
-- import directory does not say whether it is of data.
use Rattle.std.specs.Prelude.{ℕ, ◌==◌, Bool, true, ◌&&◌, List, length, nat_lt, not}
use Rattle.std.specs.List.{list_any}
use Rattle.implib.specs.Import.{Ask as Asked, Name, Ordinal}
use Rattle.implib_dll.specs.Exports.{Exports}
use Rattle.implib_dll.specs.Imports.{Ask, ByName, ByOrdinal, ImportedDll}
use Rattle.implib_compare.specs.DllCheck.Imports.{is_lost, judged_by}
use Rattle.implib_compare.specs.DllCheck.Verdict.{verdict_of}
use Rattle.implib_compare.specs.declared.dll_check.import.Judgement.{Judgement}

-- an ask of an import directory, as libraries ask
abbrev pub asked_by : Ask → Asked
asked_by (ByName text hint) = Name text hint
asked_by (ByOrdinal ordinal) = Ordinal ordinal

-- What an ask comes to: a loader finds it at once, by a search, or not at all.
abbrev pub judged_ask : Exports → Ask → Judgement
judged_ask e ask = judged_by (verdict_of e (asked_by ask) true)

-- whether something is asked for; a loader leaves out a DLL of which nothing is
abbrev pub is_asked : ImportedDll → Bool
is_asked i = nat_lt 0 (length i.asks)

-- Whether a loader finds all that a program for a machine asks of a DLL.
abbrev pub finds_all : Exports → ℕ → List Ask → Bool
finds_all e machine asks =
    (machine == e.machine) && not (list_any (λ ask. is_lost (judged_ask e ask)) asks)
