-- What the imports of a library come to in a DLL. An import is lost where it is of another DLL or
-- for another machine, where a loader finds nothing for what it asks, or where data is imported as
-- a function.
use Rattle.std.specs.Prelude.{ℕ, ◌==◌, Bool, true, false, List, Option, None, Some, bytes_eq}
use Rattle.std.specs.Prelude.{if◌then◌else◌, is_none, map, not}
use Rattle.std.specs.List.{filter_map, list_any}
use Rattle.std.specs.Option.{option_and_then, option_map_or}
use Rattle.implib.specs.Import.{Ask}
use Rattle.implib_dll.specs.Exports.{Exports}
use Rattle.implib_compare.specs.DllCheck.DllName.{loader_name}
use Rattle.implib_compare.specs.DllCheck.Verdict.{Verdicts, verdict_of}
use Rattle.implib_compare.specs.declared.dll_check.import.Judgement.{Judgement}
use Rattle.implib_compare.specs.declared.dll_check.import.Judgement.TheVariants.{NoImport, Reached}
use Rattle.implib_compare.specs.declared.dll_check.import.Judgement.TheVariants.{Searched, Lost}
use Rattle.implib_compare.specs.declared.dll_check.import.Loss.TheVariants.{OtherDll, OtherMachine}
use Rattle.implib_compare.specs.declared.dll_check.import.Loss.TheVariants.{NotFound, DataAsFunction}
use Rattle.implib_read.specs.Classes.{Class, AnImport, AnAlias, Descriptor, NullDescriptor}
use Rattle.implib_read.specs.Classes.{NullThunk, Head, Tail, DelayImport, Other, NotUnderstood}
use Rattle.implib_read.specs.Classes.{Imported, MemberRead}
use Rattle.implib_read.specs.declared.import.ImportKind.{ImportKind}
use Rattle.implib_read.specs.declared.import.ImportKind.TheVariants.{Code, CodeOrConst, Const, Data}
use Rattle.implib_read.specs.declared.import.ImportKind.TheVariants.{Delayed}

-- whether an import is of data: a constant is, too, whose symbol stands for its address
abbrev pub is_of_data : ImportKind → Bool
is_of_data Code = false
is_of_data CodeOrConst = false
is_of_data Delayed = false
is_of_data Data = true
is_of_data Const = true

-- whether a loader knows a DLL by one of these names
abbrev pub is_called : List (List ℕ) → List ℕ → Bool
is_called names dll = list_any (λ name. bytes_eq (loader_name dll) name) names

-- what an import comes to that a loader looks up
abbrev pub judged_by : Verdicts → Judgement
judged_by v =
    if is_none v.target then Lost NotFound
    else if not v.fits_kind then Lost DataAsFunction
    else if v.at_once then Reached
    else Searched

-- What an import comes to in a DLL that loaders know by these names.
abbrev pub judged : Exports → List (List ℕ) → Imported → Judgement
judged e names i =
    if not (is_called names i.imports.dll) then Lost OtherDll
    else if not (i.machine == e.machine) then Lost OtherMachine
    else judged_by (verdict_of e i.imports.ask (is_of_data i.kind))

-- the import of a member, if it is one
abbrev pub import_in : Class → Option Imported
import_in (AnImport i) = Some i
import_in (AnAlias a) = None
import_in Descriptor = None
import_in NullDescriptor = None
import_in NullThunk = None
import_in Head = None
import_in Tail = None
import_in DelayImport = None
import_in Other = None
import_in NotUnderstood = None

-- What a member comes to.
abbrev pub judged_member : Exports → List (List ℕ) → MemberRead → Judgement
judged_member e names m = option_map_or (judged e names) (import_in m.class) NoImport

-- What the members of a library come to, in order.
abbrev pub judgements : Exports → List (List ℕ) → List MemberRead → List Judgement
judgements e names members = map (judged_member e names) members

-- kinds of judgements
abbrev pub is_lost : Judgement → Bool
is_lost NoImport = false
is_lost Reached = false
is_lost Searched = false
is_lost (Lost loss) = true

abbrev pub is_searched : Judgement → Bool
is_searched NoImport = false
is_searched Reached = false
is_searched Searched = true
is_searched (Lost loss) = false

abbrev pub is_import : Judgement → Bool
is_import NoImport = false
is_import Reached = true
is_import Searched = true
is_import (Lost loss) = true

-- what a member asks a DLL for that loaders know by these names, if it does
abbrev pub ask_of_called : List (List ℕ) → Imported → Option Ask
ask_of_called names i = if is_called names i.imports.dll then Some i.imports.ask else None

-- What the members of a library ask a DLL for that loaders know by these names, in order.
abbrev pub asks_in : List (List ℕ) → List MemberRead → List Ask
asks_in names members =
    filter_map (λ m. option_and_then (ask_of_called names) (import_in m.class)) members
