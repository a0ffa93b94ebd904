-- What the imports that are made of a DLL come to, looked up in the DLL as a loader does.
use Rattle.std.specs.Prelude.{◌≡◌, ℕ, ◌<◌, ◌≤◌, ◌^◌, true, List, map, length, All, Contains, Option}
use Rattle.std.specs.Prelude.{Some, slice_get, if◌then◌else◌, option_map}
use Rattle.std.specs.Option.{is_some, option_and_then}
use Rattle.implib.specs.Definition.{ExportView}
use Rattle.implib.specs.Import.{Ask, Ordinal, Name}
use Rattle.implib_dll.specs.Exports.{Exports, NameEntry, Target}
use Rattle.implib_dll.specs.Lookup.{by_name, by_ordinal, ordinal_index, position_of, target_at}
use Rattle.implib_dll.specs.Lookup.{text_at}
use Rattle.implib_libraries.specs.FromDll.Definition.{exports_of}

-- what is asked of the DLL for an export: its ordinal, or its word with its hint
abbrev pub ask_of : ExportView → Ask
ask_of e = if e.no_name then Ordinal e.ordinal else Name e.name e.ordinal

-- what is asked of a DLL for its exports
abbrev pub asks_of : Exports → List Ask
asks_of e = map ask_of (exports_of e)

-- what a loader finds for an ask
abbrev pub found : Exports → Ask → Option Target
found e (Ordinal ordinal) = by_ordinal e ordinal
found e (Name name hint) = by_name e name hint

-- the index of the export address table that a loader comes to for an ask
abbrev pub index_found : Exports → Ask → Option ℕ
index_found e (Ordinal ordinal) = Some (ordinal_index e.base ordinal)
index_found e (Name name hint) =
    option_and_then (λ position. option_map (λ n. n.index) (slice_get e.names position))
    (position_of e.names name hint)

-- A loader needs no search for an ask: the name stands at its hint.
abbrev pub NeedsNoSearch : Exports → Ask → Type 0
NeedsNoSearch e (Ordinal ordinal) = Unit {0}
NeedsNoSearch e (Name name hint) = text_at e.names hint ≡ Some name

-- An ask is in a DLL, and found without a search.
pub record IsFoundAtOnce (e : Exports) (ask : Ask) : Type 0 where
  pub is_found : is_some (found e ask) ≡ true
  pub at_once : NeedsNoSearch e ask

-- the numbers of a DLL fit their fields; what is read has such
pub record Fits (e : Exports) : Type 0 where
  pub base : e.base < 2 ^ 32
  pub targets : length e.targets ≤ 2 ^ 32

-- Each ask of the imports is in the DLL, and found without a search, whatever the order of names.
abbrev pub AsksAreFound : Type 0
AsksAreFound = (e : Exports) → Fits e → All (IsFoundAtOnce e) (asks_of e)

-- a name is asked for, with its position as the hint, and leads to the target of its index
pub record IsAsked (e : Exports) (position : ℕ) (name : NameEntry) : Type 0 where
  pub asked : Contains (asks_of e) (Name name.text position)
  pub leads : by_name e name.text position ≡ target_at e.targets name.index

-- Each name of the table that leads to a target is asked for.
abbrev pub NamesAreAsked : Type 0
NamesAreAsked = (e : Exports) (position : ℕ) (name : NameEntry) (target : Target)
    → slice_get e.names position ≡ Some name → target_at e.targets name.index ≡ Some target
    → IsAsked e position name

-- an index is come to for an ask
pub record IsReached (e : Exports) (index : ℕ) : Type 0 where
  pub ask : Ask
  pub among : Contains (asks_of e) ask
  pub leads : index_found e ask ≡ Some index

-- Each index that has a target is come to.
abbrev pub ExportsAreAsked : Type 0
ExportsAreAsked = (e : Exports) (index : ℕ) (target : Target) → Fits e
    → target_at e.targets index ≡ Some target → IsReached e index
