-- What a loader finds for an import of a DLL.
use Rattle.std.specs.Prelude.{ℕ, Bool, true, false, List, Option, None, Some, bytes_eq}
use Rattle.std.specs.Option.{option_map, option_map_or}
use Rattle.implib.specs.Import.{Ask as Asked, Ordinal, Name}
use Rattle.implib_dll.specs.declared.section.AddressKind.TheVariants.{Code, Data, Outside}
use Rattle.implib_dll.specs.Exports.{Exports, NameEntry, Target, Empty, Address, Forwarder}
use Rattle.implib_dll.specs.Lookup.{text_at}
use Rattle.implib_dll.specs.Views.{target_view}
use Rattle.implib_compare.specs.declared.dll_check.verdict.Ask.{Ask}
use Rattle.implib_compare.specs.declared.dll_check.verdict.Ask.TheVariants as ask
use Rattle.implib_compare.specs.declared.dll_check.verdict.Verdict.{Verdict}
use Rattle.implib_libraries.specs.FromDll.Laws.{found}

-- the view of an ask of the program
abbrev pub ask_view : Ask → Asked
ask_view (ask.Name name hint) = Name name.now hint
ask_view (ask.Ordinal ordinal) = Ordinal ordinal

-- whether a name stands at a position of the name table
abbrev pub stands_at : List NameEntry → List ℕ → ℕ → Bool
stands_at names name position =
    option_map_or (λ text. bytes_eq text name) (text_at names position) false

-- whether a loader needs no search for an ask: by ordinal, or since the name stands at its hint
abbrev pub needs_no_search : Exports → Asked → Bool
needs_no_search e (Ordinal ordinal) = true
needs_no_search e (Name name hint) = stands_at e.names name hint

-- whether a target is imported as what it is: data as data, and what else there is as anything
abbrev pub fits_kind : Option Target → Bool → Bool
fits_kind None is_data = true
fits_kind (Some Empty) is_data = true
fits_kind (Some (Address address Code)) is_data = true
fits_kind (Some (Address address Data)) is_data = is_data
fits_kind (Some (Address address Outside)) is_data = true
fits_kind (Some (Forwarder text)) is_data = true

-- what a loader finds for an import
pub record Verdicts : Type 0 where
  pub target : Option Target
  pub at_once : Bool
  pub fits_kind : Bool

-- the view of a verdict of the program
abbrev pub verdict_view : Verdict → Verdicts
verdict_view v = record {
  target = option_map target_view v.target;
  at_once = v.at_once;
  fits_kind = v.fits_kind;
}

-- The verdict of an import: what a loader finds, whether without a search, and whether its kind
-- fits.
abbrev pub verdict_of : Exports → Asked → Bool → Verdicts
verdict_of e asked is_data = record {
  target = found e asked;
  at_once = needs_no_search e asked;
  fits_kind = fits_kind (found e asked) is_data;
}
