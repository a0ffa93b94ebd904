-- Which exports of a DLL are forwarded to data (this project's choice; docs/DLLTOOL.md, "From a
-- DLL"). A forwarder that is followed as what a function is imported by stops at data, and at
-- nothing else that is there.
use Rattle.std.specs.Prelude.{◌≡◌, ℕ, zero, suc, ◌==◌, Bool, true, false, List, [], Option, None}
use Rattle.std.specs.Prelude.{Some, count_by, if◌then◌else◌, map}
use Rattle.std.specs.List.{filter_map}
use Rattle.std.specs.Option.{option_and_then, option_map}
use Rattle.implib.specs.Definition.{ExportView}
use Rattle.implib_dll.specs.Exports.{Address, Empty, Exports, Forwarder, Target}
use Rattle.implib_dll.specs.declared.section.AddressKind.TheVariants.{Code, Data, Outside}
use Rattle.implib_compare.specs.DllCheck.DllName.{loader_name}
use Rattle.implib_compare.specs.DllCheck.Forwarding.{Arrives, Beside, Content, End, Holds, NoExports}
use Rattle.implib_compare.specs.DllCheck.Forwarding.{NoFile, Refused, Stops, Unknown, end_by, forwarder_at}
use Rattle.implib_compare.specs.DllCheck.Forwarding.{found_behind, known_by, most_forwarders, split_last}
use Rattle.implib_compare.specs.DllCheck.Laws.{Extends}
use Rattle.implib_compare.specs.declared.dll_check.forwarder.Stop.{Stop}
use Rattle.implib_compare.specs.declared.dll_check.forwarder.Stop.TheVariants as stop
use Rattle.implib_libraries.specs.FromDll.Laws.{ask_of, found}

-- the text of an export of a DLL that is a forwarder there
abbrev pub forwarder_in : Exports → ExportView → Option (List ℕ)
forwarder_in e x = forwarder_at (found e (ask_of x))

-- Where it leads in the end, as what a function is imported by.
abbrev pub end_of_export : Beside → ExportView → Option End
end_of_export b x =
    option_map (λ text. end_by most_forwarders (known_by b) b.exports.machine false text)
    (forwarder_in b.exports x)

-- whether it stopped at data, and whether at nothing
abbrev pub is_data_stop : Stop → Bool
is_data_stop stop.NoFullStop = false
is_data_stop stop.NoFile = false
is_data_stop stop.Refused = false
is_data_stop stop.NoExports = false
is_data_stop stop.OtherMachine = false
is_data_stop stop.NotExported = false
is_data_stop stop.DataAsFunction = true
is_data_stop stop.Endless = false

abbrev pub is_data_end : Option End → Bool
is_data_end None = false
is_data_end (Some Arrives) = false
is_data_end (Some (Stops text why)) = is_data_stop why
is_data_end (Some (Unknown name)) = false

abbrev pub is_stray_end : Option End → Bool
is_stray_end None = false
is_stray_end (Some Arrives) = false
is_stray_end (Some (Stops text why)) = if is_data_stop why then false else true
is_stray_end (Some (Unknown name)) = false

-- The same said apart: what a forwarder comes to in the DLL that it names, where that is known and
-- for the same machine, and the target that it leads to in the end, where at most a number are
-- followed.
abbrev pub target_in : ℕ → List ℕ → Option Content → Option Target
target_in machine asked None = None
target_in machine asked (Some NoFile) = None
target_in machine asked (Some Refused) = None
target_in machine asked (Some NoExports) = None
target_in machine asked (Some (Holds e)) =
    if machine == e.machine then found_behind e asked else None

abbrev pub target_behind : (List ℕ → Option Content) → ℕ → List ℕ → Option Target
target_behind known machine text =
    option_and_then (λ parts. target_in machine parts.1 (known (loader_name parts.0)))
    (split_last text)

abbrev pub unless_forwarded : (List ℕ → Option Target) → Option Target → Option Target
unless_forwarded go None = None
unless_forwarded go (Some Empty) = None
unless_forwarded go (Some (Address address kind)) = Some (Address address kind)
unless_forwarded go (Some (Forwarder next)) = go next

unfoldable pub last_target : ℕ → (List ℕ → Option Content) → ℕ → List ℕ → Option Target
last_target zero known machine text = None
last_target (suc n) known machine text =
    unless_forwarded (λ next. last_target n known machine next) (target_behind known machine text)

-- whether a target is an address in a section of data
abbrev pub is_data_target : Option Target → Bool
is_data_target None = false
is_data_target (Some Empty) = false
is_data_target (Some (Address address Code)) = false
is_data_target (Some (Address address Data)) = true
is_data_target (Some (Address address Outside)) = false
is_data_target (Some (Forwarder text)) = false

-- A forwarder stops at data, as what a function is imported by, just where it leads to data.
abbrev pub DataEndsAreData : Type 0
DataEndsAreData = (n : ℕ) (known : List ℕ → Option Content) (machine : ℕ) (text : List ℕ)
    → is_data_end (Some (end_by n known machine false text))
    ≡ is_data_target (last_target n known machine text)

-- an export, which is data where it is forwarded to data
abbrev pub with_kind : Beside → ExportView → ExportView
with_kind b x = if is_data_end (end_of_export b x) then record x { is_data = true } else x

-- Exports of a DLL, of which each is data that is forwarded to data.
abbrev pub kinds_followed : Beside → List ExportView → List ExportView
kinds_followed b exports = map (with_kind b) exports

-- whether an export is a forwarder to nothing
abbrev pub is_astray : Beside → ExportView → Bool
is_astray b x = is_stray_end (end_of_export b x)

-- the loader's name of the DLL, of which nothing is known, where a forwarder ends
abbrev pub unknown_in : Option End → Option (List ℕ)
unknown_in None = None
unknown_in (Some Arrives) = None
unknown_in (Some (Stops text why)) = None
unknown_in (Some (Unknown name)) = Some (loader_name name)

-- Those of the DLLs that exports are forwarded to.
abbrev pub unknown_dlls : Beside → List ExportView → List (List ℕ)
unknown_dlls b exports = filter_map (λ x. unknown_in (end_of_export b x)) exports

-- exports are of the same kinds, and as many of them are forwarded to nothing, whatever is known
-- besides
pub record AreDecided (b : Beside) (more : List ℕ → Option Content)
    (exports : List ExportView) : Type 0 where
  pub kinds : kinds_followed (record b { others = more }) exports ≡ kinds_followed b exports
  pub astray : count_by (is_astray (record b { others = more })) exports
      ≡ count_by (is_astray b) exports

-- Where enough is known of other DLLs, so that each forwarder leads to an end, nothing that is
-- known besides changes the kinds of exports.
abbrev pub KnownDllsDecideKinds : Type 0
KnownDllsDecideKinds = (b : Beside) (more : List ℕ → Option Content) (exports : List ExportView)
    → Extends b.others more → unknown_dlls b exports ≡ [] → AreDecided b more exports
