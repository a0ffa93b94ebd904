-- What a forwarder leads to (the loader of Wine, `dlls/ntdll/loader.c`: find_forwarded_export): its
-- text has the name of a DLL before its last full stop, and behind that what the DLL is asked for.
use Rattle.std.specs.Prelude.{ℕ, zero, suc, ◌+◌, ◌-◌, ◌*◌, ◌==◌, ◌&&◌, Bool, true, false, List, []}
use Rattle.std.specs.Prelude.{◌∷◌, Option, None, Some, bytes_eq, fold, if◌then◌else◌, length, map}
use Rattle.std.specs.Prelude.{nat_le, take_while}
use Rattle.std.specs.List.{list_any}
use Rattle.std.specs.Option.{option_and_then, option_map, option_map_or}
use Rattle.implib_dll.specs.Exports.{Exports, Target, Empty, Address, Forwarder}
use Rattle.implib_dll.specs.Lookup.{by_name, by_ordinal}
use Rattle.implib_compare.specs.DllCheck.DllName.{loader_name}
use Rattle.implib_compare.specs.DllCheck.Imports.{import_in, is_called, is_of_data}
use Rattle.implib_compare.specs.DllCheck.Verdict.{fits_kind}
use Rattle.implib_compare.specs.declared.dll_check.forwarder.Stop.{Stop}
use Rattle.implib_compare.specs.declared.dll_check.forwarder.Stop.TheVariants as stop
use Rattle.implib_libraries.specs.FromDll.Laws.{found}
use Rattle.implib_read.specs.Classes.{Imported, MemberRead}

-- what is before the last full stop of a text, and what is behind it
abbrev pub longer : ℕ → List ℕ × List ℕ → List ℕ × List ℕ
longer byte parts = (byte ∷ parts.0, parts.1)

unfoldable pub split_last : List ℕ → Option (List ℕ × List ℕ)
split_last [] = None
split_last (byte ∷ text) = option_map_or (λ parts. Some (longer byte parts))
    (split_last text) (if byte == 0x2E then Some ([], text) else None)

-- the number that a text begins with, as C's `atoi` has it of digits
abbrev pub is_digit : ℕ → Bool
is_digit byte = nat_le 48 byte && nat_le byte 57

abbrev pub with_digit : ℕ → ℕ → ℕ
with_digit n digit = 10 * n + (digit - 48)

abbrev pub number_of : List ℕ → ℕ
number_of text = fold with_digit 0 (take_while is_digit text)

-- What a forwarder asks a DLL for: behind `#` by an ordinal, else by a name, for which there is no
-- hint.
abbrev pub found_behind : Exports → List ℕ → Option Target
found_behind e [] = by_name e [] (length e.names)
found_behind e (byte ∷ text) =
    if byte == 0x23 then by_ordinal e (number_of text) else by_name e (byte ∷ text) (length e.names)

-- what there is of a DLL that a forwarder names: no file; one that is refused; one that exports
-- nothing; or its exports
pub data Content : Type 0 where
  NoFile : Content
  Refused : Content
  NoExports : Content
  Holds : Exports → Content

-- Where a forwarder leads in the end: to an address; to nothing, by this last forwarder, and why;
-- or to a DLL of this name, of which nothing is known.
pub data End : Type 0 where
  Arrives : End
  Stops : List ℕ → Stop → End
  Unknown : List ℕ → End

-- where one forwarder leads: to another, or to an end
pub data Step : Type 0 where
  On : List ℕ → Step
  Ends : End → Step

-- where a forwarder leads that comes to a target: not to data, where it is imported as a function
abbrev pub at_target : Bool → List ℕ → Option Target → Step
at_target is_data text None = Ends (Stops text stop.NotExported)
at_target is_data text (Some Empty) = Ends (Stops text stop.NotExported)
at_target is_data text (Some (Address address kind)) =
    if fits_kind (Some (Address address kind)) is_data then Ends Arrives
    else Ends (Stops text stop.DataAsFunction)
at_target is_data text (Some (Forwarder next)) = On next

-- where it leads in a DLL, which is for a machine
abbrev pub in_exports : ℕ → Bool → List ℕ → List ℕ → Exports → Step
in_exports machine is_data text asked e =
    if machine == e.machine then at_target is_data text (found_behind e asked)
    else Ends (Stops text stop.OtherMachine)

-- where it leads in what there is of a DLL, and where nothing may be known of that
abbrev pub in_known : ℕ → Bool → List ℕ → List ℕ → Content → Step
in_known machine is_data text asked NoFile = Ends (Stops text stop.NoFile)
in_known machine is_data text asked Refused = Ends (Stops text stop.Refused)
in_known machine is_data text asked NoExports = Ends (Stops text stop.NoExports)
in_known machine is_data text asked (Holds e) = in_exports machine is_data text asked e

abbrev pub in_content : ℕ → Bool → List ℕ → List ℕ × List ℕ → Option Content → Step
in_content machine is_data text parts None = Ends (Unknown parts.0)
in_content machine is_data text parts (Some content) = in_known machine is_data text parts.1 content

-- Where one forwarder leads, by what is known of DLLs by their loader's names, for an import of a
-- machine that is of data or not.
abbrev pub next_step : (List ℕ → Option Content) → ℕ → Bool → List ℕ → Step
next_step known machine is_data text =
    option_map_or (λ parts. in_content machine is_data text parts (known (loader_name parts.0)))
    (split_last text) (Ends (Stops text stop.NoFullStop))

abbrev pub then_on : (List ℕ → End) → Step → End
then_on go (On text) = go text
then_on go (Ends end) = end

-- Where a forwarder leads in the end, where at most a number of forwarders are followed: a circle
-- has no end.
unfoldable pub end_by : ℕ → (List ℕ → Option Content) → ℕ → Bool → List ℕ → End
end_by zero known machine is_data text = Stops text stop.Endless
end_by (suc n) known machine is_data text =
    then_on (λ next. end_by n known machine is_data next) (next_step known machine is_data text)

-- how many are followed
abbrev pub most_forwarders : ℕ
most_forwarders = 32

-- a DLL of a loader's name, and what there is of it
pub record Known : Type 0 where
  pub name : List ℕ
  pub content : Content

-- what is known of the DLL of a loader's name, the first one
abbrev pub known_in : List Known → List ℕ → Option Content
known_in [] name = None
known_in (d ∷ dlls) name = if bytes_eq name d.name then Some d.content else known_in dlls name

-- a DLL that loaders know by some names, and what is known of others by their loader's names
pub record Beside : Type 0 where
  pub exports : Exports
  pub names : List (List ℕ)
  pub others : List ℕ → Option Content

-- what is known of the DLL of a loader's name: the DLL itself, or another one
abbrev pub known_by : Beside → List ℕ → Option Content
known_by b name =
    if list_any (λ one. bytes_eq name one) b.names then Some (Holds b.exports) else b.others name

-- the text of a target that is a forwarder
abbrev pub forwarder_at : Option Target → Option (List ℕ)
forwarder_at None = None
forwarder_at (Some Empty) = None
forwarder_at (Some (Address address kind)) = None
forwarder_at (Some (Forwarder text)) = Some text

-- the forwarder that an import comes to in a DLL that loaders know by these names, if it does
abbrev pub forwarder_of : Exports → List (List ℕ) → Imported → Option (List ℕ)
forwarder_of e names i =
    if is_called names i.imports.dll && (i.machine == e.machine)
    then forwarder_at (found e i.imports.ask) else None

-- Where that leads in the end.
abbrev pub end_of : Beside → Imported → Option End
end_of b i =
    option_map (λ text. end_by most_forwarders (known_by b) b.exports.machine (is_of_data i.kind)
    text)
    (forwarder_of b.exports b.names i)

abbrev pub end_of_member : Beside → MemberRead → Option End
end_of_member b m = option_and_then (end_of b) (import_in m.class)

-- The same of each member of a library.
abbrev pub ends : Beside → List MemberRead → List (Option End)
ends b members = map (end_of_member b) members

-- whether an end is none, and whether it is not known
abbrev pub is_stop : Option End → Bool
is_stop None = false
is_stop (Some Arrives) = false
is_stop (Some (Stops text why)) = true
is_stop (Some (Unknown name)) = false

abbrev pub is_unknown : Option End → Bool
is_unknown None = false
is_unknown (Some Arrives) = false
is_unknown (Some (Stops text why)) = false
is_unknown (Some (Unknown name)) = true
