-- Forwarders that are followed, by what is known of DLLs, and in memory.
use Rattle.std.proofs.Common.{◌≡◌, ◌∙◌, ◌&&◌, ℕ, zero, suc, ◌+◌, Bool, true, false, cond, not, List, Option, None, Some, ap, if◌then◌else◌, nat_eq, refl, slice_get, subst, sym}
use Rattle.std.specs.Option.{option_and_then, option_map, option_map_or}
use Rattle.implib.specs.Import.{Ask, Name, Ordinal}
use Rattle.implib_dll.specs.Exports.{Exports, NameEntry, Target, Empty, Address, Forwarder}
use Rattle.implib_dll.specs.Lookup.{filled, ordinal_index, position_of, target_at}
use Rattle.implib_compare.specs.DllCheck.DllName.{loader_name}
use Rattle.implib_compare.specs.DllCheck.Forwarding.{Arrives, Content, End, Ends, Holds, NoExports, NoFile, Refused, Stops, Unknown, at_target, end_by, forwarder_at, found_behind, in_content, is_stop, is_unknown, known_by, most_forwarders, split_last, then_on}
use Rattle.implib_compare.specs.DllCheck.Imports.{is_called, is_lost, is_of_data, judged_by}
use Rattle.implib_compare.specs.DllCheck.Verdict.{fits_kind, verdict_of}
use Rattle.implib_compare.specs.declared.dll_check.forwarder.Stop.TheVariants as stop
use Rattle.implib_compare.specs.declared.dll_check.import.Judgement.TheVariants.{Lost}
use Rattle.implib_compare.specs.declared.dll_check.import.Loss.TheVariants.{OtherDll, OtherMachine}
use Rattle.implib_libraries.specs.FromDll.Laws.{found}
use Rattle.implib_system.specs.Laws.{FollowedImportsAreReached, ForwardersAreFollowed}
use Rattle.implib_system.specs.System.{DllInMemory, address_by, asked_of, called, in_dll}

-- where a target leads in memory, by where it leads by what is known
target_reached : (n : ℕ) (dlls : List DllInMemory) (known : List ℕ → Option Content) (machine : ℕ) (is_data : Bool) (text : List ℕ)
    (e : DllInMemory) (target : Option Target)
    → ((next : List ℕ) → end_by n known machine is_data next ≡ Arrives → (place : ℕ) × (address_by n dlls e (Forwarder next) ≡ Some place))
    → then_on (λ next. end_by n known machine is_data next) (at_target is_data text target) ≡ Arrives
    → (place : ℕ) × (option_and_then (λ next. address_by n dlls next.0 next.1) (in_dll e target) ≡ Some place)
unfolding address_by
target_reached n dlls known machine is_data text e None later is = absurd cc
target_reached n dlls known machine is_data text e (Some Empty) later is = absurd cc
target_reached n dlls known machine is_data text e (Some (Address address kind)) later is = (e.base + address, refl)
target_reached n dlls known machine is_data text e (Some (Forwarder next)) later is = later next is

pub forwarded_reached : ForwardersAreFollowed
unfolding end_by address_by
forwarded_reached zero dlls known machine is_data d text memory is = absurd cc
forwarded_reached (suc n) dlls known machine is_data d text memory is =
    by (λ e next. forwarded_reached n dlls known machine is_data e next memory) (split_last text) is
  where
    -- a DLL of this name, with these exports
    in_called : ((e : DllInMemory) (next : List ℕ) → end_by n known machine is_data next ≡ Arrives
        → (place : ℕ) × (address_by n dlls e (Forwarder next) ≡ Some place))
        → (parts : List ℕ × List ℕ) (x : Exports) (c : Option DllInMemory) → option_map (λ (m : DllInMemory). m.exports) c ≡ Some x
        → then_on (λ next. end_by n known machine is_data next) (at_target is_data text (found_behind x parts.1)) ≡ Arrives
        → (place : ℕ) × (option_and_then (λ next. address_by n dlls next.0 next.1)
        (option_and_then (λ (m : DllInMemory). in_dll m (found_behind m.exports parts.1)) c) ≡ Some place)
    in_called later parts x None held here = absurd cc
    in_called later parts x (Some m) held here =
        let same : x ≡ m.exports = cc in
        target_reached n dlls known machine is_data text m (found_behind m.exports parts.1) (later m)
        (subst (λ (y : Exports). then_on (λ next. end_by n known machine is_data next) (at_target is_data text (found_behind y parts.1)) ≡ Arrives) same here)

    for_machine : ((e : DllInMemory) (next : List ℕ) → end_by n known machine is_data next ≡ Arrives
        → (place : ℕ) × (address_by n dlls e (Forwarder next) ≡ Some place))
        → (parts : List ℕ × List ℕ) (x : Exports) (fits : Bool) → option_map (λ (m : DllInMemory). m.exports) (called dlls parts.0) ≡ Some x
        → then_on (λ next. end_by n known machine is_data next)
        (cond fits (at_target is_data text (found_behind x parts.1)) (Ends (Stops text stop.OtherMachine))) ≡ Arrives
        → (place : ℕ) × (option_and_then (λ next. address_by n dlls next.0 next.1)
        (option_and_then (λ (m : DllInMemory). in_dll m (found_behind m.exports parts.1)) (called dlls parts.0)) ≡ Some place)
    for_machine later parts x true held here = in_called later parts x (called dlls parts.0) held here
    for_machine later parts x false held here = absurd cc

    in_known_dll : ((e : DllInMemory) (next : List ℕ) → end_by n known machine is_data next ≡ Arrives
        → (place : ℕ) × (address_by n dlls e (Forwarder next) ≡ Some place))
        → (parts : List ℕ × List ℕ) (c : Option Content)
        → ((x : Exports) → c ≡ Some (Holds x) → option_map (λ (m : DllInMemory). m.exports) (called dlls parts.0) ≡ Some x)
        → then_on (λ next. end_by n known machine is_data next) (in_content machine is_data text parts c) ≡ Arrives
        → (place : ℕ) × (option_and_then (λ next. address_by n dlls next.0 next.1)
        (option_and_then (λ (m : DllInMemory). in_dll m (found_behind m.exports parts.1)) (called dlls parts.0)) ≡ Some place)
    in_known_dll later parts None held here = absurd cc
    in_known_dll later parts (Some NoFile) held here = absurd cc
    in_known_dll later parts (Some Refused) held here = absurd cc
    in_known_dll later parts (Some NoExports) held here = absurd cc
    in_known_dll later parts (Some (Holds x)) held here = for_machine later parts x (nat_eq machine x.machine) (held x refl) here

    by : ((e : DllInMemory) (next : List ℕ) → end_by n known machine is_data next ≡ Arrives
        → (place : ℕ) × (address_by n dlls e (Forwarder next) ≡ Some place))
        → (parts : Option (List ℕ × List ℕ))
        → then_on (λ next. end_by n known machine is_data next)
        (option_map_or (λ p. in_content machine is_data text p (known (loader_name p.0))) parts (Ends (Stops text stop.NoFullStop))) ≡ Arrives
        → (place : ℕ) × (option_and_then (λ next. address_by n dlls next.0 next.1)
        (option_and_then (λ p. option_and_then (λ (m : DllInMemory). in_dll m (found_behind m.exports p.1)) (called dlls p.0)) parts) ≡ Some place)
    by later None here = absurd cc
    by later (Some parts) here =
        in_known_dll later parts (known (loader_name parts.0)) (λ x held. memory.held parts.0 x held) here

-- an import that is not lost, and is not forwarded to nothing
arrives : (end : End) → is_stop (Some end) ≡ false → is_unknown (Some end) ≡ false → end ≡ Arrives
arrives Arrives stops unknown = refl
arrives (Stops text why) stops unknown = absurd cc
arrives (Unknown name) stops unknown = absurd cc

-- what is found is no hole
filled_is : (t : Option Target) → option_and_then filled t ≡ Some Empty → ⊥
filled_is None is = absurd cc
filled_is (Some Empty) is = absurd cc
filled_is (Some (Address address kind)) is = absurd cc
filled_is (Some (Forwarder text)) is = absurd cc

no_hole : (e : Exports) (ask : Ask) → found e ask ≡ Some Empty → ⊥
no_hole e (Ordinal ordinal) is = filled_is (slice_get e.targets (ordinal_index e.base ordinal)) is
no_hole e (Name name hint) is = by (position_of e.names name hint) is
  where
    at : (n : Option NameEntry) → option_and_then (λ (entry : NameEntry). target_at e.targets entry.index) n ≡ Some Empty → ⊥
    at None here = absurd cc
    at (Some entry) here = filled_is (slice_get e.targets entry.index) here

    by : (p : Option ℕ) → option_and_then
        (λ position. option_and_then (λ (entry : NameEntry). target_at e.targets entry.index) (slice_get e.names position)) p ≡ Some Empty → ⊥
    by None here = absurd cc
    by (Some position) here = at (slice_get e.names position) here

pub followed_reached : FollowedImportsAreReached
unfolding address_by
followed_reached dlls d b i is same memory kept stops unknown =
    let ask = i.imports.ask in
    let v = verdict_of b.exports ask (is_of_data i.kind) in
    let asked : asked_of dlls i.imports.dll ask ≡ in_dll d (found b.exports ask) =
    ap (λ o. option_and_then (λ (e : DllInMemory). in_dll e (found e.exports ask)) o) is ∙ ap (λ (e : Exports). in_dll d (found e ask)) (sym same) in
    let there = by (is_called b.names i.imports.dll) (nat_eq i.machine b.exports.machine) (found b.exports ask) v.at_once v.fits_kind
    (no_hole b.exports ask) kept stops unknown in
    (there.0, ap (λ o. option_and_then (λ (next : DllInMemory × Target). address_by most_forwarders dlls next.0 next.1) o) asked ∙ there.1)
  where
    by : (is_known fits : Bool) (target : Option Target) (at_once fits_kind : Bool) → (target ≡ Some Empty → ⊥)
        → is_lost (if not is_known then Lost OtherDll else if not fits then Lost OtherMachine
        else judged_by (record { target = target; at_once = at_once; fits_kind = fits_kind })) ≡ false
        → is_stop (option_map (λ text. end_by most_forwarders (known_by b) b.exports.machine (is_of_data i.kind) text)
        (if is_known && fits then forwarder_at target else None)) ≡ false
        → is_unknown (option_map (λ text. end_by most_forwarders (known_by b) b.exports.machine (is_of_data i.kind) text)
        (if is_known && fits then forwarder_at target else None)) ≡ false
        → (place : ℕ) × (option_and_then (λ (next : DllInMemory × Target). address_by most_forwarders dlls next.0 next.1) (in_dll d target) ≡ Some place)
    by false fits target at_once fits_kind hole kept stops unknown = absurd cc
    by true false target at_once fits_kind hole kept stops unknown = absurd cc
    by true true None at_once fits_kind hole kept stops unknown = absurd cc
    by true true (Some Empty) at_once fits_kind hole kept stops unknown = absurd (hole refl)
    by true true (Some (Address address kind)) at_once fits_kind hole kept stops unknown = (d.base + address, refl)
    by true true (Some (Forwarder text)) at_once fits_kind hole kept stops unknown =
        forwarded_reached most_forwarders dlls (known_by b) b.exports.machine (is_of_data i.kind) d text memory
        (arrives (end_by most_forwarders (known_by b) b.exports.machine (is_of_data i.kind) text) stops unknown)
