-- The kinds of exports: where forwarders lead to data, and where more is known of DLLs.
use Rattle.std.proofs.Common.{◌≡◌, ◌∙◌, ℕ, zero, suc, ◌+◌, Bool, true, false, List, [], ◌∷◌, Option, None, Some, ap, cond, nat_eq, refl, sym}
use Rattle.std.specs.List.{cons_option}
use Rattle.std.specs.Option.{option_and_then, option_map, option_map_or}
use Rattle.std.specs.Prelude.{count_by}
use Rattle.std.proofs.lemmas.List.Sums.{sum_by-cons}
use Rattle.implib.specs.Definition.{ExportView}
use Rattle.implib_dll.specs.Exports.{Address, Empty, Exports, Forwarder, Target}
use Rattle.implib_dll.specs.declared.section.AddressKind.TheVariants.{Code, Data, Outside}
use Rattle.implib_compare.specs.DllCheck.DllName.{loader_name}
use Rattle.implib_compare.specs.DllCheck.Forwarding.{Arrives, Beside, Content, End, Ends, Holds, NoExports, NoFile, Refused, Stops, Unknown, at_target, end_by, found_behind, in_content, is_unknown, known_by, most_forwarders, split_last, then_on}
use Rattle.implib_compare.specs.DllCheck.Kinds.{DataEndsAreData, KnownDllsDecideKinds, end_of_export, forwarder_in, is_astray, is_data_end, is_stray_end, is_data_target, kinds_followed, last_target, target_in, unknown_dlls, unknown_in, unless_forwarded, with_kind}
use Rattle.implib_compare.specs.DllCheck.Laws.{Extends}
use Rattle.implib_compare.specs.declared.dll_check.forwarder.Stop.TheVariants as stop
use Rattle.implib_compare.proofs.DllCheck.Forwarders.{decided, extends_beside}

known_end : (end : End) → unknown_in (Some end) ≡ None → is_unknown (Some end) ≡ false
known_end Arrives is = refl
known_end (Stops text why) is = refl
known_end (Unknown name) is = absurd cc

-- an export that is forwarded to what is known leads there where more is known
export_decided : (b : Beside) (more : List ℕ → Option Content) (x : ExportView) → Extends b.others more
    → unknown_in (end_of_export b x) ≡ None → end_of_export (record b { others = more }) x ≡ end_of_export b x
export_decided b more x extends = by (forwarder_in b.exports x)
  where
    by : (f : Option (List ℕ))
        → unknown_in (option_map (λ text. end_by most_forwarders (known_by b) b.exports.machine false text) f) ≡ None
        → option_map (λ text. end_by most_forwarders (known_by (record b { others = more })) b.exports.machine false text) f
        ≡ option_map (λ text. end_by most_forwarders (known_by b) b.exports.machine false text) f
    by None is = refl
    by (Some text) is =
        ap Some (decided most_forwarders (known_by b) (known_by (record b { others = more })) b.exports.machine false text
        (extends_beside b more extends) (known_end (end_by most_forwarders (known_by b) b.exports.machine false text) is))

-- no name is among some where none is the first, nor among the others
none_first : (name : Option (List ℕ)) (names : List (List ℕ)) → cons_option name names ≡ [] → (name ≡ None) × (names ≡ [])
none_first None names is = (refl, is)
none_first (Some name) names is = absurd cc

count_first : (p q : ExportView → Bool) (x : ExportView) (xs : List ExportView) → p x ≡ q x → count_by p xs ≡ count_by q xs
    → count_by p (x ∷ xs) ≡ count_by q (x ∷ xs)
count_first p q x xs one others =
    sum_by-cons (λ y. cond (p y) 1 0) x xs
    ∙ (ap (λ b. cond b 1 0 + count_by p xs) one ∙ ap (λ n. cond (q x) 1 0 + n) others)
    ∙ sym (sum_by-cons (λ y. cond (q y) 1 0) x xs)

-- a forwarder stops at data just where it leads to data
pub data_ends : DataEndsAreData
unfolding end_by last_target
data_ends zero known machine text = refl
data_ends (suc n) known machine text = by (data_ends n known machine) (split_last text)
  where
    at : ((next : List ℕ) → is_data_end (Some (end_by n known machine false next)) ≡ is_data_target (last_target n known machine next))
        → (t : Option Target)
        → is_data_end (Some (then_on (λ next. end_by n known machine false next) (at_target false text t)))
        ≡ is_data_target (unless_forwarded (λ next. last_target n known machine next) t)
    at later None = refl
    at later (Some Empty) = refl
    at later (Some (Address address Code)) = refl
    at later (Some (Address address Data)) = refl
    at later (Some (Address address Outside)) = refl
    at later (Some (Forwarder next)) = later next

    for_machine : ((next : List ℕ) → is_data_end (Some (end_by n known machine false next)) ≡ is_data_target (last_target n known machine next))
        → (asked : List ℕ) (e : Exports) (same : Bool)
        → is_data_end (Some (then_on (λ next. end_by n known machine false next)
        (cond same (at_target false text (found_behind e asked)) (Ends (Stops text stop.OtherMachine)))))
        ≡ is_data_target (unless_forwarded (λ next. last_target n known machine next) (cond same (found_behind e asked) None))
    for_machine later asked e true = at later (found_behind e asked)
    for_machine later asked e false = refl

    in_dll : ((next : List ℕ) → is_data_end (Some (end_by n known machine false next)) ≡ is_data_target (last_target n known machine next))
        → (parts : List ℕ × List ℕ) (c : Option Content)
        → is_data_end (Some (then_on (λ next. end_by n known machine false next) (in_content machine false text parts c)))
        ≡ is_data_target (unless_forwarded (λ next. last_target n known machine next) (target_in machine parts.1 c))
    in_dll later parts None = refl
    in_dll later parts (Some NoFile) = refl
    in_dll later parts (Some Refused) = refl
    in_dll later parts (Some NoExports) = refl
    in_dll later parts (Some (Holds e)) = for_machine later parts.1 e (nat_eq machine e.machine)

    by : ((next : List ℕ) → is_data_end (Some (end_by n known machine false next)) ≡ is_data_target (last_target n known machine next))
        → (parts : Option (List ℕ × List ℕ))
        → is_data_end (Some (then_on (λ next. end_by n known machine false next)
        (option_map_or (λ p. in_content machine false text p (known (loader_name p.0))) parts (Ends (Stops text stop.NoFullStop)))))
        ≡ is_data_target (unless_forwarded (λ next. last_target n known machine next)
        (option_and_then (λ p. target_in machine p.1 (known (loader_name p.0))) parts))
    by later None = refl
    by later (Some parts) = in_dll later parts (known (loader_name parts.0))

pub kinds_decided : KnownDllsDecideKinds
kinds_decided b more [] extends none = record { kinds = refl; astray = refl }
kinds_decided b more (x ∷ exports) extends none =
    let apart = none_first (unknown_in (end_of_export b x)) (unknown_dlls b exports) none in
    let here = export_decided b more x extends apart.0 in
    let later = kinds_decided b more exports extends apart.1 in
    let more_known = record b { others = more } in
    record {
      kinds =
          ap (λ end. cond (is_data_end end) (record x { is_data = true }) x ∷ kinds_followed more_known exports) here
          ∙ ap (λ l. with_kind b x ∷ l) later.kinds;
      astray = count_first (is_astray more_known) (is_astray b) x exports (ap is_stray_end here) later.astray;
    }
