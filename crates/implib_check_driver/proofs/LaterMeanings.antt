-- What the members mean that a library with third texts has after its other imports.
use Rattle.std.proofs.Common.{◌≡◌, ◌∙◌, ℕ, suc, Bool, true, false, List, [], ◌∷◌, ◌++◌, Option, None, Some, ap, drop, if◌then◌else◌, length, map, refl, sym, take}
use Rattle.std.specs.Prelude.{◌&&◌, bytes_eq, is_some, not}
use Rattle.std.specs.List.{AllByRecursion, filter, filter_map, flat_map}
use Rattle.std.proofs.lemmas.List.{drop_at, length-map, map-append, take_at}
use Rattle.std.proofs.lemmas.List.Elements.{filter_map-append}
use Rattle.implib.specs.declared.machine.MachineType.{MachineType}
use Rattle.implib.specs.Definition.{ExportView}
use Rattle.implib.specs.Formats.File.{Meaning, AnAlias as MeansAlias, AnImport as MeansImport}
use Rattle.implib.specs.Import.{Alias, Import, aliases_for, expected_import, imp_symbol, is_alias}
use Rattle.implib.specs.LibraryName.{NamesOfDll}
use Rattle.implib.specs.Members.MemberLists.{alias_specs, has_code, import_specs, is_weak, kept_of_alias}
use Rattle.implib.specs.Members.MemberSpec.{MemberSpec}
use Rattle.implib.specs.Members.Msvc.{symbol_or_name}
use Rattle.implib.specs.Members.MsvcMembers.{short_import_spec, weak_address_spec, weak_specs, weak_symbol_spec}
use Rattle.implib.specs.Members.ReadBack.{alias_among, import_among}
use Rattle.implib_read.proofs.OwnMsvc.{map_twice}
use Rattle.implib_rules.specs.ExportAs.{export_as_spec, exported_name, kept, kept_by, later_specs, later_specs_by}
use Rattle.implib_rules.specs.Linked.{has_target}
use Rattle.implib_check_driver.specs.OwnExportAs.{has_third_text}
use Rattle.implib_check_driver.proofs.OwnLibraries.{all_aliases, no_imports}
use Rattle.implib_check_driver.proofs.ThirdTexts.{asks_by_text}

-- lists that show the same, cut in two after fronts of one length
pub cut : {A B Y : Type 0} (F : A → Y) (G : B → Y) (xs more : List A) (us others : List B) → length xs ≡ length us → map F (xs ++ more) ≡ map G (us ++ others)
    → (map F xs ≡ map G us) × (map F more ≡ map G others)
cut F G xs more us others long same =
    let both : map F xs ++ map F more ≡ map G us ++ map G others = sym (map-append F xs more) ∙ same ∙ map-append G us others in
    let n = length us in
    let left : length (map F xs) ≡ n = length-map xs F ∙ long in
    let right : length (map G us) ≡ n = length-map us G in (
      sym (take_at (map F xs) (map F more) n left) ∙ ap (take n) both ∙ take_at (map G us) (map G others) n right,
      sym (drop_at (map F xs) (map F more) n left) ∙ ap (drop n) both ∙ drop_at (map G us) (map G others) n right,
    )

-- an export as an alias of the name that it asks for, and as it is otherwise
pub kept_symbol_name : (o : Option (List ℕ)) (e : ExportView) → e.symbol_name ≡ [] → (kept_by o e).symbol_name ≡ []
kept_symbol_name None e plain = plain
kept_symbol_name (Some name) e plain = plain

kept_private : (o : Option (List ℕ)) (e : ExportView) → (kept_by o e).private ≡ e.private
kept_private None e = refl
kept_private (Some name) e = refl

public_here : (machine : MachineType) (p : Bool) (e : ExportView) (exports : List ExportView) → filter (λ x. not x.private) (map (kept machine) exports) ≡ map (kept machine) (filter (λ x. not x.private) exports)
    → (if not p then kept machine e ∷ filter (λ x. not x.private) (map (kept machine) exports) else filter (λ x. not x.private) (map (kept machine) exports))
    ≡ map (kept machine) (if not p then e ∷ filter (λ x. not x.private) exports else filter (λ x. not x.private) exports)
public_here machine true e exports rest = rest
public_here machine false e exports rest = ap (λ l. kept machine e ∷ l) rest

pub public_kept : (machine : MachineType) (exports : List ExportView) → filter (λ e. not e.private) (map (kept machine) exports) ≡ map (kept machine) (filter (λ e. not e.private) exports)
public_kept machine [] = refl
public_kept machine (e ∷ exports) =
    ap (λ p. if not p then kept machine e ∷ filter (λ x. not x.private) (map (kept machine) exports) else filter (λ x. not x.private) (map (kept machine) exports)) (kept_private (exported_name machine e) e)
    ∙ public_here machine e.private e exports (public_kept machine exports)

-- the aliases of an export's weak externals
abbrev pub aliases_named : ExportView → List Alias
aliases_named e = kept_of_alias e (aliases_for e.name e.alias_target)

-- an alias
abbrev pub means_alias : Alias → Option Meaning
means_alias a = Some (MeansAlias a)

-- what an export means after all other imports
abbrev pub later_meanings_by : MachineType → List ℕ → ExportView → Option (List ℕ) → List Meaning
later_meanings_by machine dll e None = map MeansAlias (aliases_named e)
later_meanings_by machine dll e (Some name) = MeansImport (expected_import machine dll e) ∷ []

abbrev pub later_meanings : MachineType → List ℕ → ExportView → List Meaning
later_meanings machine dll e = later_meanings_by machine dll e (exported_name machine e)

module _ (machine : MachineType) (dll : NamesOfDll) where
  one_length : (code alias : Bool) (first second : MemberSpec) (a b : Alias)
      → length (if code then (if alias then first ∷ second ∷ [] else []) else drop 1 (if alias then first ∷ second ∷ [] else []))
      ≡ length (if code then (if alias then a ∷ b ∷ [] else []) else drop 1 (if alias then a ∷ b ∷ [] else []))
  one_length true true first second a b = refl
  one_length true false first second a b = refl
  one_length false true first second a b = refl
  one_length false false first second a b = refl

  length_aliases : (e : ExportView) → e.symbol_name ≡ [] → length (alias_specs machine dll.linked e) ≡ length (aliases_named e)
  unfolding weak_specs
  length_aliases e plain =
      let first = weak_symbol_spec machine dll.linked e in
      let second = weak_address_spec machine dll.linked e in
      ap (λ s. length (if has_code e then (if is_alias e.alias_target (symbol_or_name s e.name) then first ∷ second ∷ [] else []) else drop 1 (if is_alias e.alias_target (symbol_or_name s e.name) then first ∷ second ∷ [] else []))) plain
      ∙ one_length (has_code e) (is_alias e.alias_target e.name) first second
      (record { weak = e.name; target = e.alias_target })
      (record { weak = imp_symbol e.name; target = imp_symbol e.alias_target })

  module _ (M : MemberSpec → Option Meaning) where
    -- the short import with the third text of an export means the import of the export
    abbrev pub ThirdMeans : ExportView → Type 0
    ThirdMeans e = (name : List ℕ) → exported_name machine e ≡ Some name → M (export_as_spec machine dll e name) ≡ Some (MeansImport (expected_import machine dll.text e))

    one_later : (o : Option (List ℕ)) (e : ExportView) → ((name : List ℕ) → o ≡ Some name → M (export_as_spec machine dll e name) ≡ Some (MeansImport (expected_import machine dll.text e)))
        → map M (alias_specs machine dll.linked (kept_by o e)) ≡ map means_alias (aliases_named (kept_by o e))
        → map M (later_specs_by machine dll e o) ≡ map Some (later_meanings_by machine dll.text e o)
    one_later None e third same = same ∙ sym (map_twice Some MeansAlias (aliases_named e))
    one_later (Some name) e third same = ap (λ m. m ∷ []) (third name refl)

    -- so of all exports, where the weak externals of those that are aliases mean these
    pub all_later : (exports : List ExportView) → AllByRecursion (λ e. e.symbol_name ≡ []) exports → AllByRecursion ThirdMeans exports
        → map M (flat_map (alias_specs machine dll.linked) (map (kept machine) exports)) ≡ map means_alias (flat_map aliases_named (map (kept machine) exports))
        → map M (flat_map (later_specs machine dll) exports) ≡ map Some (flat_map (later_meanings machine dll.text) exports)
    all_later [] plain third same = refl
    all_later (e ∷ exports) plain third same =
        let k = kept machine e in
        let parts = cut M means_alias (alias_specs machine dll.linked k) (flat_map (alias_specs machine dll.linked) (map (kept machine) exports)) (aliases_named k) (flat_map aliases_named (map (kept machine) exports))
        (length_aliases k (kept_symbol_name (exported_name machine e) e plain.0)) same in
        let specs = flat_map (later_specs machine dll) exports in
        let meanings = flat_map (later_meanings machine dll.text) exports in
        map-append M (later_specs machine dll e) specs
        ∙ ap (λ l. l ++ map M specs) (one_later (exported_name machine e) e third.0 parts.0)
        ∙ ap (λ l. map Some (later_meanings machine dll.text e) ++ l) (all_later exports plain.1 third.1 parts.1)
        ∙ sym (map-append Some (later_meanings machine dll.text e) meanings)

  pub length_imports : (exports : List ExportView) → length (flat_map (import_specs machine dll) exports) ≡ length (map (expected_import machine dll.text) (filter (λ e. not (is_weak e)) exports))
  length_imports [] = refl
  length_imports (e ∷ exports) = by (is_weak e) (length_imports exports)
    where
      by : (b : Bool) → length (flat_map (import_specs machine dll) exports) ≡ length (map (expected_import machine dll.text) (filter (λ x. not (is_weak x)) exports))
          → length ((if b then [] else short_import_spec machine dll e ∷ []) ++ flat_map (import_specs machine dll) exports)
          ≡ length (map (expected_import machine dll.text) (if not b then e ∷ filter (λ x. not (is_weak x)) exports else filter (λ x. not (is_weak x)) exports))
      by true rest = rest
      by false rest = ap suc rest

-- The imports and the aliases among these.

-- an export with a third text is an alias of the name that it asks for
abbrev pub WeakForText : MachineType → ExportView → Type 0
WeakForText machine e = (name : List ℕ) → exported_name machine e ≡ Some name → is_weak (kept_by (Some name) e) ≡ true

module _ (E : ExportView → Import) where
  plain_first : (b : Bool) (e : ExportView) (ks xs : List ExportView) → map E ks ≡ map E xs → map E (if not b then e ∷ ks else ks) ≡ map E (if true && not b then e ∷ xs else xs)
  plain_first true e ks xs rest = rest
  plain_first false e ks xs rest = ap (λ l. E e ∷ l) rest

  one_first : (o : Option (List ℕ)) (e : ExportView) (ks xs : List ExportView) → ((name : List ℕ) → o ≡ Some name → is_weak (kept_by (Some name) e) ≡ true) → map E ks ≡ map E xs
      → map E (if not (is_weak (kept_by o e)) then kept_by o e ∷ ks else ks) ≡ map E (if not (is_some o) && not (is_weak e) then e ∷ xs else xs)
  one_first None e ks xs weak rest = plain_first (is_weak e) e ks xs rest
  one_first (Some name) e ks xs weak rest = ap (λ b. map E (if not b then kept_by (Some name) e ∷ ks else ks)) (weak name refl) ∙ rest

  pub first_imports : (machine : MachineType) (exports : List ExportView) → AllByRecursion (WeakForText machine) exports
      → map E (filter (λ e. not (is_weak e)) (map (kept machine) exports)) ≡ map E (filter (λ e. not (has_third_text machine e) && not (is_weak e)) exports)
  first_imports machine [] weak = refl
  first_imports machine (e ∷ exports) weak =
      one_first (exported_name machine e) e (filter (λ x. not (is_weak x)) (map (kept machine) exports)) (filter (λ x. not (has_third_text machine x) && not (is_weak x)) exports) weak.0 (first_imports machine exports weak.1)

module _ (machine : MachineType) (dll : List ℕ) where
  one_text : (o : Option (List ℕ)) (e : ExportView) (rest : List Meaning) (xs : List ExportView) → filter_map import_among rest ≡ map (expected_import machine dll) xs
      → filter_map import_among (later_meanings_by machine dll e o ++ rest) ≡ map (expected_import machine dll) (if is_some o then e ∷ xs else xs)
  one_text None e rest xs same =
      filter_map-append import_among (map MeansAlias (aliases_named e)) rest
      ∙ ap (λ l. l ++ filter_map import_among rest) (no_imports (aliases_named e))
      ∙ same
  one_text (Some name) e rest xs same = ap (λ l. expected_import machine dll e ∷ l) same

  pub text_imports : (exports : List ExportView) → filter_map import_among (flat_map (later_meanings machine dll) exports) ≡ map (expected_import machine dll) (filter (has_third_text machine) exports)
  text_imports [] = refl
  text_imports (e ∷ exports) = one_text (exported_name machine e) e (flat_map (later_meanings machine dll) exports) (filter (has_third_text machine) exports) (text_imports exports)

  none_kept : (b : Bool) (aliases : List Alias) → aliases ≡ [] → (if b then aliases else drop 1 aliases) ≡ []
  none_kept true aliases none = none
  none_kept false aliases none = ap (drop 1) none

  -- an export that has no target has no aliases
  no_aliases : (e : ExportView) → has_target e ≡ false → aliases_named e ≡ []
  no_aliases e none =
      none_kept (has_code e) (aliases_for e.name e.alias_target)
      (ap (λ b. if b && not (bytes_eq e.alias_target e.name) then record { weak = e.name; target = e.alias_target } ∷ record { weak = imp_symbol e.name; target = imp_symbol e.alias_target } ∷ [] else []) none)

  one_alias : (o : Option (List ℕ)) (e : ExportView) (rest : List Meaning) (aliases : List Alias) → ((name : List ℕ) → o ≡ Some name → has_target e ≡ false)
      → filter_map alias_among rest ≡ aliases → filter_map alias_among (later_meanings_by machine dll e o ++ rest) ≡ aliases_named e ++ aliases
  one_alias None e rest aliases none same =
      filter_map-append alias_among (map MeansAlias (aliases_named e)) rest
      ∙ ap (λ l. l ++ filter_map alias_among rest) (all_aliases (aliases_named e))
      ∙ ap (λ l. aliases_named e ++ l) same
  one_alias (Some name) e rest aliases none same = same ∙ ap (λ l. l ++ aliases) (sym (no_aliases e (none name refl)))

  pub later_aliases : (exports : List ExportView) → filter_map alias_among (flat_map (later_meanings machine dll) exports) ≡ flat_map aliases_named exports
  later_aliases [] = refl
  later_aliases (e ∷ exports) =
      one_alias (exported_name machine e) e (flat_map (later_meanings machine dll) exports) (flat_map aliases_named exports) (λ name is. (asks_by_text machine e name is).no_target) (later_aliases exports)

-- imports before other meanings
pub imports_then : (imports : List Import) (rest : List Meaning) → filter_map import_among (map MeansImport imports ++ rest) ≡ imports ++ filter_map import_among rest
imports_then [] rest = refl
imports_then (i ∷ imports) rest = ap (λ l. i ∷ l) (imports_then imports rest)

pub aliases_after : (imports : List Import) (rest : List Meaning) → filter_map alias_among (map MeansImport imports ++ rest) ≡ filter_map alias_among rest
aliases_after [] rest = refl
aliases_after (i ∷ imports) rest = aliases_after imports rest
