-- What aliases of Microsoft's flavour lead to.
use Rattle.std.proofs.Common.{◌≡◌, ◌∙◌, ℕ, Bool, true, false, List, [], ◌∷◌, ◌++◌, Option, None, Some, ap, arith, bytes_eq, ◌⊎◌, inl, inr, if◌then◌else◌, map, refl, sym, subst, drop}
use Rattle.std.specs.Prelude.{not, ◌&&◌}
use Rattle.std.specs.List.{Contains, find}
use Rattle.std.specs.Option.{option_map}
use Rattle.std.proofs.lemmas.Bool.{and_parts, cases_Bool, true≢false, not-true}
use Rattle.std.proofs.lemmas.List.Elements.{Contains-append_left, Contains-append_right}
use Rattle.std.proofs.lemmas.Option.{none-some}
use Rattle.std.proofs.lemmas.Slice.Eq.{bytes_eq-Decides}
use Rattle.implib.specs.declared.flavor.Flavor.TheVariants.{Gnu, Msvc}
use Rattle.implib.specs.declared.machine.MachineType.{MachineType}
use Rattle.implib.specs.Definition.{ExportView}
use Rattle.implib.specs.Import.{name_asked}
use Rattle.implib_rules.specs.BothFlavors.{AsksAlike, LeadsAlike}
use Rattle.implib_rules.specs.Linked.{NamingView, adds_target, alias_symbol, asks_for, export_asked, is_among, is_apart, is_declared, is_named_import, linked_export, linked_import, linked_to, new_target, own_symbol, symbol_asking, symbol_linked, target_import, target_symbol, targets_beside, with_symbol, with_target}
use Rattle.implib_rules.proofs.Asked.{asks_as_linked}
use Rattle.implib_rules.proofs.Targets.{neither}

-- an element of a list is its first one, or one of the rest
in_cons : {X : Type 0} (x : X) (xs : List X) (y : X) → Contains (x ∷ xs) y → (x ≡ y) ⊎ Contains xs y
in_cons x xs y within = grind arith

first_in : {X : Type 0} (x : X) (xs : List X) → Contains (x ∷ xs) x
first_in x xs = (0, omega arith, refl)

rest_in : {X : Type 0} (x : X) (xs : List X) (y : X) → Contains xs y → Contains (x ∷ xs) y
rest_in x xs y within = Contains-append_right (x ∷ []) xs y within

in_map : {X Y : Type 0} (f : X → Y) (xs : List X) (x : X) → Contains xs x → Contains (map f xs) (f x)
in_map f [] x within = absurd (omega (arith, within.1))
in_map f (first ∷ xs) x within = grind (arith, in_cons first xs x within, first_in, rest_in, in_map f xs x)

-- what is found is in the list, and passes
found : {X : Type 0} (test : X → Bool) (xs : List X) (x : X) → find test xs ≡ Some x → Contains xs x × (test x ≡ true)
found test [] x is = absurd (none-some x is)
found test (first ∷ xs) x is = grind (arith, first_in first xs, rest_in first xs x, found test xs x)

module _ (machine : MachineType) (naming : NamingView) where
  -- an import that is added under the symbol of an alias's target, for that alias or for one before it
  abbrev IsAdded : List ExportView → List (List ℕ) → List ExportView → List ℕ → Type 0
  IsAdded all symbols rest word =
      (x : ExportView) × Contains (targets_beside machine naming all symbols rest) (target_import x)
      × (own_symbol x ≡ word)

  -- the same once an export is passed
  later : (all : List ExportView) (symbols : List (List ℕ)) (first : ExportView) (rest : List ExportView) (symbol : List ℕ)
      → IsAdded all (with_target machine naming all symbols first) rest symbol → IsAdded all symbols (first ∷ rest) symbol
  later all symbols first rest symbol added =
      (added.0, Contains-append_right (new_target machine naming all symbols first) (targets_beside machine naming all (with_target machine naming all symbols first) rest) (target_import added.0) added.1, added.2)

  among_more : (symbols : List (List ℕ)) (more symbol : List ℕ) → is_among symbols symbol ≡ false → bytes_eq symbol more ≡ false → is_among (symbols ++ more ∷ []) symbol ≡ false
  among_more [] more symbol none other = rw other refl
  among_more (first ∷ symbols) more symbol none other = grind (arith, neither, among_more symbols more symbol (neither (bytes_eq symbol first) (is_among symbols symbol) none).1 other)

  -- an alias that wants a target gets one, unless its symbol is there
  added : (all : List ExportView) (symbols : List (List ℕ)) (rest : List ExportView) (e : ExportView) → Contains rest e
      → adds_target machine naming all e ≡ true → is_among symbols (own_symbol e) ≡ false
      → IsAdded all symbols rest (own_symbol e)
  added all symbols [] e within adds none = absurd (omega (arith, within.1))
  added all symbols (first ∷ rest) e within adds none =
      let symbol = own_symbol e in
      let other = own_symbol first in
      let and_rest : (symbols_after : List (List ℕ)) → with_target machine naming all symbols first ≡ symbols_after → is_among symbols_after symbol ≡ false → Contains rest e → IsAdded all symbols (first ∷ rest) symbol =
      λ symbols_after is free inside. later all symbols first rest symbol (subst (λ s. IsAdded all s rest symbol) (sym is) (added all symbols_after rest e inside adds free)) in
      elim (cases_Bool (adds_target machine naming all first)) [
        | inr passed ↦
            elim (in_cons first rest e within) [
              | inl is ↦ absurd (true≢false (sym adds ∙ ap (adds_target machine naming all) (sym is) ∙ passed))
              | inr inside ↦ and_rest symbols (ap (λ b. if b then with_symbol symbols other else symbols) passed) none inside
            ]
        | inl wanted ↦
            elim (cases_Bool (is_among symbols other)) [
              | inl there ↦
                  elim (in_cons first rest e within) [
                    | inl is ↦ absurd (true≢false (sym there ∙ ap (λ (x : ExportView). is_among symbols (own_symbol x)) is ∙ none))
                    | inr inside ↦ and_rest symbols (ap (λ b. if b then with_symbol symbols other else symbols) wanted ∙ ap (λ b. if b then symbols else symbols ++ other ∷ []) there) none inside
                  ]
              | inr free ↦
                  let new : new_target machine naming all symbols first ≡ target_import first ∷ [] =
                  cc (wanted, free) in
                  elim (cases_Bool (bytes_eq symbol other)) [
                    | inl same ↦ (
                      first,
                      subst (λ l. Contains (l ++ targets_beside machine naming all (with_target machine naming all symbols first) rest) (target_import first)) (sym new)
                          (first_in (target_import first) (targets_beside machine naming all (with_target machine naming all symbols first) rest)),
                      sym ((bytes_eq-Decides symbol other).0 same),
                    )
                    | inr differ ↦
                        elim (in_cons first rest e within) [
                          | inl is ↦ absurd (true≢false (sym ((bytes_eq-Decides symbol other).1 (ap own_symbol (sym is))) ∙ differ))
                          | inr inside ↦ and_rest (symbols ++ other ∷ []) (ap (λ b. if b then with_symbol symbols other else symbols) wanted ∙ ap (λ b. if b then symbols else symbols ++ other ∷ []) free) (among_more symbols other symbol none differ) inside
                        ]
                  ]
            ]
      ]

module _ (machine : MachineType) (naming : NamingView) (exports : List ExportView) where
  -- an export that is weak for nothing is an import in either flavour
  pub not_alias : (e : ExportView) → alias_symbol machine naming Msvc exports e ≡ None → linked_export machine naming Msvc exports e ≡ linked_export machine naming Gnu exports e
  not_alias e none = ap (λ s. linked_to machine naming s e) none

  module _ (e : ExportView) (apart : is_apart machine naming e ≡ true) where
    -- it has a word after `==`, and asks for that in GNU's flavour
    asks : name_asked machine (linked_import machine naming e) ≡ e.alias_target
    asks = grind (arith, asks_as_linked machine naming e)

    by_target : alias_symbol machine naming Msvc exports e ≡ target_symbol machine naming exports e
    by_target = ap (λ b. if b then target_symbol machine naming exports e else None) apart

    -- where short imports have third texts
    module _ (third : naming.exports_as ≡ true) where
      by_asking : alias_symbol machine naming Msvc exports e ≡ symbol_asking machine naming exports e.alias_target
      by_asking = by_target ∙ rw third refl

      -- an import by name asks for the word
      asked : (x : ExportView) → find (asks_for machine naming e.alias_target) exports ≡ Some x → LeadsAlike machine naming exports e
      asked x is =
          let there = found (asks_for machine naming e.alias_target) exports x is in
          let passes = and_parts (is_named_import machine naming x) (bytes_eq e.alias_target (export_asked machine naming x)) there.1 in
          let public = and_parts (not x.private) (not x.no_name && not (is_apart machine naming x)) passes.0 in
          let named = and_parts (not x.no_name) (not (is_apart machine naming x)) public.1 in
          let own : alias_symbol machine naming Msvc exports x ≡ None =
          ap (λ b. if b then target_symbol machine naming exports x else None) (not-true (is_apart machine naming x) named.1) in
          let linked : linked_export machine naming Msvc exports x ≡ linked_import machine naming x = ap (λ s. linked_to machine naming s x) own in
          let symbol : alias_symbol machine naming Msvc exports e ≡ Some (symbol_linked machine naming x) = by_asking ∙ ap (option_map (symbol_linked machine naming)) is in
          record {
            import = linked_import machine naming x;
            is_linked = Contains-append_left (map (linked_export machine naming Msvc exports) exports) _ (linked_import machine naming x)
                (subst (Contains (map (linked_export machine naming Msvc exports) exports)) linked (in_map (linked_export machine naming Msvc exports) exports x there.0));
            is_import = record { public = not-true x.private public.0; by_name = not-true x.no_name named.0; not_weak = refl };
            leads = ap (λ s. (linked_to machine naming s e).alias_target) symbol;
            asks = asks_as_linked machine naming x ∙ sym ((bytes_eq-Decides e.alias_target (export_asked machine naming x)).0 passes.1) ∙ sym asks;
          }

      by_find : (o : Option ExportView) → find (asks_for machine naming e.alias_target) exports ≡ o
          → (linked_export machine naming Msvc exports e ≡ linked_export machine naming Gnu exports e) ⊎ LeadsAlike machine naming exports e
      by_find (Some x) is = inr (asked x is)
      by_find None is = inl (not_alias e (by_asking ∙ ap (option_map (symbol_linked machine naming)) is))

    -- elsewhere it leads to an import of its own
    module _ (plain : naming.exports_as ≡ false) where
      by_own : alias_symbol machine naming Msvc exports e ≡ (if is_declared exports (own_symbol e) then None else Some (own_symbol e))
      by_own = by_target ∙ rw plain refl

      alone : is_declared exports (own_symbol e) ≡ false → Contains exports e → LeadsAlike machine naming exports e
      alone free within =
          let wanted : adds_target machine naming exports e ≡ true =
          cc (apart, plain, free) in
          let new = added machine naming exports [] exports e within wanted refl in
          let x = new.0 in
          record {
            import = target_import x;
            is_linked = Contains-append_right (map (linked_export machine naming Msvc exports) exports) (targets_beside machine naming exports [] exports) (target_import x) new.1;
            is_import = record { public = refl; by_name = refl; not_weak = refl };
            leads = ap (λ s. (linked_to machine naming s e).alias_target) (by_own ∙ ap (λ b. if b then None else Some (own_symbol e)) free) ∙ sym new.2;
            asks = ap (drop 1) new.2 ∙ sym asks;
          }

  by_form : (e : ExportView) → is_apart machine naming e ≡ true → Contains exports e
      → (linked_export machine naming Msvc exports e ≡ linked_export machine naming Gnu exports e) ⊎ LeadsAlike machine naming exports e
  by_form e apart within =
      elim (cases_Bool naming.exports_as) [
        | inl third ↦ by_find e apart third (find (asks_for machine naming e.alias_target) exports) refl
        | inr plain ↦ elim (cases_Bool (is_declared exports (own_symbol e))) [
          | inl declared ↦ inl (not_alias e (by_own e apart plain ∙ ap (λ b. if b then None else Some (own_symbol e)) declared))
          | inr free ↦ inr (alone e apart plain free within)
        ]
      ]

-- both flavours ask for the same names
pub asks_alike : AsksAlike
asks_alike machine naming exports e within public by_name =
    elim (cases_Bool (is_apart machine naming e)) [
      | inl apart ↦ by_form machine naming exports e apart within
      | inr not_apart ↦ inl (not_alias machine naming exports e (ap (λ b. if b then target_symbol machine naming exports e else None) not_apart))
    ]
