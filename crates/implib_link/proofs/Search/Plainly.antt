-- GNU `ld`'s search, which resolves nothing by weak externals, and one that does.
use Rattle.std.proofs.Common.{rules, ◌≡◌, ℕ, ◌⊎◌, false, List, [], ◌∷◌, ◌++◌, Option, Some, map, refl, ap, sym, ◌∙◌, subst, inl, inr, arith}
use Rattle.std.specs.Prelude.{bytes_eq, not}
use Rattle.std.specs.List.{Contains, cons_option, filter, flat_map, list_any}
use Rattle.std.specs.Option.{option_map}
use Rattle.std.proofs.lemmas.Bool.{cases_Bool, not_from_false, true≢false}
use Rattle.std.proofs.lemmas.List.{map-append}
use Rattle.implib.specs.declared.machine.MachineType.{MachineType}
use Rattle.implib.specs.Formats.Object.{Entry, Object}
use Rattle.implib.specs.Link.Linked.{undefined_name}
use Rattle.implib.specs.Members.MemberSpec.{MemberView}
use Rattle.implib.proofs.Link.LinkedMembers.{among_contains, among_map}
use Rattle.implib.proofs.Link.Ranges.{Among, all_among, among_flat, among_later}
use Rattle.implib_link.specs.Flavors.Expansion.{expanded_in}
use Rattle.implib_link.specs.Flavors.Program.{claimed_name, claimed_names}
use Rattle.implib_link.specs.Search.Search.{is_weak_entry, AreTakenIntoAs, PullsIntoAs, TakesIntoAs, unresolved, first_listed, objects_as, undefined_in, AreOnlyWeak, HaveNoWeak, IsWeakAmong, TakesPlainly, WeakAreFirst, left_plainly, plainly, weak_names, without_weak}
use Rattle.implib_link.specs.Search.Libraries.{FlavorLibrary, IsFlavorArchive, archive_of_both, TakesIntoFor, is_weak_in}
use Rattle.implib_link.proofs.Search.Closing.{IsFirstAs, in_turn_for, pulled, there_not, unresolved_from, unresolved_parts}
use Rattle.implib_link.proofs.Search.FlavorGroups.{expands, first_by_role, found}
use Rattle.implib_link.proofs.Search.Lists.{NameAs, among_either, among_filter, among_flat_map, among_mapped, any_among, contains_among, from_not, kept_from, kept_into, none_among, passes, passing}
use Rattle.std.proofs.lemmas.Option.{same_Some}

-- An object without its weak externals leaves the same names, and claims the others.

not_weak : (e : Entry) (name : List ℕ) → undefined_name e ≡ Some name → is_weak_entry e ≡ false
not_weak e name is = grind arith

pub left_weak : (o : Object) (name : List ℕ) → Among name (undefined_in (without_weak o)) → Among name (undefined_in o)
unfolding undefined_in without_weak
left_weak o name held = grind (arith, kept_from, kept_into, among_filter)

pub claimed_either : (o : Object) (name : List ℕ) → Among name (claimed_names o) → Among name (claimed_names (without_weak o)) ⊎ Among name (weak_names o)
unfolding without_weak weak_names
claimed_either o name held =
    let from = kept_from claimed_name o.entries name held in
    elim (cases_Bool (is_weak_entry from.0)) [
      | inl weak ↦ inr (kept_into claimed_name (filter is_weak_entry o.entries) name from.0 (passes is_weak_entry from.0 o.entries from.1 weak) from.2)
      | inr plain ↦ inl (kept_into claimed_name (filter (λ e. not (is_weak_entry e)) o.entries) name from.0
          (passes (λ e. not (is_weak_entry e)) from.0 o.entries from.1 (not_from_false (is_weak_entry from.0) plain)) from.2)
    ]

-- Of objects, whatever reads them: what they leave and claim with their weak externals, and without.

module _ (os : List Object) (name : List ℕ) where
  left_without : Among name (flat_map undefined_in os) → Among name (flat_map undefined_in (map without_weak os))
  unfolding undefined_in without_weak
  left_without held =
      let from = among_flat_map undefined_in name os held in
      among_flat undefined_in (without_weak from.0) (map without_weak os) name (among_map without_weak from.0 os from.1)
      (search (rules, kept_from undefined_name from.0.entries name from.2, kept_into, passes, not_from_false, not_weak))

  -- a name that an object claims by what is no weak external
  claims_plain : Among name (flat_map claimed_names (map without_weak os)) → (o : Object) × Among o os × Among name (claimed_names (without_weak o))
  claims_plain held = grind (arith, among_flat_map, among_mapped)

  -- and one that is so without is so with them, or is that of one
  left_or_weak : Among name (unresolved (map without_weak os)) → Among name (unresolved os) ⊎ (o : Object) × Among o os × Among name (weak_names o)
  left_or_weak held =
      let parts = unresolved_parts (map without_weak os) name held in
      elim (cases_Bool (list_any (bytes_eq name) (flat_map claimed_names os))) [
        | inr none ↦ inl (unresolved_from os name (grind (arith, among_flat_map, among_mapped, among_flat, left_weak)) (there_not name (flat_map claimed_names os) none))
        | inl claimed ↦
            let from = among_flat_map claimed_names name os (any_among name (flat_map claimed_names os) claimed) in
            elim (claimed_either from.0 name from.2) [
              | inl plain ↦ absurd (parts.1 (among_flat claimed_names (without_weak from.0) (map without_weak os) name (among_map without_weak from.0 os from.1) plain))
              | inr weak ↦ inr (from.0, from.1, weak)
            ]
      ]

  -- a name that only weak externals give is left
  left_by_weak : Among name (flat_map undefined_in os) → AreOnlyWeak os name → Among name (unresolved (map without_weak os))
  unfolding without_weak
  left_by_weak held only =
      unresolved_from (map without_weak os) name (left_without held)
      (λ claimed.
      let from = claims_plain claimed in
      let kept = kept_from claimed_name (filter (λ e. not (is_weak_entry e)) from.0.entries) name from.2 in
      let own = passing (λ e. not (is_weak_entry e)) kept.0 from.0.entries kept.1 in
      true≢false (sym (only from.0 kept.0 (among_contains from.0 os from.1) (among_contains kept.0 from.0.entries own.0) kept.2)
      ∙ from_not (is_weak_entry kept.0) own.1))

plain_one : (x : Option Object) (os plain : List Object) → plain ≡ map without_weak os → cons_option (option_map without_weak x) plain ≡ map without_weak (cons_option x os)
plain_one x os plain same = grind arith

-- each weak external of these members is the first that its name leads to
abbrev AreFirst : (List ℕ → Option Object) → List MemberView → List MemberView → Type 0
AreFirst reads archive taken = (x : MemberView) (o : Object) (name : List ℕ) → Among x taken → reads x.bytes ≡ Some o → Among name (weak_names o) → first_listed archive name ≡ Some x

module _ (reads : List ℕ → Option Object) where
  plain_members : (taken : List MemberView) → objects_as (plainly reads) taken ≡ map without_weak (objects_as reads taken)
  plain_members [] = refl
  plain_members (m ∷ taken) = plain_one (reads m.bytes) (objects_as reads taken) (objects_as (plainly reads) taken) (plain_members taken)

  module _ (own : List Object) where
    plain_objects : (taken : List MemberView) → map without_weak own ++ objects_as (plainly reads) taken ≡ map without_weak (own ++ objects_as reads taken)
    plain_objects taken = ap (λ os. map without_weak own ++ os) (plain_members taken) ∙ sym (map-append without_weak own (objects_as reads taken))

    pub still : (taken : List MemberView) (name : List ℕ) → Contains (unresolved (own ++ objects_as reads taken)) name → Contains (left_plainly reads own taken) name
    unfolding without_weak
    still taken name held = grind (arith, plain_objects, among_contains, contains_among, unresolved_parts, unresolved_from, left_without, claims_plain, among_flat, kept_from, kept_into, among_filter)

    pub leaves : (taken : List MemberView) (name : List ℕ) → Contains (flat_map undefined_in (own ++ objects_as reads taken)) name → AreOnlyWeak (own ++ objects_as reads taken) name →
        Contains (left_plainly reads own taken) name
    leaves taken name held only = grind (arith, plain_objects, among_contains, left_by_weak, contains_among)

    module _ (none : HaveNoWeak own) where
      -- what is left without weak externals is left with them, or is the name of one of a member
      either : (taken : List MemberView) (name : List ℕ) → Contains (left_plainly reads own taken) name →
          Contains (unresolved (own ++ objects_as reads taken)) name ⊎ NameAs reads weak_names name taken
      unfolding weak_names
      either taken name held =
          elim (left_or_weak (own ++ objects_as reads taken) name
          (contains_among name (unresolved (map without_weak (own ++ objects_as reads taken))) (subst (λ os. Contains (unresolved os) name) (plain_objects taken) held))) [
            | inl held ↦ inl (among_contains name (unresolved (own ++ objects_as reads taken)) held)
            | inr weak ↦ grind (arith, among_either, kept_from, passing, true≢false, none_among, all_among)
          ]

      pub left : (taken : List MemberView) (name : List ℕ) → Contains (left_plainly reads own taken) name → (Contains (unresolved (own ++ objects_as reads taken)) name → ⊥) → IsWeakAmong reads taken name
      left taken name held not_left = grind (arith, either taken name held, inl, inr, among_contains)

      module _ (archive : List MemberView) where
        pulls_plain : (taken : List MemberView) (name : List ℕ) (m : MemberView) → PullsIntoAs reads archive own taken name m → PullsIntoAs (plainly reads) archive (map without_weak own) taken name m
        pulls_plain taken name m pulls = record { named = still taken name pulls.named; listed = pulls.listed; new = pulls.new }

        -- a weak external of a member that is taken pulls in none
        pulls_weak : (taken : List MemberView) → AreFirst reads archive taken → (name : List ℕ) (m : MemberView) → PullsIntoAs (plainly reads) archive (map without_weak own) taken name m →
            PullsIntoAs reads archive own taken name m
        pulls_weak taken first name m pulls = grind (arith, either taken name pulls.named, inl, inr, same_Some, among_contains)

        turn_plain : (taken : List MemberView) → AreTakenIntoAs reads archive own taken → AreTakenIntoAs (plainly reads) archive (map without_weak own) taken
        unfolding AreTakenIntoAs
        turn_plain [] turn = tt
        turn_plain (m ∷ taken) turn = ((turn.0.0, pulls_plain taken turn.0.0 m turn.0.1), turn_plain taken turn.1)

        turn_weak : (taken : List MemberView) → AreFirst reads archive taken → AreTakenIntoAs (plainly reads) archive (map without_weak own) taken → AreTakenIntoAs reads archive own taken
        unfolding AreTakenIntoAs
        turn_weak [] first turn = tt
        turn_weak (m ∷ taken) first turn =
            let later : AreFirst reads archive taken = λ x o name held read among. first x o name (among_later x m taken held) read among in
            ((turn.0.0, pulls_weak taken later turn.0.0 m turn.0.1), turn_weak taken later turn.1)

        plain_takes : (taken : List MemberView) → AreFirst reads archive taken → TakesIntoAs reads archive own taken → TakesPlainly reads archive own taken
        plain_takes taken first takes = record {
          in_turn = turn_plain taken takes.in_turn;
          ended = λ name m pulls. takes.ended name m (pulls_weak taken first name m pulls);
        }

        weak_takes : (taken : List MemberView) → AreFirst reads archive taken → TakesPlainly reads archive own taken → TakesIntoAs reads archive own taken
        weak_takes taken first takes = record {
          in_turn = turn_weak taken first takes.in_turn;
          ended = λ name m pulls. takes.ended name m (pulls_plain taken name m pulls);
        }

-- The laws.

pub plain : (reads : List ℕ → Option Object) (archive : List MemberView) (own : List Object) (taken : List MemberView) → WeakAreFirst reads archive taken → HaveNoWeak own →
    TakesIntoAs reads archive own taken → TakesPlainly reads archive own taken
plain reads archive own taken first none = plain_takes reads own none archive taken (λ x o name held read among. first x o name (among_contains x taken held) read (among_contains name (weak_names o) among))

pub weak : (reads : List ℕ → Option Object) (archive : List MemberView) (own : List Object) (taken : List MemberView) → WeakAreFirst reads archive taken → HaveNoWeak own →
    TakesPlainly reads archive own taken → TakesIntoAs reads archive own taken
weak reads archive own taken first none = weak_takes reads own none archive taken (λ x o name held read among. first x o name (among_contains x taken held) read (among_contains name (weak_names o) among))

module _ (machine : MachineType) (libraries : List FlavorLibrary) (archive : IsFlavorArchive machine libraries) where
  -- what is taken of libraries: each claims what it is listed for, and is the first
  are_first : (reads : List ℕ → Option Object) (own : List Object) (taken : List MemberView) → AreTakenIntoAs reads (archive_of_both libraries) own taken → AreFirst (expanded_in machine) (archive_of_both libraries) taken
  unfolding weak_names
  are_first reads own taken turn x o name held read among =
      let by = pulled reads (archive_of_both libraries) (unresolved own) taken (in_turn_for reads (archive_of_both libraries) own taken turn) x held in
      let one : IsFirstAs (expanded_in machine) (archive_of_both libraries) x = grind (arith, first_by_role machine libraries archive (expanded_in machine) (is_weak_in machine) (expands machine libraries archive) x (found machine libraries archive by.0 x by.1).has) in
      one.first name (subst (Among name) one.claims (subst (λ y. Among name (claimed_names y)) (same_Some o one.object (sym read ∙ one.read)) (grind (arith, kept_from, kept_into, among_filter))))

  pub libraries_plain : (own : List Object) (taken : List MemberView) → HaveNoWeak own → TakesIntoFor machine (archive_of_both libraries) own taken →
      TakesPlainly (expanded_in machine) (archive_of_both libraries) own taken
  libraries_plain own taken none takes = search (rules, plain_takes, are_first)

  pub libraries_weak : (own : List Object) (taken : List MemberView) → HaveNoWeak own → TakesPlainly (expanded_in machine) (archive_of_both libraries) own taken →
      TakesIntoFor machine (archive_of_both libraries) own taken
  libraries_weak own taken none takes = search (rules, weak_takes, are_first, map)
