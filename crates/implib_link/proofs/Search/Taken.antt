-- What a linker takes of an archive of libraries, however it reads members: what is wanted, and what that leaves.
use Rattle.std.proofs.Common.{arith, rules, ◌≡◌, ℕ, ◌⊎◌, Bool, true, false, List, [], ◌∷◌, ◌++◌, map, Option, Some, refl, sym, ◌∙◌, subst, inl, inr}
use Rattle.std.specs.Prelude.{not, IsPermutation, bytes_eq, slice_get}
use Rattle.std.specs.List.{AllByRecursion, filter, flat_map, list_any}
use Rattle.std.proofs.lemmas.Bool.{cases_Bool, true≢false, not_from_false}
use Rattle.implib.specs.declared.flavor.Flavor.{Flavor}
use Rattle.implib.specs.declared.flavor.Flavor.TheVariants.{Gnu, Msvc}
use Rattle.implib.specs.declared.machine.MachineType.{MachineType}
use Rattle.implib.specs.Definition.{ExportView}
use Rattle.implib.specs.Formats.Object.{Object}
use Rattle.implib.specs.Import.{imp_symbol, is_alias}
use Rattle.implib.specs.LibraryName.{linked_dll, linked_name}
use Rattle.implib.specs.Link.LinkedMembers.{all_linked}
use Rattle.implib.specs.Members.MemberSpec.{MemberView}
use Rattle.implib.proofs.Link.LinkedMembers.{among_contains, among_map}
use Rattle.implib.proofs.Link.Ranges.{Among, all_among, among_back, among_first, among_front, among_later, among_flat}
use Rattle.implib_link.specs.Flavors.Program.{all_members, HaveSame, AreEnded, Ending, objects_taken, ClaimsNone, has_tables}
use Rattle.implib_link.specs.Search.Search.{Library, exports_of, inputs_wanted, first_listed, left_as, objects_as, undefined_in, listed_in, unresolved}
use Rattle.implib_link.specs.Search.Libraries.{FlavorLibrary, IsFlavorArchive, IsWeakOfLibraries, NamesNoMembers, TakesOfLibraries, archive_of_both, gnu_among, msvc_among, first_null, is_weak_in, short_inputs, shorts_linked, wanted_with_weak, AreClosed, AreGiven, headers_of_both, inputs_in, symbols_kept, symbols_in, targets_of_both, wanted_at_most, alias_targets, heads_of, is_data_alias, symbols_wanted, tails_of, is_short_alias, weak_in, TakesIntoFor, headers_of, import_symbols_wanted}
use Rattle.implib_link.specs.Flavors.Expansion.{expanded_in}
use Rattle.implib_link.proofs.Search.Chosen.{AnOwn, AnyOf, IsLinked, TheLast, TheTop, chosen_by, chosen_name, is_chosen, linked_are, linked_from, linked_into, own_chosen, shorts_are, chosen_too}
use Rattle.implib_link.proofs.Search.Closing.{AreTakenInTurnAs, IsFirstAs, TakesAs, left_by as left_as_by, pulled, reached as reached_as, still_named as still_as, there_not, in_turn_for, none_claimed, not_there}
use Rattle.implib_link.proofs.Search.FlavorGroups.{first_held, gnu_there, msvc_there, there_gnu, there_msvc, Found, HasRole, IsReader, by_name, expands, finds, first_by_role, found, left_by_role, weak_by_role}
use Rattle.implib_link.proofs.Search.Lists.{all_from as all_each, among_at, among_either, among_mapped, as_name, contains_among, from_not, name_as, passes, passing}
use Rattle.implib_link.proofs.Search.MsvcMembers.{member_with, null_or_member, null_with, null_of}
use Rattle.implib_link.proofs.Search.Roles.{IsNull, IsRole, Last, Null, Own, Role, Top, Weak, in_flavor, is_weak_role, last_symbol, left, left_as_role, member, object, symbols, weak_symbol, listed_as, top_symbol, weak_target}
use Rattle.implib_link.proofs.Search.ArchiveMembers.{only_one}
use Rattle.implib.specs.Members.Gnu.{head_symbol, iname_symbol}
use Rattle.implib.specs.Members.MsvcObjects.{descriptor_symbol, null_descriptor_symbol, null_thunk_symbol}

module _ (machine : MachineType) (libraries : List FlavorLibrary) (archive : IsFlavorArchive machine libraries) where
  abbrev members : List MemberView
  members = archive_of_both libraries

  -- Why a member is needed for names: they want it, or what leaves its symbol is needed.
  abbrev pub Why : List (List ℕ) → FlavorLibrary → Role → Type 0
  Why names l Top = AnyOf names l
  Why names l Last = AnyOf names l
  Why names l Null = (x : Library) × Among (in_flavor Msvc x) libraries × AnyOf names (in_flavor Msvc x)
  Why names l (Own n e) = is_chosen l.flavor names e ≡ true
  Why names l (Weak n e b) = Among (weak_symbol l.flavor e b) names

  pub record Needed (names : List (List ℕ)) (m : MemberView) : Type 0 where
    pub has : HasRole machine libraries archive m
    pub why : Why names has.library has.role

  need : (names : List (List ℕ)) (l : FlavorLibrary) (r : Role) (m : MemberView) → Among l libraries → IsRole libraries l r → Why names l r → m ≡ member machine l.flavor l.library r → Needed names m
  need names l r m held is why same = record { has = record { library = l; held = held; role = r; is = is; same = same }; why = why }

  -- names that only members leave are not wanted
  abbrev pub IsFixed : Role → Type 0
  IsFixed Top = Unit {0}
  IsFixed Last = Unit {0}
  IsFixed Null = Unit {0}
  IsFixed (Own n e) = ⊥
  IsFixed (Weak n e b) = ⊥

  pub not_wanted : (names : List (List ℕ)) → NamesNoMembers machine libraries names → (flavor : Flavor) (l : Library) (r : Role) (name : List ℕ) → Among (in_flavor flavor l) libraries →
      IsRole libraries (in_flavor flavor l) r → IsFixed r → Among name (symbols machine flavor l r) → Among name names → ⊥
  not_wanted names plain flavor l r name held is fixed listed want = grind (arith, in_flavor, all_among, gnu_there, msvc_there, only_one, symbols, there_not)

  -- a member that a wanted name finds
  pub needed_by_wanted : (names : List (List ℕ)) → NamesNoMembers machine libraries names → (name : List ℕ) (m : MemberView) → Found machine libraries archive name m → Among name names → Needed names m
  needed_by_wanted names plain name m x want = by x.has.library x.has.role x.has.held x.has.is x.has.same x.listed
    where
      by : (l : FlavorLibrary) (r : Role) → Among l libraries → IsRole libraries l r → m ≡ member machine l.flavor l.library r → Among name (symbols machine l.flavor l.library r) → Needed names m
      by l Top held is same listed = absurd (not_wanted names plain l.flavor l.library Top name held is tt listed want)
      by l Last held is same listed = absurd (not_wanted names plain l.flavor l.library Last name held is tt listed want)
      by l Null held is same listed = absurd (not_wanted names plain l.flavor l.library Null name held is tt listed want)
      by l (Own n e) held is same listed = need names l (Own n e) m held is (chosen_by l.flavor names e name is.1 listed want) same
      by l (Weak n e b) held is same listed = need names l (Weak n e b) m held is (subst (λ x. Among x names) (only_one name _ listed) want) same

  -- a name finds the member whose symbol it is
  found_is : (flavor : Flavor) (l : Library) (r : Role) (name : List ℕ) (m : MemberView) → Among (in_flavor flavor l) libraries → IsRole libraries (in_flavor flavor l) r →
      Among name (symbols machine flavor l r) → first_listed members name ≡ Some m → m ≡ member machine flavor l r
  found_is flavor l r name m held is listed at = (let e : Some m ≡ Some (member machine flavor l r) = sym at ∙ finds machine libraries archive flavor l r name held is listed in cc)

  -- a member that a name finds which a needed member leaves that is no weak external
  needed_by_left : (names : List (List ℕ)) (name : List ℕ) (m : MemberView) → first_listed members name ≡ Some m → (flavor : Flavor) (l : Library) (r : Role) → Among (in_flavor flavor l) libraries →
      IsRole libraries (in_flavor flavor l) r → Why names (in_flavor flavor l) r → is_weak_role r ≡ false → Among name (left machine flavor l r) → Needed names m
  unfolding Among
  needed_by_left names name m at Gnu l Top held is why plain named = need names (in_flavor Gnu l) Last m held tt why (found_is Gnu l Last name m held tt named at)
  needed_by_left names name m at Msvc l Top held is why plain (inr named) = need names (in_flavor Msvc l) Last m held tt why (found_is Msvc l Last name m held tt named at)
  needed_by_left names name m at Msvc l Top held is why plain (inl named) = by (msvc_among libraries) refl (msvc_there libraries l held)
    where
      by : (ls : List Library) → msvc_among libraries ≡ ls → Among l ls → Needed names m
      by [] first there = absurd there
      by (x ∷ rest) first there =
          let own : Among (in_flavor Msvc x) libraries = there_msvc libraries x (first_held libraries x rest first) in
          need names (in_flavor Msvc x) Null m own (rest, first) (l, held, why) (found_is Msvc x Null name m own (rest, first) (inl named) at)
  needed_by_left names name m at flavor l Last held is why plain named = absurd named
  needed_by_left names name m at flavor l Null held is why plain named = absurd named
  needed_by_left names name m at flavor l (Own n e) held is why plain named =
      need names (in_flavor flavor l) Top m held tt (record { number = n; export = e; is = is.0; want = why }) (found_is flavor l Top name m held tt named at)
  needed_by_left names name m at flavor l (Weak n e b) held is why plain named = absurd (true≢false plain)

  module _ (reads : List ℕ → Option Object) (weak : MemberView → Bool) (reader : IsReader machine libraries archive reads weak) (wanted : List (List ℕ)) (taken : List MemberView) where
    -- what is wanted with what the weak externals leave that are taken
    abbrev pub all_wanted : List (List ℕ)
    all_wanted = wanted ++ left_as reads (filter weak taken)

    -- whatever is taken is needed
    pub needed : NamesNoMembers machine libraries all_wanted → (earlier : List MemberView) → ((m : MemberView) → Among m earlier → Among m taken) → AreTakenInTurnAs reads members wanted earlier →
        (m : MemberView) → Among m earlier → Needed all_wanted m
    unfolding Among AreTakenInTurnAs left_as
    needed plain [] there turn m held = absurd held
    needed plain (t ∷ earlier) there turn m (inr held) = needed plain earlier (λ x behind. there x (inr behind)) turn.1 m held
    needed plain (t ∷ earlier) there turn m (inl e) =
        let pulls = turn.0.1 in
        let name : List ℕ = turn.0.0 in
        let by_wanted : Among name all_wanted → Needed all_wanted t = needed_by_wanted all_wanted plain name t (found machine libraries archive name t pulls.listed) in
        subst (Needed all_wanted) (sym e)
        (elim (among_either name wanted (flat_map undefined_in (objects_as reads earlier)) (contains_among name _ pulls.named)) [
          | inl want ↦ by_wanted (among_front name wanted (left_as reads (filter weak taken)) want)
          | inr left_name ↦
              let from = name_as reads undefined_in name earlier left_name in
              let x = needed plain earlier (λ y behind. there y (inr behind)) turn.1 from.member from.held in
              let is : weak from.member ≡ is_weak_role x.has.role = weak_by_role machine libraries archive reads weak reader from.member x.has in
              elim (cases_Bool (is_weak_role x.has.role)) [
                | inl one ↦ by_wanted (among_back name wanted (left_as reads (filter weak taken))
                    (as_name reads undefined_in name (filter weak taken) from.member from.object (passes weak from.member taken (there from.member (inr from.held)) (is ∙ one)) from.taken from.among))
                | inr plain_one ↦ needed_by_left all_wanted name t pulls.listed x.has.library.flavor x.has.library.library x.has.role x.has.held x.has.is x.why plain_one
                    (left_by_role machine libraries archive reads weak reader from.member x.has from.object name from.taken from.among)
              ]
        ])

    module _ (takes : TakesAs reads members wanted taken) where
      pub each_first : (m : MemberView) → Among m taken → IsFirstAs reads members m
      each_first m held =
          let by = pulled reads members wanted taken takes.in_turn m held in
          first_by_role machine libraries archive reads weak reader m (found machine libraries archive by.0 m by.1).has

      -- what a name finds that is wanted, or left by a member which is taken
      pub wanted_taken : (flavor : Flavor) (l : Library) (r : Role) (name : List ℕ) → Among (in_flavor flavor l) libraries → IsRole libraries (in_flavor flavor l) r → Among name (symbols machine flavor l r) →
          Among name all_wanted → Among (member machine flavor l r) taken
      wanted_taken flavor l r name held is listed want =
          reached_as reads members weak taken each_first wanted takes name (member machine flavor l r) (finds machine libraries archive flavor l r name held is listed)
          (still_as reads members weak taken each_first wanted name want)

      reach : (flavor : Flavor) (l : Library) (r : Role) → Among (in_flavor flavor l) libraries → IsRole libraries (in_flavor flavor l) r → Among (member machine flavor l r) taken →
          (kind : Flavor) (x : Library) (s : Role) (name : List ℕ) → Among (in_flavor kind x) libraries → IsRole libraries (in_flavor kind x) s → Among name (left machine flavor l r) →
          Among name (symbols machine kind x s) → Among (member machine kind x s) taken
      reach flavor l r held is own kind x s name there so named listed =
          reached_as reads members weak taken each_first wanted takes name (member machine kind x s) (finds machine libraries archive kind x s name there so listed)
          (left_as_by reads members weak taken each_first wanted (member machine flavor l r) (object machine flavor l r) name own (reader.taken flavor l r held is)
          (subst (Among name) (sym (left_as_role machine flavor l r (by_name machine libraries archive flavor l held))) named))

      own_taken : (l : FlavorLibrary) (n : ℕ) (e : ExportView) → Among l libraries → IsRole libraries l (Own n e) → is_chosen l.flavor all_wanted e ≡ true → Among (member machine l.flavor l.library (Own n e)) taken
      own_taken l n e held is want =
          let name = chosen_name l.flavor all_wanted e want in
          wanted_taken l.flavor l.library (Own n e) name.0 held is name.1 name.2

      top_taken : (l : FlavorLibrary) → Among l libraries → AnyOf all_wanted l → Among (member machine l.flavor l.library Top) taken
      top_taken l held any =
          let is : IsRole libraries l (Own any.number any.export) = (any.is, own_chosen l.flavor all_wanted any.export any.want) in
          reach l.flavor l.library (Own any.number any.export) held is (own_taken l any.number any.export held is any.want) l.flavor l.library Top _ held tt (among_first _ _) (among_first _ _)

      -- and whatever is needed is taken
      pub taken_if_needed : (l : FlavorLibrary) (r : Role) → Among l libraries → IsRole libraries l r → Why all_wanted l r → Among (member machine l.flavor l.library r) taken
      taken_if_needed l Top held is why = top_taken l held why
      taken_if_needed l Last held is why = reach l.flavor l.library Top held tt (top_taken l held why) l.flavor l.library Last _ held tt (grind (arith, among_first, among_later)) (among_first _ _)
      taken_if_needed l Null held is (x, there, any) = reach Msvc x Top there tt (top_taken (in_flavor Msvc x) there any) l.flavor l.library Null _ held is (among_first _ _) (among_first _ _)
      taken_if_needed l (Own n e) held is why = own_taken l n e held is why
      taken_if_needed l (Weak n e b) held is why = wanted_taken l.flavor l.library (Weak n e b) _ held is (among_first _ _) why

      -- What is taken and is no weak external is what is linked.

      abbrev linked_shorts : List MemberView
      linked_shorts = all_members machine (short_inputs (msvc_among libraries) all_wanted)

      abbrev shorts : List MemberView
      shorts = shorts_linked machine (msvc_among libraries) all_wanted

      abbrev exports : List MemberView
      exports = all_linked machine (inputs_wanted (gnu_among libraries) all_wanted)

      short_linked : (m : MemberView) (l : Library) → Among (in_flavor Msvc l) libraries → AnyOf all_wanted (in_flavor Msvc l) → IsLinked machine all_wanted (in_flavor Msvc l) m → Among m linked_shorts
      short_linked m l held any own =
          subst (λ ps. Among m (all_members machine ps)) (shorts_are (msvc_among libraries) all_wanted)
          (linked_into machine all_wanted (map (in_flavor Msvc) (msvc_among libraries)) m (in_flavor Msvc l) (among_map (in_flavor Msvc) l (msvc_among libraries) (msvc_there libraries l held)) any own)

      linked_too : (m : MemberView) (flavor : Flavor) (l : Library) → Among (in_flavor flavor l) libraries → AnyOf all_wanted (in_flavor flavor l) → IsLinked machine all_wanted (in_flavor flavor l) m →
          Among m (shorts ++ exports)
      linked_too m Msvc l held any own = among_front m shorts exports (member_with machine (msvc_among libraries) m linked_shorts (short_linked m l held any own))
      linked_too m Gnu l held any own =
          among_back m shorts exports (subst (Among m) (linked_are machine (gnu_among libraries) all_wanted)
          (linked_into machine all_wanted (map (in_flavor Gnu) (gnu_among libraries)) m (in_flavor Gnu l) (among_map (in_flavor Gnu) l (gnu_among libraries) (gnu_there libraries l held)) any own))

      linked_if_other : (m : MemberView) (l : FlavorLibrary) (r : Role) → Among l libraries → IsRole libraries l r → Why all_wanted l r → m ≡ member machine l.flavor l.library r → is_weak_role r ≡ false →
          Among m (shorts ++ exports)
      linked_if_other m l Top held is why same plain = linked_too m l.flavor l.library held why (TheTop same)
      linked_if_other m l Last held is why same plain = linked_too m l.flavor l.library held why (TheLast same)
      linked_if_other m l (Own n e) held is why same plain = linked_too m l.flavor l.library held (record { number = n; export = e; is = is.0; want = why }) (AnOwn n e is.0 same why)
      linked_if_other m l (Weak n e b) held is why same plain = absurd (true≢false plain)
      linked_if_other m l Null held is (x, there, any) same plain =
          among_front m shorts exports (null_with machine (msvc_among libraries) m (member machine Msvc x Top) linked_shorts (by l.flavor is)
          (short_linked (member machine Msvc x Top) x there any (TheTop refl)))
        where
          by : (flavor : Flavor) → IsNull (msvc_among libraries) flavor l.library → Among m (first_null machine (msvc_among libraries))
          by Gnu null = absurd null
          by Msvc null = subst (λ ls. Among m (first_null machine ls)) (sym null.1) (subst (λ y. Among y (null_of machine l.library ∷ [])) (sym same) (among_first _ _))

      -- a member that is linked is taken, and is no weak external
      abbrev IsOther : MemberView → Type 0
      IsOther m = Among m taken × (weak m ≡ false)

      pub as_other : (m : MemberView) (l : FlavorLibrary) (r : Role) → Among l libraries → IsRole libraries l r → Why all_wanted l r → m ≡ member machine l.flavor l.library r → is_weak_role r ≡ false → IsOther m
      as_other m l r held is why same plain =
          grind (arith, taken_if_needed l r held is why, weak_by_role machine libraries archive reads weak reader m (record { library = l; held = held; role = r; is = is; same = same }))

      pub linked_other : (m : MemberView) (l : FlavorLibrary) → Among l libraries → AnyOf all_wanted l → IsLinked machine all_wanted l m → IsOther m
      linked_other m l held any (TheTop same) = as_other m l Top held tt any same refl
      linked_other m l held any (TheLast same) = as_other m l Last held tt any same refl
      linked_other m l held any (AnOwn n e is same want) = as_other m l (Own n e) held (is, own_chosen l.flavor all_wanted e want) want same refl

      -- what is linked of the libraries of one flavour
      from_short : (m : MemberView) → Among m linked_shorts → (l : Library) × Among (in_flavor Msvc l) libraries × AnyOf all_wanted (in_flavor Msvc l) × IsLinked machine all_wanted (in_flavor Msvc l) m
      from_short m held =
          let from = linked_from machine all_wanted (map (in_flavor Msvc) (msvc_among libraries)) m (subst (λ ps. Among m (all_members machine ps)) (sym (shorts_are (msvc_among libraries) all_wanted)) held) in
          let l = among_mapped (in_flavor Msvc) from.0 (msvc_among libraries) from.1 in
          (l.0, there_msvc libraries l.0 l.1, subst (AnyOf all_wanted) l.2 from.2, subst (λ x. IsLinked machine all_wanted x m) l.2 from.3)

      from_export : (m : MemberView) → Among m exports → IsOther m
      from_export m held =
          let from = linked_from machine all_wanted (map (in_flavor Gnu) (gnu_among libraries)) m (subst (Among m) (sym (linked_are machine (gnu_among libraries) all_wanted)) held) in
          let l = among_mapped (in_flavor Gnu) from.0 (gnu_among libraries) from.1 in
          linked_other m from.0 (subst (λ x. Among x libraries) (sym l.2) (there_gnu libraries l.0 l.1)) from.2 from.3

      from_null : (m x : MemberView) → Among m (first_null machine (msvc_among libraries)) → Among x linked_shorts → IsOther m
      unfolding Among
      from_null m x null held = by (msvc_among libraries) refl null
        where
          by : (ls : List Library) → msvc_among libraries ≡ ls → Among m (first_null machine ls) → IsOther m
          by [] first there = absurd there
          by (l ∷ rest) first there =
              let from = from_short x held in
              as_other m (in_flavor Msvc l) Null (there_msvc libraries l (first_held libraries l rest first)) (rest, first) (from.0, from.1, from.2) (only_one m (null_of machine l) there) refl

      other_if_linked : (m : MemberView) → Among m (shorts ++ exports) → IsOther m
      other_if_linked m linked =
          elim (among_either m shorts exports linked) [
            | inl short ↦ elim (null_or_member machine (msvc_among libraries) m linked_shorts short) [
              | inl null ↦ from_null m null.1.0 null.0 null.1.1
              | inr own ↦ let from = from_short m own in linked_other m (in_flavor Msvc from.0) from.1 from.2 from.3
            ]
            | inr export ↦ from_export m export
          ]

      module _ (plain : NamesNoMembers machine libraries all_wanted) where
        needed_all : (m : MemberView) → Among m taken → Needed all_wanted m
        needed_all m held = needed plain taken (λ x there. there) takes.in_turn m held

        pub others_are : HaveSame (filter (λ m. not (weak m)) taken) (shorts_linked machine (msvc_among libraries) all_wanted ++ all_linked machine (inputs_wanted (gnu_among libraries) all_wanted))
        others_are m = (
          λ held.
              let kept = passing (λ y. not (weak y)) m taken (contains_among m (filter (λ y. not (weak y)) taken) held) in
              let x = needed_all m kept.0 in
              among_contains m (shorts ++ exports) (linked_if_other m x.has.library x.has.role x.has.held x.has.is x.why x.has.same
              (sym (weak_by_role machine libraries archive reads weak reader m x.has) ∙ from_not (weak m) kept.1)),
          λ linked.
              let other = other_if_linked m (contains_among m (shorts ++ exports) linked) in
              among_contains m (filter (λ y. not (weak y)) taken) (passes (λ y. not (weak y)) m taken other.0 (not_from_false (weak m) other.1)),
        )

        pub weak_are : AllByRecursion (IsWeakOfLibraries libraries all_wanted) (filter weak taken)
        weak_are = all_each (IsWeakOfLibraries libraries all_wanted) (filter weak taken) (λ m held.
            let kept = passing weak m taken held in
            let x = needed_all m kept.0 in
            (grind (arith, gnu_there, among_at, among_contains, msvc_there, weak_symbol, true≢false, x.has.is, x.has.same, sym (weak_by_role machine libraries archive reads weak reader m x.has) ∙ kept.1)))

-- of an archive of both flavours
pub both_taken : (machine : MachineType) (libraries : List FlavorLibrary) → IsFlavorArchive machine libraries → (wanted : List (List ℕ)) (taken : List MemberView) →
    NamesNoMembers machine libraries (wanted_with_weak machine wanted taken) → TakesAs (expanded_in machine) (archive_of_both libraries) wanted taken → TakesOfLibraries machine libraries wanted taken
both_taken machine libraries archive wanted taken plain takes = record {
  inputs = others_are machine libraries archive (expanded_in machine) (is_weak_in machine) (expands machine libraries archive) wanted taken takes plain;
  weak = weak_are machine libraries archive (expanded_in machine) (is_weak_in machine) (expands machine libraries archive) wanted taken takes plain;
}

-- What a linker takes of an archive of both flavours for objects that may be given closes a program, however it reads members.

-- the target of the alias of data
pub data_target : (libraries : List Library) (l : Library) (n : ℕ) (e : ExportView) → Among l libraries → slice_get (exports_of l) n ≡ Some e → is_alias e.alias_target e.name ≡ true → e.is_data ≡ true →
    Among e.alias_target (alias_targets libraries)
data_target libraries l n e held at alias is_data =
    among_flat (λ (x : Library). map (λ (y : ExportView). y.alias_target) (filter is_data_alias (exports_of x))) l libraries e.alias_target held
    (among_map (λ (x : ExportView). x.alias_target) e (filter is_data_alias (exports_of l)) (passes is_data_alias e (exports_of l) (among_at e (exports_of l) n at) (rw (is_data, alias) refl)))

module _ (machine : MachineType) (libraries : List FlavorLibrary) (archive : IsFlavorArchive machine libraries) (own : List Object) (given : AreGiven machine libraries own) where
  abbrev pub kept : List (List ℕ)
  kept = symbols_kept machine libraries own

  abbrev pub most : List (List ℕ)
  most = wanted_at_most libraries own

  abbrev wanted_symbols : List (List ℕ)
  wanted_symbols = symbols_wanted (gnu_among libraries) most ++ import_symbols_wanted (msvc_among libraries) most

  -- Symbols that members alone may claim.

  pub header_kept : (name : List ℕ) → Among name (headers_of_both machine libraries) → Among name kept
  header_kept name held = among_front name (headers_of_both machine libraries) (targets_of_both libraries ++ wanted_symbols) held

  pub target_kept : (name : List ℕ) → Among name (targets_of_both libraries) → Among name kept
  target_kept name held = among_back name (headers_of_both machine libraries) (targets_of_both libraries ++ wanted_symbols) (among_front name (targets_of_both libraries) wanted_symbols held)

  symbol_kept : (name : List ℕ) → Among name wanted_symbols → Among name kept
  symbol_kept name held = among_back name (headers_of_both machine libraries) (targets_of_both libraries ++ wanted_symbols) (among_back name (targets_of_both libraries) wanted_symbols held)

  short_header_kept : (l : Library) (name : List ℕ) → Among l (msvc_among libraries) →
      Among name (null_descriptor_symbol ∷ flat_map (λ (x : Library). descriptor_symbol (linked_dll x.definition) ∷ null_thunk_symbol (linked_dll x.definition) ∷ []) (msvc_among libraries)) → Among name kept
  unfolding Among
  short_header_kept l name there held =
      header_kept name (among_back name (heads_of machine (gnu_among libraries)) (tails_of machine (gnu_among libraries) ++ headers_of (msvc_among libraries))
      (among_back name (tails_of machine (gnu_among libraries)) (headers_of (msvc_among libraries)) (by (msvc_among libraries) there held)))
    where
      by : (ls : List Library) → Among l ls → Among name (null_descriptor_symbol ∷ flat_map (λ (x : Library). descriptor_symbol (linked_dll x.definition) ∷ null_thunk_symbol (linked_dll x.definition) ∷ []) ls) →
          Among name (headers_of ls)
      by [] none is = absurd none
      by (x ∷ ls) some is = is

  null_kept : (l : Library) → Among (in_flavor Msvc l) libraries → Among null_descriptor_symbol kept
  null_kept l held = short_header_kept l null_descriptor_symbol (msvc_there libraries l held) (among_first _ _)

  top_kept : (flavor : Flavor) (l : Library) → Among (in_flavor flavor l) libraries → Among (top_symbol machine flavor l) kept
  top_kept Gnu l held =
      header_kept _ (among_front _ (heads_of machine (gnu_among libraries)) (tails_of machine (gnu_among libraries) ++ headers_of (msvc_among libraries))
      (among_map (λ (x : Library). head_symbol machine (linked_name x.definition)) l (gnu_among libraries) (gnu_there libraries l held)))
  top_kept Msvc l held = grind (arith, msvc_there libraries l held, short_header_kept, among_later, among_flat, among_first)

  last_kept : (flavor : Flavor) (l : Library) → Among (in_flavor flavor l) libraries → Among (last_symbol machine flavor l) kept
  last_kept Gnu l held =
      header_kept _ (among_back _ (heads_of machine (gnu_among libraries)) (tails_of machine (gnu_among libraries) ++ headers_of (msvc_among libraries))
      (among_front _ (tails_of machine (gnu_among libraries)) (headers_of (msvc_among libraries))
      (among_map (λ (x : Library). iname_symbol machine (linked_name x.definition)) l (gnu_among libraries) (gnu_there libraries l held))))
  last_kept Msvc l held = grind (arith, msvc_there libraries l held, short_header_kept, among_later, among_flat, among_first)

  pub own_kept : (flavor : Flavor) (l : Library) (e : ExportView) (name : List ℕ) → Among (in_flavor flavor l) libraries → Among e (exports_of l) → is_chosen flavor most e ≡ true → Among name (symbols_in flavor e) →
      Among name kept
  own_kept Gnu l e name held there want listed = search (rules, symbol_kept, among_front, among_flat, gnu_there, passes)
  own_kept Msvc l e name held there want listed = search (rules, symbol_kept, among_back, among_flat, msvc_there, passes)

  abbrev own_targets : ExportView → List (List ℕ)
  own_targets e = e.alias_target ∷ imp_symbol e.alias_target ∷ []

  target_in : (flavor : Flavor) (l : Library) (n : ℕ) (e : ExportView) (b : Bool) → Among (in_flavor flavor l) libraries → IsRole libraries (in_flavor flavor l) (Weak n e b) → Among (weak_target e b) (targets_of_both libraries)
  target_in Gnu l n e true held is = absurd is.1
  target_in Gnu l n e false held is = grind (arith, data_target (gnu_among libraries) l n e (gnu_there libraries l held) is.0 is.1.0 is.1.1, gnu_there libraries l held, among_front)
  target_in Msvc l n e b held is =
      grind (
        arith,
        weak_target e b,
        msvc_there libraries l held,
        passes is_short_alias e (exports_of l) (among_at e (exports_of l) n is.0) is.1,
        among_at e (exports_of l) n is.0,
        among_back,
        among_flat,
        among_first,
        among_later,
      )

  -- a weak external leaves the target of an alias
  weak_left : (l : FlavorLibrary) (r : Role) (name : List ℕ) → Among l libraries → IsRole libraries l r → is_weak_role r ≡ true → Among name (left machine l.flavor l.library r) →
      Among name (targets_of_both libraries)
  weak_left l r name held is one named = grind (arith, true≢false, only_one, target_in)

  module _ (reads : List ℕ → Option Object) (weak : MemberView → Bool) (reader : IsReader machine libraries archive reads weak) (taken : List MemberView)
      (turn : AreTakenInTurnAs reads (archive_of_both libraries) (unresolved own) taken) where
    abbrev wanted : List (List ℕ)
    wanted = unresolved own ++ left_as reads (filter weak taken)

    -- no more is wanted
    within_most : (name : List ℕ) → Among name wanted → Among name most
    unfolding left_as
    within_most name want =
        elim (among_either name (unresolved own) (flat_map undefined_in (objects_as reads (filter weak taken))) want) [
          | inl by_own ↦ among_front name (unresolved own) (targets_of_both libraries) by_own
          | inr target ↦
              let from = name_as reads undefined_in name (filter weak taken) target in
              let there = passing weak from.member taken from.held in
              let by = pulled reads (archive_of_both libraries) (unresolved own) taken turn from.member there.0 in
              let x = (found machine libraries archive by.0 from.member by.1).has in
              among_back name (unresolved own) (targets_of_both libraries)
              (weak_left x.library x.role name x.held x.is (sym (weak_by_role machine libraries archive reads weak reader from.member x) ∙ there.1)
              (left_by_role machine libraries archive reads weak reader from.member x from.object name from.taken from.among))
        ]

    fewer : (fixed : List ℕ) → list_any (bytes_eq fixed) most ≡ false → list_any (bytes_eq fixed) wanted ≡ false
    fewer fixed none = not_there fixed wanted (λ want. there_not fixed most none (within_most fixed want))

    pub names_none : NamesNoMembers machine libraries (unresolved own ++ left_as reads (filter weak taken))
    names_none = grind (arith, all_each, all_among, fewer)

    needed_here : (m : MemberView) → Among m taken → Needed machine libraries archive wanted m
    needed_here m held = needed machine libraries archive reads weak reader (unresolved own) taken names_none taken (λ x there. there) turn m held

    -- What a needed member is listed for: members alone may claim it, or the objects leave it unresolved.

    abbrev IsKept : List ℕ → Type 0
    IsKept name = Among name kept ⊎ Among name (unresolved own)

    kept_as : (name one : List ℕ) → Among one kept → Among name (one ∷ []) → Among name kept
    kept_as name one held is = subst (λ n. Among n kept) (sym (only_one name one is)) held

    listed_kept : (l : FlavorLibrary) (r : Role) (name : List ℕ) → Among l libraries → IsRole libraries l r → Why machine libraries archive wanted l r → Among name (symbols machine l.flavor l.library r) → IsKept name
    listed_kept l Top name held is why listed = inl (kept_as name _ (top_kept l.flavor l.library held) listed)
    listed_kept l Last name held is why listed = inl (kept_as name _ (last_kept l.flavor l.library held) listed)
    listed_kept l Null name held is (x, there, any) listed = inl (kept_as name _ (null_kept x there) listed)
    listed_kept l (Own n e) name held is why listed = grind (arith, among_at e (exports_of l.library) n is.0, chosen_too l.flavor wanted most e within_most why, why, inl, own_kept, within_most)
    listed_kept l (Weak n e b) name held is why listed =
        elim (among_either name (unresolved own) (targets_of_both libraries) (within_most name (subst (λ x. Among x wanted) (sym (only_one name _ listed)) why))) [
          | inl by_own ↦ inr by_own
          | inr target ↦ inl (target_kept name target)
        ]

    -- What it leaves to others, members alone may claim.

    left_kept : (flavor : Flavor) (l : Library) (r : Role) (name : List ℕ) → Among (in_flavor flavor l) libraries → IsRole libraries (in_flavor flavor l) r → Among name (left machine flavor l r) → Among name kept
    unfolding Among
    left_kept Gnu l Top name held is named = kept_as name _ (last_kept Gnu l held) named
    left_kept Msvc l Top name held is (inl named) = kept_as name _ (null_kept l held) (inl named)
    left_kept Msvc l Top name held is (inr named) = kept_as name _ (last_kept Msvc l held) named
    left_kept flavor l (Own n e) name held is named = kept_as name _ (top_kept flavor l held) named
    left_kept flavor l (Weak n e b) name held is named = kept_as name _ (target_kept _ (target_in flavor l n e b held is)) named
    left_kept flavor l r name held is named = grind arith

    left_of : (name : List ℕ) → Among name (flat_map undefined_in (objects_as reads taken)) → Among name kept
    left_of name named =
        let from = name_as reads undefined_in name taken named in
        let x = (needed_here from.member from.held).has in
        left_kept x.library.flavor x.library.library x.role name x.held x.is (left_by_role machine libraries archive reads weak reader from.member x from.object name from.taken from.among)

    pub claims_none : AllByRecursion (ClaimsNone (listed_in taken ++ left_as reads taken)) own
    claims_none = none_claimed reads own taken kept given.claims (λ m name held listed.
        let x = needed_here m held in
        listed_kept x.has.library x.has.role name x.has.held x.has.is x.why
        (subst (Among name) (listed_as machine x.has.library.flavor x.has.library.library x.has.role) (subst (λ (y : MemberView). Among name y.symbols) x.has.same listed))) left_of

pub both_given_closes : (machine : MachineType) (ending : Ending) (libraries : List FlavorLibrary) (own : List Object) (taken : List MemberView) (arranged : List FlavorLibrary) (objects : List Object) →
    IsFlavorArchive machine libraries → AreGiven machine libraries own → TakesIntoFor machine (archive_of_both libraries) own taken → IsPermutation libraries arranged →
    HaveSame (filter (λ o. not (has_tables o)) objects) (own ++ objects_taken machine (weak_in machine taken)) → AreEnded ending machine (inputs_in machine arranged own taken) objects →
    AreClosed machine ending libraries own taken arranged objects
both_given_closes machine ending libraries own taken arranged objects archive given takes order others ended =
    search (rules, in_turn_for (expanded_in machine) (archive_of_both libraries) own taken takes.in_turn, expands machine libraries archive, claims_none, names_none)
