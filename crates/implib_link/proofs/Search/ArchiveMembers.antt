-- What a linker takes of the members for GNU's linker.
use Rattle.std.proofs.Common.{◌≡◌, ℕ, suc, ◌+◌, Bool, length, true, List, [], ◌∷◌, ◌++◌, Option, Some, None, refl, ap, sym, ◌∙◌, subst, inl, inr, ◌⊎◌, arith, map, ◌≤◌, false, if◌then◌else◌}
use Rattle.std.specs.Prelude.{bytes_eq, slice_get, reverse, IsPermutation}
use Rattle.std.specs.List.{filter, filter_map, list_any, AllByRecursion, IsDistinct, flat_map, sum_by}
use Rattle.std.proofs.lemmas.Bool.{cases_Bool, false_from_ne_true}
use Rattle.std.proofs.lemmas.List.{append_assoc, length-append, append-nil, map-append, reverse-append}
use Rattle.implib.specs.declared.machine.MachineType.{MachineType}
use Rattle.implib.specs.Definition.{ExportView}
use Rattle.implib.specs.Members.Gnu.{archive_symbols, export_object, head_object, head_symbol, iname_symbol, tail_object, weak_address_name, weak_name}
use Rattle.implib.specs.Import.{imp_symbol, is_alias}
use Rattle.implib.specs.Link.LinkedMembers.{numbered_spec, chosen_exports}
use Rattle.std.specs.Option.{option_map}
use Rattle.implib.specs.Members.MemberSpec.{MemberSpec, member_of, MemberView}
use Rattle.implib.specs.Members.GnuMembers.{export_spec, head_spec, numbered_specs, numbered_specs_of, tail_spec, alias_specs, gnu_specs}
use Rattle.implib.proofs.Link.Placement.{export, head, tail}
use Rattle.implib.proofs.Link.Ranges.{Among, among_back, among_first, among_front, among_later, among_flat}
use Rattle.implib_link.specs.Search.Search.{is_wanted, undefined_in, numbers_passing, Library, symbols_of_export, first_listed, IsLibrary, exports_of, is_weak_entry, symbols_of_library, exports_wanted}
use Rattle.implib_link.proofs.Search.Lists.{among_any, among_either, any_among, any_from, any_of, kept_into, kept_from, distinct_apart, distinct_later, listed_is, none_among, contains_among}
use Rattle.implib.specs.LibraryName.{NamesOfDll, linked_name, names_for}
use Rattle.std.proofs.lemmas.Option.{same_Some}
use Rattle.std.proofs.lemmas.Grind.{common_steps, flat_map-append}
use Rattle.implib.specs.Members.WeakExternal.{weak_spec, weak_object}
use Rattle.implib.specs.declared.flavor.Flavor.TheVariants.{Gnu}
use Rattle.implib.specs.Formats.Layout.{encoded_size, object_of}
use Rattle.implib.specs.Members.Members.{is_too_long}
use Rattle.implib.specs.Formats.Object.{object_in}
use Rattle.implib.proofs.Link.LinkedMembers.{among_reverse, linked_free, export_reads, head_reads, not_long, sound, tail_reads, all_at, among_contains}
use Rattle.implib.proofs.Members.MsvcObjects.{Fits-weak_object}
use Rattle.implib.proofs.Members.NotRefused.{Sound, short_enough}
use Rattle.implib.proofs.Formats.ObjectReading.{object_in-encoded}
use Rattle.std.proofs.lemmas.List.Sorted.{sum_by-IsPermutation, Contains-permutation, IsPermutation-reverse}
use Rattle.std.proofs.lemmas.List.Sums.{sum_by-append}
use Rattle.std.proofs.lemmas.Slice.Eq.{bytes_eq-Decides}
use Rattle.implib.proofs.Link.LinkedBlocks.{linked_symbols}

-- What specifications there are.

-- one export's specifications are among those of all
pub numbered_in : (machine : MachineType) (dll : List ℕ) (exports : List ExportView) (start n : ℕ) (e : ExportView) (p : MemberSpec) → slice_get exports n ≡ Some e →
    Among p (numbered_specs_of machine dll (start + n) e) → Among p (numbered_specs machine dll start exports)
numbered_in machine dll (x ∷ exports) start (suc n) e p is held =
    among_back p (numbered_specs_of machine dll start x) (numbered_specs machine dll (start + 1) exports)
    (numbered_in machine dll exports (start + 1) n e p is (subst (λ n. Among p (numbered_specs_of machine dll n e)) (omega arith) held))
numbered_in machine dll exports start n e p is held = grind (arith, among_front)

-- The numbers of wanted exports.

pub number_wanted : (wanted : List (List ℕ)) (exports : List ExportView) (start n : ℕ) (e : ExportView) → slice_get exports n ≡ Some e → is_wanted wanted e ≡ true →
    Among (start + n) (numbers_passing (is_wanted wanted) start exports)
unfolding Among
number_wanted wanted (x ∷ exports) start (suc n) e is want = grind (arith, number_wanted wanted exports (start + 1))
number_wanted wanted exports start n e is want = grind arith

pub wanted_number : (wanted : List (List ℕ)) (exports : List ExportView) (start k : ℕ) → Among k (numbers_passing (is_wanted wanted) start exports) →
    (n : ℕ) × (e : ExportView) × (k ≡ start + n) × (slice_get exports n ≡ Some e) × (is_wanted wanted e ≡ true)
unfolding Among
wanted_number wanted [] start k held = absurd held
wanted_number wanted (x ∷ exports) start k held =
    elim (cases_Bool (is_wanted wanted x)) [
      | inl here ↦
          elim (rw here at held) [
            | inl is ↦ let position : start ≡ start + 0 = omega arith in (0, x, is ∙ position, refl, here)
            | inr behind ↦ next (wanted_number wanted exports (start + 1) k behind)
          ]
      | inr none ↦ next (wanted_number wanted exports (start + 1) k (rw none at held))
    ]
  where
    next : ((n : ℕ) × (e : ExportView) × (k ≡ start + 1 + n) × (slice_get exports n ≡ Some e) × (is_wanted wanted e ≡ true)) →
        (n : ℕ) × (e : ExportView) × (k ≡ start + n) × (slice_get (x ∷ exports) n ≡ Some e) × (is_wanted wanted e ≡ true)
    next later = let position : start + 1 + later.0 ≡ start + suc later.0 = omega arith in (suc later.0, later.1, later.2 ∙ position, later.3, later.4)

pub at_end : {X : Type 0} (front : List X) (x : X) (behind : List X) → slice_get (front ++ x ∷ behind) (length front) ≡ Some x
at_end [] x behind = refl
at_end (y ∷ front) x behind = at_end front x behind

pub passing_chosen : (test : ExportView → Bool) (front exports : List ExportView) → filter_map (slice_get (front ++ exports)) (numbers_passing test (length front) exports) ≡ filter test exports
passing_chosen test front [] = refl
passing_chosen test front (e ∷ exports) = grind (arith, passing_chosen test (front ++ e ∷ []) exports, append_assoc, length-append, at_end)

pub some_export : (test : ExportView → Bool) (number : ℕ) (exports : List ExportView) (n : ℕ) (chosen : List ℕ) → numbers_passing test number exports ≡ n ∷ chosen → (e : ExportView) × (Among e exports × (test e ≡ true))
some_export test number [] n chosen is = cc
some_export test number (e ∷ exports) n chosen is = grind (arith, some_export test (number + 1) exports n chosen, among_first, among_later)

-- a name of some names is wanted
pub wants : (wanted names : List (List ℕ)) (name : List ℕ) → Among name names → Among name wanted → list_any (λ n. list_any (bytes_eq n) wanted) names ≡ true
wants wanted names name held want = any_from (λ n. list_any (bytes_eq n) wanted) name names held (among_any name wanted want)

pub wanted_name : (wanted names : List (List ℕ)) → list_any (λ n. list_any (bytes_eq n) wanted) names ≡ true → (name : List ℕ) × Among name names × Among name wanted
wanted_name wanted names is = let by = any_of (λ n. list_any (bytes_eq n) wanted) names is in (by.0, by.1, any_among by.0 wanted by.2)

-- The specifications of chosen exports.

pub member_spec_chosen : (machine : MachineType) (dll : List ℕ) (exports : List ExportView) (chosen : List ℕ) (n : ℕ) (e : ExportView) → Among n chosen →
    slice_get exports n ≡ Some e → Among (export_spec machine dll n e) (filter_map (numbered_spec machine dll exports) chosen)
member_spec_chosen machine dll exports chosen n e held is = kept_into (numbered_spec machine dll exports) chosen (export_spec machine dll n e) n held (ap (option_map (export_spec machine dll n)) is)

-- a specification of a chosen export
abbrev pub Chosen : MachineType → List ℕ → List ExportView → List ℕ → MemberSpec → Type 0
Chosen machine dll exports chosen p =
    (n : ℕ) × (e : ExportView) × Among n chosen × (slice_get exports n ≡ Some e) × (p ≡ export_spec machine dll n e)

pub chosen_member_spec : (machine : MachineType) (dll : List ℕ) (exports : List ExportView) (chosen : List ℕ) (p : MemberSpec) →
    Among p (filter_map (numbered_spec machine dll exports) chosen) → Chosen machine dll exports chosen p
chosen_member_spec machine dll exports chosen p held = grind (arith, kept_from)

-- What the members leave to others, claim, and are listed for.

pub left_tail : (machine : MachineType) (dll : NamesOfDll) → undefined_in (tail machine dll) ≡ []
unfolding undefined_in tail_object
left_tail machine dll = refl

pub left_head : (machine : MachineType) (dll : NamesOfDll) → undefined_in (head machine dll) ≡ iname_symbol machine dll.linked ∷ []
unfolding undefined_in head_object
left_head machine dll = refl

pub left_export : (machine : MachineType) (dll : NamesOfDll) (e : ExportView) → undefined_in (export machine dll e) ≡ head_symbol machine dll.linked ∷ []
unfolding undefined_in export_object
left_export machine dll e = elim (cases_Bool e.is_data) [ inl is ↦ rw is refl | inr is ↦ rw is refl ]

pub listed_export : (machine : MachineType) (dll : List ℕ) (n : ℕ) (e : ExportView) → (member_of (export_spec machine dll n e)).symbols ≡ archive_symbols e
unfolding export_spec
listed_export machine dll n e = refl

pub address_listed : (e : ExportView) → Among (imp_symbol e.name) (archive_symbols e)
unfolding Among
address_listed e = elim (cases_Bool e.is_data) [ inl is ↦ rw is (inl refl) | inr is ↦ rw is (inr (inl refl)) ]

pub only_one : {X : Type 0} (x y : X) → Among x (y ∷ []) → x ≡ y
unfolding Among
only_one x y h2 = grind arith

pub in_nothing : {X : Type 0} (x : X) → Among x [] → ⊥
unfolding Among
in_nothing x held = held

-- What is linked of chosen exports.

-- numbers are of exactly the wanted exports
pub record AreWanted (exports : List ExportView) (wanted : List (List ℕ)) (chosen : List ℕ) : Type 0 where
  pub only : (k : ℕ) → Among k chosen → (e : ExportView) × (slice_get exports k ≡ Some e) × (is_wanted wanted e ≡ true)
  pub all : (k : ℕ) (e : ExportView) → slice_get exports k ≡ Some e → is_wanted wanted e ≡ true → Among k chosen

pub numbers_are_wanted : (exports : List ExportView) (wanted : List (List ℕ)) → AreWanted exports wanted (numbers_passing (is_wanted wanted) 0 exports)
numbers_are_wanted exports wanted = record {
  only = λ k held. grind (arith, wanted_number);
  all = λ k e is want. grind (arith, number_wanted wanted exports 0 k e is want);
}

abbrev member_specs_linked : MachineType → NamesOfDll → List ExportView → List ℕ → List MemberSpec
member_specs_linked machine dll exports chosen = head_spec machine dll.linked ∷ (filter_map (numbered_spec machine dll.linked exports) chosen ++ tail_spec machine dll ∷ [])

pub member_spec_linked : (machine : MachineType) (dll : NamesOfDll) (exports : List ExportView) (chosen : List ℕ) (p : MemberSpec) → Among p (member_specs_linked machine dll exports chosen) →
    (p ≡ head_spec machine dll.linked) ⊎ ((p ≡ tail_spec machine dll) ⊎ Chosen machine dll.linked exports chosen p)
unfolding Among
member_spec_linked machine dll exports chosen p (inl e) = inl e
member_spec_linked machine dll exports chosen p (inr held) = grind (arith, among_either p (filter_map (numbered_spec machine dll.linked exports) chosen) (tail_spec machine dll ∷ []) held, chosen_member_spec, only_one)

-- An archive as groups of members: the tail and the head of each library, and the members of each export. No symbol
-- is listed in two groups, so the first member of a name is found in the name's own group.

-- Groups in general: members, and the symbols that they are listed for.
pub record Group : Type 0 where
  pub members : List MemberView
  pub symbols : List (List ℕ)

-- the members of a group are listed for no other symbols
abbrev pub IsWithin : Group → Type 0
IsWithin g = (m : MemberView) (name : List ℕ) → Among m g.members → Among name m.symbols → Among name g.symbols

abbrev pub members_of_groups : List Group → List MemberView
members_of_groups groups = flat_map (λ (g : Group). g.members) groups

abbrev pub symbols_of_groups : List Group → List (List ℕ)
symbols_of_groups groups = flat_map (λ (g : Group). g.symbols) groups

-- a name that no member is listed for is looked up after
pub first_behind : (name : List ℕ) (members rest : List MemberView) → first_listed members name ≡ None → first_listed (members ++ rest) name ≡ first_listed rest name
first_behind name [] rest none = refl
first_behind name (m ∷ members) rest none = grind (arith, first_behind name members rest)

pub first_here : (name : List ℕ) (members rest : List MemberView) (m : MemberView) → first_listed members name ≡ Some m → first_listed (members ++ rest) name ≡ Some m
first_here name [] rest m found = cc
first_here name (x ∷ members) rest m found = grind (arith, first_here name members rest m)

-- what is found among some members, or nothing
pub found_or_not : (name : List ℕ) (members : List MemberView) → (first_listed members name ≡ None) ⊎ ((m : MemberView) × (first_listed members name ≡ Some m))
found_or_not name members = by (first_listed members name) refl
  where
    by : (o : Option MemberView) → first_listed members name ≡ o → (first_listed members name ≡ None) ⊎ ((m : MemberView) × (first_listed members name ≡ Some m))
    by None is = inl is
    by (Some m) is = inr (m, is)

-- what is found in a name's own group is found first of all
pub first_in_group : (name : List ℕ) (groups : List Group) (g : Group) (m : MemberView) → AllByRecursion IsWithin groups → IsDistinct bytes_eq (symbols_of_groups groups) →
    Among g groups → Among name g.symbols → first_listed g.members name ≡ Some m → first_listed (members_of_groups groups) name ≡ Some m
unfolding Among
first_in_group name [] g m within distinct held is found = absurd held
first_in_group name (x ∷ groups) g m within distinct (inl e) is found = grind (arith, inl, first_here)
first_in_group name (x ∷ groups) g m within distinct (inr held) is found =
    elim (found_or_not name x.members) [
      | inl none ↦ grind (arith, first_behind, distinct_later, first_in_group name groups g m within.1 (distinct_later x.symbols (symbols_of_groups groups) distinct) held is found)
      | inr here ↦
          let there = listed_is x.members name here.0 here.1 in
          absurd (distinct_apart x.symbols (symbols_of_groups groups) name distinct (within.0 here.0 name there.0 there.1) (among_flat (λ (y : Group). y.symbols) g groups name held is))
    ]

-- what is found at all is found in some group
pub group_of_first : (name : List ℕ) (groups : List Group) (m : MemberView) → first_listed (members_of_groups groups) name ≡ Some m →
    (g : Group) × Among g groups × (first_listed g.members name ≡ Some m)
unfolding Among
group_of_first name [] m found = cc
group_of_first name (x ∷ groups) m found =
    elim (found_or_not name x.members) [
      | inl none ↦ grind (arith, first_behind, group_of_first name groups m (sym (first_behind name x.members (members_of_groups groups) none) ∙ found))
      | inr here ↦ grind (arith, first_here)
    ]

-- The groups of libraries.
module _ (machine : MachineType) where
  abbrev pub tail_of : Library → MemberView
  tail_of l = member_of (tail_spec machine (names_for Gnu l.definition))

  abbrev pub head_of : Library → MemberView
  head_of l = member_of (head_spec machine (linked_name l.definition))

  abbrev pub export_of : Library → ℕ → ExportView → MemberView
  export_of l n e = member_of (export_spec machine (linked_name l.definition) n e)

  -- the weak externals of an export: of its name, and of its address
  abbrev pub weak_of : Library → ℕ → ExportView → MemberView
  weak_of l n e = member_of (weak_spec machine (weak_name (linked_name l.definition) n) e.name e.alias_target)

  abbrev pub weak_address_of : Library → ℕ → ExportView → MemberView
  weak_address_of l n e =
      member_of (weak_spec machine (weak_address_name (linked_name l.definition) n) (imp_symbol e.name) (imp_symbol e.alias_target))

  abbrev pub export_group : Library → ℕ → ExportView → Group
  export_group l n e = record {
    members = map member_of (reverse (numbered_specs_of machine (linked_name l.definition) n e));
    symbols = symbols_of_export e;
  }

  unfoldable pub export_groups : Library → ℕ → List ExportView → List Group
  export_groups l start [] = []
  export_groups l start (e ∷ exports) = export_groups l (start + 1) exports ++ export_group l start e ∷ []

  pub members_of_exports : (l : Library) (start : ℕ) (exports : List ExportView) →
      map member_of (reverse (numbered_specs machine (linked_name l.definition) start exports)) ≡ members_of_groups (export_groups l start exports)
  unfolding export_groups
  members_of_exports l start [] = refl
  members_of_exports l start (e ∷ exports) = grind (arith, reverse-append, map-append, append-nil, flat_map-append, members_of_exports l (start + 1) exports)

  pub symbols_of_exports : (l : Library) (start : ℕ) (exports : List ExportView) →
      symbols_of_groups (export_groups l start exports) ≡ flat_map symbols_of_export (reverse exports)
  unfolding export_groups
  symbols_of_exports l start [] = refl
  symbols_of_exports l start (e ∷ exports) = grind (arith, common_steps, flat_map-append, reverse-append, symbols_of_exports l (start + 1) exports)

  pub export_group_is : (l : Library) (exports : List ExportView) (start : ℕ) (g : Group) → Among g (export_groups l start exports) →
      (n : ℕ) × (e : ExportView) × (slice_get exports n ≡ Some e) × (g ≡ export_group l (start + n) e)
  unfolding Among export_groups
  export_group_is l [] start g held = absurd held
  export_group_is l (x ∷ exports) start g held =
      elim (among_either g (export_groups l (start + 1) exports) (export_group l start x ∷ []) held) [
        | inl behind ↦
            let later = export_group_is l exports (start + 1) g behind in
            (suc later.0, later.1, later.2, later.3 ∙ ap (λ n. export_group l n later.1) (omega arith))
        | inr last ↦ elim last [
          | inl e ↦ (let position : start ≡ start + 0 = omega arith in (0, x, refl, e ∙ ap (λ n. export_group l n x) position))
          | inr nothing ↦ absurd nothing
        ]
      ]

  pub group_is_export : (l : Library) (exports : List ExportView) (start n : ℕ) (e : ExportView) → slice_get exports n ≡ Some e → Among (export_group l (start + n) e) (export_groups l start exports)
  unfolding Among export_groups
  group_is_export l (x ∷ exports) start (suc n) e is = grind (arith, group_is_export l exports (start + 1) n e is, among_front)
  group_is_export l exports start n e is = grind (arith, among_back)

-- The members of a library for GNU's linker: which of an export's a name finds, and what they are read as.

-- The names of one export.

longer : (n m : ℕ) → n ≡ m → m ≡ 6 + n → ⊥
longer n m same more = omega arith

pub no_address : (name : List ℕ) → name ≡ imp_symbol name → ⊥
no_address name same = longer (length name) (length (imp_symbol name)) (ap length same) (omega arith)

pub own_symbols : (e : ExportView) (name : List ℕ) → Among name (archive_symbols e) → Among name (symbols_of_export e)
unfolding Among
own_symbols e name held = grind arith

imp_symbols : (e : ExportView) → Among (imp_symbol e.name) (symbols_of_export e)
imp_symbols e = own_symbols e (imp_symbol e.name) (address_listed e)

pub alias_symbols : (e : ExportView) → is_alias e.alias_target e.name ≡ true → Among e.name (symbols_of_export e)
unfolding Among
alias_symbols e alias = elim (cases_Bool e.is_data) [ inl is ↦ rw (is, alias) (inl refl) | inr is ↦ rw is (inl refl) ]

data_not_listed : (e : ExportView) → e.is_data ≡ true → Among e.name (archive_symbols e) → ⊥
data_not_listed e is held = grind (arith, no_address, only_one)

module _ (machine : MachineType) where
  -- The members of one export.

  plain_members : (l : Library) (n : ℕ) (e : ExportView) → is_alias e.alias_target e.name ≡ false → (export_group machine l n e).members ≡ export_of machine l n e ∷ []
  unfolding alias_specs
  plain_members l n e none = rw none refl

  alias_members : (l : Library) (n : ℕ) (e : ExportView) → is_alias e.alias_target e.name ≡ true →
      (export_group machine l n e).members ≡ export_of machine l n e ∷ weak_address_of machine l n e ∷ weak_of machine l n e ∷ []
  unfolding alias_specs
  alias_members l n e alias = rw alias refl

  -- what a member of an export's group is
  data Member (l : Library) (n : ℕ) (e : ExportView) (m : MemberView) : Type 0 where
    Own : m ≡ export_of machine l n e → Member l n e m
    WeakAddress : m ≡ weak_address_of machine l n e → Member l n e m
    Weak : is_alias e.alias_target e.name ≡ true → m ≡ weak_of machine l n e → Member l n e m

  member_is : (l : Library) (n : ℕ) (e : ExportView) (m : MemberView) → Among m (export_group machine l n e).members → Member l n e m
  unfolding Among
  member_is l n e m held =
      elim (cases_Bool (is_alias e.alias_target e.name)) [
        | inl alias ↦ of_alias alias (subst (Among m) (alias_members l n e alias) held)
        | inr none ↦ Own (only_one m (export_of machine l n e) (subst (Among m) (plain_members l n e none) held))
      ]
    where
      of_alias : is_alias e.alias_target e.name ≡ true → Among m (export_of machine l n e ∷ weak_address_of machine l n e ∷ weak_of machine l n e ∷ []) → Member l n e m
      of_alias alias (inl is) = Own is
      of_alias alias (inr (inl is)) = WeakAddress is
      of_alias alias (inr (inr last)) = Weak alias (only_one m (weak_of machine l n e) last)

  -- a name that an export's own member is listed for finds that member
  pub own_first : (l : Library) (n : ℕ) (e : ExportView) (name : List ℕ) → Among name (archive_symbols e) → first_listed (export_group machine l n e).members name ≡ Some (export_of machine l n e)
  own_first l n e name listed = grind (arith, among_any, listed_export, cases_Bool, alias_members, plain_members)

  -- and the bare name of data with an alias finds its weak external
  pub weak_first : (l : Library) (n : ℕ) (e : ExportView) → is_alias e.alias_target e.name ≡ true → e.is_data ≡ true →
      first_listed (export_group machine l n e).members e.name ≡ Some (weak_of machine l n e)
  unfolding Among
  weak_first l n e alias is_data = grind (arith, false_from_ne_true, data_not_listed, listed_export, any_among, no_address, only_one, alias_members l n e alias, among_any e.name (weak_of machine l n e).symbols (inl refl))

  -- what a name finds in an export's group
  pub data InExport (l : Library) (n : ℕ) (e : ExportView) (name : List ℕ) (m : MemberView) : Type 0 where
    FindsOwn : m ≡ export_of machine l n e → Among name (archive_symbols e) → InExport l n e name m
    FindsWeak : is_alias e.alias_target e.name ≡ true → e.is_data ≡ true → name ≡ e.name → m ≡ weak_of machine l n e → InExport l n e name m

  finds_own : (l : Library) (n : ℕ) (e : ExportView) (name : List ℕ) (m : MemberView) → first_listed (export_group machine l n e).members name ≡ Some m → Among name (archive_symbols e) → InExport l n e name m
  finds_own l n e name m found listed = FindsOwn (same_Some m (export_of machine l n e) (sym found ∙ own_first l n e name listed)) listed

  pub in_export : (l : Library) (n : ℕ) (e : ExportView) (name : List ℕ) (m : MemberView) → first_listed (export_group machine l n e).members name ≡ Some m → InExport l n e name m
  unfolding Among
  in_export l n e name m found =
      let there = listed_is (export_group machine l n e).members name m found in
      by (member_is l n e m there.0) there.1
    where
      by : Member l n e m → Among name m.symbols → InExport l n e name m
      by (Own is) listed =
          FindsOwn is (subst (Among name) (listed_export machine (linked_name l.definition) n e) (subst (λ (y : MemberView). Among name y.symbols) is listed))
      by (WeakAddress is) listed =
          let same : name ≡ imp_symbol e.name = only_one name (imp_symbol e.name) (subst (λ (y : MemberView). Among name y.symbols) is listed) in
          finds_own l n e name m found (subst (λ n. Among n (archive_symbols e)) (sym same) (address_listed e))
      by (Weak alias is) listed =
          let same : name ≡ e.name = only_one name e.name (subst (λ (y : MemberView). Among name y.symbols) is listed) in
          elim (cases_Bool e.is_data) [
            | inl is_data ↦ FindsWeak alias is_data same is
            | inr is_code ↦ finds_own l n e name m found (subst (λ n. Among n (archive_symbols e)) (sym same) (rw is_code (inl refl)))
          ]

  -- Each group's members are listed for no other symbols.

  pub within_export : (l : Library) (n : ℕ) (e : ExportView) → IsWithin (export_group machine l n e)
  within_export l n e m name held listed = grind (arith, member_is, own_symbols, listed_export, only_one, imp_symbols, alias_symbols)

  -- The objects of a library's members.
  module _ (l : Library) (made : IsLibrary machine l) where
    pub tail_object_is : object_in (tail_of machine l).bytes ≡ Some (tail machine (names_for Gnu l.definition))
    tail_object_is = cc (tail_reads machine (names_for Gnu l.definition) (exports_of l) (linked_free l.definition machine l.members [] made) (sound l.definition machine l.members [] made) (not_long l.definition machine l.members [] made))

    pub head_object_is : object_in (head_of machine l).bytes ≡ Some (head machine (names_for Gnu l.definition))
    head_object_is = cc (head_reads machine (names_for Gnu l.definition) (exports_of l) (linked_free l.definition machine l.members [] made) (sound l.definition machine l.members [] made) (not_long l.definition machine l.members [] made))

    pub export_object_is : (n : ℕ) (e : ExportView) → slice_get (exports_of l) n ≡ Some e → object_in (export_of machine l n e).bytes ≡ Some (export machine (names_for Gnu l.definition) e)
    export_object_is n e is = cc (export_reads machine (names_for Gnu l.definition) (exports_of l) (linked_free l.definition machine l.members [] made) (sound l.definition machine l.members [] made) (not_long l.definition machine l.members [] made) n e is)

    pub weak_there : (n : ℕ) (e : ExportView) → is_alias e.alias_target e.name ≡ true →
        Among (weak_spec machine (weak_name (linked_name l.definition) n) e.name e.alias_target) (numbered_specs_of machine (linked_name l.definition) n e)
    unfolding alias_specs
    weak_there n e alias = rw alias (among_first _ _)

    pub weak_object_is : (n : ℕ) (e : ExportView) → slice_get (exports_of l) n ≡ Some e → is_alias e.alias_target e.name ≡ true →
        object_in (weak_of machine l n e).bytes ≡ Some (object_of (weak_object machine e.name e.alias_target))
    weak_object_is n e is alias =
        let dll : NamesOfDll = names_for Gnu l.definition in
        let p : MemberSpec = weak_spec machine (weak_name dll.linked n) e.name e.alias_target in
        let good : Sound e = all_at Sound (exports_of l) n e (sound l.definition machine l.members [] made) is in
        let position : 0 + n ≡ n = omega arith in
        let there : Among p (gnu_specs machine dll (exports_of l)) = grind (arith, weak_there n e alias, among_later, among_reverse, numbered_in) in
        let short : encoded_size (weak_object machine e.name e.alias_target) ≤ 0xFFFF_FFFF = grind (arith, short_enough p (none_among is_too_long p (gnu_specs machine dll (exports_of l)) there (not_long l.definition machine l.members [] made))) in
        object_in-encoded (weak_object machine e.name e.alias_target) (Fits-weak_object machine e.name e.alias_target good.name good.alias_target) (omega arith)

  pub export_entries : (dll : NamesOfDll) (e : ExportView) → list_any is_weak_entry (export machine dll e).entries ≡ false
  unfolding export_object
  export_entries dll e = elim (cases_Bool e.is_data) [ inl is ↦ rw is refl | inr is ↦ rw is refl ]

-- How often a name is in a list: names differ exactly where each is there once at most. So names that differ do so in
-- any order, and where some are left out.

one_if : Bool → ℕ
one_if test = if test then 1 else 0

unfoldable pub times : List ℕ → List (List ℕ) → ℕ
unfolding one_if
times name [] = 0
times name (x ∷ xs) = one_if (bytes_eq name x) + times name xs

pub times_both : (name : List ℕ) (xs ys : List (List ℕ)) → times name (xs ++ ys) ≡ times name xs + times name ys
unfolding times
times_both name [] ys = omega arith
times_both name (x ∷ xs) ys = (let behind = times_both name xs ys in omega arith)

none_there : (name : List ℕ) (xs : List (List ℕ)) → AllByRecursion (λ other. bytes_eq name other ≡ false) xs → times name xs ≡ 0
unfolding times one_if
none_there name [] none = refl
none_there name (x ∷ xs) none = (let behind = none_there name xs none.1 in rw none.0 (omega arith))

there_none : (name : List ℕ) (xs : List (List ℕ)) → times name xs ≤ 0 → AllByRecursion (λ other. bytes_eq name other ≡ false) xs
unfolding times one_if
there_none name [] few = tt
there_none name (x ∷ xs) few = grind (arith, there_none name xs)

pub none_times : (name : List ℕ) (names : List (List ℕ)) → list_any (bytes_eq name) names ≡ false → times name names ≡ 0
unfolding times one_if
none_times name [] none = refl
none_times name (x ∷ names) none = grind (arith, none_times name names)

pub few_from : (xs : List (List ℕ)) → IsDistinct bytes_eq xs → (name : List ℕ) → times name xs ≤ 1
unfolding times one_if IsDistinct
few_from [] distinct name = omega arith
few_from (x ∷ xs) distinct name = grind (arith, few_from xs distinct.1 name, bytes_eq-Decides name x, none_there x xs distinct.0)

pub distinct_from : (xs : List (List ℕ)) → ((name : List ℕ) → times name xs ≤ 1) → IsDistinct bytes_eq xs
unfolding times one_if IsDistinct
distinct_from [] few = tt
distinct_from (x ∷ xs) few = grind (arith, distinct_from xs, bytes_eq-Decides, there_none, one_if)

-- the names that a function gives of the elements of a list
pub times_flat : {X : Type 0} (f : X → List (List ℕ)) (name : List ℕ) (xs : List X) → times name (flat_map f xs) ≡ sum_by (λ x. times name (f x)) xs
unfolding times
times_flat f name [] = refl
times_flat f name (x ∷ xs) = grind (arith, common_steps, times_flat f name xs, times_both, sum_by-append)

pub times_moved : {X : Type 0} (f : X → List (List ℕ)) (name : List ℕ) (xs ys : List X) → IsPermutation xs ys → times name (flat_map f ys) ≡ times name (flat_map f xs)
times_moved f name xs ys moved = grind (arith, times_flat, sum_by-IsPermutation)

-- What is linked of an archive of libraries, where the libraries may be in another order.

-- Elements of lists in another order.

pub among_moved : {X : Type 0} (x : X) (xs ys : List X) → IsPermutation xs ys → Among x xs → Among x ys
among_moved x xs ys moved held = contains_among x ys (Contains-permutation xs ys x moved (among_contains x xs held))

-- The exports that are chosen are those that are wanted, in their order.

pub chosen_are : (l : Library) (wanted : List (List ℕ)) → chosen_exports l.definition (exports_wanted l.definition wanted) ≡ filter (is_wanted wanted) (exports_of l)
chosen_are l wanted = passing_chosen (is_wanted wanted) [] (exports_of l)

-- The symbols of what is linked differ, since those do that the archive lists.

exports_fewer : (name : List ℕ) (test : ExportView → Bool) (es : List ExportView) → times name (flat_map archive_symbols (filter test es)) ≤ times name (flat_map symbols_of_export es)
unfolding times
exports_fewer name test [] = omega arith
exports_fewer name test (e ∷ es) = grind (arith, exports_fewer name test es)

module _ (machine : MachineType) where
  pub library_fewer : (name : List ℕ) (l : Library) (wanted : List (List ℕ)) →
      times name (linked_symbols machine (names_for Gnu l.definition) (chosen_exports l.definition (exports_wanted l.definition wanted))) ≤ times name (symbols_of_library machine l)
  unfolding symbols_of_library times
  library_fewer name l wanted =
      grind (arith, times_moved symbols_of_export name (exports_of l) (reverse (exports_of l)) (IsPermutation-reverse (exports_of l)), exports_fewer name (is_wanted wanted) (exports_of l), chosen_are l wanted, times_both, linked_symbols)
