-- The members of a library for Microsoft's linker: which of an export's a name finds, and what they are taken for.
use Rattle.std.proofs.Common.{rules, ◌≡◌, ℕ, true, false, List, [], ◌∷◌, ◌++◌, map, Some, refl, ap, sym, ◌∙◌, subst, inl, inr, ◌⊎◌, arith, ◌≤◌}
use Rattle.std.specs.List.{flat_map, filter}
use Rattle.std.proofs.lemmas.Bool.{cases_Bool, false_from_ne_true}
use Rattle.std.proofs.lemmas.List.{map-append}
use Rattle.implib.specs.declared.machine.MachineType.{MachineType}
use Rattle.implib.specs.Definition.{ExportView}
use Rattle.implib.specs.Formats.Layout.{entries_of, name_text, object_of}
use Rattle.implib.specs.Formats.Object.{Object}
use Rattle.implib.specs.Import.{imp_symbol, Ask}
use Rattle.implib.specs.Members.MemberSpec.{MemberView, member_of}
use Rattle.implib.specs.Members.Msvc.{short_import_symbol, short_import_symbols}
use Rattle.implib.specs.Members.MsvcMembers.{descriptor_spec, export_specs, header_specs, null_descriptor_spec, null_thunk_spec, short_import_spec, weak_specs}
use Rattle.implib.specs.Members.WeakExternal.{weak_object, weak_spec}
use Rattle.implib.proofs.Link.Ranges.{Among, among_back, among_first, among_flat, among_front, all_among}
use Rattle.implib_link.specs.Flavors.Expansion.{expanded_in, Use, import_object, descriptor_symbol_by_name, with_section_symbols}
use Rattle.implib_link.specs.Flavors.Program.{claimed_names, null_member, objects_taken}
use Rattle.implib_link.specs.Search.Search.{Library, exports_of, first_listed, is_listed_for, undefined_in, has_weak}
use Rattle.implib_link.specs.Search.Libraries.{IsMsvcLibrary, is_short_alias, symbols_of_short, IsMsvcArchive, first_null, imports_wanted, is_import_wanted, with_first_null, symbols_of_shorts, is_short_wanted}
use Rattle.implib_link.proofs.Flavors.Block.{asking, symbols_of}
use Rattle.implib_link.proofs.Flavors.Expanded.{taken_descriptor, taken_null, taken_null_thunk}
use Rattle.implib_link.proofs.Flavors.Inputs.{descriptor_taken, null_taken, short_taken, taken_of, thunk_taken, objects_with_null}
use Rattle.implib_link.proofs.Search.ArchiveMembers.{Group, IsWithin, members_of_groups, symbols_of_groups, in_nothing, only_one, passing_chosen, no_address, times, times_both}
use Rattle.implib_link.proofs.Search.Lists.{listed_is, among_any, any_among, among_either}
use Rattle.implib.specs.LibraryName.{NamesOfDll, linked_dll, names_for}
use Rattle.implib.specs.declared.flavor.Flavor.TheVariants.{Msvc}
use Rattle.std.proofs.lemmas.Option.{same_Some}
use Rattle.implib.specs.Members.MsvcObjects.{descriptor, null_descriptor, null_descriptor_symbol, null_thunk, null_thunk_symbol}
use Rattle.implib.specs.Link.LinkedMembers.{chosen_exports}

-- The members.

abbrev pub descriptor_of : MachineType → Library → MemberView
descriptor_of machine l = member_of (descriptor_spec machine (names_for Msvc l.definition))

abbrev pub null_of : MachineType → Library → MemberView
null_of machine l = member_of (null_descriptor_spec machine (linked_dll l.definition))

abbrev pub thunk_of : MachineType → Library → MemberView
thunk_of machine l = member_of (null_thunk_spec machine (linked_dll l.definition))

abbrev pub short_of : MachineType → Library → ExportView → MemberView
short_of machine l e = member_of (short_import_spec machine (names_for Msvc l.definition) e)

-- a weak external of an alias
abbrev pub weak_of : MachineType → Library → List ℕ → List ℕ → MemberView
weak_of machine l weak target = member_of (weak_spec machine (linked_dll l.definition) weak target)

-- what it is taken for
abbrev pub taken_weak : MachineType → List ℕ → List ℕ → Object
taken_weak machine weak target = with_section_symbols (object_of (weak_object machine weak target))

-- the names and the targets of an alias's weak externals
abbrev pub IsPair : ExportView → List ℕ → List ℕ → Type 0
IsPair e weak target =
    ((weak ≡ short_import_symbol e) × (target ≡ e.alias_target)) ⊎ ((weak ≡ imp_symbol (short_import_symbol e)) × (target ≡ imp_symbol e.alias_target))

pub claims_weak : (machine : MachineType) (weak target : List ℕ) → claimed_names (taken_weak machine weak target) ≡ weak ∷ []
unfolding with_section_symbols weak_object object_of entries_of name_text
claims_weak machine weak target = refl

pub left_weak : (machine : MachineType) (weak target : List ℕ) → undefined_in (taken_weak machine weak target) ≡ target ∷ []
unfolding undefined_in with_section_symbols weak_object object_of entries_of name_text
left_weak machine weak target = refl

-- Names of one export.

one_of_two : (e : ExportView) (name : List ℕ) → Among name (short_import_symbols e) → (name ≡ short_import_symbol e) ⊎ (name ≡ imp_symbol (short_import_symbol e))
unfolding Among
one_of_two e name is = grind arith

pub pair_symbol : (e : ExportView) (weak target : List ℕ) → is_short_alias e ≡ true → IsPair e weak target → Among weak (symbols_of_short e)
unfolding Among
pair_symbol e weak target alias is = grind arith

pub short_symbol : (e : ExportView) (name : List ℕ) → is_short_alias e ≡ false → Among name (short_import_symbols e) → Among name (symbols_of_short e)
short_symbol e name none held = rw none held

-- The members of each export are a group.
module _ (machine : MachineType) where
  abbrev pub short_group : Library → ExportView → Group
  short_group l e = record { members = map member_of (export_specs machine (names_for Msvc l.definition) e); symbols = symbols_of_short e }

  members_of_shorts : (l : Library) (es : List ExportView) → map member_of (flat_map (export_specs machine (names_for Msvc l.definition)) es) ≡ members_of_groups (map (short_group l) es)
  members_of_shorts l [] = refl
  members_of_shorts l (e ∷ es) = grind (arith, members_of_shorts l es, map-append)

  pub symbols_of_groups_of : (l : Library) (es : List ExportView) → symbols_of_groups (map (short_group l) es) ≡ flat_map symbols_of_short es
  symbols_of_groups_of l [] = refl
  symbols_of_groups_of l (e ∷ es) = ap (λ names. symbols_of_short e ++ names) (symbols_of_groups_of l es)

  -- a library's members
  pub members_are : (l : Library) → IsMsvcLibrary machine l →
      l.members ≡ descriptor_of machine l ∷ null_of machine l ∷ thunk_of machine l ∷ members_of_groups (map (short_group l) (exports_of l))
  unfolding header_specs
  members_are l made = grind (arith, members_of_shorts)

  -- The members of one export.

  alias_members : (l : Library) (e : ExportView) → is_short_alias e ≡ true →
      (short_group l e).members
      ≡ weak_of machine l (short_import_symbol e) e.alias_target
      ∷ weak_of machine l (imp_symbol (short_import_symbol e)) (imp_symbol e.alias_target)
      ∷ short_of machine l e ∷ []
  unfolding weak_specs
  alias_members l e alias = rw alias refl

  plain_members : (l : Library) (e : ExportView) → is_short_alias e ≡ false → (short_group l e).members ≡ short_of machine l e ∷ []
  unfolding weak_specs
  plain_members l e none = rw none refl

  pub short_first : (l : Library) (e : ExportView) (name : List ℕ) → is_short_alias e ≡ false → Among name (short_import_symbols e) →
      first_listed (short_group l e).members name ≡ Some (short_of machine l e)
  short_first l e name none listed = rw (plain_members l e none, among_any name (short_import_symbols e) listed) refl

  -- the symbol and the address of an alias find its weak externals
  symbol_first : (l : Library) (e : ExportView) → is_short_alias e ≡ true →
      first_listed (short_group l e).members (short_import_symbol e) ≡ Some (weak_of machine l (short_import_symbol e) e.alias_target)
  symbol_first l e alias = grind (arith, among_any (short_import_symbol e) (short_import_symbol e ∷ []) (among_first _ _), alias_members l e alias)

  address_first : (l : Library) (e : ExportView) → is_short_alias e ≡ true →
      first_listed (short_group l e).members (imp_symbol (short_import_symbol e)) ≡ Some (weak_of machine l (imp_symbol (short_import_symbol e)) (imp_symbol e.alias_target))
  address_first l e alias =
      let name : List ℕ = imp_symbol (short_import_symbol e) in
      let other : is_listed_for (imp_symbol (short_import_symbol e)) (weak_of machine l (short_import_symbol e) e.alias_target) ≡ false =
      false_from_ne_true _ (λ is. no_address (short_import_symbol e) (sym (only_one name (short_import_symbol e) (any_among name (short_import_symbol e ∷ []) is)))) in
      cc (alias_members l e alias, among_any name (name ∷ []) (among_first _ _))

  pub pair_first : (l : Library) (e : ExportView) (weak target : List ℕ) → is_short_alias e ≡ true → IsPair e weak target →
      first_listed (short_group l e).members weak ≡ Some (weak_of machine l weak target)
  pair_first l e weak target alias h5 = grind (arith, symbol_first, address_first)

  -- what a name finds in an export's group
  pub data InExport (l : Library) (e : ExportView) (name : List ℕ) (m : MemberView) : Type 0 where
    FindsShort : is_short_alias e ≡ false → m ≡ short_of machine l e → Among name (short_import_symbols e) → InExport l e name m
    FindsWeak : is_short_alias e ≡ true → (weak target : List ℕ) → IsPair e weak target → m ≡ weak_of machine l weak target → name ≡ weak → InExport l e name m

  finds_pair : (l : Library) (e : ExportView) (name : List ℕ) (m : MemberView) → is_short_alias e ≡ true → first_listed (short_group l e).members name ≡ Some m →
      (name ≡ short_import_symbol e) ⊎ (name ≡ imp_symbol (short_import_symbol e)) → InExport l e name m
  finds_pair l e name m alias found (inl is) =
      FindsWeak alias (short_import_symbol e) e.alias_target (inl (refl, refl))
      (same_Some m _ (sym found ∙ ap (first_listed (short_group l e).members) is ∙ symbol_first l e alias)) is
  finds_pair l e name m alias found (inr is) =
      FindsWeak alias (imp_symbol (short_import_symbol e)) (imp_symbol e.alias_target) (inr (refl, refl))
      (same_Some m _ (sym found ∙ ap (first_listed (short_group l e).members) is ∙ address_first l e alias)) is

  pub in_export : (l : Library) (e : ExportView) (name : List ℕ) (m : MemberView) → first_listed (short_group l e).members name ≡ Some m → InExport l e name m
  unfolding Among
  in_export l e name m found =
      let there = listed_is (short_group l e).members name m found in
      elim (cases_Bool (is_short_alias e)) [
        | inl alias ↦ finds_pair l e name m alias found (of_alias (subst (Among m) (alias_members l e alias) there.0) there.1)
        | inr none ↦ grind (arith, only_one, plain_members)
      ]
    where
      of_alias : Among m (weak_of machine l (short_import_symbol e) e.alias_target ∷ weak_of machine l (imp_symbol (short_import_symbol e)) (imp_symbol e.alias_target) ∷ short_of machine l e ∷ []) →
          Among name m.symbols → (name ≡ short_import_symbol e) ⊎ (name ≡ imp_symbol (short_import_symbol e))
      of_alias (inl is) listed = inl (only_one name (short_import_symbol e) (subst (λ (y : MemberView). Among name y.symbols) is listed))
      of_alias (inr (inl is)) listed = inr (only_one name (imp_symbol (short_import_symbol e)) (subst (λ (y : MemberView). Among name y.symbols) is listed))
      of_alias (inr (inr last)) listed = one_of_two e name (subst (λ (y : MemberView). Among name y.symbols) (only_one m (short_of machine l e) last) listed)

  -- Each group's members are listed for no other symbols.

  pub within_export : (l : Library) (e : ExportView) → IsWithin (short_group l e)
  unfolding Among
  within_export l e m name held listed =
      elim (cases_Bool (is_short_alias e)) [
        | inl alias ↦ of_alias alias (subst (Among m) (alias_members l e alias) held)
        | inr none ↦ grind (arith, short_symbol, only_one, plain_members)
      ]
    where
      either : is_short_alias e ≡ true → (name ≡ short_import_symbol e) ⊎ (name ≡ imp_symbol (short_import_symbol e)) → Among name (symbols_of_short e)
      either alias (inl is) = rw alias (inl is)
      either alias (inr is) = rw alias (inr (inl is))

      of_alias : is_short_alias e ≡ true →
          Among m (weak_of machine l (short_import_symbol e) e.alias_target ∷ weak_of machine l (imp_symbol (short_import_symbol e)) (imp_symbol e.alias_target) ∷ short_of machine l e ∷ []) →
          Among name (symbols_of_short e)
      of_alias alias (inl is) = either alias (inl (only_one name (short_import_symbol e) (subst (λ (y : MemberView). Among name y.symbols) is listed)))
      of_alias alias (inr (inl is)) = either alias (inr (only_one name (imp_symbol (short_import_symbol e)) (subst (λ (y : MemberView). Among name y.symbols) is listed)))
      of_alias alias (inr (inr last)) = either alias (one_of_two e name (subst (λ (y : MemberView). Among name y.symbols) (only_one m (short_of machine l e) last) listed))

  -- What members are taken for.
  module _ (l : Library) (made : IsMsvcLibrary machine l) where
    pub descriptor_is : expanded_in machine (descriptor_of machine l).bytes ≡ Some (taken_descriptor machine (names_for Msvc l.definition))
    descriptor_is = descriptor_taken l.definition machine l.members [] made

    pub null_is : expanded_in machine (null_of machine l).bytes ≡ Some (taken_null machine)
    null_is = null_taken l.definition machine l.members [] made

    pub thunk_is : expanded_in machine (thunk_of machine l).bytes ≡ Some (taken_null_thunk machine (names_for Msvc l.definition))
    thunk_is = thunk_taken l.definition machine l.members [] made

    pub short_is : (e : ExportView) → Among e (exports_of l) → expanded_in machine (short_of machine l e).bytes ≡ Some (asking machine (names_for Msvc l.definition) e)
    short_is e there = short_taken l.definition machine l.members [] made e there

    pub pair_there : (e : ExportView) (weak target : List ℕ) → is_short_alias e ≡ true → IsPair e weak target → Among (weak_spec machine (linked_dll l.definition) weak target) (weak_specs machine (linked_dll l.definition) e)
    unfolding weak_specs Among
    pair_there e weak target alias is = grind arith

    pub weak_is : (e : ExportView) (weak target : List ℕ) → Among e (exports_of l) → is_short_alias e ≡ true → IsPair e weak target →
        expanded_in machine (weak_of machine l weak target).bytes ≡ Some (taken_weak machine weak target)
    weak_is e weak target there alias pair = search (rules, pair_there e weak target alias pair, taken_of, among_back, among_flat, among_front)

-- What the members for Microsoft's linker leave to others, and which are weak externals and hold import tables.

-- What the members leave.

pub left_descriptor : (machine : MachineType) (dll : NamesOfDll) → undefined_in (taken_descriptor machine dll) ≡ null_descriptor_symbol ∷ null_thunk_symbol dll.linked ∷ []
unfolding undefined_in with_section_symbols object_of descriptor entries_of name_text
left_descriptor machine dll = refl

pub left_null : (machine : MachineType) → undefined_in (taken_null machine) ≡ []
unfolding undefined_in with_section_symbols object_of null_descriptor entries_of name_text
left_null machine = refl

pub left_thunk : (machine : MachineType) (dll : NamesOfDll) → undefined_in (taken_null_thunk machine dll) ≡ []
unfolding undefined_in with_section_symbols object_of null_thunk entries_of name_text
left_thunk machine dll = refl

pub left_asking : (machine : MachineType) (dll : NamesOfDll) (symbol : List ℕ) (ask : Ask) (use_kind : Use) → undefined_in (import_object machine dll.text symbol ask use_kind) ≡ descriptor_symbol_by_name dll.text ∷ []
unfolding undefined_in import_object
left_asking machine dll symbol ask use_kind = grind arith

-- Which members are weak externals.

pub descriptor_not_weak : (machine : MachineType) (dll : NamesOfDll) → has_weak (Some (taken_descriptor machine dll)) ≡ false
unfolding with_section_symbols object_of descriptor entries_of name_text
descriptor_not_weak machine dll = refl

pub null_not_weak : (machine : MachineType) → has_weak (Some (taken_null machine)) ≡ false
unfolding with_section_symbols object_of null_descriptor entries_of name_text
null_not_weak machine = refl

pub thunk_not_weak : (machine : MachineType) (dll : NamesOfDll) → has_weak (Some (taken_null_thunk machine dll)) ≡ false
unfolding with_section_symbols object_of null_thunk entries_of name_text
thunk_not_weak machine dll = refl

pub asking_not_weak : (machine : MachineType) (dll : NamesOfDll) (symbol : List ℕ) (ask : Ask) (use_kind : Use) → has_weak (Some (import_object machine dll.text symbol ask use_kind)) ≡ false
unfolding import_object
asking_not_weak machine dll symbol ask use_kind = grind arith

pub weak_is_weak : (machine : MachineType) (weak target : List ℕ) → has_weak (Some (taken_weak machine weak target)) ≡ true
unfolding with_section_symbols weak_object object_of entries_of name_text
weak_is_weak machine weak target = refl

-- Which of them hold import tables.

-- Archives of libraries for Microsoft's linker: which exports are wanted, what is linked of them, and the null descriptor that they share.

pub import_parts : (names : List (List ℕ)) (e : ExportView) → is_import_wanted names e ≡ true → (is_short_wanted names e ≡ true) × (is_short_alias e ≡ false)
import_parts names e want = grind arith

pub both_parts : (names : List (List ℕ)) (e : ExportView) → is_short_wanted names e ≡ true → is_short_alias e ≡ false → is_import_wanted names e ≡ true
both_parts names e want none = rw (want, none) refl

-- a symbol of a short import is that of its address, or its own, where it is no data
pub by_symbol : (e : ExportView) (name : List ℕ) → Among name (short_import_symbols e) → (name ≡ imp_symbol (short_import_symbol e)) ⊎ ((name ≡ short_import_symbol e) × (e.is_data ≡ false))
unfolding Among
by_symbol e name is = grind arith

-- What is linked of libraries.

pub imports_are : (l : Library) (names : List (List ℕ)) → chosen_exports l.definition (imports_wanted l names) ≡ filter (is_import_wanted names) (exports_of l)
imports_are l names = passing_chosen (is_import_wanted names) [] (exports_of l)

-- members with the first library's null descriptor
pub null_or_member : (machine : MachineType) (libraries : List Library) (m : MemberView) (members : List MemberView) → Among m (with_first_null machine libraries members) →
    (Among m (first_null machine libraries) × ((x : MemberView) × Among x members)) ⊎ Among m members
unfolding Among
null_or_member machine libraries m [] held = absurd held
null_or_member machine libraries m (x ∷ members) held =
    elim (among_either m (first_null machine libraries) (x ∷ members) held) [
      | inl null ↦ inl (null, (x, inl refl))
      | inr own ↦ inr own
    ]

pub member_with : (machine : MachineType) (libraries : List Library) (m : MemberView) (members : List MemberView) → Among m members → Among m (with_first_null machine libraries members)
member_with machine libraries m members held = grind (arith, among_back)

pub null_with : (machine : MachineType) (libraries : List Library) (m x : MemberView) (members : List MemberView) → Among m (first_null machine libraries) → Among x members →
    Among m (with_first_null machine libraries members)
unfolding Among
null_with machine libraries m x members null held = grind (arith, among_front)

module _ (machine : MachineType) (libraries : List Library) (archive : IsMsvcArchive machine libraries) where
  pub made_of : (l : Library) → Among l libraries → IsMsvcLibrary machine l
  made_of l held = all_among (IsMsvcLibrary machine) l libraries held archive.made

  -- the null descriptor of any library is taken for the same object
  pub null_tables : (before behind : List MemberView) (dll : NamesOfDll) (l : Library) → Among l libraries → expanded_in machine (null_member machine dll.linked).bytes ≡ Some (taken_null machine) →
      objects_taken machine (before ++ (first_null machine libraries ++ behind)) ≡ objects_taken machine (before ++ null_member machine dll.linked ∷ behind)
  null_tables before behind dll l held is = grind (arith, in_nothing, objects_with_null, null_is, made_of)

-- What is linked of a library has no more symbols than the archive lists.

shorts_fewer : (name : List ℕ) (names : List (List ℕ)) (es : List ExportView) → times name (flat_map short_import_symbols (filter (is_import_wanted names) es)) ≤ times name (flat_map symbols_of_short es)
unfolding times
shorts_fewer name names [] = omega arith
shorts_fewer name names (e ∷ es) = grind (arith, shorts_fewer name names es)

module _ (machine : MachineType) where
  pub library_fewer : (name : List ℕ) (l : Library) (names : List (List ℕ)) →
      times name (symbols_of machine Msvc (names_for Msvc l.definition) (chosen_exports l.definition (imports_wanted l names))) ≤ times name (symbols_of_shorts l)
  unfolding symbols_of_shorts times
  library_fewer name l names = grind (arith, times, shorts_fewer, times_both, symbols_of, imports_are)
