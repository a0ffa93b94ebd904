-- Libraries for GNU's linker that are named apart are an archive.
use Rattle.std.proofs.Common.{rules, ◌≡◌, ℕ, ◌+◌, ◌≤◌, true, false, List, [], ◌∷◌, ◌++◌, map, refl, ap, sym, ◌∙◌, subst, inl, inr, arith, codes, Some, Bool, Option}
use Rattle.std.specs.Prelude.{bytes_eq, reverse, slice_get}
use Rattle.std.specs.List.{AllByRecursion, IsDistinct, flat_map, list_any, cons_option}
use Rattle.std.proofs.lemmas.Bool.{cases_Bool, false_from_ne_true, true≢false}
use Rattle.std.proofs.lemmas.List.{append_cancel_left, append_cancel_right, map-append}
use Rattle.std.proofs.lemmas.List.Sorted.{IsPermutation-reverse}
use Rattle.std.proofs.lemmas.Slice.Eq.{bytes_eq-Decides}
use Rattle.implib.specs.declared.machine.MachineType.{MachineType}
use Rattle.implib.specs.Definition.{ExportView}
use Rattle.implib.specs.Import.{imp_symbol}
use Rattle.implib.specs.Members.Gnu.{head_symbol, iname_symbol, mangled_name}
use Rattle.implib.proofs.Link.Ranges.{Among, all_among, among_back, among_front, among_first, among_flat, among_later}
use Rattle.implib_link.specs.Search.Search.{IsArchive, IsLibrary, Library, exports_of, symbols_of_export, symbols_of_library, archive_of, first_listed, is_listed_for, has_weak, undefined_in}
use Rattle.implib_link.specs.Search.Libraries.{heads_of, tails_of, FlavorLibrary, IsFlavorArchive, archive_of_both, gnu_among, msvc_among, IsMsvcArchive, symbols_of_all_shorts, if_gnu, if_msvc, symbols_of_shorts, is_weak_in}
use Rattle.implib_link.specs.Search.NamedApart.{AreNamedApart, begins_plain, names_in, stem}
use Rattle.implib_link.proofs.Search.Closing.{there_not, IsFirstAs, is_first, names_read}
use Rattle.implib_link.proofs.Search.ArchiveMembers.{distinct_from, few_from, times, times_both, times_moved, Group, IsWithin, export_group, export_group_is, export_groups, first_behind, first_in_group, found_or_not, group_is_export, group_of_first, head_of, members_of_exports, members_of_groups, symbols_of_exports, symbols_of_groups, tail_of, within_export as within_gnu, FindsOwn, FindsWeak, InExport as GnuExport, alias_symbols, in_export as in_gnu, own_first, own_symbols, weak_first, in_nothing, only_one, none_times}
use Rattle.implib_link.proofs.Search.Lists.{among_either, among_mapped, distinct_join, all_from, among_at, among_flat_map, among_any, any_among, distinct_apart, distinct_later, listed_is, at_index, kept_from, kept_into}
use Rattle.implib.specs.LibraryName.{linked_name, names_for, linked_dll}
use Rattle.implib.specs.declared.flavor.Flavor.TheVariants.{Gnu, Msvc}
use Rattle.implib.specs.declared.flavor.Flavor.{Flavor}
use Rattle.implib_link.proofs.Search.Roles.{in_flavor, Last, Null, Own, Role, Top, Weak, listed_as, member, symbols, IsRole, claims_as, is_weak_role, left, left_as_role, object, pair, taken_as, weak_as, weak_symbol, weak_target}
use Rattle.std.proofs.lemmas.Grind.{flat_map-append}
use Rattle.implib.specs.Members.Members.{AreMembersOf}
use Rattle.implib.specs.Members.MemberSpec.{MemberView}
use Rattle.implib.specs.Members.MsvcMembers.{descriptor_spec, null_descriptor_spec}
use Rattle.implib.specs.Members.MsvcObjects.{descriptor_symbol, null_descriptor_symbol}
use Rattle.implib.proofs.Link.LinkedMembers.{among_map}
use Rattle.implib_link.proofs.Search.MsvcMembers.{descriptor_of, members_are, null_of as null_member_of, short_group, symbols_of_groups_of, thunk_of, within_export as within_short, FindsShort, FindsWeak as FindsShortWeak, InExport as ShortExport, in_export as in_short, pair_first, pair_symbol, short_first, short_symbol, weak_of as short_weak_of}
use Rattle.implib.specs.Formats.Object.{Object}
use Rattle.implib.specs.Members.Msvc.{short_import_symbol}
use Rattle.implib_link.specs.Flavors.Expansion.{expanded_in}
use Rattle.implib_link.specs.Flavors.Program.{IsFoundByName}

-- Symbols that differ by their first bytes.

tail_no_head : (machine : MachineType) (dll other : List ℕ) → begins_plain (mangled_name dll) ≡ true → iname_symbol machine dll ≡ head_symbol machine other → ⊥
unfolding iname_symbol head_symbol
tail_no_head machine dll other plain same = grind (arith, same, codes, append_cancel_left)

tail_no_imp : (machine : MachineType) (dll name : List ℕ) → begins_plain (mangled_name dll) ≡ true → iname_symbol machine dll ≡ imp_symbol name → ⊥
unfolding iname_symbol
tail_no_imp machine dll name plain same = grind arith

-- Texts that differ where others do.

distinct_mapped : {X : Type 0} (g h : X → List ℕ) → ((x y : X) → h x ≡ h y → g x ≡ g y) → (xs : List X) → IsDistinct bytes_eq (map g xs) → IsDistinct bytes_eq (map h xs)
unfolding IsDistinct
distinct_mapped g h back [] distinct = tt
distinct_mapped {X = X} g h back (x ∷ xs) distinct = (others xs distinct.0, distinct_mapped g h back xs distinct.1)
  where
    others : (ys : List X) → AllByRecursion (λ other. bytes_eq (g x) other ≡ false) (map g ys) → AllByRecursion (λ other. bytes_eq (h x) other ≡ false) (map h ys)
    others [] all = tt
    others (y ∷ ys) all = grind (arith, false_from_ne_true, true≢false, bytes_eq-Decides, others ys all.1)

stem_of_tail : (machine : MachineType) (l k : Library) → iname_symbol machine (linked_name l.definition) ≡ iname_symbol machine (linked_name k.definition) → stem l ≡ stem k
unfolding iname_symbol
stem_of_tail machine l k same = grind (arith, same, append_cancel_right, codes, append_cancel_left)

stem_of_head : (machine : MachineType) (l k : Library) → head_symbol machine (linked_name l.definition) ≡ head_symbol machine (linked_name k.definition) → stem l ≡ stem k
unfolding head_symbol
stem_of_head machine l k same = grind (arith, same, append_cancel_left, codes)

map_same : (names : List (List ℕ)) → map (λ (name : List ℕ). name) names ≡ names
map_same [] = refl
map_same (name ∷ names) = ap (λ ns. name ∷ ns) (map_same names)

-- How often a name is listed.

exports_count : (name : List ℕ) (es : List ExportView) →
    times name (flat_map symbols_of_export es) ≤ times name (map (λ (e : ExportView). e.name) es) + times name (map imp_symbol (map (λ (e : ExportView). e.name) es))
unfolding times
exports_count name [] = omega arith
exports_count name (e ∷ es) = grind (arith, times, times_both, cases_Bool, exports_count name es)

module _ (machine : MachineType) where
  library_count : (name : List ℕ) (libraries : List Library) →
      times name (flat_map (symbols_of_library machine) libraries)
      ≤ times name (tails_of machine libraries) + (times name (heads_of machine libraries) + (times name (names_in libraries) + times name (map imp_symbol (names_in libraries))))
  unfolding times symbols_of_library
  library_count name [] = omega arith
  library_count name (l ∷ libraries) =
      let behind = library_count name libraries in
      grind (arith, times_moved symbols_of_export name (exports_of l) (reverse (exports_of l)) (IsPermutation-reverse (exports_of l)), exports_count name (exports_of l), times, times_both, map-append)

  module _ (libraries : List Library) (apart : AreNamedApart machine libraries) where
    abbrev tails : List (List ℕ)
    tails = tails_of machine libraries

    abbrev heads : List (List ℕ)
    heads = heads_of machine libraries

    abbrev names : List (List ℕ)
    names = names_in libraries

    abbrev imps : List (List ℕ)
    imps = map imp_symbol (names_in libraries)

    begins : (l : Library) → Among l libraries → begins_plain (stem l) ≡ true
    begins l held = all_among (λ (x : Library). begins_plain (stem x) ≡ true) l libraries held apart.begin

    -- a name of an export is no symbol that is made of a name
    plain_name : (name : List ℕ) → Among name names → Among name (tails ++ (heads ++ imps)) → ⊥
    plain_name name held made = search (rules, held, there_not, all_among, map, false)

    names_and_imps : IsDistinct bytes_eq (names_in libraries ++ map imp_symbol (names_in libraries))
    names_and_imps =
        distinct_join names imps apart.exports
        (distinct_mapped (λ (name : List ℕ). name) imp_symbol (λ x y same. append_cancel_left (codes "__imp_") x y same) names (subst (IsDistinct bytes_eq) (sym (map_same names)) apart.exports))
        (λ name held there. plain_name name held (among_back name tails (heads ++ imps) (among_back name heads imps there)))

    head_of_among : (name : List ℕ) → Among name heads → (l : Library) × Among l libraries × (name ≡ head_symbol machine (linked_name l.definition))
    head_of_among name held = among_mapped (λ (l : Library). head_symbol machine (linked_name l.definition)) name libraries held

    heads_and_others : IsDistinct bytes_eq (heads_of machine libraries ++ (names_in libraries ++ map imp_symbol (names_in libraries)))
    unfolding head_symbol
    heads_and_others =
        distinct_join heads (names ++ imps) (distinct_mapped stem (λ (l : Library). head_symbol machine (linked_name l.definition)) (stem_of_head machine) libraries apart.stems) names_and_imps
        (λ name held there. elim (among_either name names imps there) [
          | inl own ↦ plain_name name own (among_back name tails (heads ++ imps) (among_front name heads imps held))
          | inr imp ↦ grind (arith, head_of_among, held, among_mapped)
        ])

    all_differ : IsDistinct bytes_eq (tails_of machine libraries ++ (heads_of machine libraries ++ (names_in libraries ++ map imp_symbol (names_in libraries))))
    all_differ =
        distinct_join tails (heads ++ (names ++ imps)) (distinct_mapped stem (λ (l : Library). iname_symbol machine (linked_name l.definition)) (stem_of_tail machine) libraries apart.stems) heads_and_others
        (λ name held there.
        let l = (among_mapped (λ (l : Library). iname_symbol machine (linked_name l.definition)) name libraries held) in
        elim (among_either name heads (names ++ imps) there) [
          | inl head ↦ let k = head_of_among name head in tail_no_head machine (linked_name l.0.definition) (linked_name k.0.definition) (begins l.0 l.1) (sym l.2 ∙ k.2)
          | inr others ↦ grind (arith, among_either name names imps others, among_front name tails (heads ++ imps) held, begins l.0 l.1, others, plain_name, held, among_mapped, tail_no_imp)
        ])

    listed_few : (name : List ℕ) → times name (flat_map (symbols_of_library machine) libraries) ≤ 1
    listed_few name =
        let most = few_from (tails ++ (heads ++ (names ++ imps))) all_differ name in
        omega (arith, times_both name tails (heads ++ (names ++ imps)), times_both name heads (names ++ imps), times_both name names imps, library_count name libraries)

pub named_apart : (machine : MachineType) (libraries : List Library) → AllByRecursion (IsLibrary machine) libraries → AreNamedApart machine libraries → IsArchive machine libraries
named_apart machine libraries made apart = grind (arith, distinct_from, listed_few)

-- An archive of libraries for one linker is one of libraries in either flavour. Of those for GNU's a linker that reads members as
-- objects alone takes each member for what others do.

members_of_flavor : (flavor : Flavor) (libraries : List Library) → archive_of_both (map (in_flavor flavor) libraries) ≡ archive_of libraries
unfolding archive_of
members_of_flavor flavor [] = refl
members_of_flavor flavor (l ∷ libraries) = ap (λ ms. l.members ++ ms) (members_of_flavor flavor libraries)

-- So is one of libraries for Microsoft's linker.

abbrev pub short_libraries : List Library → List FlavorLibrary
short_libraries libraries = map (in_flavor Msvc) libraries

pub shorts_alone : (libraries : List Library) → msvc_among (short_libraries libraries) ≡ libraries
shorts_alone [] = refl
shorts_alone (l ∷ libraries) = ap (λ ls. l ∷ ls) (shorts_alone libraries)

pub no_gnu : (libraries : List Library) → gnu_among (short_libraries libraries) ≡ []
no_gnu [] = refl
no_gnu (l ∷ libraries) = no_gnu libraries

pub short_members : (libraries : List Library) → archive_of_both (short_libraries libraries) ≡ archive_of libraries
short_members libraries = members_of_flavor Msvc libraries

pub shorts_archive : (machine : MachineType) (libraries : List Library) → IsMsvcArchive machine libraries → IsFlavorArchive machine (short_libraries libraries)
unfolding IsDistinct
shorts_archive machine libraries archive = grind (arith, no_gnu, shorts_alone, false)

-- An archive of both flavours as groups of members: of each library the member with its descriptor, the one that ends its tables, and
-- the members of each export. The null descriptors are apart.

-- A library of a flavour is among all.

module _ (libraries : List FlavorLibrary) where
  pub gnu_there : (l : Library) → Among (in_flavor Gnu l) libraries → Among l (gnu_among libraries)
  gnu_there l held = kept_into (λ (x : FlavorLibrary). if_gnu x.flavor x.library) libraries l (in_flavor Gnu l) held refl

  pub msvc_there : (l : Library) → Among (in_flavor Msvc l) libraries → Among l (msvc_among libraries)
  msvc_there l held = kept_into (λ (x : FlavorLibrary). if_msvc x.flavor x.library) libraries l (in_flavor Msvc l) held refl

  pub there_gnu : (l : Library) → Among l (gnu_among libraries) → Among (in_flavor Gnu l) libraries
  there_gnu l held = grind (arith, held, kept_from)

  pub there_msvc : (l : Library) → Among l (msvc_among libraries) → Among (in_flavor Msvc l) libraries
  there_msvc l held = grind (arith, held, kept_from)

  pub first_held : (l : Library) (rest : List Library) → msvc_among libraries ≡ l ∷ rest → Among l (msvc_among libraries)
  first_held l rest is = subst (Among l) (sym is) (among_first l rest)

-- the null descriptor's symbol, where there is a library for Microsoft's linker
abbrev pub null_of : List Library → List (List ℕ)
null_of [] = []
null_of (l ∷ shorts) = null_descriptor_symbol ∷ []

module _ (machine : MachineType) where
  abbrev pub of_library : Flavor → Library → List (List ℕ)
  of_library Msvc l = symbols_of_shorts l
  of_library Gnu l = symbols_of_library machine l

  abbrev pub of_libraries : List FlavorLibrary → List (List ℕ)
  of_libraries libraries = flat_map (λ (l : FlavorLibrary). of_library l.flavor l.library) libraries

  -- The groups of a library.

  abbrev pub role_group : Flavor → Library → Role → Group
  role_group flavor l r = record { members = member machine flavor l r ∷ []; symbols = symbols machine flavor l r }

  abbrev pub group_of : Flavor → Library → ℕ → ExportView → Group
  group_of Msvc l n e = short_group machine l e
  group_of Gnu l n e = export_group machine l n e

  abbrev pub groups_in : Flavor → Library → List Group
  groups_in Msvc l = role_group Msvc l Top ∷ role_group Msvc l Last ∷ map (short_group machine l) (exports_of l)
  groups_in Gnu l = role_group Gnu l Last ∷ role_group Gnu l Top ∷ export_groups machine l 0 (exports_of l)

  abbrev pub all_groups : List FlavorLibrary → List Group
  all_groups libraries = flat_map (λ (l : FlavorLibrary). groups_in l.flavor l.library) libraries

  symbols_in_groups : (flavor : Flavor) (l : Library) → symbols_of_groups (groups_in flavor l) ≡ of_library flavor l
  unfolding symbols_of_shorts symbols_of_library
  symbols_in_groups flavor l = grind (arith, symbols_of_groups_of, symbols_of_exports)

  symbols_groups : (libraries : List FlavorLibrary) → symbols_of_groups (all_groups libraries) ≡ of_libraries libraries
  symbols_groups [] = refl
  symbols_groups (l ∷ libraries) = grind (arith, flat_map-append, symbols_of_groups, symbols_in_groups, symbols_groups libraries)

  abbrev pub IsEnd : Role → Type 0
  IsEnd Top = Unit {0}
  IsEnd Last = Unit {0}
  IsEnd Null = ⊥
  IsEnd (Own n e) = ⊥
  IsEnd (Weak n e b) = ⊥

  -- which group of a library a group is
  pub data IsGroup (flavor : Flavor) (l : Library) (g : Group) : Type 0 where
    OfRole : (r : Role) → IsEnd r → g ≡ role_group flavor l r → IsGroup flavor l g
    OfExport : (n : ℕ) (e : ExportView) → slice_get (exports_of l) n ≡ Some e → g ≡ group_of flavor l n e → IsGroup flavor l g

  pub group_is : (flavor : Flavor) (l : Library) (g : Group) → Among g (groups_in flavor l) → IsGroup flavor l g
  unfolding Among
  group_is Msvc l g (inl is) = OfRole Top tt is
  group_is Msvc l g (inr (inl is)) = OfRole Last tt is
  group_is Msvc l g (inr (inr behind)) =
      let e = among_mapped (short_group machine l) g (exports_of l) behind in
      let at = at_index e.0 (exports_of l) e.1 in
      OfExport at.0 e.0 at.1 e.2
  group_is Gnu l g (inl is) = OfRole Last tt is
  group_is Gnu l g (inr (inl is)) = OfRole Top tt is
  group_is Gnu l g (inr (inr behind)) =
      let own = export_group_is machine l (exports_of l) 0 g behind in
      OfExport own.0 own.1 own.2 (own.3 ∙ ap (λ n. export_group machine l n own.1) (omega arith))

  role_there : (flavor : Flavor) (l : Library) (r : Role) → IsEnd r → Among (role_group flavor l r) (groups_in flavor l)
  role_there flavor l r end = grind (arith, among_first, among_later)

  export_there : (flavor : Flavor) (l : Library) (n : ℕ) (e : ExportView) → slice_get (exports_of l) n ≡ Some e → Among (group_of flavor l n e) (groups_in flavor l)
  export_there Msvc l n e is = among_later _ _ _ (among_later _ _ _ (among_map (short_group machine l) e (exports_of l) (among_at e (exports_of l) n is)))
  export_there Gnu l n e is =
      let position : 0 + n ≡ n = omega arith in
      among_later _ _ _ (among_later _ _ _ (subst (λ k. Among (export_group machine l k e) (export_groups machine l 0 (exports_of l))) position (group_is_export machine l (exports_of l) 0 n e is)))

  within : (flavor : Flavor) (l : Library) (g : Group) → IsGroup flavor l g → IsWithin g
  within flavor l g h3 = grind (arith, listed_as, only_one, member, within_short, within_gnu)

  all_within : (libraries : List FlavorLibrary) → AllByRecursion IsWithin (all_groups libraries)
  all_within libraries = all_from IsWithin (all_groups libraries) (λ g held.
      let l = among_flat_map (λ (x : FlavorLibrary). groups_in x.flavor x.library) g libraries held in
      within l.0.flavor l.0.library g (group_is l.0.flavor l.0.library g l.2))

  -- What is found among a library's members, and among its groups: the same, but for the null descriptor.

  abbrev NotNull : List ℕ → Flavor → Type 0
  NotNull name Msvc = bytes_eq name null_descriptor_symbol ≡ false
  NotNull name Gnu = Unit {0}

  same_behind : (name : List ℕ) (front rest other : List MemberView) → first_listed rest name ≡ first_listed other name → first_listed (front ++ rest) name ≡ first_listed (front ++ other) name
  same_behind name [] rest other same = same
  same_behind name (m ∷ front) rest other same = grind (arith, cases_Bool, same_behind name front rest other same)

  without_null : (name : List ℕ) (l : Library) (d t : MemberView) (rest : List MemberView) → bytes_eq name null_descriptor_symbol ≡ false →
      first_listed (d ∷ null_member_of machine l ∷ t ∷ rest) name ≡ first_listed (d ∷ t ∷ rest) name
  unfolding null_descriptor_spec
  without_null name l d t rest none = elim (cases_Bool (is_listed_for name d)) [ inl is ↦ rw is refl | inr other ↦ rw (other, none) refl ]

  gnu_members_are : (l : Library) → AreMembersOf l.definition machine Gnu l.members → l.members ≡ members_of_groups (groups_in Gnu l)
  gnu_members_are l made = made.made ∙ ap (λ ms. tail_of machine l ∷ head_of machine l ∷ ms) (members_of_exports machine l 0 (exports_of l))

  library_groups : (name : List ℕ) (flavor : Flavor) (l : Library) (rest : List MemberView) → AreMembersOf l.definition machine flavor l.members → NotNull name flavor →
      first_listed (l.members ++ rest) name ≡ first_listed (members_of_groups (groups_in flavor l) ++ rest) name
  library_groups name Msvc l rest made none = cc (members_are machine l made, without_null name l (descriptor_of machine l) (thunk_of machine l) (members_of_groups (map (short_group machine l) (exports_of l)) ++ rest) none)
  library_groups name Gnu l rest made none = ap (λ ms. first_listed (ms ++ rest) name) (gnu_members_are l made)

  abbrev AreMade : List FlavorLibrary → Type 0
  AreMade libraries = AllByRecursion (λ (l : FlavorLibrary). AreMembersOf l.library.definition machine l.flavor l.library.members) libraries

  archive_groups : (name : List ℕ) (libraries : List FlavorLibrary) → AreMade libraries → AllByRecursion (λ (l : FlavorLibrary). NotNull name l.flavor) libraries →
      first_listed (archive_of_both libraries) name ≡ first_listed (members_of_groups (all_groups libraries)) name
  unfolding archive_of
  archive_groups name [] made none = refl
  archive_groups name (l ∷ libraries) made none =
      library_groups name l.flavor l.library (archive_of_both libraries) made.0 none.0
      ∙ same_behind name (members_of_groups (groups_in l.flavor l.library)) (archive_of_both libraries) (members_of_groups (all_groups libraries)) (archive_groups name libraries made.1 none.1)
      ∙ ap (λ ms. first_listed ms name) (sym (flat_map-append (λ (g : Group). g.members) (groups_in l.flavor l.library) (all_groups libraries)))

  -- The null descriptor is the first library's for Microsoft's linker, where no library lists its symbol otherwise.

  null_found : (name : List ℕ) (l : Library) (rest : List MemberView) → name ≡ null_descriptor_symbol → (Among name (of_library Msvc l) → ⊥) →
      first_listed (descriptor_of machine l ∷ null_member_of machine l ∷ rest) name ≡ Some (null_member_of machine l)
  unfolding descriptor_spec null_descriptor_spec symbols_of_shorts Among
  null_found name l rest named none =
      let other : is_listed_for name (descriptor_of machine l) ≡ false =
      false_from_ne_true (is_listed_for name (descriptor_of machine l)) (λ is. none (inl (only_one name (descriptor_symbol (linked_dll l.definition)) (any_among name (descriptor_of machine l).symbols is)))) in
      cc (among_any name (null_member_of machine l).symbols (inl named))

  listed_in_library : (name : List ℕ) (l : Library) (m : MemberView) → AreMembersOf l.definition machine Gnu l.members → first_listed l.members name ≡ Some m → Among name (of_library Gnu l)
  listed_in_library name l m made found =
      let at = group_of_first name (groups_in Gnu l) m (subst (λ ms. first_listed ms name ≡ Some m) (gnu_members_are l made) found) in
      let there = listed_is at.0.members name m at.2 in
      subst (Among name) (symbols_in_groups Gnu l)
      (among_flat (λ (g : Group). g.symbols) at.0 (groups_in Gnu l) name at.1 (within Gnu l at.0 (group_is Gnu l at.0 at.1) m name there.0 there.1))

  first_null : (name : List ℕ) → name ≡ null_descriptor_symbol → (libraries : List FlavorLibrary) → AreMade libraries → ((flavor : Flavor) (l : Library) → Among (in_flavor flavor l) libraries → Among name (of_library flavor l) → ⊥) →
      (x : Library) (rest : List Library) → msvc_among libraries ≡ x ∷ rest → first_listed (archive_of_both libraries) name ≡ Some (null_member_of machine x)
  unfolding archive_of
  first_null name named [] made apart x rest is = cc
  first_null name named (l ∷ libraries) made apart x rest is =
      by l.flavor l.library made.0 (apart l.flavor l.library (among_first l libraries)) is (first_null name named libraries made.1 (λ flavor y held. apart flavor y (among_later _ l libraries held)) x rest)
    where
      by : (flavor : Flavor) (y : Library) → AreMembersOf y.definition machine flavor y.members → (Among name (of_library flavor y) → ⊥) → cons_option (if_msvc flavor y) (msvc_among libraries) ≡ x ∷ rest →
          (msvc_among libraries ≡ x ∷ rest → first_listed (archive_of_both libraries) name ≡ Some (null_member_of machine x)) → first_listed (y.members ++ archive_of_both libraries) name ≡ Some (null_member_of machine x)
      by Gnu y own none first later =
          elim (found_or_not name y.members) [
            | inl nothing ↦ first_behind name y.members (archive_of_both libraries) nothing ∙ later first
            | inr some ↦ absurd (none (listed_in_library name y some.0 own some.1))
          ]
      by Msvc y own none first later = cc (members_are machine y own, null_found name y ((thunk_of machine y ∷ members_of_groups (map (short_group machine y) (exports_of y))) ++ archive_of_both libraries) named none)

  sums : (name : List ℕ) (libraries : List FlavorLibrary) →
      times name (of_libraries libraries) ≡ times name (flat_map (symbols_of_library machine) (gnu_among libraries)) + times name (flat_map symbols_of_shorts (msvc_among libraries))
  unfolding times
  sums name [] = refl
  sums name (l ∷ rest) = times_both name (of_library l.flavor l.library) (of_libraries rest) ∙ (grind (arith, times_both, sums name rest))

module _ (machine : MachineType) (libraries : List FlavorLibrary) (archive : IsFlavorArchive machine libraries) where
  abbrev shorts : List Library
  shorts = msvc_among libraries

  with_null : (name : List ℕ) (ls : List Library) → times name (symbols_of_all_shorts ls) ≡ times name (null_of ls) + times name (flat_map symbols_of_shorts ls)
  unfolding times
  with_null name ls = grind (arith, times_both)

  -- the symbols of all libraries and the null descriptor's
  pub few : (name : List ℕ) → times name (null_of shorts) + times name (of_libraries machine libraries) ≤ 1
  unfolding IsDistinct
  few name =
      let gnu : List (List ℕ) = flat_map (symbols_of_library machine) (gnu_among libraries) in
      let gnu_once : times name gnu ≤ 1 = few_from gnu archive.gnu.distinct name in
      let short_once : times name (symbols_of_all_shorts (msvc_among libraries)) ≤ 1 = few_from (symbols_of_all_shorts shorts) (grind arith) name in
      elim (cases_Bool (list_any (bytes_eq name) gnu)) [
        | inl there ↦ grind (arith, with_null name shorts, sums machine name libraries, times name (symbols_of_all_shorts (msvc_among libraries)), any_among name gnu there, none_times, all_among)
        | inr none_there ↦ (let none : times name gnu ≡ 0 = none_times name gnu none_there in omega (arith, with_null name shorts, sums machine name libraries))
      ]

  symbols_differ : IsDistinct bytes_eq (null_of (msvc_among libraries) ++ of_libraries machine libraries)
  symbols_differ = grind (arith, distinct_from, times_both, times, few)

  pub made_of : (flavor : Flavor) (l : Library) → Among (in_flavor flavor l) libraries → AreMembersOf l.definition machine flavor l.members
  made_of Gnu l held = all_among (λ (x : Library). AreMembersOf x.definition machine Gnu x.members) l (gnu_among libraries) (gnu_there libraries l held) archive.gnu.made
  made_of Msvc l held = all_among (λ (x : Library). AreMembersOf x.definition machine Msvc x.members) l (msvc_among libraries) (msvc_there libraries l held) archive.msvc.made

  all_made : AreMade machine libraries
  all_made = all_from _ libraries (λ l held. made_of l.flavor l.library held)

  -- no symbol of a library is the null descriptor's
  pub symbol_apart : (name : List ℕ) → Among name (of_libraries machine libraries) → (l : Library) → Among l (msvc_among libraries) → name ≡ null_descriptor_symbol → ⊥
  unfolding Among
  symbol_apart name held l there same =
      distinct_apart (null_of shorts) (of_libraries machine libraries) name symbols_differ (by (msvc_among libraries) there) held
    where
      by : (ls : List Library) → Among l ls → Among name (null_of ls)
      by [] none = absurd none
      by (x ∷ ls) some = inl same

  none_null : (name : List ℕ) → ((l : Library) → Among l (msvc_among libraries) → name ≡ null_descriptor_symbol → ⊥) → AllByRecursion (λ (l : FlavorLibrary). NotNull machine name l.flavor) libraries
  none_null name none = all_from _ libraries (λ l held. by l.flavor l.library held)
    where
      by : (flavor : Flavor) (l : Library) → Among (in_flavor flavor l) libraries → NotNull machine name flavor
      by Gnu l held = tt
      by Msvc l held = false_from_ne_true (bytes_eq name null_descriptor_symbol) (λ is. none l (msvc_there libraries l held) ((bytes_eq-Decides name null_descriptor_symbol).0 is))

  of_group : (flavor : Flavor) (l : Library) (g : Group) (name : List ℕ) → Among (in_flavor flavor l) libraries → Among g (groups_in machine flavor l) → Among name g.symbols → Among name (of_libraries machine libraries)
  of_group flavor l g name held own listed =
      among_flat (λ (x : FlavorLibrary). of_library machine x.flavor x.library) (in_flavor flavor l) libraries name held
      (subst (Among name) (symbols_in_groups machine flavor l) (among_flat (λ (x : Group). x.symbols) g (groups_in machine flavor l) name own listed))

  -- what a name finds in its group, it finds in the archive
  group_finds : (flavor : Flavor) (l : Library) (g : Group) (name : List ℕ) (m : MemberView) → Among (in_flavor flavor l) libraries → Among g (groups_in machine flavor l) → Among name g.symbols →
      first_listed g.members name ≡ Some m → first_listed (archive_of_both libraries) name ≡ Some m
  group_finds flavor l g name m held own listed is =
      archive_groups machine name libraries all_made (none_null name (symbol_apart name (of_group flavor l g name held own listed)))
      ∙ first_in_group name (all_groups machine libraries) g m (all_within machine libraries)
      (subst (IsDistinct bytes_eq) (sym (symbols_groups machine libraries)) (distinct_later (null_of shorts) (of_libraries machine libraries) symbols_differ))
      (among_flat (λ (x : FlavorLibrary). groups_in machine x.flavor x.library) (in_flavor flavor l) libraries g held own) listed is

  pub role_finds : (flavor : Flavor) (l : Library) (r : Role) (name : List ℕ) → Among (in_flavor flavor l) libraries → IsEnd machine r → Among name (symbols machine flavor l r) →
      first_listed (archive_of_both libraries) name ≡ Some (member machine flavor l r)
  role_finds flavor l r name held end listed =
      let is : is_listed_for name (member machine flavor l r) ≡ true = among_any name _ (subst (Among name) (sym (listed_as machine flavor l r)) listed) in
      group_finds flavor l (role_group machine flavor l r) name (member machine flavor l r) held (role_there machine flavor l r end) listed (rw is refl)

  pub export_finds : (flavor : Flavor) (l : Library) (n : ℕ) (e : ExportView) (name : List ℕ) (m : MemberView) → Among (in_flavor flavor l) libraries → slice_get (exports_of l) n ≡ Some e →
      Among name (group_of machine flavor l n e).symbols → first_listed (group_of machine flavor l n e).members name ≡ Some m → first_listed (archive_of_both libraries) name ≡ Some m
  export_finds flavor l n e name m held at listed is = group_finds flavor l (group_of machine flavor l n e) name m held (export_there machine flavor l n e at) listed is

  pub null_finds : (name : List ℕ) → name ≡ null_descriptor_symbol → (x : Library) (rest : List Library) → msvc_among libraries ≡ x ∷ rest → first_listed (archive_of_both libraries) name ≡ Some (null_member_of machine x)
  null_finds name named x rest is =
      first_null machine name named libraries all_made (λ flavor l held own.
      symbol_apart name (among_flat (λ (y : FlavorLibrary). of_library machine y.flavor y.library) (in_flavor flavor l) libraries name held own) x (subst (Among x) (sym is) (among_first x rest)) named) x rest is

  -- what a name finds, it finds in a group, or it is the null descriptor's
  pub data FoundIn (name : List ℕ) (m : MemberView) : Type 0 where
    InGroup : (flavor : Flavor) (l : Library) (g : Group) → Among (in_flavor flavor l) libraries → IsGroup machine flavor l g → first_listed g.members name ≡ Some m → FoundIn name m
    InNull : (x : Library) (rest : List Library) → msvc_among libraries ≡ x ∷ rest → m ≡ null_member_of machine x → name ≡ null_descriptor_symbol → FoundIn name m

  pub found_in : (name : List ℕ) (m : MemberView) → first_listed (archive_of_both libraries) name ≡ Some m → FoundIn name m
  found_in name m found =
      elim (cases_Bool (bytes_eq name null_descriptor_symbol)) [
        | inl is ↦ by ((bytes_eq-Decides name null_descriptor_symbol).0 is) (msvc_among libraries) refl
        | inr other ↦ in_group (λ l held is. true≢false (sym ((bytes_eq-Decides name null_descriptor_symbol).1 is) ∙ other))
      ]
    where
      in_group : ((l : Library) → Among l (msvc_among libraries) → name ≡ null_descriptor_symbol → ⊥) → FoundIn name m
      in_group none =
          let at = group_of_first name (all_groups machine libraries) m (sym (archive_groups machine name libraries all_made (none_null name none)) ∙ found) in
          let l = among_flat_map (λ (x : FlavorLibrary). groups_in machine x.flavor x.library) at.0 libraries at.1 in
          InGroup l.0.flavor l.0.library at.0 l.1 (group_is machine l.0.flavor l.0.library at.0 l.2) at.2

      by : name ≡ null_descriptor_symbol → (ls : List Library) → msvc_among libraries ≡ ls → FoundIn name m
      by named [] none = in_group (λ l held is. in_nothing l (subst (Among l) none held))
      by named (x ∷ rest) first = InNull x rest first (let e : Some m ≡ Some (null_member_of machine x) = sym found ∙ null_finds name named x rest first in cc) named

-- Which member of an archive of both flavours a name finds, in which role; and what is so of it, however members are read.

module _ (machine : MachineType) (libraries : List FlavorLibrary) (archive : IsFlavorArchive machine libraries) where
  pub by_name : (flavor : Flavor) (l : Library) → Among (in_flavor flavor l) libraries → IsFoundByName flavor (names_for flavor l.definition)
  by_name Gnu l held = tt
  by_name Msvc l held = all_among (λ (x : Library). IsFoundByName Msvc (names_for Msvc x.definition)) l (msvc_among libraries) (msvc_there libraries l held) archive.msvc.found

  -- a member, in its role
  pub record HasRole (m : MemberView) : Type 0 where
    pub library : FlavorLibrary
    pub held : Among library libraries
    pub role : Role
    pub is : IsRole libraries library role
    pub same : m ≡ member machine library.flavor library.library role

  -- A name finds a member that is listed for it.
  pub record Found (name : List ℕ) (m : MemberView) : Type 0 where
    pub has : HasRole m
    pub listed : Among name (symbols machine has.library.flavor has.library.library has.role)

  pub find : (name : List ℕ) (m : MemberView) (flavor : Flavor) (l : Library) (r : Role) → Among (in_flavor flavor l) libraries → IsRole libraries (in_flavor flavor l) r →
      m ≡ member machine flavor l r → Among name (symbols machine flavor l r) → Found name m
  find name m flavor l r held is same listed = record { has = record { library = in_flavor flavor l; held = held; role = r; is = is; same = same }; listed = listed }

  one : (name own : List ℕ) → name ≡ own → Among name (own ∷ [])
  one name own is = subst (λ n. Among n (own ∷ [])) (sym is) (among_first own [])

  as_one : (name own : List ℕ) (m : MemberView) → Among name (own ∷ []) → first_listed (archive_of_both libraries) own ≡ Some m → first_listed (archive_of_both libraries) name ≡ Some m
  as_one name own m held is = ap (first_listed (archive_of_both libraries)) (only_one name own held) ∙ is

  pub found : (name : List ℕ) (m : MemberView) → first_listed (archive_of_both libraries) name ≡ Some m → Found name m
  found name m is = by (found_in machine libraries archive name m is)
    where
      of_gnu : (l : Library) (n : ℕ) (e : ExportView) → Among (in_flavor Gnu l) libraries → slice_get (exports_of l) n ≡ Some e → GnuExport machine l n e name m → Found name m
      of_gnu l n e held at (FindsOwn same listed) = find name m Gnu l (Own n e) held (at, tt) same listed
      of_gnu l n e held at (FindsWeak alias is_data named same) = find name m Gnu l (Weak n e false) held (at, (alias, is_data)) same (one name _ named)

      of_short : (l : Library) (n : ℕ) (e : ExportView) → Among (in_flavor Msvc l) libraries → slice_get (exports_of l) n ≡ Some e → ShortExport machine l e name m → Found name m
      of_short l n e held at (FindsShort none same listed) = find name m Msvc l (Own n e) held (at, none) same listed
      of_short l n e held at (FindsShortWeak alias weak target (inl pair) same named) =
          find name m Msvc l (Weak n e false) held (at, alias)
          (same ∙ ap (λ w. short_weak_of machine l w target) pair.0 ∙ ap (short_weak_of machine l (short_import_symbol e)) pair.1) (one name _ (named ∙ pair.0))
      of_short l n e held at (FindsShortWeak alias weak target (inr pair) same named) =
          find name m Msvc l (Weak n e true) held (at, alias)
          (same ∙ ap (λ w. short_weak_of machine l w target) pair.0 ∙ ap (short_weak_of machine l (imp_symbol (short_import_symbol e))) pair.1) (one name _ (named ∙ pair.0))

      of_group : (flavor : Flavor) (l : Library) (g : Group) → Among (in_flavor flavor l) libraries → IsGroup machine flavor l g → first_listed g.members name ≡ Some m → Found name m
      of_group flavor l g held (OfRole r end at) first =
          let there = listed_is (member machine flavor l r ∷ []) name m (subst (λ (y : Group). first_listed y.members name ≡ Some m) at first) in
          let same : m ≡ member machine flavor l r = only_one m (member machine flavor l r) there.0 in
          find name m flavor l r held (grind arith) same (subst (Among name) (listed_as machine flavor l r) (subst (λ (y : MemberView). Among name y.symbols) same there.1))
      of_group Gnu l g held (OfExport n e at own) first = of_gnu l n e held at (in_gnu machine l n e name m (subst (λ (y : Group). first_listed y.members name ≡ Some m) own first))
      of_group Msvc l g held (OfExport n e at own) first = of_short l n e held at (in_short machine l e name m (subst (λ (y : Group). first_listed y.members name ≡ Some m) own first))

      by : FoundIn machine libraries archive name m → Found name m
      by (InGroup flavor l g held own first) = of_group flavor l g held own first
      by (InNull x rest first same named) = find name m Msvc x Null (there_msvc libraries x (first_held libraries x rest first)) (rest, first) same (one name _ named)

  -- And what a member is listed for finds it.
  pub finds : (flavor : Flavor) (l : Library) (r : Role) (name : List ℕ) → Among (in_flavor flavor l) libraries → IsRole libraries (in_flavor flavor l) r →
      Among name (symbols machine flavor l r) → first_listed (archive_of_both libraries) name ≡ Some (member machine flavor l r)
  finds flavor l Top name held is listed = role_finds machine libraries archive flavor l Top name held tt listed
  finds flavor l Last name held is listed = role_finds machine libraries archive flavor l Last name held tt listed
  finds Gnu l (Own n e) name held is listed = export_finds machine libraries archive Gnu l n e name _ held is.0 (own_symbols e name listed) (own_first machine l n e name listed)
  finds Msvc l (Own n e) name held is listed = export_finds machine libraries archive Msvc l n e name _ held is.0 (short_symbol e name is.1 listed) (short_first machine l e name is.1 listed)
  finds Gnu l (Weak n e false) name held is listed = search (rules, false, held, is, listed, as_one, export_finds, alias_symbols, weak_first)
  finds Msvc l (Weak n e b) name held is listed =
      as_one name (weak_symbol Msvc e b) _ listed (export_finds machine libraries archive Msvc l n e (weak_symbol Msvc e b) _ held is.0
      (pair_symbol e (weak_symbol Msvc e b) (weak_target e b) is.1 (pair e b)) (pair_first machine l e (weak_symbol Msvc e b) (weak_target e b) is.1 (pair e b)))
  finds flavor l r name held is listed = grind (arith, null_finds, only_one)

  -- A way to read members that takes each of these for its object, and the members that are weak externals by it.
  pub record IsReader (reads : List ℕ → Option Object) (weak : MemberView → Bool) : Type 0 where
    pub taken : (flavor : Flavor) (l : Library) (r : Role) → Among (in_flavor flavor l) libraries → IsRole libraries (in_flavor flavor l) r →
        reads (member machine flavor l r).bytes ≡ Some (object machine flavor l r)
    pub weak_is : (m : MemberView) → weak m ≡ has_weak (reads m.bytes)

  -- a linker for a machine reads them so
  pub expands : IsReader (expanded_in machine) (is_weak_in machine)
  unfolding is_weak_in
  expands = record { taken = λ flavor l r held is. taken_as machine libraries flavor l r (made_of machine libraries archive flavor l held) is; weak_is = λ m. refl }

  module _ (reads : List ℕ → Option Object) (weak : MemberView → Bool) (reader : IsReader reads weak) (m : MemberView) (x : HasRole m) where
    pub weak_by_role : weak m ≡ is_weak_role x.role
    weak_by_role = grind (arith, weak_as)

    pub left_by_role : (o : Object) (name : List ℕ) → reads m.bytes ≡ Some o → Among name (undefined_in o) → Among name (left machine x.library.flavor x.library.library x.role)
    left_by_role o name read held = grind (arith, held, names_read, left, left_as_role, by_name)

    pub first_by_role : IsFirstAs reads (archive_of_both libraries) m
    first_by_role =
        is_first reads (archive_of_both libraries) m _ _ (symbols machine x.library.flavor x.library.library x.role) x.same
        (reader.taken x.library.flavor x.library.library x.role x.held x.is)
        (claims_as machine x.library.flavor x.library.library x.role) (listed_as machine x.library.flavor x.library.library x.role)
        (λ name listed. finds x.library.flavor x.library.library x.role name x.held x.is listed)
