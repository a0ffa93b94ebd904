-- A closed program of an archive of both flavours links, however a linker reads members.
use Rattle.std.proofs.Common.{rules, arith, ◌≡◌, ℕ, ◌+◌, ◌*◌, ◌⊎◌, Bool, true, false, List, [], ◌∷◌, ◌++◌, Option, Some, refl, sym, ◌∙◌, subst, inl, inr}
use Rattle.std.specs.Prelude.{◌<◌, ◌^◌, IsPermutation, not, slice_get}
use Rattle.std.specs.List.{AllByRecursion, Contains, filter}
use Rattle.std.proofs.lemmas.Bool.{true≢false, not_from_false}
use Rattle.std.proofs.lemmas.List.Sorted.{IsPermutation-sym}
use Rattle.implib.specs.declared.flavor.Flavor.{Flavor}
use Rattle.implib.specs.declared.flavor.Flavor.TheVariants.{Gnu, Msvc}
use Rattle.implib.specs.declared.machine.MachineType.{MachineType}
use Rattle.implib.specs.Definition.{ExportView}
use Rattle.implib.specs.Formats.Object.{Object, object_in}
use Rattle.implib.specs.Import.{imp_symbol}
use Rattle.implib.specs.LibraryName.{names_for}
use Rattle.implib.specs.Link.Linked.{IsDefinedOnce}
use Rattle.implib.specs.Link.LinkedMembers.{objects_in}
use Rattle.implib.specs.Link.Placement.{Bases, placed_from}
use Rattle.implib.specs.Link.Resolution.{definitions_of}
use Rattle.implib.specs.Members.ImportTables.{thunk_width}
use Rattle.implib.specs.Members.MemberSpec.{MemberView}
use Rattle.implib.specs.Members.MsvcObjects.{null_descriptor_symbol}
use Rattle.implib.proofs.Link.LinkedMembers.{among_contains}
use Rattle.implib.proofs.Link.Ranges.{Among, all_among, among_back, among_first, among_flat, among_front, among_later}
use Rattle.implib_link.specs.Flavors.Expansion.{expanded_in}
use Rattle.implib_link.specs.Flavors.Program.{AreEnded, AreEndedByLinker, AreEndedByMember, AreProgramObjects, Ending, FlavorInput, IsMadeFor, IsProgramOf, OfLinker, OfMember, ProgramLinks, all_members, objects_taken, exports_chosen, symbol_in, symbols_listed, thunks_of, ClaimsNone, HaveSame, has_tables, null_descriptor, packed, packed_end}
use Rattle.implib_link.specs.Search.Search.{Library, TakesIntoAs, listed_in, unresolved, first_listed, left_as, objects_as}
use Rattle.implib_link.specs.Search.Libraries.{AreClosed, FlavorLibrary, IsClosed, IsFlavorArchive, IsImported, IsUsedIn, LinksClosed, NamesNoMembers, archive_of_both, flavor_inputs, inputs_in, msvc_among, symbols_in, first_null, is_weak_in, wanted_for}
use Rattle.implib_link.proofs.Tables.{entry_of}
use Rattle.implib_link.proofs.Flavors.Program.{packed_objects, program_links}
use Rattle.implib_link.proofs.Search.ArchiveMembers.{among_moved, only_one}
use Rattle.implib_link.proofs.Search.Chosen.{both_distinct, both_found, both_made, members_distinct, AnOwn, AnyOf, IsLinked, TheLast, TheTop, chosen_are, chosen_by, chosen_name, export_chosen, input_held, input_in, input_is, is_chosen, linked_from, linked_into, own_chosen}
use Rattle.implib_link.proofs.Search.Closing.{IsFirstAs, IsListed, TakesAs, first_of, listed_other, none_left, others_claim_none, reached, still_named, takes_apart}
use Rattle.implib_link.proofs.Search.FlavorGroups.{first_held, made_of, msvc_there, there_msvc, IsReader, expands, found, weak_by_role}
use Rattle.implib_link.proofs.Search.Lists.{among_at, among_either, among_flat_map, contains_among, from_not, passes, passing, at_index}
use Rattle.implib_link.proofs.Search.MsvcMembers.{by_symbol, null_tables, null_is, null_of}
use Rattle.implib_link.proofs.Search.Roles.{IsRole, Last, Null, Own, Role, Top, Weak, in_flavor, is_weak_role, listed_as, member, plain_as, symbols}
use Rattle.implib_link.proofs.Search.Taken.{Why, as_other, both_taken, each_first, linked_other, needed, not_wanted}

-- a symbol of an export's own member is that of its address, or its name, where it is no data
of_symbol : (flavor : Flavor) (e : ExportView) (name : List ℕ) → Among name (symbols_in flavor e) → (name ≡ imp_symbol (symbol_in flavor e)) ⊎ ((name ≡ symbol_in flavor e) × (e.is_data ≡ false))
unfolding Among
of_symbol flavor e name listed = grind (arith, by_symbol)

-- What is taken for given objects, and what is linked with them, wherever it is placed.
pub record AreClosedAs (machine : MachineType) (reads : List ℕ → Option Object) (weak : MemberView → Bool) (libraries : List FlavorLibrary) (own : List Object) (taken : List MemberView) (arranged : List FlavorLibrary)
    (objects : List Object) : Type 0 where
  pub takes : TakesIntoAs reads (archive_of_both libraries) own taken
  pub order : IsPermutation libraries arranged
  pub others : HaveSame (filter (λ o. not (has_tables o)) objects) (own ++ objects_as reads (filter weak taken))
  pub claims : AllByRecursion (ClaimsNone (listed_in taken ++ left_as reads taken)) own
  pub names : NamesNoMembers machine libraries (unresolved own ++ left_as reads (filter weak taken))

module _ (machine : MachineType) (libraries : List FlavorLibrary) (archive : IsFlavorArchive machine libraries) (reads : List ℕ → Option Object) (weak : MemberView → Bool)
    (reader : IsReader machine libraries archive reads weak) (own : List Object) (taken : List MemberView) (arranged : List FlavorLibrary) (objects : List Object)
    (is : AreClosedAs machine reads weak libraries own taken arranged objects) where
  abbrev pub wanted : List (List ℕ)
  wanted = unresolved own ++ left_as reads (filter weak taken)

  abbrev pub inputs : List FlavorInput
  inputs = flavor_inputs arranged wanted

  abbrev members : List MemberView
  members = archive_of_both libraries

  pub takes : TakesAs reads (archive_of_both libraries) (unresolved own) taken
  takes = takes_apart reads members own taken is.claims is.takes

  pub first_each : (m : MemberView) → Among m taken → IsFirstAs reads (archive_of_both libraries) m
  first_each = each_first machine libraries archive reads weak reader (unresolved own) taken takes

  into : (l : FlavorLibrary) → Among l libraries → Among l arranged
  into l held = among_moved l libraries arranged is.order held

  from : (l : FlavorLibrary) → Among l arranged → Among l libraries
  from l held = among_moved l arranged libraries (IsPermutation-sym libraries arranged is.order) held

  -- What is linked is what is taken but for weak externals, and may be a null descriptor.

  other : (m : MemberView) → Among m taken × (weak m ≡ false) → Among m (filter (λ y. not (weak y)) taken)
  other m both = passes (λ y. not (weak y)) m taken both.0 (not_from_false (weak m) both.1)

  pub member_other : (m : MemberView) → Among m (all_members machine inputs) → Among m (filter (λ y. not (weak y)) taken)
  member_other m held =
      let l = linked_from machine wanted arranged m held in
      other m (linked_other machine libraries archive reads weak reader (unresolved own) taken takes m l.0 (from l.0 l.1) l.2 l.3)

  pub null_other : (x : Library) → Among (in_flavor Msvc x) libraries → AnyOf wanted (in_flavor Msvc x) → (m : MemberView) → Among m (first_null machine (msvc_among libraries)) → Among m (filter (λ y. not (weak y)) taken)
  unfolding Among
  null_other x there any m held = by (msvc_among libraries) refl held
    where
      by : (ls : List Library) → msvc_among libraries ≡ ls → Among m (first_null machine ls) → Among m (filter (λ y. not (weak y)) taken)
      by [] first null = absurd null
      by (l ∷ rest) first null =
          other m (as_other machine libraries archive reads weak reader (unresolved own) taken takes m (in_flavor Msvc l) Null (there_msvc libraries l (first_held libraries l rest first)) (rest, first) (x, there, any)
          (only_one m (null_of machine l) null) refl)

  -- a null descriptor that is taken is the first library's for Microsoft's linker
  abbrev pub IsNullTaken : MemberView → Type 0
  IsNullTaken m = ((x : Library) × Among (in_flavor Msvc x) libraries × AnyOf wanted (in_flavor Msvc x)) × Among m (first_null machine (msvc_among libraries))

  pub other_from : (m : MemberView) → Among m (filter (λ y. not (weak y)) taken) → IsNullTaken m ⊎ Among m (all_members machine inputs)
  other_from m held =
      let kept = passing (λ y. not (weak y)) m taken held in
      let x = needed machine libraries archive reads weak reader (unresolved own) taken is.names taken (λ y there. there) takes.in_turn m kept.0 in
      by x.has.library x.has.role x.has.held x.has.is x.why x.has.same (sym (weak_by_role machine libraries archive reads weak reader m x.has) ∙ from_not (weak m) kept.1)
    where
      null_in : (flavor : Flavor) (l : Library) → IsRole libraries (in_flavor flavor l) Null → m ≡ null_of machine l → Among m (first_null machine (msvc_among libraries))
      null_in Gnu l null same = absurd null
      null_in Msvc l null same = subst (λ ls. Among m (first_null machine ls)) (sym null.1) (subst (λ y. Among y (null_of machine l ∷ [])) (sym same) (among_first _ _))

      by : (l : FlavorLibrary) (r : Role) → Among l libraries → IsRole libraries l r → Why machine libraries archive wanted l r → m ≡ member machine l.flavor l.library r → is_weak_role r ≡ false →
          IsNullTaken m ⊎ Among m (all_members machine inputs)
      by l Top there so why same plain = inr (linked_into machine wanted arranged m l (into l there) why (TheTop same))
      by l Last there so why same plain = inr (linked_into machine wanted arranged m l (into l there) why (TheLast same))
      by l Null there so why same plain = inl (why, null_in l.flavor l.library so same)
      by l (Own n e) there so why same plain = inr (linked_into machine wanted arranged m l (into l there) (record { number = n; export = e; is = so.0; want = why }) (AnOwn n e so.0 same why))
      by l (Weak n e b) there so why same plain = absurd (true≢false plain)

  -- a listed name of what is linked is listed for a member that is taken and is no weak external
  abbrev pub Listed : List ℕ → Type 0
  Listed = IsListed reads (archive_of_both libraries) weak taken first_each

  pub of_other : (name : List ℕ) (m : MemberView) → Among m (filter (λ y. not (weak y)) taken) → Among name m.symbols → Listed name
  of_other = listed_other reads members weak taken first_each

  pub listed_linked : (name : List ℕ) → Among name (symbols_listed (all_members machine inputs)) → Listed name
  listed_linked name held = grind (arith, held, among_flat_map, of_other, member_other)

  pub others_claim : (names : List (List ℕ)) → ((name : List ℕ) → Among name names → Listed name) → AllByRecursion (ClaimsNone names) (filter (λ o. not (has_tables o)) objects)
  others_claim names listed = others_claim_none reads members weak taken first_each own (filter (λ o. not (has_tables o)) objects) names is.claims is.others listed

  inputs_are_made : AllByRecursion (IsMadeFor machine) (flavor_inputs arranged wanted)
  inputs_are_made = both_made machine libraries archive arranged is.order wanted

  -- placed at bases
  module _ (ending : Ending) (bases : Bases) (program : IsProgramOf machine ending bases (flavor_inputs arranged wanted) objects) where
    pub links : ProgramLinks machine ending bases (flavor_inputs arranged wanted) objects
    links = program_links machine ending bases inputs objects inputs_are_made program

    -- each import is used
    pub used : (i j : ℕ) (p : FlavorInput) (e : ExportView) → slice_get (flavor_inputs arranged wanted) i ≡ Some p → slice_get (exports_chosen p) j ≡ Some e → IsUsedIn p.flavor wanted e
    used i j p e at there = grind (arith, input_is wanted arranged p (among_at p inputs i at), among_at p inputs i, among_at e (exports_chosen p) j there, is_chosen, chosen_are, passing, there, chosen_name, among_contains)

    abbrev AtEntry : ℕ → ℕ → List ℕ → Type 0
    AtEntry i j name =
        definitions_of name (placed_from bases objects)
        ≡ record { name = name; address = Some (bases.addresses + thunk_width machine * thunks_of i inputs + thunk_width machine * j) } ∷ []

    -- A name that is wanted and listed.

    of_own : (l : FlavorLibrary) (n : ℕ) (e : ExportView) (name : List ℕ) → Among l libraries → IsRole libraries l (Own n e) → Among name (symbols_in l.flavor e) → Among name wanted →
        IsImported machine (placed_from bases objects) bases inputs name
    of_own l n e name held so listed want =
        let is_want : is_chosen l.flavor wanted e ≡ true = chosen_by l.flavor wanted e name so.1 listed want in
        let any : AnyOf wanted l = record { number = n; export = e; is = so.0; want = is_want } in
        let p : FlavorInput = input_in wanted l in
        let i = at_index p inputs (input_held wanted arranged l (into l held) any) in
        let j = at_index e (exports_chosen p) (export_chosen wanted l n e so.0 is_want) in
        let m : MemberView = member machine l.flavor l.library (Own n e) in
        let linked : Among m (all_members machine inputs) = linked_into machine wanted arranged m l (into l held) any (AnOwn n e so.0 refl is_want) in
        record {
          number = i.0;
          input = p;
          input_is = i.1;
          index = j.0;
          export = e;
          export_is = j.1;
          by = elim (of_symbol l.flavor e name listed) [
            | inl same ↦ inl (same, subst (AtEntry i.0 j.0) (sym same) (entry_of machine ending bases inputs objects i.0 j.0 p e links i.1 j.1))
            | inr bare ↦ inr (
              bare.0,
              bare.1,
              all_among (IsDefinedOnce (placed_from bases objects)) name (symbols_listed (all_members machine inputs))
                  (among_flat (λ (y : MemberView). y.symbols) m (all_members machine inputs) name linked (subst (Among name) (sym (listed_as machine l.flavor l.library (Own n e))) listed)) links.listed,
            )
          ];
        }

    abbrev pub Resolved : List ℕ → Type 0
    Resolved name = IsImported machine (placed_from bases objects) bases (flavor_inputs arranged wanted) name ⊎ ((m : MemberView) × Contains (filter weak taken) m × (m.symbols ≡ name ∷ []))

    resolved_by : (l : FlavorLibrary) (r : Role) (name : List ℕ) (m : MemberView) → Among name wanted → first_listed members name ≡ Some m → Among l libraries → IsRole libraries l r →
        m ≡ member machine l.flavor l.library r → Among name (symbols machine l.flavor l.library r) → weak m ≡ is_weak_role r → Resolved name
    resolved_by l Top name m want at held so same listed weak_one = absurd (not_wanted machine libraries archive wanted is.names l.flavor l.library Top name held so tt listed want)
    resolved_by l Last name m want at held so same listed weak_one = absurd (not_wanted machine libraries archive wanted is.names l.flavor l.library Last name held so tt listed want)
    resolved_by l Null name m want at held so same listed weak_one = absurd (not_wanted machine libraries archive wanted is.names l.flavor l.library Null name held so tt listed want)
    resolved_by l (Own n e) name m want at held so same listed weak_one = inl (of_own l n e name held so listed want)
    resolved_by l (Weak n e b) name m want at held so same listed weak_one =
        let there : Among m taken = reached reads members weak taken first_each (unresolved own) takes name m at (still_named reads members weak taken first_each (unresolved own) name want) in
        grind (arith, among_contains m (filter weak taken) (passes weak m taken there weak_one), same, listed_as machine l.flavor l.library (Weak n e b), only_one name _ listed)

    pub resolved : (name : List ℕ) → Contains wanted name → Contains (listed_in (archive_of_both libraries)) name → Resolved name
    resolved name want listed =
        let at = first_of name members (contains_among name (listed_in members) listed) in
        let x = found machine libraries archive name at.0 at.1 in
        resolved_by x.has.library x.has.role name at.0 (contains_among name wanted want) at.1 x.has.held x.has.is x.has.same x.listed (weak_by_role machine libraries archive reads weak reader at.0 x.has)

-- Closed, by what ends the directory.

-- members that a linker takes for the objects that their bytes are
objects_same : (machine : MachineType) (members : List MemberView) → ((m : MemberView) → Among m members → expanded_in machine m.bytes ≡ object_in m.bytes) → objects_taken machine members ≡ objects_in members
objects_same machine [] all = refl
objects_same machine (m ∷ members) all = grind (arith, objects_same machine members, among_first, among_later)

-- the members of libraries for GNU's linker are such
module _ (machine : MachineType) (libraries : List FlavorLibrary) (archive : IsFlavorArchive machine libraries) (arranged : List FlavorLibrary) (order : IsPermutation libraries arranged) (names : List (List ℕ))
    (gnu : AllByRecursion (λ p. p.flavor ≡ Gnu) (flavor_inputs arranged names)) where
  of_role : (m : MemberView) (flavor : Flavor) (l : Library) (r : Role) → flavor ≡ Gnu → Among (in_flavor flavor l) libraries → IsRole libraries (in_flavor flavor l) r → m ≡ member machine flavor l r →
      expanded_in machine m.bytes ≡ object_in m.bytes
  of_role m Msvc l r is held so same = cc
  of_role m Gnu l r is held so same = grind (arith, expands machine libraries archive, plain_as machine l (made_of machine libraries archive Gnu l held) libraries r so, made_of machine libraries archive Gnu l held, held, so, same)

  of_linked : (m : MemberView) (l : FlavorLibrary) → l.flavor ≡ Gnu → Among l libraries → IsLinked machine names l m → expanded_in machine m.bytes ≡ object_in m.bytes
  of_linked m l is held (TheTop same) = of_role m l.flavor l.library Top is held tt same
  of_linked m l is held (TheLast same) = of_role m l.flavor l.library Last is held tt same
  of_linked m l is held (AnOwn n e at same want) = of_role m l.flavor l.library (Own n e) is held (at, own_chosen l.flavor names e want) same

  pub gnu_taken : objects_taken machine (all_members machine (flavor_inputs arranged names)) ≡ objects_in (all_members machine (flavor_inputs arranged names))
  gnu_taken = objects_same machine (all_members machine (flavor_inputs arranged names)) (λ m held.
      let x = linked_from machine names arranged m held in
      of_linked m x.0 (all_among (λ (p : FlavorInput). p.flavor ≡ Gnu) (input_in names x.0) (flavor_inputs arranged names) (input_held names arranged x.0 x.1 x.2) gnu)
      (among_moved x.0 arranged libraries (IsPermutation-sym libraries arranged order) x.1) x.3)

-- What is linked, with what ends the directory: objects with import tables are those of members that are taken, and may be the
-- linker's null descriptor.
pub record IsEnded (machine : MachineType) (ending : Ending) (own : List Object) (taken : List MemberView) (arranged : List FlavorLibrary) (objects : List Object) : Type 0 where
  pub linked : List MemberView
  pub from : (o : Object) → Among o (filter has_tables objects) → Among o (objects_taken machine linked) ⊎ (o ≡ null_descriptor)
  pub into : (o : Object) → Among o (objects_taken machine linked) → Among o (filter has_tables objects)
  pub are_taken : (m : MemberView) → Among m linked → Among m (filter (λ y. not (is_weak_in machine y)) taken)
  pub are_linked : (m : MemberView) → Among m (filter (λ y. not (is_weak_in machine y)) taken) → Among m linked
  pub held : AreProgramObjects machine ending (inputs_in machine arranged own taken) objects

module _ (machine : MachineType) (libraries : List FlavorLibrary) (archive : IsFlavorArchive machine libraries) (own : List Object) (taken : List MemberView) (arranged : List FlavorLibrary)
    (objects : List Object) (closed_as : AreClosedAs machine (expanded_in machine) (is_weak_in machine) libraries own taken arranged objects) where
  abbrev reads : List ℕ → Option Object
  reads = expanded_in machine

  abbrev weak : MemberView → Bool
  weak = is_weak_in machine

  abbrev wanted_here : List (List ℕ)
  wanted_here = wanted_for machine own taken

  abbrev inputs_here : List FlavorInput
  inputs_here = inputs_in machine arranged own taken

  abbrev all_here : List MemberView
  all_here = all_members machine (inputs_in machine arranged own taken)

  module _ (e : AreEndedByLinker machine (inputs_in machine arranged own taken) objects) where
    no_null : (x : Library) → Among (in_flavor Msvc x) libraries → AnyOf wanted_here (in_flavor Msvc x) → ⊥
    no_null x there any =
        let none : Msvc ≡ Gnu = all_among (λ (p : FlavorInput). p.flavor ≡ Gnu) (input_in wanted_here (in_flavor Msvc x)) inputs_here
        (input_held wanted_here arranged (in_flavor Msvc x) (among_moved (in_flavor Msvc x) libraries arranged closed_as.order there) any) e.gnu in
        cc

    same : objects_taken machine all_here ≡ objects_in all_here
    same = gnu_taken machine libraries archive arranged closed_as.order wanted_here e.gnu

    pub by_linker : IsEnded machine OfLinker own taken arranged objects
    by_linker = record {
      linked = all_here;
      from = λ o held. grind (arith, among_either, same, only_one);
      into = λ o held. subst (Among o) (sym e.tables) (among_front o (objects_in all_here) (null_descriptor ∷ []) (subst (Among o) same held));
      are_taken = member_other machine libraries archive reads weak (expands machine libraries archive) own taken arranged objects closed_as;
      are_linked = λ m held. grind (arith, other_from machine libraries archive reads weak (expands machine libraries archive) own taken arranged objects closed_as m held, expands machine libraries archive, held, no_null);
      held = record {
        distinct = members_distinct machine libraries archive arranged closed_as.order wanted_here;
        ended = e;
        others = others_claim machine libraries archive reads weak (expands machine libraries archive) own taken arranged objects closed_as (symbols_listed all_here)
            (listed_linked machine libraries archive reads weak (expands machine libraries archive) own taken arranged objects closed_as);
        found = both_found machine libraries archive arranged closed_as.order wanted_here;
      };
    }

  module _ (e : AreEndedByMember machine (inputs_in machine arranged own taken) objects) where
    -- the library whose null descriptor it is, of which an import is wanted
    null_library : (y : Library) × Among (in_flavor Msvc y) libraries × AnyOf wanted_here (in_flavor Msvc y) × (e.null_from.input.definition ≡ y.definition)
    null_library =
        let one = input_is wanted_here arranged e.null_from (contains_among e.null_from inputs_here e.null_held) in
        grind (arith, among_moved one.0 arranged libraries (IsPermutation-sym libraries arranged closed_as.order) one.1)
      where
        by : (flavor : Flavor) (x : Library) → flavor ≡ Msvc → Among (in_flavor flavor x) libraries → AnyOf wanted_here (in_flavor flavor x) → e.null_from.input.definition ≡ x.definition → (y : Library) × Among (in_flavor Msvc y) libraries × AnyOf wanted_here (in_flavor Msvc y) × (e.null_from.input.definition ≡ y.definition)
        by Gnu x is held any own = cc
        by Msvc x is held any own = (x, held, any, own)

    abbrev x : Library
    x = null_library.0

    there : Among x (msvc_among libraries)
    there = msvc_there libraries x null_library.1

    abbrev null : List MemberView
    null = first_null machine (msvc_among libraries)

    abbrev linked : List MemberView
    linked = e.before ++ (null ++ e.behind)

    tables : filter has_tables objects ≡ objects_taken machine (e.before ++ (first_null machine (msvc_among libraries) ++ e.behind))
    tables = grind (arith, null_tables machine (msvc_among libraries) archive.msvc e.before e.behind (names_for Msvc x.definition) x there (null_is machine x (made_of machine libraries archive Msvc x null_library.1)))

    null_there : (m : MemberView) → Among m null → Among m (filter (λ y. not (weak y)) taken)
    null_there = null_other machine libraries archive reads weak (expands machine libraries archive) own taken arranged objects closed_as x null_library.1 null_library.2

    member_there : (m : MemberView) → Among m (e.before ++ e.behind) → Among m (filter (λ y. not (weak y)) taken)
    member_there m held = member_other machine libraries archive reads weak (expands machine libraries archive) own taken arranged objects closed_as m (subst (Among m) e.members held)

    linked_taken : (m : MemberView) → Among m linked → Among m (filter (λ y. not (weak y)) taken)
    linked_taken m held = grind (arith, among_either, held, member_there, among_front, null_there, among_back)

    taken_linked : (m : MemberView) → Among m (filter (λ y. not (weak y)) taken) → Among m linked
    taken_linked m held =
        grind (arith, other_from machine libraries archive reads weak (expands machine libraries archive) own taken arranged objects closed_as m held, expands machine libraries archive, held, among_back, among_front, among_either)

    abbrev IsListedHere : List ℕ → Type 0
    IsListedHere = Listed machine libraries archive reads weak (expands machine libraries archive) own taken arranged objects closed_as

    null_among : (name : List ℕ) → name ≡ null_descriptor_symbol → IsListedHere name
    unfolding Among
    null_among name named = by (msvc_among libraries) refl there
      where
        by : (ls : List Library) → msvc_among libraries ≡ ls → Among x ls → IsListedHere name
        by [] are none = absurd none
        by (y ∷ rest) are some =
            of_other machine libraries archive reads weak (expands machine libraries archive) own taken arranged objects closed_as name (null_of machine y)
            (null_there (null_of machine y) (subst (λ (ls : List Library). Among (null_of machine y) (first_null machine ls)) (sym are) (inl refl)))
            (subst (Among name) (sym (listed_as machine Msvc y Null)) (inl named))

    listed_name : (name : List ℕ) → Among name (null_descriptor_symbol ∷ symbols_listed (all_members machine (inputs_in machine arranged own taken))) → IsListedHere name
    unfolding Among
    listed_name name (inl one) = null_among name one
    listed_name name (inr held) = listed_linked machine libraries archive reads weak (expands machine libraries archive) own taken arranged objects closed_as name held

    pub by_member : IsEnded machine OfMember own taken arranged objects
    by_member = record {
      linked = linked;
      from = λ o held. inl (subst (Among o) tables held);
      into = λ o held. subst (Among o) (sym tables) held;
      are_taken = linked_taken;
      are_linked = taken_linked;
      held = record {
        distinct = both_distinct machine libraries archive arranged closed_as.order wanted_here x there;
        ended = e;
        others = others_claim machine libraries archive reads weak (expands machine libraries archive) own taken arranged objects closed_as
            (null_descriptor_symbol ∷ symbols_listed (all_members machine (inputs_in machine arranged own taken))) listed_name;
        found = both_found machine libraries archive arranged closed_as.order wanted_here;
      };
    }

  is_ended : (ending : Ending) → AreEnded ending machine (inputs_in machine arranged own taken) objects → IsEnded machine ending own taken arranged objects
  is_ended ending e = grind (arith, by_linker, by_member)

module _ (machine : MachineType) (ending : Ending) (libraries : List FlavorLibrary) (archive : IsFlavorArchive machine libraries) (own : List Object) (taken : List MemberView) (arranged : List FlavorLibrary)
    (objects : List Object) (is : AreClosed machine ending libraries own taken arranged objects) where
  as_closed : AreClosedAs machine (expanded_in machine) (is_weak_in machine) libraries own taken arranged objects
  as_closed = record { takes = is.takes; order = is.order; others = is.others; claims = is.claims; names = is.names }

  so : IsEnded machine ending own taken arranged objects
  so = is_ended machine libraries archive own taken arranged objects as_closed ending is.ended

  pub both_held : AreProgramObjects machine ending (inputs_in machine arranged own taken) objects
  both_held = so.held

  pub both_links : (bases : Bases) → IsProgramOf machine ending bases (inputs_in machine arranged own taken) objects → LinksClosed machine ending libraries own taken arranged bases objects
  both_links bases program =
      let read : List ℕ → Option Object = expanded_in machine in
      let is_weak_one : MemberView → Bool = is_weak_in machine in
      let reader : IsReader machine libraries archive read is_weak_one = expands machine libraries archive in
      record {
        taken_is = both_taken machine libraries archive (unresolved own) taken is.names (takes machine libraries archive read is_weak_one reader own taken arranged objects as_closed);
        program = program;
        links = links machine libraries archive read is_weak_one reader own taken arranged objects as_closed ending bases program;
        used = used machine libraries archive read is_weak_one reader own taken arranged objects as_closed ending bases program;
        resolved = resolved machine libraries archive read is_weak_one reader own taken arranged objects as_closed ending bases program;
        closed = none_left read (archive_of_both libraries) is_weak_one taken (first_each machine libraries archive read is_weak_one reader own taken arranged objects as_closed) own objects so.linked is.others
            so.from so.into so.are_taken so.are_linked is.takes;
      }

pub closed_links_of_both : (machine : MachineType) (ending : Ending) (libraries : List FlavorLibrary) (own : List Object) (taken : List MemberView) (arranged : List FlavorLibrary) (bases : Bases) (objects : List Object) →
    IsFlavorArchive machine libraries → IsClosed machine ending libraries own taken arranged bases objects → LinksClosed machine ending libraries own taken arranged bases objects
closed_links_of_both machine ending libraries own taken arranged bases objects archive is =
    both_links machine ending libraries archive own taken arranged objects is.closed bases (record {
      held = both_held machine ending libraries archive own taken arranged objects is.closed;
      admissible = is.admissible;
      lookups = is.lookups;
      addresses = is.addresses;
      follows = is.follows;
    })

-- packed placement closes the program
pub packed_both : (machine : MachineType) (ending : Ending) (libraries : List FlavorLibrary) (own : List Object) (taken : List MemberView) (arranged : List FlavorLibrary) (first : ℕ) (objects : List Object) →
    IsFlavorArchive machine libraries → AreClosed machine ending libraries own taken arranged objects → 0 < first → packed_end first objects < 2 ^ 31 →
    IsClosed machine ending libraries own taken arranged (packed first objects) objects
packed_both machine ending libraries own taken arranged first objects archive closed above below = search (rules, both_made, packed_objects, both_held)
