-- The members for GNU's linker, read from their bytes, link to what their definition means.
use Rattle.std.proofs.Common.{◌≡◌, ℕ, ◌+◌, ◌<◌, ◌≤◌, zero, suc, Bool, false, List, [], ◌∷◌, ◌++◌, length, map, Option, Some, None, refl, ap, sym, ◌∙◌, arith, subst, inl, inr}
use Rattle.std.specs.Prelude.{bytes_eq, reverse, slice_get}
use Rattle.std.specs.Cmp.Lexicographic.{slice_cmp}
use Rattle.std.specs.List.{AllByRecursion, Contains, IsDistinct, cons_option, filter_map, flat_map, list_any}
use Rattle.std.specs.Ordering.{nat_cmp}
use Rattle.std.specs.declared.cmp.Ordering.TheVariants.{Equal}
use Rattle.std.proofs.lemmas.Bool.{eq-eqb, le-ltb, ltb-true, or_parts}
use Rattle.std.proofs.lemmas.List.{append_assoc, reverse-append}
use Rattle.implib.specs.declared.flavor.Flavor.TheVariants.{Gnu}
use Rattle.implib.specs.declared.machine.MachineType.{MachineType}
use Rattle.implib.specs.Definition.{DefinitionView, ExportView}
use Rattle.implib.specs.Members.Gnu.{head_symbol, iname_symbol, archive_symbols, export_name, export_object, head_name, head_object, numbered_name, mangled_name, tail_name, tail_object}
use Rattle.implib.specs.Import.{holds, public_exports}
use Rattle.implib.specs.Link.Image.{IsAdmissible}
use Rattle.implib.specs.Link.Placement.{Bases}
use Rattle.implib.specs.Members.Members.{AreMembersOf, is_too_long}
use Rattle.implib.specs.Members.MemberSpec.{MemberView, MemberSpec, file_size, member_of}
use Rattle.implib.specs.Members.GnuMembers.{export_spec, gnu_specs, head_spec, numbered_specs, numbered_specs_of, tail_spec}
use Rattle.implib.specs.Formats.Object.{object_in}
use Rattle.implib.specs.Formats.Layout.{Fits, encoded, encoded_size}
use Rattle.implib.specs.Renaming.{renamed}
use Rattle.implib.specs.Link.Linked.{Links}
use Rattle.implib.specs.Link.LinkedMembers.{IsAscending, ComesBefore, chosen_exports, linked_members, linked_specs, objects_in, numbered_spec}
use Rattle.implib.specs.Formats.Writer.{WriterState, written_object, layout_of}
use Rattle.implib.proofs.Members.GnuObjects.{Fits-export_object, Fits-head_object, Fits-tail_object}
use Rattle.implib.proofs.Link.LinkedBlocks.{linked_objects, linked_symbols, objects_link}
use Rattle.implib.proofs.Members.MemberReadings.{map_after}
use Rattle.implib.proofs.Members.NotRefused.{Sound, exports_sound, import_name_is_free, linked_is_free, name_asked_free, none_long, short_enough}
use Rattle.implib.proofs.Formats.ObjectReading.{object_in-encoded}
use Rattle.implib.proofs.Link.Placement.{export, head, tail}
use Rattle.implib.proofs.Link.Ranges.{Among, among_back, among_first, among_front, among_later}
use Rattle.implib.proofs.Link.Tables.{CanBeAsked}
use Rattle.implib.proofs.Formats.WriterLayout.{object_of-layout_of}
use Rattle.implib.specs.LibraryName.{NamesOfDll, linked_name, names_for}

-- what a writer wrote reads as what it holds
held_reads : (h : WriterState) → Fits (layout_of h) → encoded_size (layout_of h) ≤ 0xFFFF_FFFF → object_in (encoded (layout_of h)) ≡ Some (written_object h)
held_reads h fits short = grind (arith, object_in-encoded, object_of-layout_of)

-- what holds of each holds of the one at a position
pub all_at : {X : Type 0} (P : X → Type 0) (xs : List X) (n : ℕ) (x : X) → AllByRecursion P xs → slice_get xs n ≡ Some x → P x
all_at P [] n x all is = cc
all_at P (y ∷ xs) zero x all is = subst P (let same : y ≡ x = cc in same) all.0
all_at P (y ∷ xs) (suc n) x all is = all_at P xs n x all.1 is

none_among : {X : Type 0} (test : X → Bool) (x : X) (xs : List X) → Among x xs → list_any test xs ≡ false → test x ≡ false
unfolding Among
none_among test x [] m none = absurd m
none_among test x (y ∷ xs) (inl e) none = rw e (or_parts (test y) (list_any test xs) none).0
none_among test x (y ∷ xs) (inr m) none = none_among test x xs m (or_parts (test y) (list_any test xs) none).1

pub among_reverse : {X : Type 0} (x : X) (xs : List X) → Among x xs → Among x (reverse xs)
unfolding Among
among_reverse x [] m = m
among_reverse x (y ∷ xs) (inl e) = subst (Among x) (sym (reverse-append (y ∷ []) xs)) (among_back x (reverse xs) (y ∷ []) (inl e))
among_reverse x (y ∷ xs) (inr m) = subst (Among x) (sym (reverse-append (y ∷ []) xs)) (among_front x (reverse xs) (y ∷ []) (among_reverse x xs m))

pub among_map : {X Y : Type 0} (f : X → Y) (x : X) (xs : List X) → Among x xs → Among (f x) (map f xs)
unfolding Among
among_map f x [] m = absurd m
among_map f x (y ∷ xs) (inl e) = inl (ap f e)
among_map f x (y ∷ xs) (inr m) = inr (among_map f x xs m)

-- nothing is past the end
pub past_end : {X : Type 0} (xs : List X) (n : ℕ) → slice_get xs n ≡ None → length xs ≤ n
past_end [] n is = omega arith
past_end (x ∷ xs) zero is = cc
past_end (x ∷ xs) (suc n) is = let rest = past_end xs n is in omega arith

-- those that are there
present : {X : Type 0} → List (Option X) → List X
present xs = filter_map (λ x. x) xs

filter_map-present : {X Y : Type 0} (f : X → Option Y) (xs : List X) → filter_map f xs ≡ present (map f xs)
unfolding present
filter_map-present f [] = refl
filter_map-present f (x ∷ xs) = ap (λ rest. cons_option (f x) rest) (filter_map-present f xs)

present-some : {X : Type 0} (xs : List X) → present (map Some xs) ≡ xs
unfolding present
present-some [] = refl
present-some (x ∷ xs) = ap (λ rest. x ∷ rest) (present-some xs)

-- the specification of each export is among those of the definition
numbered_among : (machine : MachineType) (dll : List ℕ) (exports : List ExportView) (start n : ℕ) (e : ExportView) → slice_get exports n ≡ Some e →
    Among (export_spec machine dll (start + n) e) (numbered_specs machine dll start exports)
numbered_among machine dll [] start n e is = cc
numbered_among machine dll (x ∷ exports) start zero e is = grind (arith, among_front, among_back, among_first)
numbered_among machine dll (x ∷ exports) start (suc n) e is =
    let position : start + 1 + n ≡ start + suc n = omega arith in
    among_back _ (numbered_specs_of machine dll start x) (numbered_specs machine dll (start + 1) exports)
    (subst (λ n. Among (export_spec machine dll n e) (numbered_specs machine dll (start + 1) exports)) position (numbered_among machine dll exports (start + 1) n e is))

pub among_contains : {X : Type 0} (x : X) (xs : List X) → Among x xs → Contains xs x
unfolding Among
among_contains x [] m = absurd m
among_contains x (y ∷ xs) (inl e) = (0, omega arith, sym e)
among_contains x (y ∷ xs) (inr m) =
    let later = among_contains x xs m in
    (suc later.0, omega arith, later.2)

-- the chosen exports of a list, which breaks no rule
module _ (machine : MachineType) (dll : NamesOfDll) (exports : List ExportView) (linked_free : holds 0 dll.linked ≡ false) (sound : AllByRecursion Sound exports)
    (short : list_any is_too_long (gnu_specs machine dll exports) ≡ false) where
  pub tail_among : Among (tail_spec machine dll) (gnu_specs machine dll exports)
  tail_among = among_first _ _

  pub head_among : Among (head_spec machine dll.linked) (gnu_specs machine dll exports)
  head_among = among_later _ _ _ (among_first _ _)

  pub export_among : (n : ℕ) (e : ExportView) → slice_get exports n ≡ Some e → Among (export_spec machine dll.linked n e) (gnu_specs machine dll exports)
  export_among n e is =
      let position : 0 + n ≡ n = omega arith in
      among_later _ _ _ (among_later _ _ _ (among_reverse _ _
      (subst (λ m. Among (export_spec machine dll.linked m e) (numbered_specs machine dll.linked 0 exports)) position (numbered_among machine dll.linked exports 0 n e is))))

  size_of : (p : MemberSpec) → Among p (gnu_specs machine dll exports) → file_size p.contents ≤ 0xFFFF_FFFF
  size_of p m = short_enough p (none_among is_too_long p (gnu_specs machine dll exports) m short)

  pub tail_reads : object_in (member_of (tail_spec machine dll)).bytes ≡ Some (tail machine dll)
  unfolding tail_spec
  tail_reads = held_reads (tail_object machine dll) (Fits-tail_object machine dll linked_free) (size_of (tail_spec machine dll) tail_among)

  pub head_reads : object_in (member_of (head_spec machine dll.linked)).bytes ≡ Some (head machine dll)
  unfolding head_spec
  head_reads = held_reads (head_object machine dll.linked) (Fits-head_object machine dll.linked linked_free) (size_of (head_spec machine dll.linked) head_among)

  pub export_reads : (n : ℕ) (e : ExportView) → slice_get exports n ≡ Some e → object_in (member_of (export_spec machine dll.linked n e)).bytes ≡ Some (export machine dll e)
  unfolding export_spec
  export_reads n e is =
      let good = all_at Sound exports n e sound is in
      held_reads (export_object machine dll.linked e) (Fits-export_object machine dll.linked e linked_free good.name good.filled) (size_of (export_spec machine dll.linked n e) (export_among n e is))

  export_asks : (n : ℕ) (e : ExportView) → slice_get exports n ≡ Some e → CanBeAsked machine e
  export_asks n e is = grind (arith, all_at, sound, ltb-true, name_asked_free)

  -- what is linked after the head
  abbrev pub member_specs_after : List ℕ → List MemberSpec
  member_specs_after ns = filter_map (numbered_spec machine dll.linked exports) ns ++ tail_spec machine dll ∷ []

  abbrev chosen_of : List ℕ → List ExportView
  chosen_of ns = filter_map (slice_get exports) ns

  -- a fact of what is at a position, from what it is
  by_place : (P : Option ExportView → Type 0) (n : ℕ) (o : Option ExportView) → slice_get exports n ≡ o → (slice_get exports n ≡ None → P None) →
      ((e : ExportView) → slice_get exports n ≡ Some e → P (Some e)) → P o
  by_place P n None is none some = none is
  by_place P n (Some e) is none some = some e is

  chosen_fit : (ns : List ℕ) → AllByRecursion (CanBeAsked machine) (chosen_of ns)
  chosen_fit [] = tt
  chosen_fit (n ∷ ns) = grind (arith, chosen_fit ns, by_place, export_asks)

  chosen_read : (ns : List ℕ) → map (λ (p : MemberSpec). object_in (member_of p).bytes) (member_specs_after ns) ≡ map Some (map (export machine dll) (chosen_of ns) ++ tail machine dll ∷ [])
  chosen_read [] = ap (λ o. o ∷ []) tail_reads
  chosen_read (n ∷ ns) = grind (arith, chosen_read ns, by_place, export_reads)

  chosen_listed : (ns : List ℕ) → flat_map (λ (p : MemberSpec). p.symbols) (member_specs_after ns) ≡ flat_map archive_symbols (chosen_of ns) ++ iname_symbol machine dll.linked ∷ []
  unfolding tail_spec export_spec
  chosen_listed [] = refl
  chosen_listed (n ∷ ns) = grind (arith, chosen_listed ns, by_place, append_assoc)

  chosen_names : (ns : List ℕ) → AllByRecursion (λ n. n < length exports) ns → map (λ (p : MemberSpec). p.name) (member_specs_after ns) ≡ map (export_name dll.linked) ns ++ tail_name dll.linked ∷ []
  unfolding tail_spec export_spec
  chosen_names [] within = refl
  chosen_names (n ∷ ns) within = grind (arith, chosen_names ns within.1, by_place, past_end)

  pub chosen_among : (ns : List ℕ) → AllByRecursion (λ p. Among p (gnu_specs machine dll exports)) (member_specs_after ns)
  chosen_among [] = (tail_among, tt)
  chosen_among (n ∷ ns) = grind (arith, chosen_among ns, by_place, export_among)

-- The order of the names.

pub same_cmp : (n : ℕ) → nat_cmp n n ≡ Equal
same_cmp n = rw (le-ltb n n (omega arith), eq-eqb n n refl) refl

-- names that begin alike are in the order of their rests
after_same : (front xs ys : List ℕ) → slice_cmp nat_cmp (front ++ xs) (front ++ ys) ≡ slice_cmp nat_cmp xs ys
after_same [] xs ys = refl
after_same (byte ∷ front) xs ys = rw (same_cmp byte) (after_same front xs ys)

pub head_first : (dll : List ℕ) (n : ℕ) → ComesBefore (head_name dll) (export_name dll n)
unfolding head_name numbered_name
head_first dll n = after_same (mangled_name dll) _ _

pub tail_last : (dll : List ℕ) (n : ℕ) → ComesBefore (export_name dll n) (tail_name dll)
unfolding tail_name numbered_name
tail_last dll n = after_same (mangled_name dll) _ _

pub head_before_tail : (dll : List ℕ) → ComesBefore (head_name dll) (tail_name dll)
unfolding head_name tail_name
head_before_tail dll = after_same (mangled_name dll) _ _

rise_to_tail : (dll : List ℕ) (n : ℕ) (ns : List ℕ) → IsAscending (export_name dll n ∷ map (export_name dll) ns) →
    IsAscending (export_name dll n ∷ (map (export_name dll) ns ++ tail_name dll ∷ []))
rise_to_tail dll n [] rise = (tail_last dll n, tt)
rise_to_tail dll n (next ∷ ns) rise = (rise.0, rise_to_tail dll next ns rise.1)

names_rise : (dll : List ℕ) (ns : List ℕ) → IsAscending (map (export_name dll) ns) → IsAscending (head_name dll ∷ (map (export_name dll) ns ++ tail_name dll ∷ []))
names_rise dll [] rise = (head_before_tail dll, tt)
names_rise dll (n ∷ ns) rise = (head_first dll n, rise_to_tail dll n ns rise)

flat_map_map : {X Y Z : Type 0} (f : Y → List Z) (g : X → Y) (xs : List X) → flat_map f (map g xs) ≡ flat_map (λ x. f (g x)) xs
flat_map_map f g [] = refl
flat_map_map f g (x ∷ xs) = ap (λ ys. f (g x) ++ ys) (flat_map_map f g xs)

all_contained : {X Y : Type 0} (f : X → Y) (all : List X) (xs : List X) → AllByRecursion (λ x. Among x all) xs → AllByRecursion (Contains (map f all)) (map f xs)
all_contained f all [] among = tt
all_contained f all (x ∷ xs) among = (among_contains (f x) (map f all) (among_map f x all among.0), all_contained f all xs among.1)

module _ (d : DefinitionView) (machine : MachineType) (members : List MemberView) (chosen : List ℕ) (made : AreMembersOf d machine Gnu members) where
  abbrev public : List ExportView
  public = public_exports (renamed d)

  pub dll_free : holds 0 d.import_name ≡ false
  dll_free = import_name_is_free d machine Gnu members made

  pub linked_free : holds 0 (linked_name d) ≡ false
  linked_free = linked_is_free d machine Gnu members made

  pub sound : AllByRecursion Sound public
  sound = exports_sound d machine Gnu members made

  pub not_long : list_any is_too_long (gnu_specs machine (names_for Gnu d) public) ≡ false
  not_long = none_long d machine Gnu members made

  pub members_among : AllByRecursion (Contains members) (linked_members d machine chosen)
  members_among =
      subst (λ ms. AllByRecursion (Contains ms) (linked_members d machine chosen)) (sym made.made)
      (all_contained member_of (gnu_specs machine (names_for Gnu d) public) (linked_specs d machine chosen) (
        head_among machine (names_for Gnu d) public linked_free sound not_long,
        chosen_among machine (names_for Gnu d) public linked_free sound not_long chosen,
      ))

  pub members_named : AllByRecursion (λ n. n < length (public_exports (renamed d))) chosen →
      map (λ (m : MemberView). m.name) (linked_members d machine chosen) ≡ head_name (linked_name d) ∷ (map (export_name (linked_name d)) chosen ++ tail_name (linked_name d) ∷ [])
  unfolding head_spec
  members_named within =
      map_after (λ (m : MemberView). m.name) member_of (linked_specs d machine chosen)
      ∙ ap (λ names. head_name (linked_name d) ∷ names) (chosen_names machine (names_for Gnu d) public linked_free sound not_long chosen within)

  pub members_rise : AllByRecursion (λ n. n < length (public_exports (renamed d))) chosen → IsAscending (map (export_name (linked_name d)) chosen) →
      IsAscending (map (λ (m : MemberView). m.name) (linked_members d machine chosen))
  members_rise within rise = subst IsAscending (sym (members_named within)) (names_rise (linked_name d) chosen rise)

  pub read_as : map (λ (m : MemberView). object_in m.bytes) (linked_members d machine chosen) ≡ map Some (linked_objects machine (names_for Gnu d) (chosen_exports d chosen))
  read_as =
      map_after (λ (m : MemberView). object_in m.bytes) member_of (linked_specs d machine chosen)
      ∙ ap (λ o. o ∷ map (λ (p : MemberSpec). object_in (member_of p).bytes) (member_specs_after machine (names_for Gnu d) public linked_free sound not_long chosen))
      (head_reads machine (names_for Gnu d) public linked_free sound not_long)
      ∙ ap (λ rest. Some (head machine (names_for Gnu d)) ∷ rest) (chosen_read machine (names_for Gnu d) public linked_free sound not_long chosen)

  pub objects_are : objects_in (linked_members d machine chosen) ≡ linked_objects machine (names_for Gnu d) (chosen_exports d chosen)
  objects_are = grind (arith, filter_map-present, present, read_as, present-some)

  pub members_read : map (λ (m : MemberView). object_in m.bytes) (linked_members d machine chosen) ≡ map Some (objects_in (linked_members d machine chosen))
  members_read = read_as ∙ ap (map Some) (sym objects_are)

  pub symbols_are : flat_map (λ (m : MemberView). m.symbols) (linked_members d machine chosen) ≡ linked_symbols machine (names_for Gnu d) (chosen_exports d chosen)
  unfolding head_spec
  symbols_are =
      flat_map_map (λ (m : MemberView). m.symbols) member_of (linked_specs d machine chosen)
      ∙ ap (λ rest. head_symbol machine (linked_name d) ∷ rest) (chosen_listed machine (names_for Gnu d) public linked_free sound not_long chosen)

  pub exports_fit : AllByRecursion (CanBeAsked machine) (chosen_exports d chosen)
  exports_fit = chosen_fit machine (names_for Gnu d) public linked_free sound not_long chosen

  pub members_link : (bases : Bases) → IsDistinct bytes_eq (flat_map (λ (m : MemberView). m.symbols) (linked_members d machine chosen)) →
      IsAdmissible machine bases (objects_in (linked_members d machine chosen)) →
      Links machine bases (names_for Gnu d) (chosen_exports d chosen) (objects_in (linked_members d machine chosen))
  members_link bases distinct admissible =
      subst (Links machine bases (names_for Gnu d) (chosen_exports d chosen)) (sym objects_are)
      (objects_link machine (names_for Gnu d) (chosen_exports d chosen) bases dll_free
      (chosen_fit machine (names_for Gnu d) public linked_free sound not_long chosen)
      (subst (IsDistinct bytes_eq) symbols_are distinct)
      (subst (IsAdmissible machine bases) objects_are admissible))
