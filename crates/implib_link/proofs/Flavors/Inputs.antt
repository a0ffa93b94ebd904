-- The names that the members of both flavours claim: those that they are listed for.
use Rattle.std.proofs.Common.{◌≡◌, ℕ, Bool, true, false, List, [], ◌∷◌, ◌++◌, map, refl, ap, sym, ◌∙◌, subst, inl, inr, if◌then◌else◌, Option, Some, arith}
use Rattle.std.specs.List.{flat_map, AllByRecursion, Contains, cons_option, filter_map}
use Rattle.std.proofs.lemmas.Grind.{flat_map-append}
use Rattle.std.proofs.lemmas.List.{append_assoc, append-nil, map_push}
use Rattle.implib.specs.declared.machine.MachineType.{MachineType}
use Rattle.implib.specs.declared.flavor.Flavor.{Flavor}
use Rattle.implib.specs.declared.flavor.Flavor.TheVariants.{Gnu, Msvc}
use Rattle.implib.specs.Definition.{ExportView, DefinitionView}
use Rattle.implib.specs.Members.Gnu.{export_object, head_object, tail_object}
use Rattle.implib.specs.Import.{Ask, imp_symbol, public_exports}
use Rattle.implib.specs.Formats.Layout.{entries_of, name_text, object_of}
use Rattle.implib.specs.Members.Msvc.{short_import_symbols}
use Rattle.implib.specs.Members.MsvcObjects.{descriptor, descriptor_symbol, null_descriptor, null_descriptor_symbol, null_thunk, null_thunk_symbol}
use Rattle.implib.specs.Formats.Object.{Object, object_in}
use Rattle.implib.proofs.Link.LinkedMembers.{among_contains, among_map, exports_fit, members_among, objects_are, symbols_are, among_reverse}
use Rattle.implib.proofs.Link.Placement.{export, tail, head}
use Rattle.implib.proofs.Link.Ranges.{Among, among_back, among_front, all_among, among_first, among_flat, among_later}
use Rattle.implib_link.specs.Flavors.Expansion.{Code, Constant, Data, import_object, expanded_as, expanded_in, use_of, with_section_symbols}
use Rattle.implib_link.specs.Flavors.Program.{Ending, claimed_names, HaveSame, FlavorInput, IsFoundByName, IsMadeFor, IsTaken, all_members, exports_chosen, members_linked, null_member, objects_taken, specs_in, symbols_listed, dll_names_in}
use Rattle.implib_link.proofs.Flavors.Block.{claimed_after, claimed_head, behind_descriptor, objects_of, symbols_of, FitsIn, asking, FlavorBlock, all_objects, rest_of, AllSuit, CanLink}
use Rattle.implib_link.proofs.Search.Lists.{among_either, contains_among, all_from}
use Rattle.implib_link.proofs.Flavors.Expanded.{taken_descriptor, taken_null, taken_null_thunk, AskFits}
use Rattle.implib.specs.LibraryName.{NamesOfDll, linked_dll, names_for, linked_name}
use Rattle.std.specs.Prelude.{◌==◌, slice_get, suc, take}
use Rattle.std.specs.Option.{option_and_then}
use Rattle.std.proofs.lemmas.Bool.{cases_Bool, le-leb, ltb-true}
use Rattle.std.proofs.lemmas.List.Elements.{filter_map-append}
use Rattle.implib.specs.Ascii.{holds}
use Rattle.implib.specs.Formats.File.{File, ObjectFile, file_in}
use Rattle.implib.specs.Members.GnuMembers.{export_spec, gnu_specs, head_spec, tail_spec, alias_specs, numbered_specs, numbered_specs_of}
use Rattle.implib.specs.Link.LinkedMembers.{chosen_exports, numbered_spec, objects_in}
use Rattle.implib.specs.Machine.{machine_number}
use Rattle.implib.specs.Members.MemberSpec.{MemberSpec, MemberView, file_bytes, member_of}
use Rattle.implib.specs.Members.Members.{AreMembersOf, member_specs}
use Rattle.implib.specs.Members.MsvcMembers.{descriptor_spec, export_specs, header_specs, null_descriptor_spec, null_thunk_spec, short_import_spec}
use Rattle.implib.specs.Members.ReadBack.{file_of}
use Rattle.implib.specs.Renaming.{renamed}
use Rattle.implib.specs.Formats.ShortImport.{import_code, import_const, import_data}
use Rattle.implib.proofs.Members.GnuReadings.{member_specs_read}
use Rattle.implib.proofs.Members.Import.{name_type_is_ordinal, name_type_of_fits, symbol_without_nul}
use Rattle.implib.proofs.Members.MemberReadings.{ReadsBack, map_after, member_specs_read_back}
use Rattle.implib.proofs.Members.NotRefused.{Sound, exports_sound, import_name_is_free}
use Rattle.implib_link.specs.Search.Search.{objects_as, Library}
use Rattle.implib_link.proofs.Gnu.Texts.{all_chosen}
use Rattle.implib.proofs.Link.Linked.{all_append}
use Rattle.implib_link.proofs.Search.ArchiveMembers.{head_object_is, tail_object_is, export_object_is, numbered_in}

pub claims_descriptor : (machine : MachineType) (dll : NamesOfDll) → claimed_names (taken_descriptor machine dll) ≡ descriptor_symbol dll.linked ∷ []
unfolding with_section_symbols object_of descriptor entries_of name_text
claims_descriptor machine dll = refl

pub claims_null : (machine : MachineType) → claimed_names (taken_null machine) ≡ null_descriptor_symbol ∷ []
unfolding with_section_symbols object_of null_descriptor entries_of name_text
claims_null machine = refl

pub claims_thunk : (machine : MachineType) (dll : NamesOfDll) → claimed_names (taken_null_thunk machine dll) ≡ null_thunk_symbol dll.linked ∷ []
unfolding with_section_symbols object_of null_thunk entries_of name_text
claims_thunk machine dll = refl

pub claims_asking : (machine : MachineType) (dll : NamesOfDll) (symbol : List ℕ) (ask : Ask) (is_data constant : Bool) →
    claimed_names (import_object machine dll.text symbol ask (if is_data then Data else if constant then Constant else Code)) ≡ imp_symbol symbol ∷ (if is_data then [] else symbol ∷ [])
unfolding import_object
claims_asking machine dll symbol ask is_data constant = grind arith

askings_claim : (machine : MachineType) (dll : NamesOfDll) (es : List ExportView) (rest : List Object) →
    flat_map claimed_names (behind_descriptor machine dll es rest) ≡ (flat_map short_import_symbols es ++ null_thunk_symbol dll.linked ∷ []) ++ flat_map claimed_names rest
askings_claim machine dll [] rest = ap (λ names. names ++ flat_map claimed_names rest) (claims_thunk machine dll)
askings_claim machine dll (e ∷ es) rest = grind (arith, askings_claim machine dll es rest, behind_descriptor, claims_asking, append_assoc)

pub all_claim_listed : (machine : MachineType) (ending : Ending) (blocks : List FlavorBlock) →
    flat_map claimed_names (all_objects machine blocks (rest_of ending)) ≡ flat_map (λ (k : FlavorBlock). symbols_of machine k.flavor k.dll k.exports) blocks
all_claim_listed machine ending (k ∷ blocks) = grind (
  arith,
  all_claim_listed machine ending blocks,
  all_objects,
  rest_of,
  symbols_of,
  behind_descriptor,
  claims_descriptor,
  askings_claim,
  export,
  tail,
  claimed_head,
  claimed_after,
)
all_claim_listed machine ending blocks = grind arith

-- with the null descriptor put in, its name comes in, too
moved : (name one : List ℕ) (xs ys : List (List ℕ)) → Among name (xs ++ one ∷ ys) → Among name (one ∷ (xs ++ ys))
unfolding Among
moved name one xs ys held = grind (arith, among_either name xs (one ∷ ys) held, among_front, among_back)

moved_back : (name one : List ℕ) (xs ys : List (List ℕ)) → Among name (one ∷ (xs ++ ys)) → Among name (xs ++ one ∷ ys)
unfolding Among
moved_back name one xs ys (inl is) = among_back name xs (one ∷ ys) (inl is)
moved_back name one xs ys (inr held) = grind (arith, among_either name xs ys held, among_front, among_back)

pub claimed_with_null : (machine : MachineType) (xs ys : List Object) (names : List (List ℕ)) → flat_map claimed_names (xs ++ ys) ≡ names →
    HaveSame (flat_map claimed_names (xs ++ taken_null machine ∷ ys)) (null_descriptor_symbol ∷ names)
claimed_with_null machine xs ys names is name =
    let front : List (List ℕ) = flat_map claimed_names xs in
    let back : List (List ℕ) = flat_map claimed_names ys in
    let all : flat_map claimed_names (xs ++ taken_null machine ∷ ys) ≡ front ++ null_descriptor_symbol ∷ back = grind (arith, flat_map-append, taken_null, claims_null) in
    let others : front ++ back ≡ names = sym (flat_map-append claimed_names xs ys) ∙ is in (
      λ held. among_contains name (null_descriptor_symbol ∷ names)
          (subst (λ ns. Among name (null_descriptor_symbol ∷ ns)) others (moved name null_descriptor_symbol front back (subst (Among name) all (contains_among name (flat_map claimed_names (xs ++ taken_null machine ∷ ys)) held)))),
      λ held. among_contains name (flat_map claimed_names (xs ++ taken_null machine ∷ ys))
          (subst (Among name) (sym all) (moved_back name null_descriptor_symbol front back (subst (λ ns. Among name (null_descriptor_symbol ∷ ns)) (sym others) (contains_among name (null_descriptor_symbol ∷ names) held)))),
    )

-- What a linker takes the members of definitions for, in either flavour.

-- Short imports.

pub same_machine : (machine : MachineType) → (machine_number machine == machine_number machine) ≡ true
same_machine machine = grind arith

use_is : (is_data constant : Bool) →
    use_of (if is_data then import_data else if constant then import_const else import_code) ≡ Some (if is_data then Data else if constant then Constant else Code)
use_is is_data constant = grind arith

-- What a short import asks for has no NUL.

if_free : (test : Bool) (one other : List ℕ) → holds 0 one ≡ false → holds 0 other ≡ false → holds 0 (if test then one else other) ≡ false
if_free test one other first second = grind arith

cut_free : (n : ℕ) (text : List ℕ) → holds 0 text ≡ false → holds 0 (take n text) ≡ false
cut_free (suc n) (b ∷ rest) free = grind (arith, cut_free n rest)
cut_free n text free = cc

pub export_fits : (machine : MachineType) (e : ExportView) → Sound e → FitsIn Msvc machine e
unfolding FitsIn AskFits
export_fits machine e good = grind (arith, ltb-true, if_free, cut_free, symbol_without_nul)

-- a file that reads as another is taken as that
taken_by : (machine : MachineType) (bytes : List ℕ) (file : File) → file_in bytes ≡ Some file → expanded_in machine bytes ≡ expanded_as machine file
unfolding expanded_in
taken_by machine bytes file is = ap (option_and_then (expanded_as machine)) is

all_read : {X Y : Type 0} (f : X → Option Y) (g : X → Y) (xs : List X) → AllByRecursion (λ x. f x ≡ Some (g x)) xs → map f xs ≡ map Some (map g xs)
all_read f g [] all = refl
all_read f g (x ∷ xs) all = let first : f x ≡ Some (g x) = all.0 in let rest : map f xs ≡ map Some (map g xs) = all_read f g xs all.1 in cc

all_contained : {X Y : Type 0} (f : X → Y) (all : List X) (xs : List X) → AllByRecursion (λ x. Among x all) xs → AllByRecursion (Contains (map f all)) (map f xs)
all_contained f all [] among = tt
all_contained f all (x ∷ xs) among = (among_contains (f x) (map f all) (among_map f x all among.0), all_contained f all xs among.1)

-- The members for Microsoft's linker.
module _ (d : DefinitionView) (machine : MachineType) (members : List MemberView) (chosen : List ℕ) (made : AreMembersOf d machine Msvc members) where
  reads : AllByRecursion (λ p. ReadsBack p.contents) (member_specs (renamed d) machine Msvc)
  reads = member_specs_read_back d machine members made

  header_at : (p : MemberSpec) → Among p (header_specs machine (names_for Msvc d)) → Among p (member_specs (renamed d) machine Msvc)
  header_at p m = among_front p (header_specs machine (names_for Msvc d)) (flat_map (export_specs machine (names_for Msvc d)) (public_exports (renamed d))) m

  pub descriptor_at : Among (descriptor_spec machine (names_for Msvc d)) (member_specs (renamed d) machine Msvc)
  unfolding header_specs
  descriptor_at = header_at (descriptor_spec machine (names_for Msvc d)) (among_first _ _)

  pub null_at : Among (null_descriptor_spec machine (linked_dll d)) (member_specs (renamed d) machine Msvc)
  unfolding header_specs
  null_at = header_at (null_descriptor_spec machine (linked_dll d)) (among_later _ _ _ (among_first _ _))

  pub thunk_at : Among (null_thunk_spec machine (linked_dll d)) (member_specs (renamed d) machine Msvc)
  unfolding header_specs
  thunk_at = header_at (null_thunk_spec machine (linked_dll d)) (among_later _ _ _ (among_later _ _ _ (among_first _ _)))

  pub short_at : (e : ExportView) → Among e (public_exports (renamed d)) → Among (short_import_spec machine (names_for Msvc d) e) (member_specs (renamed d) machine Msvc)
  short_at e m = grind (arith, among_back, among_flat, among_first)

  pub read_of : (p : MemberSpec) → Among p (member_specs (renamed d) machine Msvc) → file_in (file_bytes p.contents) ≡ Some (file_of p.contents)
  read_of p m = (all_among (λ (q : MemberSpec). ReadsBack q.contents) p (member_specs (renamed d) machine Msvc) m reads).read

  pub taken_of : (p : MemberSpec) → Among p (member_specs (renamed d) machine Msvc) → expanded_in machine (member_of p).bytes ≡ expanded_as machine (file_of p.contents)
  taken_of p m = taken_by machine (file_bytes p.contents) (file_of p.contents) (read_of p m)

  pub descriptor_taken : expanded_in machine (member_of (descriptor_spec machine (names_for Msvc d))).bytes ≡ Some (taken_descriptor machine (names_for Msvc d))
  unfolding descriptor_spec
  descriptor_taken = taken_of (descriptor_spec machine (names_for Msvc d)) descriptor_at

  pub null_taken : expanded_in machine (null_member machine (linked_dll d)).bytes ≡ Some (taken_null machine)
  unfolding null_descriptor_spec
  null_taken = taken_of (null_descriptor_spec machine (linked_dll d)) null_at

  pub thunk_taken : expanded_in machine (member_of (null_thunk_spec machine (linked_dll d))).bytes ≡ Some (taken_null_thunk machine (names_for Msvc d))
  unfolding null_thunk_spec
  thunk_taken = taken_of (null_thunk_spec machine (linked_dll d)) thunk_at

  pub short_taken : (e : ExportView) → Among e (public_exports (renamed d)) →
      expanded_in machine (member_of (short_import_spec machine (names_for Msvc d) e)).bytes ≡ Some (asking machine (names_for Msvc d) e)
  short_taken e m = taken_of (short_import_spec machine (names_for Msvc d) e) (short_at e m) ∙ (simp (le-leb, name_type_of_fits, same_machine, name_type_is_ordinal, use_is))

  -- what holds of each export that is not private holds of the chosen ones
  chosen_all : (P : ExportView → Type 0) → ((e : ExportView) → Among e (public_exports (renamed d)) → P e) → AllByRecursion P (chosen_exports d chosen)
  chosen_all P each = all_chosen P (public_exports (renamed d)) chosen (all_from P (public_exports (renamed d)) each)

  shorts_taken : AllByRecursion (λ e. expanded_in machine (member_of (short_import_spec machine (names_for Msvc d) e)).bytes ≡ Some (asking machine (names_for Msvc d) e)) (chosen_exports d chosen)
  shorts_taken = chosen_all (λ e. expanded_in machine (member_of (short_import_spec machine (names_for Msvc d) e)).bytes ≡ Some (asking machine (names_for Msvc d) e)) short_taken

  pub msvc_fit : AllByRecursion (FitsIn Msvc machine) (chosen_exports d chosen)
  msvc_fit = chosen_all (FitsIn Msvc machine) (λ e m. export_fits machine e (all_among Sound e (public_exports (renamed d)) m (exports_sound d machine Msvc members made)))

  abbrev shorts : List MemberSpec
  shorts = map (short_import_spec machine (names_for Msvc d)) (chosen_exports d chosen)

  pub msvc_read : map (λ (m : MemberView). expanded_in machine m.bytes) (map member_of (specs_in Msvc d machine chosen)) ≡ map Some (objects_of machine Msvc (names_for Msvc d) (chosen_exports d chosen) [])
  msvc_read = grind (arith, map_after, descriptor_taken, taken_descriptor, map_push, thunk_taken, taken_null_thunk, all_read, asking, shorts_taken)

  all_mapped : {X Y : Type 0} (f : X → Y) (P : Y → Type 0) (xs : List X) → AllByRecursion (λ x. P (f x)) xs → AllByRecursion P (map f xs)
  all_mapped f P [] all = tt
  all_mapped f P (x ∷ xs) all = (all.0, all_mapped f P xs all.1)

  pub msvc_from : AllByRecursion (Contains members) (map member_of (specs_in Msvc d machine chosen))
  msvc_from =
      subst (λ ms. AllByRecursion (Contains ms) (map member_of (specs_in Msvc d machine chosen))) (sym made.made)
      (all_contained member_of (member_specs (renamed d) machine Msvc) (specs_in Msvc d machine chosen) (
        descriptor_at,
        all_append (λ p. Among p (member_specs (renamed d) machine Msvc)) shorts (null_thunk_spec machine (linked_dll d) ∷ [])
            (all_mapped (short_import_spec machine (names_for Msvc d)) (λ p. Among p (member_specs (renamed d) machine Msvc)) (chosen_exports d chosen) (chosen_all (λ e. Among (short_import_spec machine (names_for Msvc d) e) (member_specs (renamed d) machine Msvc)) short_at)) (thunk_at, tt),
      ))

  pub null_from : Contains members (null_member machine (linked_dll d))
  null_from = grind (arith, among_map member_of (null_descriptor_spec machine (linked_dll d)) (member_specs (renamed d) machine Msvc) null_at, among_contains, null_at)

flat_listed : (machine : MachineType) (dll : NamesOfDll) (es : List ExportView) (last : MemberSpec) →
    flat_map (λ (m : MemberView). m.symbols) (map member_of (map (short_import_spec machine dll) es ++ last ∷ [])) ≡ flat_map short_import_symbols es ++ (last.symbols ++ [])
flat_listed machine dll [] last = refl
flat_listed machine dll (e ∷ es) last = grind (arith, flat_listed machine dll es last)

-- The members for GNU's linker: a linker takes each for the object that it is.

-- the object of a file is taken with its section symbols
object_taken : (machine : MachineType) (bytes : List ℕ) (o p : Object) → file_in bytes ≡ Some (ObjectFile o) → object_in bytes ≡ Some p → expanded_in machine bytes ≡ Some (with_section_symbols p)
object_taken machine bytes o p is read = grind (arith, taken_by)

export_plain : (machine : MachineType) (dll : NamesOfDll) (e : ExportView) → with_section_symbols (export machine dll e) ≡ export machine dll e
unfolding with_section_symbols export_object
export_plain machine dll e = elim (cases_Bool e.is_data) [ inl is ↦ rw is refl | inr is ↦ rw is refl ]

module _ (d : DefinitionView) (machine : MachineType) (members : List MemberView) (made : AreMembersOf d machine Gnu members) where
  abbrev library : Library
  library = record { definition = d; members = members }

  pub spec_taken : (p : MemberSpec) (q o : Object) → file_of p.contents ≡ ObjectFile q → Among p (gnu_specs machine (names_for Gnu d) (public_exports (renamed d))) → object_in (file_bytes p.contents) ≡ Some o →
      expanded_in machine (file_bytes p.contents) ≡ Some (with_section_symbols o)
  spec_taken p q o same held is =
      object_taken machine (file_bytes p.contents) q o
      ((all_among (λ (s : MemberSpec). ReadsBack s.contents) p (gnu_specs machine (names_for Gnu d) (public_exports (renamed d))) held (member_specs_read d machine members made)).read ∙ ap Some same) is

  -- a specification of an export's members is one of the library's
  pub spec_held : (n : ℕ) (e : ExportView) (p : MemberSpec) → slice_get (public_exports (renamed d)) n ≡ Some e → Among p (numbered_specs_of machine (linked_name d) n e) →
      Among p (gnu_specs machine (names_for Gnu d) (public_exports (renamed d)))
  spec_held n e p is own =
      among_later _ _ _ (among_later _ _ _ (among_reverse p (numbered_specs machine (linked_name d) 0 (public_exports (renamed d)))
      (numbered_in machine (linked_name d) (public_exports (renamed d)) 0 n e p is (subst (λ k. Among p (numbered_specs_of machine (linked_name d) k e)) (sym (omega arith)) own))))

  pub head_taken : expanded_in machine (member_of (head_spec machine (linked_name d))).bytes ≡ Some (head machine (names_for Gnu d))
  unfolding head_spec with_section_symbols head_object
  head_taken = spec_taken (head_spec machine (linked_name d)) _ _ refl (among_later _ _ _ (among_first _ _)) (head_object_is machine library made) ∙ ap Some (refl)

  pub tail_taken : expanded_in machine (member_of (tail_spec machine (names_for Gnu d))).bytes ≡ Some (tail machine (names_for Gnu d))
  unfolding tail_spec with_section_symbols tail_object
  tail_taken = spec_taken (tail_spec machine (names_for Gnu d)) _ _ refl (among_first _ _) (tail_object_is machine library made) ∙ ap Some (refl)

  pub export_taken : (n : ℕ) (e : ExportView) → slice_get (public_exports (renamed d)) n ≡ Some e → expanded_in machine (member_of (export_spec machine (linked_name d) n e)).bytes ≡ Some (export machine (names_for Gnu d) e)
  unfolding export_spec
  export_taken n e is =
      let p : MemberSpec = export_spec machine (linked_name d) n e in
      cc (spec_taken p _ _ refl (spec_held n e p is (among_back p (alias_specs machine (linked_name d) n e) (p ∷ []) (among_first _ _))) (export_object_is machine library made n e is), export_plain machine (names_for Gnu d) e)

  abbrev reading : MemberSpec → Option Object
  reading p = expanded_in machine (member_of p).bytes

  abbrev last : MemberSpec
  last = tail_spec machine (names_for Gnu d)

  behind_taken : (chosen : List ℕ) → map reading (filter_map (numbered_spec machine (linked_name d) (public_exports (renamed d))) chosen ++ last ∷ [])
      ≡ map Some (map (export machine (names_for Gnu d)) (chosen_exports d chosen) ++ tail machine (names_for Gnu d) ∷ [])
  behind_taken [] = ap (λ o. o ∷ []) tail_taken
  behind_taken (n ∷ chosen) = grind (arith, behind_taken chosen, export_taken, export)

  pub gnu_read : (chosen : List ℕ) →
      map (λ (m : MemberView). expanded_in machine m.bytes) (map member_of (specs_in Gnu d machine chosen)) ≡ map Some (objects_of machine Gnu (names_for Gnu d) (chosen_exports d chosen) [])
  gnu_read chosen = grind (arith, map_after, head_taken, head, behind_taken)

-- In either flavour.

objects_read : (d : DefinitionView) (machine : MachineType) (flavor : Flavor) (members : List MemberView) (chosen : List ℕ) → AreMembersOf d machine flavor members →
    map (λ (m : MemberView). expanded_in machine m.bytes) (map member_of (specs_in flavor d machine chosen)) ≡ map Some (objects_of machine flavor (names_for flavor d) (chosen_exports d chosen) [])
objects_read d machine Msvc members chosen made = msvc_read d machine members chosen made
objects_read d machine Gnu members chosen made = gnu_read d machine members made chosen

from_members : (d : DefinitionView) (machine : MachineType) (flavor : Flavor) (members : List MemberView) (chosen : List ℕ) → AreMembersOf d machine flavor members →
    AllByRecursion (Contains members) (map member_of (specs_in flavor d machine chosen))
from_members d machine Msvc members chosen made = msvc_from d machine members chosen made
from_members d machine Gnu members chosen made = members_among d machine members chosen made

fit_in : (d : DefinitionView) (machine : MachineType) (flavor : Flavor) (members : List MemberView) (chosen : List ℕ) → AreMembersOf d machine flavor members →
    AllByRecursion (FitsIn flavor machine) (chosen_exports d chosen)
unfolding FitsIn
fit_in d machine Msvc members chosen made = msvc_fit d machine members chosen made
fit_in d machine Gnu members chosen made = exports_fit d machine members chosen made

symbols_are_in : (d : DefinitionView) (machine : MachineType) (flavor : Flavor) (members : List MemberView) (chosen : List ℕ) → AreMembersOf d machine flavor members →
    symbols_listed (map member_of (specs_in flavor d machine chosen)) ≡ symbols_of machine flavor (names_for flavor d) (chosen_exports d chosen)
unfolding descriptor_spec null_thunk_spec
symbols_are_in d machine Msvc members chosen made = grind (arith, flat_listed)
symbols_are_in d machine Gnu members chosen made = symbols_are d machine members chosen made

-- those that are there
present : {X : Type 0} → List (Option X) → List X
present xs = filter_map (λ x. x) xs

filter_map-present : {X Y : Type 0} (f : X → Option Y) (xs : List X) → filter_map f xs ≡ present (map f xs)
unfolding present
filter_map-present f [] = refl
filter_map-present f (x ∷ xs) = ap (λ rest. cons_option (f x) rest) (filter_map-present f xs)

present-some : {X : Type 0} (xs : List X) → present (map Some xs) ≡ xs
unfolding present
present-some [] = refl
present-some (x ∷ xs) = ap (λ rest. x ∷ rest) (present-some xs)

-- what an input's objects are made of
abbrev pub block_in : FlavorInput → FlavorBlock
block_in p = record { flavor = p.flavor; dll = dll_names_in p; exports = exports_chosen p }

taken_are : (machine : MachineType) (p : FlavorInput) → IsMadeFor machine p → objects_taken machine (members_linked machine p) ≡ objects_of machine p.flavor (dll_names_in p) (exports_chosen p) []
taken_are machine p made = grind (arith, filter_map-present, present, objects_read, present-some, objects_of)

pub objects_behind : (machine : MachineType) (flavor : Flavor) (dll : NamesOfDll) (es : List ExportView) (rest : List Object) →
    objects_of machine flavor dll es [] ++ rest ≡ objects_of machine flavor dll es rest
objects_behind machine flavor dll es rest = grind (arith, taken_descriptor, append_assoc, asking, taken_null_thunk, head, export, tail)

-- what members are read as, by any reading that has those of each input as its objects, and others behind them
inputs_as : (reading : List ℕ → Option Object) (machine : MachineType) (ps : List FlavorInput) (rest : List Object) →
    AllByRecursion (λ p. objects_as reading (members_linked machine p) ≡ objects_of machine p.flavor (dll_names_in p) (exports_chosen p) []) ps →
    objects_as reading (all_members machine ps) ++ rest ≡ all_objects machine (map block_in ps) rest
inputs_as reading machine [] rest are = refl
inputs_as reading machine (p ∷ ps) rest are = grind (arith, inputs_as reading machine ps rest are.1, filter_map-append, append_assoc, objects_of, objects_behind, all_objects)

all_taken_are : (machine : MachineType) (ps : List FlavorInput) → AllByRecursion (IsMadeFor machine) ps →
    AllByRecursion (λ p. objects_taken machine (members_linked machine p) ≡ objects_of machine p.flavor (dll_names_in p) (exports_chosen p) []) ps
all_taken_are machine [] are = tt
all_taken_are machine (p ∷ ps) are = (taken_are machine p are.0, all_taken_are machine ps are.1)

pub inputs_objects : (machine : MachineType) (ps : List FlavorInput) → AllByRecursion (IsMadeFor machine) ps → objects_taken machine (all_members machine ps) ≡ all_objects machine (map block_in ps) []
inputs_objects machine ps are = sym (append-nil (objects_taken machine (all_members machine ps))) ∙ inputs_as (expanded_in machine) machine ps [] (all_taken_are machine ps are)

-- members for GNU's linker are taken for the objects that their bytes are
plainly : (d : DefinitionView) (machine : MachineType) (flavor : Flavor) (members : List MemberView) (chosen : List ℕ) → AreMembersOf d machine flavor members → flavor ≡ Gnu →
    objects_in (map member_of (specs_in flavor d machine chosen)) ≡ objects_of machine flavor (names_for flavor d) (chosen_exports d chosen) []
plainly d machine Msvc members chosen made is = cc
plainly d machine Gnu members chosen made is = objects_are d machine members chosen made

all_plainly : (machine : MachineType) (ps : List FlavorInput) → AllByRecursion (IsMadeFor machine) ps → AllByRecursion (λ p. p.flavor ≡ Gnu) ps →
    AllByRecursion (λ p. objects_in (members_linked machine p) ≡ objects_of machine p.flavor (dll_names_in p) (exports_chosen p) []) ps
all_plainly machine [] are gnu = tt
all_plainly machine (p ∷ ps) are gnu = (plainly p.input.definition machine p.flavor p.input.members p.input.chosen are.0 gnu.0, all_plainly machine ps are.1 gnu.1)

pub inputs_plainly : (machine : MachineType) (ps : List FlavorInput) (rest : List Object) → AllByRecursion (IsMadeFor machine) ps → AllByRecursion (λ p. p.flavor ≡ Gnu) ps →
    objects_in (all_members machine ps) ++ rest ≡ all_objects machine (map block_in ps) rest
inputs_plainly machine ps rest are gnu = inputs_as object_in machine ps rest (all_plainly machine ps are gnu)

pub inputs_symbols : (machine : MachineType) (ps : List FlavorInput) → AllByRecursion (IsMadeFor machine) ps →
    symbols_listed (all_members machine ps) ≡ flat_map (λ (k : FlavorBlock). symbols_of machine k.flavor k.dll k.exports) (map block_in ps)
inputs_symbols machine [] are = refl
inputs_symbols machine (p ∷ ps) are = grind (arith, inputs_symbols machine ps are.1, symbols_are_in p.input.definition machine p.flavor p.input.members p.input.chosen are.0, symbols_of machine p.flavor (dll_names_in p) (exports_chosen p), flat_map-append)

pub inputs_link : (machine : MachineType) (ending : Ending) (ps : List FlavorInput) → AllByRecursion (IsMadeFor machine) ps → AllByRecursion (λ p. IsFoundByName p.flavor (dll_names_in p)) ps →
    AllSuit ending (map block_in ps) → AllByRecursion (CanLink machine ending) (map block_in ps)
inputs_link machine ending [] are found suit = tt
inputs_link machine ending (p ∷ ps) are found suit = grind (arith, inputs_link machine ending ps are.1 found.1 suit.1, import_name_is_free p.input.definition machine p.flavor p.input.members are.0, fit_in p.input.definition machine p.flavor p.input.members p.input.chosen are.0)

pub inputs_taken : (machine : MachineType) (ps : List FlavorInput) → AllByRecursion (IsMadeFor machine) ps → AllByRecursion (IsTaken machine) ps
inputs_taken machine [] are = tt
inputs_taken machine (p ∷ ps) are =
    grind (
      arith,
      inputs_taken machine ps are.1,
      from_members p.input.definition machine p.flavor p.input.members p.input.chosen are.0,
      objects_read p.input.definition machine p.flavor p.input.members p.input.chosen are.0,
      taken_are machine p are.0,
      null_from,
    )

pub null_object : (machine : MachineType) (p : FlavorInput) → IsMadeFor machine p → p.flavor ≡ Msvc → expanded_in machine (null_member machine (linked_dll p.input.definition)).bytes ≡ Some (taken_null machine)
null_object machine p made is = grind (arith, null_taken)

-- members with the null descriptor put in are taken for their objects with its object put in
pub objects_with_null : (machine : MachineType) (before behind : List MemberView) (null : MemberView) → expanded_in machine null.bytes ≡ Some (taken_null machine) →
    objects_taken machine (before ++ null ∷ behind) ≡ objects_taken machine before ++ taken_null machine ∷ objects_taken machine behind
objects_with_null machine before behind null is = grind (arith, filter_map-append)
