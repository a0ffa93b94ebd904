-- What is linked of libraries in either flavour, for names that want their exports.
use Rattle.std.proofs.Common.{rules, ◌≡◌, ℕ, Bool, arith, true, List, [], ◌∷◌, map, Option, Some, None, refl, ap, sym, ◌∙◌, subst, inl, inr, ◌⊎◌, ◌+◌, ◌≤◌, ◌++◌}
use Rattle.std.specs.Prelude.{slice_get, IsPermutation, bytes_eq}
use Rattle.std.specs.List.{cons_option, filter, filter_map, AllByRecursion, IsDistinct, flat_map}
use Rattle.implib.specs.declared.flavor.Flavor.{Flavor}
use Rattle.implib.specs.declared.flavor.Flavor.TheVariants.{Gnu, Msvc}
use Rattle.implib.specs.declared.machine.MachineType.{MachineType}
use Rattle.implib.specs.Definition.{ExportView}
use Rattle.implib.specs.LibraryName.{linked_dll, linked_name, names_for}
use Rattle.implib.specs.Link.LinkedMembers.{all_linked, chosen_exports, numbered_spec}
use Rattle.implib.specs.Members.Gnu.{archive_symbols}
use Rattle.implib.specs.Members.GnuMembers.{export_spec, head_spec, tail_spec}
use Rattle.implib.specs.Members.MemberSpec.{MemberSpec, MemberView, member_of}
use Rattle.implib.specs.Members.Msvc.{short_import_symbols}
use Rattle.implib.specs.Members.MsvcMembers.{descriptor_spec, null_thunk_spec, short_import_spec}
use Rattle.implib.proofs.Link.LinkedMembers.{among_map}
use Rattle.implib.proofs.Link.Ranges.{Among, among_back, among_first, among_flat, among_front, among_later}
use Rattle.implib_link.specs.Flavors.Program.{FlavorInput, all_members, gnu_input, members_linked, specs_in, IsFoundByName, IsMadeFor, dll_names_in, symbols_listed}
use Rattle.implib_link.specs.Search.Search.{Library, exports_of, inputs_wanted, exports_wanted, is_wanted}
use Rattle.implib_link.specs.Search.Libraries.{FlavorLibrary, flavor_input, flavor_inputs, symbols_in, imports_wanted, is_import_wanted, short_input_if_any, short_inputs, IsFlavorArchive, msvc_among}
use Rattle.implib_link.proofs.Flavors.Program.{gnu_members}
use Rattle.implib_link.proofs.Search.ArchiveMembers.{chosen_are as gnu_chosen_are, among_moved, library_fewer as gnu_fewer, distinct_from, times, times_both, times_moved, Chosen, member_spec_chosen, member_spec_linked, numbers_are_wanted, only_one, some_export, wanted_name, wants}
use Rattle.implib_link.proofs.Search.Lists.{among_at, among_either, among_flat_map, among_mapped, passes, passing, at_index, kept_from, kept_into, all_from as all_each, distinct_later}
use Rattle.implib_link.proofs.Search.MsvcMembers.{both_parts, import_parts, imports_are, library_fewer as short_fewer}
use Rattle.implib_link.proofs.Search.Roles.{IsOwn, Last, Own, Top, in_flavor, member}
use Rattle.std.proofs.lemmas.Option.{same_Some}
use Rattle.std.proofs.lemmas.List.Sorted.{IsPermutation-sym}
use Rattle.implib.specs.Members.MsvcObjects.{null_descriptor_symbol}
use Rattle.implib_link.proofs.Flavors.Block.{symbols_of, FlavorBlock}
use Rattle.implib_link.proofs.Flavors.Inputs.{block_in, inputs_symbols}
use Rattle.implib_link.proofs.Search.FlavorGroups.{few, made_of, null_of, of_libraries, of_library, by_name}

-- whether an export's own member is taken for names
abbrev pub is_chosen : Flavor → List (List ℕ) → ExportView → Bool
is_chosen Msvc names e = is_import_wanted names e
is_chosen Gnu names e = is_wanted names e

pub own_chosen : (flavor : Flavor) (names : List (List ℕ)) (e : ExportView) → is_chosen flavor names e ≡ true → IsOwn flavor e
own_chosen flavor names e want = grind (arith, import_parts)

pub chosen_name : (flavor : Flavor) (names : List (List ℕ)) (e : ExportView) → is_chosen flavor names e ≡ true → (name : List ℕ) × Among name (symbols_in flavor e) × Among name names
chosen_name Msvc names e want = wanted_name names (short_import_symbols e) (import_parts names e want).0
chosen_name Gnu names e want = wanted_name names (archive_symbols e) want

pub chosen_by : (flavor : Flavor) (names : List (List ℕ)) (e : ExportView) (name : List ℕ) → IsOwn flavor e → Among name (symbols_in flavor e) → Among name names → is_chosen flavor names e ≡ true
chosen_by flavor names e name own listed want = grind (arith, both_parts, wants)

-- names that want an export want it with more names
pub chosen_too : (flavor : Flavor) (names more : List (List ℕ)) (e : ExportView) → ((name : List ℕ) → Among name names → Among name more) → is_chosen flavor names e ≡ true →
    is_chosen flavor more e ≡ true
chosen_too flavor names more e within want = grind (arith, chosen_name, want, chosen_by, own_chosen)

-- some export of a library is chosen
pub record AnyOf (names : List (List ℕ)) (l : FlavorLibrary) : Type 0 where
  pub number : ℕ
  pub export : ExportView
  pub is : slice_get (exports_of l.library) number ≡ Some export
  pub want : is_chosen l.flavor names export ≡ true

-- The input of a library.

abbrev pub numbers_in : Flavor → List (List ℕ) → Library → List ℕ
numbers_in Msvc names l = imports_wanted l names
numbers_in Gnu names l = exports_wanted l.definition names

abbrev input_with : Flavor → Library → List ℕ → FlavorInput
input_with flavor l chosen = record { flavor = flavor; input = record { definition = l.definition; members = l.members; chosen = chosen } }

abbrev pub input_in : List (List ℕ) → FlavorLibrary → FlavorInput
input_in names l = record { flavor = l.flavor; input = record { definition = l.library.definition; members = l.library.members; chosen = numbers_in l.flavor names l.library } }

pub chosen_are : (flavor : Flavor) (names : List (List ℕ)) (l : Library) → chosen_exports l.definition (numbers_in flavor names l) ≡ filter (is_chosen flavor names) (exports_of l)
chosen_are Msvc names l = imports_are l names
chosen_are Gnu names l = gnu_chosen_are l names

pub export_chosen : (names : List (List ℕ)) (l : FlavorLibrary) (n : ℕ) (e : ExportView) → slice_get (exports_of l.library) n ≡ Some e → is_chosen l.flavor names e ≡ true →
    Among e (chosen_exports l.library.definition (numbers_in l.flavor names l.library))
export_chosen names l n e is want = grind (arith, chosen_are, passes, among_at, is, want)

abbrev pub if_any : Flavor → Library → List ℕ → Option FlavorInput
if_any flavor l [] = None
if_any flavor l (n ∷ chosen) = Some (input_with flavor l (n ∷ chosen))

pub input_if : (flavor : Flavor) (names : List (List ℕ)) (l : Library) → flavor_input names flavor l ≡ if_any flavor l (numbers_in flavor names l)
input_if flavor names l = grind arith

some_input : (names : List (List ℕ)) (l : FlavorLibrary) → AnyOf names l → flavor_input names l.flavor l.library ≡ Some (input_in names l)
unfolding Among
some_input names l any = grind (arith, input_if l.flavor names l.library, export_chosen names l any.number any.export any.is any.want)

some_number : (flavor : Flavor) (names : List (List ℕ)) (l : Library) (n : ℕ) (chosen : List ℕ) → numbers_in flavor names l ≡ n ∷ chosen →
    (e : ExportView) × (Among e (exports_of l) × (is_chosen flavor names e ≡ true))
some_number flavor names l n chosen is = grind (arith, some_export)

input_some : (names : List (List ℕ)) (l : FlavorLibrary) (p : FlavorInput) → flavor_input names l.flavor l.library ≡ Some p → (p ≡ input_in names l) × AnyOf names l
input_some names l p is = by (numbers_in l.flavor names l.library) refl (sym (input_if l.flavor names l.library) ∙ is)
  where
    by : (chosen : List ℕ) → numbers_in l.flavor names l.library ≡ chosen → if_any l.flavor l.library chosen ≡ Some p → (p ≡ input_in names l) × AnyOf names l
    by [] are some = cc
    by (n ∷ chosen) are some =
        let one = some_number l.flavor names l.library n chosen are in
        let at = at_index one.0 (exports_of l.library) one.1.0 in
        let same : p ≡ input_with l.flavor l.library (n ∷ chosen) = (let e : Some (input_with l.flavor l.library (n ∷ chosen)) ≡ Some p = some in cc) in
        (same ∙ ap (input_with l.flavor l.library) (sym are), record { number = at.0; export = one.0; is = at.1; want = one.1.1 })

pub input_held : (names : List (List ℕ)) (libraries : List FlavorLibrary) (l : FlavorLibrary) → Among l libraries → AnyOf names l → Among (input_in names l) (flavor_inputs libraries names)
input_held names libraries l held any = kept_into (λ (x : FlavorLibrary). flavor_input names x.flavor x.library) libraries (input_in names l) l held (some_input names l any)

pub input_is : (names : List (List ℕ)) (libraries : List FlavorLibrary) (p : FlavorInput) → Among p (flavor_inputs libraries names) →
    (l : FlavorLibrary) × Among l libraries × (p ≡ input_in names l) × AnyOf names l
input_is names libraries p held = grind (arith, kept_from, input_some)

-- What is linked of a library.

pub data IsLinked (machine : MachineType) (names : List (List ℕ)) (l : FlavorLibrary) (m : MemberView) : Type 0 where
  TheTop : m ≡ member machine l.flavor l.library Top → IsLinked machine names l m
  TheLast : m ≡ member machine l.flavor l.library Last → IsLinked machine names l m
  AnOwn : (n : ℕ) (e : ExportView) → slice_get (exports_of l.library) n ≡ Some e → m ≡ member machine l.flavor l.library (Own n e) → is_chosen l.flavor names e ≡ true → IsLinked machine names l m

module _ (machine : MachineType) (names : List (List ℕ)) where
  abbrev specs : Flavor → Library → List MemberSpec
  specs flavor l = specs_in flavor l.definition machine (numbers_in flavor names l)

  as_spec : (flavor : Flavor) (l : Library) (m : MemberView) (p : MemberSpec) → m ≡ member_of p → Among p (specs flavor l) → Among m (members_linked machine (input_in names (in_flavor flavor l)))
  as_spec flavor l m p same held = subst (λ x. Among x (map member_of (specs flavor l))) (sym same) (among_map member_of p (specs flavor l) held)

  linked_in : (flavor : Flavor) (l : Library) (m : MemberView) → IsLinked machine names (in_flavor flavor l) m → Among m (members_linked machine (input_in names (in_flavor flavor l)))
  linked_in Msvc l m (TheTop same) = as_spec Msvc l m (descriptor_spec machine (names_for Msvc l.definition)) same (among_first _ _)
  linked_in Gnu l m (TheTop same) = as_spec Gnu l m (head_spec machine (linked_name l.definition)) same (among_first _ _)
  linked_in Msvc l m (TheLast same) = search (rules, as_spec, among_later, among_back, map, among_first)
  linked_in Gnu l m (TheLast same) = search (rules, as_spec, among_later, among_back, among_first)
  linked_in Msvc l m (AnOwn n e is same want) =
      let all : List MemberSpec = map (short_import_spec machine (names_for Msvc l.definition)) (chosen_exports l.definition (imports_wanted l names)) in
      as_spec Msvc l m (short_import_spec machine (names_for Msvc l.definition) e) same (among_later _ _ _ (among_front _ all _
      (among_map (short_import_spec machine (names_for Msvc l.definition)) e _ (export_chosen names (in_flavor Msvc l) n e is want))))
  linked_in Gnu l m (AnOwn n e is same want) =
      let all : List MemberSpec = filter_map (numbered_spec machine (linked_name l.definition) (exports_of l)) (exports_wanted l.definition names) in
      as_spec Gnu l m (export_spec machine (linked_name l.definition) n e) same (among_later _ _ _ (among_front _ all _
      (member_spec_chosen machine (linked_name l.definition) (exports_of l) (exports_wanted l.definition names) n e ((numbers_are_wanted (exports_of l) names).all n e is want) is)))

  spec_linked : (flavor : Flavor) (l : Library) (m : MemberView) (p : MemberSpec) → m ≡ member_of p → Among p (specs flavor l) → IsLinked machine names (in_flavor flavor l) m
  unfolding Among
  spec_linked Msvc l m p same (inl is) = TheTop (same ∙ ap member_of is)
  spec_linked Msvc l m p same (inr held) =
      let spec : ExportView → MemberSpec = short_import_spec machine (names_for Msvc l.definition) in
      elim (among_either p (map spec (chosen_exports l.definition (imports_wanted l names))) (null_thunk_spec machine (linked_dll l.definition) ∷ []) held) [
        | inl own ↦
            let e = among_mapped spec p (chosen_exports l.definition (imports_wanted l names)) own in
            let kept = passing (is_import_wanted names) e.0 (exports_of l) (subst (Among e.0) (imports_are l names) e.1) in
            let at = at_index e.0 (exports_of l) kept.0 in
            AnOwn at.0 e.0 at.1 (same ∙ ap member_of e.2) kept.1
        | inr last ↦ TheLast (same ∙ ap member_of (only_one p (null_thunk_spec machine (linked_dll l.definition)) last))
      ]
  spec_linked Gnu l m p same held = by (member_spec_linked machine (names_for Gnu l.definition) (exports_of l) (exports_wanted l.definition names) p held)
    where
      by : (p ≡ head_spec machine (linked_name l.definition)) ⊎ ((p ≡ tail_spec machine (names_for Gnu l.definition)) ⊎ Chosen machine (linked_name l.definition) (exports_of l) (exports_wanted l.definition names) p) →
          IsLinked machine names (in_flavor Gnu l) m
      by (inl is) = TheTop (same ∙ ap member_of is)
      by (inr (inl is)) = TheLast (same ∙ ap member_of is)
      by (inr (inr c)) =
          let found = (numbers_are_wanted (exports_of l) names).only c.0 c.2 in
          AnOwn c.0 c.1 c.3 (same ∙ ap member_of c.4) (subst (λ e. is_wanted names e ≡ true) (sym (same_Some c.1 found.0 (sym c.3 ∙ found.1))) found.2)

  -- what is linked of libraries is linked of one of which some export is chosen
  pub linked_from : (libraries : List FlavorLibrary) (m : MemberView) → Among m (all_members machine (flavor_inputs libraries names)) →
      (l : FlavorLibrary) × Among l libraries × AnyOf names l × IsLinked machine names l m
  linked_from libraries m held =
      let p = among_flat_map (members_linked machine) m (flavor_inputs libraries names) held in
      let from = input_is names libraries p.0 p.1 in
      let spec = among_mapped member_of m (specs from.0.flavor from.0.library) (subst (λ (q : FlavorInput). Among m (members_linked machine q)) from.2 p.2) in
      (from.0, from.1, from.3, spec_linked from.0.flavor from.0.library m spec.0 spec.2 spec.1)

  pub linked_into : (libraries : List FlavorLibrary) (m : MemberView) (l : FlavorLibrary) → Among l libraries → AnyOf names l → IsLinked machine names l m →
      Among m (all_members machine (flavor_inputs libraries names))
  linked_into libraries m l held any own = grind (arith, input_held names libraries l held any, linked_in l.flavor l.library m own, among_flat)

-- Libraries of one flavour.

pub shorts_are : (libraries : List Library) (names : List (List ℕ)) → flavor_inputs (map (in_flavor Msvc) libraries) names ≡ short_inputs libraries names
shorts_are [] names = refl
shorts_are (l ∷ libraries) names = ap (cons_option (short_input_if_any l (imports_wanted l names))) (shorts_are libraries names)

pub exports_are : (libraries : List Library) (names : List (List ℕ)) → flavor_inputs (map (in_flavor Gnu) libraries) names ≡ map gnu_input (inputs_wanted libraries names)
exports_are [] names = refl
exports_are (l ∷ libraries) names = grind (arith, exports_are libraries names)

pub linked_are : (machine : MachineType) (libraries : List Library) (names : List (List ℕ)) →
    all_members machine (flavor_inputs (map (in_flavor Gnu) libraries) names) ≡ all_linked machine (inputs_wanted libraries names)
linked_are machine libraries names = ap (all_members machine) (exports_are libraries names) ∙ gnu_members machine (inputs_wanted libraries names)

-- What is linked of an archive of both flavours, where the libraries may be in another order: its symbols differ, since those do
-- that the archive lists.

module _ (machine : MachineType) where
  abbrev of_inputs : List FlavorInput → List (List ℕ)
  of_inputs inputs = flat_map (λ (k : FlavorBlock). symbols_of machine k.flavor k.dll k.exports) (map block_in inputs)

  abbrev IsFewer : List ℕ → Flavor → Library → List ℕ → Type 0
  IsFewer name flavor l chosen = times name (symbols_of machine flavor (names_for flavor l.definition) (chosen_exports l.definition chosen)) ≤ times name (of_library machine flavor l)

  library_fewer : (name : List ℕ) (names : List (List ℕ)) (flavor : Flavor) (l : Library) → IsFewer name flavor l (numbers_in flavor names l)
  library_fewer name names Msvc l = short_fewer machine name l names
  library_fewer name names Gnu l = gnu_fewer machine name l names

  one_more : (name : List ℕ) (names : List (List ℕ)) (flavor : Flavor) (l : Library) (others : List FlavorInput) →
      times name (of_inputs (cons_option (flavor_input names flavor l) others)) ≤ times name (of_library machine flavor l) + times name (of_inputs others)
  one_more name names flavor l others = grind (arith, of_library machine flavor l, input_if flavor names l, library_fewer name names flavor l, times, few, times_both, symbols_of)

  inputs_fewer : (name : List ℕ) (libraries : List FlavorLibrary) (names : List (List ℕ)) → times name (of_inputs (flavor_inputs libraries names)) ≤ times name (of_libraries machine libraries)
  inputs_fewer name [] names = omega arith
  inputs_fewer name (l ∷ rest) names = grind (arith, inputs_fewer name rest names, times, of_library, one_more, of_libraries, times_both)

  module _ (libraries : List FlavorLibrary) (archive : IsFlavorArchive machine libraries) where
    abbrev shorts : List Library
    shorts = msvc_among libraries

    module _ (arranged : List FlavorLibrary) (moved : IsPermutation libraries arranged) (names : List (List ℕ)) where
      back : (l : FlavorLibrary) → Among l arranged → Among l libraries
      back l held = among_moved l arranged libraries (IsPermutation-sym libraries arranged moved) held

      pub both_made : AllByRecursion (IsMadeFor machine) (flavor_inputs arranged names)
      both_made = all_each (IsMadeFor machine) (flavor_inputs arranged names) (λ p held.
          let from = input_is names arranged p held in
          subst (IsMadeFor machine) (sym from.2) (made_of machine libraries archive from.0.flavor from.0.library (back from.0 from.1)))

      pub both_found : AllByRecursion (λ p. IsFoundByName p.flavor (dll_names_in p)) (flavor_inputs arranged names)
      both_found = all_each (λ p. IsFoundByName p.flavor (dll_names_in p)) (flavor_inputs arranged names) (λ p held.
          let from = input_is names arranged p held in
          subst (λ (q : FlavorInput). IsFoundByName q.flavor (dll_names_in q)) (sym from.2) (by_name machine libraries archive from.0.flavor from.0.library (back from.0 from.1)))

      few_linked : (name : List ℕ) → times name (null_of shorts ++ of_inputs (flavor_inputs arranged names)) ≤ 1
      few_linked name =
          grind (arith, few machine libraries archive name, of_libraries, times, times_moved, of_library, inputs_fewer, null_of, times_both)

      with_null_distinct : IsDistinct bytes_eq (null_of shorts ++ symbols_listed (all_members machine (flavor_inputs arranged names)))
      with_null_distinct = grind (arith, null_of shorts, inputs_symbols machine (flavor_inputs arranged names) both_made, distinct_from (null_of shorts ++ of_inputs (flavor_inputs arranged names)) few_linked)

      pub both_distinct : (l : Library) → Among l (msvc_among libraries) → IsDistinct bytes_eq (null_descriptor_symbol ∷ symbols_listed (all_members machine (flavor_inputs arranged names)))
      unfolding Among
      both_distinct l held = grind (arith, with_null_distinct, null_of)

      pub members_distinct : IsDistinct bytes_eq (symbols_listed (all_members machine (flavor_inputs arranged names)))
      members_distinct = distinct_later (null_of shorts) (symbols_listed (all_members machine (flavor_inputs arranged names))) with_null_distinct
