-- The members for GNU's linker of several DLLs link to what their definitions mean.
use Rattle.std.proofs.Common.{◌≡◌, ℕ, ◌<◌, List, [], ◌∷◌, ◌++◌, map, refl, ap, sym, ◌∙◌, arith, codes, subst, inl, inr}
use Rattle.std.specs.Prelude.{bytes_eq}
use Rattle.std.specs.List.{AllByRecursion, IsDistinct, flat_map}
use Rattle.std.specs.Cmp.Lexicographic.{slice_cmp}
use Rattle.std.specs.Ordering.{nat_cmp, ordering_then}
use Rattle.std.specs.declared.cmp.Ordering.{Ordering}
use Rattle.std.specs.declared.cmp.Ordering.TheVariants.{Equal, Greater, Less}
use Rattle.std.proofs.lemmas.Bool.{cases_order, le-ltb, lt-ltb, ne_eqb}
use Rattle.std.proofs.Math.Dec.{eqb, ltb}
use Rattle.std.proofs.lemmas.List.{append-nil, append_assoc, map-append}
use Rattle.std.proofs.lemmas.Grind.{flat_map-append}
use Rattle.std.proofs.lemmas.List.Elements.{filter_map-append}
use Rattle.implib.specs.declared.machine.MachineType.{MachineType}
use Rattle.implib.specs.Definition.{DefinitionView}
use Rattle.implib.specs.Members.Gnu.{export_name, head_name, mangled_name, tail_name}
use Rattle.implib.specs.Link.Image.{IsAdmissible, image_of}
use Rattle.implib.specs.Link.Placement.{Bases, placed_from}
use Rattle.implib.specs.Members.MemberSpec.{MemberView}
use Rattle.implib.specs.Members.GnuMembers.{head_spec}
use Rattle.implib.specs.Formats.Object.{object_in}
use Rattle.implib.specs.Link.Linked.{IsLinked, AllLink, LinksAt}
use Rattle.implib.specs.Link.LinkedMembers.{IsMade, IsAscending, IsPrefixOf, ComesBefore, IsLinkInput, NoneIsPrefix, LinkInput, member_prefix, all_linked, chosen_exports, linked_members, objects_in}
use Rattle.implib.proofs.Link.LinkedBlocks.{Block, CanBeLinked, blocks_link, blocks_objects, linked_objects, linked_symbols}
use Rattle.implib.proofs.Link.LinkedMembers.{members_among, members_read, members_named, members_rise, same_cmp, dll_free, exports_fit, objects_are, symbols_are}
use Rattle.implib.proofs.Link.Placement.{export, head, tail}
use Rattle.implib.specs.LibraryName.{NamesOfDll, linked_name, names_for}
use Rattle.implib.specs.declared.flavor.Flavor.TheVariants.{Gnu}

-- what a part's objects are made of
abbrev pub block_of : LinkInput → Block
block_of p = record { dll = names_for Gnu p.definition; exports = chosen_exports p.definition p.chosen }

pub gnu_inputs_fit : (machine : MachineType) (ps : List LinkInput) → AllByRecursion (IsMade machine) ps → AllByRecursion (CanBeLinked machine) (map block_of ps)
gnu_inputs_fit machine [] are = tt
gnu_inputs_fit machine (p ∷ ps) are = (
  record {
    dll = dll_free p.definition machine p.members p.chosen are.0;
    exports = exports_fit p.definition machine p.members p.chosen are.0;
  },
  gnu_inputs_fit machine ps are.1,
)

pub gnu_inputs_objects : (machine : MachineType) (ps : List LinkInput) → AllByRecursion (IsMade machine) ps → objects_in (all_linked machine ps) ≡ blocks_objects machine (map block_of ps) []
gnu_inputs_objects machine [] are = refl
gnu_inputs_objects machine (p ∷ ps) are =
    let own : List MemberView = linked_members p.definition machine p.chosen in
    let dll : NamesOfDll = names_for Gnu p.definition in
    filter_map-append (λ (m : MemberView). object_in m.bytes) own (all_linked machine ps)
    ∙ ap (λ objects. objects ++ objects_in (all_linked machine ps)) (objects_are p.definition machine p.members p.chosen are.0)
    ∙ ap (λ rest. linked_objects machine dll (chosen_exports p.definition p.chosen) ++ rest) (gnu_inputs_objects machine ps are.1)
    ∙ ap (λ rest. head machine dll ∷ rest)
    (append_assoc (map (export machine dll) (chosen_exports p.definition p.chosen)) (tail machine dll ∷ []) (blocks_objects machine (map block_of ps) []))

pub gnu_inputs_symbols : (machine : MachineType) (ps : List LinkInput) → AllByRecursion (IsMade machine) ps →
    flat_map (λ (m : MemberView). m.symbols) (all_linked machine ps) ≡ flat_map (λ (k : Block). linked_symbols machine k.dll k.exports) (map block_of ps)
gnu_inputs_symbols machine [] are = refl
gnu_inputs_symbols machine (p ∷ ps) are =
    flat_map-append (λ (m : MemberView). m.symbols) (linked_members p.definition machine p.chosen) (all_linked machine ps)
    ∙ ap (λ symbols. symbols ++ flat_map (λ (m : MemberView). m.symbols) (all_linked machine ps)) (symbols_are p.definition machine p.members p.chosen are.0)
    ∙ ap (λ rest. linked_symbols machine (names_for Gnu p.definition) (chosen_exports p.definition p.chosen) ++ rest) (gnu_inputs_symbols machine ps are.1)

pub all_of_map : {X Y : Type 0} (f : X → Y) (P : Y → Type 0) (xs : List X) → AllByRecursion P (map f xs) → AllByRecursion (λ x. P (f x)) xs
all_of_map f P [] all = tt
all_of_map f P (x ∷ xs) all = (all.0, all_of_map f P xs all.1)

pub gnu_inputs_linked : (machine : MachineType) (ps : List LinkInput) → AllByRecursion (IsMade machine) ps → AllByRecursion (IsLinked machine) ps
gnu_inputs_linked machine [] are = tt
gnu_inputs_linked machine (p ∷ ps) are = (
  record {
    from_members = members_among p.definition machine p.members p.chosen are.0;
    read = members_read p.definition machine p.members p.chosen are.0;
  },
  gnu_inputs_linked machine ps are.1,
)

pub gnu_inputs_link : (machine : MachineType) (bases : Bases) (ps : List LinkInput) → AllByRecursion (IsMade machine) ps →
    IsDistinct bytes_eq (flat_map (λ (m : MemberView). m.symbols) (all_linked machine ps)) → IsAdmissible machine bases (objects_in (all_linked machine ps)) →
    AllLink machine bases ps (objects_in (all_linked machine ps))
gnu_inputs_link machine bases ps are distinct admissible =
    let blocks : List Block = map block_of ps in
    let linked = blocks_link machine bases blocks (gnu_inputs_fit machine ps are) (subst (IsDistinct bytes_eq) (gnu_inputs_symbols machine ps are) distinct)
    (subst (IsAdmissible machine bases) (gnu_inputs_objects machine ps are) admissible) in
    subst (AllLink machine bases ps) (sym (gnu_inputs_objects machine ps are)) (record {
      linked = gnu_inputs_linked machine ps are;
      imports = all_of_map block_of
          (λ (k : Block). LinksAt machine (image_of machine bases (placed_from bases (blocks_objects machine blocks []))) (placed_from bases (blocks_objects machine blocks [])) k.dll k.exports)
          ps linked.0;
      defined = linked.1;
    })

pub gnu_inputs_made : (machine : MachineType) (ps : List LinkInput) → AllByRecursion (IsLinkInput machine) ps → AllByRecursion (IsMade machine) ps
gnu_inputs_made machine [] are = tt
gnu_inputs_made machine (p ∷ ps) are = (are.0.made, gnu_inputs_made machine ps are.1)

-- The order of the names of all parts.

same_front : (x y : ℕ) (xs ys : List ℕ) → x ≡ y → xs ≡ ys → y ∷ xs ≡ x ∷ ys
same_front x y xs ys first rest = cc

less_is_not_greater : Less ≡ Greater → ⊥
less_is_not_greater same = cc

greater_is_not_less : (x y : ℕ) (o : Ordering) → y < x → ordering_then (nat_cmp x y) o ≡ Less → ⊥
greater_is_not_less x y o high less = grind (arith, ltb, le-ltb, eqb, ne_eqb, less_is_not_greater)

-- a text before another that does not begin it comes before it whatever follows
cmp_apart : (xs ys : List ℕ) (after behind : List ℕ) → slice_cmp nat_cmp xs ys ≡ Less → (IsPrefixOf xs ys → ⊥) → slice_cmp nat_cmp (xs ++ after) (ys ++ behind) ≡ Less
cmp_apart [] ys after behind less apart = absurd (apart (ys, refl))
cmp_apart (x ∷ xs) [] after behind less apart = cc
cmp_apart (x ∷ xs) (y ∷ ys) after behind less apart =
    elim (cases_order x y) [
      | inl e ↦
          let here : nat_cmp x y ≡ Equal = subst (λ n. nat_cmp x n ≡ Equal) e (same_cmp x) in
          let later : slice_cmp nat_cmp xs ys ≡ Less = rw here at less in
          rw here (cmp_apart xs ys after behind later (λ b. apart (b.0, same_front x y ys (xs ++ b.0) e b.1)))
      | inr other ↦ elim other [
        | inl low ↦ rw (lt-ltb x y low) refl
        | inr high ↦ absurd (greater_is_not_less x y (slice_cmp nat_cmp xs ys) high less)
      ]
    ]

tail_before_head : (first second : DefinitionView) → ComesBefore (member_prefix first) (member_prefix second) → (IsPrefixOf (member_prefix first) (member_prefix second) → ⊥) →
    ComesBefore (tail_name (linked_name first)) (head_name (linked_name second))
unfolding tail_name head_name
tail_before_head first second before apart =
    let joined : ComesBefore (member_prefix first ++ codes "t.o") (member_prefix second ++ codes "h.o") = grind (arith, cmp_apart) in
    subst (λ name. ComesBefore name (head_name (linked_name second))) (append_assoc (mangled_name (linked_name first)) (codes "_a_") (codes "t.o"))
    (subst (λ name. ComesBefore (member_prefix first ++ codes "t.o") name) (append_assoc (mangled_name (linked_name second)) (codes "_a_") (codes "h.o")) joined)

rise_on : (names : List (List ℕ)) (last next : List ℕ) (others : List (List ℕ)) → IsAscending (names ++ last ∷ []) → ComesBefore last next → IsAscending (next ∷ others) →
    IsAscending ((names ++ last ∷ []) ++ next ∷ others)
rise_on [] last next others rise before behind = (before, behind)
rise_on (x ∷ []) last next others rise before behind = (rise.0, (before, behind))
rise_on (x ∷ y ∷ names) last next others rise before behind = (rise.0, rise_on (y ∷ names) last next others rise.1 before behind)

abbrev names_of : List MemberView → List (List ℕ)
names_of members = map (λ (m : MemberView). m.name) members

pub gnu_inputs_rise : (machine : MachineType) (ps : List LinkInput) → AllByRecursion (IsLinkInput machine) ps → IsAscending (map (λ (p : LinkInput). member_prefix p.definition) ps) →
    NoneIsPrefix (map (λ (p : LinkInput). member_prefix p.definition) ps) → IsAscending (names_of (all_linked machine ps))
unfolding head_spec
gnu_inputs_rise machine [] are rise apart = tt
gnu_inputs_rise machine (p ∷ []) are rise apart =
    subst (λ members. IsAscending (names_of members)) (sym (append-nil (linked_members p.definition machine p.chosen)))
    (members_rise p.definition machine p.members p.chosen are.0.made are.0.numbers are.0.in_order)
gnu_inputs_rise machine (p ∷ q ∷ ps) are rise apart =
    let dll : List ℕ = linked_name p.definition in
    let own : List (List ℕ) = head_name dll ∷ map (export_name dll) p.chosen in
    let named : names_of (linked_members p.definition machine p.chosen) ≡ own ++ tail_name dll ∷ [] =
    members_named p.definition machine p.members p.chosen are.0.made are.0.numbers in
    let own_rise : IsAscending (own ++ tail_name dll ∷ []) =
    subst IsAscending named (members_rise p.definition machine p.members p.chosen are.0.made are.0.numbers are.0.in_order) in
    let behind = gnu_inputs_rise machine (q ∷ ps) are.1 rise.1 apart.1 in
    let joined : names_of (all_linked machine (p ∷ q ∷ ps)) ≡ (own ++ tail_name dll ∷ []) ++ names_of (all_linked machine (q ∷ ps)) = grind (arith, map-append) in
    subst IsAscending (sym joined)
    (rise_on own (tail_name dll) (head_name (linked_name q.definition)) _ own_rise (tail_before_head p.definition q.definition rise.0 apart.0.0.0) behind)
