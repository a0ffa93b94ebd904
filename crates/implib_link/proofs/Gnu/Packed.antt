-- Relocations leave the lengths of sections as they are.
use Rattle.std.proofs.Common.{◌≡◌, ℕ, ◌+◌, ◌%◌, ◌^◌, ◌≤◌, List, [], ◌∷◌, ◌++◌, length, map, ◌∙◌, inl, inr, arith, ◌<◌, true, false, Option, Some, None, refl, ap, sym, subst}
use Rattle.std.specs.List.{AllByRecursion, filter, list_any}
use Rattle.std.proofs.lemmas.Bool.{cases_Bool}
use Rattle.std.proofs.lemmas.List.{length-append, length-drop, length-take-le, append_assoc, length-replicate}
use Rattle.implib.specs.declared.coff.object.Relocation.{Relocation}
use Rattle.implib.specs.declared.machine.MachineType.{MachineType}
use Rattle.implib.specs.Formats.Bytes.{u32_bytes}
use Rattle.implib.specs.Definition.{ExportView}
use Rattle.implib.specs.Members.Gnu.{export_object, head_object, relocations_of_stub, relocations_of_thunk, stub, tail_object, thunk}
use Rattle.implib.specs.Link.Image.{relocated, with_address, AllApart, AreApart, Contribution, IsAdmissible, IsBase, Range, contribution_at, contributions, contributions_in, contributions_of, filled, image_of, range_end, range_of}
use Rattle.implib.specs.Members.ImportTables.{thunk_width}
use Rattle.implib.specs.Formats.Object.{Object, ObjectSection}
use Rattle.implib.specs.Link.Placement.{Placed, Addresses, Bases, Descriptors, DirectoryEnds, DllNames, Group, HintNames, Lookups, alignment, base_of, end_after, ends_after, group_named, next_multiple, address_after, section_address_of, placed_from, section_addresses_of, same_group}
use Rattle.implib.specs.Link.Resolution.{target_address}
use Rattle.implib.proofs.Link.Placement.{export, head, length-thunk, tail, at_least}
use Rattle.implib.specs.LibraryName.{NamesOfDll}
use Rattle.implib_link.proofs.Gnu.Loaded.{by_width}
use Rattle.implib_link.specs.Flavors.Program.{end_with, group_end, packed, packed_addresses, packed_descriptors, packed_directory_ends, packed_dll_names, packed_end, packed_hint_names, packed_lookups, sections_end, has_tables, is_table}
use Rattle.implib_link.proofs.Gnu.Others.{contributions_kept}
use Rattle.std.proofs.lemmas.Grind.{flat_map-append}
use Rattle.implib.specs.Link.Load.{BytesAt}
use Rattle.implib.proofs.Link.Linked.{LocatedFrom}
use Rattle.implib.proofs.Link.Ranges.{located_parts}

-- the relocations of so many bytes are within them
abbrev pub AreWithin : ℕ → List Relocation → Type 0
AreWithin size relocations = AllByRecursion (λ r. r.offset + 4 ≤ size) relocations

-- each section of an object has its relocations within its bytes
abbrev pub IsSized : Object → Type 0
IsSized o = AllByRecursion (λ s. AreWithin (length s.bytes) s.relocations) o.sections

pub length-relocated : (machine : MachineType) (linked : List Placed) (p : Placed) (relocations : List Relocation) (bytes : List ℕ) (size : ℕ) →
    AreWithin size relocations → length bytes ≡ size → length (relocated machine linked p relocations bytes) ≡ size
unfolding with_address u32_bytes
length-relocated machine linked p [] bytes size within long = long
length-relocated machine linked p (r ∷ relocations) bytes size within long =
    grind (
      arith,
      length-relocated machine linked p relocations (with_address bytes r.offset (target_address linked p r.symbol)) size within.1
          ((grind (arith, length-take-le, length-drop, length-append)) ∙ long),
      length-relocated machine linked p relocations bytes size within.1 long,
    )

-- The members' objects are sized.

pub thunk_size : (machine : MachineType) → 4 ≤ thunk_width machine
thunk_size machine = by_width (λ w. 4 ≤ w) (omega arith) (omega arith) machine

thunk_within : (machine : MachineType) (e : ExportView) → AreWithin (length (thunk machine e)) (relocations_of_thunk machine e)
unfolding relocations_of_thunk
thunk_within machine e = grind (arith, length-thunk, thunk_size)

pub head_sized : (machine : MachineType) (dll : NamesOfDll) → IsSized (head machine dll)
unfolding head_object
head_sized machine dll = (tt, (tt, (tt, ((omega arith, (omega arith, (omega arith, tt))), (tt, (tt, tt))))))

pub tail_sized : (machine : MachineType) (dll : NamesOfDll) → IsSized (tail machine dll)
unfolding tail_object
tail_sized machine dll = (tt, (tt, (tt, (tt, (tt, (tt, tt))))))

pub export_sized : (machine : MachineType) (dll : NamesOfDll) (e : ExportView) → IsSized (export machine dll e)
unfolding export_object relocations_of_stub stub
export_sized machine dll e = (grind (arith, cases_Bool), (tt, (tt, ((omega arith, tt), (thunk_within machine e, (thunk_within machine e, (tt, tt)))))))

pub exports_sized : (machine : MachineType) (dll : NamesOfDll) (es : List ExportView) (rest : List Object) → AllByRecursion IsSized rest → AllByRecursion IsSized (map (export machine dll) es ++ rest)
exports_sized machine dll [] rest all = all
exports_sized machine dll (e ∷ es) rest all = (export_sized machine dll e, exports_sized machine dll es rest all)

-- Packed placement is admissible.

-- Groups do not touch one another.

pub same_base : (group other : Group) (b : Bases) → same_group group other ≡ true → base_of other b ≡ base_of group b
same_base group other b is = grind arith

-- the end of a group after a section
pub end_of_section : (group : Group) (b : Bases) (s : ObjectSection) (named : Option Group) →
    base_of group (end_after b (address_after b s.flags named) (length s.bytes)) ≡ end_with group (base_of group b) s named
end_of_section group b s named = grind arith

pub end_of_sections : (group : Group) (b : Bases) (sections : List ObjectSection) → base_of group (ends_after b sections) ≡ sections_end group (base_of group b) sections
unfolding sections_end
end_of_sections group b [] = refl
end_of_sections group b (s ∷ sections) = grind (arith, end_of_sections group (end_after b (section_address_of b s) (length s.bytes)) sections)

-- Where contributions end.

-- the end of what is filled in from a base on
unfoldable pub span : ℕ → List Contribution → ℕ
span base cs = base + length (filled base cs)

-- contributions fill from a base to an end, from which on those behind them are filled in
pub record Fills (base : ℕ) (cs : List Contribution) (end : ℕ) : Type 0 where
  pub ends : span base cs ≡ end
  pub behind : (rest : List Contribution) → filled base (cs ++ rest) ≡ filled base cs ++ filled end rest

fills_none : (base : ℕ) → Fills base [] base
unfolding span
fills_none base = record { ends = omega arith; behind = λ rest. refl }

fills_one : (base end : ℕ) (c : Contribution) → base ≤ c.address → c.address + length c.bytes ≡ end → Fills base (c ∷ []) end
unfolding span
fills_one base end c low is = grind (arith, length-replicate, length-append, append_assoc)

fills_both : (base middle end : ℕ) (front back : List Contribution) → Fills base front middle → Fills middle back end → Fills base (front ++ back) end
unfolding span
fills_both base middle end front back one two = grind (arith, length-append, append_assoc)

module _ (machine : MachineType) (linked : List Placed) (group : Group) where
  fills_section : (p : Placed) (b : Bases) (s : ObjectSection) (named : Option Group) → AreWithin (length s.bytes) s.relocations →
      Fills (base_of group b) (contribution_at group (address_after b s.flags named) (relocated machine linked p s.relocations s.bytes)) (end_with group (base_of group b) s named)
  fills_section p b s None within = fills_none (base_of group b)
  fills_section p b s (Some other) within =
      elim (cases_Bool (same_group group other)) [
        | inl is ↦
            let position : ℕ = next_multiple (alignment s.flags) (base_of group b) in
            rw (is, same_base group other b is) (
            fills_one (base_of group b) (position + length s.bytes) (record { address = position; bytes = relocated machine linked p s.relocations s.bytes })
            (at_least (alignment s.flags) (base_of group b))
            (ap (λ n. position + n) (length-relocated machine linked p s.relocations s.bytes (length s.bytes) within refl)))
        | inr is ↦ rw is (fills_none (base_of group b))
      ]

  fills_sections : (p : Placed) (b : Bases) (sections : List ObjectSection) → AllByRecursion (λ s. AreWithin (length s.bytes) s.relocations) sections →
      Fills (base_of group b) (contributions_in machine linked p group (section_addresses_of b sections) sections) (sections_end group (base_of group b) sections)
  unfolding sections_end
  fills_sections p b [] sized = fills_none (base_of group b)
  fills_sections p b (s ∷ sections) sized =
      let later : Bases = end_after b (section_address_of b s) (length s.bytes) in
      let end : base_of group later ≡ end_with group (base_of group b) s (group_named s.name) = end_of_section group b s (group_named s.name) in
      fills_both (base_of group b) (end_with group (base_of group b) s (group_named s.name)) (sections_end group (end_with group (base_of group b) s (group_named s.name)) sections)
      (contribution_at group (section_address_of b s) (relocated machine linked p s.relocations s.bytes)) (contributions_in machine linked p group (section_addresses_of later sections) sections)
      (fills_section p b s (group_named s.name) sized.0)
      (subst (λ n. Fills n (contributions_in machine linked p group (section_addresses_of later sections) sections) (sections_end group n sections)) end (fills_sections p later sections sized.1))

  pub fills_objects : (b : Bases) (objects : List Object) → AllByRecursion IsSized objects →
      Fills (base_of group b) (contributions machine linked group (placed_from b objects)) (group_end group (base_of group b) objects)
  unfolding group_end
  fills_objects b [] sized = fills_none (base_of group b)
  fills_objects b (o ∷ objects) sized =
      let p : Placed = record { object = o; section_addresses = section_addresses_of b o.sections } in
      let later : Bases = ends_after b o.sections in
      fills_both (base_of group b) (sections_end group (base_of group b) o.sections) (group_end group (sections_end group (base_of group b) o.sections) objects)
      (contributions_of machine linked group p) (contributions machine linked group (placed_from later objects))
      (fills_sections p b o.sections sized.0)
      (subst (λ n. Fills n (contributions machine linked group (placed_from later objects)) (group_end group n objects)) (end_of_sections group b o.sections) (fills_objects later objects sized.1))

-- objects without tables end nothing later
end_without : (group : Group) (n : ℕ) (sections : List ObjectSection) → list_any is_table sections ≡ false → sections_end group n sections ≡ n
unfolding sections_end
end_without group n [] none = refl
end_without group n (s ∷ sections) none = grind (arith, end_without group n sections)

pub end_kept : (group : Group) (n : ℕ) (objects : List Object) → group_end group n objects ≡ group_end group n (filter has_tables objects)
unfolding group_end has_tables
end_kept group n [] = refl
end_kept group n (o ∷ objects) = grind (arith, end_kept group (sections_end group n o.sections) objects, end_kept group n objects, end_without)

sections_rise : (group : Group) (n : ℕ) (sections : List ObjectSection) → n ≤ sections_end group n sections
unfolding sections_end
sections_rise group n [] = omega arith
sections_rise group n (s ∷ sections) = grind (arith, sections_rise group (end_with group n s (group_named s.name)) sections, at_least)

ends_rise : (group : Group) (n : ℕ) (objects : List Object) → n ≤ group_end group n objects
unfolding group_end
ends_rise group n [] = omega arith
ends_rise group n (o ∷ objects) = grind (arith, ends_rise group (sections_end group n o.sections) objects, sections_rise)

-- Ranges one after another, from an address to another.
Rising : ℕ → ℕ → List Range → Type 0
Rising low high [] = low ≤ high
Rising low high (r ∷ rs) = (low ≤ r.start) × Rising (range_end r) high rs

rising_from_below : (low above high : ℕ) (rs : List Range) → low ≤ above → Rising above high rs → Rising low high rs
unfolding Rising
rising_from_below low above high [] le rise = let end : above ≤ high = rise in omega arith
rising_from_below low above high (r ∷ rs) le rise = let first : above ≤ r.start = rise.0 in (omega arith, rise.1)

rising_reaches : (low high : ℕ) (rs : List Range) → Rising low high rs → low ≤ high
unfolding Rising
rising_reaches low high [] rise = rise
rising_reaches low high (r ∷ rs) rise = grind (arith, rising_reaches (range_end r) high rs rise.1)

rising_ends : (low high : ℕ) (rs : List Range) → Rising low high rs → high < 2 ^ 31 → AllByRecursion (λ r. range_end r < 2 ^ 31) rs
unfolding Rising
rising_ends low high [] rise below = tt
rising_ends low high (r ∷ rs) rise below = grind (arith, rising_ends (range_end r) high rs rise.1 below, rising_reaches)

apart_from : (first : Range) (low high : ℕ) (rs : List Range) → range_end first ≤ low → Rising low high rs → AllByRecursion (AreApart first) rs
unfolding Rising
apart_from first low high [] past rise = tt
apart_from first low high (r ∷ rs) past rise = grind (arith, apart_from first (range_end r) high rs (omega arith) rise.1)

rising_apart : (low high : ℕ) (rs : List Range) → Rising low high rs → AllApart rs
unfolding Rising
rising_apart low high [] rise = tt
rising_apart low high (r ∷ rs) rise = (apart_from r (range_end r) high rs (omega arith) rise.1, rising_apart (range_end r) high rs rise.1)

-- a group's range, if it has one, and others after its end
rising_group : (base end high : ℕ) (cs : List Contribution) (rs : List Range) → span base cs ≡ end → Rising end high rs → Rising base high (range_of base cs ++ rs)
unfolding Rising span
rising_group base end high [] rs is rise = rising_from_below base end high rs (omega arith) rise
rising_group base end high (c ∷ cs) rs is rise = (omega arith, subst (λ n. Rising n high rs) (sym is) rise)

end_of : (high : ℕ) → Rising high high []
unfolding Rising
end_of high = omega arith

aligned_base : (n : ℕ) → 0 < n → IsBase (next_multiple 8 n)
unfolding next_multiple
aligned_base n above = (omega arith, omega arith)

aligned_end : (n : ℕ) → 0 < n → IsBase (next_multiple 4 n)
unfolding next_multiple
aligned_end n above = (omega arith, omega arith)

above_zero : (group : Group) (n : ℕ) (objects : List Object) → IsBase n → IsBase (next_multiple 8 (group_end group n objects))
above_zero group n objects base = grind (arith, ends_rise, aligned_base)

module _ (machine : MachineType) (first : ℕ) (objects : List Object) (sized : AllByRecursion IsSized (filter has_tables objects))
    (above : 0 < first) (below : packed_end first objects < 2 ^ 31) where
  abbrev bases : Bases
  bases = packed first objects

  abbrev linked : List Placed
  linked = placed_from (packed first objects) objects

  group_span : (group : Group) → span (base_of group bases) (contributions machine linked group linked) ≡ group_end group (base_of group bases) objects
  group_span group = grind (arith, contributions_kept machine linked group bases objects, fills_objects machine linked group bases (filter has_tables objects) sized, end_kept group (base_of group bases) objects)

  -- a group's range, and the others after the next base
  rising_next : (distance : ℕ) (group : Group) (rs : List Range) → Rising (next_multiple distance (group_end group (base_of group bases) objects)) (packed_end first objects) rs →
      Rising (base_of group bases) (packed_end first objects) (range_of (base_of group bases) (contributions machine linked group linked) ++ rs)
  rising_next distance group rs rise = grind (arith, rising_group, group_span, rising_from_below, at_least)

  last_rises : Rising (packed_dll_names first objects) (packed_end first objects) (range_of (packed_dll_names first objects) (contributions machine linked DllNames linked) ++ [])
  last_rises = rising_group (packed_dll_names first objects) (packed_end first objects) (packed_end first objects) (contributions machine linked DllNames linked) [] (group_span DllNames) (end_of (packed_end first objects))

  all_rise : Rising (packed_descriptors first) (packed_end first objects) (image_of machine (packed first objects) (placed_from (packed first objects) objects))
  all_rise = rising_next 4 Descriptors _ (rising_next 8 DirectoryEnds _ (rising_next 8 Lookups _ (rising_next 8 Addresses _ (rising_next 8 HintNames _ last_rises))))

  directory_ends_base : IsBase (packed_directory_ends first objects)
  directory_ends_base = grind (arith, aligned_base, ends_rise, aligned_end)

  lookups_base : IsBase (packed_lookups first objects)
  lookups_base = above_zero DirectoryEnds (packed_directory_ends first objects) objects (grind (arith, ends_rise, aligned_end, aligned_base))

  hint_names_base : IsBase (packed_hint_names first objects)
  hint_names_base = above_zero Addresses (packed_addresses first objects) objects (above_zero Lookups (packed_lookups first objects) objects lookups_base)

  pub admissible : IsAdmissible machine (packed first objects) objects
  admissible = record {
    descriptors = (aligned_base first above);
    directory_ends = directory_ends_base;
    lookups = lookups_base;
    addresses = above_zero Lookups (packed_lookups first objects) objects (above_zero DirectoryEnds (packed_directory_ends first objects) objects directory_ends_base);
    hint_names = hint_names_base;
    dll_names = above_zero HintNames (packed_hint_names first objects) objects hint_names_base;
    ends = rising_ends (packed_descriptors first) (packed_end first objects) (image_of machine (packed first objects) (placed_from (packed first objects) objects)) all_rise below;
    apart = rising_apart (packed_descriptors first) (packed_end first objects) (image_of machine (packed first objects) (placed_from (packed first objects) objects)) all_rise;
  }

pub packed_eights : (first : ℕ) (objects : List Object) → (packed first objects).addresses % 8 ≡ 0
unfolding next_multiple
packed_eights first objects = omega arith

-- Objects after others, of which is known only that their relocations are within their sections.

-- the ends after objects that are placed one after another
unfoldable pub ends_behind : Bases → List Object → Bases
ends_behind b [] = b
ends_behind b (o ∷ objects) = ends_behind (ends_after b o.sections) objects

pub placed_parts : (b : Bases) (front rest : List Object) → placed_from b (front ++ rest) ≡ placed_from b front ++ placed_from (ends_behind b front) rest
unfolding ends_behind
placed_parts b [] rest = refl
placed_parts b (o ∷ front) rest = grind (arith, placed_parts (ends_after b o.sections) front rest)

-- the end of a group after objects
pub end_behind : (group : Group) (b : Bases) (objects : List Object) → base_of group (ends_behind b objects) ≡ group_end group (base_of group b) objects
unfolding ends_behind group_end
end_behind group b [] = refl
end_behind group b (o ∷ objects) = grind (arith, end_behind group (ends_after b o.sections) objects, end_of_sections)

-- what is filled in of a group, in two parts
module _ (machine : MachineType) (linked : List Placed) (image : List Range) (b : Bases) (front rest : List Object) (sized : AllByRecursion IsSized front) where
  abbrev own : Group → List Contribution
  own group = contributions machine linked group (placed_from b front)

  abbrev later : Group → List Contribution
  later group = contributions machine linked group (placed_from (ends_behind b front) rest)

  parts : (group : Group) → BytesAt image (base_of group b) (filled (base_of group b) (contributions machine linked group (placed_from b (front ++ rest)))) →
      BytesAt image (base_of group b) (filled (base_of group b) (own group))
      × BytesAt image (base_of group (ends_behind b front)) (filled (base_of group (ends_behind b front)) (later group))
  unfolding span
  parts group located =
      let base : ℕ = base_of group b in
      let fills : Fills base (own group) (group_end group base front) = fills_objects machine linked group b front sized in
      let split : filled base (contributions machine linked group (placed_from b (front ++ rest))) ≡ filled base (own group) ++ filled (base_of group (ends_behind b front)) (later group) = grind (arith, placed_parts, flat_map-append, end_behind) in
      let found = located_parts image (filled base (own group)) (filled (base_of group (ends_behind b front)) (later group)) base (subst (BytesAt image base) split located) in
      (found.0, subst (λ n. BytesAt image n (filled (base_of group (ends_behind b front)) (later group))) (fills.ends ∙ sym (end_behind group b front)) found.1)

  pub located_behind : LocatedFrom machine linked image b (front ++ rest) → LocatedFrom machine linked image (ends_behind b front) rest
  located_behind located = grind (arith, parts Descriptors located.descriptors, parts Lookups located.lookups, parts Addresses located.addresses, parts HintNames located.hint_names, parts DllNames located.dll_names)
