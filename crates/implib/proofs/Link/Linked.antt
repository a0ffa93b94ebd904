-- The objects for GNU's linker link to what their definition means.
use Rattle.std.proofs.Common.{◌≡◌, ℕ, ◌+◌, ◌-◌, ◌%◌, ◌<◌, ◌≤◌, ◌^◌, List, [], ◌∷◌, ◌++◌, length, map, Some, refl, ap, sym, ◌∙◌, arith, subst, inl, inr}
use Rattle.std.specs.Prelude.{false, slice_get, true}
use Rattle.std.specs.List.{AllByRecursion}
use Rattle.std.specs.Option.{option_and_then}
use Rattle.implib.specs.declared.coff.object.Relocation.{Relocation}
use Rattle.std.proofs.lemmas.Bool.{cases_Bool}
use Rattle.std.proofs.lemmas.List.{length-replicate}
use Rattle.implib.specs.declared.machine.MachineType.{MachineType}
use Rattle.implib.specs.declared.machine.MachineType.TheVariants.{I386, ARMNT, AMD64, ARM64}
use Rattle.implib.specs.Formats.Bytes.{u32_bytes}
use Rattle.implib.specs.Definition.{ExportView}
use Rattle.implib.specs.Members.Gnu.{export_object, head_object, head_symbol, hint_name_symbol, iname_symbol, relocations_of_stub, relocations_of_thunk, stub_relocations, tail_object}
use Rattle.implib.specs.Import.{imp_symbol, expected_ask}
use Rattle.implib.specs.Link.Image.{Contribution, Range, filled, contributions, range_end, range_of, relocated, with_address}
use Rattle.implib.specs.Link.Placement.{Addresses, Bases, Descriptors, DllNames, HintNames, Lookups, Placed, next_multiple, placed_from}
use Rattle.implib.specs.Link.Resolution.{SymbolDefinition, definitions, definitions_of, first_address, symbol_address}
use Rattle.implib.specs.Link.Load.{BytesAt, TextAt}
use Rattle.implib.specs.Members.ImportTables.{relocation, thunk_width, zeros}
use Rattle.implib.specs.Formats.Object.{Object, u32_at}
use Rattle.implib.specs.Formats.Layout.{HasNoNul}
use Rattle.implib.specs.Link.Linked.{AllFind, EntriesAt, FindsTarget, IsDefinedAt, LinksStrictlyAt, undefined_names}
use Rattle.implib.proofs.Link.Ranges.{Among, among_back, among_first, among_later, located_parts}
use Rattle.implib.proofs.Link.Descriptors.{LoadsFrom, descriptor_loads}
use Rattle.implib.proofs.Link.Placement.{AreAligned, descriptors_end, address_definition, after_head, aligned_after, aligned_all, aligned_head, at_least, code_definition, defined_after, definitions-after, ends_of_all, ends_of_export, ends_of_exports, ends_of_head, ends_of_tail, head, placed-export, placed-head, placed-tail, placed_export, placed_head}
use Rattle.implib.proofs.Link.Tables.{CanBeAsked, addresses_end, addresses_filled, descriptors_filled, filled_first, hint_bytes, hint_names_end, hint_names_filled, lookups_end, lookups_filled, table_at, thunk_bytes}
use Rattle.implib.proofs.Link.Thunks.{StrictTableAt, same_number}
use Rattle.implib.specs.LibraryName.{NamesOfDll}

pub same_order : (n : ℕ) → n ≤ n
same_order n = omega arith

-- the first contribution is at its position, and the others after it
pub contribution_located : (image : List Range) (a : ℕ) (p : Contribution) (rest : List Contribution) → a ≤ p.address → BytesAt image a (filled a (p ∷ rest)) →
    BytesAt image p.address p.bytes × BytesAt image (p.address + length p.bytes) (filled (p.address + length p.bytes) rest)
contribution_located image a p rest low located =
    let padding : List ℕ = zeros (p.address - a) in
    let behind = located_parts image padding (p.bytes ++ filled (p.address + length p.bytes) rest) a located in
    let position : a + length padding ≡ p.address = rw (length-replicate {A = ℕ} (p.address - a) 0) (omega arith) in
    located_parts image p.bytes (filled (p.address + length p.bytes) rest) p.address
    (subst (λ n. BytesAt image n (p.bytes ++ filled (p.address + length p.bytes) rest)) position behind.1)

-- the ranges of contributions are in the image, and begin at their bases
pub bases_of_ranges : (base : ℕ) (ps : List Contribution) → 0 < base → AllByRecursion (λ r. 0 < r.start) (range_of base ps)
bases_of_ranges base [] low = tt
bases_of_ranges base (p ∷ ps) low = (low, tt)

pub all_append : {X : Type 0} (P : X → Type 0) (xs ys : List X) → AllByRecursion P xs → AllByRecursion P ys → AllByRecursion P (xs ++ ys)
all_append P [] ys first second = second
all_append P (x ∷ xs) ys first second = (first.0, all_append P xs ys first.1 second)

-- a name has an address
abbrev pub HasAddress : List Placed → List ℕ → Type 0
HasAddress linked name = (address : ℕ) × (first_address (definitions_of name linked) ≡ Some address)

module _ (machine : MachineType) (dll : NamesOfDll) (linked : List Placed) where
  -- the descriptor, relocated
  descriptor_linked : Bases → List ℕ
  descriptor_linked b = relocated machine linked (placed_head machine dll b) (relocation machine 0 3 ∷ relocation machine 16 2 ∷ relocation machine 12 5 ∷ []) (zeros 20)

  descriptor_is : (b : Bases) (n : ℕ) → first_address (definitions_of (iname_symbol machine dll.linked) linked) ≡ Some (n + 0) →
      descriptor_linked b ≡ u32_bytes ((0 + (b.lookups + 0)) % 2 ^ 32) ++ (zeros 4 ++ (zeros 4 ++ (u32_bytes ((0 + (n + 0)) % 2 ^ 32) ++ u32_bytes ((0 + (b.addresses + 0)) % 2 ^ 32))))
  unfolding descriptor_linked head_object with_address u32_bytes u32_at
  descriptor_is b n is = rw (same_number machine, is) refl

  -- where the DLL's name is, and what is filled in after it
  name_located : (image : List Range) (es : List ExportView) (b : Bases) (rest : List Object) → AreAligned b →
      BytesAt image b.dll_names (filled b.dll_names (contributions machine linked DllNames (placed_from b (after_head machine dll es rest)))) →
      BytesAt image (next_multiple 4 (ends_of_exports machine dll b es).dll_names) (dll.text ++ 0 ∷ [])
      × BytesAt image (ends_of_all machine dll b es).dll_names (filled (ends_of_all machine dll b es).dll_names (contributions machine linked DllNames (placed_from (ends_of_all machine dll b es) rest)))
  unfolding ends_of_exports tail_object export_object with_address u32_bytes u32_at
  name_located image [] b rest even located =
      let others : List Contribution = contributions machine linked DllNames (placed_from (ends_of_tail machine dll b) rest) in
      let own : Contribution = record { address = next_multiple 4 b.dll_names; bytes = dll.text ++ 0 ∷ [] } in
      let here : BytesAt image b.dll_names (filled b.dll_names (own ∷ others)) = grind (arith, placed-tail) in
      contribution_located image b.dll_names own others (at_least 4 b.dll_names) here
  name_located image (e ∷ es) b rest even located =
      let later : Bases = ends_of_export machine dll b e in
      let others : List Contribution = contributions machine linked DllNames (placed_from later (after_head machine dll es rest)) in
      let bytes : List ℕ = relocated machine linked (placed_export machine dll b e) (relocation machine 0 0 ∷ []) (zeros 4) in
      let four : length bytes ≡ 4 = rw (same_number machine) refl in
      let here : BytesAt image b.dll_names (filled b.dll_names (record { address = next_multiple 4 b.dll_names; bytes = bytes } ∷ others)) =
      subst (λ ps. BytesAt image b.dll_names (filled b.dll_names (contributions machine linked DllNames ps))) (placed-export machine dll b e (after_head machine dll es rest) even) located in
      let after = (contribution_located image b.dll_names (record { address = next_multiple 4 b.dll_names; bytes = bytes }) others (at_least 4 b.dll_names) here).1 in
      name_located image es later rest (aligned_after machine dll b e even)
      (subst (λ n. BytesAt image (next_multiple 4 b.dll_names + n) (filled (next_multiple 4 b.dll_names + n) others)) four after)

  -- the name's definition is the last one
  name_defined : (es : List ExportView) (b : Bases) →
      Among (record { name = iname_symbol machine dll.linked; address = Some (next_multiple 4 (ends_of_exports machine dll b es).dll_names + 0) }) (defined_after machine dll b es)
  unfolding ends_of_exports defined_after
  name_defined [] b = among_first _ _
  name_defined (e ∷ es) b = grind (arith, name_defined es (ends_of_export machine dll b e), among_back, among_later)

  -- each export's address is its own entry
  entries_at : (es : List ExportView) (b : Bases) → ((d : SymbolDefinition) → Among d (defined_after machine dll b es) → definitions_of d.name linked ≡ d ∷ []) →
      EntriesAt linked (thunk_width machine) b.addresses es
  unfolding EntriesAt defined_after
  entries_at [] b only = tt
  entries_at (e ∷ es) b only =
      let own : SymbolDefinition = address_definition machine dll b e in
      let plain : b.addresses + 0 ≡ b.addresses = omega arith in (
        subst (λ n. definitions_of (imp_symbol e.name) linked ≡ record { name = imp_symbol e.name; address = Some n } ∷ []) plain
            (only own (among_back own (code_definition machine dll e) _ (among_first own _))),
        entries_at es (ends_of_export machine dll b e)
            (λ d m. only d (among_back d (code_definition machine dll e) _ (among_later d own _ m))),
      )

  -- each export needs the head's symbol alone, and the tail none
  undefined_by_export : (b : Bases) (e : ExportView) (others : List Placed) →
      undefined_names (placed_export machine dll b e ∷ others) ≡ head_symbol machine dll.linked ∷ undefined_names others
  unfolding export_object
  undefined_by_export b e others = elim (cases_Bool e.is_data) [ inl is ↦ rw is refl | inr is ↦ rw is refl ]

  undefined_after : (es : List ExportView) (b : Bases) (rest : List Object) → AreAligned b → IsDefinedAt linked (head_symbol machine dll.linked) →
      AllByRecursion (IsDefinedAt linked) (undefined_names (placed_from (ends_of_all machine dll b es) rest)) →
      AllByRecursion (IsDefinedAt linked) (undefined_names (placed_from b (after_head machine dll es rest)))
  unfolding tail_object ends_of_exports
  undefined_after [] b rest even once others = subst (AllByRecursion (IsDefinedAt linked)) (sym (ap undefined_names (placed-tail machine dll b rest even))) others
  undefined_after (e ∷ es) b rest even once others =
      let later : Bases = ends_of_export machine dll b e in
      let same : undefined_names (placed_from b (after_head machine dll (e ∷ es) rest)) ≡ head_symbol machine dll.linked ∷ undefined_names (placed_from later (after_head machine dll es rest)) =
      ap undefined_names (placed-export machine dll b e (after_head machine dll es rest) even) ∙ undefined_by_export b e (placed_from later (after_head machine dll es rest)) in
      subst (AllByRecursion (IsDefinedAt linked)) (sym same) (once, undefined_after es later rest (aligned_after machine dll b e even) once others)

  -- The relocations of an export find their targets: of its own sections, and the head's descriptor.

  pub address_found : (b : Bases) (e : ExportView) → e.is_data ≡ false →
      option_and_then (symbol_address linked (placed_export machine dll b e)) (slice_get (placed_export machine dll b e).object.entries 2) ≡ Some (b.addresses + 0)
  unfolding export_object
  address_found b e is = rw is refl

  hint_name_found : (b : Bases) (e : ExportView) →
      option_and_then (symbol_address linked (placed_export machine dll b e)) (slice_get (placed_export machine dll b e).object.entries (hint_name_symbol e)) ≡ Some (next_multiple 2 b.hint_names + 0)
  unfolding export_object
  hint_name_found b e = elim (cases_Bool e.is_data) [ inl is ↦ rw is refl | inr is ↦ rw is refl ]

  no_stub : (e : ExportView) → e.is_data ≡ true → relocations_of_stub machine e ≡ []
  unfolding relocations_of_stub
  no_stub e is = rw is refl

  some_stub : (e : ExportView) → e.is_data ≡ false → relocations_of_stub machine e ≡ stub_relocations machine 2
  unfolding relocations_of_stub
  some_stub e is = rw is refl

  pub all_of_stub : (m : MachineType) (P : Relocation → Type 0) → ((offset number : ℕ) → P (record { offset = offset; symbol = 2; kind = number })) → AllByRecursion P (stub_relocations m 2)
  all_of_stub I386 P each = (each 2 _, tt)
  all_of_stub ARMNT P each = (each 8 _, tt)
  all_of_stub AMD64 P each = (each 2 _, tt)
  all_of_stub ARM64 P each = (each 0 _, (each 4 _, tt))

  stub_finds : (b : Bases) (e : ExportView) → AllByRecursion (FindsTarget linked (placed_export machine dll b e)) (relocations_of_stub machine e)
  stub_finds b e =
      elim (cases_Bool e.is_data) [
        | inl is ↦ subst (AllByRecursion (FindsTarget linked (placed_export machine dll b e))) (sym (no_stub e is)) tt
        | inr is ↦ subst (AllByRecursion (FindsTarget linked (placed_export machine dll b e))) (sym (some_stub e is))
            (all_of_stub machine (FindsTarget linked (placed_export machine dll b e)) (λ offset number. (b.addresses + 0, address_found b e is)))
      ]

  no_hint_name : (e : ExportView) → e.no_name ≡ true → relocations_of_thunk machine e ≡ []
  unfolding relocations_of_thunk
  no_hint_name e is = rw is refl

  some_hint_name : (e : ExportView) → e.no_name ≡ false → relocations_of_thunk machine e ≡ relocation machine 0 (hint_name_symbol e) ∷ []
  unfolding relocations_of_thunk
  some_hint_name e is = rw is refl

  thunk_finds : (b : Bases) (e : ExportView) → AllByRecursion (FindsTarget linked (placed_export machine dll b e)) (relocations_of_thunk machine e)
  thunk_finds b e =
      elim (cases_Bool e.no_name) [
        | inl is ↦ subst (AllByRecursion (FindsTarget linked (placed_export machine dll b e))) (sym (no_hint_name e is)) tt
        | inr is ↦ subst (AllByRecursion (FindsTarget linked (placed_export machine dll b e))) (sym (some_hint_name e is))
            ((next_multiple 2 b.hint_names + 0, hint_name_found b e), tt)
      ]

  export_finds : (b : Bases) (e : ExportView) → HasAddress linked (head_symbol machine dll.linked) → AllFind linked (placed_export machine dll b e)
  unfolding export_object
  export_finds b e head_at =
      (stub_finds b e, (tt, (tt, ((head_at, tt), (thunk_finds b e, (thunk_finds b e, (tt, tt)))))))

  targets_after : (es : List ExportView) (b : Bases) (rest : List Object) → AreAligned b → HasAddress linked (head_symbol machine dll.linked) →
      AllByRecursion (AllFind linked) (placed_from (ends_of_all machine dll b es) rest) →
      AllByRecursion (AllFind linked) (placed_from b (after_head machine dll es rest))
  unfolding tail_object ends_of_exports
  targets_after [] b rest even head_at others = grind (arith, placed-tail)
  targets_after (e ∷ es) b rest even head_at others =
      subst (AllByRecursion (AllFind linked)) (sym (placed-export machine dll b e (after_head machine dll es rest) even))
      (export_finds b e head_at, targets_after es (ends_of_export machine dll b e) rest (aligned_after machine dll b e even) head_at others)

-- The objects of one DLL link to an import of these exports at the first descriptor, and their part of
-- the address tables begins where these begin.
pub record BlockLinks (machine : MachineType) (linked : List Placed) (image : List Range) (b : Bases) (dll : NamesOfDll) (es : List ExportView) : Type 0 where
  pub strictly : LinksStrictlyAt machine image linked b.descriptors dll es
  pub addresses : strictly.loads.plain.addresses ≡ b.addresses

-- what is filled in from ends on is in an image
pub record LocatedFrom (machine : MachineType) (linked : List Placed) (image : List Range) (b : Bases) (objects : List Object) : Type 0 where
  pub descriptors : BytesAt image b.descriptors (filled b.descriptors (contributions machine linked Descriptors (placed_from b objects)))
  pub lookups : BytesAt image b.lookups (filled b.lookups (contributions machine linked Lookups (placed_from b objects)))
  pub addresses : BytesAt image b.addresses (filled b.addresses (contributions machine linked Addresses (placed_from b objects)))
  pub hint_names : BytesAt image b.hint_names (filled b.hint_names (contributions machine linked HintNames (placed_from b objects)))
  pub dll_names : BytesAt image b.dll_names (filled b.dll_names (contributions machine linked DllNames (placed_from b objects)))

-- what the objects of one DLL define
unfoldable pub head_definition : MachineType → NamesOfDll → Bases → SymbolDefinition
head_definition machine dll b = record { name = head_symbol machine dll.linked; address = Some (b.descriptors + 0) }

unfoldable pub block_definitions : MachineType → NamesOfDll → Bases → List ExportView → List SymbolDefinition
block_definitions machine dll b es = head_definition machine dll b ∷ defined_after machine dll (ends_of_head machine dll b) es

-- the ends after the objects of one DLL
abbrev pub ends_of_block : MachineType → NamesOfDll → Bases → List ExportView → Bases
ends_of_block machine dll b es = ends_of_all machine dll (ends_of_head machine dll b) es

pub aligned_block : (machine : MachineType) (dll : NamesOfDll) (b : Bases) (es : List ExportView) → AreAligned b → AreAligned (ends_of_block machine dll b es)
aligned_block machine dll b es even = aligned_all machine dll (ends_of_head machine dll b) es (aligned_head machine dll b even)

pub definitions-block : (machine : MachineType) (dll : NamesOfDll) (b : Bases) (es : List ExportView) (rest : List Object) → AreAligned b →
    definitions (placed_from b (head machine dll ∷ after_head machine dll es rest)) ≡ block_definitions machine dll b es ++ definitions (placed_from (ends_of_block machine dll b es) rest)
unfolding head_object head_definition block_definitions
definitions-block machine dll b es rest even = grind (arith, placed-head, definitions-after, aligned_head)

-- the objects of one DLL among others: they are placed after what ends at b
module _ (machine : MachineType) (dll : NamesOfDll) (es : List ExportView) (b : Bases) (rest : List Object) (linked : List Placed) (image : List Range)
    (starts : AllByRecursion (λ r. 0 < r.start) image) (ends : AllByRecursion (λ r. range_end r < 2 ^ 31) image)
    (dll_text : HasNoNul dll.text) (fit : AllByRecursion (CanBeAsked machine) es) (even : AreAligned b)
    (only : (d : SymbolDefinition) → Among d (block_definitions machine dll b es) → definitions_of d.name linked ≡ d ∷ [])
    (located : LocatedFrom machine linked image b (head machine dll ∷ after_head machine dll es rest)) where
  abbrev later : Bases
  later = ends_of_head machine dll b

  abbrev last : Bases
  last = ends_of_all machine dll later es

  later_even : AreAligned (ends_of_head machine dll b)
  later_even = aligned_head machine dll b even

  placed_is : placed_from b (head machine dll ∷ after_head machine dll es rest) ≡ placed_head machine dll b ∷ placed_from later (after_head machine dll es rest)
  placed_is = placed-head machine dll b (after_head machine dll es rest) even

  -- a table, and what is filled in after it
  lookups_parts : BytesAt image b.lookups (thunk_bytes machine dll linked later es)
      × BytesAt image last.lookups (filled last.lookups (contributions machine linked Lookups (placed_from last rest)))
  unfolding head_object
  lookups_parts =
      let others : List Contribution = contributions machine linked Lookups (placed_from later (after_head machine dll es rest)) in
      let after : List ℕ = filled last.lookups (contributions machine linked Lookups (placed_from last rest)) in
      let plain : b.lookups + 0 ≡ b.lookups = omega arith in
      let parts = located_parts image (thunk_bytes machine dll linked later es) after b.lookups
      (subst (BytesAt image b.lookups)
      (ap (λ ps. filled b.lookups (contributions machine linked Lookups ps)) placed_is
      ∙ filled_first b.lookups 0 [] others refl
      ∙ ap (λ n. filled n others) plain
      ∙ lookups_filled machine dll linked later es rest later_even)
      located.lookups) in
      (parts.0, subst (λ n. BytesAt image n after) (lookups_end machine dll linked later es) parts.1)

  addresses_parts : BytesAt image b.addresses (thunk_bytes machine dll linked later es)
      × BytesAt image last.addresses (filled last.addresses (contributions machine linked Addresses (placed_from last rest)))
  unfolding head_object
  addresses_parts =
      let others : List Contribution = contributions machine linked Addresses (placed_from later (after_head machine dll es rest)) in
      let after : List ℕ = filled last.addresses (contributions machine linked Addresses (placed_from last rest)) in
      let plain : b.addresses + 0 ≡ b.addresses = omega arith in
      let parts = located_parts image (thunk_bytes machine dll linked later es) after b.addresses
      (subst (BytesAt image b.addresses)
      (ap (λ ps. filled b.addresses (contributions machine linked Addresses ps)) placed_is
      ∙ filled_first b.addresses 0 [] others refl
      ∙ ap (λ n. filled n others) plain
      ∙ addresses_filled machine dll linked later es rest later_even)
      located.addresses) in
      (parts.0, subst (λ n. BytesAt image n after) (addresses_end machine dll linked later es) parts.1)

  hints_parts : BytesAt image b.hint_names (hint_bytes machine dll linked later es)
      × BytesAt image last.hint_names (filled last.hint_names (contributions machine linked HintNames (placed_from last rest)))
  unfolding head_object
  hints_parts =
      let after : List ℕ = filled last.hint_names (contributions machine linked HintNames (placed_from last rest)) in
      let parts = located_parts image (hint_bytes machine dll linked later es) after b.hint_names
      (subst (BytesAt image b.hint_names)
      (ap (λ ps. filled b.hint_names (contributions machine linked HintNames ps)) placed_is
      ∙ hint_names_filled machine dll linked later es rest later_even)
      located.hint_names) in
      (parts.0, subst (λ n. BytesAt image n after) (hint_names_end machine dll linked later es) parts.1)

  name_place : ℕ
  name_place = next_multiple 4 (ends_of_exports machine dll later es).dll_names

  name_parts : BytesAt image name_place (dll.text ++ 0 ∷ [])
      × BytesAt image last.dll_names (filled last.dll_names (contributions machine linked DllNames (placed_from last rest)))
  unfolding head_object name_place
  name_parts =
      name_located machine dll linked image es later rest later_even
      (subst (BytesAt image b.dll_names) (ap (λ ps. filled b.dll_names (contributions machine linked DllNames ps)) placed_is) located.dll_names)

  name_once : definitions_of (iname_symbol machine dll.linked) linked ≡ record { name = iname_symbol machine dll.linked; address = Some (name_place + 0) } ∷ []
  unfolding name_place block_definitions
  name_once = only _ (among_later _ _ _ (name_defined machine dll linked es later))

  name_address : first_address (definitions_of (iname_symbol machine dll.linked) linked) ≡ Some (name_place + 0)
  name_address = ap first_address name_once

  length-descriptor : length (descriptor_linked machine dll linked b) ≡ 20
  unfolding u32_bytes
  length-descriptor = ap length (descriptor_is machine dll linked b name_place name_address)

  descriptor_parts : BytesAt image (b.descriptors) (descriptor_linked machine dll linked b)
      × BytesAt image last.descriptors (filled last.descriptors (contributions machine linked Descriptors (placed_from last rest)))
  unfolding head_object descriptor_linked
  descriptor_parts =
      let others : List Contribution = contributions machine linked Descriptors (placed_from later (after_head machine dll es rest)) in
      let own : Contribution = record { address = b.descriptors; bytes = descriptor_linked machine dll linked b } in
      let parts = contribution_located image b.descriptors own others (same_order b.descriptors)
      (subst (BytesAt image b.descriptors) (ap (λ ps. filled b.descriptors (contributions machine linked Descriptors ps)) placed_is) located.descriptors) in
      let behind : BytesAt image later.descriptors (filled later.descriptors others) = grind (arith, length-descriptor) in
      let same : later.descriptors ≡ last.descriptors = descriptors_end machine dll later es in (
        parts.0,
        subst (λ n. BytesAt image n (filled last.descriptors (contributions machine linked Descriptors (placed_from last rest)))) same
            (subst (BytesAt image later.descriptors) (descriptors_filled machine dll linked later es rest later_even) behind),
      )

  pub rest_located : LocatedFrom machine linked image last rest
  rest_located = record {
    descriptors = descriptor_parts.1;
    lookups = lookups_parts.1;
    addresses = addresses_parts.1;
    hint_names = hints_parts.1;
    dll_names = name_parts.1;
  }

  lookup_table : StrictTableAt image (thunk_width machine) b.lookups (map (expected_ask machine) es)
  lookup_table = table_at machine dll linked image starts ends es later b.lookups fit lookups_parts.0 hints_parts.0

  address_table : StrictTableAt image (thunk_width machine) b.addresses (map (expected_ask machine) es)
  address_table = table_at machine dll linked image starts ends es later b.addresses fit addresses_parts.0 hints_parts.0

  name_text : TextAt image name_place dll.text
  name_text = record { no_nul = dll_text; located = name_parts.0 }

  block_loads : LoadsFrom image (thunk_width machine) b.descriptors b.addresses dll.text (map (expected_ask machine) es)
  block_loads =
      descriptor_loads machine image starts ends b.descriptors b.lookups b.addresses name_place dll.text (map (expected_ask machine) es)
      (subst (BytesAt image b.descriptors) (descriptor_is machine dll linked b name_place name_address) descriptor_parts.0) lookup_table address_table name_text

  block_entries : EntriesAt linked (thunk_width machine) b.addresses es
  unfolding block_definitions
  block_entries = entries_at machine dll linked es later (λ d m. only d (among_later d _ _ m))

  block_head : definitions_of (head_symbol machine dll.linked) linked ≡ record { name = head_symbol machine dll.linked; address = Some b.descriptors } ∷ []
  unfolding block_definitions head_definition
  block_head =
      let plain : b.descriptors + 0 ≡ b.descriptors = omega arith in
      only _ (among_first _ _) ∙ ap (λ n. record { name = head_symbol machine dll.linked; address = Some n } ∷ []) plain

  -- the block's descriptor is the first, and its address table is where the addresses begin
  pub block_links : BlockLinks machine linked image b dll es
  block_links = record {
    strictly = record {
      head = block_head;
      loads = block_loads.loads;
      entries = subst (λ n. EntriesAt linked (thunk_width machine) n es) (sym block_loads.table_located) block_entries;
    };
    addresses = block_loads.table_located;
  }

  -- what the block needs is defined, if what the others need is
  pub block_defined : AllByRecursion (IsDefinedAt linked) (undefined_names (placed_from last rest)) →
      AllByRecursion (IsDefinedAt linked) (undefined_names (placed_from b (head machine dll ∷ after_head machine dll es rest)))
  unfolding head_object block_definitions
  block_defined others = grind (arith, placed_is, name_place, name_once, undefined_after, later_even, block_head)

  -- the block's relocations find their targets, if those of the others do
  pub block_targets : AllByRecursion (AllFind linked) (placed_from last rest) →
      AllByRecursion (AllFind linked) (placed_from b (head machine dll ∷ after_head machine dll es rest))
  unfolding head_object
  block_targets others =
      subst (AllByRecursion (AllFind linked)) (sym placed_is) (
        (tt, (tt, (tt, (((b.lookups + 0, refl), ((b.addresses + 0, refl), ((name_place + 0, name_address), tt))), (tt, (tt, tt)))))),
        targets_after machine dll linked es later rest later_even (b.descriptors, ap first_address block_head) others,
      )
