-- The lookup table and the address table of linked objects for GNU's linker ask for what is expected.
use Rattle.std.proofs.Common.{◌≡◌, ℕ, ◌+◌, ◌-◌, ◌%◌, ◌<◌, ◌≤◌, ◌^◌, true, false, List, [], ◌∷◌, ◌++◌, length, map, refl, ap, sym, ◌∙◌, arith, subst, inl, inr}
use Rattle.std.specs.List.{AllByRecursion}
use Rattle.std.proofs.lemmas.Bool.{cases_Bool}
use Rattle.std.proofs.lemmas.List.{append_assoc, length-append, length-replicate}
use Rattle.implib.specs.declared.machine.MachineType.{MachineType}
use Rattle.implib.specs.Formats.Bytes.{u16_bytes, u32_bytes}
use Rattle.implib.specs.Definition.{ExportView}
use Rattle.implib.specs.Members.Gnu.{export_object, hint_name, hint_name_symbol, relocations_of_thunk, tail_object, thunk}
use Rattle.implib.specs.Import.{expected_ask, name_asked}
use Rattle.implib.specs.Link.Image.{Contribution, Range, filled, contributions, range_end, relocated, with_address}
use Rattle.implib.specs.Link.Placement.{Addresses, Bases, Descriptors, HintNames, Lookups, Placed, next_multiple, placed_from}
use Rattle.implib.specs.Link.Resolution.{target_address}
use Rattle.implib.specs.Link.Load.{BytesAt, TableAt, WholeTableAt}
use Rattle.implib.specs.Members.ImportTables.{thunk_width, zeros}
use Rattle.implib.specs.Formats.Object.{Object}
use Rattle.implib.specs.Formats.Layout.{HasNoNul}
use Rattle.implib.proofs.Link.Ranges.{located_parts}
use Rattle.implib.proofs.Link.Placement.{AreAligned, after_head, aligned_after, at_least, ends_of_all, ends_of_export, ends_of_exports, length-thunk_of, placed-export, placed-tail, placed_export}
use Rattle.implib.proofs.Link.Thunks.{StrictTableAt, StrictThunkAt, length-address, name_located, ordinal_located, ordinal_thunk, same_number, with_address-zeros, zeros_number}
use Rattle.implib.specs.LibraryName.{NamesOfDll}

-- an export whose ordinal is a 16-bit number and whose asked name has no NUL
pub record CanBeAsked (machine : MachineType) (e : ExportView) : Type 0 where
  pub ordinal : e.ordinal < 2 ^ 16
  pub name : HasNoNul (name_asked machine e)

-- bytes at their position are what is filled in first
pub filled_first : (a n : ℕ) (bytes : List ℕ) (rest : List Contribution) → length bytes ≡ n →
    filled a (record { address = a; bytes = bytes } ∷ rest) ≡ bytes ++ filled (a + n) rest
filled_first a n bytes rest long = grind arith

module _ (machine : MachineType) (dll : NamesOfDll) (linked : List Placed) where
  -- an export's thunk, relocated
  pub thunk_linked : Bases → ExportView → List ℕ
  thunk_linked b e = relocated machine linked (placed_export machine dll b e) (relocations_of_thunk machine e) (thunk machine e)

  thunk_of_ordinal : (b : Bases) (e : ExportView) → e.no_name ≡ true → thunk_linked b e ≡ ordinal_thunk machine e.ordinal
  unfolding thunk_linked relocations_of_thunk thunk
  thunk_of_ordinal b e is = rw is refl

  hint_name_address : (b : Bases) (e : ExportView) → target_address linked (placed_export machine dll b e) (hint_name_symbol e) ≡ next_multiple 2 b.hint_names + 0
  unfolding export_object
  hint_name_address b e = elim (cases_Bool e.is_data) [ inl is ↦ rw is refl | inr is ↦ rw is refl ]

  plain_thunk : (b : Bases) (e : ExportView) → e.no_name ≡ false →
      thunk_linked b e ≡ with_address (zeros (thunk_width machine)) 0 (target_address linked (placed_export machine dll b e) (hint_name_symbol e))
  unfolding thunk_linked relocations_of_thunk thunk
  plain_thunk b e is = rw (is, same_number machine) refl

  thunk_of_name : (b : Bases) (e : ExportView) → e.no_name ≡ false →
      thunk_linked b e ≡ u32_bytes ((0 + (next_multiple 2 b.hint_names + 0)) % 2 ^ 32) ++ zeros (thunk_width machine - 4)
  thunk_of_name b e is = grind (arith, plain_thunk, hint_name_address, with_address-zeros)

  pub length-thunk_linked : (b : Bases) (e : ExportView) → length (thunk_linked b e) ≡ thunk_width machine
  length-thunk_linked b e =
      elim (cases_Bool e.no_name) [
        | inl is ↦ ap length (thunk_of_ordinal b e is) ∙ length-thunk_of machine e.ordinal true
        | inr is ↦ ap length (thunk_of_name b e is) ∙ length-address machine ((0 + (next_multiple 2 b.hint_names + 0)) % 2 ^ 32)
      ]

  -- the bytes of a table
  pub thunk_bytes : Bases → List ExportView → List ℕ
  thunk_bytes b [] = zeros (thunk_width machine)
  thunk_bytes b (e ∷ es) = thunk_linked b e ++ thunk_bytes (ends_of_export machine dll b e) es

  -- the bytes of the hints and names
  pub hint_bytes : Bases → List ExportView → List ℕ
  hint_bytes b [] = []
  hint_bytes b (e ∷ es) =
      zeros (next_multiple 2 b.hint_names - b.hint_names) ++ (hint_name machine e ++ hint_bytes (ends_of_export machine dll b e) es)

  pub lookups_filled : (b : Bases) (es : List ExportView) (rest : List Object) → AreAligned b →
      filled b.lookups (contributions machine linked Lookups (placed_from b (after_head machine dll es rest)))
      ≡ thunk_bytes b es ++ filled (ends_of_all machine dll b es).lookups (contributions machine linked Lookups (placed_from (ends_of_all machine dll b es) rest))
  unfolding thunk_bytes tail_object export_object thunk_linked ends_of_exports
  lookups_filled b [] rest even = grind (arith, placed-tail, filled_first, length-replicate)
  lookups_filled b (e ∷ es) rest even =
      let later : Bases = ends_of_export machine dll b e in
      ap (λ ps. filled b.lookups (contributions machine linked Lookups ps)) (placed-export machine dll b e (after_head machine dll es rest) even)
      ∙ filled_first b.lookups (thunk_width machine) (thunk_linked b e) (contributions machine linked Lookups (placed_from later (after_head machine dll es rest))) (length-thunk_linked b e)
      ∙ ap (λ others. thunk_linked b e ++ others) (lookups_filled later es rest (aligned_after machine dll b e even))
      ∙ sym (append_assoc (thunk_linked b e) (thunk_bytes later es) (filled (ends_of_all machine dll later es).lookups (contributions machine linked Lookups (placed_from (ends_of_all machine dll later es) rest))))

  pub addresses_filled : (b : Bases) (es : List ExportView) (rest : List Object) → AreAligned b →
      filled b.addresses (contributions machine linked Addresses (placed_from b (after_head machine dll es rest)))
      ≡ thunk_bytes b es ++ filled (ends_of_all machine dll b es).addresses (contributions machine linked Addresses (placed_from (ends_of_all machine dll b es) rest))
  unfolding thunk_bytes tail_object export_object thunk_linked ends_of_exports
  addresses_filled b [] rest even = grind (arith, placed-tail, filled_first, length-replicate)
  addresses_filled b (e ∷ es) rest even =
      let later : Bases = ends_of_export machine dll b e in
      ap (λ ps. filled b.addresses (contributions machine linked Addresses ps)) (placed-export machine dll b e (after_head machine dll es rest) even)
      ∙ filled_first b.addresses (thunk_width machine) (thunk_linked b e) (contributions machine linked Addresses (placed_from later (after_head machine dll es rest))) (length-thunk_linked b e)
      ∙ ap (λ others. thunk_linked b e ++ others) (addresses_filled later es rest (aligned_after machine dll b e even))
      ∙ sym (append_assoc (thunk_linked b e) (thunk_bytes later es) (filled (ends_of_all machine dll later es).addresses (contributions machine linked Addresses (placed_from (ends_of_all machine dll later es) rest))))

  pub hint_names_filled : (b : Bases) (es : List ExportView) (rest : List Object) → AreAligned b →
      filled b.hint_names (contributions machine linked HintNames (placed_from b (after_head machine dll es rest)))
      ≡ hint_bytes b es ++ filled (ends_of_all machine dll b es).hint_names (contributions machine linked HintNames (placed_from (ends_of_all machine dll b es) rest))
  unfolding hint_bytes tail_object export_object ends_of_exports
  hint_names_filled b [] rest even = ap (λ ps. filled b.hint_names (contributions machine linked HintNames ps)) (placed-tail machine dll b rest even)
  hint_names_filled b (e ∷ es) rest even =
      let later : Bases = ends_of_export machine dll b e in
      let padding : List ℕ = zeros (next_multiple 2 b.hint_names - b.hint_names) in
      let others : List ℕ = filled (ends_of_all machine dll later es).hint_names (contributions machine linked HintNames (placed_from (ends_of_all machine dll later es) rest)) in
      ap (λ ps. filled b.hint_names (contributions machine linked HintNames ps)) (placed-export machine dll b e (after_head machine dll es rest) even)
      ∙ ap (λ others. padding ++ (hint_name machine e ++ others)) (hint_names_filled later es rest (aligned_after machine dll b e even))
      ∙ ap (λ others. padding ++ others) (sym (append_assoc (hint_name machine e) (hint_bytes later es) others))
      ∙ sym (append_assoc padding (hint_name machine e ++ hint_bytes later es) others)

  -- exports and the tail have no descriptor
  pub descriptors_filled : (b : Bases) (es : List ExportView) (rest : List Object) → AreAligned b →
      filled b.descriptors (contributions machine linked Descriptors (placed_from b (after_head machine dll es rest)))
      ≡ filled (ends_of_all machine dll b es).descriptors (contributions machine linked Descriptors (placed_from (ends_of_all machine dll b es) rest))
  unfolding tail_object export_object ends_of_exports
  descriptors_filled b [] rest even = ap (λ ps. filled b.descriptors (contributions machine linked Descriptors ps)) (placed-tail machine dll b rest even)
  descriptors_filled b (e ∷ es) rest even =
      ap (λ ps. filled b.descriptors (contributions machine linked Descriptors ps)) (placed-export machine dll b e (after_head machine dll es rest) even)
      ∙ descriptors_filled (ends_of_export machine dll b e) es rest (aligned_after machine dll b e even)

  -- the ends after these bytes
  pub lookups_end : (b : Bases) (es : List ExportView) → b.lookups + length (thunk_bytes b es) ≡ (ends_of_all machine dll b es).lookups
  unfolding thunk_bytes ends_of_exports
  lookups_end b [] = rw (length-replicate {A = ℕ} (thunk_width machine) 0) refl
  lookups_end b (e ∷ es) =
      let later : Bases = ends_of_export machine dll b e in
      let long : length (thunk_linked b e ++ thunk_bytes later es) ≡ thunk_width machine + length (thunk_bytes later es) = grind (arith, length-append, thunk_linked, thunk_bytes, length-thunk_linked) in
      let sum : b.lookups + (thunk_width machine + length (thunk_bytes later es)) ≡ b.lookups + thunk_width machine + length (thunk_bytes later es) = omega arith in
      ap (λ n. b.lookups + n) long ∙ sum ∙ lookups_end later es

  pub addresses_end : (b : Bases) (es : List ExportView) → b.addresses + length (thunk_bytes b es) ≡ (ends_of_all machine dll b es).addresses
  unfolding thunk_bytes ends_of_exports
  addresses_end b [] = rw (length-replicate {A = ℕ} (thunk_width machine) 0) refl
  addresses_end b (e ∷ es) =
      let later : Bases = ends_of_export machine dll b e in
      let long : length (thunk_linked b e ++ thunk_bytes later es) ≡ thunk_width machine + length (thunk_bytes later es) = grind (arith, length-append, thunk_linked, thunk_bytes, length-thunk_linked) in
      let sum : b.addresses + (thunk_width machine + length (thunk_bytes later es)) ≡ b.addresses + thunk_width machine + length (thunk_bytes later es) = omega arith in
      ap (λ n. b.addresses + n) long ∙ sum ∙ addresses_end later es

  pub hint_names_end : (b : Bases) (es : List ExportView) → b.hint_names + length (hint_bytes b es) ≡ (ends_of_all machine dll b es).hint_names
  unfolding hint_bytes ends_of_exports
  hint_names_end b [] = omega arith
  hint_names_end b (e ∷ es) =
      let later : Bases = ends_of_export machine dll b e in
      let padding : List ℕ = zeros (next_multiple 2 b.hint_names - b.hint_names) in
      let below : b.hint_names ≤ next_multiple 2 b.hint_names = at_least 2 b.hint_names in
      let padded : length padding ≡ next_multiple 2 b.hint_names - b.hint_names = length-replicate {A = ℕ} (next_multiple 2 b.hint_names - b.hint_names) 0 in
      let long : length (padding ++ (hint_name machine e ++ hint_bytes later es)) ≡ length padding + length (hint_name machine e ++ hint_bytes later es) = grind (arith, length-append, hint_bytes) in
      let longer : length (hint_name machine e ++ hint_bytes later es) ≡ length (hint_name machine e) + length (hint_bytes later es) = grind (arith, length-append, hint_bytes) in
      let sum : b.hint_names + length (padding ++ (hint_name machine e ++ hint_bytes later es)) ≡ next_multiple 2 b.hint_names + length (hint_name machine e) + length (hint_bytes later es) = omega arith in
      sum ∙ hint_names_end later es

  module _ (image : List Range) (starts : AllByRecursion (λ r. 0 < r.start) image) (ends : AllByRecursion (λ r. range_end r < 2 ^ 31) image) where
    -- an export's thunk asks for what is expected
    hint_is : (e : ExportView) → e.no_name ≡ false → hint_name machine e ≡ u16_bytes e.ordinal ++ (name_asked machine e ++ 0 ∷ [])
    unfolding hint_name
    hint_is e is = rw is refl

    thunk_at : (b : Bases) (e : ExportView) (a : ℕ) → CanBeAsked machine e → BytesAt image a (thunk_linked b e) →
        BytesAt image (next_multiple 2 b.hint_names) (hint_name machine e) → StrictThunkAt image (thunk_width machine) a (expected_ask machine e)
    thunk_at b e a fits located hint_located = grind (arith, cases_Bool, ordinal_located, thunk_of_ordinal, name_located, thunk_of_name, hint_is)

    -- a table asks for what is expected
    pub table_at : (es : List ExportView) (b : Bases) (a : ℕ) → AllByRecursion (CanBeAsked machine) es → BytesAt image a (thunk_bytes b es) →
        BytesAt image b.hint_names (hint_bytes b es) → StrictTableAt image (thunk_width machine) a (map (expected_ask machine) es)
    unfolding TableAt WholeTableAt thunk_bytes hint_bytes
    table_at [] b a fit located hints = grind (arith, length-replicate, zeros_number)
    table_at (e ∷ es) b a fit located hints =
        let later : Bases = ends_of_export machine dll b e in
        let parts = located_parts image (thunk_linked b e) (thunk_bytes later es) a located in
        let padding : List ℕ = zeros (next_multiple 2 b.hint_names - b.hint_names) in
        let behind = located_parts image padding (hint_name machine e ++ hint_bytes later es) b.hint_names hints in
        let below : b.hint_names ≤ next_multiple 2 b.hint_names = at_least 2 b.hint_names in
        let position : b.hint_names + length padding ≡ next_multiple 2 b.hint_names = rw (length-replicate {A = ℕ} (next_multiple 2 b.hint_names - b.hint_names) 0) (omega arith) in
        let hint_parts = located_parts image (hint_name machine e) (hint_bytes later es) (next_multiple 2 b.hint_names)
        (subst (λ n. BytesAt image n (hint_name machine e ++ hint_bytes later es)) position behind.1) in
        let first = thunk_at b e a fit.0 parts.0 hint_parts.0 in
        let others = table_at es later (a + thunk_width machine) fit.1
        (subst (λ n. BytesAt image (a + n) (thunk_bytes later es)) (length-thunk_linked b e) parts.1) hint_parts.1 in
        record { plain = (first.plain, others.plain); whole = (first.whole, others.whole) }
