-- A descriptor in an image leads a strict loader to its tables and to the DLL's name.
use Rattle.std.proofs.Common.{◌≡◌, ℕ, ◌+◌, ◌%◌, ◌<◌, ◌^◌, List, [], ◌∷◌, ◌++◌, length, refl, arith, subst}
use Rattle.std.specs.List.{AllByRecursion}
use Rattle.std.proofs.lemmas.List.{length-append}
use Rattle.implib.specs.declared.machine.MachineType.{MachineType}
use Rattle.implib.specs.declared.machine.MachineType.TheVariants.{I386, ARMNT, AMD64, ARM64}
use Rattle.implib.specs.Formats.Bytes.{u32_bytes}
use Rattle.implib.specs.Import.{Ask}
use Rattle.implib.specs.Link.Image.{Range, range_end}
use Rattle.implib.specs.Link.Load.{BytesAt, LoadsStrictly, NumberAt, TableAt, TextAt, number_in}
use Rattle.implib.specs.Members.ImportTables.{thunk_width, zeros}
use Rattle.implib.proofs.Link.Ranges.{address_bounds, located_parts}
use Rattle.implib.proofs.Link.Thunks.{StrictTableAt}

pub length-u32 : (n : ℕ) → length (u32_bytes n) ≡ 4
unfolding u32_bytes
length-u32 n = refl

number-u32 : (n : ℕ) → n < 2 ^ 31 → number_in (u32_bytes n) ≡ n
unfolding u32_bytes
number-u32 n small = omega arith

small_mod_plus : (n : ℕ) → n < 2 ^ 31 → (0 + (n + 0)) % 2 ^ 32 ≡ n
small_mod_plus n small = omega arith

field_located : (image : List Range) (a n : ℕ) → n < 2 ^ 31 → BytesAt image a (u32_bytes ((0 + (n + 0)) % 2 ^ 32)) → NumberAt image 4 a n
field_located image a n small located = grind (arith, small_mod_plus, length-u32, number-u32)

-- a descriptor is taken by a strict loader, and has this address for its address table
pub record LoadsFrom (image : List Range) (width descriptor addresses : ℕ) (dll : List ℕ) (asks : List Ask) : Type 0 where
  pub loads : LoadsStrictly image width descriptor dll asks
  pub table_located : loads.plain.addresses ≡ addresses

module _ (machine : MachineType) (image : List Range) (starts : AllByRecursion (λ r. 0 < r.start) image) (ends : AllByRecursion (λ r. range_end r < 2 ^ 31) image) where
  first_bounds : (a : ℕ) (bytes : List ℕ) → 0 < length bytes → BytesAt image a bytes → (0 < a) × (a < 2 ^ 31)
  unfolding BytesAt
  first_bounds a [] long held = absurd (omega arith)
  first_bounds a (byte ∷ bytes) long held = address_bounds image a byte starts ends held.0

  number_bounds : (a width number : ℕ) → 0 < width → NumberAt image width a number → (0 < a) × (a < 2 ^ 31)
  number_bounds a width number wide n = grind (arith, first_bounds)

  wide : (m : MachineType) → 0 < thunk_width m
  wide I386 = omega arith
  wide ARMNT = omega arith
  wide AMD64 = omega arith
  wide ARM64 = omega arith

  table_bounds : (a : ℕ) (asks : List Ask) → TableAt image (thunk_width machine) a asks → (0 < a) × (a < 2 ^ 31)
  unfolding TableAt
  table_bounds a [] table = number_bounds a (thunk_width machine) 0 (wide machine) table
  table_bounds a (ask ∷ asks) table = number_bounds a (thunk_width machine) table.0.thunk (wide machine) table.0.located

  -- the five fields of a descriptor
  record Fields (descriptor lookups addresses name : ℕ) : Type 0 where
    lookups_field : NumberAt image 4 descriptor lookups
    time : NumberAt image 4 (descriptor + 4) 0
    forwarder : NumberAt image 4 (descriptor + 8) 0
    name_field : NumberAt image 4 (descriptor + 12) name
    addresses_field : NumberAt image 4 (descriptor + 16) addresses

  four_zeros : (a : ℕ) → BytesAt image a (zeros 4) → NumberAt image 4 a 0
  four_zeros a located = record { bytes = zeros 4; located = located; count = refl; value = refl }

  -- the bytes of a descriptor whose fields were relocated
  abbrev descriptor_bytes : ℕ → ℕ → ℕ → List ℕ
  descriptor_bytes lookups addresses name =
      u32_bytes ((0 + (lookups + 0)) % 2 ^ 32)
      ++ (zeros 4 ++ (zeros 4 ++ (u32_bytes ((0 + (name + 0)) % 2 ^ 32) ++ u32_bytes ((0 + (addresses + 0)) % 2 ^ 32))))

  fields_located : (descriptor lookups addresses name : ℕ) → lookups < 2 ^ 31 → addresses < 2 ^ 31 → name < 2 ^ 31 →
      BytesAt image descriptor (descriptor_bytes lookups addresses name) → Fields descriptor lookups addresses name
  fields_located descriptor lookups addresses name lookups_small addresses_small name_small whole =
      let first : List ℕ = u32_bytes ((0 + (lookups + 0)) % 2 ^ 32) in
      let second : List ℕ = u32_bytes ((0 + (name + 0)) % 2 ^ 32) in
      let third : List ℕ = u32_bytes ((0 + (addresses + 0)) % 2 ^ 32) in
      let parts = located_parts image first (zeros 4 ++ (zeros 4 ++ (second ++ third))) descriptor whole in
      let time = located_parts image (zeros 4) (zeros 4 ++ (second ++ third)) (descriptor + length first) parts.1 in
      let forwarder = located_parts image (zeros 4) (second ++ third) (descriptor + length first + 4) time.1 in
      let last = located_parts image second third (descriptor + length first + 4 + 4) forwarder.1 in
      let first_long : length first ≡ 4 = length-u32 ((0 + (lookups + 0)) % 2 ^ 32) in
      let second_long : length second ≡ 4 = length-u32 ((0 + (name + 0)) % 2 ^ 32) in
      let at_time : descriptor + length first ≡ descriptor + 4 = rw first_long (omega arith) in
      let at_forwarder : descriptor + length first + 4 ≡ descriptor + 8 = rw first_long (omega arith) in
      let at_name : descriptor + length first + 4 + 4 ≡ descriptor + 12 = rw first_long (omega arith) in
      let at_addresses : descriptor + length first + 4 + 4 + length second ≡ descriptor + 16 = rw (first_long, second_long) (omega arith) in
      record {
        lookups_field = field_located image descriptor lookups lookups_small parts.0;
        time = four_zeros (descriptor + 4) (subst (λ n. BytesAt image n (zeros 4)) at_time time.0);
        forwarder = four_zeros (descriptor + 8) (subst (λ n. BytesAt image n (zeros 4)) at_forwarder forwarder.0);
        name_field = field_located image (descriptor + 12) name name_small (subst (λ n. BytesAt image n second) at_name last.0);
        addresses_field = field_located image (descriptor + 16) addresses addresses_small (subst (λ n. BytesAt image n third) at_addresses last.1);
      }

  -- a descriptor with these addresses, the tables, and the name
  loads_of : (descriptor lookups addresses name : ℕ) (dll : List ℕ) (asks : List Ask) →
      BytesAt image descriptor (u32_bytes ((0 + (lookups + 0)) % 2 ^ 32)
      ++ (zeros 4 ++ (zeros 4 ++ (u32_bytes ((0 + (name + 0)) % 2 ^ 32) ++ u32_bytes ((0 + (addresses + 0)) % 2 ^ 32))))) →
      StrictTableAt image (thunk_width machine) lookups asks → StrictTableAt image (thunk_width machine) addresses asks → TextAt image name dll →
      LoadsStrictly image (thunk_width machine) descriptor dll asks
  loads_of descriptor lookups addresses name dll asks whole lookup_table address_table name_text =
      let lookups_bounds = table_bounds lookups asks lookup_table.plain in
      let addresses_bounds = table_bounds addresses asks address_table.plain in
      let long : 0 < length (dll ++ 0 ∷ []) = rw (length-append dll (0 ∷ [])) (omega arith) in
      let name_bounds = first_bounds name (dll ++ 0 ∷ []) long name_text.located in
      let fields = fields_located descriptor lookups addresses name lookups_bounds.1 addresses_bounds.1 name_bounds.1 whole in
      record {
        plain = grind arith;
        time = fields.time;
        forwarder = fields.forwarder;
        has_lookups = lookups_bounds.0;
        has_name = name_bounds.0;
        has_addresses = addresses_bounds.0;
        whole_lookups = lookup_table.whole;
        whole_addresses = address_table.whole;
      }

  pub descriptor_loads : (descriptor lookups addresses name : ℕ) (dll : List ℕ) (asks : List Ask) →
      BytesAt image descriptor (u32_bytes ((0 + (lookups + 0)) % 2 ^ 32)
      ++ (zeros 4 ++ (zeros 4 ++ (u32_bytes ((0 + (name + 0)) % 2 ^ 32) ++ u32_bytes ((0 + (addresses + 0)) % 2 ^ 32))))) →
      StrictTableAt image (thunk_width machine) lookups asks → StrictTableAt image (thunk_width machine) addresses asks → TextAt image name dll →
      LoadsFrom image (thunk_width machine) descriptor addresses dll asks
  unfolding loads_of
  descriptor_loads descriptor lookups addresses name dll asks whole lookup_table address_table name_text =
      record { loads = loads_of descriptor lookups addresses name dll asks whole lookup_table address_table name_text; table_located = refl }
