-- Thunks in an image ask for an ordinal or for a name, for a loader that is strict.
use Rattle.std.proofs.Common.{◌≡◌, ℕ, ◌+◌, ◌-◌, ◌*◌, ◌%◌, ◌<◌, ◌≤◌, ◌^◌, true, List, [], ◌∷◌, ◌++◌, length, refl, arith}
use Rattle.std.specs.Prelude.{◌==◌}
use Rattle.std.specs.List.{AllByRecursion}
use Rattle.implib.specs.declared.machine.MachineType.{MachineType}
use Rattle.implib.specs.declared.machine.MachineType.TheVariants.{I386, ARMNT, AMD64, ARM64}
use Rattle.implib.specs.Formats.Bytes.{u16_bytes, u32_bytes}
use Rattle.implib.specs.Formats.Constants.{image_relative}
use Rattle.implib.specs.Import.{Ask, Name, Ordinal}
use Rattle.implib.specs.Link.Image.{Range, range_end, with_address}
use Rattle.implib.specs.Link.Load.{ThunkAsksFor, BytesAt, IsWhole, NumberAt, TableAt, ThunkAt, WholeTableAt, WholeThunkAt, number_in}
use Rattle.implib.specs.Members.ImportTables.{thunk_width, zeros}
use Rattle.implib.specs.Formats.Object.{u32_at}
use Rattle.implib.specs.Formats.Layout.{HasNoNul}
use Rattle.implib.proofs.Link.Ranges.{address_bounds, located_parts}
use Rattle.implib.proofs.Link.Placement.{length-thunk_of}

-- a thunk for a loader that is strict
pub record StrictThunkAt (image : List Range) (width : ℕ) (a : ℕ) (ask : Ask) : Type 0 where
  pub plain : ThunkAt image width a ask
  pub whole : WholeThunkAt image width a ask

-- and a table
pub record StrictTableAt (image : List Range) (width : ℕ) (a : ℕ) (asks : List Ask) : Type 0 where
  pub plain : TableAt image width a asks
  pub whole : WholeTableAt image width a asks

pub same_number : (machine : MachineType) → (image_relative machine == image_relative machine) ≡ true
same_number I386 = refl
same_number ARMNT = refl
same_number AMD64 = refl
same_number ARM64 = refl

small_mod : (n : ℕ) → n < 2 ^ 31 → (0 + (n + 0)) % 2 ^ 32 ≡ n
small_mod n small = omega arith

pub with_address-zeros : (machine : MachineType) (n : ℕ) → with_address (zeros (thunk_width machine)) 0 n ≡ u32_bytes ((0 + n) % 2 ^ 32) ++ zeros (thunk_width machine - 4)
unfolding with_address u32_bytes u32_at
with_address-zeros I386 n = refl
with_address-zeros ARMNT n = refl
with_address-zeros AMD64 n = refl
with_address-zeros ARM64 n = refl

pub length-address : (machine : MachineType) (n : ℕ) → length (u32_bytes n ++ zeros (thunk_width machine - 4)) ≡ thunk_width machine
unfolding u32_bytes
length-address I386 n = refl
length-address ARMNT n = refl
length-address AMD64 n = refl
length-address ARM64 n = refl

-- the number in an address's bytes, followed by zeros
number-address : (machine : MachineType) (n : ℕ) → n < 2 ^ 31 → number_in (u32_bytes n ++ zeros (thunk_width machine - 4)) ≡ n
unfolding u32_bytes
number-address I386 n small = omega arith
number-address ARMNT n small = omega arith
number-address AMD64 n small = omega arith
number-address ARM64 n small = omega arith

-- a thunk of an ordinal
abbrev pub ordinal_thunk : MachineType → ℕ → List ℕ
ordinal_thunk machine n = u16_bytes n ++ (zeros (thunk_width machine - 3) ++ 0x80 ∷ [])

ordinal_top : (machine : MachineType) (n : ℕ) → 2 ^ (8 * thunk_width machine - 1) ≤ number_in (ordinal_thunk machine n)
unfolding u16_bytes
ordinal_top I386 n = omega arith
ordinal_top ARMNT n = omega arith
ordinal_top AMD64 n = omega arith
ordinal_top ARM64 n = omega arith

ordinal_low : (machine : MachineType) (n : ℕ) → n < 2 ^ 16 → number_in (ordinal_thunk machine n) % 2 ^ 16 ≡ n
unfolding u16_bytes
ordinal_low I386 n small = omega arith
ordinal_low ARMNT n small = omega arith
ordinal_low AMD64 n small = omega arith
ordinal_low ARM64 n small = omega arith

ordinal_whole : (machine : MachineType) (n : ℕ) → n < 2 ^ 16 → number_in (ordinal_thunk machine n) ≡ 2 ^ (8 * thunk_width machine - 1) + n
unfolding u16_bytes
ordinal_whole I386 n small = omega arith
ordinal_whole ARMNT n small = omega arith
ordinal_whole AMD64 n small = omega arith
ordinal_whole ARM64 n small = omega arith

top_nonzero : (machine : MachineType) (n : ℕ) → 2 ^ (8 * thunk_width machine - 1) ≤ n → n ≡ 0 → ⊥
top_nonzero I386 n high is = omega arith
top_nonzero ARMNT n high is = omega arith
top_nonzero AMD64 n high is = omega arith
top_nonzero ARM64 n high is = omega arith

below_top : (machine : MachineType) (n : ℕ) → n < 2 ^ 31 → n < 2 ^ (8 * thunk_width machine - 1)
below_top I386 n small = omega arith
below_top ARMNT n small = omega arith
below_top AMD64 n small = omega arith
below_top ARM64 n small = omega arith

number-u16 : (n : ℕ) → n < 2 ^ 16 → number_in (u16_bytes n) ≡ n
unfolding u16_bytes
number-u16 n small = omega arith

pub zeros_number : (machine : MachineType) → number_in (zeros (thunk_width machine)) ≡ 0
zeros_number I386 = refl
zeros_number ARMNT = refl
zeros_number AMD64 = refl
zeros_number ARM64 = refl

pub length-u16 : (n : ℕ) → length (u16_bytes n) ≡ 2
unfolding u16_bytes
length-u16 n = refl

-- a thunk of an ordinal asks for it
pub ordinal_located : (machine : MachineType) (image : List Range) (n a : ℕ) → n < 2 ^ 16 → BytesAt image a (ordinal_thunk machine n) →
    StrictThunkAt image (thunk_width machine) a (Ordinal n)
unfolding ThunkAsksFor IsWhole
ordinal_located machine image n a small located = grind (arith, ordinal_top machine n, length-thunk_of machine n true, top_nonzero machine (number_in (ordinal_thunk machine n)) (ordinal_top machine n), ordinal_low machine n small, ordinal_whole machine n small)

module _ (machine : MachineType) (image : List Range) (starts : AllByRecursion (λ r. 0 < r.start) image) (ends : AllByRecursion (λ r. range_end r < 2 ^ 31) image) where
  first_bounds : (a first : ℕ) (rest : List ℕ) → BytesAt image a (first ∷ rest) → (0 < a) × (a < 2 ^ 31)
  unfolding BytesAt
  first_bounds a first rest located = address_bounds image a first starts ends located.0

  hint_bounds : (a n : ℕ) (rest : List ℕ) → BytesAt image a (u16_bytes n ++ rest) → (0 < a) × (a < 2 ^ 31)
  unfolding u16_bytes
  hint_bounds a n rest located = first_bounds a _ _ located

  -- a thunk with the address of a hint and a name asks for them
  pub name_located : (text : List ℕ) (hint place a : ℕ) → hint < 2 ^ 16 → HasNoNul text →
      BytesAt image a (u32_bytes ((0 + (place + 0)) % 2 ^ 32) ++ zeros (thunk_width machine - 4)) → BytesAt image place (u16_bytes hint ++ (text ++ 0 ∷ [])) →
      StrictThunkAt image (thunk_width machine) a (Name text hint)
  unfolding ThunkAsksFor IsWhole
  name_located text hint place a hint_small free located hint_located =
      let bounds = hint_bounds place hint (text ++ 0 ∷ []) hint_located in
      let nonzero = bounds.0 in
      let small = bounds.1 in
      let parts = located_parts image (u16_bytes hint) (text ++ 0 ∷ []) place hint_located in
      let low : place ≡ place % 2 ^ 31 = omega arith in
      let text_located : BytesAt image (place + 2) (text ++ 0 ∷ []) = grind (arith, length-u16) in
      let here : NumberAt image (thunk_width machine) a place = grind (arith, small_mod, length-address, number-address) in
      record {
        plain = grind (arith, below_top, length-u16, number-u16);
        whole = record { thunk = place; located = here; whole = small };
      }
