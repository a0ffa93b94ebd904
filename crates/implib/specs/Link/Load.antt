-- Loading: what a loader finds in an image (PE/COFF specification, "The .idata Section").
use Rattle.std.specs.Prelude.{◌≡◌, ◌≢◌, ℕ, ◌+◌, ◌*◌, ◌-◌, ◌%◌, ◌^◌, ◌<◌, ◌≤◌, List, [], ◌∷◌, ◌++◌}
use Rattle.std.specs.Prelude.{length, Some}
use Rattle.implib.specs.Import.{Ask, Ordinal, Name}
use Rattle.implib.specs.Link.Image.{Range, byte_at}
use Rattle.implib.specs.Formats.Layout.{HasNoNul}

-- the image has these bytes at an address
unfoldable pub BytesAt : List Range → ℕ → List ℕ → Type 0
BytesAt image address [] = Unit {0}
BytesAt image address (byte ∷ bytes) =
    (byte_at image address ≡ Some byte) × BytesAt image (address + 1) bytes

-- The number in bytes, the low one first. For example, `02 01` is 258.
abbrev pub number_in : List ℕ → ℕ
number_in [] = 0
number_in (byte ∷ bytes) = byte + 256 * number_in bytes

-- the image has a number of `width` bytes at an address
pub record NumberAt (image : List Range) (width : ℕ) (address : ℕ) (number : ℕ) : Type 0 where
  pub bytes : List ℕ
  pub located : BytesAt image address bytes
  pub count : length bytes ≡ width
  pub value : number_in bytes ≡ number

-- the image has a text, ended by NUL, at an address
pub record TextAt (image : List Range) (address : ℕ) (text : List ℕ) : Type 0 where
  pub no_nul : HasNoNul text
  pub located : BytesAt image address (text ++ 0 ∷ [])

-- A thunk asks for this ("Import Lookup Table", "Hint/Name Table"): with its top bit set for the
-- ordinal in its low 16 bits, otherwise for the hint and the name at the address in its low 31
-- bits. For example, 0x8000_0005, of 4 bytes, asks for the ordinal 5.
unfoldable pub ThunkAsksFor : List Range → ℕ → ℕ → Ask → Type 0
ThunkAsksFor image width thunk (Ordinal n) = (2 ^ (8 * width - 1) ≤ thunk) × (thunk % 2 ^ 16 ≡ n)
ThunkAsksFor image width thunk (Name text hint) =
    (thunk < 2 ^ (8 * width - 1)) × NumberAt image 2 (thunk % 2 ^ 31) hint
    × TextAt image (thunk % 2 ^ 31 + 2) text

-- a thunk at an address that ends no table and asks for this
pub record ThunkAt (image : List Range) (width : ℕ) (address : ℕ) (ask : Ask) : Type 0 where
  pub thunk : ℕ
  pub located : NumberAt image width address thunk
  pub not_zero : thunk ≢ 0
  pub asks : ThunkAsksFor image width thunk ask

-- thunks of `width` bytes, one after another from an address on, ask for these; a zero
-- thunk ends them
unfoldable pub TableAt : List Range → ℕ → ℕ → List Ask → Type 0
TableAt image width address [] = NumberAt image width address 0
TableAt image width address (ask ∷ asks) =
    ThunkAt image width address ask × TableAt image width (address + width) asks

-- A thunk that is written whole, every other bit of it 0 ("Import Lookup Table"): the top bit and
-- the ordinal, or the address of the hint and the name.
unfoldable pub IsWhole : ℕ → ℕ → Ask → Type 0
IsWhole width thunk (Ordinal n) = thunk ≡ 2 ^ (8 * width - 1) + n
IsWhole width thunk (Name text hint) = thunk < 2 ^ 31

-- a thunk at an address is written whole for an ask
pub record WholeThunkAt (image : List Range) (width : ℕ) (address : ℕ) (ask : Ask) : Type 0 where
  pub thunk : ℕ
  pub located : NumberAt image width address thunk
  pub whole : IsWhole width thunk ask

-- thunks one after another are written whole for these asks
unfoldable pub WholeTableAt : List Range → ℕ → ℕ → List Ask → Type 0
WholeTableAt image width address [] = Unit {0}
WholeTableAt image width address (ask ∷ asks) =
    WholeThunkAt image width address ask × WholeTableAt image width (address + width) asks

-- What the descriptor at an address leads to: the lookup table by its field at 0, the DLL's name by
-- that at 12, the address table by that at 16 ("Import Directory Table"). For example, the fields
-- 0x1020, 0, 0, 0x1088 and 0x1040 lead to a lookup table at 0x1020, a name at 0x1088 and an address
-- table at 0x1040.
pub record Loads (image : List Range) (width : ℕ) (descriptor : ℕ) (dll : List ℕ) (asks : List Ask)
    : Type 0 where
  pub lookups : ℕ
  pub lookups_field : NumberAt image 4 descriptor lookups
  pub lookup_table : TableAt image width lookups asks
  pub name : ℕ
  pub name_field : NumberAt image 4 (descriptor + 12) name
  pub name_text : TextAt image name dll
  pub addresses : ℕ
  pub addresses_field : NumberAt image 4 (descriptor + 16) addresses
  pub address_table : TableAt image width addresses asks

-- What a strict loader takes: a descriptor that leads to this, whose time and forwarder chain are 0
-- (it is not bound), whose three addresses are not 0, and whose thunks are all written whole.
pub record LoadsStrictly (image : List Range) (width : ℕ) (descriptor : ℕ) (dll : List ℕ)
    (asks : List Ask) : Type 0 where
  pub plain : Loads image width descriptor dll asks
  pub time : NumberAt image 4 (descriptor + 4) 0
  pub forwarder : NumberAt image 4 (descriptor + 8) 0
  pub has_lookups : 0 < plain.lookups
  pub has_name : 0 < plain.name
  pub has_addresses : 0 < plain.addresses
  pub whole_lookups : WholeTableAt image width plain.lookups asks
  pub whole_addresses : WholeTableAt image width plain.addresses asks
