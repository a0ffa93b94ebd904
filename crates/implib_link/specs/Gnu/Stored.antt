-- Addresses that code and data beside the import tables hold as numbers, of names that linked code
-- defines or that the tables do: stored whole, as in a table of functions; from the image's base,
-- as a handler in unwind data; and on ARM64 as the page of an `adrp` and the offset of an `add`. Of
-- an import's bare name it is the address of its stub. Addresses count from the image's base.
use Rattle.std.specs.Prelude.{◌≡◌, ℕ, ◌+◌, ◌*◌, ◌%◌, ◌^◌, ◌≤◌, ◌⊎◌, true, List, ◌++◌, length}
use Rattle.std.specs.Prelude.{slice_get, Some}
use Rattle.std.specs.List.{Contains}
use Rattle.implib.specs.declared.coff.object.Relocation.{Relocation}
use Rattle.implib.specs.declared.machine.MachineType.{MachineType}
use Rattle.implib.specs.declared.machine.MachineType.TheVariants.{I386, ARMNT, AMD64, ARM64}
use Rattle.implib.specs.Formats.Object.{ASymbol, ObjectSection, ObjectSymbol}
use Rattle.implib.specs.Link.Image.{Range}
use Rattle.implib.specs.Link.Load.{NumberAt}
use Rattle.implib.specs.Link.Placement.{Placed}
use Rattle.implib.specs.Link.Resolution.{is_undefined_external}
use Rattle.implib.specs.Members.ImportTables.{thunk_width}
use Rattle.implib_link.specs.Gnu.Fields.{field_width, AreLinkedBeside, DefinesIn, LinkedCode}
use Rattle.implib_link.specs.Gnu.Fields.{MeetsAlone, field_at, ranges_of_codes, HasField}
use Rattle.implib_link.specs.Gnu.Fields.{HasPageField, HasPointer, Place, absolute_width}
use Rattle.implib_link.specs.Gnu.Moves.{AreMoved, ArePaged}
use Rattle.implib_link.specs.Stub.{adrp_immediate, bits_of, page, plus_signed, with_adrp, with_bits}

-- The relocations by 32 bits that hold an address from the image's base (PE/COFF specification,
-- "Type Indicators": IMAGE_REL_I386_DIR32NB, IMAGE_REL_AMD64_ADDR32NB, IMAGE_REL_ARM64_ADDR32NB)
abbrev pub i386_dir32nb : ℕ
i386_dir32nb = 7

abbrev pub amd64_addr32nb : ℕ
amd64_addr32nb = 3

abbrev pub arm64_addr32nb : ℕ
arm64_addr32nb = 2

-- ARM64's relocation of an `add` by the offset of its target in the page
-- (IMAGE_REL_ARM64_PAGEOFFSET_12A)
abbrev pub arm64_pageoffset_12a : ℕ
arm64_pageoffset_12a = 6

-- the top ten bits of ARM64's `add` of a number of 12 bits, without a shift, in registers of 64
-- bits
abbrev pub arm64_add : ℕ
arm64_add = 0x244

-- the types of fields that hold an address from the image's base
abbrev pub IsImageRelative : MachineType → ℕ → Type 0
IsImageRelative I386 type = type ≡ i386_dir32nb
IsImageRelative ARMNT type = ⊥
IsImageRelative AMD64 type = type ≡ amd64_addr32nb
IsImageRelative ARM64 type = type ≡ arm64_addr32nb

-- What a field holds for a target, by types that Fields leaves out. `old` and `new` are the numbers
-- in so many bytes of it, in the object and after the link:
-- `relative`: a field from the image's base adds the target's address there;
-- `added`: in ARM64's `add` the number and the target's address are added, and the sum's offset in
-- its page is there; all other bits are as they were.
pub record HoldsFurther (machine : MachineType) (type image_base target : ℕ) (old new : ℕ → ℕ)
    : Type 0 where
  pub relative : IsImageRelative machine type → new 4 ≡ (old 4 + target) % 2 ^ 32
  pub added : machine ≡ ARM64 → type ≡ arm64_pageoffset_12a → bits_of 22 10 (old 4) ≡ arm64_add →
      (with_bits 10 12 0 (new 4) ≡ with_bits 10 12 0 (old 4))
      × (bits_of 10 12 (new 4) ≡ (image_base + target + bits_of 10 12 (old 4)) % 4096)

-- so does each field of a section of code within it that no other relocation meets
abbrev pub IsFurtherHeld : MachineType → ℕ → (ℕ → ℕ) → ObjectSection → List ℕ → Type 0
IsFurtherHeld machine image_base targets code bytes =
    (r : Relocation) → MeetsAlone machine code.relocations r.offset (field_width machine r.kind) r →
    r.offset + field_width machine r.kind ≤ length code.bytes →
    HoldsFurther machine r.kind image_base (targets r.symbol) (field_at code.bytes r.offset)
    (field_at bytes r.offset)

-- and of all linked code
abbrev pub AreFurtherHeld : MachineType → ℕ → List LinkedCode → (LinkedCode → ℕ → ℕ) → Type 0
AreFurtherHeld machine image_base codes targets =
    (c : LinkedCode) → Contains codes c →
    IsFurtherHeld machine image_base (targets c) c.code c.bytes

-- where code stores whole the address of a name that linked code defines, there is a base
-- relocation
abbrev pub StoresAreMoved : MachineType → List LinkedCode → List Place → Type 0
StoresAreMoved machine codes places =
    (c d : LinkedCode) (r : Relocation) (width : ℕ) (s t : ObjectSymbol) → Contains codes c →
    Contains codes d →
    Contains c.code.relocations r → absolute_width machine r.kind ≡ Some width →
    slice_get c.from.object.entries r.symbol ≡ Some (ASymbol s) → is_undefined_external s ≡ true →
    DefinesIn d t → t.name ≡ s.name →
    Contains places (record { address = c.position + r.offset; width = width })

-- The program is in memory at a base, and with it the addresses that its code holds: linked for it,
-- or moved there from the base that it was linked for.
abbrev pub AreStoredInMemory : MachineType → ℕ → List Range → List Placed → List LinkedCode →
    (LinkedCode → ℕ → ℕ) → List Range → Type 0
AreStoredInMemory machine image_base image linked codes targets memory =
    (AreLinkedBeside machine image_base image linked codes targets
    × (AreFurtherHeld machine image_base codes targets × (memory ≡ image ++ ranges_of_codes codes)))
    ⊎ ((from : ℕ) × ((places : List Place) × (ArePaged machine from image_base
    × (AreMoved machine from image_base image linked codes targets places memory
    × (AreFurtherHeld machine from codes targets × StoresAreMoved machine codes places)))))

-- code has, at an offset, an empty field for the address of a name from the image's base
pub record HasRelative (machine : MachineType) (c : LinkedCode) (offset : ℕ) (name : List ℕ)
    : Type 0 where
  pub type : ℕ
  pub field : HasField machine c offset type name
  pub relative : IsImageRelative machine type
  pub empty : field_at c.code.bytes offset 4 ≡ 0

-- ARM64: code has, at an offset, an `add` of the offset of a name in its page, of and into any
-- registers
pub record HasAddField (c : LinkedCode) (offset : ℕ) (name : List ℕ) : Type 0 where
  pub field : HasField ARM64 c offset arm64_pageoffset_12a name
  pub adds : bits_of 22 10 (field_at c.code.bytes offset 4) ≡ arm64_add
  pub empty : bits_of 10 12 (field_at c.code.bytes offset 4) ≡ 0

-- At two addresses of memory are an `adrp` and an `add` that are as they were but for their fields,
-- and the page of the one and the number of the other are together an address of the image.
pub record SumArrives (image_base : ℕ) (memory : List Range)
    (first second old_adrp old_add target : ℕ) : Type 0 where
  pub adrp : ℕ
  pub adrp_there : NumberAt memory 4 first adrp
  pub is_adrp : with_adrp 0 adrp ≡ with_adrp 0 old_adrp
  pub add : ℕ
  pub add_there : NumberAt memory 4 second add
  pub is_add : with_bits 10 12 0 add ≡ with_bits 10 12 0 old_add
  pub leads : plus_signed 21 4096 (adrp_immediate adrp) (page (image_base + first) * 4096)
      + bits_of 10 12 add ≡ image_base + target

-- Every field of linked code for the address of a name holds this one in memory:
-- `whole`: stored whole, where all of the image is below what a pointer can hold; so is I386's
-- immediate operand;
-- `relative`: from the image's base;
-- `sums`: by ARM64's two instructions.
pub record HoldAddress (machine : MachineType) (image_base : ℕ) (codes : List LinkedCode)
    (memory : List Range) (name : List ℕ) (target : ℕ) : Type 0 where
  pub whole : (c : LinkedCode) (offset : ℕ) → image_base + 2 ^ 31 ≤ 2 ^ (8 * thunk_width machine) →
      Contains codes c → HasPointer machine c offset name →
      NumberAt memory (thunk_width machine) (c.position + offset) (image_base + target)
  pub relative : (c : LinkedCode) (offset : ℕ) → Contains codes c →
      HasRelative machine c offset name →
      NumberAt memory 4 (c.position + offset) target
  pub sums : (c d : LinkedCode) (first second : ℕ) → machine ≡ ARM64 → Contains codes c →
      Contains codes d →
      HasPageField c first name → HasAddField d second name →
      SumArrives image_base memory (c.position + first) (d.position + second)
      (field_at c.code.bytes first 4) (field_at d.code.bytes second 4) target

-- At an address of memory is a pointer to code of which this holds: say, that it jumps to what a
-- DLL gives. A call through the pointer goes there.
pub record PointsTo (machine : MachineType) (image_base : ℕ) (memory : List Range) (address : ℕ)
    (Holds : ℕ → Type 0) : Type 0 where
  pub target : ℕ
  pub there : NumberAt memory (thunk_width machine) address (image_base + target)
  pub reached : Holds target
