-- The image: the bytes of the placed sections, relocated, as ranges (the relocations are those of
-- the PE/COFF specification, "COFF Relocations"), and which bases a linker may choose
-- (docs/FORMATS.md, "Placement").
use Rattle.std.specs.Prelude.{◌≡◌, ℕ, ◌+◌, ◌-◌, ◌%◌, ◌^◌, ◌<◌, Bool, ◌&&◌, ◌==◌, nat_le, nat_lt}
use Rattle.std.specs.Prelude.{true, List, [], ◌∷◌, ◌++◌, length, take, drop, slice_index, Option}
use Rattle.std.specs.Prelude.{Some, None, if◌then◌else◌}
use Rattle.std.specs.List.{AllByRecursion, flat_map}
use Rattle.implib.specs.declared.coff.object.Relocation.{Relocation}
use Rattle.implib.specs.declared.machine.MachineType.{MachineType}
use Rattle.implib.specs.Formats.Bytes.{u32_bytes}
use Rattle.implib.specs.Formats.Constants.{image_relative}
use Rattle.implib.specs.Members.ImportTables.{zeros}
use Rattle.implib.specs.Formats.Object.{Object, ObjectSection, u32_at}
use Rattle.implib.specs.Link.Placement.{At, Bases, Group, Unplaced, SectionAddress, Placed, base_of}
use Rattle.implib.specs.Link.Placement.{groups, placed_from, same_group}
use Rattle.implib.specs.Link.Resolution.{target_address}

-- bytes with an address added to the 4-byte field at an offset
unfoldable pub with_address : List ℕ → ℕ → ℕ → List ℕ
with_address bytes offset address =
    take offset bytes
    ++ (u32_bytes ((u32_at bytes offset + address) % 2 ^ 32) ++ drop (offset + 4) bytes)

-- bytes with the address of its symbol added by each image-relative relocation
abbrev pub relocated : MachineType → List Placed → Placed → List Relocation → List ℕ → List ℕ
relocated machine linked p [] bytes = bytes
relocated machine linked p (r ∷ relocations) bytes =
    relocated machine linked p relocations
    (if r.kind == image_relative machine
    then with_address bytes r.offset (target_address linked p r.symbol)
    else bytes)

-- a section contribution: bytes at an address
pub record Contribution : Type 0 where
  pub address : ℕ
  pub bytes : List ℕ

-- the contribution to a group of a section with this address and these bytes: none if it is of
-- another group
abbrev pub contribution_at : Group → SectionAddress → List ℕ → List Contribution
contribution_at group Unplaced bytes = []
contribution_at group (At other address) bytes =
    if same_group group other then record { address = address; bytes = bytes } ∷ [] else []

-- the contributions to a group of an object's sections, by their addresses, relocated
abbrev pub contributions_in : MachineType → List Placed → Placed → Group → List SectionAddress →
    List ObjectSection → List Contribution
contributions_in machine linked p group [] sections = []
contributions_in machine linked p group (address ∷ addresses) [] = []
contributions_in machine linked p group (address ∷ addresses) (s ∷ sections) =
    contribution_at group address (relocated machine linked p s.relocations s.bytes)
    ++ contributions_in machine linked p group addresses sections

-- the contributions of a placed object to a group
abbrev pub contributions_of : MachineType → List Placed → Group → Placed → List Contribution
contributions_of machine linked group p =
    contributions_in machine linked p group p.section_addresses p.object.sections

-- the contributions of objects to a group, in their order
abbrev pub contributions : MachineType → List Placed → Group → List Placed → List Contribution
contributions machine linked group objects =
    flat_map (contributions_of machine linked group) objects

-- the bytes from an address to the last contribution's end, zeros where there is none
abbrev pub filled : ℕ → List Contribution → List ℕ
filled end [] = []
filled end (p ∷ others) =
    zeros (p.address - end) ++ (p.bytes ++ filled (p.address + length p.bytes) others)

-- a range of bytes
pub record Range : Type 0 where
  pub start : ℕ
  pub bytes : List ℕ

-- the range of a group's contributions, if it has any
abbrev pub range_of : ℕ → List Contribution → List Range
range_of base [] = []
range_of base (p ∷ others) = record { start = base; bytes = filled base (p ∷ others) } ∷ []

-- What objects are linked to: a range for each group that has contributions. For example, of
-- foo.dll with two exports on AMD64, at the bases of Worked/Links, the range of descriptors is 20
-- bytes from 0x1000 on, which begin with `20 10 00 00`, the address of the lookup table.
abbrev pub image_of : MachineType → Bases → List Placed → List Range
image_of machine bases linked =
    flat_map (λ group. range_of (base_of group bases) (contributions machine linked group linked))
    groups

-- the address after a range
abbrev pub range_end : Range → ℕ
range_end r = r.start + length r.bytes

-- whether an address is in a range
abbrev pub is_in : ℕ → Range → Bool
is_in address r = nat_le r.start address && nat_lt address (range_end r)

-- the byte at an address: that of the range that holds it
abbrev pub byte_at : List Range → ℕ → Option ℕ
byte_at [] address = None
byte_at (r ∷ others) address =
    if is_in address r then Some (slice_index r.bytes (address - r.start))
    else byte_at others address

-- no address is in both
abbrev pub AreApart : Range → Range → Type 0
AreApart first second = (address : ℕ) → is_in address first ≡ true → is_in address second ≡ true → ⊥

-- no address is in two of these
abbrev pub AllApart : List Range → Type 0
AllApart [] = Unit {0}
AllApart (r ∷ others) = AllByRecursion (AreApart r) others × AllApart others

-- a nonzero multiple of 4
abbrev pub IsBase : ℕ → Type 0
IsBase base = (0 < base) × (base % 4 ≡ 0)

-- Where objects may be placed: at nonzero multiples of 4, with every end below 2^31 and no address
-- in two ranges. A group without contributions has no range. For example, the groups of foo.dll
-- with two exports on AMD64 at 0x1000, 0x1020, 0x1040, 0x1060 and 0x1080 (Worked/Links).
pub record IsAdmissible (machine : MachineType) (bases : Bases)
    (objects : List Object) : Type 0 where
  pub descriptors : IsBase bases.descriptors
  pub directory_ends : IsBase bases.directory_ends
  pub lookups : IsBase bases.lookups
  pub addresses : IsBase bases.addresses
  pub hint_names : IsBase bases.hint_names
  pub dll_names : IsBase bases.dll_names
  pub ends : AllByRecursion (λ r. range_end r < 2 ^ 31)
      (image_of machine bases (placed_from bases objects))
  pub apart : AllApart (image_of machine bases (placed_from bases objects))
