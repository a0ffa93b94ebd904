-- A program in memory at a base: as it was linked for it, or moved there from the base that it was
-- linked for. Addresses count from the image's base.
use Rattle.std.specs.Prelude.{◌≡◌, ℕ, ◌+◌, ◌%◌, ◌≤◌, ◌⊎◌, true, List, ◌++◌, length, slice_get, Some}
use Rattle.std.specs.List.{AllByRecursion, Contains, flat_map, list_any}
use Rattle.implib.specs.declared.coff.object.Relocation.{Relocation}
use Rattle.implib.specs.declared.machine.MachineType.{MachineType}
use Rattle.implib.specs.declared.machine.MachineType.TheVariants.{I386, ARMNT, AMD64, ARM64}
use Rattle.implib.specs.Formats.Object.{Entry}
use Rattle.implib.specs.Link.Image.{Range, byte_at}
use Rattle.implib.specs.Link.Placement.{Placed}
use Rattle.implib.specs.Link.Resolution.{symbol_address}
use Rattle.implib_link.specs.Gnu.Fields.{AreLinkedBeside, LinkedCode, ranges_of_codes, IsRebased}
use Rattle.implib_link.specs.Gnu.Fields.{Place, absolute_width, covers, places_at, table_places}

-- where relocations of linked code store addresses whole
abbrev pub places_of_code : MachineType → LinkedCode → List Place
places_of_code machine c = places_at machine c.position c.code.relocations

-- and those of all sections, in the import tables and in the code beside them
abbrev pub absolute_places : MachineType → List Placed → List LinkedCode → List Place
absolute_places machine linked codes =
    table_places machine linked ++ flat_map (places_of_code machine) codes

-- A program that was linked for one base is in memory at another:
-- `beside`: its code was linked beside its import tables, for the first base;
-- `within`: each field of code that stores an address whole is within the code;
-- `needed`: where code stores the address of a symbol of the import tables, there is a base
-- relocation;
-- `only`: base relocations change linked bytes only in fields that store addresses whole;
-- `rebased`: the base relocations were applied, and nothing else.
pub record AreMoved (machine : MachineType) (from to : ℕ) (image : List Range)
    (linked : List Placed) (codes : List LinkedCode) (targets : LinkedCode → ℕ → ℕ)
    (places : List Place) (memory : List Range) : Type 0 where
  pub beside : AreLinkedBeside machine from image linked codes targets
  pub within : AllByRecursion
      (λ c. AllByRecursion (λ p. p.address + p.width ≤ c.position + length c.code.bytes)
      (places_of_code machine c))
      codes
  pub needed : (c : LinkedCode) (r : Relocation) (width address : ℕ) (entry : Entry) →
      Contains codes c → Contains c.code.relocations r →
      absolute_width machine r.kind ≡ Some width →
      slice_get c.from.object.entries r.symbol ≡ Some entry →
      symbol_address linked c.from entry ≡ Some address →
      Contains places (record { address = c.position + r.offset; width = width })
  pub only : (address byte : ℕ) → byte_at (image ++ ranges_of_codes codes) address ≡ Some byte →
      list_any (covers address) places ≡ true →
      list_any (covers address) (absolute_places machine linked codes) ≡ true
  pub rebased : IsRebased from to places (image ++ ranges_of_codes codes) memory

-- what a move asks of bases: on ARM64, whose instructions count in pages, that they differ by whole
-- pages
abbrev pub ArePaged : MachineType → ℕ → ℕ → Type 0
ArePaged I386 from to = Unit {0}
ArePaged ARMNT from to = Unit {0}
ArePaged AMD64 from to = Unit {0}
ArePaged ARM64 from to = from % 4096 ≡ to % 4096

-- the program is in memory at a base: linked for it, or moved there
abbrev pub AreInMemory : MachineType → ℕ → List Range → List Placed → List LinkedCode →
    (LinkedCode → ℕ → ℕ) →
    List Range → Type 0
AreInMemory machine image_base image linked codes targets memory =
    (AreLinkedBeside machine image_base image linked codes targets
    × (memory ≡ image ++ ranges_of_codes codes))
    ⊎ ((from : ℕ) × ((places : List Place) × (ArePaged machine from image_base
    × AreMoved machine from image_base image linked codes targets places memory)))
