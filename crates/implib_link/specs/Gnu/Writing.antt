-- The loaded program: a loader walks the import directory and writes into each address table what
-- the DLL gives for each ask.
use Rattle.std.specs.Prelude.{◌≡◌, ℕ, ◌+◌, List, [], ◌∷◌, ◌++◌, Some, zero, suc, ◌<◌}
use Rattle.implib.specs.Link.Image.{Range, byte_at}
use Rattle.implib.specs.Import.{Ask}
use Rattle.implib.specs.Link.Load.{BytesAt, NumberAt, TextAt, ThunkAt}
use Rattle.implib.specs.Link.Placement.{Placed}
use Rattle.implib.specs.Link.Resolution.{definitions_of}
use Rattle.implib_link.specs.Directory.{Imported, FindsBy, StopsAt}

-- what is written into an address table: the bytes given for each ask, an entry further on each
unfoldable pub entries_written : ℕ → ℕ → (Ask → List ℕ) → List Ask → List Range
entries_written width address gives [] = []
entries_written width address gives (ask ∷ asks) =
    record { start = address; bytes = gives ask }
    ∷ entries_written width (address + width) gives asks

-- What a loader writes that walks a directory from an address on: for each DLL its entries, from
-- the address that the descriptor has at 16. A DLL gives bytes for each ask, say the address of a
-- function.
unfoldable pub Writes : List Range → ℕ → (List ℕ → Ask → List ℕ) → ℕ → List Imported → List Range →
    Type 0
Writes image width gives address [] written = written ≡ []
Writes image width gives address (i ∷ others) written =
    (table : ℕ) × (NumberAt image 4 (address + 16) table × ((behind : List Range) ×
    ((written ≡ entries_written width table (gives i.dll) i.asks ++ behind)
    × Writes image width gives (address + 20) others behind)))

-- at the only definition of a symbol are these bytes
pub record HoldsAt (image : List Range) (linked : List Placed) (name : List ℕ)
    (bytes : List ℕ) : Type 0 where
  pub address : ℕ
  pub once : definitions_of name linked ≡ record { name = name; address = Some address } ∷ []
  pub located : BytesAt image address bytes

-- A loader that knows nothing but the image: it walks the import directory from an address on,
-- reads what it finds there, and writes into the address tables what the DLLs give for it.

-- What such a loader writes that goes on at this many descriptors from an address on, and stops at
-- the next one (PE/COFF specification, "Import Directory Table", "Import Address Table"). At each
-- descriptor it reads the DLL's name, by either table the asks, thunk by thunk, and the address of
-- the address table; there it writes what the DLL gives for each ask.
unfoldable pub ReadsAndWrites : List Range → ℕ → (List ℕ → Ask → List ℕ) → ℕ → ℕ → List Range →
    Type 0
ReadsAndWrites image width gives zero address written = StopsAt image address × (written ≡ [])
ReadsAndWrites image width gives (suc n) address written =
    (found : Imported) × ((step : FindsBy image width address found) × ((behind : List Range)
    × ((written ≡ entries_written width step.addresses (gives found.dll) found.asks ++ behind)
    × ReadsAndWrites image width gives n (address + 20) behind)))

-- A loader that writes as it goes: each of its reads sees what it has written before. Its memory is
-- a list of ranges of which the first counts, and what it writes comes in front.

-- One table: at each thunk, one after another, the loader reads what it asks for and writes what
-- the DLL gives for it at the next entry of the address table, before it reads the next thunk; it
-- ends at a thunk of 0.
unfoldable pub FillsTable : ℕ → (Ask → List ℕ) → ℕ → ℕ → List Range → List Ask → List Range → Type 0
FillsTable width gives thunk entry memory [] after =
    NumberAt memory width thunk 0 × (after ≡ memory)
FillsTable width gives thunk entry memory (ask ∷ asks) after =
    ThunkAt memory width thunk ask
    × FillsTable width gives (thunk + width) (entry + width)
    (record { start = entry; bytes = gives ask } ∷ memory) asks after

-- One descriptor by which the loader goes on: it reads the name of the DLL, the address of the
-- address table and that of the lookup table, neither name nor address table at 0, and fills the
-- address table.
pub record FillsBy (width : ℕ) (gives : List ℕ → Ask → List ℕ) (descriptor : ℕ)
    (memory : List Range) (found : Imported) (after : List Range) : Type 0 where
  pub name : ℕ
  pub name_field : NumberAt memory 4 (descriptor + 12) name
  pub has_name : 0 < name
  pub name_text : TextAt memory name found.dll
  pub addresses : ℕ
  pub addresses_field : NumberAt memory 4 (descriptor + 16) addresses
  pub has_addresses : 0 < addresses
  pub lookups : ℕ
  pub lookups_field : NumberAt memory 4 descriptor lookups
  pub fills : FillsTable width (gives found.dll) lookups addresses memory found.asks after

-- A loader from a descriptor on: by these it goes on, one after another, and at the next it stops
-- (PE/COFF specification, "Import Directory Table", "Import Address Table"). What it found, in its
-- order, and the memory that it leaves.
unfoldable pub WritesAsItGoes : ℕ → (List ℕ → Ask → List ℕ) → ℕ → List Range → List Imported →
    List Range → Type 0
WritesAsItGoes width gives descriptor memory [] after = StopsAt memory descriptor × (after ≡ memory)
WritesAsItGoes width gives descriptor memory (found ∷ others) after =
    (between : List Range) × (FillsBy width gives descriptor memory found between
    × WritesAsItGoes width gives (descriptor + 20) between others after)

-- each address has the same byte in both, or none in either
abbrev pub AreAlike : List Range → List Range → Type 0
AreAlike first second = (address : ℕ) → byte_at first address ≡ byte_at second address
