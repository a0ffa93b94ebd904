-- The import directory of an image (PE/COFF specification, "Import Directory Table"): a descriptor
-- for each DLL, one after another, and the null descriptor.
use Rattle.std.specs.Prelude.{ℕ, ◌+◌, ◌<◌, ◌⊎◌, List, [], ◌∷◌, map}
use Rattle.implib.specs.declared.machine.MachineType.{MachineType}
use Rattle.implib.specs.Link.Image.{Range}
use Rattle.implib.specs.Import.{Ask, expected_ask}
use Rattle.implib.specs.Link.LinkedMembers.{LinkInput, chosen_exports}
use Rattle.implib.specs.Link.Load.{BytesAt, LoadsStrictly, NumberAt, TableAt, TextAt}
use Rattle.implib.specs.Members.ImportTables.{zeros}

-- a DLL, and all that is asked of it
pub record Imported : Type 0 where
  pub dll : List ℕ
  pub asks : List Ask

-- what a program imports by the chosen exports of a definition
abbrev pub imported : MachineType → LinkInput → Imported
imported machine p = record {
  dll = p.definition.import_name;
  asks = map (expected_ask machine) (chosen_exports p.definition p.chosen);
}

-- At an address is a directory of exactly these imports, in this order, each by a descriptor that a
-- strict loader takes; 20 zero bytes end it.
unfoldable pub DirectoryAt : List Range → ℕ → ℕ → List Imported → Type 0
DirectoryAt image width address [] = BytesAt image address (zeros 20)
DirectoryAt image width address (i ∷ others) =
    LoadsStrictly image width address i.dll i.asks × DirectoryAt image width (address + 20) others

-- A descriptor by which a loader goes on: the addresses of its name and of its address table are
-- not 0. Of the two tables the loader reads one, whichever it likes: that of the field at 0, or
-- that of the field at 16.
pub record FindsBy (image : List Range) (width : ℕ) (address : ℕ) (i : Imported) : Type 0 where
  pub name : ℕ
  pub name_field : NumberAt image 4 (address + 12) name
  pub has_name : 0 < name
  pub name_text : TextAt image name i.dll
  pub addresses : ℕ
  pub addresses_field : NumberAt image 4 (address + 16) addresses
  pub has_addresses : 0 < addresses
  pub table : ℕ
  pub table_field : NumberAt image 4 address table ⊎ NumberAt image 4 (address + 16) table
  pub thunks : TableAt image width table i.asks

-- a descriptor at which a loader stops: the address of its name or of its address table is 0
abbrev pub StopsAt : List Range → ℕ → Type 0
StopsAt image address = NumberAt image 4 (address + 12) 0 ⊎ NumberAt image 4 (address + 16) 0

-- what a loader finds that walks from an address on and is strict about nothing
unfoldable pub WalkFinds : List Range → ℕ → ℕ → List Imported → Type 0
WalkFinds image width address [] = StopsAt image address
WalkFinds image width address (i ∷ others) =
    FindsBy image width address i × WalkFinds image width (address + 20) others
