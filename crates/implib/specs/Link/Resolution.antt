-- Resolution: the addresses of the symbols of objects that are placed (PE/COFF specification, "COFF
-- Symbol Table").
use Rattle.std.specs.Prelude.{ℕ, ◌+◌, Bool, ◌&&◌, ◌==◌, List, [], ◌∷◌, bytes_eq, slice_get, Option}
use Rattle.std.specs.Prelude.{Some, None, if◌then◌else◌}
use Rattle.std.specs.List.{filter, filter_map, flat_map}
use Rattle.std.specs.Option.{option_and_then}
use Rattle.implib.specs.Formats.Constants.{class_external, section_undefined}
use Rattle.implib.specs.Formats.File.{is_defined_external}
use Rattle.implib.specs.Formats.Object.{ASymbol, Auxiliary, Entry, ObjectSymbol, section_numbered}
use Rattle.implib.specs.Link.Placement.{At, Unplaced, SectionAddress, Placed}

-- the address of a value in a section with this address
abbrev pub address_at : SectionAddress → ℕ → Option ℕ
address_at Unplaced value = None
address_at (At group address) value = Some (address + value)

-- the address of a value in the section of a number, which counts from 1
abbrev pub address_in : List SectionAddress → ℕ → ℕ → Option ℕ
address_in addresses number value =
    option_and_then (λ address. address_at address value) (section_numbered addresses number)

-- a symbol that an object defines for others, with its address, if its section has one
pub record SymbolDefinition : Type 0 where
  pub name : List ℕ
  pub address : Option ℕ

-- the symbol that an entry defines for others
abbrev pub defined_by_entry : List SectionAddress → Entry → Option SymbolDefinition
defined_by_entry addresses (Auxiliary bytes) = None
defined_by_entry addresses (ASymbol s) =
    if is_defined_external s
    then Some (record { name = s.name; address = address_in addresses s.section s.value })
    else None

-- the symbols that an object defines for others
abbrev pub defined_by : Placed → List SymbolDefinition
defined_by p = filter_map (defined_by_entry p.section_addresses) p.object.entries

-- all that objects define for one another
abbrev pub definitions : List Placed → List SymbolDefinition
definitions linked = flat_map defined_by linked

-- The definitions of a name. For example, of `_head_foo_dll` there is one, at the descriptor of
-- foo.dll.
abbrev pub definitions_of : List ℕ → List Placed → List SymbolDefinition
definitions_of name linked = filter (λ d. bytes_eq name d.name) (definitions linked)

-- the address of the first definition
abbrev pub first_address : List SymbolDefinition → Option ℕ
first_address [] = None
first_address (d ∷ others) = d.address

-- whether a symbol is one of another object
abbrev pub is_undefined_external : ObjectSymbol → Bool
is_undefined_external s = (s.class == class_external) && (s.section == section_undefined)

-- the address of a symbol of an object: of its own sections, or where another object defines it
abbrev pub symbol_address : List Placed → Placed → Entry → Option ℕ
symbol_address linked p (Auxiliary bytes) = None
symbol_address linked p (ASymbol s) =
    if is_undefined_external s
    then first_address (definitions_of s.name linked)
    else address_in p.section_addresses s.section s.value

-- an address, or 0 where there is none
abbrev pub address_or_zero : Option ℕ → ℕ
address_or_zero None = 0
address_or_zero (Some address) = address

-- the address of the symbol of an index of an object, 0 where it has none
abbrev pub target_address : List Placed → Placed → ℕ → ℕ
target_address linked p index =
    address_or_zero (option_and_then (symbol_address linked p) (slice_get p.object.entries index))
