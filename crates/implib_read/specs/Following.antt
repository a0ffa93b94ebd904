-- Where a relocated field of an object leads: to a section and an offset in it, in the object
-- itself or in one that defines the symbol. Addends and values of symbols count, and no name of a
-- symbol says what it is for.
use Rattle.std.specs.Prelude.{ℕ, ◌+◌, ◌%◌, ◌^◌, ◌==◌, List, [], ◌∷◌, Option, None, Some, bytes_eq}
use Rattle.std.specs.Prelude.{drop, if◌then◌else◌}
use Rattle.std.specs.List.{find}
use Rattle.std.specs.Option.{option_and_then, option_map, option_or}
use Rattle.implib.specs.declared.coff.object.Relocation.{Relocation}
use Rattle.implib.specs.Formats.Object.{Entry, Object, ObjectSection, ObjectSymbol, before_nul}
use Rattle.implib.specs.Formats.Object.{bytes_at, u32_at}
use Rattle.implib.specs.Members.GnuReader.{defines, section_named, section_of_symbol, symbol_at}
use Rattle.implib.specs.Members.GnuReader.{symbol_in}

-- a symbol, and the object that it is of
pub record Place : Type 0 where
  pub object : Object
  pub symbol : ObjectSymbol

-- an offset in a section of an object
pub record Spot : Type 0 where
  pub object : Object
  pub section : ObjectSection
  pub offset : ℕ

-- the place of the symbol that an entry is, where it defines the external of a name
abbrev pub place_by_entry : Object → List ℕ → Entry → Option Place
place_by_entry o name e =
    if defines name e then option_map (λ s. record { object = o; symbol = s }) (symbol_in e)
    else None

-- the first place among entries that define the external of a name
abbrev pub place_among : Object → List ℕ → List Entry → Option Place
place_among o name [] = None
place_among o name (e ∷ es) = option_or (place_by_entry o name e) (place_among o name es)

-- where a symbol of an object is: where it is defined if the object does not define it
abbrev pub resolved : (List ℕ → Option Place) → Object → ObjectSymbol → Option Place
resolved defined o s =
    if s.section == 0 then defined s.name else Some (record { object = o; symbol = s })

-- the spot of a place, an addend further; addresses have 32 bits
abbrev pub spot_of : ℕ → Place → Option Spot
spot_of addend p = option_map
    (λ section. record {
      object = p.object;
      section = section;
      offset = (p.symbol.value + addend) % (2 ^ 32);
    })
    (section_of_symbol p.object p.symbol)

-- the relocation of the field at an offset
abbrev pub relocation_of_field : ℕ → ObjectSection → Option Relocation
relocation_of_field offset section = find (λ r. r.offset == offset) section.relocations

-- where a relocation leads a field of 4 bytes, which holds the addend
unfoldable pub pointed_by : (List ℕ → Option Place) → Spot → Relocation → Option Spot
pointed_by defined at r = option_and_then
    (λ field. option_and_then
    (spot_of (u32_at field 0))
    (option_and_then (resolved defined at.object) (symbol_at at.object r.symbol)))
    (bytes_at at.section.bytes at.offset 4)

-- where the field at a spot leads
unfoldable pub pointed : (List ℕ → Option Place) → Spot → Option Spot
pointed defined at =
    option_and_then (pointed_by defined at) (relocation_of_field at.offset at.section)

-- the text at a spot, ended by a NUL
abbrev pub text_at : Spot → Option (List ℕ)
text_at at = before_nul (drop at.offset at.section.bytes)

-- a spot, if it is in a section of this name
abbrev pub only_in : List ℕ → Spot → Option Spot
only_in name at = if bytes_eq at.section.name name then Some at else None

-- a spot further on
abbrev pub further : ℕ → Spot → Spot
further n at = record at { offset = at.offset + n }

-- the begin of an object's first section of a name
abbrev pub begin_of : List ℕ → Object → Option Spot
begin_of name o = option_map (λ section. record { object = o; section = section; offset = 0 })
    (section_named o name)
