-- What an object imports, for GNU's linker: found by where its fields lead (docs/FORMATS.md,
-- "Reading an export's object"), whoever made it.
use Rattle.std.specs.Prelude.{ℕ, List, Option, None, Some, codes, length, nat_le, if◌then◌else◌}
use Rattle.std.specs.Option.{option_and_then, option_map}
use Rattle.implib.specs.declared.coff.object.Relocation.{Relocation}
use Rattle.implib.specs.Formats.Object.{Object, bytes_at, u16_at}
use Rattle.implib.specs.Import.{Ask, Name, Import}
use Rattle.implib.specs.Members.GnuReader.{ask_by_ordinal, import_from}
use Rattle.implib_read.specs.Following.{Place, Spot, begin_of, further, only_in, pointed}
use Rattle.implib_read.specs.Following.{pointed_by, relocation_of_field, text_at}

-- the descriptor that an object's `.idata$7` leads to, in `.idata$2`
abbrev pub descriptor_of : (List ℕ → Option Place) → Object → Option Spot
descriptor_of defined o =
    option_and_then (only_in (codes ".idata$2"))
    (option_and_then (pointed defined) (begin_of (codes ".idata$7") o))

-- The DLL of an object: its `.idata$7` leads to a descriptor in `.idata$2`, and that, at 12, to the
-- DLL's name (PE/COFF specification, "Import Directory Table").
unfoldable pub dll_of_object : (List ℕ → Option Place) → Object → Option (List ℕ)
dll_of_object defined o =
    let dll_name : Option Spot =
    option_and_then (λ at. pointed defined (further 12 at)) (descriptor_of defined o) in
    option_and_then text_at dll_name

-- the hint and the name at a spot
abbrev pub hint_and_name : Spot → Option Ask
hint_and_name at = option_and_then
    (λ hint. option_map (λ name. Name name (u16_at hint 0)) (text_at (further 2 at)))
    (bytes_at at.section.bytes at.offset 2)

-- the ordinal in a thunk of 4 or 8 bytes, where its top bit is set
abbrev pub ordinal_in : List ℕ → Option Ask
ordinal_in thunk = if nat_le 4 (length thunk) then ask_by_ordinal thunk else None

-- what the entry of an address table asks for: where it is relocated, by the hint and the name that
-- it leads to
abbrev pub ask_at : (List ℕ → Option Place) → Spot → Option Relocation → Option Ask
ask_at defined at None = ordinal_in at.section.bytes
ask_at defined at (Some r) = option_and_then hint_and_name (pointed_by defined at r)

-- what an object asks for, by its `.idata$5`
unfoldable pub ask_of_object : (List ℕ → Option Place) → Object → Option Ask
ask_of_object defined o =
    option_and_then (λ at. ask_at defined at (relocation_of_field 0 at.section))
    (begin_of (codes ".idata$5") o)

-- The import that an object is. For example, the object of bar in foo.dll declares `__imp_bar` and
-- `bar`, and asks for the name bar with the hint 0.
unfoldable pub import_of_object : (List ℕ → Option Place) → Object → Option Import
import_of_object defined o =
    option_and_then (λ dll. option_map (import_from o dll) (ask_of_object defined o))
    (dll_of_object defined o)
