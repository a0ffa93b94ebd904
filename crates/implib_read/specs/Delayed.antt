-- What an object imports at the first call, for GNU's linker with mingw-w64's helper (`delayimp.h`,
-- "ImgDelayDescr"):
-- found by where its fields lead, whoever made it. GNU dlltool up to 2.44, and winebuild, write the
-- tables into `.idata$4` and `.idata$5`, later dlltools and `implib_delay` into `.didat$4` and
-- `.didat$5`.
use Rattle.std.specs.Prelude.{ℕ, ◌==◌, Bool, false, ◌&&◌, ◌||◌, List, [], ◌∷◌, ◌++◌, Option, None}
use Rattle.std.specs.Prelude.{Some, bytes_eq, codes, is_some, take, if◌then◌else◌}
use Rattle.std.specs.List.{list_any}
use Rattle.std.specs.Option.{option_and_then, option_map, option_or}
use Rattle.implib.specs.Formats.Object.{Entry, ASymbol, Auxiliary, Object}
use Rattle.implib.specs.Import.{Ask, Import}
use Rattle.implib.specs.Members.GnuReader.{externals_in, text_section}
use Rattle.implib_read.specs.Following.{Place, Spot, begin_of, further, only_in, pointed}
use Rattle.implib_read.specs.Following.{relocation_of_field, text_at}
use Rattle.implib_read.specs.Imports.{ask_at}

-- where the field at a spot leads in its own object, with no symbol of another
abbrev pub own_pointed : Spot → Option Spot
own_pointed at = pointed (λ name. None) at

-- the begin of an object's first section of one name, or otherwise of another
abbrev pub begin_of_either : List ℕ → List ℕ → Object → Option Spot
begin_of_either name other o = option_or (begin_of name o) (begin_of other o)

-- the entry of the address table, and the thunk of the name table
abbrev pub entry_of : Object → Option Spot
entry_of o = begin_of_either (codes ".didat$5") (codes ".idata$5") o

abbrev pub thunk_of : Object → Option Spot
thunk_of o = begin_of_either (codes ".didat$4") (codes ".idata$4") o

-- a spot, if it is in a section of code by its name, as `.text` or winebuild's `.text$1`
abbrev pub only_in_code : Spot → Option Spot
only_in_code at = if bytes_eq (take 5 at.section.name) (codes ".text") then Some at else None

-- Where the entry leads before the first call: to code of its own object, that calls the helper.
-- The entry of an import that is not delayed leads to a name, or is an ordinal.
abbrev pub code_of_entry : Spot → Option Spot
code_of_entry entry = option_and_then only_in_code (own_pointed entry)

-- How far into that code the field of its jump is: it takes the entry's address, in 5 bytes on I386
-- (0x14C) and in 7 on AMD64, and the jump to the code that all functions share has one byte before
-- its field.
abbrev pub jump_distance : ℕ → ℕ
jump_distance machine = if machine == 0x14C then 6 else 8

-- whether a field of a descriptor leads to the object's own section of a name
abbrev pub leads_to : ℕ → List ℕ → Spot → Bool
leads_to distance name descriptor =
    is_some (option_and_then (only_in name) (own_pointed (further distance descriptor)))

-- a descriptor, if its address table, at 12, and its name table, at 16, are those of its own object
abbrev pub only_of_own_tables : Spot → Option Spot
only_of_own_tables descriptor =
    if leads_to 12 (codes ".didat$5") descriptor && leads_to 16 (codes ".didat$4") descriptor
    then Some descriptor
    else None

-- the descriptor that an object has for itself
abbrev pub own_descriptor : Object → Option Spot
own_descriptor o = option_and_then only_of_own_tables (begin_of (codes ".didat$2") o)

-- the descriptor that an object's `.idata$7` leads to, as in winebuild's libraries
abbrev pub descriptor_by_field : (List ℕ → Option Place) → Object → Option Spot
descriptor_by_field defined o = option_and_then (pointed defined) (begin_of (codes ".idata$7") o)

-- the descriptor in the object that has the code to which the code at a spot jumps
abbrev pub descriptor_by_code : (List ℕ → Option Place) → Object → Spot → Option Spot
descriptor_by_code defined o code = option_and_then
    (λ shared. begin_of_either (codes ".didat$2") (codes ".text$2" ++ 0 ∷ []) shared.object)
    (pointed defined (further (jump_distance o.machine) code))

-- the descriptor of an object: its own, that to which it leads, or that of the code that it shares
unfoldable pub delayed_descriptor : (List ℕ → Option Place) → Object → Spot → Option Spot
delayed_descriptor defined o code =
    option_or (own_descriptor o)
    (option_or (descriptor_by_field defined o) (descriptor_by_code defined o code))

-- the DLL: at 4 the descriptor leads to its name
unfoldable pub delayed_dll : (List ℕ → Option Place) → Object → Spot → Option (List ℕ)
delayed_dll defined o code = option_and_then text_at
    (option_and_then (λ descriptor. pointed defined (further 4 descriptor))
    (delayed_descriptor defined o code))

-- what is asked of it, by the thunk
unfoldable pub delayed_ask : (List ℕ → Option Place) → Object → Option Ask
delayed_ask defined o =
    option_and_then (λ at. ask_at defined at (relocation_of_field 0 at.section)) (thunk_of o)

-- the import from a DLL: its symbols are those of the entry, and then those of the code
abbrev pub delayed_from : Object → Spot → List ℕ → Ask → Import
delayed_from o entry dll ask = record {
  dll = dll;
  declared = externals_in o entry.section.name ++ externals_in o text_section;
  ask = ask;
}

-- the import with this entry, whose code is at a spot
unfoldable pub delayed_with : (List ℕ → Option Place) → Object → Spot → Spot → Option Import
delayed_with defined o entry code = option_and_then
    (λ dll. option_map (delayed_from o entry dll) (delayed_ask defined o))
    (delayed_dll defined o code)

-- The import that an object is, if it is a delayed one. For example, the object of bar in foo.dll
-- declares `__imp_bar` and `bar`, and asks for the name bar with the hint 0.
unfoldable pub delayed_import : (List ℕ → Option Place) → Object → Option Import
delayed_import defined o = option_and_then
    (λ entry. option_and_then (delayed_with defined o entry) (code_of_entry entry))
    (entry_of o)

-- whether a name is that of the helper, which on I386 drops its 8 bytes of arguments
abbrev pub is_helper : List ℕ → Bool
is_helper name =
    bytes_eq name (codes "__delayLoadHelper2") || bytes_eq name (codes "___delayLoadHelper2@8")

-- whether an entry wants the helper: an external of that name that the object does not define
abbrev pub wants_helper : Entry → Bool
wants_helper (Auxiliary bytes) = false
wants_helper (ASymbol s) = s.class == 2 && s.section == 0 && is_helper s.name

-- whether an object calls the helper, as the head of delayed imports does, which has the code that
-- they share
abbrev pub calls_helper : Object → Bool
calls_helper o = list_any wants_helper o.entries
