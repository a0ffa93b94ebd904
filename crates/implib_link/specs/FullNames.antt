-- The full names of sections. The header of a section has room for 8 bytes of its name; a longer
-- name is in the string table, and the header has a slash and the digits of its offset there
-- (PE/COFF specification, "Section Table"). Image files have no such names.
use Rattle.std.specs.Prelude.{ℕ, ◌+◌, ◌-◌, ◌*◌, ◌&&◌, ◌==◌, nat_le, List, [], ◌∷◌, drop, Option}
use Rattle.std.specs.Prelude.{Some, None, if◌then◌else◌}
use Rattle.std.specs.Option.{option_and_then, option_map}
use Rattle.implib.specs.Formats.Object.{Object, ObjectSection, before_nul, bytes_at, object_in}
use Rattle.implib.specs.Formats.Object.{strings_at, u32_at, up_to_nul}

abbrev pub slash : ℕ
slash = 0x2F

-- the number of decimal digits that go on after a number
unfoldable pub digits_behind : ℕ → List ℕ → Option ℕ
digits_behind n [] = Some n
digits_behind n (digit ∷ digits) =
    if nat_le 0x30 digit && nat_le digit 0x39 then digits_behind (10 * n + (digit - 0x30)) digits
    else None

-- the number of decimal digits, one at least
unfoldable pub decimal_in : List ℕ → Option ℕ
decimal_in [] = None
decimal_in (digit ∷ digits) = digits_behind 0 (digit ∷ digits)

-- the text at an offset of a string table
abbrev pub text_in : List ℕ → ℕ → Option (List ℕ)
text_in strings offset = before_nul (drop offset strings)

-- the full name of the section whose header has these bytes for it; none, where a slash is in front
-- and no such offset follows
unfoldable pub full_name : Option (List ℕ) → List ℕ → Option (List ℕ)
full_name strings [] = Some []
full_name strings (first ∷ others) =
    if first == slash
    then option_and_then (λ table. option_and_then (text_in table) (decimal_in (up_to_nul others)))
    strings
    else Some (first ∷ others)

-- sections by their full names
unfoldable pub sections_by_full_names : Option (List ℕ) → List ObjectSection →
    Option (List ObjectSection)
sections_by_full_names strings [] = Some []
sections_by_full_names strings (s ∷ sections) =
    option_and_then
    (λ name. option_map
    (λ others. record s { name = name } ∷ others)
    (sections_by_full_names strings sections))
    (full_name strings s.name)

abbrev pub by_full_names : Option (List ℕ) → Object → Option Object
by_full_names strings o =
    option_map (λ sections. record o { sections = sections })
    (sections_by_full_names strings o.sections)

-- the string table of a file, which is after the records of 18 bytes of the symbol table
unfoldable pub strings_of : List ℕ → Option (List ℕ)
strings_of bytes =
    option_and_then
    (λ header. strings_at bytes (u32_at header 8 + 18 * u32_at header 12))
    (bytes_at bytes 0 20)

-- the object in a file's bytes, with the full names of its sections
unfoldable pub object_by_full_names : List ℕ → Option Object
object_by_full_names bytes = option_and_then (by_full_names (strings_of bytes)) (object_in bytes)
