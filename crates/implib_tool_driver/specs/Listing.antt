-- The listing: the text that shows members (this project's layout, docs/FORMATS.md, "The listing").
use Rattle.std.specs.Prelude.{ℕ, Bool, ◌+◌, ◌/◌, ◌%◌, ◌==◌, ◌&&◌, ◌||◌, not, nat_lt, nat_le}
use Rattle.std.specs.Prelude.{if◌then◌else◌, List, [], ◌∷◌, ◌++◌, length, codes, decimal, flat_map}
use Rattle.std.specs.List.{enumerate_from}
use Rattle.implib.specs.Members.MemberSpec.{MemberView}

-- a hexadecimal digit, in lower case
abbrev pub hex_digit : ℕ → ℕ
hex_digit value = if nat_lt value 10 then 48 + value else 87 + value

-- a byte as two hexadecimal digits
abbrev pub hex_byte : ℕ → List ℕ
hex_byte byte = hex_digit (byte / 16) ∷ hex_digit (byte % 16) ∷ []

-- whether a byte of a name is shown as it is: visible ASCII, and no backslash
abbrev pub is_plain : ℕ → Bool
is_plain byte = nat_le 0x21 byte && nat_le byte 0x7E && not (byte == 0x5C)

-- A byte of a name; one that is not plain as a backslash, an `x` and two hexadecimal digits. For
-- example, a space is `\x20`.
abbrev pub escaped_byte : ℕ → List ℕ
escaped_byte byte = if is_plain byte then byte ∷ [] else codes "\\x" ++ hex_byte byte

-- a name
abbrev pub escaped : List ℕ → List ℕ
escaped name = flat_map escaped_byte name

-- what follows the byte of an index: a line end after each sixteenth and after the last one, else a
-- space
abbrev pub after_byte : ℕ → ℕ → ℕ
after_byte count index = if index % 16 == 15 || index + 1 == count then 10 else 32

-- a byte with its index, and what follows it
abbrev pub byte_listing : ℕ → ℕ × ℕ → List ℕ
byte_listing count place = hex_byte place.1 ++ after_byte count place.0 ∷ []

-- bytes, a line for each 16 and one for those left over
abbrev pub bytes_listing : List ℕ → List ℕ
bytes_listing bytes = flat_map (byte_listing (length bytes)) (enumerate_from 0 bytes)

-- the line of an archive symbol
abbrev pub symbol_listing : List ℕ → List ℕ
symbol_listing symbol = codes "symbol " ++ (escaped symbol ++ 10 ∷ [])

-- a member: a line with its name and its length, its archive symbols, its bytes
abbrev pub member_listing : MemberView → List ℕ
member_listing member =
    codes "member " ++ (escaped member.name ++ (32 ∷ (decimal (length member.bytes) ++ (10 ∷
    (flat_map symbol_listing member.symbols ++ bytes_listing member.bytes)))))

-- members, in order
abbrev pub listing_of : List MemberView → List ℕ
listing_of members = flat_map member_listing members
