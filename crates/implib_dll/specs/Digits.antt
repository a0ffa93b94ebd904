-- How worked bytes are written.
use Prim.Native.String.{String}
use Rattle.std.specs.Prelude.{ℕ, ◌+◌, ◌-◌, ◌*◌, ◌++◌, nat_lt, List, [], ◌∷◌, codes, drop, take}
use Rattle.std.specs.Prelude.{if◌then◌else◌}

-- the value of a hexadecimal digit, `0` to `9` or `a` to `f`
abbrev pub digit_value : ℕ → ℕ
digit_value digit = if nat_lt digit 0x61 then digit - 0x30 else digit - 0x57

-- the bytes that two digits each say, with a space between each two
unfoldable pub bytes_of_digits : List ℕ → List ℕ
bytes_of_digits [] = []
bytes_of_digits (high ∷ []) = []
bytes_of_digits (high ∷ low ∷ []) = (16 * digit_value high + digit_value low) ∷ []
bytes_of_digits (high ∷ low ∷ space ∷ rest) =
    (16 * digit_value high + digit_value low) ∷ bytes_of_digits rest

-- the bytes of a text, as `hex "4d 5a"`
abbrev pub hex : String → List ℕ
hex text = bytes_of_digits (codes text)

-- bytes with another byte at a place
abbrev pub changed : ℕ → ℕ → List ℕ → List ℕ
changed place byte bytes = take place bytes ++ byte ∷ drop (place + 1) bytes
