-- Numbers and texts in bytes. Numbers have their low byte first (PE/COFF specification, "General
-- Concepts").
use Rattle.std.specs.Prelude.{ℕ, ◌+◌, ◌==◌, List, length, take, drop, Option, None, Some, nat_le}
use Rattle.std.specs.Prelude.{position, if◌then◌else◌}
use Rattle.std.specs.Int.{w16, w32, from_le_bytes}
use Rattle.std.specs.Option.{option_map}

-- `count` bytes from an offset on, if they are there
unfoldable pub bytes_at : List ℕ → ℕ → ℕ → Option (List ℕ)
bytes_at bytes offset count =
    if nat_le (offset + count) (length bytes) then Some (take count (drop offset bytes)) else None

-- The number in the two bytes from an offset on. For example, `4d 5a` is 0x5A4D.
unfoldable pub u16_at : List ℕ → ℕ → ℕ
u16_at bytes offset = from_le_bytes w16 (take 2 (drop offset bytes))

-- the number in the four bytes from an offset on
unfoldable pub u32_at : List ℕ → ℕ → ℕ
u32_at bytes offset = from_le_bytes w32 (take 4 (drop offset bytes))

-- the bytes before the first NUL, if there is one
unfoldable pub text_in : List ℕ → Option (List ℕ)
text_in bytes = option_map (λ size. take size bytes) (position (λ byte. byte == 0) bytes)
