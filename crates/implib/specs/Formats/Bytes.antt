-- Numbers as bytes: every number of a COFF file is in little-endian order.
use Rattle.std.specs.Prelude.{ℕ, List}
use Rattle.std.specs.Int.{w16, w32, to_le_bytes}

-- the 2 bytes of a 16-bit number, the low one first
unfoldable pub u16_bytes : ℕ → List ℕ
u16_bytes n = to_le_bytes w16 n

-- the 4 bytes of a 32-bit number, the low one first
unfoldable pub u32_bytes : ℕ → List ℕ
u32_bytes n = to_le_bytes w32 n
