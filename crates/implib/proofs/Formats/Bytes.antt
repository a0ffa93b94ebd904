-- Numbers as bytes.
use Rattle.std.proofs.Common.{◌≡◌, ℕ, length, refl}
use Rattle.implib.specs.Formats.Bytes.{u32_bytes}

pub length-u32_bytes : (n : ℕ) → length (u32_bytes n) ≡ 4
unfolding u32_bytes
length-u32_bytes n = refl
