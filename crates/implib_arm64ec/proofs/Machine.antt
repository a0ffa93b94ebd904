-- Short imports with another machine's number written over theirs.
use Rattle.std.proofs.Common.{◌≡◌, ℕ, ◌≤◌, List, length, set, refl, ap, arith}
use Rattle.implib.specs.Formats.Bytes.{u16_bytes, u32_bytes}
use Rattle.implib.specs.Formats.ShortImport.{ShortImport}
use Rattle.implib.specs.Members.Msvc.{short_import_bytes}
use Rattle.implib.proofs.Members.ShortImport.{length-short_import_bytes}

-- the number is at 6, the low byte first
pub machine_written : (r : ShortImport) → set (set (short_import_bytes r) 6 0x41) 7 0xA6 ≡ short_import_bytes (record r { machine = 0xA641 })
unfolding u16_bytes u32_bytes
machine_written r = refl

pub has_machine : (bytes : List ℕ) (r : ShortImport) → bytes ≡ short_import_bytes r → 8 ≤ length bytes
has_machine bytes r e = omega (arith, length-short_import_bytes r, ap length e)
