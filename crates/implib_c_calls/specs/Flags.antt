-- Flags that C passes in one number.
use Rattle.std.specs.Prelude.{ℕ, ◌==◌, Bool, not, bit_and}

-- whether a flag, which is a power of 2, is set
abbrev pub has_flag : ℕ → ℕ → Bool
has_flag flags flag = not (bit_and flags flag == 0)
