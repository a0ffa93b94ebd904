-- Numbers as texts (docs/GRAMMAR.md, "Tokens").
use Rattle.std.specs.Prelude.{◌≡◌, ℕ, ◌<◌, ◌≤◌, ◌⊎◌, List, ◌∷◌, length, IsTrue}
use Rattle.std.specs.Str.{all_ascii_digits}
use Rattle.std.specs.Str.Parse.{digits_value}

-- the greatest numbers of 16, 32 and 64 bits
abbrev pub u16_limit : ℕ
u16_limit = 0xFFFF

abbrev pub u32_limit : ℕ
u32_limit = 0xFFFFFFFF

abbrev pub u64_limit : ℕ
u64_limit = 0xFFFFFFFFFFFFFFFF

-- `+` in ASCII
abbrev pub plus_sign : ℕ
plus_sign = 43

-- number = [ "+" ] digit { digit }
-- The value is a number in ASCII digits, in base ten, with the value n, which is at most limit;
-- leading zeros are allowed. For example, `+0007` is 7, and neither `+` nor `-1` is a number.
pub record IsNumber (value : List ℕ) (limit n : ℕ) : Type 0 where
  pub digits : List ℕ
  pub text_is : (value ≡ digits) ⊎ (value ≡ plus_sign ∷ digits)
  pub all_digits : IsTrue (all_ascii_digits digits)
  pub some_digit : 0 < length digits
  pub written : n ≡ digits_value 10 digits
  pub within : n ≤ limit
