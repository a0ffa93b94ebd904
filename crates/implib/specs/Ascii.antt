-- Characters of names, as their codes in ASCII, whether a text holds one, and whether it begins
-- with one.
use Rattle.std.specs.Prelude.{ℕ, Bool, false, ◌==◌, List, [], ◌∷◌}
use Rattle.std.specs.List.{list_any}

-- `@`
abbrev pub at_sign : ℕ
at_sign = 0x40

-- a line feed, which ends a line
abbrev pub line_feed : ℕ
line_feed = 0x0A

-- `.`
abbrev pub full_stop : ℕ
full_stop = 0x2E

-- `?`
abbrev pub question_mark : ℕ
question_mark = 0x3F

-- `_`
abbrev pub underscore : ℕ
underscore = 0x5F

-- whether a text holds this byte
abbrev pub holds : ℕ → List ℕ → Bool
holds byte text = list_any (λ b. b == byte) text

-- the text begins with a byte that passes the test
abbrev pub begins : (ℕ → Bool) → List ℕ → Bool
begins test [] = false
begins test (b ∷ rest) = test b

-- whether a name begins with this byte
abbrev pub begins_with : ℕ → List ℕ → Bool
begins_with byte name = begins (λ b. b == byte) name

-- a name without its first byte
abbrev pub without_first : List ℕ → List ℕ
without_first [] = []
without_first (first ∷ rest) = rest
