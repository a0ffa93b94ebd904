-- Which keys of a list have no partner in another list.
use Rattle.std.specs.Prelude.{ℕ, Bool, true, false, not, ◌&&◌, List, [], ◌∷◌, ◌++◌, bytes_eq}
use Rattle.std.specs.Prelude.{nat_le}
use Rattle.std.specs.List.{count_by}
use Rattle.std.specs.HashMap.{HashMap, get_by}
use Rattle.std.specs.Option.{unwrap_or}
use denote.Ref.{Bor}

-- how many of some keys are this one
abbrev pub how_many : List ℕ → List (List ℕ) → ℕ
how_many key keys = count_by (λ k. bytes_eq key k) keys

-- whether there is no byte
abbrev pub has_no_byte : List ℕ → Bool
has_no_byte [] = true
has_no_byte (byte ∷ bytes) = false

-- Whether a key has no partner among others: as many equal ones are before it as the others have.
-- The key of a member that says nothing needs none.
abbrev pub lacks_partner : List (List ℕ) → List ℕ → List (List ℕ) → Bool
lacks_partner before key others =
    not (has_no_byte key) && nat_le (how_many key others) (how_many key before)

-- whether each of these keys has no partner among others, after keys that are before it
abbrev pub lack_partners : List (List ℕ) → List (List ℕ) → List (List ℕ) → List Bool
lack_partners before [] others = []
lack_partners before (key ∷ keys) others =
    lacks_partner before key others ∷ lack_partners (before ++ key ∷ []) keys others

-- how many of a key are noted in a map
abbrev pub counted : {S : Type 0} → HashMap (Bor (List ℕ)) ℕ S → List ℕ → ℕ
counted counts key = unwrap_or (get_by (λ k. bytes_eq key k.now) counts) 0
