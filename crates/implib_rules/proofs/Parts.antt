-- Cutting a name at its separators, one after another.
use Rattle.std.proofs.Common.{◌≡◌, ℕ, suc, ◌+◌, ◌<◌, ◌==◌, Bool, not, cond, List, [], ◌∷◌, ◌++◌, length, drop, sym, ap, ◌∙◌, append-nil, append_assoc, arith, if◌then◌else◌}
use Rattle.std.specs.List.{after_first, fold, position_or_len}
use Rattle.implib_rules.specs.Names.{part_with, part_after_last}

-- the first byte: a separator, or one more of what stands before it
pub after_first_of : (separator : ℕ) (part : List ℕ) (b : ℕ) (name : List ℕ) (is : Bool)
    → (cond (not is) (1 + position_or_len (λ c. c == separator) name) 0 < suc (length name))
    → ((before : List ℕ) → position_or_len (λ c. c == separator) name < length name
    → fold (part_with separator) before name ≡ fold (part_with separator) [] (after_first (λ c. c == separator) name))
    → fold (part_with separator) (if is then [] else part ++ b ∷ []) name
    ≡ fold (part_with separator) [] (drop (cond (not is) (1 + position_or_len (λ c. c == separator) name) 0 + 1) (b ∷ name))
after_first_of separator part b name is below rest = grind arith

-- what stands before a separator is of no account
pub fold_behind : (separator : ℕ) (part name : List ℕ) → position_or_len (λ c. c == separator) name < length name
    → fold (part_with separator) part name ≡ fold (part_with separator) [] (after_first (λ c. c == separator) name)
fold_behind separator part [] below = absurd (omega (arith, below))
fold_behind separator part (b ∷ name) below = cc (after_first_of separator part b name (b == separator) below (λ before. fold_behind separator before name))

-- the first byte of a name without a separator is none
pub whole_first : (separator : ℕ) (part : List ℕ) (b : ℕ) (name : List ℕ) (is : Bool)
    → cond (not is) (1 + position_or_len (λ c. c == separator) name) 0 ≡ suc (length name)
    → ((before : List ℕ) → position_or_len (λ c. c == separator) name ≡ length name
    → fold (part_with separator) before name ≡ before ++ name)
    → fold (part_with separator) (if is then [] else part ++ b ∷ []) name ≡ part ++ b ∷ name
whole_first separator part b name is none rest = grind (arith, append_assoc)

-- a name without a separator stays, after what it has
pub fold_whole : (separator : ℕ) (part name : List ℕ) → position_or_len (λ c. c == separator) name ≡ length name
    → fold (part_with separator) part name ≡ part ++ name
fold_whole separator part [] none = sym (append-nil part)
fold_whole separator part (b ∷ name) none = cc (whole_first separator part b name (b == separator) none (λ before. fold_whole separator before name))

-- the last part of a name with a separator is that of what stands after the first
pub part_after_last_first : (separator : ℕ) (name : List ℕ) → position_or_len (λ c. c == separator) name < length name
    → part_after_last separator name ≡ part_after_last separator (after_first (λ c. c == separator) name)
unfolding part_after_last
part_after_last_first separator name = fold_behind separator [] name

-- a name without a separator is its last part
pub part_after_last_none : (separator : ℕ) (name : List ℕ) → position_or_len (λ c. c == separator) name ≡ length name
    → part_after_last separator name ≡ name
unfolding part_after_last
part_after_last_none separator name = fold_whole separator [] name

-- after its first separator a name has the same last part
pub passed : (separator : ℕ) (name part after : List ℕ) → part_after_last separator name ≡ part_after_last separator part
    → (after ≡ after_first (λ c. c == separator) part) × (position_or_len (λ c. c == separator) part < length part)
    → part_after_last separator name ≡ part_after_last separator after
passed separator name part after before found =
    before ∙ (part_after_last_first separator part found.1 ∙ ap (part_after_last separator) (sym found.0))

-- a name whose last part is that of a part without a separator has this one
pub ended : (separator : ℕ) (name part : List ℕ) → part_after_last separator name ≡ part_after_last separator part
    → position_or_len (λ c. c == separator) part ≡ length part → part ≡ part_after_last separator name
ended separator name part before none = sym (before ∙ part_after_last_none separator part none)
