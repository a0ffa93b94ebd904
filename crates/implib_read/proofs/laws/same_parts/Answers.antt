use Rattle.std.proofs.Common.{◌≡◌, ℕ, zero, suc, ◌+◌, ◌%◌, Bool, true, false, List, [], ◌∷◌, Option, Some, None, bytes_eq, codes, drop, if◌then◌else◌, length, map, take, refl, ap, ◌∙◌}
use Rattle.std.specs.Option.{option_and_then, option_map}
use Rattle.implib_archive.specs.Reader.{Stored, stored_at, stored_from, stored_in}
use Rattle.implib_read.specs.Archives.{Part, part_of, parts_from, parts_in, said, said_by_part}
use Rattle.implib_read.proofs.laws.same_parts.Goals as goal

-- the bytes that a part takes after its first
abbrev behind_first : Stored → ℕ
behind_first s = 59 + length s.contents + length s.contents % 2

one_more : (p : Part) (parts : Option (List Part)) → option_map (map said_by_part) (option_map (λ ps. p ∷ ps) parts) ≡ option_map (λ ps. said_by_part p ∷ ps) (option_map (map said_by_part) parts)
one_more p None = refl
one_more p (Some parts) = refl

with_others : (offset : ℕ) (s : Stored) (others : Option (List Stored)) (found : Option (List Part)) (parts : List Stored)
    → ((more : List Stored) → others ≡ Some more → option_map (map said_by_part) found ≡ Some (map said more))
    → option_map (λ ss. s ∷ ss) others ≡ Some parts
    → option_map (map said_by_part) (option_map (λ ps. part_of offset s ∷ ps) found) ≡ Some (map said parts)
with_others offset s None found parts same is = cc
with_others offset s (Some more) found parts same is =
    let whole : s ∷ more ≡ parts = cc in
    one_more (part_of offset s) found ∙ (ap (option_map (λ ps. said s ∷ ps)) (same more refl) ∙ ap (λ ss. Some (map said ss)) whole)

with_first : (offset : ℕ) (rest : List ℕ) (first : Option Stored) (parts : List Stored)
    → ((s : Stored) (more : List Stored) → stored_from (behind_first s) rest ≡ Some more → option_map (map said_by_part) (parts_from (behind_first s) (suc offset) rest) ≡ Some (map said more))
    → option_and_then (λ s. option_map (λ others. s ∷ others) (stored_from (behind_first s) rest)) first ≡ Some parts
    → option_map (map said_by_part) (option_and_then (λ s. option_map (λ others. part_of offset s ∷ others) (parts_from (behind_first s) (suc offset) rest)) first) ≡ Some (map said parts)
with_first offset rest None parts same is = cc
with_first offset rest (Some s) parts same is =
    with_others offset s (stored_from (behind_first s) rest) (parts_from (behind_first s) (suc offset) rest) parts (same s) is

from : (left offset : ℕ) (bytes : List ℕ) (parts : List Stored) → stored_from left bytes ≡ Some parts → option_map (map said_by_part) (parts_from left offset bytes) ≡ Some (map said parts)
unfolding stored_from parts_from
from zero offset [] parts is = let none : [] ≡ parts = cc in ap (λ ss. Some (map said ss)) none
from (suc left) offset [] parts is = cc
from (suc left) offset (x ∷ rest) parts is = from left (suc offset) rest parts is
from zero offset (x ∷ rest) parts is =
    with_first offset rest (stored_at (x ∷ rest) 0) parts (λ s more found. from (behind_first s) (suc offset) rest more found) is

behind_signature : (bytes : List ℕ) (signed : Bool) (parts : List Stored) → (if signed then stored_from 0 (drop 8 bytes) else None) ≡ Some parts
    → option_map (map said_by_part) (if signed then parts_from 0 8 (drop 8 bytes) else None) ≡ Some (map said parts)
behind_signature bytes false parts is = cc
behind_signature bytes true parts is = from 0 8 (drop 8 bytes) parts is

pub returns : goal.returns
unfolding stored_in parts_in
returns c = λ bytes parts is. behind_signature bytes (bytes_eq (take 8 bytes) (codes "!<arch>\n")) parts is
