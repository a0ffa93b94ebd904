-- The parts of an archive, one at a time.
use Rattle.std.proofs.Common.{◌≡◌, ℕ, zero, suc, ◌+◌, ◌-◌, ◌%◌, ◌<◌, ◌≤◌, Bool, List, [], ◌∷◌, ◌++◌, Option, Some, None, drop, length, map, nat_le, refl, ap, ◌∙◌, arith}
use Rattle.std.specs.Option.{option_and_then, option_map}
use Rattle.std.proofs.lemmas.Bool.{leb-true}
use Rattle.std.proofs.lemmas.Grind.{common_steps}
use Rattle.std.proofs.lemmas.List.{map-append}
use Rattle.implib_archive.specs.Reader.{Stored, stored_at}
use Rattle.implib_read.specs.Archives.{Part, part_of, parts_from, said}
use Rattle.implib_read.specs.MemberNames.{MemberName}
use Rattle.implib_read.proofs.Gathering.{Gathers, gathers-more}

-- the size of a part with its padding
abbrev pub padded_size : List ℕ → ℕ
padded_size contents = 60 + length contents + length contents % 2

pub parts_from-nothing : (offset : ℕ) → parts_from 0 offset [] ≡ Some []
unfolding parts_from
parts_from-nothing offset = refl

skipped : (n offset : ℕ) (xs : List ℕ) → n ≤ length xs + 1 → parts_from n offset xs ≡ parts_from 0 (offset + n) (drop n xs)
unfolding parts_from
skipped zero offset xs within = ap (λ o. parts_from 0 o xs) (omega arith)
skipped (suc zero) offset [] within = refl
skipped (suc (suc n)) offset [] within = absurd (omega (arith, within))
skipped (suc n) offset (x ∷ xs) within = skipped n (suc offset) xs (omega (arith, within)) ∙ ap (λ o. parts_from 0 o (drop n xs)) (omega arith)

-- the part of a name and its data
abbrev part_said : ℕ → MemberName × List ℕ → Part
part_said offset named = record { offset = offset; name = named.0; contents = named.1 }

joined : ℕ → List ℕ → Option (MemberName × List ℕ) → Option (List Part)
joined offset rest None = None
joined offset rest (Some named) = option_map (λ others. part_said offset named ∷ others) (parts_from (59 + length named.1 + length named.1 % 2) (suc offset) rest)

joined-stored : (offset : ℕ) (rest : List ℕ) (s : Option Stored)
    → option_and_then (λ s. option_map (λ others. part_of offset s ∷ others) (parts_from (59 + length s.contents + length s.contents % 2) (suc offset) rest)) s
    ≡ joined offset rest (option_map said s)
unfolding joined
joined-stored offset rest s = grind arith

first_of : (offset : ℕ) (x : ℕ) (rest : List ℕ) → parts_from 0 offset (x ∷ rest) ≡ joined offset rest (option_map said (stored_at (x ∷ rest) 0))
unfolding parts_from
first_of offset x rest = joined-stored offset rest (stored_at (x ∷ rest) 0)

pub parts_from-stop : (offset : ℕ) (bytes : List ℕ) → 0 < length bytes → option_map said (stored_at bytes 0) ≡ None → parts_from 0 offset bytes ≡ None
unfolding joined
parts_from-stop offset [] some none = absurd (omega (arith, some))
parts_from-stop offset (x ∷ rest) some none = first_of offset x rest ∙ ap (joined offset rest) none

-- where the next part is, by how much is left; after a missing padding there is none, wherever that is
place_behind : (total n : ℕ) (bytes : List ℕ) (within : Bool) → nat_le n (length bytes) ≡ within → length bytes ≤ total
    → parts_from 0 (total - length bytes + n) (drop n bytes) ≡ parts_from 0 (total - length (drop n bytes)) (drop n bytes)
place_behind total n bytes within is whole = grind (arith, leb-true, common_steps, parts_from-nothing)

parts_from-more : (total : ℕ) (bytes : List ℕ) (name : MemberName) (contents : List ℕ) → 0 < length bytes → length bytes ≤ total
    → option_map said (stored_at bytes 0) ≡ Some (name, contents) → 60 + length contents ≤ length bytes
    → parts_from 0 (total - length bytes) bytes
    ≡ option_map (λ others. record { offset = total - length bytes; name = name; contents = contents } ∷ others)
    (parts_from 0 (total - length (drop (padded_size contents) bytes)) (drop (padded_size contents) bytes))
unfolding joined
parts_from-more total [] name contents some whole is within = absurd (omega (arith, some))
parts_from-more total (x ∷ rest) name contents some whole is within =
    let offset = total - length (x ∷ rest) in
    let n = 59 + length contents + length contents % 2 in
    let one_more : padded_size contents ≡ suc n = omega arith in
    let next : parts_from n (suc offset) rest ≡ parts_from 0 (offset + suc n) (drop (suc n) (x ∷ rest)) = grind (arith, skipped) in
    grind (arith, place_behind, first_of)

-- the loop goes on: one more part
pub parts-read : {A : Type 0} (view : A → Part) (whole : Option (List Part)) (total : ℕ) (bytes : List ℕ) (name : MemberName) (contents : List ℕ) (items next : List A) (x : A)
    → next ≡ items ++ x ∷ [] → view x ≡ record { offset = total - length bytes; name = name; contents = contents }
    → 0 < length bytes → length bytes ≤ total → option_map said (stored_at bytes 0) ≡ Some (name, contents) → 60 + length contents ≤ length bytes
    → Gathers whole (map view items) (parts_from 0 (total - length bytes) bytes)
    → Gathers whole (map view next) (parts_from 0 (total - length (drop (padded_size contents) bytes)) (drop (padded_size contents) bytes))
parts-read view whole total bytes name contents items next x pushed seen some fits is within so_far = grind (arith, parts_from-more total bytes name contents some fits is within, gathers-more, map-append)
