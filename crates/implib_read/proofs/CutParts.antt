-- Where an archive is cut off, one part at a time.
use Rattle.std.proofs.Common.{◌≡◌, ℕ, zero, suc, ◌+◌, ◌-◌, ◌%◌, ◌<◌, ◌≤◌, Bool, List, [], ◌∷◌, Option, Some, None, drop, length, nat_le, refl, ap, ◌∙◌, arith}
use Rattle.std.specs.Option.{option_map}
use Rattle.std.proofs.lemmas.Bool.{leb-true}
use Rattle.std.proofs.lemmas.Grind.{common_steps}
use Rattle.implib_archive.specs.Reader.{Stored, stored_at}
use Rattle.implib_read.specs.Archives.{cut_from, cut_or, said}
use Rattle.implib_read.specs.MemberNames.{MemberName}
use Rattle.implib_read.proofs.ArchiveParts.{padded_size}

pub cut_nothing : (offset : ℕ) → cut_from 0 offset [] ≡ None
unfolding cut_from
cut_nothing offset = refl

skipped : (n offset : ℕ) (xs : List ℕ) → n ≤ length xs + 1 → cut_from n offset xs ≡ cut_from 0 (offset + n) (drop n xs)
unfolding cut_from
skipped zero offset xs within = ap (λ o. cut_from 0 o xs) (omega arith)
skipped (suc zero) offset [] within = refl
skipped (suc (suc n)) offset [] within = absurd (omega (arith, within))
skipped (suc n) offset (x ∷ xs) within = skipped n (suc offset) xs (omega (arith, within)) ∙ ap (λ o. cut_from 0 o (drop n xs)) (omega arith)

-- where a named part is cut off, or what follows it
after_named : ℕ → List ℕ → Option (MemberName × List ℕ) → Option ℕ
after_named offset rest None = Some offset
after_named offset rest (Some named) = cut_from (59 + length named.1 + length named.1 % 2) (suc offset) rest

after_stored : (offset : ℕ) (rest : List ℕ) (s : Option Stored)
    → cut_or offset (λ s. cut_from (59 + length s.contents + length s.contents % 2) (suc offset) rest) s
    ≡ after_named offset rest (option_map said s)
unfolding after_named
after_stored offset rest s = grind arith

first_of : (offset : ℕ) (x : ℕ) (rest : List ℕ) → cut_from 0 offset (x ∷ rest) ≡ after_named offset rest (option_map said (stored_at (x ∷ rest) 0))
unfolding cut_from
first_of offset x rest = after_stored offset rest (stored_at (x ∷ rest) 0)

pub cut_stop : (offset : ℕ) (bytes : List ℕ) → 0 < length bytes → option_map said (stored_at bytes 0) ≡ None → cut_from 0 offset bytes ≡ Some offset
unfolding after_named
cut_stop offset [] some none = absurd (omega (arith, some))
cut_stop offset (x ∷ rest) some none = first_of offset x rest ∙ ap (after_named offset rest) none

-- where the next part is, by how much is left
place_behind : (total n : ℕ) (bytes : List ℕ) (within : Bool) → nat_le n (length bytes) ≡ within → length bytes ≤ total
    → cut_from 0 (total - length bytes + n) (drop n bytes) ≡ cut_from 0 (total - length (drop n bytes)) (drop n bytes)
place_behind total n bytes within is whole = grind (arith, leb-true, common_steps, cut_nothing)

-- a part that is whole is passed
pub cut_more : (total : ℕ) (bytes : List ℕ) (name : MemberName) (contents : List ℕ) → 0 < length bytes → length bytes ≤ total
    → option_map said (stored_at bytes 0) ≡ Some (name, contents) → 60 + length contents ≤ length bytes
    → cut_from 0 (total - length bytes) bytes
    ≡ cut_from 0 (total - length (drop (padded_size contents) bytes)) (drop (padded_size contents) bytes)
unfolding after_named
cut_more total [] name contents some whole is within = absurd (omega (arith, some))
cut_more total (x ∷ rest) name contents some whole is within =
    let offset = total - length (x ∷ rest) in
    let n = 59 + length contents + length contents % 2 in
    let one_more : padded_size contents ≡ suc n = omega arith in
    let next : cut_from n (suc offset) rest ≡ cut_from 0 (offset + suc n) (drop (suc n) (x ∷ rest)) = grind (arith, skipped) in
    grind (arith, place_behind, first_of)
