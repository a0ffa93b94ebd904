-- What a reader finds one after another stands without gaps.
use Rattle.std.proofs.Common.{◌≡◌, ℕ, zero, suc, ◌+◌, ◌%◌, ◌≤◌, List, [], ◌∷◌, Some, codes, drop, length, nat_eq, option_and_then, take, refl, sym, ap, ◌∙◌, arith}
use Rattle.std.proofs.lemmas.List.{drop-drop, length-drop, length-take}
use Rattle.std.proofs.lemmas.Slice.Eq.{bytes_eq-Decides}
use Rattle.implib_archive.specs.ReadBack.{AreLaidOut}
use Rattle.implib_archive.specs.Reader.{Stored, data_at, stored_at, stored_from, stored_in}

-- a part at an offset is the first one of what follows
pub stored_there : (bytes : List ℕ) (place : ℕ) → stored_at bytes place ≡ stored_at (drop place bytes) 0
unfolding stored_at data_at
stored_there bytes place = grind (arith, option_and_then, nat_eq, drop-drop 60 place bytes)

-- bytes that belong to the part before are passed over
passed_over : (left : ℕ) (bytes : List ℕ) (parts : List Stored) → stored_from left bytes ≡ Some parts → (left ≤ length bytes) × (stored_from 0 (drop left bytes) ≡ Some parts)
unfolding stored_from
passed_over zero bytes parts found = (omega arith, found)
passed_over (suc left) [] parts found = absurd (cc)
passed_over (suc left) (x ∷ rest) parts found = let more = passed_over left rest parts found in (omega (arith, more.0), more.1)

nothing_left : (bytes : List ℕ) → stored_from 0 bytes ≡ Some [] → bytes ≡ []
unfolding stored_from
nothing_left [] found = refl
nothing_left (x ∷ rest) found = grind (arith, option_and_then)

-- the first part, and those after it
record IsFirst (bytes : List ℕ) (s : Stored) (parts : List Stored) : Type 0 where
  at : stored_at bytes 0 ≡ Some s
  others : stored_from (59 + length s.contents + length s.contents % 2) (drop 1 bytes) ≡ Some parts

first_part : (bytes : List ℕ) (s : Stored) (parts : List Stored) → stored_from 0 bytes ≡ Some (s ∷ parts) → IsFirst bytes s parts
unfolding stored_from
first_part [] s parts found = absurd (cc)
first_part (x ∷ rest) s parts found = grind (arith, option_and_then)

some_left : (bytes : List ℕ) (s : Stored) (parts : List Stored) → stored_from 0 bytes ≡ Some (s ∷ parts) → 1 ≤ length bytes
unfolding stored_from
some_left [] s parts found = absurd (cc)
some_left (x ∷ rest) s parts found = omega arith

-- parts that are found from an offset on are laid out
laid_from : (bytes : List ℕ) (place : ℕ) (parts : List Stored) → place ≤ length bytes → stored_from 0 (drop place bytes) ≡ Some parts → AreLaidOut bytes place parts
unfolding AreLaidOut
laid_from bytes place [] within found = grind (arith, nothing_left (drop place bytes) found, length-drop place bytes)
laid_from bytes place (s ∷ parts) within found =
    let first = first_part (drop place bytes) s parts found in
    let left = 59 + length s.contents + length s.contents % 2 in
    let size = 60 + length s.contents + length s.contents % 2 in
    let behind = drop 1 (drop place bytes) in
    let more = passed_over left behind parts first.others in
    let some : 1 ≤ length (drop place bytes) = some_left (drop place bytes) s parts found in
    let next : place + 1 + left ≡ place + size = omega arith in
    let rest : drop left behind ≡ drop (place + size) bytes = ap (drop left) (drop-drop 1 place bytes) ∙ drop-drop left (place + 1) bytes ∙ ap (λ n. drop n bytes) next in (
      stored_there bytes place ∙ first.at,
      laid_from bytes (place + size) parts (omega (arith, more.0, some, within, length-drop place bytes, length-drop 1 (drop place bytes)))
          (ap (stored_from 0) (sym rest) ∙ more.1),
    )

-- what is found in an archive is laid out after its signature
pub laid_out : (bytes : List ℕ) (parts : List Stored) → stored_in bytes ≡ Some parts → (take 8 bytes ≡ codes "!<arch>\n") × AreLaidOut bytes 8 parts
unfolding stored_in
laid_out bytes parts found = grind (arith, bytes_eq-Decides, length-take, laid_from)
