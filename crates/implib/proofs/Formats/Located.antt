-- Chunks at positions of some bytes, and how they are read there.
use Rattle.std.proofs.Common.{◌≡◌, ℕ, ◌+◌, true, List, [], ◌∷◌, ◌++◌, Option, Some, length, take, drop, nat_le, refl, sym, ◌∙◌, ap, append_assoc, arith, length-append, le-leb}
use Rattle.std.specs.List.{AllByRecursion, flat_map}
use Rattle.std.proofs.lemmas.List.{append-nil, take_at, drop_at}
use Rattle.implib.specs.Formats.Object.{bytes_at, each_at}

-- the chunk is at the position: so many bytes before it, and others after it
pub record LocatedAt (bytes : List ℕ) (position : ℕ) (chunk : List ℕ) : Type 0 where
  pub front : List ℕ
  pub rest : List ℕ
  pub whole : bytes ≡ front ++ (chunk ++ rest)
  pub begins : length front ≡ position

pub located_whole : (bytes : List ℕ) → LocatedAt bytes 0 bytes
located_whole bytes = record { front = []; rest = []; whole = sym (append-nil bytes); begins = refl }

pub located_first : {bytes : List ℕ} → {position : ℕ} → (x y : List ℕ) → LocatedAt bytes position (x ++ y) → LocatedAt bytes position x
located_first x y s = grind (arith, append_assoc)

pub located_second : {bytes : List ℕ} → {position : ℕ} → (x y : List ℕ) → LocatedAt bytes position (x ++ y) → LocatedAt bytes (position + length x) y
located_second x y s = grind (arith, append_assoc x y s.rest, append_assoc s.front x (y ++ s.rest), length-append s.front x)

-- the same chunk at an equal position
pub located_at : {bytes chunk : List ℕ} → {position : ℕ} → (other : ℕ) → position ≡ other → LocatedAt bytes position chunk → LocatedAt bytes other chunk
located_at {bytes} {chunk} other e s = record { front = s.front; rest = s.rest; whole = s.whole; begins = s.begins ∙ e }

-- the second chunk, at a position that is so many bytes further on
pub located_next : {bytes : List ℕ} → {position : ℕ} → (x y : List ℕ) (width : ℕ) → length x ≡ width → LocatedAt bytes position (x ++ y) → LocatedAt bytes (position + width) y
located_next {bytes} {position} x y width e s = located_at (position + width) (ap (λ n. position + n) e) (located_second x y s)

take_front : (front chunk rest : List ℕ) (position count : ℕ) → length front ≡ position → length chunk ≡ count → take count (drop position (front ++ (chunk ++ rest))) ≡ chunk
take_front front chunk rest position count f p = rw (drop_at front (chunk ++ rest) position f) (take_at chunk rest count p)

within : (front chunk rest : List ℕ) (position count : ℕ) → length front ≡ position → length chunk ≡ count → nat_le (position + count) (length (front ++ (chunk ++ rest))) ≡ true
within front chunk rest position count f p = grind (arith, le-leb, front, rest, length-append)

pub bytes_at-located : {bytes chunk : List ℕ} → {position : ℕ} → (count : ℕ) → length chunk ≡ count → LocatedAt bytes position chunk → bytes_at bytes position count ≡ Some chunk
unfolding bytes_at
bytes_at-located {bytes} {chunk} {position} count e s = grind (arith, within, take_front)

-- chunks of one width, one after another, are read each
pub each_at-located :
    {A : Type 0} (f : A → List ℕ) (read : ℕ → Option A) (width : ℕ) (bytes : List ℕ) (P : A → Type 0)
    → ((x : A) (position : ℕ) → P x → LocatedAt bytes position (f x) → read position ≡ Some x)
    → ((x : A) → P x → length (f x) ≡ width)
    → (xs : List A) (position : ℕ) → AllByRecursion P xs → LocatedAt bytes position (flat_map f xs)
    → each_at read position width (length xs) ≡ Some xs
unfolding each_at
each_at-located f read width bytes P reads long [] position all s = refl
each_at-located f read width bytes P reads long (x ∷ xs) position all s =
    rw (reads x position all.0 (located_first (f x) (flat_map f xs) s), each_at-located f read width bytes P reads long xs (position + width) all.1 (located_next (f x) (flat_map f xs) width (long x all.0) s)) refl
