-- Lemmas on the listing.
use Rattle.std.proofs.lemmas.Grind.{common_steps, flat_map-append}
use Rattle.std.proofs.lemmas.List.{map_more, map-append, take_more, take_more_set, take-append-le, length-take-le}
use Rattle.std.proofs.Common.{◌≡◌, ℕ, ◌+◌, ◌-◌, ◌*◌, ◌/◌, ◌%◌, ◌<◌, ◌≤◌, true, List, [], ◌∷◌, ◌++◌, length, take, drop, set, get_or, flat_map, map, take-add, codes, refl, append_assoc, append-nil, take-append-drop, arith, length-drop, slice_range, get_or-drop, min}
use Rattle.std.specs.Prelude.{◌⊎◌}
use Rattle.std.proofs.Math.Seq.{take-append-add}
use Rattle.std.specs.List.{enumerate_from, list_all}
use Rattle.implib_tool_driver.specs.Listing.{byte_listing, bytes_listing, escaped, hex_byte, hex_digit, is_plain}

-- a name of plain bytes is shown unchanged
pub plain_name : (name : List ℕ) → list_all is_plain name ≡ true → escaped name ≡ name
plain_name [] h = refl
plain_name (byte ∷ name) h = grind (arith, plain_name name)

enumerate_from-append : (start : ℕ) (xs ys : List ℕ) → enumerate_from start (xs ++ ys) ≡ enumerate_from start xs ++ enumerate_from (start + length xs) ys
enumerate_from-append start [] ys = grind arith
enumerate_from-append start (x ∷ xs) ys = grind (arith, enumerate_from-append (start + 1) xs ys)

-- one more byte on a line, at three positions of its own
line_more : (f : ℕ × ℕ → List ℕ) (start n : ℕ) (document line : List ℕ) (a b c : ℕ) → n < length document → 3 * n + 3 ≤ length line → f (start + n, get_or document n 0) ≡ a ∷ b ∷ c ∷ []
    → take (3 * n) line ≡ flat_map f (enumerate_from start (take n document))
    → take (3 * (n + 1)) (set (set (set line (3 * n) a) (3 * n + 1) b) (3 * n + 2) c) ≡ flat_map f (enumerate_from start (take (n + 1) document))
line_more f start n document line a b c h room shown before = grind (arith, common_steps, enumerate_from-append, flat_map-append, append-nil)

-- one more line
pub lines_more : (f : ℕ × ℕ → List ℕ) (start end : ℕ) (bytes : List ℕ) → start ≤ end → end ≤ length bytes
    → flat_map f (enumerate_from 0 (take start bytes)) ++ flat_map f (enumerate_from start (slice_range bytes start end)) ≡ flat_map f (enumerate_from 0 (take end bytes))
lines_more f start end bytes order within = grind (arith, length-take-le, take-add start (end - start) bytes, flat_map-append, enumerate_from-append)

-- one more item
pub flat_more : (f : ℕ → List ℕ) (items : List ℕ) (index : ℕ) → index < length items
    → flat_map f (take index items) ++ f (get_or items index 0) ≡ flat_map f (take (index + 1) items)
flat_more f items index within = rw (take_more items index 0 within, flat_map-append, append-nil) refl

-- one more item of which a view is shown
pub mapped_more : {T V : Type 0} (f : V → List ℕ) (view : T → V) (items : List T) (index : ℕ) (item : T) → index < length items → item ≡ get_or items index item
    → flat_map f (map view (take index items)) ++ f (view item) ≡ flat_map f (map view (take (index + 1) items))
mapped_more f view items index item within is = cc (append-nil (f (view item)), flat_map-append f (map view (take index items)) (view item ∷ []), map_more view items index item within, is)

-- some items, and the others
pub mapped_whole : {T V : Type 0} (f : V → List ℕ) (view : T → V) (items : List T) (index : ℕ)
    → flat_map f (map view (take index items)) ++ flat_map f (map view (drop index items)) ≡ flat_map f (map view items)
mapped_whole f view items index = rw (← flat_map-append f (map view (take index items)) (map view (drop index items)), ← map-append view (take index items) (drop index items), take-append-drop) refl

-- the first line of a member, and what follows it
pub head_joined : (name number rest : List ℕ) → (codes "member " ++ (name ++ (32 ∷ (number ++ 10 ∷ [])))) ++ rest ≡ codes "member " ++ (name ++ (32 ∷ (number ++ (10 ∷ rest))))
head_joined name number rest = simp append_assoc

-- a byte and a space
abbrev pub spaced_byte : ℕ × ℕ → List ℕ
spaced_byte place = hex_byte place.1 ++ 32 ∷ []

-- one more byte and its space on the line of those from start on
pub byte_more : (bytes line : List ℕ) (start index x y : ℕ) → start ≤ index → index < length bytes → 3 * (index - start) + 3 ≤ length line
    → x ≡ hex_digit (get_or bytes index 0 / 16) → y ≡ hex_digit (get_or bytes index 0 % 16)
    → take (3 * (index - start)) line ≡ flat_map spaced_byte (enumerate_from start (take (index - start) (drop start bytes)))
    → take (3 * (index + 1 - start)) (set (set (set line (3 * (index - start)) x) (3 * (index - start) + 1) y) (3 * (index - start) + 2) 32)
    ≡ flat_map spaced_byte (enumerate_from start (take (index + 1 - start) (drop start bytes)))
byte_more bytes line start index x y order within room is_x is_y before =
    grind (arith, get_or-drop start bytes (index - start) 0, line_more spaced_byte start (index - start) (drop start bytes) line, length-drop start bytes)

-- the bytes before the last of a line are shown with spaces
front_shown : (count index : ℕ) (front : List ℕ) → index % 16 + length front ≤ 15 → index + length front < count
    → flat_map (byte_listing count) (enumerate_from index front) ≡ flat_map spaced_byte (enumerate_from index front)
front_shown count index [] short more = refl
front_shown count index (byte ∷ front) short more = grind (arith, front_shown count (index + 1) front)

-- a line of 16 bytes shows the same, whatever is before it
same_line : (count start index : ℕ) (bytes : List ℕ) → start % 16 ≡ 0 → index + length bytes ≡ 16 → start + 16 ≤ count
    → flat_map (byte_listing 16) (enumerate_from index bytes) ≡ flat_map (byte_listing count) (enumerate_from (start + index) bytes)
same_line count start index [] first size room = refl
same_line count start index (byte ∷ bytes) first size room = grind (arith, same_line count start (index + 1) bytes first (omega arith) room)

-- a whole line shows its bytes
pub whole_line : (bytes : List ℕ) (start : ℕ) → start % 16 ≡ 0 → start + 16 ≤ length bytes
    → bytes_listing (slice_range bytes start (start + 16)) ≡ flat_map (byte_listing (length bytes)) (enumerate_from start (slice_range bytes start (start + 16)))
whole_line bytes start first room =
    grind (arith, length-take-le (start + 16 - start) (drop start bytes), length-drop start bytes, same_line (length bytes) start 0 (slice_range bytes start (start + 16)) first)

length-spaced : (start : ℕ) (bytes : List ℕ) → length (flat_map spaced_byte (enumerate_from start bytes)) ≡ 3 * length bytes
length-spaced start [] = refl
length-spaced start (byte ∷ bytes) = omega (arith, length-spaced (start + 1) bytes)

-- what one more byte adds
one_added : (f : ℕ × ℕ → List ℕ) (start n last : ℕ) (front : List ℕ) → length front ≡ n
    → flat_map f (enumerate_from start (front ++ last ∷ [])) ≡ flat_map f (enumerate_from start front) ++ f (start + n, last)
one_added f start n last front long = rw (enumerate_from-append, flat_map-append, append-nil, long) refl

-- a line with a space after each byte, its last space made a line end, shows its bytes
pub line_ended : (count start n last : ℕ) (front line : List ℕ) → start % 16 ≡ 0 → length front ≡ n → n < 16 → start + n < count → (n ≡ 15) ⊎ (start + n + 1 ≡ count)
    → 3 * n + 3 ≤ length line → take (3 * n + 3) line ≡ flat_map spaced_byte (enumerate_from start (front ++ last ∷ []))
    → take (3 * n + 3) (set line (3 * n + 2) 10) ≡ flat_map (byte_listing count) (enumerate_from start (front ++ last ∷ []))
line_ended count start n last front line first long few more end room shown =
    let shown_front = flat_map spaced_byte (enumerate_from start front) in
    let cut : take (3 * n + 2) line ≡ shown_front ++ hex_byte last =
    let two = take-append-le (3 * n + 2) (take (3 * n + 3) line) (drop (3 * n + 3) line) in
    let more = take-append-add shown_front (hex_byte last ++ 32 ∷ []) 2 in
    grind (arith, two, more, length-spaced start front, one_added spaced_byte start n last front long, take-append-drop (3 * n + 3) line, length-take-le (3 * n + 3) line room) in
    grind (arith, take_more_set line (3 * n + 2) 10, append_assoc shown_front (hex_byte last) (10 ∷ []), front_shown count start front, one_added (byte_listing count) start n last front long)

-- the line of the bytes from start to end
pub line_shown : (bytes line : List ℕ) (start end : ℕ) → start < end → end ≡ min (start + 16) (length bytes) → start % 16 ≡ 0 → length line ≡ 48
    → take (3 * (end - start)) line ≡ flat_map spaced_byte (enumerate_from start (take (end - start) (drop start bytes)))
    → take (3 * (end - start)) (set line (3 * (end - start) - 1) 10) ≡ flat_map (byte_listing (length bytes)) (enumerate_from start (slice_range bytes start end))
line_shown bytes line start end some whole first room shown =
    let n = end - start - 1 in
    let ended = line_ended (length bytes) start n (get_or (drop start bytes) n 0) (take n (drop start bytes)) line first in
    grind (arith, ended, length-drop start bytes, take_more (drop start bytes) n 0, length-take-le n (drop start bytes))
