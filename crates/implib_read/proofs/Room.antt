-- Room for the names of entries, an entry at a time.
use Rattle.std.proofs.Common.{◌≡◌, ◌∙◌, ℕ, ◌+◌, ◌≤◌, true, false, List, [], ◌∷◌, ◌++◌, Option, Some, None, length, map, refl, ap, sym, append-nil, append_assoc, arith}
use Rattle.std.proofs.lemmas.Bool.{lt-ltb}
use Rattle.std.proofs.lemmas.List.{length-append, map-append}
use Rattle.std.specs.Option.{option_and_then, option_map, option_map_or}
use Rattle.implib.specs.Formats.Object.{Entry}
use Rattle.implib_read.specs.Objects.{have_room, room_after, room_in, within_room}
use Rattle.implib_read.proofs.Gathering.{Gathers}

-- what room there is for entries of which these are done
abbrev pub Leaves : ℕ → List Entry → ℕ → ℕ → Type 0
Leaves most done room number = (more : List Entry) → have_room most 0 (done ++ more) ≡ have_room room number more

left-after : (most room number left : ℕ) (done : List Entry) (e : Entry) → Leaves most done room number → room_after room number e ≡ Some left
    → Leaves most (done ++ e ∷ []) left (number + 1)
left-after most room number left done e so_far there more =
    ap (have_room most 0) (append_assoc done (e ∷ []) more)
    ∙ so_far (e ∷ more)
    ∙ ap (λ o. option_map_or (λ rest. have_room rest (number + 1) more) o false) there

-- the loop goes on: one more entry
pub room-read : {A : Type 0} (view : A → Entry) (most room left : ℕ) (items next : List A) (x : A) → next ≡ items ++ x ∷ []
    → room_after room (length items) (view x) ≡ Some left → Leaves most (map view items) room (length items) → Leaves most (map view next) left (length next)
room-read view most room left items next x pushed there so_far more =
    ap (λ es. have_room most 0 (es ++ more)) (ap (map view) pushed ∙ map-append view items (x ∷ []))
    ∙ left-after most room (length items) left (map view items) (view x) so_far there more
    ∙ ap (λ n. have_room left n more) (sym (ap length pushed ∙ length-append items (x ∷ [])))

-- there is none for one more entry, and so for none of those after it
pub room-lacks : (size room number : ℕ) (done : List Entry) (e : Entry) (whole rest later : Option (List Entry)) → Gathers whole done rest
    → rest ≡ option_map (λ es. e ∷ es) later → room_after room number e ≡ None → Leaves (room_in size) done room number
    → option_and_then (within_room size) whole ≡ None
room-lacks size room number done e whole rest later gathered next lacks so_far = grind arith

-- no entries are left, and there was room for all
pub room-end : (size room number : ℕ) (done : List Entry) (whole : Option (List Entry)) → whole ≡ Some done → Leaves (room_in size) done room number
    → option_and_then (within_room size) whole ≡ Some done
room-end size room number done whole is so_far = rw (is, ← (append-nil done), so_far [])

-- sixteen entries or fewer have room
pub few-have_room : (room number : ℕ) (es : List Entry) → number + length es ≤ 16 → have_room room number es ≡ true
few-have_room room number [] few = refl
few-have_room room number (e ∷ es) few = grind (arith, lt-ltb, few-have_room room (number + 1) es (omega (arith, few)))
