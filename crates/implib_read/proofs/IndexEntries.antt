-- The entries of an index, one at a time.
use Rattle.std.proofs.Common.{◌≡◌, ℕ, ◌*◌, ◌-◌, ◌<◌, ◌≤◌, Bool, List, [], ◌∷◌, ◌++◌, Option, Some, None, drop, length, map, ap, arith}
use Rattle.std.proofs.lemmas.Grind.{common_steps}
use Rattle.std.proofs.lemmas.List.{map-append}
use Rattle.std.specs.Option.{option_map}
use Rattle.implib.specs.Formats.Object.{bytes_at, u32_at}
use Rattle.implib.specs.Formats.ShortImport.{text_in}
use Rattle.implib_read.specs.Indexes.{IndexEntry, entries_from, offset_numbered, place_in, place_size}
use Rattle.implib_read.proofs.Gathering.{Gathers, gathers-more}

pub entries_from-stop : (second : Bool) (n : ℕ) (places symbols : List ℕ) → 0 < n → text_in symbols ≡ None → entries_from second n places symbols ≡ None
unfolding entries_from
entries_from-stop second n places symbols some none = grind arith

entries_from-more : (second : Bool) (n : ℕ) (places symbols symbol rest : List ℕ) → 0 < n → text_in symbols ≡ Some (symbol, rest)
    → entries_from second n places symbols
    ≡ option_map (λ entries. record { symbol = symbol; place = place_in second places } ∷ entries) (entries_from second (n - 1) (drop (place_size second) places) rest)
unfolding entries_from
entries_from-more second n places symbols symbol rest some is = grind arith

pub entries_from-end : (second : Bool) (n : ℕ) (places symbols : List ℕ) → n ≡ 0 → entries_from second n places symbols ≡ Some []
unfolding entries_from
entries_from-end second n places symbols none = ap (λ k. entries_from second k places symbols) none

-- the loop goes on: one more entry
pub entry-read : {A : Type 0} (view : A → IndexEntry) (whole : Option (List IndexEntry)) (second : Bool) (n : ℕ) (places later symbols symbol rest : List ℕ) (place : ℕ) (items next : List A) (x : A)
    → next ≡ items ++ x ∷ [] → view x ≡ record { symbol = symbol; place = place } → place ≡ place_in second places → later ≡ drop (place_size second) places
    → 0 < n → text_in symbols ≡ Some (symbol, rest)
    → Gathers whole (map view items) (entries_from second n places symbols) → Gathers whole (map view next) (entries_from second (n - 1) later rest)
entry-read view whole second n places later symbols symbol rest place items next x pushed seen at behind some is so_far = grind (arith, gathers-more, map-append, entries_from-more second n places symbols symbol rest some is)

-- how many bytes of places are left
pub places_left : (second : Bool) (n : ℕ) (places later : List ℕ) → 0 < n → length places ≡ place_size second * n → later ≡ drop (place_size second) places
    → length later ≡ place_size second * (n - 1)
places_left second n places later some long behind = grind (arith, common_steps)

pub enough_places : (second : Bool) (n : ℕ) (places : List ℕ) → 0 < n → length places ≡ place_size second * n → place_size second ≤ length places
enough_places second n places some long = grind arith

pub offset_numbered_at : (offsets : List ℕ) (number : ℕ) → 0 < number → offset_numbered offsets number ≡ option_map (λ offset. u32_at offset 0) (bytes_at offsets (4 * (number - 1)) 4)
offset_numbered_at offsets number some = grind arith
