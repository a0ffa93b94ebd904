-- The offsets of members, and the sizes of what stands before them.
use Rattle.std.proofs.Common.{arith, ◌≡◌, ℕ, ◌+◌, ◌^◌, ◌<◌, ◌≤◌, Bool, true, false, ◌&&◌, List, [], ◌∷◌, ◌++◌, Some, None, drop, get_or, if◌then◌else◌, length, nat_lt, sym, ap, take, ◌∙◌, append-nil, length-append}
use Rattle.std.specs.Borrow.{Bor}
use Rattle.std.specs.List.{list_all}
use Rattle.std.proofs.lemmas.Bool.{le-ltb, lt-ltb}
use Rattle.std.proofs.lemmas.Grind.{flat_map-append}
use Rattle.std.proofs.lemmas.List.{drop_all, drop_more, map-append, take_more}
use Rattle.implib.specs.Members.MemberSpec.{MemberView}
use Rattle.implib_archive.specs.Archive.{end_from, places_from, strings_of}
use Rattle.implib_archive.specs.Parts.{part_size}
use Rattle.implib_archive.specs.Pushed.{shown}
use Rattle.implib_archive.specs.Refusal.{has_short_places, places_refusal}
use Rattle.implib_archive.specs.declared.error.Fault.TheVariants.{ArchiveTooLong}

-- whether offsets are below 2^32
abbrev pub are_short : List ℕ → Bool
are_short places = list_all (λ p. nat_lt p (2 ^ 32)) places

-- the strings of one entry more
pub strings_more : (entries : List (Bor (List ℕ) × ℕ)) (i : ℕ) (d : Bor (List ℕ) × ℕ) → i < length entries
    → length (strings_of (shown (take (i + 1) entries))) ≡ length (strings_of (shown (take i entries))) + (length (get_or entries i d).0.now + 1)
unfolding strings_of
strings_more entries i d within =
    let text = (get_or entries i d).0.now in
    let more = ap (λ t. length (strings_of (shown t))) (take_more entries i d within)
    ∙ ap (λ t. length (strings_of t)) (map-append (λ e. (e.0.now, e.1)) (take i entries) (get_or entries i d ∷ []))
    ∙ ap length (flat_map-append (λ e. e.0 ++ 0 ∷ []) (shown (take i entries)) ((text, (get_or entries i d).1) ∷ []))
    ∙ length-append (strings_of (shown (take i entries))) ((text ++ 0 ∷ []) ++ []) in
    let one : length ((text ++ 0 ∷ []) ++ []) ≡ length text + 1 = ap length (append-nil (text ++ 0 ∷ [])) ∙ length-append text (0 ∷ []) in
    more ∙ ap (λ n. length (strings_of (shown (take i entries))) + n) one

-- the first header is too far
pub first_too_far : (first : ℕ) (members : List MemberView) → 2 ^ 32 ≤ first → places_refusal first members ≡ Some ArchiveTooLong
unfolding places_refusal has_short_places
first_too_far first members far = ap (λ b. if b && are_short (places_from first members) then None else Some ArchiveTooLong) (le-ltb first (2 ^ 32) far)

-- no header is too far
pub none_too_far : (first : ℕ) (members : List MemberView) → first < 2 ^ 32 → are_short (places_from first members) ≡ true → places_refusal first members ≡ None
unfolding places_refusal has_short_places
none_too_far first members near short = grind (arith, lt-ltb)

-- some header is too far
pub some_too_far : (first : ℕ) (members : List MemberView) → first < 2 ^ 32 → are_short (places_from first members) ≡ false → places_refusal first members ≡ Some ArchiveTooLong
unfolding places_refusal has_short_places
some_too_far first members near long = grind (arith, lt-ltb)

-- one member more
module _ (members : List MemberView) (i : ℕ) (d : MemberView) (within : i < length members) (place next : ℕ) (step : next ≡ place + part_size (length (get_or members i d).bytes)) where
  pub places_more : places_from place (drop i members) ≡ place ∷ places_from next (drop (i + 1) members)
  unfolding places_from
  places_more = ap (places_from place) (drop_more members i d within) ∙ ap (λ n. place ∷ places_from n (drop (i + 1) members)) (sym step)

  pub end_more : end_from place (drop i members) ≡ end_from next (drop (i + 1) members)
  unfolding end_from
  end_more = ap (end_from place) (drop_more members i d within) ∙ ap (λ n. end_from n (drop (i + 1) members)) (sym step)

  pub short_more : place < 2 ^ 32 → are_short (places_from place (drop i members)) ≡ are_short (places_from next (drop (i + 1) members))
  short_more near = ap are_short places_more ∙ ap (λ b. b && are_short (places_from next (drop (i + 1) members))) (lt-ltb place (2 ^ 32) near)

  pub long_here : 2 ^ 32 ≤ place → are_short (places_from place (drop i members)) ≡ false
  long_here far = ap are_short places_more ∙ ap (λ b. b && are_short (places_from next (drop (i + 1) members))) (le-ltb place (2 ^ 32) far)

-- no member is left
pub places_all : (members : List MemberView) (i place : ℕ) → length members ≤ i → places_from place (drop i members) ≡ []
unfolding places_from
places_all members i place past = ap (places_from place) (drop_all i members past)

pub end_all : (members : List MemberView) (i place : ℕ) → length members ≤ i → end_from place (drop i members) ≡ place
unfolding end_from
end_all members i place past = ap (end_from place) (drop_all i members past)
