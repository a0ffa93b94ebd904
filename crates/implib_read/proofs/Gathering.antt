-- Loops that gather what a definition by recursion has as a whole, or find that it has nothing.
use Rattle.std.proofs.Common.{◌≡◌, ℕ, ◌+◌, ◌-◌, ◌<◌, List, [], ◌∷◌, ◌++◌, Option, Some, None, map, ap, ◌∙◌, append-nil, append_assoc, arith, get_or, length, take}
use Rattle.std.proofs.lemmas.List.Elements.{filter_map-append}
use Rattle.std.proofs.lemmas.List.{map-append, take_more}
use Rattle.std.specs.List.{cons_option, filter_map}
use Rattle.std.specs.Option.{option_map}
use Rattle.implib.specs.Formats.Object.{each_at}

-- the whole is what has been gathered, and after it what is left
abbrev pub Gathers : {X : Type 0} → Option (List X) → List X → Option (List X) → Type 0
Gathers whole done rest = whole ≡ option_map (λ more. done ++ more) rest

pub gathers-more : {X : Type 0} (whole rest : Option (List X)) (done : List X) (x : X) (later : Option (List X))
    → Gathers whole done rest → rest ≡ option_map (λ xs. x ∷ xs) later → Gathers whole (done ++ x ∷ []) later
gathers-more {X} whole rest done x later so_far step = grind (arith, append_assoc)

pub gathers-none : {X : Type 0} (whole rest : Option (List X)) (done : List X) → Gathers whole done rest → rest ≡ None → whole ≡ None
gathers-none whole rest done so_far none = so_far ∙ ap (option_map (λ more. done ++ more)) none

pub gathers-end : {X : Type 0} (whole rest : Option (List X)) (done : List X) → Gathers whole done rest → rest ≡ Some [] → whole ≡ Some done
gathers-end whole rest done so_far none = so_far ∙ (ap (option_map (λ more. done ++ more)) none ∙ ap Some (append-nil done))

pub each_at-more : {X : Type 0} (read : ℕ → Option X) (place width n : ℕ) (x : X) → 0 < n → read place ≡ Some x
    → each_at read place width n ≡ option_map (λ xs. x ∷ xs) (each_at read (place + width) width (n - 1))
unfolding each_at
each_at-more read place width n x some is = grind arith

pub each_at-stop : {X : Type 0} (read : ℕ → Option X) (place width n : ℕ) → 0 < n → read place ≡ None → each_at read place width n ≡ None
unfolding each_at
each_at-stop read place width n some is = grind arith

pub each_at-end : {X : Type 0} (read : ℕ → Option X) (place width n : ℕ) → n ≡ 0 → each_at read place width n ≡ Some []
unfolding each_at
each_at-end read place width n none = ap (each_at read place width) none

-- the loop goes on: one more of what `read` finds, and what it is seen as
pub gathers-read : {A X : Type 0} (view : A → X) (read : ℕ → Option X) (whole : Option (List X)) (place width n : ℕ) (items next : List A) (x : A)
    → next ≡ items ++ x ∷ [] → 0 < n → read place ≡ Some (view x)
    → Gathers whole (map view items) (each_at read place width n) → Gathers whole (map view next) (each_at read (place + width) width (n - 1))
gathers-read view read whole place width n items next x pushed some is so_far = grind (arith, gathers-more whole (each_at read place width n) (map view items) (view x) (each_at read (place + width) width (n - 1)) so_far (each_at-more read place width n (view x) some is), map-append view items (x ∷ []))

-- a loop over items keeps what a function has of one more of them, or nothing
pub kept-more : {A B C : Type 0} (view : A → B) (f : B → Option C) (items : List A) (i : ℕ) (d : A) (done : List C) (got : Option C) → i < length items
    → f (view (get_or items i d)) ≡ got → done ≡ filter_map f (map view (take i items)) → done ++ cons_option got [] ≡ filter_map f (map view (take (i + 1) items))
kept-more view f items i d done got within is so_far = cc (filter_map-append f (map view (take i items)) (view (get_or items i d) ∷ []), take_more items i d within, map-append view (take i items) (get_or items i d ∷ []))
