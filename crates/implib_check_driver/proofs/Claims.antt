-- The first claims of symbols, one claim at a time.
use Rattle.std.proofs.Common.{◌≡◌, ◌∙◌, ℕ, ◌+◌, ◌<◌, List, [], ◌∷◌, ◌++◌, Option, None, Some, ap, arith, bytes_eq, get_or, if◌then◌else◌, length, map, sym, take}
use Rattle.std.specs.Option.{option_or}
use Rattle.std.proofs.lemmas.Grind.{common_steps}
use Rattle.std.proofs.lemmas.List.{map-append, take_more}
use Rattle.implib_read.proofs.FirstPlaces.{option_or-assoc, option_or-none}
use Rattle.implib_check_driver.specs.Together.{ClaimView, first_of}

-- the first claim of a symbol among one claim more
first_of-more : (n : ℕ) (claims : List ClaimView) (c : ClaimView) (s : List ℕ)
    → first_of n (claims ++ c ∷ []) s ≡ option_or (first_of n claims s) (if bytes_eq c.symbol s then Some (n + length claims) else None)
first_of-more n [] c s = option_or-none _ ∙ ap (λ k. if bytes_eq c.symbol s then Some k else None) (omega arith)
first_of-more n (x ∷ claims) c s =
    let here = if bytes_eq x.symbol s then Some n else None in
    ap (option_or here) (first_of-more (n + 1) claims c s)
    ∙ sym (option_or-assoc here (first_of (n + 1) claims s) (if bytes_eq c.symbol s then Some (n + 1 + length claims) else None))
    ∙ ap (λ k. option_or (option_or here (first_of (n + 1) claims s)) (if bytes_eq c.symbol s then Some k else None)) (omega arith)

-- the next claim
pub firsts_more : {X : Type 0} (view : X → ClaimView) (claims : List X) (i : ℕ) (d : X) (s symbol : List ℕ) (so_far after : Option ℕ) → i < length claims → symbol ≡ (view (get_or claims i d)).symbol
    → after ≡ option_or so_far (if bytes_eq symbol s then Some i else None) → so_far ≡ first_of 0 (map view (take i claims)) s
    → after ≡ first_of 0 (map view (take (i + 1) claims)) s
firsts_more view claims i d s symbol so_far after within is more was =
    let before = map view (take i claims) in
    let c = view (get_or claims i d) in
    let long : 0 + length before ≡ i = grind (arith, common_steps, within) in
    more
    ∙ ap (λ o. option_or o (if bytes_eq symbol s then Some i else None)) was
    ∙ ap (λ t. option_or (first_of 0 before s) (if bytes_eq t s then Some i else None)) is
    ∙ ap (λ k. option_or (first_of 0 before s) (if bytes_eq c.symbol s then Some k else None)) (sym long)
    ∙ sym (first_of-more 0 before c s)
    ∙ ap (λ cs. first_of 0 cs s) (sym (ap (map view) (take_more claims i d within) ∙ map-append view (take i claims) (get_or claims i d ∷ [])))
