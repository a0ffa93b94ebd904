-- The positions of exports, one export at a time.
use Rattle.std.proofs.Common.{◌≡◌, ◌∙◌, ℕ, ◌+◌, ◌<◌, List, [], ◌∷◌, ◌++◌, Option, ap, arith, get_or, length, map, slice_get, sym, take}
use Rattle.std.specs.Option.{option_and_then, option_or}
use Rattle.std.proofs.lemmas.Grind.{common_steps}
use Rattle.std.proofs.lemmas.List.{map-append, take_more}
use Rattle.implib.specs.Definition.{ExportView}
use Rattle.implib.specs.declared.def.position.Position.{Position}
use Rattle.implib_read.proofs.FirstPlaces.{option_or-assoc, option_or-none}
use Rattle.implib_check_driver.specs.Positions.{position_from, position_if}

-- the position of a symbol among one export more
position_from-more : (n : ℕ) (exports : List ExportView) (e : ExportView) (positions : List Position) (s : List ℕ)
    → position_from n (exports ++ e ∷ []) positions s
    ≡ option_or (position_from n exports positions s) (option_and_then (position_if e s) (slice_get positions (n + length exports)))
position_from-more n [] e positions s =
    option_or-none _ ∙ ap (λ k. option_and_then (position_if e s) (slice_get positions k)) (omega arith)
position_from-more n (x ∷ exports) e positions s =
    let here = option_and_then (position_if x s) (slice_get positions n) in
    let others = position_from (n + 1) exports positions s in
    ap (option_or here) (position_from-more (n + 1) exports e positions s)
    ∙ sym (option_or-assoc here others (option_and_then (position_if e s) (slice_get positions (n + 1 + length exports))))
    ∙ ap (λ k. option_or (option_or here others) (option_and_then (position_if e s) (slice_get positions k))) (omega arith)

-- the next export
pub positions_more : {X : Type 0} (view : X → ExportView) (exports : List X) (i : ℕ) (d : X) (positions : List Position) (s : List ℕ)
    (e : ExportView) (found so_far after : Option Position) → i < length exports → e ≡ view (get_or exports i d)
    → found ≡ slice_get positions i → after ≡ option_or so_far (option_and_then (position_if e s) found)
    → so_far ≡ position_from 0 (map view (take i exports)) positions s
    → after ≡ position_from 0 (map view (take (i + 1) exports)) positions s
positions_more view exports i d positions s e found so_far after within same is more was =
    let before = map view (take i exports) in
    let next = view (get_or exports i d) in
    let long : 0 + length before ≡ i = grind (arith, common_steps, within) in
    more
    ∙ ap (λ o. option_or o (option_and_then (position_if e s) found)) was
    ∙ ap (λ x. option_or (position_from 0 before positions s) (option_and_then (position_if x s) found)) same
    ∙ ap (λ f. option_or (position_from 0 before positions s) (option_and_then (position_if next s) f)) is
    ∙ ap (λ k. option_or (position_from 0 before positions s) (option_and_then (position_if next s) (slice_get positions k))) (sym long)
    ∙ sym (position_from-more 0 before next positions s)
    ∙ ap (λ es. position_from 0 es positions s) (sym (ap (map view) (take_more exports i d within) ∙ map-append view (take i exports) (get_or exports i d ∷ [])))
