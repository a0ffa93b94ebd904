-- A loop that reads an item at each turn reads what `all` reads.
use Rattle.std.proofs.Common.{◌≡◌, ℕ, zero, suc, ◌<◌, ◌≤◌, Bool, true, false, List, [], length, Option, Some, None, Result, Ok, Err, refl, sym, ap, ◌∙◌, arith}
use Rattle.std.proofs.lemmas.Bool.{false≢true}
use Rattle.std.proofs.lemmas.List.{nil_from_length}
use Rattle.implib.specs.declared.def.parser.read_error.ReadError.{ReadError}
use Rattle.implib.specs.declared.def.parser.read_error.ReadError.TheVariants.{Refused, OutOfMemory}
use Rattle.implib.specs.Views.Parser.{Fails, all_put, one_put, refusal_at}
use Rattle.implib.specs.Views.TokenReader.{◌>>=◌, Reader, Refusal, all, cons_item, many, many_from}
use Rattle.implib.specs.Text.Token.{TokenView}

-- what is still to be read, put to what is there, gives the total
pub record Remains {A S : Type 0} (item : List TokenView → Reader (Option A)) (apply : S → A → S) (tokens : List TokenView) (state : S) (total : Result (S × List TokenView) Refusal) : Type 0 where
  pub fuel : ℕ
  pub enough : length tokens ≤ fuel
  pub same : all_put apply state (many item fuel tokens) ≡ total

module _ {X : Type 0} where
  -- equal answers hold the same
  pub ok_is : {x y : X} → ◌≡◌ {A = Result X Refusal} (Ok x) (Ok y) → x ≡ y
  ok_is e = cc

  pub ok_is_not_err : {x : X} {y : Refusal} → ◌≡◌ {A = Result X Refusal} (Ok x) (Err y) → ⊥
  ok_is_not_err e = absurd cc

  pub err_is : {x y : Refusal} → ◌≡◌ {A = Result X Refusal} (Err x) (Err y) → x ≡ y
  err_is e = cc

module _ {A S : Type 0} (item : List TokenView → Reader (Option A)) (apply : S → A → S) where
  -- where no token is left there is no item
  at_end : (tokens : List TokenView) (state : S) → item [] ≡ Ok (None, []) → length tokens ≤ 0 → (tokens ≡ []) × (one_put apply state (item tokens) ≡ Ok (false, state, []))
  at_end tokens state empty enough = grind (arith, nil_from_length)

  -- at the beginning
  pub remains_all : (tokens : List TokenView) (state : S) → Remains item apply tokens state (all_put apply state (all item tokens))
  remains_all tokens state = record { fuel = length tokens; enough = omega arith; same = refl }

  -- the first item, and then the others
  put_first : (a : A) (state : S) (others : Reader (List A)) → all_put apply state (others >>= cons_item a) ≡ all_put apply (apply state a) others
  put_first a state (Ok x) = refl
  put_first a state (Err refusal) = refl

  -- what one item gives, by whether there was one
  put_some : (n : ℕ) (tokens rest : List TokenView) (state after : S) (read : Reader (Option A)) (total : Result (S × List TokenView) Refusal) → one_put apply state read ≡ Ok (true, after, rest)
      → all_put apply state (read >>= many_from (many item n)) ≡ total → all_put apply after (many item n rest) ≡ total
  put_some n tokens rest state after (Ok (Some a, left)) total e h = grind (arith, ok_is, put_first)
  put_some n tokens rest state after (Ok (None, left)) total e h = absurd (false≢true (ap (λ (x : Bool × S × List TokenView). x.0) (ok_is e)))
  put_some n tokens rest state after (Err refusal) total e h = absurd cc

  put_none : (n : ℕ) (tokens rest : List TokenView) (state after : S) (read : Reader (Option A)) (total : Result (S × List TokenView) Refusal) → one_put apply state read ≡ Ok (false, after, rest)
      → all_put apply state (read >>= many_from (many item n)) ≡ total → total ≡ Ok (after, rest)
  put_none n tokens rest state after (Ok (Some a, left)) total e h = absurd (false≢true (sym (ap (λ (x : Bool × S × List TokenView). x.0) (ok_is e))))
  put_none n tokens rest state after (Ok (None, left)) total e h = sym h ∙ ap (λ (x : Bool × S × List TokenView). Ok (x.1, x.2)) (ok_is e)
  put_none n tokens rest state after (Err refusal) total e h = absurd cc

  put_fails : (n : ℕ) (tokens : List TokenView) (state : S) (refusal : Refusal) (read : Reader (Option A)) (total : Result (S × List TokenView) Refusal) → one_put apply state read ≡ Err refusal
      → all_put apply state (read >>= many_from (many item n)) ≡ total → total ≡ Err refusal
  put_fails n tokens state refusal (Ok (Some a, left)) total e h = absurd cc
  put_fails n tokens state refusal (Ok (None, left)) total e h = absurd cc
  put_fails n tokens state refusal (Err other) total e h = sym h ∙ ap Err (err_is e)

  -- a turn that found an item
  pub remains_more : (tokens rest : List TokenView) (state after : S) (total : Result (S × List TokenView) Refusal) → Remains item apply tokens state total
      → one_put apply state (item tokens) ≡ Ok (true, after, rest) → length rest < length tokens → Remains item apply rest after total
  unfolding many
  remains_more tokens rest state after total remains read shorter = more remains.fuel remains.enough remains.same where
    more : (fuel : ℕ) → length tokens ≤ fuel → all_put apply state (many item fuel tokens) ≡ total → Remains item apply rest after total
    more zero enough same = absurd (omega (arith, enough, shorter))
    more (suc n) enough same = record { fuel = n; enough = omega (arith, enough, shorter); same = put_some n tokens rest state after (item tokens) total read same }

  -- a turn that found none
  pub remains_none : (tokens rest : List TokenView) (state after : S) (total : Result (S × List TokenView) Refusal) → item [] ≡ Ok (None, []) → Remains item apply tokens state total
      → one_put apply state (item tokens) ≡ Ok (false, after, rest) → total ≡ Ok (after, rest)
  unfolding many
  remains_none tokens rest state after total empty remains read = grind (arith, at_end, ok_is, put_none)

  -- a turn that was refused
  pub remains_fails : (tokens : List TokenView) (state : S) (refusal : Refusal) (total : Result (S × List TokenView) Refusal) → item [] ≡ Ok (None, []) → Remains item apply tokens state total
      → one_put apply state (item tokens) ≡ Err refusal → total ≡ Err refusal
  unfolding many
  remains_fails tokens state refusal total empty remains read = grind (arith, ok_is_not_err, at_end, put_fails)

  -- the same, of an error that may be want of memory
  pub remains_err : (tokens : List TokenView) (state : S) (error : ReadError) (total : Result (S × List TokenView) Refusal) → item [] ≡ Ok (None, []) → Remains item apply tokens state total
      → Fails error (one_put apply state (item tokens)) → Fails error total
  remains_err tokens state (Refused fault at) total empty remains read = remains_fails tokens state (refusal_at fault at) total empty remains read
  remains_err tokens state (OutOfMemory refused) total empty remains read = tt
