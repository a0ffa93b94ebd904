-- A sequence of items, read one after another.
use Rattle.std.proofs.Common.{◌≡◌, ℕ, zero, suc, ◌<◌, ◌≤◌, List, [], ◌∷◌, length, Option, Some, None, Result, Ok, Err, refl, sym, ap, subst, ◌∙◌, arith}
use Rattle.std.specs.Result.{MatchResult}
use Rattle.implib.specs.Views.TokenReader.{Reader, Refusal, ◌>>=◌, cons_item, many_from, many, all}
use Rattle.implib.specs.Text.Token.{TokenView}

-- what holds of a step and of what goes on from it holds of both
pub bind_outcome : {A B : Type 0} (P : A → Type 0) (Q : Refusal → Type 0) (P' : B → Type 0) (Q' : Refusal → Type 0) (r : Result A Refusal) (f : A → Result B Refusal)
    → MatchResult r P Q → ((x : A) → P x → MatchResult (f x) P' Q') → ((refusal : Refusal) → Q refusal → Q' refusal) → MatchResult (r >>= f) P' Q'
bind_outcome P Q P' Q' (Ok x) f h k m = k x h
bind_outcome P Q P' Q' (Err refusal) f h k m = m refusal h

module _ {A : Type 0} (P : List TokenView → A → List TokenView → Type 0) (N : List TokenView → Type 0) where
  -- items one after another, each standing before what follows it
  abbrev pub Chain : List A → List TokenView → List TokenView → Type 0
  Chain [] tokens rest = tokens ≡ rest
  Chain (x ∷ xs) tokens rest = (mid : List TokenView) × P tokens x mid × Chain xs mid rest

  -- an item was read, or there is none
  abbrev pub ItemRead : List TokenView → Option A × List TokenView → Type 0
  ItemRead tokens (None, rest) = (rest ≡ tokens) × N tokens
  ItemRead tokens (Some x, rest) = P tokens x rest

  -- all items were read, and no other is there
  abbrev pub AllRead : List TokenView → List A × List TokenView → Type 0
  AllRead tokens items = Chain items.0 tokens items.1 × N items.1

  module _ (Q : List TokenView → Refusal → Type 0) where
    -- items, and then one that is refused
    pub record Stopped (tokens : List TokenView) (refusal : Refusal) : Type 0 where
      pub items : List A
      pub mid : List TokenView
      pub chain : Chain items tokens mid
      pub refused : Q mid refusal

    more_outcome : (tokens : List TokenView) (others : List TokenView → Reader (List A)) → ((rest : List TokenView) → length rest < length tokens → MatchResult (others rest) (AllRead rest) (Stopped rest))
        → ((tokens : List TokenView) (x : A) (rest : List TokenView) → P tokens x rest → length rest < length tokens)
        → (found : Option A × List TokenView) → ItemRead tokens found → MatchResult (many_from others found) (AllRead tokens) (Stopped tokens)
    more_outcome tokens others read shorter (None, rest) h = (sym h.0, subst N (sym h.0) h.1)
    more_outcome tokens others read shorter (Some x, rest) h =
        bind_outcome (AllRead rest) (Stopped rest) (AllRead tokens) (Stopped tokens) (others rest) (cons_item x)
        (read rest (shorter tokens x rest h))
        (λ found k. ((rest, h, k.0), k.1))
        (λ refusal k. record { items = x ∷ k.items; mid = k.mid; chain = (rest, h, k.chain); refused = k.refused })

    many_outcome : (item : List TokenView → Reader (Option A)) → ((tokens : List TokenView) → MatchResult (item tokens) (ItemRead tokens) (Q tokens))
        → ((tokens : List TokenView) (x : A) (rest : List TokenView) → P tokens x rest → length rest < length tokens) → N []
        → (n : ℕ) (tokens : List TokenView) → length tokens ≤ n → MatchResult (many item n tokens) (AllRead tokens) (Stopped tokens)
    unfolding many
    many_outcome item outcome shorter none zero [] le = (refl, none)
    many_outcome item outcome shorter none zero (t ∷ tokens) le = absurd (omega arith)
    many_outcome item outcome shorter none (suc n) tokens le =
        bind_outcome (ItemRead tokens) (Q tokens) (AllRead tokens) (Stopped tokens) (item tokens) (many_from (many item n)) (outcome tokens)
        (λ found h. more_outcome tokens (many item n) (λ rest lt. many_outcome item outcome shorter none n rest (omega arith)) shorter found h)
        (λ refusal h. record { items = []; mid = tokens; chain = refl; refused = h })

    -- what holds of each item holds of all
    pub all_outcome : (item : List TokenView → Reader (Option A)) → ((tokens : List TokenView) → MatchResult (item tokens) (ItemRead tokens) (Q tokens))
        → ((tokens : List TokenView) (x : A) (rest : List TokenView) → P tokens x rest → length rest < length tokens) → N []
        → (tokens : List TokenView) → MatchResult (all item tokens) (AllRead tokens) (Stopped tokens)
    all_outcome item outcome shorter none tokens = many_outcome item outcome shorter none (length tokens) tokens (omega arith)

-- ---- what a chain of items gives

pub bind_ok : {A B : Type 0} (r : Result A Refusal) (f : A → Result B Refusal) (x : A) (y : Result B Refusal) → r ≡ Ok x → f x ≡ y → (r >>= f) ≡ y
bind_ok {A} r f x y e h = ap (λ (s : Result A Refusal). s >>= f) e ∙ h

pub bind_err : {A B : Type 0} (r : Result A Refusal) (f : A → Result B Refusal) (refusal : Refusal) → r ≡ Err refusal → (r >>= f) ≡ Err refusal
bind_err {A} r f refusal e = ap (λ (s : Result A Refusal). s >>= f) e

module _ {A : Type 0} (item : List TokenView → Reader (Option A)) where
  -- the item is read, and takes a token
  pub record Takes (tokens : List TokenView) (x : A) (rest : List TokenView) : Type 0 where
    pub read : item tokens ≡ Ok (Some x, rest)
    pub shorter : length rest < length tokens

  -- items are read one after another
  abbrev pub AreRead : List A → List TokenView → List TokenView → Type 0
  AreRead items tokens rest = Chain Takes (λ s. Unit {0}) items tokens rest

  many_again : (items : List A) (n : ℕ) (tokens rest : List TokenView) → length tokens ≤ n → AreRead items tokens rest → item rest ≡ Ok (None, rest) → many item n tokens ≡ Ok (items, rest)
  unfolding many
  many_again [] zero tokens rest le chain none = ap (λ (s : List TokenView). Ok ([], s)) chain
  many_again [] (suc n) tokens rest le chain none = grind (arith, chain, bind_ok)
  many_again (x ∷ items) zero tokens rest le chain none = let lt = chain.1.shorter in absurd (omega arith)
  many_again (x ∷ items) (suc n) tokens rest le chain none = grind (arith, many_again items n chain.0 rest (omega arith) chain.2 none, bind_ok, items)

  many_refused : (items : List A) (n : ℕ) (tokens : List TokenView) (t : TokenView) (rest : List TokenView) (refusal : Refusal) → length tokens ≤ n → AreRead items tokens (t ∷ rest) → item (t ∷ rest) ≡ Err refusal → many item n tokens ≡ Err refusal
  unfolding many
  many_refused [] zero tokens t rest refusal le chain refused = let e = ap length chain in absurd (omega arith)
  many_refused [] (suc n) tokens t rest refusal le chain refused = grind (arith, chain, bind_err, refused)
  many_refused (x ∷ items) zero tokens t rest refusal le chain refused = let lt = chain.1.shorter in absurd (omega arith)
  many_refused (x ∷ items) (suc n) tokens t rest refusal le chain refused = grind (arith, many_refused items n chain.0 t rest refusal (omega arith) chain.2 refused, bind_ok, bind_err, items, refused)

  -- the items that are read, up to where there is none
  pub all_again : (items : List A) (tokens rest : List TokenView) → AreRead items tokens rest → item rest ≡ Ok (None, rest) → all item tokens ≡ Ok (items, rest)
  all_again items tokens rest chain none = many_again items (length tokens) tokens rest (omega arith) chain none

  -- an item that is refused refuses them all
  pub all_refused : (items : List A) (tokens : List TokenView) (t : TokenView) (rest : List TokenView) (refusal : Refusal) → AreRead items tokens (t ∷ rest) → item (t ∷ rest) ≡ Err refusal → all item tokens ≡ Err refusal
  all_refused items tokens t rest refusal chain refused = many_refused items (length tokens) tokens t rest refusal (omega arith) chain refused
