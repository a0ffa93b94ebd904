-- Token lists that begin with what is wanted.
use Rattle.std.proofs.Common.{◌≡◌, ◌≢◌, ◌<◌, ◌≤◌, inl, inr, List, [], ◌∷◌, ◌++◌, length, refl, sym, subst, ◌∙◌, arith}
use Rattle.std.specs.List.{AllByRecursion}
use Rattle.implib.specs.declared.def.lexer.TokenKind.{TokenKind}
use Rattle.implib.specs.declared.def.lexer.TokenKind.TheVariants.{Eof, Identifier, KwName, KwLibrary}
use Rattle.implib.specs.Fault.{Cause}
use Rattle.implib.specs.Text.Grammar.{Terminal, Of, NameOrLibrary, Word, Number, Numbers, Target, Later, At, Ordinal, Matches, StartsWith}
use Rattle.implib.specs.Text.SyntaxError.{IsNoneOf}
use Rattle.implib.specs.Views.TokenReader.{Refusal}
use Rattle.implib.specs.Text.Token.{TokenView, EndsInEof}
use Rattle.implib.proofs.Text.TokenKinds.{not_at}

pub StartsWith-append : (tokens : List TokenView) (a b : List Terminal) (mid rest : List TokenView) → StartsWith tokens a mid → StartsWith mid b rest → StartsWith tokens (a ++ b) rest
StartsWith-append tokens [] b mid rest h k = rw h k
StartsWith-append [] (w ∷ a) b mid rest h k = absurd h
StartsWith-append (t ∷ tokens) (w ∷ a) b mid rest h k = (h.0, StartsWith-append tokens a b mid rest h.1 k)

-- where the terminals of one part end and those of the other begin
pub record Parted (tokens : List TokenView) (a b : List Terminal) (rest : List TokenView) : Type 0 where
  pub mid : List TokenView
  pub front : StartsWith tokens a mid
  pub back : StartsWith mid b rest

pub StartsWith-parted : (tokens : List TokenView) (a b : List Terminal) (rest : List TokenView) → StartsWith tokens (a ++ b) rest → Parted tokens a b rest
StartsWith-parted tokens [] b rest h = record { mid = tokens; front = refl; back = h }
StartsWith-parted [] (w ∷ a) b rest h = absurd h
StartsWith-parted (t ∷ tokens) (w ∷ a) b rest h = grind (arith, StartsWith-parted tokens a b rest h.1)

StartsWith-length-le : (tokens : List TokenView) (a : List Terminal) (rest : List TokenView) → StartsWith tokens a rest → length rest ≤ length tokens
StartsWith-length-le tokens [] rest h = rw h (omega arith)
StartsWith-length-le [] (w ∷ a) rest h = absurd h
StartsWith-length-le (t ∷ tokens) (w ∷ a) rest h = let le = StartsWith-length-le tokens a rest h.1 in omega arith

-- what is wanted takes a token
pub StartsWith-shorter : (tokens : List TokenView) (a : List Terminal) (rest : List TokenView) → 0 < length a → StartsWith tokens a rest → length rest < length tokens
StartsWith-shorter tokens [] rest some h = absurd (omega arith)
StartsWith-shorter [] (w ∷ a) rest some h = absurd h
StartsWith-shorter (t ∷ tokens) (w ∷ a) rest some h = let le = StartsWith-length-le tokens a rest h.1 in omega arith

-- ---- the end of the text

-- what is wanted is not the end of the text
abbrev pub WantsNoEof : Terminal → Type 0
WantsNoEof (Of kind) = kind ≢ Eof
WantsNoEof _ = Unit {0}

pub Matches-not_eof : (w : Terminal) (t : TokenView) → WantsNoEof w → Matches w t → t.kind ≢ Eof
Matches-not_eof (Of kind) t other h = λ e. other (sym h ∙ e)
Matches-not_eof NameOrLibrary t other (inl h) = not_at t.kind KwName Eof h refl
Matches-not_eof NameOrLibrary t other (inr h) = not_at t.kind KwLibrary Eof h refl
Matches-not_eof (Word value) t other h = not_at t.kind Identifier Eof h.kind refl
Matches-not_eof (Number n) t other h = not_at t.kind Identifier Eof h.0 refl
Matches-not_eof (Numbers major minor) t other h = not_at t.kind Identifier Eof h.0 refl
Matches-not_eof (Target value) t other h = not_at t.kind Identifier Eof h.0.kind refl
Matches-not_eof (Later value) t other h = not_at t.kind Identifier Eof h.word.kind refl
Matches-not_eof (At n) t other h = not_at t.kind Identifier Eof h.0 refl
Matches-not_eof (Ordinal n) t other h = h.0

after_one : (t : TokenView) (tokens : List TokenView) → t.kind ≢ Eof → EndsInEof (t ∷ tokens) → EndsInEof tokens
after_one t [] other h = absurd (other h)
after_one t (next ∷ rest) other h = h.1

pub StartsWith-ends : (tokens : List TokenView) (a : List Terminal) (rest : List TokenView) → AllByRecursion WantsNoEof a → StartsWith tokens a rest → EndsInEof tokens → EndsInEof rest
StartsWith-ends tokens [] rest all h ends = subst EndsInEof h ends
StartsWith-ends [] (w ∷ a) rest all h ends = absurd h
StartsWith-ends (t ∷ tokens) (w ∷ a) rest all h ends = grind (arith, StartsWith-ends tokens a rest all.1 h.1 (after_one t tokens (Matches-not_eof w t all.0 h.0) ends), after_one, Matches-not_eof)

pub EndsInEof-last : (t : TokenView) (rest : List TokenView) → t.kind ≡ Eof → EndsInEof (t ∷ rest) → rest ≡ []
EndsInEof-last t [] e h = refl
EndsInEof-last t (next ∷ rest) e h = absurd (h.0 e)

pub EndsInEof-some : (tokens : List TokenView) → EndsInEof tokens → (t : TokenView) × (rest : List TokenView) × (tokens ≡ t ∷ rest)
EndsInEof-some [] h = absurd h
EndsInEof-some (t ∷ rest) h = (t, rest, refl)

-- ---- what is in front

-- the first token, if there is one, is of none of these kinds
abbrev pub IsAfter : List TokenKind → List TokenView → Type 0
IsAfter kinds [] = Unit {0}
IsAfter kinds (t ∷ rest) = IsNoneOf t.kind kinds

-- of the kinds of two lists
pub IsNoneOf-append : (kind : TokenKind) (a b : List TokenKind) → IsNoneOf kind a → IsNoneOf kind b → IsNoneOf kind (a ++ b)
IsNoneOf-append kind [] b h k = k
IsNoneOf-append kind (x ∷ a) b h k = (h.0, IsNoneOf-append kind a b h.1 k)

pub IsAfter-append : (a b : List TokenKind) (tokens : List TokenView) → IsAfter a tokens → IsAfter b tokens → IsAfter (a ++ b) tokens
IsAfter-append a b [] h k = tt
IsAfter-append a b (t ∷ rest) h k = IsNoneOf-append t.kind a b h k

pub IsNoneOf-parts : (kind : TokenKind) (a b : List TokenKind) → IsNoneOf kind (a ++ b) → IsNoneOf kind a × IsNoneOf kind b
IsNoneOf-parts kind [] b h = (tt, h)
IsNoneOf-parts kind (x ∷ a) b h = let p = IsNoneOf-parts kind a b h.1 in ((h.0, p.0), p.1)

pub IsAfter-parts : (a b : List TokenKind) (tokens : List TokenView) → IsAfter (a ++ b) tokens → IsAfter a tokens × IsAfter b tokens
IsAfter-parts a b [] h = (tt, tt)
IsAfter-parts a b (t ∷ rest) h = IsNoneOf-parts t.kind a b h

-- the first token, if there is one, is refused for the cause, and the offset is its own
abbrev pub AtFront : (TokenView → Cause → Type 0) → List TokenView → Refusal → Type 0
AtFront Refused [] refusal = Unit {0}
AtFront Refused (t ∷ rest) refusal = Refused t refusal.cause × (refusal.at ≡ t.at)

-- the tokens begin with what is wanted, and then comes one that is refused
pub record CutAfter (tokens : List TokenView) (wanted : List Terminal) (Refused : TokenView → Cause → Type 0) (refusal : Refusal) : Type 0 where
  pub mid : List TokenView
  pub begins : StartsWith tokens wanted mid
  pub refused : AtFront Refused mid refusal

pub AtFront-weaker : (P Q : TokenView → Cause → Type 0) → ((t : TokenView) (cause : Cause) → P t cause → Q t cause) → (tokens : List TokenView) (refusal : Refusal) → AtFront P tokens refusal → AtFront Q tokens refusal
AtFront-weaker P Q f [] refusal h = tt
AtFront-weaker P Q f (t ∷ rest) refusal h = (f t refusal.cause h.0, h.1)
